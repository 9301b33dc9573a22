-- That objects fit the programs is kept, by the one induction over what code does.
use Rattle.std.proofs.Common.{false, ◌≡◌, ◌≤◌, refl, sym, ap, subst, ◌∙◌, inr, ℕ, zero, suc, ◌-◌, List, []}
use Rattle.std.proofs.Common.{length, replicate, slice_get, Option, Some, None, Ok, arith}
use Rattle.std.proofs.lemmas.List.{length-append, length-map}
use Rattle.std.specs.Option.{option_map}
use Rattle.rp_base.specs.declared.value.Name.{Name}
use Rattle.rp_base.specs.declared.value.Oid.{Oid}
use Rattle.rp_base.specs.declared.value.Side.{Side}
use Rattle.rp_base.specs.declared.value.Value.{Value}
use Rattle.rp_base.specs.declared.value.Value.TheVariants as value
use Rattle.rp_store.specs.declared.object.Callee.TheVariants as callee
use Rattle.rp_store.specs.Heap.{Owned, changed_at, content_at, method_at}
use Rattle.rp_store.specs.Object as object
use Rattle.rp_store.specs.Object.{Content}
use Rattle.rp_store.specs.Writers.{with_methods, with_slot}
use Rattle.rp_tree.specs.Expressions as tree
use Rattle.rp_decl.specs.Records.{Class}
use Rattle.rp_ops.specs.Outcome as plain_ops
use Rattle.rp_meaning.specs.Binding.{Arguments, bind}
use Rattle.rp_meaning.specs.Blocks.{Code, of_stmts}
use Rattle.rp_meaning.specs.Expressions.{empty_slots}
use Rattle.rp_meaning.specs.Frame.{Program, Run}
use Rattle.rp_meaning.specs.Meaning.{defaults, plain}
use Rattle.rp_meaning.specs.Running.{params_of, slots_for, slots_taken}
use Rattle.rp_meaning.specs.Scopes.{Slot, held}
use Rattle.rp_meaning.specs.Special.{special}
use Rattle.rp_meaning.specs.Classes.{declared_at}
use Rattle.rp_apart_laws.specs.Apart.{Each, OnSome, OnValue}
use Rattle.rp_fixed_laws.specs.Fixed.{IsQuietRun}
use Rattle.rp_keeper_laws.specs.Blocks.{CodeHas}
use Rattle.rp_keeper_laws.specs.Keepers.{Keeper, next_place, slot_in_frame, with_new}
use Rattle.rp_keeper_laws.proofs.Mildly.{begun, mildly}
use Rattle.rp_keeper_laws.proofs.Everything.{any_callee, any_some, any_value}
use Rattle.rp_fit_laws.specs.Fit.{AreDefaults, IsParent, IsScope, IsScopeOf}
use Rattle.rp_fit_laws.specs.Programs.{IsBlockOf, IsFunctionOf, IsLaidOut, around, count_of, defaults_of}
use Rattle.rp_fit_laws.specs.Programs.{plain_defaults}
use Rattle.rp_fit_laws.proofs.Binding.{bound_count}
use Rattle.rp_fit_laws.proofs.Keeping as keeping
use Rattle.rp_fit_laws.proofs.Keeping.{Grows, Kept, Suits, grows_not, grows_on, last_scope}
use Rattle.rp_fit_laws.proofs.Numbers.{around_none, code_has, found_has}

-- as many values as there are parameters with a default
pub defaults_count : (ps : tree.Plain) → length (plain ps) ≡ plain_defaults ps
defaults_count tree.no_plain = refl
defaults_count (tree.plain n tree.none ps) = defaults_count ps
defaults_count (tree.plain n (tree.some x) ps) = ap suc (defaults_count ps)

pub params_defaults : (ps : tree.Params) → length (defaults ps) ≡ defaults_of ps
params_defaults (tree.params ps l d) = defaults_count ps

pub length_replicate : {A : Type 0} (n : ℕ) (x : A) → length (replicate n x) ≡ n
length_replicate zero x = refl
length_replicate (suc n) x = ap suc (length_replicate n x)

module _ (programs : Side → Program) (sides : Side → Type 0)
    (laid : (side : Side) → sides side → IsLaidOut (programs side)) where
  -- a run of these programs, as far as these sides are concerned
  pub record Runs (run : Run) : Type 0 where
    pub quiet : IsQuietRun run
    pub same : (side : Side) → sides side → run.programs side ≡ programs side

  -- the scope in which a call of a function begins
  abbrev pub Enters : List Owned → Side → ℕ → Oid → Type 0
  Enters heap side number within = IsScopeOf heap side (around (programs side) number) within

  pub enters_later : (old new : List Owned) → Grows old new → (side : Side) (block : Option ℕ) (within : Oid)
      → IsScopeOf old side block within → IsScopeOf new side block within
  enters_later old new g side None within h = absurd h
  enters_later old new g side (Some block) within h = g within side block h

  pub found_code : (o : Option Code) (code : Code) (ds : List Value) → o ≡ Some code
      → length ds ≡ defaults_of (params_of code) → AreDefaults o ds
  found_code None code ds e l = absurd (cc)
  found_code (Some c) code ds e l = let same : c ≡ code = cc in l ∙ ap (λ (c : Code). defaults_of (params_of c))
      (sym same)

  pub found_scope : (heap : List Owned) (side : Side) (o : Option ℕ) (block : ℕ) (at : Oid) → o ≡ Some block
      → IsScope heap side block at → IsScopeOf heap side o at
  found_scope heap side None block at e h = absurd (cc)
  found_scope heap side (Some b) block at e h =
      let same : b ≡ block = cc in subst (λ (b : ℕ). IsScope heap side b at) (sym same) h

  -- a block that stands in another is not the program's own
  pub parent_found : (heap : List Owned) (side : Side) → sides side → (number : ℕ) (at : Oid)
      → IsScopeOf heap side (around (programs side) number) at → IsParent programs heap side number (Some at)
  parent_found heap side acts zero at h =
      absurd (subst (λ (o : Option ℕ). IsScopeOf heap side o at) (around_none (programs side) (laid side acts)) h)
  parent_found heap side acts (suc n) at h = h

  pub scope_kept : (heap : List Owned) (side : Side) → sides side → (number : ℕ) (at : Oid) (vs : List (Option Value))
      → Kept programs sides heap → IsScopeOf heap side (around (programs side) number) at
      → length vs ≡ length ((programs side).layouts.locals number)
      → Kept programs sides (with_new heap side (object.scope (Some number) (Some at) vs))
      × Grows heap (with_new heap side (object.scope (Some number) (Some at) vs))
      × IsScope (with_new heap side (object.scope (Some number) (Some at) vs)) side number (next_place heap)
  scope_kept heap side acts number at vs h p l =
      let these = keeping.appended programs sides heap side (object.scope (Some number) (Some at) vs)
      ((l, parent_found heap side acts number at p), acts) h in
      (these.0, these.1, last_scope heap side number (Some at) vs)

  -- the slots of a call are as many as local names
  pub slots_count : (heap : List Owned) (side : Side) (locals : List Name) (bound : List (Option Value)) (n : ℕ)
      → length bound ≡ n → n ≤ length locals → length (slots_for locals (slots_taken heap side bound)) ≡ length locals
  slots_count heap side locals bound n b l =
      let these : List (Option Value) = slots_taken heap side bound in
      let m : length these ≡ length bound = length-map bound _ in
      let a = length-append these (empty_slots (length locals - length these)) in
      let r = length_replicate {A = Option Value} (length locals - length these) None in
      omega (arith, m, a, r, b, l)

  -- the room that the function of a number has
  pub has_room : (side : Side) → sides side → (number : ℕ) (code : Code) → (programs side).code number ≡ Some code
      → count_of (params_of code) ≤ length ((programs side).layouts.locals number)
  has_room side acts number code e =
      found_has (λ (e : ℕ × Code). count_of (params_of e.1) ≤ length ((programs side).layouts.locals e.0))
      (of_stmts (programs side).body) number code (laid side acts).room (sym ((laid side acts).code number) ∙ e)

  pub suits_of : (heap : List Owned) (at : Oid) (content : Content) → Kept programs sides heap
      → content_at heap at ≡ Some content → (owner : Side) × Suits programs sides heap owner content
  suits_of heap at content h e = by (slice_get heap at.0) (keeping.suits_at programs sides heap at h) e where
    by : (o : Option Owned) → OnSome (λ (o : Owned). Suits programs sides heap o.owner o.content) o
        → option_map (λ (o : Owned). o.content) o ≡ Some content
        → (owner : Side) × Suits programs sides heap owner content
    by None p e = absurd (cc)
    by (Some o) p e =
        let same : o.content ≡ content = cc in
        (o.owner, subst (λ (c : Content). Suits programs sides heap o.owner c) same p)

  pub entering : (classes : List Class) (heap : List Owned) (at : Oid) (name : Option Name) (side : Side) (number : ℕ)
      (within : Oid) (ds : List Value) → Kept programs sides heap → Unit {0}
      → content_at heap at ≡ Some (object.function name side number within ds)
      → sides side × Enters heap side number within
  entering classes heap at name side number within ds h u e =
      let these = suits_of heap at (object.function name side number within ds) h e in (
        subst sides (sym these.1.0.0) these.1.1,
        subst (λ (owner : Side). IsScopeOf heap owner (around (programs owner) number) within) (sym these.1.0.0)
            these.1.0.2,
      )

  pub code_known : (run : Run) → Runs run → (side : Side) → sides side → (number : ℕ) (code : Code)
      → (run.programs side).code number ≡ Some code
      → CodeHas (IsFunctionOf (programs side)) (IsBlockOf (programs side)) number code
  code_known run runs side acts number code e =
      code_has (programs side) (laid side acts) number code
      (sym (ap (λ (p : Program). p.code number) (runs.same side acts)) ∙ e)

  pub slot_kept : (classes : List Class) (heap : List Owned) (v : Option Value) → Kept programs sides heap
      → (slot : Option Slot)
      → OnSome (λ (slot : Slot). Kept programs sides (changed_at heap slot.scope (with_slot slot.index v))
      × Grows heap (changed_at heap slot.scope (with_slot slot.index v))) slot
  slot_kept classes heap v h None = tt
  slot_kept classes heap v h (Some slot) =
      keeping.changed programs sides heap slot.scope (with_slot slot.index v)
      (keeping.slot_block programs sides slot.index v) (keeping.slot_suits programs sides heap slot.index v) h

  pub entering_made : (run : Run) → Runs run → (classes : List Class) (heap : List Owned) (side : Side) (number : ℕ)
      (within : Oid) (code : Code) (names : List (List ℕ)) (ds : List Value) (a : Arguments) (s : plain_ops.State)
      (bound vs : List (Option Value)) → Kept programs sides heap → sides side → Enters heap side number within
      → (run.programs side).code number ≡ Some code → (bind side names (params_of code) ds a s).answer ≡ Ok bound
      → vs ≡ slots_for ((run.programs side).layouts.locals number) (slots_taken heap side bound)
      → Each (OnSome (λ v. Unit {0})) vs
      → Kept programs sides (with_new heap side (object.scope (Some number) (Some within) vs))
      × Grows heap (with_new heap side (object.scope (Some number) (Some within) vs))
      × IsScope (with_new heap side (object.scope (Some number) (Some within) vs)) side number (next_place heap)
  entering_made run runs classes heap side number within code names ds a s bound vs h acts p e given these q =
      scope_kept heap side acts number within vs h p
      (ap length these
      ∙ ap (λ (p : Program). length (slots_for (p.layouts.locals number) (slots_taken heap side bound)))
      (runs.same side acts)
      ∙ slots_count heap side ((programs side).layouts.locals number) bound (count_of (params_of code))
      (subst (OnValue (λ (vs : List (Option Value)). length vs ≡ count_of (params_of code))) given
      (bound_count side names (params_of code) ds a s))
      (has_room side acts number code (sym (ap (λ (p : Program). p.code number) (runs.same side acts)) ∙ e)))

  abbrev pub fit_keeper : Keeper
  fit_keeper = record {
    Kept = λ classes heap. Kept programs sides heap;
    Grows = Grows;
    Runs = Runs;
    Acts = sides;
    Scope = λ heap side block at. IsScope heap side block at;
    Held = λ heap side v. Unit {0};
    Own = λ heap side at. Unit {0};
    Usable = λ at. Unit {0};
    Function = λ side e. IsFunctionOf (programs side) e;
    Block = λ side b. IsBlockOf (programs side) b;
    Enters = Enters;
    operations = mildly;
    grows_not = grows_not;
    grows_on = grows_on;
    scope_later = λ old new g side block at h. g at side block h;
    held_later = λ old new g side v h. tt;
    own_later = λ old new g side at h. tt;
    quiet = λ run runs. runs.quiet;
    held_rock = λ heap side r. tt;
    held_own = λ heap side at h. tt;
    held_taken = λ classes heap side v acts h. tt;
    asked = λ run runs heap side v op m h goes. any_value v;
    lengths = λ run runs. inr any_value;
    plain_usable = λ heap at h. tt;
    plain_begun = λ classes heap h. begun heap;
    plain_kept = λ classes old new h m. keeping.mildly_kept programs sides old new m h;
    special_usable = λ classes heap v n h b. any_some (special heap v n);
    method_usable = λ classes heap of n h u. any_some (method_at heap of n);
    bound_usable = λ classes heap at v c h u e. (any_value v, any_callee c);
    enters = entering;
    enters_later = λ old new g side number within h.
        enters_later old new g side (around (programs side) number) within h;
    code = code_known;
    own_next = λ classes heap side content h. tt;
    usable_next = λ classes heap h. tt;
    instance_made = λ classes heap of owner h u e.
        keeping.appended programs sides heap owner (object.instance of []) (tt, tt) h;
    method_made = λ classes s at owner content n word called h u e i m.
        keeping.appended programs sides s.store.heap owner (object.method (value.Ref at) called) (tt, tt) h;
    text_method_made = λ classes heap side r id h.
        keeping.appended programs sides heap side (object.method (value.Rock r) (callee.Native id)) (tt, tt) h;
    class_made = λ classes heap n side ms h acts p.
        keeping.appended programs sides heap side (object.class n false ms) (tt, tt) h;
    function_made = λ run runs classes heap n side number block scope code vs h acts inside known around l.
        keeping.appended programs sides heap side (object.function n side number scope vs) (
          (
            refl,
            found_code ((programs side).code number) code vs known (l ∙ params_defaults (params_of code)),
            found_scope heap side _ block scope around inside,
          ),
          acts,
        ) h;
    scope_made = λ run runs classes heap side number block around vs h acts inside known e.
        scope_kept heap side acts number around vs h (found_scope heap side _ block around known inside)
        (ap length e ∙ length_replicate (length ((run.programs side).layouts.locals number)) None
        ∙ ap (λ (p : Program). length (p.layouts.locals number)) (runs.same side acts));
    entered = entering_made;
    slot_held = λ f runs acts classes heap h inside n. any_some (held heap (slot_in_frame f heap n));
    slot_set = λ f runs acts classes heap h inside n v p. slot_kept classes heap v h (slot_in_frame f heap n);
    declared_own = λ f acts classes heap word h. any_some (declared_at f heap word classes);
    methods_set = λ classes heap side at ms h acts own p.
        keeping.changed programs sides heap at (with_methods ms) (keeping.methods_block programs sides ms)
        (keeping.methods_suit programs sides heap ms) h;
  }
