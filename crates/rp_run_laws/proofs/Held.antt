-- The words of declarations and of programs have their names among those of a run, and keep them.
use Rattle.std.proofs.Common.{◌≡◌, refl, sym, ap, subst, ◌∙◌, true≢false, ℕ, ◌+◌, Bool, true, false, cond, not, ◌||◌}
use Rattle.std.proofs.Common.{if◌then◌else◌, List, [], ◌∷◌, ◌++◌, map, Result, Ok, Err, IfOk, length, Option, Some}
use Rattle.std.proofs.Common.{None}
use Rattle.std.specs.Prelude.{flat_map}
use Rattle.std.specs.List.{position_or_len}
use Rattle.std.proofs.lemmas.List.Folds.{list_any-append}
use Rattle.rp_base.specs.Names.{first_words, is_held, with_word, with_words}
use Rattle.rp_base.specs.Same.{same_text}
use Rattle.rp_base.specs.declared.value.Name.{Name}
use Rattle.rp_base.specs.declared.value.Oid.{Oid}
use Rattle.rp_base.specs.declared.value.Value.{Value}
use Rattle.rp_base.proofs.CallerLemmas.{same_text-refl}
use Rattle.rp_decl.specs.Consistency.{likes}
use Rattle.rp_decl.specs.DeclaredWords.{class_words, declared_words, object_words}
use Rattle.rp_decl.specs.Order.{least}
use Rattle.rp_decl.specs.Places.{GrowsTo}
use Rattle.rp_decl.specs.Records.{Class, Declarations, Object}
use Rattle.rp_decl.proofs.Growth.{GrowsTo-refl, GrowsTo-trans, GrowsTo-with_word}
use Rattle.rp_apart_laws.specs.Apart.{Each}
use Rattle.rp_keeper_laws.proofs.Everything.{each_more}
use Rattle.rp_keeper_laws.proofs.Trees.{each_left, each_right}
use Rattle.rp_layout_laws.specs.Layout.{AreHeld, Holds, declared_names}
use Rattle.rp_meaning.specs.BuiltIn.{name_of}
use Rattle.rp_meaning.specs.Frame.{Run as Frame}
use Rattle.rp_meaning.specs.Load.{declared_made, exposed_value, load, loaded, loaded_after, locals_of, module_state}
use Rattle.rp_meaning.specs.Load.{trusted, unbound}
use Rattle.rp_meaning.specs.Meaning.{block}
use Rattle.rp_meaning.specs.Running.{program_frame}
use Rattle.rp_meaning.specs.Sessions.{World}
use Rattle.rp_meaning.specs.State.{State, Outcome, Flow}
use Rattle.rp_ops.specs.Outcome.{End}
use Rattle.rp_program.specs.ProgramWords.{program_words}
use Rattle.rp_run.specs.Told.{module_bytes, module_names, names_behind}
use Rattle.rp_session_laws.specs.Setting.{setting_of}
use Rattle.rp_session_laws.proofs.Going.{begins}
use Rattle.rp_session_laws.proofs.Programs.{functions-keep}
use Rattle.rp_session_laws.proofs.Trees.{blocks-keep}

-- ---- words that are put among others

holds_word : (words : List (List ℕ)) (w : List ℕ) → Holds (with_word words w) w
holds_word words w = by (is_held words w) refl where
  last : (vs : List (List ℕ)) → is_held (vs ++ w ∷ []) w ≡ true
  last [] = ap (λ (b : Bool). b || false) (same_text-refl w)
  last (v ∷ vs) = or_last (same_text w v) (last vs) where
    or_last : (a : Bool) {b : Bool} → b ≡ true → (a || b) ≡ true
    or_last true e = refl
    or_last false e = e

  by : (b : Bool) → is_held words w ≡ b → is_held (if b then words else words ++ w ∷ []) w ≡ true
  by true e = e
  by false e = last words

holds_later : (words more : List (List ℕ)) (v : List ℕ) → Holds words v → Holds (words ++ more) v
holds_later words more v h = list_any-append (same_text v) words more ∙ ap (λ (b : Bool). b || is_held more v) h

grown_holds : (words later : List (List ℕ)) → GrowsTo words later → (v : List ℕ) → Holds words v → Holds later v
grown_holds words later grown v h =
    let (more, is) = grown in
    subst (λ (ws : List (List ℕ)). Holds ws v) (sym is) (holds_later words more v h)

pub grown_all : (words later : List (List ℕ)) → GrowsTo words later → (vs : List (List ℕ)) → AreHeld words vs
    → AreHeld later vs
grown_all words later grown vs h =
    each_more (Holds words) (Holds later) (λ v here. grown_holds words later grown v here) vs h

grows_with : (words more : List (List ℕ)) → GrowsTo words (with_words words more)
grows_with words [] = GrowsTo-refl words
grows_with words (w ∷ ws) =
    GrowsTo-trans words (with_word words w) (with_words (with_word words w) ws) (GrowsTo-with_word words w)
    (grows_with (with_word words w) ws)

all_with : (words more : List (List ℕ)) → AreHeld (with_words words more) more
all_with words [] = tt
all_with words (w ∷ ws) = (
  grown_holds (with_word words w) (with_words (with_word words w) ws) (grows_with (with_word words w) ws) w
      (holds_word words w),
  all_with (with_word words w) ws,
)

-- the words of programs
pub grows_behind : (names : List (List ℕ)) (programs : List (List ℕ)) → GrowsTo names (names_behind names programs)
grows_behind names [] = GrowsTo-refl names
grows_behind names (bytes ∷ programs) =
    let next = with_words names (program_words bytes) in
    GrowsTo-trans names next (names_behind next programs) (grows_with names (program_words bytes))
    (grows_behind next programs)

pub all_behind : (names : List (List ℕ)) (programs : List (List ℕ))
    → Each (λ (bytes : List ℕ). AreHeld (names_behind names programs) (program_words bytes)) programs
all_behind names [] = tt
all_behind names (bytes ∷ programs) =
    let next = with_words names (program_words bytes) in (
      grown_all next (names_behind next programs) (grows_behind next programs) (program_words bytes)
          (all_with names (program_words bytes)),
      all_behind next programs,
    )

-- ---- the words of declarations

classes_held : (names : List (List ℕ)) (cs : List Class) → AreHeld names (flat_map class_words cs)
    → AreHeld names (map (λ (c : Class). c.name) cs)
classes_held names [] h = tt
classes_held names (c ∷ cs) h =
    let own = each_left (Holds names) (class_words c) (flat_map class_words cs) h in
    let others = map (λ row. row.0) c.get ++ map (λ row. row.0) c.set ++ likes c in (
      (each_right (Holds names) others (c.name ∷ []) own).0,
      classes_held names cs (each_right (Holds names) (class_words c) (flat_map class_words cs) h),
    )

objects_held : (names : List (List ℕ)) (os : List Object) → AreHeld names (flat_map object_words os)
    → AreHeld names (map (λ (o : Object). o.name) os)
objects_held names [] h = tt
objects_held names (o ∷ os) h =
    let own = each_left (Holds names) (object_words o) (flat_map object_words os) h in
    let others = map (λ field. field.0) o.fields in (
      (each_right (Holds names) others (o.class ∷ o.name ∷ []) own).1.0,
      objects_held names os (each_right (Holds names) (object_words o) (flat_map object_words os) h),
    )

joined : (names xs ys : List (List ℕ)) → AreHeld names xs → AreHeld names ys → AreHeld names (xs ++ ys)
joined names [] ys h k = k
joined names (x ∷ xs) ys h k = (h.0, joined names xs ys h.1 k)

declared_held : (names : List (List ℕ)) (d : Declarations) → AreHeld names (declared_words d)
    → AreHeld names (declared_names d)
declared_held names d h =
    let classes = flat_map class_words d.classes in
    let objects = flat_map object_words d.objects in
    joined names (map (λ (c : Class). c.name) d.classes) (map (λ (o : Object). o.name) d.objects)
    (classes_held names d.classes
    (each_right (Holds names) d.expose classes (each_left (Holds names) (d.expose ++ classes) objects h)))
    (objects_held names d.objects (each_right (Holds names) (d.expose ++ classes) objects h))

-- the names that a module is run with have a place for each word of its text, and of its declarations

pub module_held : (d : Declarations) → AreHeld (module_names d) (program_words (module_bytes d))
module_held d = all_with (with_words first_words (declared_words d)) (program_words (module_bytes d))

pub module_declared : (d : Declarations) → AreHeld (module_names d) (declared_names d)
module_declared d =
    declared_held (module_names d) d
    (grown_all (with_words first_words (declared_words d)) (module_names d)
    (grows_with (with_words first_words (declared_words d)) (program_words (module_bytes d))) (declared_words d)
    (all_with first_words (declared_words d)))

-- ---- names that grow

place_later : (words more : List (List ℕ)) (v : List ℕ) → Holds words v
    → position_or_len (same_text v) (words ++ more) ≡ position_or_len (same_text v) words
place_later [] more v h = absurd (true≢false (sym h))
place_later (w ∷ ws) more v h = by (same_text v w) h (λ rest. place_later ws more v rest) where
  by : (b : Bool) → (b || is_held ws v) ≡ true
      → (Holds ws v → position_or_len (same_text v) (ws ++ more) ≡ position_or_len (same_text v) ws)
      → cond (not b) (1 + position_or_len (same_text v) (ws ++ more)) 0
      ≡ cond (not b) (1 + position_or_len (same_text v) ws) 0
  by true h further = refl
  by false h further = ap (λ (n : ℕ). 1 + n) (further h)

name_later : (names later : List (List ℕ)) → GrowsTo names later → (v : List ℕ) → Holds names v
    → name_of later v ≡ name_of names v
name_later names later grown v h =
    let (more, is) = grown in
    let same = place_later names more v h in
    ap (λ (ws : List (List ℕ)). name_of ws v) is ∙ (λ i. record { 0 = same i })

pub names_later : (names later : List (List ℕ)) → GrowsTo names later → (vs : List (List ℕ)) → AreHeld names vs
    → map (name_of later) vs ≡ map (name_of names) vs
names_later names later grown [] h = refl
names_later names later grown (v ∷ vs) h =
    let first = name_later names later grown v h.0 in
    let rest = names_later names later grown vs h.1 in
    λ i. first i ∷ rest i

-- ---- the world that is loaded

-- it has these declarations, and names that grew from these
abbrev pub Comes : List (List ℕ) → Declarations → World → Type 0
Comes names d w = (w.declarations ≡ d) × GrowsTo names w.names

loaded_comes : (names : List (List ℕ)) (d : Declarations) (limit : ℕ) (exposed : List (Option Value)) (s : State)
    → s.declarations ≡ d → GrowsTo names s.names → IfOk (loaded limit exposed s) (Comes names d)
loaded_comes names d limit exposed s is grown = by (least (unbound s.declarations.expose exposed)) refl where
  by : (o : Option (List ℕ)) → least (unbound s.declarations.expose exposed) ≡ o
      → IfOk (loaded limit exposed s) (Comes names d)
  by None none = rw none (is, grown)
  by (Some word) found = rw found tt

ran_comes : (names : List (List ℕ)) (d : Declarations) (locals : List Name) (limit : ℕ) (globals : Oid)
    (o : Outcome Flow) → o.state.declarations ≡ d → GrowsTo names o.state.names
    → IfOk (loaded_after locals limit globals o) (Comes names d)
ran_comes names d locals limit globals o is grown = by o.answer where
  by : (answer : Result Flow End)
      → IfOk (loaded_after locals limit globals (record { answer = answer; state = o.state })) (Comes names d)
  by (Err e) = tt
  by (Ok flow) =
      loaded_comes names d limit (map (exposed_value locals globals o.state) o.state.declarations.expose) o.state is
      grown

pub load_comes : (run : Frame) (names : List (List ℕ)) (d : Declarations) (limit : ℕ)
    → IfOk (load run names d limit) (Comes names d)
load_comes run names d limit =
    let all = declared_made names d in
    let globals : Oid = record { 0 = length all.1.heap } in
    let s : State = module_state names d (length (locals_of (run.programs trusted))) all in
    let o : Outcome Flow = block (run.programs trusted).body (program_frame run trusted globals) s in
    let kept = blocks-keep (run.programs trusted).body (setting_of s) (program_frame run trusted globals)
    (λ at a u h. functions-keep run (setting_of s) at a u h) s (begins s) in
    ran_comes names d (locals_of (run.programs trusted)) limit globals o kept.setting.declarations kept.setting.names
