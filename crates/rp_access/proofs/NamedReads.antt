-- `getattr` and `setattr`, from what is known of the name, and of the read or the store.
use Rattle.std.proofs.Common.{◌≡◌, Bool, true, false, List, [], ◌∷◌, length, ℕ, arith, Option, Some, None, Result, Ok, Err, codes, refl, sym, ap, subst, ◌∙◌, true≢false}
use Rattle.std.specs.Prelude.{IfOk}
use Rattle.rp_attributes.specs.Attributes as attributes
use Rattle.rp_base.specs.Kind.{is_under}
use Rattle.rp_base.specs.Names.{word_of}
use Rattle.rp_base.specs.declared.kind.Kind.TheVariants.{AttributeError, ForbiddenAttribute, TypeError}
use Rattle.rp_base.specs.declared.native.NativeId.{NativeId}
use Rattle.rp_base.specs.declared.native.NativeId.TheVariants as native
use Rattle.rp_base.specs.declared.value.Name.{Name}
use Rattle.rp_base.specs.declared.value.OpEnd.{OpEnd}
use Rattle.rp_base.specs.declared.value.Raised.{Raised}
use Rattle.rp_base.specs.declared.value.Rock.TheVariants as rock
use Rattle.rp_base.specs.declared.value.Side.{Side}
use Rattle.rp_base.specs.declared.value.Value.{Value}
use Rattle.rp_base.specs.declared.value.Value.TheVariants as value
use Rattle.rp_checker.specs.RowOf.{setting}
use Rattle.rp_meaning.specs.Access.{get_attribute, set_attribute}
use Rattle.rp_meaning.specs.Binding.{only}
use Rattle.rp_meaning.specs.BuiltIn.{defaulted, function, getattr, name_of, no_identifier, setattr, with_name, wrong_argument, wrong_arguments}
use Rattle.rp_meaning.specs.Calls as calls
use Rattle.rp_meaning.specs.Frame.{Frame}
use Rattle.rp_meaning.specs.State.{State, Outcome, Flow, choose, done, heap_of, monitor_of, plainly, plainly_done}
use Rattle.rp_meaning.proofs.Laws.{then_then}
use Rattle.rp_ops.specs.Outcome.{Raises, ends, gives, on_value, raised, raises}
use Rattle.rp_policy.specs.Forbidden.{is_forbidden_attribute}
use Rattle.rp_proxy.specs.Decide.{decide}
use Rattle.rp_proxy.specs.Taken.{taken}
use Rattle.rp_proxy.specs.declared.world.World.{World}
use Rattle.rp_store.specs.Heap.{Owned}
use Rattle.rp_store.specs.Kept.{IsFit, IsSound}
use Rattle.rp_access.specs.CallSteps.{is_form}
use Rattle.rp_access.specs.Calling.{CallComes}
use Rattle.rp_access.specs.Changes.{asking_to_set, attribute_set}
use Rattle.rp_access.specs.Comes.{Comes, IsEnd}
use Rattle.rp_access.specs.Moment.{decided_frame, state_of}
use Rattle.rp_access.specs.NamedAttributes.{FormComes, FormTaken, ReadComes, StoreComes, text_in, text_named, value_named, word_named}
use Rattle.rp_access.specs.Natives.{is_attribute_word, natives}
use Rattle.rp_access.specs.Reading.{attribute_asked, got_by}
use Rattle.rp_access.proofs.Going.{Comes-same, IsEnd-same, IsEnd-then, asked_then, decided_then, gives-then, raises_end}

abbrev pub nil : Value
nil = value.Rock rock.Nil

pub no_identifier_end : (e : OpEnd) (s : State) → Raises e (record { kind = AttributeError; text = codes "name" }) → IsEnd {A = Value} e s (no_identifier s)
no_identifier_end e s h = raises_end Value e (record { kind = AttributeError; text = codes "name" }) s h

module _ (code : Frame) where
  abbrev frame : Frame
  frame = decided_frame code

  -- once the name is known
  abbrev pub read_by : Option Value → Value → Option Name → State → Outcome Value
  read_by default o None s = defaulted default (no_identifier s)
  read_by default o (Some name) s = defaulted default (get_attribute o name frame s)

  abbrev pub store_by : Value → Value → Option Name → State → Outcome Value
  store_by o v None s = no_identifier s
  store_by o v (Some name) s = on_value (set_attribute o name v frame s) (λ _ s. gives nil s)

  -- a word that is a name or not, and is forbidden or not
  word_then : (b c : Bool) (word : List ℕ) (go : Option Name → State → Outcome Value) (s : State)
      → choose b (λ s. choose c (raises ForbiddenAttribute word) (λ s. go (Some (name_of s.names word)) s) (with_name word s)) (go None) s
      ≡ on_value (choose b (λ s. choose c (raises ForbiddenAttribute word) (λ s. gives (Some (name_of s.names word)) s) (with_name word s)) (gives None) s) go
  word_then true true word go s = refl
  word_then true false word go s = refl
  word_then false c word go s = refl

  getattr_is : (o word : Value) (default : Option Value) (s : State) → getattr o word default frame s ≡ on_value (value_named word s) (read_by default o)
  getattr_is o (value.Rock (rock.Text word)) default s = word_then (is_attribute_word word) (is_forbidden_attribute word) word (read_by default o) s
  getattr_is o (value.Rock rock.Nil) default s = refl
  getattr_is o (value.Rock (rock.Truth b)) default s = refl
  getattr_is o (value.Rock (rock.Int n)) default s = refl
  getattr_is o (value.Rock (rock.Exc k t)) default s = refl
  getattr_is o (value.Rock (rock.Kind k)) default s = refl
  getattr_is o (value.Rock (rock.Native f)) default s = refl
  getattr_is o (value.Ref at) default s = refl
  getattr_is o (value.Prox at) default s = refl

  setattr_is : (o word v : Value) (s : State) → setattr o word v frame s ≡ on_value (value_named word s) (store_by o v)
  setattr_is o (value.Rock (rock.Text word)) v s = word_then (is_attribute_word word) (is_forbidden_attribute word) word (store_by o v) s
  setattr_is o (value.Rock rock.Nil) v s = refl
  setattr_is o (value.Rock (rock.Truth b)) v s = refl
  setattr_is o (value.Rock (rock.Int n)) v s = refl
  setattr_is o (value.Rock (rock.Exc k t)) v s = refl
  setattr_is o (value.Rock (rock.Kind k)) v s = refl
  setattr_is o (value.Rock (rock.Native f)) v s = refl
  setattr_is o (value.Ref at) v s = refl
  setattr_is o (value.Prox at) v s = refl

  get_is : (o : Value) (n : Name) (s : State) → get_attribute o n frame s ≡ attribute_asked code.side o n s
  get_is o n s = asked_then code n o s (λ s. on_value (plainly (attributes.attribute code.side o n (word_of s.names n)) s) (got_by code.side o))

  set_is : (o : Value) (n : Name) (v : Value) (s : State) → set_attribute o n v frame s ≡ on_value (attribute_set o n v s) (λ _ s. done s)
  set_is o n v s =
      decided_then (decide o (setting (word_of s.names n)) (monitor_of s)) s (λ s. plainly_done (attributes.set_attribute o n (word_of s.names n) v) s)
      ∙ sym (then_then (asking_to_set n o s) (λ _ s. plainly (attributes.set_attribute o n (word_of s.names n) v) s) (λ _ s. done s))

  -- a function that stands for a form
  form_is : (id : NativeId) (vs : List Value) (s : State) → is_form id ≡ true
      → calls.call (value.Rock (rock.Native id)) (only vs) frame s ≡ on_value (function id vs frame s) (λ v s. gives (taken (heap_of s) code.side v) s)
  unfolding natives
  form_is native.GetAttr vs s form = refl
  form_is native.SetAttr vs s form = refl
  form_is id vs s form = absurd (true≢false (sym form))

module _ (side : Side) (o word : Value) (w t u : World) where
  -- there is no name
  pub read_ends : (default : Option Value) (e : OpEnd) → IsEnd e (state_of t) (value_named word (state_of w)) → ReadComes side o word default (Err e) w t
  read_ends default e is = λ code same.
      IsEnd-same e (state_of t) _ _ (getattr_is code o word default (state_of w)) (IsEnd-then e (state_of t) (value_named word (state_of w)) (read_by code default o) is)

  pub read_none : (e : OpEnd) → value_named word (state_of w) ≡ gives None (state_of t) → IsEnd {A = Value} e (state_of t) (no_identifier (state_of t))
      → ReadComes side o word None (Err e) w t
  read_none e none is = λ code same.
      IsEnd-same e (state_of t) _ _ (getattr_is code o word None (state_of w) ∙ gives-then None (state_of t) (value_named word (state_of w)) (read_by code None o) none) is

  pub default_none : (d v : Value) → value_named word (state_of w) ≡ gives None (state_of t) → v ≡ d → ReadComes side o word (Some d) (Ok v) w t
  default_none d v none same_value = λ code same.
      getattr_is code o word (Some d) (state_of w) ∙ gives-then None (state_of t) (value_named word (state_of w)) (read_by code (Some d) o) none
      ∙ ap (λ v. gives v (state_of t)) (sym same_value)

  module _ (name : Name) (named : value_named word (state_of w) ≡ gives (Some name) (state_of t)) where
    read_is : (code : Frame) (default : Option Value) → code.side ≡ side
        → getattr o word default (decided_frame code) (state_of w) ≡ defaulted default (attribute_asked side o name (state_of t))
    read_is code default same =
        getattr_is code o word default (state_of w) ∙ gives-then (Some name) (state_of t) (value_named word (state_of w)) (read_by code default o) named
        ∙ ap (defaulted default) (get_is code o name (state_of t) ∙ ap (λ side. attribute_asked side o name (state_of t)) same)

    -- what is read
    pub read_comes : (r : Result Value OpEnd) → Comes r (state_of u) (attribute_asked side o name (state_of t)) → ReadComes side o word None r w u
    read_comes r is = λ code same. Comes-same r (state_of u) _ _ (read_is code None same) is

    -- or the default
    pub default_comes : (d : Value) (r : Result Value OpEnd) → Comes r (state_of u) (defaulted (Some d) (attribute_asked side o name (state_of t)))
        → ReadComes side o word (Some d) r w u
    default_comes d r is = λ code same. Comes-same r (state_of u) _ _ (read_is code (Some d) same) is

module _ (o word v : Value) (w t u : World) where
  pub store_ends : (e : OpEnd) → IsEnd e (state_of t) (value_named word (state_of w)) → StoreComes o word v (Err e) w t
  store_ends e is = λ code.
      IsEnd-same e (state_of t) _ _ (setattr_is code o word v (state_of w)) (IsEnd-then e (state_of t) (value_named word (state_of w)) (store_by code o v) is)

  pub store_none : (e : OpEnd) → value_named word (state_of w) ≡ gives None (state_of t) → IsEnd {A = Value} e (state_of t) (no_identifier (state_of t))
      → StoreComes o word v (Err e) w t
  store_none e none is = λ code.
      IsEnd-same e (state_of t) _ _ (setattr_is code o word v (state_of w) ∙ gives-then None (state_of t) (value_named word (state_of w)) (store_by code o v) none) is

  module _ (name : Name) (named : value_named word (state_of w) ≡ gives (Some name) (state_of t)) where
    abbrev last : State → Outcome Value
    last s = gives nil s

    store_is : (code : Frame) → setattr o word v (decided_frame code) (state_of w) ≡ on_value (attribute_set o name v (state_of t)) (λ _ s. last s)
    store_is code =
        setattr_is code o word v (state_of w) ∙ gives-then (Some name) (state_of t) (value_named word (state_of w)) (store_by code o v) named
        ∙ ap (λ (p : Outcome Flow). on_value p (λ _ s. last s)) (set_is code o name v (state_of t))
        ∙ then_then (attribute_set o name v (state_of t)) (λ _ s. done s) (λ _ s. last s)

    pub set_gives : (x : Value) → x ≡ v → attribute_set o name x (state_of t) ≡ gives (tt {0}) (state_of u) → StoreComes o word v (Ok nil) w u
    set_gives x same is = λ code.
        store_is code
        ∙ gives-then (tt {0}) (state_of u) (attribute_set o name v (state_of t)) (λ _ s. last s) (ap (λ x. attribute_set o name x (state_of t)) (sym same) ∙ is)

    pub set_ends : (x : Value) → x ≡ v → (e : OpEnd) → IsEnd e (state_of u) (attribute_set o name x (state_of t)) → StoreComes o word v (Err e) w u
    set_ends x same e is = λ code.
        IsEnd-same e (state_of u) _ _ (store_is code ∙ ap (λ x. on_value (attribute_set o name x (state_of t)) (λ _ s. last s)) (sym same))
        (IsEnd-then e (state_of u) (attribute_set o name x (state_of t)) (λ _ s. last s) is)

-- a form's value, as it is taken

module _ (side : Side) (id form : NativeId) (one : id ≡ form) (vs : List Value) (w u : World) where
  pub taken_gives : (v x : Value) → FormComes side form vs (Ok v) w u → x ≡ taken u.store.heap side v → FormTaken side id vs (Ok x) w u
  taken_gives v x is same =
      subst (λ (id : NativeId). FormTaken side id vs (Ok x) w u) (sym one) (λ code sided.
      gives-then v (state_of u) (function form vs (decided_frame code) (state_of w)) (λ v s. gives (taken (heap_of s) side v) s) (is code sided)
      ∙ ap (λ x. gives x (state_of u)) (sym same))

  pub taken_ends : (e : OpEnd) → FormComes side form vs (Err e) w u → FormTaken side id vs (Err e) w u
  taken_ends e is =
      subst (λ (id : NativeId). FormTaken side id vs (Err e) w u) (sym one) (λ code sided.
      IsEnd-then e (state_of u) (function form vs (decided_frame code) (state_of w)) (λ v s. gives (taken (heap_of s) side v) s) (is code sided))

-- what code gets of a form

module _ (side : Side) (id : NativeId) (vs : List Value) (w u : World) (form : is_form id ≡ true) where
  pub form_gives : (v : Value) → FormTaken side id vs (Ok v) w u → CallComes side (value.Rock (rock.Native id)) vs (Ok (Some v)) w u
  form_gives v is = λ code same.
      form_is code id vs (state_of w) form
      ∙ ap (λ (side : Side). on_value (function id vs (decided_frame code) (state_of w)) (λ v s. gives (taken (heap_of s) side v) s)) same ∙ is code same

  pub form_ends : (e : OpEnd) → FormTaken side id vs (Err e) w u → CallComes side (value.Rock (rock.Native id)) vs (Err e) w u
  form_ends e is = λ code same.
      IsEnd-same e (state_of u) _ _ (form_is code id vs (state_of w) form
      ∙ ap (λ (side : Side). on_value (function id vs (decided_frame code) (state_of w)) (λ v s. gives (taken (heap_of s) side v) s)) same) (is code same)

-- another number of arguments

pub get_wrong : (vs : List Value) (f : Frame) (s : State) → (length vs ≡ 2 → ⊥) → (length vs ≡ 3 → ⊥) → function native.GetAttr vs f s ≡ wrong_arguments s
get_wrong [] f s two three = refl
get_wrong (a ∷ []) f s two three = refl
get_wrong (a ∷ b ∷ []) f s two three = absurd (two (omega arith))
get_wrong (a ∷ b ∷ c ∷ []) f s two three = absurd (three (omega arith))
get_wrong (a ∷ b ∷ c ∷ d ∷ es) f s two three = refl

pub set_wrong : (vs : List Value) (f : Frame) (s : State) → (length vs ≡ 3 → ⊥) → function native.SetAttr vs f s ≡ wrong_arguments s
set_wrong [] f s three = refl
set_wrong (a ∷ []) f s three = refl
set_wrong (a ∷ b ∷ []) f s three = refl
set_wrong (a ∷ b ∷ c ∷ []) f s three = absurd (three (omega arith))
set_wrong (a ∷ b ∷ c ∷ d ∷ es) f s three = refl

pub arguments_end : (e : OpEnd) (s : State) → Raises e (record { kind = TypeError; text = codes "arguments" }) → IsEnd {A = Value} e s (wrong_arguments s)
arguments_end e s h = raises_end Value e (record { kind = TypeError; text = codes "arguments" }) s h

pub argument_end : (e : OpEnd) (s : State) → Raises e (record { kind = TypeError; text = codes "argument" }) → IsEnd {A = Option Name} e s (wrong_argument s)
argument_end e s h = raises_end (Option Name) e (record { kind = TypeError; text = codes "argument" }) s h

-- the default, or what was raised

pub default_given : (r : Raised) (d v : Value) (s : State) → is_under r.kind AttributeError ≡ true → v ≡ d → defaulted (Some d) (ends (raised r) s) ≡ gives v s
default_given r d v s under is = ap (λ b. choose b (gives d) (ends (raised r)) s) under ∙ ap (λ v. gives v s) (sym is)

pub default_not : (r : Raised) (d : Value) (s : State) → is_under r.kind AttributeError ≡ false → defaulted (Some d) (ends (raised r) s) ≡ ends (raised r) s
default_not r d s not = ap (λ b. choose b (gives d) (ends (raised r)) s) not

pub same_sound : (heap : List Owned) (d : Value) (r : Result Value OpEnd) → IfOk r (λ v. v ≡ d) → IsSound heap d → IfOk r (IsSound heap)
same_sound heap d (Ok v) same sound = subst (IsSound heap) (sym same) sound
same_sound heap d (Err e) same sound = tt

pub fit_sound : (heap : List Owned) (side : Side) (r : Result Value OpEnd) → IfOk r (IsFit heap side) → IfOk r (IsSound heap)
fit_sound heap side (Ok v) fit = fit.0
fit_sound heap side (Err e) fit = tt

-- a text, or another value

pub text_some : (v : Value) (word : List ℕ) (r : Result (Option Name) OpEnd) (s t : State) → text_in v ≡ Some word → Comes r t (word_named word s) → Comes r t (value_named v s)
text_some v word r s t is comes = Comes-same r t _ _ (ap (λ o. text_named o s) is) comes

pub text_none : (v : Value) (e : OpEnd) (s : State) → text_in v ≡ None → IsEnd {A = Option Name} e s (wrong_argument s) → IsEnd e s (value_named v s)
text_none v e s is ends = IsEnd-same e s _ _ (ap (λ o. text_named o s) is) ends

-- the other form
pub set_attr_is : (id : NativeId) → is_form id ≡ true → (id ≡ native.GetAttr → ⊥) → id ≡ native.SetAttr
set_attr_is native.GetAttr form other = absurd (other refl)
set_attr_is native.SetAttr form other = refl
set_attr_is id form other = absurd (true≢false (sym form))
