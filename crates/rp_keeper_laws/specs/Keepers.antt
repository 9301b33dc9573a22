-- What code keeps of objects, whatever that is: a law that some things stay so while code runs is a record of this form,
-- which says how the single steps keep them. That all code does then is one induction over trees.
use Rattle.std.specs.Prelude.{◌≡◌, ◌⊎◌, false, ℕ, List, [], ◌∷◌, ◌++◌, length, Option, Some, Ok, Err}
use Rattle.rp_base.specs.declared.native.NativeId.{NativeId}
use Rattle.rp_base.specs.declared.native.NativeId.TheVariants as native
use Rattle.rp_base.specs.declared.value.Name.{Name}
use Rattle.rp_base.specs.declared.value.Oid.{Oid}
use Rattle.rp_base.specs.declared.value.Rock.{Rock}
use Rattle.rp_base.specs.declared.value.Side.{Side}
use Rattle.rp_base.specs.declared.value.Value.{Value}
use Rattle.rp_base.specs.declared.value.Value.TheVariants as value
use Rattle.rp_base.specs.declared.word.TheConstants.{LEN}
use Rattle.rp_attributes.specs.Attributes.{method_of}
use Rattle.rp_checker.specs.RowOf.{Operation}
use Rattle.rp_decl.specs.Records.{Class}
use Rattle.rp_ops.specs.Outcome as plain
use Rattle.rp_proxy.specs.Decide.{Decision, Monitor}
use Rattle.rp_proxy.specs.Taken.{taken}
use Rattle.rp_store.specs.declared.object.Callee.{Callee}
use Rattle.rp_store.specs.declared.object.Callee.TheVariants as callee
use Rattle.rp_store.specs.Heap.{Owned, changed_at, content_at, method_at, owner_at}
use Rattle.rp_store.specs.Object as object
use Rattle.rp_store.specs.Object.{Content}
use Rattle.rp_store.specs.Writers.{with_methods, with_slot}
use Rattle.rp_meaning.specs.Binding.{Arguments, bind}
use Rattle.rp_meaning.specs.Blocks.{Code}
use Rattle.rp_meaning.specs.Classes.{declared_at}
use Rattle.rp_meaning.specs.Expressions.{empty_slots}
use Rattle.rp_meaning.specs.Frame.{Frame, Run, layouts_of, place_of}
use Rattle.rp_meaning.specs.Meaning.{defaults}
use Rattle.rp_meaning.specs.Running.{params_of, slots_for, slots_taken}
use Rattle.rp_meaning.specs.Scopes.{Slot, held, slot_at}
use Rattle.rp_meaning.specs.Special.{Special, special}
use Rattle.rp_apart_laws.specs.Apart.{Each, OnSome}
use Rattle.rp_fixed_laws.specs.Fixed.{IsQuietRun}
use Rattle.rp_keeper_laws.specs.Blocks.{Around, CodeHas}
use Rattle.rp_keeper_laws.specs.PlainKeepers.{PlainKeeper}

-- the operation is done
abbrev pub Goes : Decision → Type 0
Goes (Ok nothing) = Unit {0}
Goes (Err e) = ⊥

-- a value that refers, also through a proxy, to such an object or to none
abbrev pub Refers : (Oid → Type 0) → Value → Type 0
Refers usable (value.Rock r) = Unit {0}
Refers usable (value.Ref at) = usable at
Refers usable (value.Prox at) = usable at

abbrev pub CalleeRefers : (Oid → Type 0) → Callee → Type 0
CalleeRefers usable (callee.Function at) = usable at
CalleeRefers usable (callee.Native id) = Unit {0}

-- the objects with one more, and its place
abbrev pub with_new : List Owned → Side → Content → List Owned
with_new heap side content = heap ++ record { owner = side; content = content } ∷ []

abbrev pub next_place : List Owned → Oid
next_place heap = record { 0 = length heap }

-- the slot of a name in a frame
abbrev pub slot_in_frame : Frame → List Owned → Name → Option Slot
slot_in_frame f heap n = slot_at (layouts_of f) heap f.scope (place_of f n) n

pub record Keeper : Type 1 where
  -- ---- what is kept

  -- of the objects, where these are the declared classes; and how objects go on
  pub Kept : List Class → List Owned → Type 0
  pub Grows : List Owned → List Owned → Type 0
  -- in which runs, of the code of which sides
  pub Runs : Run → Type 0
  pub Acts : Side → Type 0
  -- a scope in which code of a block of a side may run, a value as such code holds it, and an object as that code makes it
  pub Scope : List Owned → Side → ℕ → Oid → Type 0
  pub Held : List Owned → Side → Value → Type 0
  pub Own : List Owned → Side → Oid → Type 0
  -- an object that may be changed in what it holds, and called
  pub Usable : Oid → Type 0
  -- a function of a side's program, a block of it, and a scope in which calls of the function of a number begin
  pub Function : Side → ℕ × Code → Type 0
  pub Block : Side → Around → Type 0
  pub Enters : List Owned → Side → ℕ → Oid → Type 0
  -- what plain operations keep
  pub operations : List Owned → PlainKeeper
  -- ---- as objects go on

  pub grows_not : (heap : List Owned) → Grows heap heap
  pub grows_on : (a b c : List Owned) → Grows a b → Grows b c → Grows a c
  pub scope_later : (old new : List Owned) → Grows old new → (side : Side) (block : ℕ) (at : Oid)
      → Scope old side block at → Scope new side block at
  pub held_later : (old new : List Owned) → Grows old new → (side : Side) (v : Value) → Held old side v
      → Held new side v
  pub own_later : (old new : List Owned) → Grows old new → (side : Side) (at : Oid) → Own old side at
      → Own new side at
  -- ---- runs and values

  pub quiet : (run : Run) → Runs run → IsQuietRun run
  pub held_rock : (heap : List Owned) (side : Side) (r : Rock) → Held heap side (value.Rock r)
  pub held_own : (heap : List Owned) (side : Side) (at : Oid) → Own heap side at → Held heap side (value.Ref at)
  pub held_taken : (classes : List Class) (heap : List Owned) (side : Side) (v : Value) → Acts side
      → Kept classes heap → Held heap side (taken heap side v)
  -- an operation that is done is done on what may be used; `len` of a value is decided as the reading of `__len__`,
  -- unless everything may be used
  pub asked : (run : Run) → Runs run → (heap : List Owned) (side : Side) (v : Value) (op : Operation) (m : Monitor)
      → Held heap side v → Goes (run.decide v op m).0 → Refers Usable v
  pub lengths : (run : Run) → Runs run
      → (run.natives.needs native.Len 0 1 ≡ Some LEN) ⊎ ((v : Value) → Refers Usable v)
  -- ---- plain operations

  pub plain_usable : (heap : List Owned) (at : Oid) → Usable at → (operations heap).Usable at
  pub plain_begun : (classes : List Class) (heap : List Owned) → Kept classes heap → (operations heap).Kept heap
  pub plain_kept : (classes : List Class) (old new : List Owned) → Kept classes old → (operations old).Kept new
      → Kept classes new × Grows old new
  -- ---- what is called

  pub special_usable : (classes : List Class) (heap : List Owned) (v : Value) (n : Name) → Kept classes heap
      → Refers Usable v → OnSome (λ (m : Special). Usable m.function) (special heap v n)
  pub method_usable : (classes : List Class) (heap : List Owned) (of : Oid) (n : Name) → Kept classes heap
      → Usable of → OnSome Usable (method_at heap of n)
  pub bound_usable : (classes : List Class) (heap : List Owned) (at : Oid) (v : Value) (c : Callee)
      → Kept classes heap → Usable at → content_at heap at ≡ Some (object.method v c)
      → Refers Usable v × CalleeRefers Usable c
  pub enters : (classes : List Class) (heap : List Owned) (at : Oid) (name : Option Name) (side : Side) (number : ℕ)
      (within : Oid) (ds : List Value) → Kept classes heap → Usable at
      → content_at heap at ≡ Some (object.function name side number within ds)
      → Acts side × Enters heap side number within
  pub enters_later : (old new : List Owned) → Grows old new → (side : Side) (number : ℕ) (within : Oid)
      → Enters old side number within → Enters new side number within
  pub code : (run : Run) → Runs run → (side : Side) → Acts side → (number : ℕ) (code : Code)
      → (run.programs side).code number ≡ Some code → CodeHas (Function side) (Block side) number code
  -- ---- objects that are made

  pub own_next : (classes : List Class) (heap : List Owned) (side : Side) (content : Content) → Kept classes heap
      → Own (with_new heap side content) side (next_place heap)
  pub usable_next : (classes : List Class) (heap : List Owned) → Kept classes heap → Usable (next_place heap)
  pub instance_made : (classes : List Class) (heap : List Owned) (of : Oid) (owner : Side) → Kept classes heap
      → Usable of → owner_at heap of ≡ Some owner
      → Kept classes (with_new heap owner (object.instance of []))
      × Grows heap (with_new heap owner (object.instance of []))
  -- a method that is bound to an object, and one that is bound to a text
  pub method_made : (classes : List Class) (s : plain.State) (at : Oid) (owner : Side) (content : Content) (n : Name)
      (word : List ℕ) (called : Callee) → Kept classes s.store.heap → Usable at → owner_at s.store.heap at ≡ Some owner
      → content_at s.store.heap at ≡ Some content → method_of content n word s ≡ Some called
      → Kept classes (with_new s.store.heap owner (object.method (value.Ref at) called))
      × Grows s.store.heap (with_new s.store.heap owner (object.method (value.Ref at) called))
  pub text_method_made : (classes : List Class) (heap : List Owned) (side : Side) (r : Rock) (id : NativeId)
      → Kept classes heap
      → Kept classes (with_new heap side (object.method (value.Rock r) (callee.Native id)))
      × Grows heap (with_new heap side (object.method (value.Rock r) (callee.Native id)))
  pub class_made : (classes : List Class) (heap : List Owned) (n : Name) (side : Side) (ms : List (Name × Oid))
      → Kept classes heap → Acts side → Each (λ (m : Name × Oid). Own heap side m.1) ms
      → Kept classes (with_new heap side (object.class n false ms))
      × Grows heap (with_new heap side (object.class n false ms))
  pub function_made : (run : Run) → Runs run
      → (classes : List Class) (heap : List Owned) (n : Option Name) (side : Side)
      (number block : ℕ) (scope : Oid) (code : Code) (vs : List Value) → Kept classes heap → Acts side
      → Scope heap side block scope → Function side (number, code) → Block side (number, block)
      → length vs ≡ length (defaults (params_of code))
      → Kept classes (with_new heap side (object.function n side number scope vs))
      × Grows heap (with_new heap side (object.function n side number scope vs))
  -- the scope of a comprehension, and that of a call
  pub scope_made : (run : Run) → Runs run → (classes : List Class) (heap : List Owned) (side : Side)
      (number block : ℕ) (around : Oid) (vs : List (Option Value)) → Kept classes heap → Acts side
      → Scope heap side block around → Block side (number, block)
      → vs ≡ empty_slots (length ((run.programs side).layouts.locals number))
      → Kept classes (with_new heap side (object.scope (Some number) (Some around) vs))
      × Grows heap (with_new heap side (object.scope (Some number) (Some around) vs))
      × Scope (with_new heap side (object.scope (Some number) (Some around) vs)) side number (next_place heap)
  pub entered : (run : Run) → Runs run → (classes : List Class) (heap : List Owned) (side : Side) (number : ℕ)
      (within : Oid) (code : Code) (names : List (List ℕ)) (ds : List Value) (a : Arguments) (s : plain.State)
      (bound vs : List (Option Value)) → Kept classes heap → Acts side → Enters heap side number within
      → (run.programs side).code number ≡ Some code → (bind side names (params_of code) ds a s).answer ≡ Ok bound
      → vs ≡ slots_for ((run.programs side).layouts.locals number) (slots_taken heap side bound)
      → Each (OnSome (Held heap side)) vs
      → Kept classes (with_new heap side (object.scope (Some number) (Some within) vs))
      × Grows heap (with_new heap side (object.scope (Some number) (Some within) vs))
      × Scope (with_new heap side (object.scope (Some number) (Some within) vs)) side number (next_place heap)
  -- ---- objects that change

  pub slot_held : (f : Frame) → Runs f.run → Acts f.side → (classes : List Class) (heap : List Owned)
      → Kept classes heap → Scope heap f.side f.block f.scope → (n : Name)
      → OnSome (Held heap f.side) (held heap (slot_in_frame f heap n))
  pub slot_set : (f : Frame) → Runs f.run → Acts f.side → (classes : List Class) (heap : List Owned)
      → Kept classes heap → Scope heap f.side f.block f.scope → (n : Name) (v : Option Value)
      → OnSome (Held heap f.side) v
      → OnSome (λ (slot : Slot). Kept classes (changed_at heap slot.scope (with_slot slot.index v))
      × Grows heap (changed_at heap slot.scope (with_slot slot.index v))) (slot_in_frame f heap n)
  -- the methods of a declared class
  pub declared_own : (f : Frame) → Acts f.side → (classes : List Class) (heap : List Owned) (word : List ℕ)
      → Kept classes heap → OnSome (Own heap f.side) (declared_at f heap word classes)
  pub methods_set : (classes : List Class) (heap : List Owned) (side : Side) (at : Oid) (ms : List (Name × Oid))
      → Kept classes heap → Acts side → Own heap side at → Each (λ (m : Name × Oid). Own heap side m.1) ms
      → Kept classes (changed_at heap at (with_methods ms)) × Grows heap (changed_at heap at (with_methods ms))
