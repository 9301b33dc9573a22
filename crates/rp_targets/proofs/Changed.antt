-- Changes of attributes and items behind their decisions, and augmented assignment: what the code does is what the forms of rp_meaning do.
use Rattle.std.proofs.Common.{◌≡◌, List, [], ◌∷◌, Option, Some, None, refl, sym, ap, ◌∙◌}
use Rattle.rp_attributes.specs.Attributes as attributes
use Rattle.rp_base.specs.Names.{word_of}
use Rattle.rp_base.specs.declared.operator.BinOp.{BinOp}
use Rattle.rp_base.specs.declared.value.Name.{Name}
use Rattle.rp_base.specs.declared.value.OpEnd.{OpEnd}
use Rattle.rp_base.specs.declared.value.Value.{Value}
use Rattle.rp_base.specs.declared.word.TheConstants.{DEL_ITEM, SET_ITEM}
use Rattle.rp_checker.specs.RowOf.{setting}
use Rattle.rp_frame.specs.declared.activation.Activation.{Activation}
use Rattle.rp_items.specs.Items as items
use Rattle.rp_meaning.specs.Access as access
use Rattle.rp_meaning.specs.Binding.{only}
use Rattle.rp_meaning.specs.Frame.{Doing, Frame, Run, asked_for, asked_to_set}
use Rattle.rp_meaning.specs.Operators.{augment, augmented_name, in_place_name}
use Rattle.rp_meaning.specs.Special.{Special, on_special, special}
use Rattle.rp_meaning.specs.State.{State, Outcome, Flow, done, heap_of, monitor_of, plainly, plainly_done}
use Rattle.rp_meaning.proofs.Laws.{then_then}
use Rattle.rp_ops.specs.Inplace.{inplace}
use Rattle.rp_ops.specs.Outcome.{gives, on_value}
use Rattle.rp_proxy.specs.Decide.{decide}
use Rattle.rp_proxy.specs.Taken.{taken}
use Rattle.rp_proxy.specs.declared.world.World.{World}
use Rattle.rp_access.specs.Changes.{asking_to_set, attribute_deleted, attribute_set, augmented, changed_by, item_deleted, item_set}
use Rattle.rp_access.specs.Comes.{IsEnd}
use Rattle.rp_engine.specs.Law.{frame_in}
use Rattle.rp_engine.specs.Moment.{frame_of, run_of}
use Rattle.rp_access.specs.Moment.{state_of}
use Rattle.rp_access.specs.Parts.{asking}
use Rattle.rp_engine.specs.declared.machine.Machine.{Machine}
use Rattle.rp_engine.specs.declared.units.Units.{Units}
use Rattle.rp_access.proofs.Going.{IsEnd-same, IsEnd-then, decided_then, gives-then, on_same}
use Rattle.rp_engine.proofs.Going.{asked_then}

-- a change, as a statement

abbrev pub as_done : Outcome (Unit {0}) → Outcome Flow
as_done o = on_value o (λ _ s. done s)

module _ (o : Value) (name : Name) (call : Special → State → Outcome (Unit {0})) (form : Special → State → Outcome Flow) (operation : State → Outcome (Unit {0}))
    (same : (m : Special) (s : State) → form m s ≡ as_done (call m s)) where
  by_method : (m : Option Special) (s : State) → on_special m form (λ s. as_done (operation s)) s ≡ as_done (on_special m call operation s)
  by_method (Some m) s = same m s
  by_method None s = refl

  pub changed_is : (s : State) → on_value (asking name o s) (λ _ s. on_special (special (heap_of s) o name) form (λ s. as_done (operation s)) s) ≡ as_done (changed_by call name o operation s)
  changed_is s =
      on_same (asking name o s) (λ _ s. on_special (special (heap_of s) o name) form (λ s. as_done (operation s)) s)
      (λ _ s. as_done (on_special (special (heap_of s) o name) call operation s)) (λ u t. by_method (special (heap_of t) o name) t)
      ∙ sym (then_then (asking name o s) (λ _ s. on_special (special (heap_of s) o name) call operation s) (λ _ s. done s))

module _ (base : Run) (units : Units) (at : Activation) where
  abbrev frame : Frame
  frame = frame_of (run_of base units) at

  set_then : {A : Type 0} (name : Name) (v : Value) (s : State) (go : State → Outcome A) → asked_to_set frame name v s go ≡ on_value (asking_to_set name v s) (λ _ s. go s)
  set_then name v s go = decided_then (decide v (setting (word_of s.names name)) (monitor_of s)) s go

  attribute_set_is : (o : Value) (n : Name) (v : Value) (s : State) → access.set_attribute o n v frame s ≡ on_value (attribute_set o n v s) (λ _ s. done s)
  attribute_set_is o n v s =
      set_then n o s (λ s. plainly_done (attributes.set_attribute o n (word_of s.names n) v) s)
      ∙ sym (then_then (asking_to_set n o s) (λ _ s. plainly (attributes.set_attribute o n (word_of s.names n) v) s) (λ _ s. done s))

  attribute_deleted_is : (o : Value) (n : Name) (s : State) → access.del_attribute o n frame s ≡ on_value (attribute_deleted o n s) (λ _ s. done s)
  attribute_deleted_is o n s =
      set_then n o s (λ s. plainly_done (attributes.del_attribute o n (word_of s.names n)) s)
      ∙ sym (then_then (asking_to_set n o s) (λ _ s. plainly (attributes.del_attribute o n (word_of s.names n)) s) (λ _ s. done s))

  -- a special method that is called for what it does

  abbrev pub does_it : List Value → Special → State → Outcome (Unit {0})
  does_it vs m s = on_value (frame.calls m.function (only (m.of ∷ vs)) s) (λ _ s. gives (tt {0}) s)

  abbrev called_for : List Value → Special → State → Outcome Flow
  called_for vs m s = access.called (frame.calls m.function (only (m.of ∷ vs)) s)

  called_same : (vs : List Value) (m : Special) (s : State) → called_for vs m s ≡ as_done (does_it vs m s)
  called_same vs m s = sym (then_then (frame.calls m.function (only (m.of ∷ vs)) s) (λ _ s. gives (tt {0}) s) (λ _ s. done s))

  item_set_is : (o i v : Value) (s : State) → access.set_item o i v frame s ≡ as_done (item_set (does_it (i ∷ v ∷ [])) o i v s)
  item_set_is o i v s =
      asked_then base units at SET_ITEM o s (λ s. on_special (special (heap_of s) o SET_ITEM) (called_for (i ∷ v ∷ [])) (plainly_done (items.set_item o i v)) s)
      ∙ changed_is o SET_ITEM (does_it (i ∷ v ∷ [])) (called_for (i ∷ v ∷ [])) (plainly (items.set_item o i v)) (called_same (i ∷ v ∷ [])) s

  item_deleted_is : (o i : Value) (s : State) → access.del_item o i frame s ≡ as_done (item_deleted (does_it (i ∷ [])) o i s)
  item_deleted_is o i s =
      asked_then base units at DEL_ITEM o s (λ s. on_special (special (heap_of s) o DEL_ITEM) (called_for (i ∷ [])) (plainly_done (items.del_item o i)) s)
      ∙ changed_is o DEL_ITEM (does_it (i ∷ [])) (called_for (i ∷ [])) (plainly (items.del_item o i)) (called_same (i ∷ [])) s

  augment_is : (op : BinOp) (a b : Value) (s : State) → augment op a b frame s ≡ augmented at.side op a b s
  augment_is op a b s =
      asked_then base units at (in_place_name op) a s (λ s. asked_for frame (augmented_name (heap_of s) op a) b s last)
      ∙ on_same (asking (in_place_name op) a s) _ _ (λ u t. asked_then base units at (augmented_name (heap_of t) op a) b t last) where
        last : State → Outcome Value
        last s = on_value (plainly (inplace at.side op a b) s) (λ v s. gives (taken (heap_of s) at.side v) s)

-- what a machine does

module _ (m : Machine) (w u : World) where
  pub attribute_set_gives : (o : Value) (n : Name) (v : Value) → attribute_set o n v (state_of w) ≡ gives (tt {0}) (state_of u) → (base : Run)
      → access.set_attribute o n v (frame_in base m) (state_of w) ≡ done (state_of u)
  attribute_set_gives o n v is base = attribute_set_is base m.units.now m.frame o n v (state_of w) ∙ gives-then (tt {0}) (state_of u) _ (λ _ s. done s) is

  pub attribute_set_ends : (o : Value) (n : Name) (v : Value) (e : OpEnd) → IsEnd e (state_of u) (attribute_set o n v (state_of w)) → (base : Run)
      → IsEnd e (state_of u) (access.set_attribute o n v (frame_in base m) (state_of w))
  attribute_set_ends o n v e is base =
      IsEnd-same e (state_of u) _ _ (attribute_set_is base m.units.now m.frame o n v (state_of w)) (IsEnd-then e (state_of u) _ (λ _ s. done s) is)

  pub attribute_deleted_gives : (o : Value) (n : Name) → attribute_deleted o n (state_of w) ≡ gives (tt {0}) (state_of u) → (base : Run)
      → access.del_attribute o n (frame_in base m) (state_of w) ≡ done (state_of u)
  attribute_deleted_gives o n is base = attribute_deleted_is base m.units.now m.frame o n (state_of w) ∙ gives-then (tt {0}) (state_of u) _ (λ _ s. done s) is

  pub attribute_deleted_ends : (o : Value) (n : Name) (e : OpEnd) → IsEnd e (state_of u) (attribute_deleted o n (state_of w)) → (base : Run)
      → IsEnd e (state_of u) (access.del_attribute o n (frame_in base m) (state_of w))
  attribute_deleted_ends o n e is base =
      IsEnd-same e (state_of u) _ _ (attribute_deleted_is base m.units.now m.frame o n (state_of w)) (IsEnd-then e (state_of u) _ (λ _ s. done s) is)

  pub item_set_gives : (o i v : Value) → ((call : Special → State → Outcome (Unit {0})) → item_set call o i v (state_of w) ≡ gives (tt {0}) (state_of u)) → (base : Run)
      → access.set_item o i v (frame_in base m) (state_of w) ≡ done (state_of u)
  item_set_gives o i v is base = item_set_is base m.units.now m.frame o i v (state_of w) ∙ ap as_done (is (does_it base m.units.now m.frame (i ∷ v ∷ [])))

  pub item_set_ends : (o i v : Value) (e : OpEnd) → ((call : Special → State → Outcome (Unit {0})) → IsEnd e (state_of u) (item_set call o i v (state_of w))) → (base : Run)
      → IsEnd e (state_of u) (access.set_item o i v (frame_in base m) (state_of w))
  item_set_ends o i v e is base =
      IsEnd-same e (state_of u) _ _ (item_set_is base m.units.now m.frame o i v (state_of w))
      (IsEnd-then e (state_of u) _ (λ _ s. done s) (is (does_it base m.units.now m.frame (i ∷ v ∷ []))))

  pub item_deleted_gives : (o i : Value) → ((call : Special → State → Outcome (Unit {0})) → item_deleted call o i (state_of w) ≡ gives (tt {0}) (state_of u)) → (base : Run)
      → access.del_item o i (frame_in base m) (state_of w) ≡ done (state_of u)
  item_deleted_gives o i is base = item_deleted_is base m.units.now m.frame o i (state_of w) ∙ ap as_done (is (does_it base m.units.now m.frame (i ∷ [])))

  pub item_deleted_ends : (o i : Value) (e : OpEnd) → ((call : Special → State → Outcome (Unit {0})) → IsEnd e (state_of u) (item_deleted call o i (state_of w))) → (base : Run)
      → IsEnd e (state_of u) (access.del_item o i (frame_in base m) (state_of w))
  item_deleted_ends o i e is base =
      IsEnd-same e (state_of u) _ _ (item_deleted_is base m.units.now m.frame o i (state_of w))
      (IsEnd-then e (state_of u) _ (λ _ s. done s) (is (does_it base m.units.now m.frame (i ∷ []))))

  -- the value of an augmented assignment is stored
  pub augment_gives : (store : Value → Doing) (op : BinOp) (a b v : Value) → augmented m.frame.side op a b (state_of w) ≡ gives v (state_of u) → (base : Run)
      → on_value (augment op a b (frame_in base m) (state_of w)) (λ v s. store v (frame_in base m) s) ≡ store v (frame_in base m) (state_of u)
  augment_gives store op a b v is base =
      gives-then v (state_of u) _ (λ v s. store v (frame_in base m) s) (augment_is base m.units.now m.frame op a b (state_of w) ∙ is)

  pub augment_ends : (store : Value → Doing) (op : BinOp) (a b : Value) (e : OpEnd) → IsEnd e (state_of u) (augmented m.frame.side op a b (state_of w)) → (base : Run)
      → IsEnd e (state_of u) (on_value (augment op a b (frame_in base m) (state_of w)) (λ v s. store v (frame_in base m) s))
  augment_ends store op a b e is base =
      IsEnd-then e (state_of u) _ (λ v s. store v (frame_in base m) s)
      (IsEnd-same e (state_of u) _ _ (augment_is base m.units.now m.frame op a b (state_of w)) is)
