-- Unpacking, from what is known of the elements.
use Rattle.std.proofs.Common.{◌≡◌, ℕ, suc, List, [], ◌∷◌, ◌++◌, drop, length, Result, refl, sym, ap, ◌∙◌, subst, arith}
use mathlib.Core.Path.{fun_ext}
use Rattle.std.specs.Prelude.{OnOk}
use Rattle.std.proofs.Math.Seq.{drop-nil}
use Rattle.std.proofs.lemmas.List.Elements.{All-append}
use Rattle.rp_base.specs.declared.value.OpEnd.{OpEnd}
use Rattle.rp_base.specs.declared.value.Value.{Value}
use Rattle.rp_frame.specs.Top.{below, top}
use Rattle.rp_frame.specs.declared.activation.Activation.{Activation}
use Rattle.rp_frame.specs.declared.task.Task.{Task}
use Rattle.rp_meaning.specs.Frame.{Frame, Run}
use Rattle.rp_meaning.specs.State.{State, on_next}
use Rattle.rp_meaning.specs.Statements as stmt_forms
use Rattle.rp_meaning.specs.Statements.{Store, exactly}
use Rattle.rp_meaning.specs.Walks.{walk}
use Rattle.rp_meaning.proofs.Laws.{then_then}
use Rattle.rp_ops.specs.Outcome.{gives, on_value}
use Rattle.rp_proxy.specs.declared.world.World.{World}
use Rattle.rp_store.specs.Kept.{AreFit, IsFit}
use Rattle.rp_access.specs.Comes.{IsEnd}
use Rattle.rp_access.specs.Moment.{state_of}
use Rattle.rp_access.specs.Unpacking.{unpacked}
use Rattle.rp_access.proofs.Going.{IsEnd-same, IsEnd-then, gives-then}
use Rattle.rp_engine.specs.Does as does
use Rattle.rp_engine.specs.Law.{Executes, frame_in, rest_of}
use Rattle.rp_engine.specs.Ready.{IsReady}
use Rattle.rp_engine.specs.Rest.{after, did, rest}
use Rattle.rp_engine.specs.UnpackingSteps.{each_stored, store_from}
use Rattle.rp_engine.specs.declared.halt.Halt.{Halt}
use Rattle.rp_engine.specs.declared.machine.Machine.{Machine}
use Rattle.rp_engine.specs.declared.units.Units.{Units}
use Rattle.rp_engine.proofs.Moves.{on_ok}
use Rattle.rp_tree.specs.declared.expr.Target.{Target}

-- the elements at hand, with others below them
store_from_each : (ds : List Store) (us vs : List Value) (f : Frame) (s : State) → length us ≡ length ds → store_from ds (us ++ vs) f s ≡ stmt_forms.store_each ds us f s
store_from_each [] [] vs f s same = refl
store_from_each [] (u ∷ us) vs f s same = absurd (omega arith)
store_from_each (x ∷ ds) [] vs f s same = absurd (omega arith)
store_from_each (x ∷ ds) (u ∷ us) vs f s same = ap (on_next (x u f s)) (fun_ext (λ t. store_from_each ds us vs f t (omega arith)))

drop_front : {A : Type 0} (us vs : List A) → drop (length us) (us ++ vs) ≡ vs
drop_front [] vs = refl
drop_front (u ∷ us) vs = drop_front us vs

count_targets : (xs : List Target) → length (does.targets xs) ≡ length xs
count_targets [] = refl
count_targets (x ∷ xs) = ap suc (count_targets xs)

drop_below : (n : ℕ) (vs : List Value) → drop n (below vs) ≡ drop (suc n) vs
drop_below n [] = drop-nil n
drop_below n (v ∷ vs) = refl

-- the value was walked
module _ (m : Machine) (w u : World) (xs : List Target) (v : Value) where
  unpack_is : (base : Run) → stmt_forms.unpack (does.targets xs) v (frame_in base m) (state_of w)
      ≡ on_value (unpacked (length xs) v (frame_in base m) (state_of w)) (λ vs s. stmt_forms.store_each (does.targets xs) vs (frame_in base m) s)
  unpack_is base = let f = frame_in base m in
      sym (then_then (walk v f (state_of w)) (λ c s. exactly (length (does.targets xs)) c f s) (λ vs s. stmt_forms.store_each (does.targets xs) vs f s))
      ∙ ap (λ n. on_value (unpacked n v f (state_of w)) (λ vs s. stmt_forms.store_each (does.targets xs) vs f s)) (count_targets xs)

  pub unpack_gives : (us : List Value) → ((base : Run) → unpacked (length xs) v (frame_in base m) (state_of w) ≡ gives us (state_of u)) → (base : Run)
      → stmt_forms.unpack (does.targets xs) v (frame_in base m) (state_of w) ≡ each_stored (does.targets xs) us (frame_in base m) (state_of u)
  unpack_gives us is base = unpack_is base ∙ gives-then us (state_of u) _ (λ vs s. stmt_forms.store_each (does.targets xs) vs (frame_in base m) s) (is base)

  pub unpack_ends : (e : OpEnd) → ((base : Run) → IsEnd e (state_of u) (unpacked (length xs) v (frame_in base m) (state_of w))) → (base : Run)
      → IsEnd e (state_of u) (stmt_forms.unpack (does.targets xs) v (frame_in base m) (state_of w))
  unpack_ends e is base = IsEnd-same e (state_of u) _ _ (unpack_is base)
      (IsEnd-then e (state_of u) _ (λ vs s. stmt_forms.store_each (does.targets xs) vs (frame_in base m) s) (is base))

-- its elements were put at hand, for which a task waits
module _ (m n : Machine) (r : Result (Unit {0}) Halt) (xs : List Target) (us vs : List Value) where
  pub unpacked_waits : vs ≡ us ++ m.values → length us ≡ length xs
      → OnOk r ((base : Run) (s : State) → rest_of base n s ≡ rest m.tasks (did (frame_in base m) (drop (length xs) vs) (store_from (does.targets xs) vs (frame_in base m) s)))
      → OnOk r ((w : World) → Executes (each_stored (does.targets xs) us) m w n w)
  unpacked_waits is count h = on_ok r
      ((base : Run) (s : State) → rest_of base n s ≡ rest m.tasks (did (frame_in base m) (drop (length xs) vs) (store_from (does.targets xs) vs (frame_in base m) s)))
      ((w : World) → Executes (each_stored (does.targets xs) us) m w n w)
      (λ law w base. let f = frame_in base m in let s = state_of w in
      law base s
      ∙ ap (λ vs. rest m.tasks (did f (drop (length xs) vs) (store_from (does.targets xs) vs f s))) is
      ∙ ap (λ k. rest m.tasks (did f (drop k (us ++ m.values)) (store_from (does.targets xs) (us ++ m.values) f s))) (sym count)
      ∙ ap (λ vs. rest m.tasks (did f vs (store_from (does.targets xs) (us ++ m.values) f s))) (drop_front us m.values)
      ∙ ap (λ o. rest m.tasks (did f m.values o)) (store_from_each (does.targets xs) us m.values f s (count ∙ sym (count_targets xs)))) h

-- an element is stored
module _ (m n : Machine) (w v : World) (r : Result (Unit {0}) Halt) (task : Task) (xs : List Target) (store : Store) where
  abbrev Stores : Type 0
  Stores = (base : Run) → rest_of base n (state_of v) ≡ rest m.tasks (did (frame_in base m) (drop (suc (length xs)) m.values)
      (store_from (store ∷ does.targets xs) m.values (frame_in base m) (state_of w)))

  abbrev Takes : Type 0
  Takes = (vs : List Value) (f : Frame) (s : State) → after task (did f (below vs) (store (top vs) f s))
      ≡ did f (drop (length xs) (below vs)) (on_next (store (top vs) f s) (store_from (does.targets xs) (below vs) f))

  pub element_stored : Takes → (z : Machine) (a : Value) (ts : List Task) → z ≡ record m { values = below m.values } → a ≡ top m.values → ts ≡ task ∷ z.tasks
      → OnOk r (Executes (store a) (record z { tasks = ts }) w n v) → OnOk r Stores
  element_stored takes z a ts last is pushed h = on_ok r (Executes (store (top m.values)) (record m { values = below m.values; tasks = task ∷ m.tasks }) w n v) Stores
      (λ law base. let f = frame_in base m in let s = state_of w in
      law base ∙ ap (rest m.tasks) (takes m.values f s)
      ∙ ap (λ us. rest m.tasks (did f us (on_next (store (top m.values) f s) (store_from (does.targets xs) (below m.values) f)))) (drop_below (length xs) m.values))
      (subst (λ (a : Value). OnOk r (Executes (store a) (record m { values = below m.values; tasks = task ∷ m.tasks }) w n v)) is
      (subst (λ (y : Machine). OnOk r (Executes (store a) (record y { tasks = task ∷ y.tasks }) w n v)) last
      (subst (λ (ts : List Task). OnOk r (Executes (store a) (record z { tasks = ts }) w n v)) pushed h)))

-- a machine stays ready with more values at hand that are fit
pub put_ready : (units : Units) (a : Activation) (us vs ws : List Value) (w : World) → ws ≡ us ++ vs → IsReady units a vs w → AreFit w.store.heap a.side us → IsReady units a ws w
put_ready units a us vs ws w is h fit = record {
  faithful = h.faithful;
  scope = h.scope;
  fit = subst (AreFit w.store.heap a.side) (sym is) (All-append (IsFit w.store.heap a.side) us vs fit h.fit);
  indexed = h.indexed;
}
