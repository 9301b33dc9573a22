-- Displays of dicts: their pairs are evaluated part by part.
use Rattle.std.proofs.Common.{◌≡◌, List, [], ◌∷◌, Result, refl, sym, ap, ◌∙◌}
use Rattle.std.specs.Prelude.{OnOk}
use Rattle.rp_base.specs.declared.value.OpEnd.{OpEnd}
use Rattle.rp_base.specs.declared.value.Value.{Value}
use Rattle.rp_frame.specs.declared.display.Display.TheVariants as kind
use Rattle.rp_meaning.specs.Expressions as forms
use Rattle.rp_meaning.specs.Frame.{Frame, Meaning, Run}
use Rattle.rp_meaning.specs.State.{State, Outcome}
use Rattle.rp_meaning.proofs.Laws.{then_then}
use Rattle.rp_ops.specs.Outcome.{gives, on_found, on_value}
use Rattle.rp_proxy.specs.declared.world.World.{World}
use Rattle.rp_access.specs.Comes.{IsEnd}
use Rattle.rp_access.specs.Entries.{couples}
use Rattle.rp_access.specs.Moment.{state_of}
use Rattle.rp_access.specs.Parts.{step_end}
use Rattle.rp_access.proofs.Going.{IsEnd-same, IsEnd-then, gives-then, on_same}
use Rattle.rp_store.specs.Object as object
use Rattle.rp_engine.specs.DisplaySteps.{elements, parts}
use Rattle.rp_engine.specs.GatheringSteps.{Gathers}
use Rattle.rp_engine.specs.Law.{Evaluates, frame_in, rest_of}
use Rattle.rp_engine.specs.Rest.{gave, rest}
use Rattle.rp_engine.specs.declared.halt.Halt.{Halt}
use Rattle.rp_engine.specs.declared.machine.Machine.{Machine}
use Rattle.rp_engine.proofs.Moves.{end_ok, on_ok}

-- what is done with keys and their values is done with their parts

pairs_front : (p : Meaning × Meaning) (ps : List (Meaning × Meaning)) (go : List (Value × Value) → State → Outcome Value) (f : Frame) (s : State)
    → on_value (forms.pairs (p ∷ ps) f s) go ≡ on_value (p.0 f s) (λ k t. on_value (p.1 f t) (λ v u. on_value (forms.pairs ps f u) (λ kvs s. go ((k, v) ∷ kvs) s)))
pairs_front p ps go f s =
    then_then (p.0 f s) (λ k s. on_value (p.1 f s) (λ v s. on_value (forms.pairs ps f s) (λ kvs s. gives ((k, v) ∷ kvs) s))) go
    ∙ on_same (p.0 f s) _ _ (λ k t. then_then (p.1 f t) (λ v s. on_value (forms.pairs ps f s) (λ kvs s. gives ((k, v) ∷ kvs) s)) go
    ∙ on_same (p.1 f t) _ _ (λ v u. then_then (forms.pairs ps f u) (λ kvs s. gives ((k, v) ∷ kvs) s) go))

values_front : (a b : Meaning) (ms : List Meaning) (go : List (Value × Value) → State → Outcome Value) (f : Frame) (s : State)
    → on_value (forms.values (a ∷ b ∷ ms) f s) (λ vs s. go (couples vs) s)
    ≡ on_value (a f s) (λ k t. on_value (b f t) (λ v u. on_value (forms.values ms f u) (λ vs s. go ((k, v) ∷ couples vs) s)))
values_front a b ms go f s =
    then_then (a f s) (λ k s. on_value (forms.values (b ∷ ms) f s) (λ vs s. gives (k ∷ vs) s)) (λ vs s. go (couples vs) s)
    ∙ on_same (a f s) _ _ (λ k t. then_then (forms.values (b ∷ ms) f t) (λ vs s. gives (k ∷ vs) s) (λ vs s. go (couples vs) s)
    ∙ then_then (b f t) (λ v s. on_value (forms.values ms f s) (λ vs s. gives (v ∷ vs) s)) (λ vs s. go (couples (k ∷ vs)) s)
    ∙ on_same (b f t) _ _ (λ v u. then_then (forms.values ms f u) (λ vs s. gives (v ∷ vs) s) (λ vs s. go (couples (k ∷ vs)) s)))

pairs_parts : (ps : List (Meaning × Meaning)) (go : List (Value × Value) → State → Outcome Value) (f : Frame) (s : State)
    → on_value (forms.pairs ps f s) go ≡ on_value (forms.values (parts ps) f s) (λ vs s. go (couples vs) s)
pairs_parts [] go f s = refl
pairs_parts (p ∷ ps) go f s =
    pairs_front p ps go f s
    ∙ on_same (p.0 f s) (λ k t. on_value (p.1 f t) (λ v u. on_value (forms.pairs ps f u) (λ kvs s. go ((k, v) ∷ kvs) s)))
    (λ k t. on_value (p.1 f t) (λ v u. on_value (forms.values (parts ps) f u) (λ vs s. go ((k, v) ∷ couples vs) s)))
    (λ k t. on_same (p.1 f t) _ _ (λ v u. pairs_parts ps (λ kvs s. go ((k, v) ∷ kvs) s) f u))
    ∙ sym (values_front p.0 p.1 (parts ps) go f s)

abbrev made : Frame → List (Value × Value) → State → Outcome Value
made f kvs s = on_found (forms.dict_with (object.dict []) kvs) s (λ c s. forms.makes_own c f s)

-- a display with its step
dict_is : (ps : List (Meaning × Meaning)) (f : Frame) (s : State) → forms.dict ps f s ≡ on_value (step_end s) (λ _ s. elements kind.Dict (parts ps) [] f s)
dict_is ps f s = on_same (step_end s) (λ _ t. on_value (forms.pairs ps f t) (made f)) (λ _ t. elements kind.Dict (parts ps) [] f t) (λ _ t. pairs_parts ps (made f) f t)

pub dict_goes : (m n : Machine) (w u v : World) (r : Result (Unit {0}) Halt) (ps : List (Meaning × Meaning)) → step_end (state_of w) ≡ gives (tt {0}) (state_of u)
    → OnOk r (Gathers kind.Dict 0 (parts ps) m u n v) → OnOk r (Evaluates (forms.dict ps) m w n v)
dict_goes m n w u v r ps is h = on_ok r (Gathers kind.Dict 0 (parts ps) m u n v) (Evaluates (forms.dict ps) m w n v)
    (λ law base. law base ∙ ap (λ o. rest m.tasks (gave (frame_in base m) m.values o))
    (sym (dict_is ps (frame_in base m) (state_of w) ∙ gives-then (tt {0}) (state_of u) _ (λ _ s. elements kind.Dict (parts ps) [] (frame_in base m) s) is))) h

pub dict_ends : (m n : Machine) (w u : World) (r : Result (Unit {0}) Halt) (ps : List (Meaning × Meaning)) (e' : OpEnd) → IsEnd e' (state_of u) (step_end (state_of w))
    → OnOk r ((base : Run) (s : State) (o : Outcome Value) → IsEnd e' s o → rest_of base n s ≡ rest m.tasks (gave (frame_in base m) m.values o))
    → OnOk r (Evaluates (forms.dict ps) m w n u)
dict_ends m n w u r ps e' is h = end_ok m n w u r (forms.dict ps) e' (λ base. IsEnd-same e' (state_of u) _ _ (dict_is ps (frame_in base m) (state_of w))
    (IsEnd-then e' (state_of u) (step_end (state_of w)) (λ _ s. elements kind.Dict (parts ps) [] (frame_in base m) s) is)) h
