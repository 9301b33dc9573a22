-- Pairs that are gone through one after another.
use Rattle.std.proofs.Common.{◌≡◌, ℕ, suc, ◌+◌, ◌<◌, List, [], ◌∷◌, ◌++◌, drop, drop-cons, add-one, get_or, length, Result, Err, IsErrAnd, sym, ap, subst, ◌∙◌}
use Rattle.std.proofs.lemmas.List.Elements.{All-cons, All-nil, All-same}
use Rattle.rp_base.specs.declared.value.Oid.{Oid}
use Rattle.rp_base.specs.declared.value.OpEnd.{OpEnd}
use Rattle.rp_base.specs.declared.value.Rock.{Rock}
use Rattle.rp_base.specs.declared.value.Side.{Side}
use Rattle.rp_base.specs.declared.value.Value.{Value}
use Rattle.rp_base.specs.declared.value.Value.TheVariants as value
use Rattle.rp_store.specs.Heap.{Owned}
use Rattle.rp_store.specs.Kept.{AreSound, IsSound}
use Rattle.rp_store.specs.Object as object
use Rattle.rp_store.specs.Store.{Cells, added}
use Rattle.rp_items.specs.Items.{set_item}
use Rattle.rp_ops.specs.Outcome.{Meets, Outcome, State, ends, gives, on_value, state_of}
use Rattle.rp_methods.specs.Dicts.{put_all, tuples_listed}
use Rattle.rp_ops.proofs.CallerLemmas.{passes-on}

-- the pair at a place is the first of what is left
at-front : {A : Type 0} (es : List A) (i : ℕ) (e : A) → e ≡ get_or es i e → i < length es → drop i es ≡ e ∷ drop (i + 1) es
at-front {A} es i e is less = drop-cons es i e less ∙ ap (λ (x : A). x ∷ drop (suc i) es) (sym is) ∙ ap (λ (n : ℕ). e ∷ drop n es) (sym (add-one i))

-- one tuple more is made
pub listed-next : (side : Side) (es : List (Rock × Value)) (made more : List Value) (i : ℕ) (e : Rock × Value) (start : Outcome Value) (old new : Cells) (v : Value) (steps : ℕ)
    → e ≡ get_or es i e → i < length es → start ≡ tuples_listed side (drop i es) made (state_of old steps) → v ≡ value.Ref (record { 0 = length old.heap })
    → new ≡ added old side (object.tuple (value.Rock e.0 ∷ e.1 ∷ [])) → more ≡ made ++ v ∷ [] → start ≡ tuples_listed side (drop (i + 1) es) more (state_of new steps)
listed-next side es made more i e start old new v steps is less same place done put =
    let rest = drop (i + 1) es in
    same ∙ ap (λ (l : List (Rock × Value)). tuples_listed side l made (state_of old steps)) (at-front es i e is less)
    ∙ ap (λ (w : Value). tuples_listed side rest (made ++ w ∷ []) (state_of (added old side (object.tuple (value.Rock e.0 ∷ e.1 ∷ []))) steps)) (sym place)
    ∙ ap (λ (l : List Value). tuples_listed side rest l (state_of (added old side (object.tuple (value.Rock e.0 ∷ e.1 ∷ []))) steps)) (sym put)
    ∙ ap (λ (s : Cells). tuples_listed side rest more (state_of s steps)) (sym done)

pub sound-both : (heap : List Owned) (items : List Value) (r : Rock) (v : Value) → items ≡ value.Rock r ∷ v ∷ [] → IsSound heap v → AreSound heap items
sound-both heap items r v e h =
    All-same (IsSound heap) items (value.Rock r ∷ v ∷ []) e
    (All-cons (IsSound heap) (value.Rock r) (v ∷ []) tt (All-cons (IsSound heap) v [] h (All-nil (IsSound heap))))

-- a key is given its value
pub put-next : (at : Oid) (es : List (Rock × Value)) (i : ℕ) (e : Rock × Value) (start : Outcome Value) (old new : State) → e ≡ get_or es i e → i < length es
    → start ≡ put_all at (drop i es) old → set_item (value.Ref at) (value.Rock e.0) e.1 old ≡ gives tt new → start ≡ put_all at (drop (i + 1) es) new
put-next at es i e start old new is less same put =
    same ∙ ap (λ (l : List (Rock × Value)). put_all at l old) (at-front es i e is less)
    ∙ ap (λ (o : Outcome (Unit {0})). on_value o (λ _ s. put_all at (drop (i + 1) es) s)) put

pub put-fails : (r : Result Value OpEnd) (f : OpEnd) (at : Oid) (es : List (Rock × Value)) (i : ℕ) (e : Rock × Value) (start : Outcome Value) (old s : State)
    → e ≡ get_or es i e → i < length es → start ≡ put_all at (drop i es) old → IsErrAnd r (λ x. x ≡ f)
    → Meets {A = Unit {0}} (Err f) s (set_item (value.Ref at) (value.Rock e.0) e.1 old) → Meets r s start
put-fails r f at es i e start old s is less same ends h =
    subst (λ (o : Outcome Value). Meets r s o) (sym (same ∙ ap (λ (l : List (Rock × Value)). put_all at l old) (at-front es i e is less)))
    (passes-on r f s (set_item (value.Ref at) (value.Rock e.0) e.1 old) (λ _ s. put_all at (drop (i + 1) es) s) ends h)
