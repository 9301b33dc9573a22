-- What is collected in a walk over a dict.
use Rattle.std.proofs.Common.{◌≡◌, ℕ, ◌<◌, Bool, List, [], ◌∷◌, ◌++◌, append_assoc, get_or, length, map, Option, Some, None, IsSomeAnd, sym, ap, subst, ◌∙◌}
use Rattle.std.specs.List.{All}
use Rattle.std.proofs.lemmas.List.Elements.{All-cons, All-get_or, All-head, All-map, All-nil, All-same, All-tail, All-weaker}
use Rattle.rp_base.specs.declared.value.Oid.{Oid}
use Rattle.rp_base.specs.declared.value.Rock.{Rock}
use Rattle.rp_base.specs.declared.value.Value.{Value}
use Rattle.rp_base.specs.declared.value.Value.TheVariants as value
use Rattle.rp_store.specs.Heap.{Names, Owned, content_at}
use Rattle.rp_store.specs.Kept.{AreSound, IsEntry, IsSound}
use Rattle.rp_store.specs.Object as object
use Rattle.rp_store.specs.Object.{Content}
use Rattle.rp_store.specs.Parts.{IsDict, IsScope}
use Rattle.rp_store.specs.declared.key.Key.{Key}
use Rattle.rp_store.specs.Shape.{KeepsShape}
use Rattle.rp_ops.specs.View.{handed, key_rock}
use Rattle.rp_ops.proofs.CallerLemmas.{handed_sound}
use Rattle.rp_methods.specs.Dicts.{pairs}

-- one more is put last
pub collected-next : {A B : Type 0} (f : A → B) (so_far more : List B) (e : A) (rest walk es : List A) (v : B) → so_far ++ map f walk ≡ map f es → walk ≡ e ∷ rest
    → more ≡ so_far ++ v ∷ [] → v ≡ f e → more ++ map f rest ≡ map f es
collected-next {A} {B} f so_far more e rest walk es v h next put same =
    ap (λ (l : List B). l ++ map f rest) (put ∙ ap (λ (x : B). so_far ++ x ∷ []) same) ∙ append_assoc so_far (f e ∷ []) (map f rest)
    ∙ ap (λ (l : List A). so_far ++ map f l) (sym next) ∙ h

-- keys and values of a dict are sound

pub AreSound-keys : (heap : List Owned) (es : List (Key × (Rock × Value))) (items : List Value) → items ≡ map key_rock es → AreSound heap items
AreSound-keys heap es items e = All-same (IsSound heap) items (map key_rock es) e (by es) where
  by : (es : List (Key × (Rock × Value))) → AreSound heap (map key_rock es)
  by [] = All-nil (IsSound heap)
  by (x ∷ es) = All-cons (IsSound heap) (key_rock x) (map key_rock es) tt (by es)

abbrev value_in : Key × (Rock × Value) → Value
value_in e = e.1.1

pub AreSound-values : (heap : List Owned) (es : List (Key × (Rock × Value))) (items : List Value) → items ≡ map (λ e. e.1.1) es → All (IsEntry heap) es → AreSound heap items
AreSound-values heap es items e h = All-same (IsSound heap) items (map value_in es) e (by es h) where
  by : (es : List (Key × (Rock × Value))) → All (IsEntry heap) es → AreSound heap (map value_in es)
  by [] h = All-nil (IsSound heap)
  by (x ∷ es) h = All-cons (IsSound heap) (value_in x) (map value_in es) (All-head (IsEntry heap) x es h).1 (by es (All-tail (IsEntry heap) x es h))

pub pairs-sound : (heap : List Owned) (lent : Bool) (es : List (Key × (Rock × Value))) → All (IsEntry heap) es → All (λ e. IsSound heap e.1) (pairs (handed lent) es)
pairs-sound heap lent es h =
    All-map (λ (e : Rock × Value). IsSound heap e.1) (λ (e : Key × (Rock × Value)). (e.1.0, handed lent e.1.1)) es
    (All-weaker (IsEntry heap) (λ (e : Key × (Rock × Value)). IsSound heap (handed lent e.1.1)) (λ e sound. handed_sound heap lent e.1.1 sound.1) es h)

-- one of the pairs, in a heap that has gone on
pub sound-item : (old heap : List Owned) (es : List (Rock × Value)) (i : ℕ) (e : Rock × Value) → e ≡ get_or es i e → i < length es → KeepsShape old heap
    → All (λ e. IsSound old e.1) es → IsSound heap e.1
sound-item old heap es i e is less keeps h =
    keeps.sound e.1 (subst (λ (x : Rock × Value). IsSound old x.1) (sym is) (All-get_or (λ (x : Rock × Value). IsSound old x.1) es i e less h))

-- what names a dict is sound
pub IsSound-dict : (heap : List Owned) (at : Oid) → Names heap IsDict at → IsSound heap (value.Ref at)
IsSound-dict heap at h = by (content_at heap at) h where
  one : (c : Content) → IsDict c → ¬ IsScope c
  one (object.dict es) h = λ scope. scope
  one (object.list xs) h = absurd h
  one (object.tuple xs) h = absurd h
  one (object.instance of fields) h = absurd h
  one (object.class name declared methods) h = absurd h
  one (object.function name unit block within defaults) h = absurd h
  one (object.method receiver called) h = absurd h
  one (object.scope block parent slots) h = absurd h

  by : (x : Option Content) → IsSomeAnd x IsDict → IsSomeAnd x (λ c. ¬ IsScope c)
  by None h = absurd h
  by (Some c) h = one c h
