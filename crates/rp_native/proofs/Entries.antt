-- Entries that are put into a dict one after another.
use Rattle.std.proofs.Common.{◌≡◌, Bool, List, [], ◌∷◌, ◌++◌, append_assoc, map, refl, sym, ap, subst, ◌∙◌}
use Rattle.std.specs.List.{All, IsDistinct}
use Rattle.std.specs.Map.{keys_of}
use Rattle.std.proofs.lemmas.List.Elements.{All-map, All-weaker}
use Rattle.rp_base.specs.declared.value.Rock.{Rock}
use Rattle.rp_base.specs.declared.value.Value.{Value}
use Rattle.rp_dict.specs.Dict.{HasDistinctKeys, insert_entry}
use Rattle.rp_store.specs.Heap.{Owned}
use Rattle.rp_store.specs.Kept.{IsEntry}
use Rattle.rp_store.specs.Key.{same_key}
use Rattle.rp_store.specs.Object.{Entry}
use Rattle.rp_store.specs.declared.key.Key.{Key}
use Rattle.rp_ops.specs.View.{handed}
use Rattle.rp_ops.proofs.CallerLemmas.{handed_sound}
use Rattle.rp_native.specs.Copies.{entry_handed}
use Rattle.rp_store.proofs.CallerLemmas.{absent_before, insert_entry-absent}

-- the entries are sound, as they are handed out
pub entries-sound : (heap : List Owned) (lent : Bool) (es : List (Key × (Rock × Value))) → All (IsEntry heap) es → All (IsEntry heap) (map (entry_handed lent) es)
entries-sound heap lent es h =
    All-map (IsEntry heap) (entry_handed lent) es
    (All-weaker (IsEntry heap) (λ e. IsEntry heap (entry_handed lent e)) (λ e sound. (sound.0, handed_sound heap lent e.1.1 sound.1)) es h)

-- ---- no two keys are the same

same-keys : (lent : Bool) (es : List Entry) → keys_of (map (entry_handed lent) es) ≡ keys_of es
same-keys lent [] = refl
same-keys lent (e ∷ es) = ap (λ ks. e.0 ∷ ks) (same-keys lent es)

-- an entry is put last
pub entry-put : (lent : Bool) (old new rest left all : List Entry) (e : Entry) → rest ≡ e ∷ left → new ≡ insert_entry same_key old e.0 (e.1.0, handed lent e.1.1)
    → old ++ map (entry_handed lent) rest ≡ map (entry_handed lent) all → HasDistinctKeys same_key all → new ++ map (entry_handed lent) left ≡ map (entry_handed lent) all
entry-put lent old new rest left all e next put so_far distinct =
    let f = entry_handed lent in
    let now : old ++ f e ∷ map f left ≡ map f all = ap (λ (es : List Entry). old ++ map f es) (sym next) ∙ so_far in
    let apart : HasDistinctKeys same_key (old ++ f e ∷ map f left) =
    subst (λ (ks : List Key). IsDistinct same_key ks) (sym (ap keys_of now ∙ same-keys lent all)) distinct in
    ap (λ (es : List Entry). es ++ map f left) (put ∙ insert_entry-absent same_key e.0 (e.1.0, handed lent e.1.1) old (absent_before old (map f left) (f e) apart))
    ∙ append_assoc old (f e ∷ []) (map f left) ∙ now
