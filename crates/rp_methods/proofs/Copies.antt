-- Entries that are put into a dict one after another.
use Rattle.std.proofs.Common.{◌≡◌, List, [], ◌∷◌, ◌++◌, append_assoc, sym, ap, subst, ◌∙◌}
use Rattle.rp_dict.specs.Dict.{HasDistinctKeys, insert_entry}
use Rattle.rp_store.specs.Key.{same_key}
use Rattle.rp_store.specs.Object.{Entry}
use Rattle.rp_store.specs.contracts.key.KeyPartialEq.TheImpl as key_block
use Rattle.rp_store.proofs.CallerLemmas.{absent_before, distinct-same_key, insert_entry-absent}

-- one entry more is set
pub set-next : (all new rest walk es : List Entry) (e : Entry) → all ++ walk ≡ es → walk ≡ e ∷ rest → HasDistinctKeys (key_block.ghosts).eq es
    → new ≡ insert_entry same_key all e.0 e.1 → new ++ rest ≡ es
set-next all new rest walk es e whole next distinct put =
    let now : all ++ e ∷ rest ≡ es = ap (λ (l : List Entry). all ++ l) (sym next) ∙ whole in
    let apart : HasDistinctKeys same_key (all ++ e ∷ rest) = subst (λ (l : List Entry). HasDistinctKeys same_key l) (sym now) (distinct-same_key es distinct) in
    ap (λ (l : List Entry). l ++ rest) (put ∙ insert_entry-absent same_key e.0 e.1 all (absent_before all rest e apart)) ∙ append_assoc all (e ∷ []) rest ∙ now
