-- The names follow the expanded tokens.
use Rattle.std.proofs.Common.{◌≡◌, ◌∙◌, refl, sym, ap, ℕ, List, []}
use Rattle.std.proofs.lemmas.List.{append-nil}
use Rattle.rp_base.specs.Names.{with_words}
use Rattle.rp_token.specs.Form.{newline}
use Rattle.rp_token.specs.NameWords.{name_words, words_of}
use Rattle.rp_token.specs.declared.token.Token.{Token}
use Rattle.rp_more.specs.Expanded.{expanded}
use Rattle.rp_more.specs.LiteralSteps.{items_of}
use Rattle.rp_more.specs.NameSteps.{Follow}
use Rattle.rp_more.proofs.Expanding.{Given, expanded-now}
use Rattle.rp_more.proofs.NameWords.{sets-words}

pub expanded-words : (old new : List (List ℕ)) (ts written found : List Token) → Given old new ts written found → Follow old new [] written
    → new ≡ with_words old (words_of (expanded (items_of old ts)))
expanded-words old new ts written found given follows =
    let here : words_of (expanded (items_of old ts)) ≡ name_words (items_of new written) =
    ap words_of (expanded-now old new ts written found given) ∙ ap name_words (given.sets new) ∙ sets-words [] newline (items_of new written) in
    follows old [] refl ∙ ap (with_words old) ((λ k. name_words (items_of (append-nil new k) written)) ∙ sym here)
