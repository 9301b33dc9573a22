-- A token that is the same whatever names there are more has no name beyond those that are held.
use Rattle.std.proofs.Common.{◌≡◌, inl, inr, refl, sym, ap, ◌∙◌, ℕ, suc, ◌<◌, ◌≤◌, ◌-◌, List, [], ◌∷◌, ◌++◌, length, map, get_or, replicate, Result, Ok, Err, arith}
use Rattle.std.specs.List.{All}
use Rattle.std.specs.Result.{IfOk}
use Rattle.std.proofs.lemmas.Bool.{cases_lt}
use Rattle.std.proofs.lemmas.List.{get_or-append_right, get_or-map, get_or-replicate, get_or_past}
use Rattle.std.specs.declared.alloc.Global.{Global}
use Rattle.std.specs.declared.vec.Vec.{Vec}
use Rattle.rp_token.specs.declared.fault.TokenFault.{TokenFault}
use Rattle.rp_token.specs.declared.token.Token.{Token}
use Rattle.rp_token.specs.declared.token.TokenKind.{TokenKind}
use Rattle.rp_token.specs.declared.token.TokenKind.TheVariants as kind
use Rattle.rp_token.specs.Form.{Form, Item, name}
use Rattle.rp_token.specs.Lexer.{Gives}
use Rattle.rp_token.specs.View.{IsHeld, IsHeldKind, form_view, item_view}

name_text : Form → List ℕ
name_text (name w) = w
name_text _ = []

-- more names than a place beyond those that are held
other_names : (names : List (List ℕ)) (i : ℕ) → length names ≤ i → get_or (names ++ replicate (suc i) (1 ∷ [])) i [] ≡ 1 ∷ []
other_names names i past =
    get_or-append_right names (replicate (suc i) (1 ∷ [])) (length names) i [] refl past ∙ get_or-replicate (suc i) (i - length names) (1 ∷ []) [] (omega arith)

-- the name in a kind of token
held_kind : (names : List (List ℕ)) (k : TokenKind) → ((more : List (List ℕ)) → form_view (names ++ more) k ≡ form_view names k) → IsHeldKind names k
unfolding name_text
held_kind names (kind.Name n) same = elim (cases_lt n.0 (length names)) [
  | inl within ↦ within
  | inr past ↦
      let words = sym (other_names names n.0 past) ∙ ap name_text (same (replicate (suc n.0) (1 ∷ []))) ∙ get_or_past names n.0 [] past in
      let longer = ap length words in
      absurd (omega arith)
]
held_kind names _ same = tt

-- the items are the same where their lists are
same_at : (names more : List (List ℕ)) (ts : List Token) (k : ℕ) (d : Token) → k < length ts → map (item_view (names ++ more)) ts ≡ map (item_view names) ts
    → form_view (names ++ more) ((get_or ts k d).kind) ≡ form_view names ((get_or ts k d).kind)
same_at names more ts k d within same =
    let there = get_or-map (item_view (names ++ more)) ts k d (item_view names d) within in
    let here = get_or-map (item_view names) ts k d (item_view names d) within in
    ap (λ (i : Item). i.form) (sym there ∙ ap (λ (is : List Item). get_or is k (item_view names d)) same ∙ here)

-- the tokens of a text have names that are held
pub held_tokens : (names : List (List ℕ)) (expected : Result (List Item) TokenFault) (r : Result (Vec Token Global) TokenFault)
    → ((more : List (List ℕ)) → Gives (names ++ more) expected r) → Gives names expected r → IfOk r (λ found. All (IsHeld names) found.items)
held_tokens names expected (Err f) later now = tt
held_tokens names expected (Ok found) later now = λ k d within.
    held_kind names ((get_or found.items k d).kind) (λ more.
    let shown : Result (List Item) TokenFault → List Item = λ r. elim r as (λ _. List Item) [ Ok items ↦ items | Err f ↦ [] ] in
    same_at names more found.items k d within (ap shown (sym (later more) ∙ now)))
