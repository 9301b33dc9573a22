-- Tokens whose names are held look the same where there are more names.
use Rattle.std.proofs.Common.{◌≡◌, refl, sym, ap, subst, ℕ, suc, ◌≤◌, ◌-◌, List, [], ◌∷◌, ◌++◌, length, map, get_or, take, drop, arith}
use Rattle.std.proofs.lemmas.List.{get_or_append_left, length-append, take_all}
use Rattle.std.specs.List.{All}
use Rattle.rp_token.specs.declared.token.Token.{Token}
use Rattle.rp_token.specs.declared.token.TokenKind.{TokenKind}
use Rattle.rp_token.specs.declared.token.TokenKind.TheVariants as kind
use Rattle.rp_token.specs.Form.{name}
use Rattle.rp_token.specs.View.{IsHeld, IsHeldKind, form_view, item_view}
use Rattle.rp_base.specs.Names.{GrowsTo}

pub form-later : (names more : List (List ℕ)) (k : TokenKind) → IsHeldKind names k → form_view (names ++ more) k ≡ form_view names k
form-later names more (kind.Name n) held = ap name (get_or_append_left names more [] n.0 held)
form-later names more k held = refl

pub item-later : (names more : List (List ℕ)) (t : Token) → IsHeld names t → item_view (names ++ more) t ≡ item_view names t
item-later names more t held = ap (λ f. record { form = f; from = t.from; to = t.to; line = t.line.0 }) (form-later names more t.kind held)

pub All-first : (P : Token → Type 0) (t : Token) (ts : List Token) → All P (t ∷ ts) → P t
All-first P t ts all = all 0 t (omega arith)

pub All-rest : (P : Token → Type 0) (t : Token) (ts : List Token) → All P (t ∷ ts) → All P ts
All-rest P t ts all = λ k d within. all (suc k) d (omega arith)

pub items-later : (names more : List (List ℕ)) (ts : List Token) → All (IsHeld names) ts → map (item_view (names ++ more)) ts ≡ map (item_view names) ts
items-later names more [] held = refl
items-later names more (t ∷ ts) held =
    (λ i. item-later names more t (All-first (IsHeld names) t ts held) i ∷ items-later names more ts (All-rest (IsHeld names) t ts held) i)

pub held-later : (names more : List (List ℕ)) (k : TokenKind) → IsHeldKind names k → IsHeldKind (names ++ more) k
held-later names more (kind.Name n) held = let both = length-append names more in omega arith
held-later names more k held = tt

-- tokens whose names are held among more names
pub All-grown : (old new : List (List ℕ)) (ts : List Token) → GrowsTo old new → All (IsHeld old) ts → All (IsHeld new) ts
All-grown old new ts grown all = λ k d within.
    subst (λ names. IsHeld names (get_or ts k d)) (sym grown.1) (held-later old grown.0 ((get_or ts k d).kind) (all k d within))

-- the first token, and those behind it
pub split-first : (ts : List Token) (t : Token) → 1 ≤ length ts → t ≡ get_or ts 0 t → ts ≡ t ∷ take (length ts - 1) (drop 1 ts)
split-first [] t some is = absurd (omega arith)
split-first (u ∷ us) t some is =
    let all : take (length (u ∷ us) - 1) us ≡ us = take_all (length (u ∷ us) - 1) us (omega arith) in
    (λ k. sym is k ∷ sym all k)
