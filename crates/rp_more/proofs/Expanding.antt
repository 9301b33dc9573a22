-- Both rules together, and what holds of the tokens that they give.
use Rattle.std.proofs.Common.{◌≡◌, ◌∙◌, refl, sym, ap, subst, ℕ, ◌+◌, ◌-◌, true, false, if◌then◌else◌, List, [], ◌∷◌, ◌++◌, append_assoc, Result, Ok, Err}
use Rattle.std.specs.List.{All}
use Rattle.std.specs.Prelude.{pos, negsuc}
use Rattle.std.specs.declared.alloc.Global.{Global}
use Rattle.std.specs.declared.vec.Vec.{Vec}
use Rattle.std.proofs.lemmas.List.{append-nil}
use Rattle.rp_token.specs.Form.{Item, newline}
use Rattle.rp_token.specs.Laws.{EndsOnce, IsWithin, closes, open_behind, opens}
use Rattle.rp_token.specs.View.{IsHeld, form_view}
use Rattle.rp_token.specs.declared.token.Token.{Token}
use Rattle.rp_token.specs.declared.token.TokenKind.{TokenKind}
use Rattle.rp_token.specs.declared.token.TokenKind.TheVariants as kind
use Rattle.rp_token.proofs.Held.{held_tokens}
use Rattle.rp_token.proofs.LawsItems.{Within, closes_form, open_behind_form, opens_form}
use Rattle.rp_more.specs.Expanded.{expanded, set_items}
use Rattle.rp_more.specs.LiteralSteps.{items_of}
use Rattle.rp_more.specs.Literals.{literals}
use Rattle.rp_more.specs.Sets.{sets}
use Rattle.rp_more.specs.View.{Gives}
use Rattle.rp_more.specs.declared.fault.MoreFault.{MoreFault}
use Rattle.rp_more.specs.declared.fault.MoreFault.TheVariants as fault
use Rattle.rp_more.proofs.Depth.{AllWithin, Within-items, literals-within, plain-items, ready-not}
use Rattle.rp_more.proofs.Ends.{AllEnd, ends-tokens, items_end, literals-end}
use Rattle.rp_more.proofs.Held.{items-later}
use Rattle.rp_more.proofs.SetLaws.{sets-end, sets-within}
use Rattle.rp_base.specs.Names.{GrowsTo}

-- the tokens given look the same where there are more names
pub given-same : (old new more : List (List ℕ)) (ts : List Token) → All (IsHeld old) ts → GrowsTo old new → items_of (new ++ more) ts ≡ items_of old ts
given-same old new more ts held grown =
    (λ k. items_of ((ap (λ ns. ns ++ more) grown.1 ∙ append_assoc old grown.0 more) k) ts) ∙ items-later old (grown.0 ++ more) ts held

-- what the two writers give: the tokens behind the first, and those behind the second
pub record Given (old new : List (List ℕ)) (ts written found : List Token) : Type 0 where
  pub held : All (IsHeld old) ts
  pub grown : GrowsTo old new
  pub literals : (more : List (List ℕ)) → literals false false (items_of (new ++ more) ts) ≡ Ok (items_of (new ++ more) written)
  pub sets : (names : List (List ℕ)) → items_of names found ≡ sets [] newline (items_of names written)

pub expanded-later : (old new : List (List ℕ)) (ts written found : List Token) → Given old new ts written found → (more : List (List ℕ)) → expanded (items_of old ts) ≡ Ok (items_of (new ++ more) found)
expanded-later old new ts written found given more =
    (λ k. set_items (literals false false (sym (given-same old new more ts given.held given.grown) k))) ∙ ap set_items (given.literals more) ∙ ap Ok (sym (given.sets (new ++ more)))

pub expanded-now : (old new : List (List ℕ)) (ts written found : List Token) → Given old new ts written found → expanded (items_of old ts) ≡ Ok (items_of new found)
expanded-now old new ts written found given = expanded-later old new ts written found given [] ∙ (λ k. Ok (items_of (append-nil new k) found))

-- a fault of the first writer
pub expanded-failed : (old new : List (List ℕ)) (ts : List Token) (f : MoreFault) → All (IsHeld old) ts → GrowsTo old new
    → ((more : List (List ℕ)) → Gives (new ++ more) (literals false false (items_of (new ++ more) ts)) (Err f)) → Gives new (expanded (items_of old ts)) (Err f)
expanded-failed old new ts fault.Memory held grown given = tt
expanded-failed old new ts (fault.Format line) held grown given =
    (λ k. set_items (literals false false (sym (given-same old new [] ts held grown) k))) ∙ ap set_items (given [])

ok_items : (r : Result (List Item) MoreFault) (xs ys : List Item) → r ≡ Ok xs → r ≡ Ok ys → xs ≡ ys
ok_items r xs ys e f = cc

-- the names in them are held
pub found-held : (old new : List (List ℕ)) (ts written : List Token) (found : Vec Token Global) → Given old new ts written found.items → All (IsHeld new) found.items
found-held old new ts written found given =
    let now = expanded-now old new ts written found.items given in
    held_tokens new (Ok (items_of new found.items)) (Ok found)
    (λ more. ap Ok (ok_items (expanded (items_of old ts)) (items_of new found.items) (items_of (new ++ more) found.items) now (expanded-later old new ts written found.items given more))) refl

-- END is the last
pub found-ends : (old new : List (List ℕ)) (ts written found : List Token) → Given old new ts written found → EndsOnce ts → EndsOnce found
found-ends old new ts written found given ends =
    let names = new ++ [] in
    let before : items_end (items_of names ts) ≡ true = ends-tokens names ts ∙ ends in
    let middle : items_end (items_of names written) ≡ true = subst AllEnd (given.literals []) (literals-end false false (items_of names ts) (ready-not (items_of names ts)) before) in
    sym (ends-tokens names found) ∙ ap items_end (given.sets names) ∙ sets-end [] newline (items_of names written) middle

opens-same : (names : List (List ℕ)) (k : TokenKind) → opens_form (form_view names k) ≡ opens k
opens-same names (kind.Int (pos n)) = refl
opens-same names (kind.Int (negsuc n)) = refl
opens-same names k = refl

closes-same : (names : List (List ℕ)) (k : TokenKind) → closes_form (form_view names k) ≡ closes k
closes-same names (kind.Int (pos n)) = refl
closes-same names (kind.Int (negsuc n)) = refl
closes-same names k = refl

open-same : (names : List (List ℕ)) (n : ℕ) (k : TokenKind) → open_behind_form n (form_view names k) ≡ open_behind n k
open-same names n k = λ j. if opens-same names k j then n + 1 else if closes-same names k j then n - 1 else n

within-items : (names : List (List ℕ)) (limit n : ℕ) (ts : List Token) → IsWithin limit n ts → Within limit n (items_of names ts)
within-items names limit n [] within = within
within-items names limit n (t ∷ ts) within =
    (within.0, subst (λ m. Within limit m (items_of names ts)) (sym (open-same names n t.kind)) (within-items names limit (open_behind n t.kind) ts within.1))

within-tokens : (names : List (List ℕ)) (limit n : ℕ) (ts : List Token) → Within limit n (items_of names ts) → IsWithin limit n ts
within-tokens names limit n [] within = within
within-tokens names limit n (t ∷ ts) within =
    (within.0, within-tokens names limit (open_behind n t.kind) ts (subst (λ m. Within limit m (items_of names ts)) (open-same names n t.kind) within.1))

-- no more brackets are open than a parser takes
pub found-shallow : (old new : List (List ℕ)) (ts written found : List Token) → Given old new ts written found → IsWithin 200 0 ts → IsWithin 450 0 found
found-shallow old new ts written found given within =
    let names = new ++ [] in
    let before = within-items names 200 0 ts within in
    let middle : AllWithin 0 (Ok (items_of names written)) = subst (AllWithin 0) (given.literals []) (literals-within false false 0 (items_of names ts) (ready-not (items_of names ts)) before) in
    let between : Within 450 0 (items_of names written) = Within-items 450 0 (items_of names written) (middle (plain-items names written)) in
    within-tokens names 450 0 found (subst (Within 450 0) (sym (given.sets names)) (sets-within 450 0 [] newline (items_of names written) between))
