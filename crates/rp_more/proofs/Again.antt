-- The first rule leaves what it gives: no f-literal stands in the call that one becomes, whatever its expressions are.
use Rattle.std.proofs.Common.{◌≡◌, ◌∙◌, refl, sym, ap, subst, ℕ, ◌-◌, ◌==◌, Bool, true, false, ◌&&◌, not, if◌then◌else◌, List, [], ◌∷◌, ◌++◌, map, codes, Option, Some, None, Result, Ok, Err, arith}
use Rattle.std.specs.Option.{option_map, option_and_then, option_map_or}
use Rattle.rp_token.specs.Form.{Form, Item, name, number, literal, keyword, mark, newline, indent, dedent, end_of_text}
use Rattle.rp_token.specs.Tokens.{at_line}
use Rattle.rp_more.specs.declared.fault.MoreFault.{MoreFault}
use Rattle.rp_more.specs.declared.fault.MoreFault.TheVariants as fault
use Rattle.rp_more.specs.Forms.{ends_operand, placed, text_of}
use Rattle.rp_more.specs.Literals.{begins, elements, has_text_at, is_f, is_prefix, join_call, joined, literal_items, literals, with_front}
use Rattle.rp_more.specs.Pieces.{pieces_of}
use Rattle.rp_more.proofs.Fronts.{literals-other}

-- no f-literal begins with any of the tokens
abbrev Quiet : Bool → List Item → Type 0
Quiet operand [] = Unit {0}
Quiet operand (t ∷ ts) = (begins operand t ts ≡ false) × Quiet (ends_operand t.form) ts

quiet-same : (operand : Bool) (items : List Item) → Quiet operand items → literals operand false items ≡ Ok items
quiet-same operand [] quiet = refl
quiet-same operand (t ∷ ts) quiet = literals-other operand t ts quiet.0 ∙ ap (with_front (t ∷ [])) (quiet-same (ends_operand t.form) ts quiet.1)

-- whether an operand may end behind forms
abbrev operand_behind : Bool → List Form → Bool
operand_behind operand [] = operand
operand_behind operand (f ∷ fs) = operand_behind (ends_operand f) fs

call-operand : (operand : Bool) (fs : List Form) → operand_behind operand (fs ++ mark (codes "]") ∷ mark (codes ")") ∷ []) ≡ true
call-operand operand [] = refl
call-operand operand (f ∷ fs) = call-operand (ends_operand f) fs

-- a new token takes no bytes
placed-begins : (operand : Bool) (t : Item) (f : Form) (ts : List Item) → begins operand (placed t f) ts ≡ false
placed-begins operand t f ts =
    let none : t.from - t.from ≡ 0 = omega arith in
    (λ k. not operand && (((none k == 1) && is_f f) && has_text_at t.from ts)) ∙ by operand
  where
    by : (b : Bool) → (not b && false) ≡ false
    by true = refl
    by false = refl

placed-quiet : (operand : Bool) (t : Item) (fs : List Form) (ts : List Item) → Quiet (operand_behind operand fs) ts → Quiet operand (map (placed t) fs ++ ts)
placed-quiet operand t [] ts quiet = quiet
placed-quiet operand t (f ∷ fs) ts quiet = (placed-begins operand t f (map (placed t) fs ++ ts), placed-quiet (ends_operand f) t fs ts quiet)

-- where there is an answer, none begins
abbrev AllQuiet : Bool → Result (List Item) MoreFault → Type 0
AllQuiet operand (Ok items) = Quiet operand items
AllQuiet operand (Err f) = Unit {0}

joined-quiet : (operand : Bool) (t : Item) (more : Result (List Item) MoreFault) → AllQuiet true more → AllQuiet operand (joined (literal_items t) more)
joined-quiet operand t more quiet = by (option_and_then (elements []) (pieces_of (text_of t.form))) more quiet
  where
    by : (o : Option (List Form)) (more : Result (List Item) MoreFault) → AllQuiet true more
        → AllQuiet operand (joined (option_map_or (λ forms. Ok (map (placed t) forms)) (option_map join_call o) (Err (fault.Format (at_line t.line)))) more)
    by None more quiet = tt
    by (Some fs) (Err f) quiet = tt
    by (Some fs) (Ok ts) quiet = placed-quiet operand t (join_call fs) ts (subst (λ b. Quiet b ts) (sym (call-operand false fs)) quiet)

-- the first of the tokens behind an operand stays
abbrev HasText : ℕ → Bool → Result (List Item) MoreFault → Type 0
HasText place expected (Ok items) = has_text_at place items ≡ expected
HasText place expected (Err f) = Unit {0}

text-same : (place : ℕ) (ts : List Item) → HasText place (has_text_at place ts) (literals true false ts)
text-same place [] = refl
text-same place (u ∷ us) = by (literals (ends_operand u.form) false us)
  where
    by : (r : Result (List Item) MoreFault) → HasText place (has_text_at place (u ∷ us)) (with_front (u ∷ []) r)
    by (Ok ts) = refl
    by (Err f) = tt

-- a name may end an operand
prefix-operand : (t : Item) → is_prefix t ≡ true → ends_operand t.form ≡ true
prefix-operand t e = by (t.to - t.from == 1) t.form e
  where
    by : (b : Bool) (f : Form) → (b && is_f f) ≡ true → ends_operand f ≡ true
    by false f e = cc
    by true (name w) e = refl
    by true (number n) e = refl
    by true (literal w) e = refl
    by true (keyword w) e = cc
    by true (mark w) e = cc
    by true newline e = cc
    by true indent e = cc
    by true dedent e = cc
    by true end_of_text e = cc

front-quiet : (operand : Bool) (t : Item) (ts : List Item) → begins operand t ts ≡ false → AllQuiet (ends_operand t.form) (literals (ends_operand t.form) false ts)
    → AllQuiet operand (with_front (t ∷ []) (literals (ends_operand t.form) false ts))
front-quiet operand t ts none quiet = by (is_prefix t) refl none
  where
    and_false : (b : Bool) → (not b && false) ≡ false
    and_false true = refl
    and_false false = refl

    kept : (r : Result (List Item) MoreFault) → AllQuiet (ends_operand t.form) r → ((us : List Item) → r ≡ Ok us → begins operand t us ≡ false) → AllQuiet operand (with_front (t ∷ []) r)
    kept (Ok us) quiet first = (first us refl, quiet)
    kept (Err f) quiet first = tt

    text : (r : Result (List Item) MoreFault) (expected : Bool) (us : List Item) → HasText t.to expected r → r ≡ Ok us → has_text_at t.to us ≡ expected
    text r expected us same e = subst (HasText t.to expected) e same

    by : (p : Bool) → is_prefix t ≡ p → begins operand t ts ≡ false → AllQuiet operand (with_front (t ∷ []) (literals (ends_operand t.form) false ts))
    by false e none = kept (literals (ends_operand t.form) false ts) quiet (λ us f. (λ k. not operand && (e k && has_text_at t.to us)) ∙ and_false operand)
    by true e none =
        let behind : ends_operand t.form ≡ true = prefix-operand t e in
        kept (literals (ends_operand t.form) false ts) quiet
        (λ us f.
        let same : has_text_at t.to us ≡ has_text_at t.to ts = text (literals true false ts) (has_text_at t.to ts) us (text-same t.to ts) ((λ k. literals (sym behind k) false ts) ∙ f) in
        (λ k. not operand && (is_prefix t && same k)) ∙ none)

literals-quiet : (operand inside before : Bool) (items : List Item) → (inside ≡ false → before ≡ operand) → AllQuiet before (literals operand inside items)
literals-quiet operand inside before [] agree = tt
literals-quiet operand inside before (t ∷ ts) agree =
    by inside (begins operand t ts) agree refl (λ operand inside before agree. literals-quiet operand inside before ts agree)
  where
    by : (b c : Bool) → (b ≡ false → before ≡ operand) → begins operand t ts ≡ c
        → ((operand inside before : Bool) → (inside ≡ false → before ≡ operand) → AllQuiet before (literals operand inside ts))
        → AllQuiet before (if b then joined (literal_items t) (literals true false ts) else if c then literals true true ts else with_front (t ∷ []) (literals (ends_operand t.form) false ts))
    by true c agree e further = joined-quiet before t (literals true false ts) (further true false true (λ f. refl))
    by false true agree e further = further true true before (λ (f : true ≡ false). cc)
    by false false agree e further =
        subst (λ b. AllQuiet b (with_front (t ∷ []) (literals (ends_operand t.form) false ts))) (sym (agree refl))
        (front-quiet operand t ts e (further (ends_operand t.form) false (ends_operand t.form) (λ f. refl)))

-- what the rule gives it leaves
pub literals-again : (items out : List Item) → literals false false items ≡ Ok out → literals false false out ≡ Ok out
literals-again items out e = quiet-same false out (subst (AllQuiet false) e (literals-quiet false false false items (λ f. refl)))
