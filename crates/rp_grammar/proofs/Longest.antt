-- The place that reading tells is that behind the longest good front.
use Rattle.std.proofs.Common.{◌≡◌, ℕ, zero, suc, ◌+◌, ◌≤◌, [], ◌∷◌, ◌++◌, length, replicate, Option, Some, None, Ok, Err, refl, ap, subst, arith, length-append}
use Rattle.rp_token.specs.declared.token.TokenKind.TheVariants as kind
use Rattle.rp_tree.specs.Statements.{Stmts}
use Rattle.rp_grammar.specs.Brackets.{IsShallow}
use Rattle.rp_grammar.specs.Kinds.{Tokens}
use Rattle.rp_grammar.specs.ExpressionReading as reading
use Rattle.rp_grammar.specs.StatementReading.{Found, program_at}
use Rattle.rp_grammar.specs.Program.{token, ending, IsGood, IsLongestGood}
use Rattle.rp_grammar.proofs.Founds.{ok_is}
use Rattle.rp_grammar.proofs.Low.{front_ending}
use Rattle.rp_grammar.proofs.StatementComplete.{program_complete}
use Rattle.rp_grammar.proofs.Open.{place_good}
use Rattle.rp_grammar.proofs.Local.{Rests}
use Rattle.rp_grammar.proofs.Past.{Past, OnlyEnds, Crossed, refused, inside, beyond}
use Rattle.rp_grammar.proofs.PastStatements.{IsEnding, trails_program}

-- ---- the ending of a good front

after_pass : ℕ → Tokens
after_pass n = replicate n (token kind.Dedent) ++ token kind.End ∷ []

only_ends : (n : ℕ) → OnlyEnds (after_pass n)
unfolding after_pass
only_ends zero = (refl, tt)
only_ends (suc n) = (refl, only_ends n)

is_ending : (n : ℕ) → IsEnding (ending n)
unfolding after_pass
is_ending n = record { pass = token kind.Pass; newline = token kind.Newline; rest = after_pass n; parts = refl; is_pass = refl; is_newline = refl; only_ends = only_ends n }

rests : ℕ → Tokens → Rests
rests n others = record { ending = ending n; others = others; begins = refl }

-- ---- no longer front is good

-- what is read up to the end is read beyond the front
past_by : (w : Rests) → IsEnding w.ending → (o p : Found Stmts) → Crossed w o p → (y : Stmts × Tokens) → o ≡ Ok y → length y.1 ≡ 1 → Past w.others p
past_by w closes (Err q) p refused y e alone = absurd cc
past_by w closes _ _ (inside x b bs) y e alone =
    let same : ◌≡◌ {A = Stmts × Tokens} (x, b ∷ (bs ++ w.ending)) y = ok_is e in
    let rest : b ∷ (bs ++ w.ending) ≡ y.1 = ap (λ (z : Stmts × Tokens). z.1) same in
    absurd (omega (arith, ap length rest, alone, length-append bs w.ending, ap length closes.parts))
past_by w closes (Ok x) p (beyond over past) y e alone = past

pub good_past : (d h n : ℕ) (front others : Tokens) (y : Stmts × Tokens) → program_at (reading.readers d) h (front ++ ending n) ≡ Ok y → length y.1 ≡ 1 → Past others (program_at (reading.readers d) h (front ++ others))
unfolding rests
good_past d h n [] others y e alone = (trails_program (rests n others) (is_ending n) d h).past others
good_past d h n (t ∷ front) others y e alone =
    past_by (rests n others) (is_ending n) (program_at (reading.readers d) h (t ∷ (front ++ ending n))) (program_at (reading.readers d) h (t ∷ (front ++ others))) ((trails_program (rests n others) (is_ending n) d h).moves t front) y e alone

-- a program without a tree has a place
pub place_told : (d h : ℕ) (ts : Tokens) → program_at (reading.readers d) h ts ≡ Err None → ⊥
unfolding rests
place_told d h ts e = subst (λ (o : Found Stmts). Past ts o) e ((trails_program (rests 0 ts) (is_ending 0) d h).past ts)

past_good : (most d : ℕ) → most + 200 ≤ d → (ts rest more others : Tokens) → IsShallow most 0 ts → program_at (reading.readers d) 199 ts ≡ Err (Some rest) → ts ≡ more ++ others → IsGood more → length rest ≤ length others
past_good most d enough ts rest more others shallow e parts good =
    let behind = subst (λ (z : Tokens). IsShallow most 0 z) parts shallow in
    let read = program_complete most d enough good.spelled (front_ending most good.dedents more others behind) in
    let past = good_past d 199 good.dedents more others (good.tree, good.spelled.rest) read good.spelled.alone in
    subst (λ (o : Found Stmts). Past others o) (subst (λ (z : Tokens). program_at (reading.readers d) 199 z ≡ Err (Some rest)) parts e) past

-- where no tree is read, a place is told, and it is that behind the longest good front
pub syntax_place : (most d : ℕ) → most + 200 ≤ d → (ts : Tokens) (q : Option Tokens) → IsShallow most 0 ts → program_at (reading.readers d) 199 ts ≡ Err q → (front : Tokens) × (rest : Tokens) × (q ≡ Some rest) × IsLongestGood front rest ts
syntax_place most d enough ts None shallow e = absurd (place_told d 199 ts e)
syntax_place most d enough ts (Some rest) shallow e =
    let (front, parts, good) = place_good d ts rest e in (
      front,
      rest,
      refl,
      record {
        parts = parts;
        good = good;
        longest = λ more others parts_too is_good.
            let past = past_good most d enough ts rest more others shallow e parts_too is_good in
            omega (arith, ap length parts, ap length parts_too, length-append front rest, length-append more others);
      },
    )
