-- Text literals that stand side by side.
use Rattle.std.proofs.Common.{◌≡◌, ℕ, ◌<◌, true, false, List, [], ◌++◌, append-nil, append_assoc, length, None, Some, refl, sym, ap, subst, ◌∙◌}
use Rattle.rp_token.specs.declared.token.TokenKind.{TokenKind}
use Rattle.rp_token.specs.declared.token.TokenKind.TheVariants as kind
use Rattle.rp_grammar.specs.Kinds.{Tokens, first, skip}
use Rattle.rp_grammar.specs.Front.{is_text, text_of}
use Rattle.rp_grammar.specs.ExpressionReading as reading
use Rattle.rp_grammar.specs.ExpressionReading.{Read, ◌>>=◌, all_many, before}
use Rattle.rp_grammar.proofs.Basics.{some_is}
use Rattle.rp_grammar.proofs.ExpressionTakes.{takes}
use Rattle.rp_grammar.proofs.Loops.{Shortens, many_step, many_stop}

abbrev read_text : Tokens → Read (List ℕ)
read_text us = reading.text_by (first us) (skip us)

abbrev joined : List ℕ → List ℕ → List ℕ
joined x xs = x ++ xs

abbrev pub all_texts : Tokens → Read (List ℕ)
all_texts ts = all_many [] (λ x xs. x ++ xs) (reading.at is_text) (λ us. reading.text_by (first us) (skip us)) ts

short_by : (k : TokenKind) (ts : Tokens) (x : List ℕ × Tokens) → first ts ≡ k → is_text k ≡ true → reading.text_by k (skip ts) ≡ Some x → length x.1 < length ts
short_by (kind.Text s) ts x h begun is = let same : ◌≡◌ {A = List ℕ × Tokens} (s, skip ts) x = some_is is in subst (λ (z : List ℕ × Tokens). length z.1 < length ts) same (takes ts _ h (λ e. cc))
short_by _ ts x h begun is = absurd cc

short : Shortens (reading.at is_text) read_text
short ts x begun is = short_by (first ts) ts x refl begun is

abbrev pub answered : List ℕ → Tokens → Read (List ℕ)
answered z us = Some (z, us)

begins_by : (k : TokenKind) (us : Tokens) (x : List ℕ) → text_of k ≡ Some x → (is_text k ≡ true) × (reading.text_by k us ≡ Some (x, us))
begins_by (kind.Text s) us x h = let same : s ≡ x = some_is h in (refl, ap (λ (z : List ℕ). answered z us) same)
begins_by _ us x h = absurd cc

ends_by : (k : TokenKind) → text_of k ≡ None → is_text k ≡ false
ends_by (kind.Text s) h = absurd cc
ends_by _ h = refl

regroup : (j x : List ℕ) (read : Read (List ℕ)) → before (λ xs. j ++ xs) (before (λ xs. x ++ xs) read) ≡ before (λ xs. (j ++ x) ++ xs) read
regroup j x None = refl
regroup j x (Some xs) = ap (λ (z : List ℕ). answered z xs.1) (sym (append_assoc j x xs.0))

-- one text alone
pub texts_alone : (s : List ℕ) (ts : Tokens) → is_text (first ts) ≡ false → reading.texts s ts ≡ Some (s, ts)
unfolding reading.texts
texts_alone s ts over = ap (before (λ xs. s ++ xs)) (many_stop [] joined (reading.at is_text) read_text short ts over) ∙ ap (λ (z : List ℕ). answered z ts) (append-nil s)

pub texts_begin : (s : List ℕ) (ts : Tokens) → reading.texts s ts ≡ before (λ xs. s ++ xs) (all_texts ts)
unfolding reading.texts
texts_begin s ts = refl

-- the loop's invariant after a turn, and its answer
pub texts_keep : (whole : Read (List ℕ)) (j x : List ℕ) (rest : Tokens) → whole ≡ before (λ xs. j ++ xs) (all_texts rest) → text_of (first rest) ≡ Some x → whole ≡ before (λ xs. (j ++ x) ++ xs) (all_texts (skip rest))
texts_keep whole j x rest so_far is =
    let (begun, read) = begins_by (first rest) (skip rest) x is in
    so_far ∙ ap (before (λ xs. j ++ xs)) (many_step [] joined (reading.at is_text) read_text short rest (skip rest) x begun read) ∙ regroup j x (all_texts (skip rest))

pub texts_end : (whole : Read (List ℕ)) (j : List ℕ) (rest : Tokens) → whole ≡ before (λ xs. j ++ xs) (all_texts rest) → text_of (first rest) ≡ None → whole ≡ Some (j, rest)
texts_end whole j rest so_far is =
    so_far ∙ ap (before (λ xs. j ++ xs)) (many_stop [] joined (reading.at is_text) read_text short rest (ends_by (first rest) is)) ∙ ap (λ (z : List ℕ). answered z rest) (append-nil j)

pub texts_short : (rest : Tokens) (x : List ℕ) → text_of (first rest) ≡ Some x → length (skip rest) < length rest
texts_short rest x is = let (begun, read) = begins_by (first rest) (skip rest) x is in short rest (x, skip rest) begun read
