-- How columns are closed.
use Rattle.std.proofs.Common.{◌≡◌, refl, sym, ◌∙◌, ℕ, ◌<◌, ◌≤◌, Bool, true, false, nat_lt, if◌then◌else◌, List, [], ◌∷◌, length, drop, arith}
use Rattle.std.proofs.lemmas.Bool.{lt-ltb, le-ltb}
use Rattle.rp_token.specs.Characters.{first}
use Rattle.rp_token.specs.Form.{dedent}
use Rattle.rp_token.specs.Tokens.{State, closed_to, with_token}

-- the columns of the state do not matter
closed_to-columns : (n : ℕ) (rest : List ℕ) (line : ℕ) (cs xs : List ℕ) (s : State) → closed_to n rest line cs (record s { columns = xs }) ≡ closed_to n rest line cs s
closed_to-columns n rest line [] xs s = refl
closed_to-columns n rest line (c ∷ cs) xs s = by (closed_to-columns n rest line cs xs (with_token dedent rest rest line s)) (nat_lt n c)
  where
    by : closed_to n rest line cs (record (with_token dedent rest rest line s) { columns = xs }) ≡ closed_to n rest line cs (with_token dedent rest rest line s) → (b : Bool) → (if b then closed_to n rest line cs (record (with_token dedent rest rest line s) { columns = xs }) else record s { columns = c ∷ cs })
        ≡ (if b then closed_to n rest line cs (with_token dedent rest rest line s) else record s { columns = c ∷ cs })
    by further true = further
    by further false = refl

-- a turn that closes a column
pub closed_to-turn : (n : ℕ) (rest : List ℕ) (line : ℕ) (columns : List ℕ) (s next : State) → n < first columns
    → next ≡ with_token dedent rest rest line (record s { columns = drop 1 columns }) → closed_to n rest line next.columns next ≡ closed_to n rest line columns s
closed_to-turn n rest line [] s next above is = absurd (omega arith)
closed_to-turn n rest line (c ∷ cs) s next above is =
    (λ k. closed_to n rest line ((is k).columns) (is k)) ∙ closed_to-columns n rest line cs cs (with_token dedent rest rest line s) ∙ rw (lt-ltb n c above) refl

-- no column is left to close
pub closed_to-over : (n : ℕ) (rest : List ℕ) (line : ℕ) (columns : List ℕ) (s : State) → first columns ≤ n → s.columns ≡ columns → closed_to n rest line columns s ≡ s
closed_to-over n rest line [] s below is = λ k. record s { columns = sym is k }
closed_to-over n rest line (c ∷ cs) s below is = rw (le-ltb n c below) (λ k. record s { columns = sym is k })

pub some_column : (n : ℕ) (columns : List ℕ) → n < first columns → 0 < length columns
some_column n [] above = absurd (omega arith)
some_column n (c ∷ cs) above = omega arith
