-- The line that `print` makes: the shown texts of its arguments, joined by a space, with a newline behind them (Python Standard Library, Built-in
-- Functions). Each character of the line costs its bytes, in order; what the texts cost by themselves is what is said of showing.
use Rattle.std.specs.Prelude.{ℕ, List, [], ◌∷◌, codes}
use Rattle.rp_base.specs.declared.value.Rock.TheVariants as rock
use Rattle.rp_base.specs.declared.value.Value.{Value}
use Rattle.rp_base.specs.declared.value.Value.TheVariants as value
use Rattle.rp_ops.specs.Outcome.{State, Outcome}
use Rattle.rp_show.specs.Show.{followed, printed, show}

-- where the names are these words
module _ (names : List (List ℕ)) where
  -- the shown text of an argument: a text costs nothing when it is shown, and its bytes here; all else costs its bytes when it is shown
  abbrev pub argument : Value → State → Outcome (List ℕ)
  argument (value.Rock (rock.Text t)) s = printed t s
  argument v s = show names v s

  -- further arguments, each behind a space, and the newline
  abbrev pub further : List Value → State → Outcome (List ℕ)
  further [] s = printed (codes "\n") s
  further (v ∷ vs) s = followed (followed (printed (codes " ") s) (argument v)) (further vs)

  abbrev pub print_line : List Value → State → Outcome (List ℕ)
  print_line [] s = printed (codes "\n") s
  print_line (v ∷ vs) s = followed (argument v s) (further vs)
