-- Words that are written out, and the commands that they give.
use Rattle.std.proofs.Common.{◌≡◌, refl, codes, List, [], ◌∷◌, ℕ, Option, Some, None, true, false}
use Rattle.clap.proofs.OnLiterals.{clap_on_literals}
use Rattle.rp_words.specs.Command.{Command, Pair, Run, run, may, large, script, command_of}
use Rattle.rp_words.specs.declared.command.Question.TheVariants.{Check}

abbrev bob : Pair
bob = record { who = codes "bob"; ids = codes "bob" ∷ []; path = codes "a.py" }

abbrev both : Pair
both = record { who = codes "al+eve"; ids = codes "al" ∷ codes "eve" ∷ []; path = codes "b:c.py" }

abbrev usual : Run
usual = record {
  declarations = codes "d.toml";
  pairs = bob ∷ [];
  steps = 1000000;
  cells = 1000000;
  turns = [];
  trail = false;
}

abbrev run_with : List (List ℕ) → Option Command
run_with words = command_of (codes "run" ∷ codes "d.toml" ∷ codes "bob:a.py" ∷ words)

nothing_more : run_with [] ≡ Some (run usual)
unfolding clap_on_literals
nothing_more = refl

all_options : run_with (codes "--steps" ∷ codes "5" ∷ codes "al+eve:b:c.py" ∷ codes "--turns=2,1"
    ∷ codes "--trail" ∷ codes "--cells" ∷ codes "8000000" ∷ [])
    ≡ Some (run (record usual {
      pairs = bob ∷ both ∷ [];
      steps = 5;
      cells = 8000000;
      turns = 2 ∷ 1 ∷ [];
      trail = true;
    }))
unfolding clap_on_literals
all_options = refl

too_many_cells : run_with (codes "--cells" ∷ codes "8000001" ∷ []) ≡ None
unfolding clap_on_literals
too_many_cells = refl

ten_digits : run_with (codes "--steps" ∷ codes "0000000001" ∷ []) ≡ None
unfolding clap_on_literals
ten_digits = refl

twice : run_with (codes "--steps" ∷ codes "1" ∷ codes "--steps" ∷ codes "1" ∷ []) ≡ None
unfolding clap_on_literals
twice = refl

no_such_pair : run_with (codes "--turns" ∷ codes "2" ∷ []) ≡ None
unfolding clap_on_literals
no_such_pair = refl

trail_with_value : run_with (codes "--trail=true" ∷ []) ≡ None
unfolding clap_on_literals
trail_with_value = refl

no_pair : command_of (codes "run" ∷ codes "d.toml" ∷ codes "a.py" ∷ []) ≡ None
unfolding clap_on_literals
no_pair = refl

behind_dashes : command_of (codes "check" ∷ codes "--" ∷ codes "-x" ∷ []) ≡ Some (script Check (codes "-x"))
unfolding clap_on_literals
behind_dashes = refl

no_option : command_of (codes "show" ∷ codes "-x" ∷ []) ≡ None
unfolding clap_on_literals
no_option = refl

one_may : command_of (codes "may" ∷ codes "-" ∷ codes "bob" ∷ codes "zope.View" ∷ [])
    ≡ Some (may (record { declarations = codes "-"; ids = codes "bob" ∷ []; permission = codes "zope.View" }))
unfolding clap_on_literals
one_may = refl

largest : command_of (codes "large" ∷ codes "10000" ∷ []) ≡ Some (large 10000)
unfolding clap_on_literals
largest = refl

larger : command_of (codes "large" ∷ codes "10001" ∷ []) ≡ None
unfolding clap_on_literals
larger = refl

not_built : command_of (codes "audit" ∷ codes "d.toml" ∷ codes "trail" ∷ []) ≡ None
unfolding clap_on_literals
not_built = refl
