-- What a simple command gives, and that each command here is one.
use Rattle.std.proofs.Common.{◌≡◌, true, List, [], ◌∷◌, length, Some, None, if◌then◌else◌, arith, ap, refl, sym, ◌∙◌}
use Rattle.std.proofs.lemmas.Bool.{ne_eqb}
use Rattle.clap.specs.Faults.{is_simple_and_free}
use Rattle.clap.specs.Kinds.{IsAmong, Kinds}
use Rattle.clap.specs.Walk.{Row, is_empty}
use Rattle.clap.specs.declared.error.kind.ErrorKind.{ErrorKind}
use Rattle.rp_words.specs.Options.{run_command, script_command, may_command, large_command}

pub given-taken : (faults : Kinds) (rows found : List Row) → faults ≡ [] → found ≡ rows
    → Some found ≡ (if is_empty faults then Some rows else None)
given-taken faults rows found none same =
    ap Some same ∙ sym (ap (λ (ks : Kinds). if is_empty ks then Some rows else None) none)

pub given-refused : (faults : Kinds) (rows : List Row) (kind : ErrorKind) → IsAmong kind faults
    → None ≡ (if is_empty faults then Some rows else None)
given-refused [] rows kind among = absurd among
given-refused (k ∷ ks) rows kind among =
    sym (ap (λ b. if b then Some rows else None) (ne_eqb (length (k ∷ ks)) 0 (λ none. omega (arith, none))))

pub run_simple : is_simple_and_free run_command ≡ true
run_simple = refl

pub script_simple : is_simple_and_free script_command ≡ true
script_simple = refl

pub may_simple : is_simple_and_free may_command ≡ true
may_simple = refl

pub large_simple : is_simple_and_free large_command ≡ true
large_simple = refl
