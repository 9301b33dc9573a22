use Rattle.std.proofs.Common.{ap, ◌∙◌}
use Rattle.clap.specs.Faults.{is_simple_and_free}
use Rattle.rp_words.proofs.Matches.{run_simple}
use Rattle.rp_words.proofs.options.run_matches.Goals as goal

pub matches-requires : goal.matches-requires
matches-requires c = ap is_simple_and_free c.in_ok-run_command.ensures ∙ run_simple
