use Rattle.std.proofs.Common.{ap, ◌∙◌}
use Rattle.clap.specs.Faults.{is_simple_and_free}
use Rattle.rp_words.proofs.Matches.{script_simple}
use Rattle.rp_words.proofs.options.script_matches.Goals as goal

pub matches-requires : goal.matches-requires
matches-requires c = ap is_simple_and_free c.in_ok-script_command.ensures ∙ script_simple
