use Rattle.std.proofs.Common.{true, ap}
use Rattle.clap.specs.Simple.{Shape, on_top}
use Rattle.clap.specs.Words.{App}
use Rattle.rp_words.proofs.options.bare_command.Goals as goal

abbrev quiet : App → App
quiet =
    on_top (λ (s : Shape). record s { no_binary_name = true; disable_help_flag = true; disable_version_flag = true })

pub returns : goal.returns
returns c =
    rw (c.disable_version_flag.ensures, c.disable_help_flag.ensures, c.no_binary_name.ensures)
    (ap quiet c.new.ensures.app)
