use Rattle.std.proofs.Common.{◌≡◌, true, map, string_bytes}
use Rattle.std.proofs.lemmas.Bool.{and_parts}
use Rattle.clap.specs.Faults.{fault_of, is_free_app}
use Rattle.clap.specs.Simple.{built, is_simple}
use Rattle.clap.specs.Words.{app_of, found_of, matches_of, rows_of}
use Rattle.rp_words.proofs.Matches.{given-taken}
use Rattle.rp_words.proofs.options.matches.Goals as goal

pub returns-in-Ok : goal.returns-in-Ok
returns-in-Ok c =
    let app = app_of c.args.command in
    let words = map string_bytes c.args.words.now in
    let simple : is_simple app ≡ true = (and_parts (is_simple app) (is_free_app (built app)) c.requires).0 in
    given-taken (fault_of app words) (matches_of app words) (rows_of (found_of c.in-Ok.found))
    (c.in-Ok.ensures.kinds c.requires) (c.in-Ok.ensures.matches simple).0
