use Rattle.std.proofs.Common.{◌≡◌, ◌∙◌, ◌++◌, List, ℕ, ap, chars, codes}
use Rattle.std.specs.Fmt.{decimal}
use Rattle.rp_run.proofs.Blocks.{block-written}
use Rattle.rp_run.specs.Output.{end_line}
use Rattle.rp_session.specs.View.{end_view}
use Rattle.rp_run.proofs.answer.add_session.Goals as goal

pub returns : goal.returns
returns c =
    let its_who = c.in_ok-add.ensures.added ∙ ap (λ (t : List ℕ). c.add_ascii-2.new.text ++ t) c.as_str.ensures in
    block-written c.add_end.result c.args.text.now (codes "session ") (decimal c.args.number) (codes " ")
    c.args.who.now (codes "\n") (chars c.args.printed.now) (end_line (end_view c.args.end.now)) _ _ _ _ _ _ _
    c.in_ok-add_ascii.ensures c.in_ok-add_number.ensures c.in_ok-add_ascii-2.ensures its_who
    c.in_ok-add_ascii-3.ensures c.in_ok-add-2.ensures.added c.add_end.ensures
