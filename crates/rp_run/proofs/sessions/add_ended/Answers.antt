use Rattle.rp_run.proofs.Blocks.{block-told}
use Rattle.rp_run.proofs.sessions.add_ended.Goals as goal

pub returns : goal.returns
returns c =
    block-told c.add_session.result c.args.session.now c.in-Some.end _ _ c.args.pair.now.who _ c.args.number
    c.in-Some.is c.as_str-printed.ensures c.add_session.ensures

pub unreachable-requires : goal.unreachable-requires
unreachable-requires c = let some = rw c.in-None.is at c.requires.ended in cc
