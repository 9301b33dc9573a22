use Rattle.std.proofs.Common.{◌*◌, ◌+◌, drop, sym, ◌∙◌, arith}
use Rattle.rp_access.proofs.Coupled.{next_pair, none_left, pair_more}
use Rattle.rp_access.proofs.entries.entries_of.Goals as goal

pub loop-i-preserved : goal.loop-i-preserved
loop-i-preserved c =
    let l = c.loop-i in
    let vs = c.args.elements.now in
    let rest = drop (2 * (l.i + 1)) vs in
    let k = c.index-elements-i.result in
    let v = c.index-elements-i-in-loop-i.result in
    sym (pair_more l.entries c.put.new.entries k v rest c.in_ok-put.ensures)
    ∙ sym (next_pair l.entries vs l.i k v (omega arith) c.index-elements-i.is c.index-elements-i-in-loop-i.is) ∙ l.invariant

pub returns : goal.returns
returns c = sym c.loop-i.invariant ∙ none_left c.loop-i.entries c.args.elements.now c.loop-i.i (omega arith)
