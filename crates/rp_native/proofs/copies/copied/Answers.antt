use Rattle.rp_native.proofs.Entries.{entry-put}
use Rattle.rp_store.proofs.CallerLemmas.{distinct-same_key}
use Rattle.rp_native.proofs.copies.copied.Goals as goal

pub loop-key-preserved : goal.loop-key-preserved
loop-key-preserved c =
    entry-put c.args.lent c.loop-key.copy c.put.new.copy c.loop-key.rest c.next.new.self c.args.entries.now (c.in-Some.key.now, c.in-Some.field-0-1.now)
    c.in-Some.ensures c.in_ok-put.ensures c.loop-key.invariant (distinct-same_key c.args.entries.now c.walk-rest.ensures.distinct)
