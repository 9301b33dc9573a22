use Rattle.std.proofs.Common.{refl}
use Rattle.rp_session.proofs.Resolved.{module_blocks}
use Rattle.rp_tests_stage.proofs.OneScript.{one_resolved}
use Rattle.rp_tests_stage.proofs.stage.reading_of.Goals as goal

pub returns-clause-resolved : goal.returns-clause-resolved
returns-clause-resolved c =
    let loaded = c.args.loaded in
    let script = c.args.script in
    record {
      numbers = c.requires.whole.numbers;
      low = c.requires.whole.low;
      blocks = module_blocks loaded loaded.module loaded.layouts c.requires.whole refl refl;
      scripts = one_resolved c.in_ok-scripts.scripts.items c.in_ok-each.each.items script.tree script.table c.in_ok-scripts.ensures.items c.in_ok-each.ensures.items c.requires.resolved;
    }
