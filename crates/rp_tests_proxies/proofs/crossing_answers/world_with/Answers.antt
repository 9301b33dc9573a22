use Rattle.std.proofs.Common.{subst, sym}
use Rattle.rp_decl.specs.InOrder.{AreInOrder}
use Rattle.rp_decl.specs.View.{Placed, declarations_view}
use Rattle.rp_interact.specs.Answers.{AnswersAs}
use Rattle.rp_proxy.proofs.LaterRecords.{declarations-later}
use Rattle.rp_proxy.specs.Held.{AreNamed}
use Rattle.rp_store.specs.Store.{Cells}
use Rattle.rp_tests_proxies.proofs.crossing_answers.world_with.Goals as goal

pub returns : goal.returns
returns c =
    let w = c.in_ok-begun.begun.world in
    let decl = c.in_ok-begun.ensures.begins.decl_same in
    let known = c.in_ok-begun.ensures.faithful in
    record {
      read = known.read;
      ordered = known.ordered;
      rows = known.rows;
      rows_within = known.rows_within;
      grants = λ later grows.
          let same = declarations-later w.names later grows.grown w.decl known.read.held in
          let ordered = subst (λ (d : Placed). AreInOrder (declarations_view later d)) decl (subst AreInOrder (sym same) known.ordered) in
          subst (λ (d : Placed). AnswersAs later d c.args.running.interaction) (sym decl) (c.requires.grants later ordered);
      classes = subst (λ (s : Cells). AreNamed w.names s.heap) (sym c.restart.ensures) known.classes;
      entries = known.entries;
    }
