use Rattle.std.proofs.Common.{sym, subst}
use Rattle.rp_base.specs.Names.{first_words}
use Rattle.rp_decl.specs.Consistency.{IsConsistent}
use Rattle.rp_decl.specs.InOrder.{AreInOrder}
use Rattle.rp_decl.specs.Places.{GrowsTo}
use Rattle.rp_decl.proofs.Growth.{GrowsTo-trans}
use Rattle.rp_proxy.proofs.LaterRecords.{declarations-later, held-later}
use Rattle.rp_tests_stage.proofs.stage.read.Goals as goal

pub loaded-requires-clause-first : goal.loaded-requires-clause-first
loaded-requires-clause-first c =
    let names = c.declared.new.names in
    GrowsTo-trans first_words names c.sources_of.new.names (subst (λ first. GrowsTo first names) c.in_ok-names.ensures c.declared.ensures.grown) c.sources_of.ensures.grown

pub loaded-requires-clause-held : goal.loaded-requires-clause-held
loaded-requires-clause-held c =
    held-later c.declared.new.names c.sources_of.new.names c.sources_of.ensures.grown c.in-Some.decl (rw c.in-Some.is at c.in_ok-decl.ensures.held)

pub loaded-requires-clause-consistent : goal.loaded-requires-clause-consistent
loaded-requires-clause-consistent c =
    let same = declarations-later c.declared.new.names c.sources_of.new.names c.sources_of.ensures.grown c.in-Some.decl (rw c.in-Some.is at c.in_ok-decl.ensures.held) in
    subst IsConsistent (sym same) (rw c.in-Some.is at c.in_ok-decl.ensures.consistent)

pub loaded-requires-clause-ordered : goal.loaded-requires-clause-ordered
loaded-requires-clause-ordered c =
    let same = declarations-later c.declared.new.names c.sources_of.new.names c.sources_of.ensures.grown c.in-Some.decl (rw c.in-Some.is at c.in_ok-decl.ensures.held) in
    subst AreInOrder (sym same) (rw c.in-Some.is at c.in_ok-decl.ensures.ordered)
