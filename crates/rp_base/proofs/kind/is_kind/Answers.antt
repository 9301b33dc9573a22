use denote.Enum.Bare.{same_true, same_false}
use Rattle.rp_base.specs.contracts.kind.Kind.{the_type}
use Rattle.rp_base.proofs.Hierarchy.{at_one, at_Exception, at_others, is_under-decided}
use Rattle.rp_base.proofs.kind.is_kind.Goals as goal
use Rattle.rp_base.proofs.kind.is_kind.Goals.{then-eq, else-eq}

pub returns-then-eq-2-clause-value : goal.returns-then-eq-2-clause-value
returns-then-eq-2-clause-value c = elim c.if-eq.branch [
  | then-eq w ↦ is_under-decided _ c.args.kind c.args.handler (at_one _ _ _ c.if-eq-2.true (same_true the_type tt _ _ (cc)))
  | else-eq w ↦ is_under-decided _ c.args.kind c.args.handler (at_Exception _ _ _ c.if-eq-2.true (same_true the_type tt _ _ (cc)))
]

pub returns-then-eq-2-clause-reaches : goal.returns-then-eq-2-clause-reaches
returns-then-eq-2-clause-reaches c = elim c.if-eq.branch [
  | then-eq w ↦ at_one _ _ _ c.if-eq-2.true (same_true the_type tt _ _ (cc))
  | else-eq w ↦ at_Exception _ _ _ c.if-eq-2.true (same_true the_type tt _ _ (cc))
]

pub returns-else-eq-2-clause-value : goal.returns-else-eq-2-clause-value
returns-else-eq-2-clause-value c = elim c.if-eq.branch [
  | then-eq w ↦ absurd (cc)
  | else-eq w ↦ is_under-decided c.is_directly_under.result c.args.kind c.args.handler (rw c.is_directly_under.ensures (at_others _ _ (same_false the_type _ _ (cc)) (same_false the_type _ _ (cc))))
]

pub returns-else-eq-2-clause-reaches : goal.returns-else-eq-2-clause-reaches
returns-else-eq-2-clause-reaches c = elim c.if-eq.branch [
  | then-eq w ↦ absurd (cc)
  | else-eq w ↦ rw c.is_directly_under.ensures (at_others _ _ (same_false the_type _ _ (cc)) (same_false the_type _ _ (cc)))
]
