use Rattle.rp_access.proofs.Known.{never_none}
use Rattle.rp_access.proofs.comparing.holds.Goals as goal

pub returns-in-Order-clause-law : goal.returns-in-Order-clause-law
returns-in-Order-clause-law c = λ call. rw c.in-Order.is c.order_known.ensures.law

pub returns-in-Within-clause-law : goal.returns-in-Within-clause-law
returns-in-Within-clause-law c = λ call. rw c.in-Within.is (c.is_within.ensures.law call)

pub returns-in-NotWithin-clause-law : goal.returns-in-NotWithin-clause-law
returns-in-NotWithin-clause-law c = λ call. rw c.in-NotWithin.is (c.is_without.ensures.law call)

pub returns-in-Order-clause-special : goal.returns-in-Order-clause-special
returns-in-Order-clause-special c = never_none c.order_known.result _ c.order_known.ensures.known

pub returns-in-Within-clause-special : goal.returns-in-Within-clause-special
returns-in-Within-clause-special c = rw c.in-Within.is c.is_within.ensures.special

pub returns-in-NotWithin-clause-special : goal.returns-in-NotWithin-clause-special
returns-in-NotWithin-clause-special c = rw c.in-NotWithin.is c.is_without.ensures.special
