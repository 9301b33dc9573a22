use Rattle.rp_step.proofs.expressions.after_call.Goals as goal

pub returns-in-Argument-clause-law : goal.returns-in-Argument-clause-law
returns-in-Argument-clause-law c = rw (c.in-Argument.is) c.after_argument.ensures.law

pub returns-in-StarArgument-clause-law : goal.returns-in-StarArgument-clause-law
returns-in-StarArgument-clause-law c = rw (c.in-StarArgument.is) c.after_star.ensures.law

pub returns-in-NamedArgument-clause-law : goal.returns-in-NamedArgument-clause-law
returns-in-NamedArgument-clause-law c = rw (c.in-NamedArgument.is) c.after_named.ensures.law

pub returns-in-StarsArgument-clause-law : goal.returns-in-StarsArgument-clause-law
returns-in-StarsArgument-clause-law c = rw (c.in-StarsArgument.is) c.after_stars.ensures.law

pub returns-in-LaterArgument-clause-law : goal.returns-in-LaterArgument-clause-law
returns-in-LaterArgument-clause-law c = rw (c.in-LaterArgument.is) c.after_later.ensures.law

pub returns-in-LaterStar-clause-law : goal.returns-in-LaterStar-clause-law
returns-in-LaterStar-clause-law c = rw (c.in-LaterStar.is) c.after_later_star.ensures.law
