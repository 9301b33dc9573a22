use Rattle.rp_statements.proofs.class_blocks.class.Goals as goal

pub returns-clause-law : goal.returns-clause-law
returns-clause-law c = c.class_part.ensures.law
