use Rattle.rp_step.proofs.expressions.after_part.Goals as goal

pub returns-in-Items-clause-law : goal.returns-in-Items-clause-law
returns-in-Items-clause-law c = rw (c.in-Items.is) c.after_item.ensures.law

pub returns-in-DictKey-clause-law : goal.returns-in-DictKey-clause-law
returns-in-DictKey-clause-law c = rw (c.in-DictKey.is) c.after_dict_key.ensures.law

pub returns-in-DictValue-clause-law : goal.returns-in-DictValue-clause-law
returns-in-DictValue-clause-law c = rw (c.in-DictValue.is) c.after_dict_value.ensures.law

pub returns-in-Comprehension-clause-law : goal.returns-in-Comprehension-clause-law
returns-in-Comprehension-clause-law c = rw (c.in-Comprehension.is) c.comprehend.ensures.law

pub returns-in-Default-clause-law : goal.returns-in-Default-clause-law
returns-in-Default-clause-law c = rw (c.in-Default.is) c.after_default.ensures.law
