use Rattle.std.proofs.Common.{sym, arith}
use Rattle.rp_engine.proofs.Equations.{form_chain, form_cond, form_const, form_int, form_name, form_not, form_power, form_text, form_unary}
use Rattle.rp_engine.proofs.FormEquations.{form_and, form_compare, form_dict, form_list, form_or, form_primary, form_tuple}
use Rattle.rp_statements.proofs.DefinitionEquations.{form_lambda}
use Rattle.rp_targets.proofs.ComprehensionEquations.{form_dict_of, form_list_of}
use Rattle.rp_engine.proofs.Weights as weights
use Rattle.rp_step.proofs.forms.form.Goals as goal

pub returns-in-Name-clause-law : goal.returns-in-Name-clause-law
returns-in-Name-clause-law c = rw (c.in-Name.is, form_name) c.name_form.ensures.law

pub returns-in-Int-clause-law : goal.returns-in-Int-clause-law
returns-in-Int-clause-law c = rw (c.in-Int.is, form_int) c.int_form.ensures.law

pub returns-in-Text-clause-law : goal.returns-in-Text-clause-law
returns-in-Text-clause-law c = rw (c.in-Text.is, form_text) c.text_form.ensures.law

pub returns-in-Const-clause-law : goal.returns-in-Const-clause-law
returns-in-Const-clause-law c = rw (c.in-Const.is, form_const) c.constant_form.ensures.law

pub returns-in-Chain-clause-law : goal.returns-in-Chain-clause-law
returns-in-Chain-clause-law c = rw (c.in-Chain.is, form_chain, sym c.deref.ensures.value) c.chain.ensures.law

pub returns-in-Cond-clause-law : goal.returns-in-Cond-clause-law
returns-in-Cond-clause-law c = rw (c.in-Cond.is, form_cond) c.conditional.ensures.law

pub returns-in-Not-clause-law : goal.returns-in-Not-clause-law
returns-in-Not-clause-law c = rw (c.in-Not.is, form_not) c.negation.ensures.law

pub returns-in-Unary-clause-law : goal.returns-in-Unary-clause-law
returns-in-Unary-clause-law c = rw (c.in-Unary.is, form_unary) c.unary.ensures.law

pub returns-in-Power-clause-law : goal.returns-in-Power-clause-law
returns-in-Power-clause-law c = rw (c.in-Power.is, form_power) c.power.ensures.law

pub returns-in-Compare-clause-law : goal.returns-in-Compare-clause-law
returns-in-Compare-clause-law c = rw (c.in-Compare.is, form_compare, sym c.deref-in-Compare.ensures.value) c.comparison.ensures.law

pub returns-in-Or-clause-law : goal.returns-in-Or-clause-law
returns-in-Or-clause-law c = rw (c.in-Or.is, form_or, sym c.deref-in-Or.ensures.value) c.joined.ensures.law

pub returns-in-And-clause-law : goal.returns-in-And-clause-law
returns-in-And-clause-law c = rw (c.in-And.is, form_and, sym c.deref-in-And.ensures.value) c.joined-in-And.ensures.law

pub returns-in-Primary-clause-law : goal.returns-in-Primary-clause-law
returns-in-Primary-clause-law c = rw (c.in-Primary.is, form_primary, sym c.deref-in-Primary.ensures.value) c.primary.ensures.law

pub returns-in-Tuple-clause-law : goal.returns-in-Tuple-clause-law
returns-in-Tuple-clause-law c = rw (c.in-Tuple.is, form_tuple, sym c.deref-in-Tuple.ensures.value) c.display.ensures.law

pub returns-in-List-clause-law : goal.returns-in-List-clause-law
returns-in-List-clause-law c = rw (c.in-List.is, form_list, sym c.deref-in-List.ensures.value) c.display-in-List.ensures.law

pub returns-in-Dict-clause-law : goal.returns-in-Dict-clause-law
returns-in-Dict-clause-law c = rw (c.in-Dict.is, form_dict, sym c.deref-in-Dict.ensures.value) c.dict_display.ensures.law

pub returns-in-Lambda-clause-law : goal.returns-in-Lambda-clause-law
returns-in-Lambda-clause-law c = rw (c.in-Lambda.is, form_lambda, sym c.deref-in-Lambda.ensures) c.lambda.ensures.law

pub returns-in-ListOf-clause-law : goal.returns-in-ListOf-clause-law
returns-in-ListOf-clause-law c = rw (c.in-ListOf.is, form_list_of, sym c.deref-in-ListOf.ensures.value) c.comprehension.ensures.law

pub returns-in-DictOf-clause-law : goal.returns-in-DictOf-clause-law
returns-in-DictOf-clause-law c = rw (c.in-DictOf.is, form_dict_of, sym c.deref-in-DictOf.ensures.value) c.comprehension-in-DictOf.ensures.law

pub returns-in-Name-clause-less : goal.returns-in-Name-clause-less
returns-in-Name-clause-less c = grind (arith, weights.form_least c.args.form.now)

pub returns-in-Int-clause-less : goal.returns-in-Int-clause-less
returns-in-Int-clause-less c = grind (arith, weights.form_least c.args.form.now)

pub returns-in-Text-clause-less : goal.returns-in-Text-clause-less
returns-in-Text-clause-less c = grind (arith, weights.form_least c.args.form.now)

pub returns-in-Const-clause-less : goal.returns-in-Const-clause-less
returns-in-Const-clause-less c = grind (arith, weights.form_least c.args.form.now)

pub returns-in-ListOf-clause-less : goal.returns-in-ListOf-clause-less
returns-in-ListOf-clause-less c = grind (arith, weights.form_least c.args.form.now)

pub returns-in-DictOf-clause-less : goal.returns-in-DictOf-clause-less
returns-in-DictOf-clause-less c = grind (arith, weights.form_least c.args.form.now)

pub returns-in-Chain-clause-less : goal.returns-in-Chain-clause-less
returns-in-Chain-clause-less c = rw c.in-Chain.is (grind (arith, weights.chain_first c.in-Chain.first c.in-Chain.rest))

pub returns-in-Compare-clause-less : goal.returns-in-Compare-clause-less
returns-in-Compare-clause-less c = rw c.in-Compare.is (grind (arith, weights.compare_first c.in-Compare.first c.in-Compare.rest))

pub returns-in-Primary-clause-less : goal.returns-in-Primary-clause-less
returns-in-Primary-clause-less c = rw c.in-Primary.is (grind (arith, weights.primary_first c.in-Primary.first c.in-Primary.rest))

pub returns-in-Or-clause-less : goal.returns-in-Or-clause-less
returns-in-Or-clause-less c = rw c.in-Or.is (grind (arith, weights.or_first c.in-Or.operands, c.deref-in-Or.ensures.value))

pub returns-in-And-clause-less : goal.returns-in-And-clause-less
returns-in-And-clause-less c = rw c.in-And.is (grind (arith, weights.and_first c.in-And.operands, c.deref-in-And.ensures.value))
