use Rattle.std.proofs.Common.{◌≡◌, Err, sym, rules}
use Rattle.rp_engine.specs.Law.{frame_in}
use Rattle.rp_engine.proofs.Equations.{form_chain, form_const, form_int, form_name, form_text}
use Rattle.rp_engine.proofs.FormEquations.{form_compare}
use Rattle.rp_engine.proofs.machine.Machine.leaf_form.Goals as goal

pub returns-in-Name-clause-law : goal.returns-in-Name-clause-law
returns-in-Name-clause-law c = λ base. rw (c.in-Name.is, form_name c.in-Name.name) (c.known_name.ensures.law base)

pub returns-in_err-literal-in-Int-clause-law : goal.returns-in_err-literal-in-Int-clause-law
returns-in_err-literal-in-Int-clause-law c =
    let e : c.from_residual.result ≡ Err c.in_err-literal-in-Int.field-0.0 = search rules in
    λ base. rw (e, c.in-Int.is, form_int c.in-Int.number, sym c.int_value.ensures) (c.in_err-literal-in-Int.ensures.law (frame_in base c.args.self.now))

pub returns-in_ok-literal-in-Int-clause-law : goal.returns-in_ok-literal-in-Int-clause-law
returns-in_ok-literal-in-Int-clause-law c = λ base. rw (c.in-Int.is, form_int c.in-Int.number, sym c.int_value.ensures) (c.in_ok-literal-in-Int.ensures.law (frame_in base c.args.self.now))

pub returns-in_err-literal-in-Text-clause-law : goal.returns-in_err-literal-in-Text-clause-law
returns-in_err-literal-in-Text-clause-law c =
    let e : c.from_residual-in_err-literal-in-Text.result ≡ Err c.in_err-literal-in-Text.field-0.0 = search rules in
    λ base. rw (e, c.in-Text.is, form_text c.in-Text.text, sym c.in_ok-text-in-Text.ensures) (c.in_err-literal-in-Text.ensures.law (frame_in base c.args.self.now))

pub returns-in_ok-literal-in-Text-clause-law : goal.returns-in_ok-literal-in-Text-clause-law
returns-in_ok-literal-in-Text-clause-law c = λ base. rw (c.in-Text.is, form_text c.in-Text.text, sym c.in_ok-text-in-Text.ensures) (c.in_ok-literal-in-Text.ensures.law (frame_in base c.args.self.now))

pub returns-in_err-literal-in-Const-clause-law : goal.returns-in_err-literal-in-Const-clause-law
returns-in_err-literal-in-Const-clause-law c =
    let e : c.from_residual-in_err-literal-in-Const.result ≡ Err c.in_err-literal-in-Const.field-0.0 = search rules in
    λ base. rw (e, c.in-Const.is, form_const c.in-Const.keyword, sym c.value_of.ensures) (c.in_err-literal-in-Const.ensures.law (frame_in base c.args.self.now))

pub returns-in_ok-literal-in-Const-clause-law : goal.returns-in_ok-literal-in-Const-clause-law
returns-in_ok-literal-in-Const-clause-law c = λ base. rw (c.in-Const.is, form_const c.in-Const.keyword, sym c.value_of.ensures) (c.in_ok-literal-in-Const.ensures.law (frame_in base c.args.self.now))

pub returns-in-Chain-clause-law : goal.returns-in-Chain-clause-law
returns-in-Chain-clause-law c = λ base. rw (c.in-Chain.is, form_chain c.in-Chain.first c.in-Chain.rest, sym c.deref.ensures.value) (c.chain.ensures.law base)

pub returns-in-Compare-clause-law : goal.returns-in-Compare-clause-law
returns-in-Compare-clause-law c = λ base. rw (c.in-Compare.is, form_compare c.in-Compare.first c.in-Compare.rest, sym c.deref-in-Compare.ensures.value) (c.comparison.ensures.law base)
