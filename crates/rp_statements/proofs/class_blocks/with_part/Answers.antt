use Rattle.std.proofs.Common.{◌≡◌, ◌∙◌, None, Some, ap, arith, drop, suc, sym}
use Rattle.rp_statements.proofs.ClassParts.{method_counted, other_counted, other_part, part_put}
use Rattle.rp_engine.specs.ClassSteps.{name_of}
use Rattle.rp_engine.specs.ComprehensionSteps.{place_at}
use Rattle.rp_engine.specs.Does as does
use Rattle.rp_statements.proofs.class_blocks.with_part.Goals as goal

pub returns-in_default-clause-count : goal.returns-in_default-clause-count
returns-in_default-clause-count c =
    let p = does.part_form c.args.form.now in
    let none : name_of p ≡ None = sym c.in_default.ensures in
    omega (arith, other_counted p none)

pub returns-in_default-clause-methods : goal.returns-in_default-clause-methods
returns-in_default-clause-methods c = λ ps is.
    let p = does.part_form c.args.form.now in
    let none : name_of p ≡ None = sym c.in_default.ensures in
    is ∙ sym (other_part p ps (drop c.args.left c.args.values.now) none)

pub returns-clause-count : goal.returns-clause-count
returns-clause-count c =
    let p = does.part_form c.args.form.now in
    let named : name_of p ≡ Some c.in-Some.name = sym c.in-Some.ensures in
    omega (arith, method_counted p c.in-Some.name named, c.saturating_sub-behind.ensures, c.requires)

pub returns-clause-methods : goal.returns-clause-methods
returns-clause-methods c = λ ps is.
    let p = does.part_form c.args.form.now in
    let named : name_of p ≡ Some c.in-Some.name = sym c.in-Some.ensures in
    let next : c.args.left ≡ suc c.saturating_sub-behind.result = omega (arith, method_counted p c.in-Some.name named, c.saturating_sub-behind.ensures, c.requires) in
    part_put p c.in-Some.name named ps c.args.values.now c.args.left c.saturating_sub-behind.result c.args.methods.now c.set.new.self c.place_at.result next is
    (c.place_at.ensures ∙ ap place_at c.under.ensures) c.in_ok-set.ensures.set
