use Rattle.std.proofs.Common.{◌∙◌, ◌++◌, false, sym, ap}
use Rattle.std.specs.List.{list_any}
use Rattle.rp_more.specs.Literals.{is_prefix}
use Rattle.rp_more.specs.LiteralSteps.{items_of}
use Rattle.rp_more.proofs.NameWords.{Follow-all}
use Rattle.rp_more.proofs.Untouched.{no_literals}
use Rattle.rp_more.proofs.literals.written_out.Goals as goal

pub returns-then-not-has_prefix-clause-literals : goal.returns-then-not-has_prefix-clause-literals
returns-then-not-has_prefix-clause-literals c = λ more.
    let names = c.args.names.now ++ more in
    let none = ap (λ ts. list_any is_prefix (items_of names ts)) (sym c.as_slice.ensures.value) ∙ sym (c.has_prefix.ensures more) ∙ c.if-not-has_prefix.true in
    no_literals false (items_of names c.args.tokens.items) none

pub returns-then-not-has_prefix-clause-follows : goal.returns-then-not-has_prefix-clause-follows
returns-then-not-has_prefix-clause-follows c = Follow-all c.args.names.now c.args.tokens.items c.requires
