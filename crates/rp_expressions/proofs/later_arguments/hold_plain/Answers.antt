use Rattle.std.proofs.Common.{◌+◌, List, ap, length, subst, sym, zero-add, ◌∙◌}
use Rattle.rp_base.specs.declared.value.Value.{Value}
use Rattle.rp_engine.specs.Ready.{IsReady}
use Rattle.rp_expressions.proofs.LaterArguments.{names_fit, put_behind, put_ready, taken_off}
use Rattle.rp_expressions.proofs.later_arguments.hold_plain.Goals as goal

pub returns-clause-held : goal.returns-clause-held
returns-clause-held c =
    put_behind c.args.machine.now c.forget.new.self c.args.hand c.forget.ensures c.in_ok-named.named.items c.args.values.items c.add.new.self c.hold_named.new.machine
    c.in_ok-named.ensures c.in_ok-add.ensures.added c.in_ok-hold_named.ensures.held

pub returns-clause-plain : goal.returns-clause-plain
returns-clause-plain c = c.in_ok-plain.ensures ∙ ap (λ k. c.args.hand.plain + k) (c.len.ensures ∙ c.args.values.ok.0)

pub returns-clause-named : goal.returns-clause-named
returns-clause-named c =
    c.in_ok-count.ensures ∙ ap (λ k. 0 + k) (c.len-2.ensures ∙ c.in_ok-named.named.ok.0) ∙ zero-add (length c.in_ok-named.named.items) ∙ ap length c.in_ok-named.ensures

pub returns-in_err-add-clause-ready : goal.returns-in_err-add-clause-ready
returns-in_err-add-clause-ready c = λ w r f.
    let p = c.forget.new.self in
    subst (λ (vs : List Value). IsReady p.units.now p.frame vs w) (sym c.in_err-add.ensures.same) (taken_off c.args.machine.now p c.args.hand c.forget.ensures w r)

pub returns-in_err-hold_named-clause-ready : goal.returns-in_err-hold_named-clause-ready
returns-in_err-hold_named-clause-ready c = λ w r f.
    let m = c.args.machine.now in
    let p = c.forget.new.self in
    c.hold_named.ensures.ready w (put_ready m p c.args.hand c.forget.ensures w r c.args.values.items c.add.new.self c.in_ok-add.ensures.added f)
    (names_fit m p c.args.hand c.forget.ensures w r c.in_ok-named.named.items c.in_ok-named.ensures)

pub returns-clause-ready : goal.returns-clause-ready
returns-clause-ready c = λ w r f.
    let m = c.args.machine.now in
    let p = c.forget.new.self in
    c.hold_named.ensures.ready w (put_ready m p c.args.hand c.forget.ensures w r c.args.values.items c.add.new.self c.in_ok-add.ensures.added f)
    (names_fit m p c.args.hand c.forget.ensures w r c.in_ok-named.named.items c.in_ok-named.ensures)
