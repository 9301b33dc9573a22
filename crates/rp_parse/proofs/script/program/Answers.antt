use Rattle.std.proofs.Common.{◌≡◌, ◌∙◌, false, ap, sym}
use Rattle.std.proofs.lemmas.Result.{IfErr-weaker, on_ok_weaker}
use Rattle.rp_parse.specs.ScriptSteps.{comes, from_here}
use Rattle.rp_parse.proofs.Scripted.{script_ends, script_refused, told_ahead, told_same}
use Rattle.rp_parse.proofs.Visits.{handed_none, handed_then}
use Rattle.rp_parse.proofs.script.program.Goals as goal

pub parts-init : goal.parts-init
parts-init g c = record {
  handed = rw c.new-left.ensures (handed_none g.V.Visitor.takes c.args.visitor.now c.args.tokens.items c.requires);
  none = c.new-found.ensures.items;
}

pub parts-preserved : goal.parts-preserved
parts-preserved g c = record {
  handed = handed_then g.V.Visitor.takes c.parts.invariant.handed c.in-Ok.ensures.passes;
  none = c.in-Ok.ensures.none_left;
}

pub returns-in-Err-clause-refused : goal.returns-in-Err-clause-refused
returns-in-Err-clause-refused g c =
    let handed = c.parts.invariant.handed in
    script_refused c.in-Err.fault handed.passes (told_ahead c.in-Err.fault handed.found (from_here 199 c.parts.on_line c.parts.left) c.in-Err.ensures.refused)

pub returns-clause-read : goal.returns-clause-read
returns-clause-read g c =
    let handed = c.parts.invariant.handed in
    let none : comes c.parts.on_line c.parts.left ≡ false = ap (comes c.parts.on_line) (sym c.tokens.ensures) ∙ sym c.comes.ensures ∙ c.parts-test.false in
    let is = script_ends handed.passes none in
    on_ok_weaker c.finish.result (λ x. record { found = handed.found; rest = x.0; read = is ∙ x.1; taken = handed.taken }) (rw c.tokens-2.ensures at (c.finish.ensures.read handed.found))

pub returns-clause-refused : goal.returns-clause-refused
returns-clause-refused g c =
    let handed = c.parts.invariant.handed in
    let none : comes c.parts.on_line c.parts.left ≡ false = ap (comes c.parts.on_line) (sym c.tokens.ensures) ∙ sym c.comes.ensures ∙ c.parts-test.false in
    let is = script_ends handed.passes none in
    IfErr-weaker c.finish.result _ _ (λ e t. told_same e _ _ is t) (rw c.tokens-2.ensures at (c.finish.ensures.refused handed.found))
