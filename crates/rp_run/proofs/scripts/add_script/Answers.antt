use Rattle.std.proofs.Common.{◌∙◌, refl}
use Rattle.rp_base.specs.Names.{word_of}
use Rattle.rp_compile.specs.Compiled.{source_tree}
use Rattle.rp_policy.proofs.Renamed.{offences-unnumbered}
use Rattle.rp_run.proofs.Compiling.{adds_lines}
use Rattle.rp_run.specs.Steps as step
use Rattle.rp_tree.specs.Maps.{named}
use Rattle.rp_run.proofs.scripts.add_script.Goals as goal

pub returns-in_ok-push-in-Ok-clause-added : goal.returns-in_ok-push-in-Ok-clause-added
returns-in_ok-push-in-Ok-clause-added c =
    let read = c.in-Ok.ensures in
    let source = named (word_of c.compile_script.new.names) (source_tree c.in-Ok.script) in
    step.Adds.script c.in-Ok.script (record {
      program = read.program;
      lawful = offences-unnumbered (λ word. word) source ∙ read.lawful;
    }) read.held read.words c.in_ok-push-in-Ok.ensures.items refl

pub returns-in-Err-clause-added : goal.returns-in-Err-clause-added
returns-in-Err-clause-added c =
    adds_lines c.args.number c.args.bytes.now _ c.compile_script.new.names _ _ _ c.in-Err.refusal c.add_refusal.result
    c.in-Err.ensures.refused c.add_refusal.ensures.other c.add_refusal.ensures.added
