use Rattle.std.proofs.Common.{sym, codes}
use Rattle.std.specs.Str.{chars}
use Rattle.rp_base.specs.declared.kind.Kind.TheVariants.{TypeError}
use Rattle.rp_ops.specs.Outcome.{Raises}
use Rattle.rp_access.specs.Moment.{state_of}
use Rattle.rp_access.proofs.NamedReads.{argument_end, text_none, text_some}
use Rattle.rp_access.proofs.named_attributes.value_named.Goals as goal

pub returns-in-Some-clause-law : goal.returns-in-Some-clause-law
returns-in-Some-clause-law c =
    text_some c.args.word.now c.in-Some.word.now c.word_named.result (state_of c.args.world.now) (state_of c.word_named.new.world) (sym c.in-Some.ensures) c.word_named.ensures.law

pub returns-in-None-clause-law : goal.returns-in-None-clause-law
unfolding chars
returns-in-None-clause-law c =
    let s = state_of c.args.world.now in
    let h : Raises c.raised.result (record { kind = TypeError; text = codes "argument" }) = c.raised.ensures in
    text_none c.args.word.now c.raised.result s (sym c.in-None.ensures) (argument_end c.raised.result s h)
