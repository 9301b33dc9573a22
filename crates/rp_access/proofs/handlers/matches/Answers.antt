use Rattle.std.proofs.Common.{Bool, codes, refl}
use Rattle.std.specs.Str.{chars}
use Rattle.rp_base.specs.declared.kind.Kind.TheVariants.{TypeError}
use Rattle.rp_meaning.specs.Exceptions.{kinds_named}
use Rattle.rp_meaning.specs.State.{heap_of}
use Rattle.rp_ops.specs.Outcome.{Raises}
use Rattle.rp_access.proofs.Excepted.{names_none}
use Rattle.rp_access.proofs.Going.{IsEnd-same, raises_end}
use Rattle.rp_access.specs.Moment.{state_of}
use Rattle.rp_access.proofs.handlers.matches.Goals as goal

pub returns-in-None : goal.returns-in-None
unfolding chars
returns-in-None c =
    let s = state_of c.args.world.now in
    let v = c.args.value.now in
    let h : Raises c.raised.result (record { kind = TypeError; text = codes "except" }) = c.raised.ensures in
    IsEnd-same c.raised.result s _ _ (names_none v c.args.thrown.now s (kinds_named (heap_of s) v) refl c.in-None.ensures)
    (raises_end Bool c.raised.result (record { kind = TypeError; text = codes "except" }) s h)
