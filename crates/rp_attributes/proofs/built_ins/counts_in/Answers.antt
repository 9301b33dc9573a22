use Rattle.std.proofs.Common.{Option, ap, ◌∙◌}
use Rattle.std.specs.Option.{option_map}
use denote.Enum.Bare.{sameb}
use Rattle.rp_base.specs.contracts.native.NativeId.{the_type}
use Rattle.rp_base.specs.declared.native.NativeId.{NativeId}
use Rattle.rp_attributes.specs.declared.built_ins.Counts.{Counts}
use Rattle.rp_attributes.proofs.Rows.{lookup-find}
use Rattle.rp_attributes.proofs.built_ins.counts_in.Goals as goal

pub returns-in-Some : goal.returns-in-Some
returns-in-Some c =
    ap (λ (x : Option (NativeId × Counts)). option_map (λ m. m.1) x) c.in-Some.ensures
    ∙ lookup-find (λ m. sameb the_type m c.args.id) c.args.methods.now

pub returns-in-None : goal.returns-in-None
returns-in-None c =
    ap (λ (x : Option (NativeId × Counts)). option_map (λ m. m.1) x) c.in-None.ensures
    ∙ lookup-find (λ m. sameb the_type m c.args.id) c.args.methods.now
