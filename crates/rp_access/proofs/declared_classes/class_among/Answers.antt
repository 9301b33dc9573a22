use Rattle.std.proofs.Common.{◌+◌, ◌∙◌, ℕ, Some, ap, sym}
use Rattle.std.specs.Option.{option_map}
use Rattle.rp_base.specs.Names.{word_of}
use Rattle.rp_base.specs.Same.{same_text}
use Rattle.rp_base.specs.declared.value.Oid.{Oid}
use Rattle.rp_access.proofs.DeclaredClasses.{position_within}
use Rattle.rp_access.proofs.declared_classes.class_among.Goals as goal

pub behind_exposed-requires : goal.behind_exposed-requires
behind_exposed-requires c =
    let w = c.args.world.now in
    rw c.classes.ensures.value
    (position_within (λ class. same_text (word_of w.names c.args.name) (word_of w.names class.name)) w.decl.classes c.in-Some.place (sym c.in-Some.ensures))

pub returns-in-Some : goal.returns-in-Some
returns-in-Some c =
    let placed : ℕ → Oid = λ i. record { 0 = 1 + i } in ap (λ at. Some at) c.behind_exposed.ensures ∙ ap (option_map placed) c.in-Some.ensures

pub returns-in-None : goal.returns-in-None
returns-in-None c =
    let placed : ℕ → Oid = λ i. record { 0 = 1 + i } in ap (option_map placed) c.in-None.ensures
