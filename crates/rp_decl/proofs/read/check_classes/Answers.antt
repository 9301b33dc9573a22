use Rattle.std.proofs.Common.{◌≡◌, Some, codes, refl, sym, ◌∙◌}
use Rattle.toml.specs.View.{members_view}
use Rattle.rp_decl.specs.Consistency.{class_faults}
use Rattle.rp_decl.specs.Declares.{class}
use Rattle.rp_decl.specs.Document.{class_of, records_of}
use Rattle.rp_decl.specs.Order.{least}
use Rattle.rp_decl.specs.Reading.{IsName}
use Rattle.rp_decl.proofs.Checked.{class_faults-named}
use Rattle.rp_decl.proofs.Growth.{GrowsTo-refl}
use Rattle.rp_decl.proofs.Laws.{least-none, least-has, refuse-least}
use Rattle.rp_decl.proofs.Shown.{keys-at}
use Rattle.rp_decl.proofs.read.check_classes.Goals as goal

pub class_fault-requires : goal.class_fault-requires
class_fault-requires c =
    c.in_ok-classes.ensures ∙ sym (keys-at (λ d. d.name) class_of (λ k d. refl) (codes "class") (members_view c.args.document.now.entries))

pub name_of-requires : goal.name_of-requires
name_of-requires c =
    let ms = members_view c.args.document.now.entries in
    let told : Some c.in-Some.name ≡ least (class_faults (records_of ms)) = sym c.in-Some.is ∙ c.in_ok-name.ensures in
    rw c.as_str.ensures (least-has IsName (class_faults (records_of ms)) (class_faults-named c.args.version ms c.requires) c.in-Some.name told)

pub returns-in-Some-clause-fault : goal.returns-in-Some-clause-fault
returns-in-Some-clause-fault c next =
    let ms = members_view c.args.document.now.entries in
    let told : Some c.in-Some.name ≡ least (class_faults (records_of ms)) = sym c.in-Some.is ∙ c.in_ok-name.ensures in
    let here = c.in_ok-name_of-in-Some.ensures.name c.name_of.new.names (GrowsTo-refl c.name_of.new.names) in
    rw (here.0, c.as_str.ensures) (refuse-least class (class_faults (records_of ms)) next c.in-Some.name told)

pub returns-in-Some-clause-fault_held : goal.returns-in-Some-clause-fault_held
returns-in-Some-clause-fault_held c = (c.in_ok-name_of-in-Some.ensures.name c.name_of.new.names (GrowsTo-refl c.name_of.new.names)).1

pub returns-clause-ok : goal.returns-clause-ok
returns-clause-ok c = least-none _ (sym c.in-None.is ∙ c.in_ok-name.ensures)
