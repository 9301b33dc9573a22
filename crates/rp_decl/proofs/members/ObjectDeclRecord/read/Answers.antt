use Rattle.std.proofs.Common.{ap, codes, refl, ◌∙◌}
use Rattle.toml.specs.View.{view}
use Rattle.rp_base.specs.Names.{with_word}
use Rattle.rp_decl.specs.Document.{members_of, named_field, object_of}
use Rattle.rp_decl.proofs.Growth.{GrowsTo-trans}
use Rattle.rp_decl.proofs.Interned.{object-interned}
use Rattle.rp_decl.proofs.Shown.{fields-shown, keys-at}
use Rattle.rp_decl.proofs.members.ObjectDeclRecord.read.Goals as goal

pub returns-clause-record_read : goal.returns-clause-record_read
returns-clause-record_read c later grown =
    let ms = members_of (view c.args.value.now) in
    let after_class = GrowsTo-trans _ _ later c.in_ok-name.ensures.grown grown in
    let after_fields = GrowsTo-trans _ _ later c.in_ok-class.ensures.grown after_class in
    let fields = fields-shown later _ _ (c.in_ok-fields.ensures.records later after_fields) in
    let class = c.in_ok-class.ensures.name later after_class in
    let name = c.in_ok-name.ensures.name later grown in
    record {
      shown = λ i. record { name = name.0 i; class = (class.0 ∙ c.class_of_object.ensures) i; fields = fields.0 i };
      held = record { name = name.1; class = class.1; fields = fields.1 };
      ordered = record { names = rw (keys-at (λ f. f.0) named_field (λ k d. refl) (codes "fields") ms) c.in_ok-fields.ensures.ordered; values = fields.2 };
    }

pub returns-clause-interned : goal.returns-clause-interned
returns-clause-interned c =
    let class = c.in_ok-class.ensures.interned ∙ ap (with_word c.records_of.new.names) c.class_of_object.ensures in
    object-interned (object_of c.args.key.now (view c.args.value.now)) c.args.names.now _ _ _ c.in_ok-fields.ensures.interned class c.in_ok-name.ensures.interned
