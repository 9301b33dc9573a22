use Rattle.std.proofs.Common.{◌∙◌, sym}
use Rattle.toml.specs.View.{members_view}
use Rattle.rp_decl.specs.Consistency.{class_names}
use Rattle.rp_decl.specs.Document.{records_of}
use Rattle.rp_decl.proofs.Named.{likes-at, classes-at}
use Rattle.rp_decl.proofs.Unknown.{least-unknown-and}
use Rattle.rp_decl.proofs.consistency.class_fault.Goals as goal

pub returns : goal.returns
returns c =
    let ms = members_view c.args.document.now.entries in
    let likes = rw c.requires at c.in_ok-places.ensures.unknown in
    let objects = rw c.requires at c.in_ok-objects.ensures in
    let places = c.as_slice.ensures.value ∙ rw c.requires at c.in_ok-places.ensures.places in
    let ring = c.in_ok-ring.ensures (records_of ms) c.requires places in
    rw (c.lesser_of-2.ensures, c.lesser_of.ensures, likes, objects, ring, likes-at ms, classes-at ms)
    (sym (least-unknown-and (class_names (records_of ms)) _ _ _))
