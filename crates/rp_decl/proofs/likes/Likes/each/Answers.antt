use Rattle.std.proofs.Common.{◌≡◌, ◌∷◌, ◌∙◌, append_assoc, arith, codes, sym}
use Rattle.std.proofs.lemmas.Grind.{common_steps}
use Rattle.toml.specs.View.{view}
use Rattle.toml.proofs.Views.{Entry}
use Rattle.rp_decl.specs.Document.{members_of, text_at}
use Rattle.rp_decl.specs.Naming.{like_named}
use Rattle.rp_decl.proofs.Unknown.{least-unknown-like, unknown-step}
use Rattle.rp_decl.proofs.likes.Likes.each.Goals as goal

pub loop-name-preserved : goal.loop-name-preserved
loop-name-preserved c =
    let at = c.loop-name.invariant in
    let e : Entry = (c.in-Some._name.now, c.in-Some.class.now) in
    let iter : c.loop-name._name-iterator ≡ e ∷ c.next.new.self = grind (arith, common_steps) in
    let like = text_at (codes "like") (members_of (view e.1)) in
    let place = rw c.like_of-like.ensures at c.place_of-place.ensures in
    let fault = rw (place, c.like_of-like.ensures) at c.in_ok-fault.ensures in
    let unknown = fault ∙ sym (least-unknown-like c.args.classes.now like) in
    record {
      places = rw (c.in_ok-push.ensures.items, append_assoc, place) (rw iter at at.places);
      unknown = rw (c.lesser_of-unknown.ensures, unknown)
          (sym (unknown-step c.loop-name.unknown c.args.classes.now (like_named (view e.1)) _) ∙ rw iter at at.unknown);
    }
