use Rattle.std.proofs.Common.{codes, refl}
use Rattle.toml.specs.View.{view}
use Rattle.rp_decl.specs.Document.{class_of, members_of, row_of}
use Rattle.rp_decl.proofs.Growth.{GrowsTo-trans}
use Rattle.rp_decl.proofs.Interned.{class-interned}
use Rattle.rp_decl.proofs.Shown.{keys-at, like-shown, rows-shown}
use Rattle.rp_decl.proofs.members.ClassDeclRecord.read.Goals as goal

pub returns-clause-record_read : goal.returns-clause-record_read
returns-clause-record_read c later grown =
    let known = c.args.known.now in
    let ms = members_of (view c.args.value.now) in
    let after_like = GrowsTo-trans _ _ later c.in_ok-name.ensures.grown grown in
    let after_set = GrowsTo-trans _ _ later c.in_ok-like.ensures.grown after_like in
    let after_get = GrowsTo-trans _ _ later c.in_ok-set.ensures.grown after_set in
    let get = rows-shown later known _ _ (c.in_ok-get.ensures.records later after_get) in
    let set = rows-shown later known _ _ (c.in_ok-set.ensures.records later after_set) in
    let like = like-shown later _ _ (c.in_ok-like.ensures.like later after_like) in
    let name = c.in_ok-name.ensures.name later grown in
    record {
      shown = λ i. record { name = name.0 i; like = like.0 i; get = get.0 i; set = set.0 i };
      held = record { name = name.1; like = like.1; get = get.1; set = set.1 };
      within = record { get = get.2; set = set.2 };
      ordered = record {
        get = rw (keys-at (λ row. row.0) row_of (λ k d. refl) (codes "get") ms) c.in_ok-get.ensures.ordered;
        set = rw (keys-at (λ row. row.0) row_of (λ k d. refl) (codes "set") ms) c.in_ok-set.ensures.ordered;
      };
    }

pub returns-clause-interned : goal.returns-clause-interned
returns-clause-interned c =
    class-interned (class_of c.args.key.now (view c.args.value.now)) c.args.names.now _ _ _ _ c.in_ok-get.ensures.interned c.in_ok-set.ensures.interned c.in_ok-like.ensures.interned c.in_ok-name.ensures.interned
