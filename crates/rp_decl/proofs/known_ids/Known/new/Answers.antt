use Rattle.std.proofs.Common.{codes, refl, sym, ◌∙◌}
use Rattle.toml.specs.View.{members_view}
use Rattle.rp_decl.specs.Document.{group_of, role_of}
use Rattle.rp_decl.proofs.Shown.{keys-at}
use Rattle.rp_decl.proofs.known_ids.Known.new.Goals as goal

pub returns : goal.returns
returns c =
    let ms = members_view c.args.document.now.entries in
    record {
      permissions = c.in_ok-permissions.ensures;
      roles = c.in_ok-roles.ensures ∙ sym (keys-at (λ r. r.id) role_of (λ k d. refl) (codes "role") ms);
      groups = c.in_ok-groups.ensures ∙ sym (keys-at (λ g. g.id) group_of (λ k d. refl) (codes "group") ms);
    }
