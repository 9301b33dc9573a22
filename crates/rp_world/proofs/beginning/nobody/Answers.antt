use Rattle.std.proofs.Common.{◌≡◌, List, ℕ, [], Option, Some, None, subst}
use Rattle.rp_interact.specs.Answers.{IsRefusedFor}
use Rattle.rp_world.proofs.beginning.nobody.Goals as goal

pub unreachable-requires : goal.unreachable-requires
unreachable-requires c =
    let unknown = subst (IsRefusedFor c.args.decl.now []) c.in-Err-Unknown.field-0-is c.in-Err-Unknown.ensures.refused in
    let both : ◌≡◌ {A = Option (List ℕ)} None (Some c.in-Err-Unknown.field-0-0) = unknown [] in
    cc
