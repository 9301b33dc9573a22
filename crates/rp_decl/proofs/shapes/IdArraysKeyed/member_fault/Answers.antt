use Rattle.std.proofs.Common.{◌≡◌, true, false, map, rules}
use Rattle.std.specs.List.{list_any}
use Rattle.toml.specs.Data.{same_key}
use Rattle.toml.specs.View.{view}
use Rattle.rp_decl.specs.Path.{path_of}
use Rattle.rp_decl.specs.Shape.{within}
use Rattle.rp_decl.proofs.KeyTables.{at_key-id_arrays}
use Rattle.rp_decl.proofs.Paths.{path_of-Within}
use Rattle.rp_decl.proofs.shapes.IdArraysKeyed.member_fault.Goals as goal

pub returns-then-is_one_of : goal.returns-then-is_one_of
returns-then-is_one_of c =
    let keys = map (λ key. key.now) c.args.self.now.keys.now in
    let found : list_any (same_key c.args.key.now) keys ≡ true = search rules in
    rw (at_key-id_arrays keys c.args.key.now (within (path_of c.args.path.now) c.args.key.now) (view c.args.value.now), found) (rw path_of-Within at c.texts_fault.ensures)

pub returns-else-is_one_of : goal.returns-else-is_one_of
returns-else-is_one_of c =
    let keys = map (λ key. key.now) c.args.self.now.keys.now in
    let found : list_any (same_key c.args.key.now) keys ≡ false = search rules in
    rw (at_key-id_arrays keys c.args.key.now (within (path_of c.args.path.now) c.args.key.now) (view c.args.value.now), found) (rw path_of-Within at c.fault_at.ensures)
