-- A world whose names have grown.
use Rattle.std.proofs.Common.{◌≡◌, ℕ, List}
use Rattle.rp_decl.specs.Places.{GrowsTo}
use Rattle.rp_proxy.proofs.LaterNames.{trail-later, with_names}
use Rattle.rp_proxy.proofs.LaterRecords.{declarations-later}
use Rattle.rp_proxy.specs.Faithful.{IsFaithful}
use Rattle.rp_proxy.specs.declared.world.World.{World}
use Rattle.rp_world.specs.Worlds.{world_view}

-- all else that sessions share stays
pub world-later : (w : World) (later : List (List ℕ)) → GrowsTo w.names later → IsFaithful w → world_view (with_names w later) ≡ record (world_view w) { names = later }
world-later w later grown faithful =
    let declared = declarations-later w.names later grown w.decl faithful.read.held in
    let log = trail-later w.names later grown w.decl.permissions w.trail faithful.entries in
    λ k. record (world_view w) { log = log k; names = later; declarations = declared k }
