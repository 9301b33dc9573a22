use Rattle.std.proofs.Common.{ap, sym, ◌∙◌}
use Rattle.std.specs.Map.{lookup}
use Rattle.rp_dict.specs.Dict.{insert_entry}
use Rattle.rp_store.specs.Key.{same_name}
use Rattle.rp_world.proofs.Tabled.{place-added, place-kept}
use Rattle.rp_world.proofs.class_places.ClassPlaces.add.Goals as goal

pub returns-in-Some : goal.returns-in-Some
returns-in-Some c = place-kept c.args.name c.args.place _ c.args.self.now (sym c.in-Some.ensures)

pub push-requires : goal.push-requires
push-requires c = ap (lookup (same_name c.args.name)) c.self.view_is ∙ sym c.in-None.ensures

pub returns-in_ok-push-in-None : goal.returns-in_ok-push-in-None
returns-in_ok-push-in-None c other =
    ap (lookup (same_name other)) (c.in_ok-push-in-None.ensures.pushed ∙ ap (λ table. insert_entry same_name table c.args.name c.args.place) c.self.view_is)
    ∙ place-added c.args.name c.args.place c.args.self.now (sym c.in-None.ensures) other
