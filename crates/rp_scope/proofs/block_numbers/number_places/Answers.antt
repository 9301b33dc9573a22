use Rattle.std.proofs.Common.{◌≡◌, get_or, map, ap, sym, ◌∙◌, arith}
use Rattle.rp_tree.specs.ExpressionViews as views
use Rattle.rp_tree.specs.Maps as maps
use Rattle.rp_tree.specs.Maps.{no_blocks}
use Rattle.rp_scope.specs.Numbers as numbering
use Rattle.rp_scope.specs.NumberSteps.{past, renumbered, start}
use Rattle.rp_scope.proofs.Runs.{all_numbers-map, renumbered_all, start_all, all_kept}
use Rattle.rp_scope.proofs.Lists.{places_numbers_of}
use Rattle.rp_scope.proofs.Elements.{more, unvisited_more, begins_more}
use Rattle.rp_scope.proofs.block_numbers.number_places.Goals as goal

pub returns : goal.returns
returns c = record {
  kept = all_kept views.view_place (maps.map_place no_blocks) c.args.places.now c.places.places (omega arith) (λ k d lt. (c.places.invariant.numbered k d (omega arith)).0);
  numbers = places_numbers_of (map views.view_place c.places.places) ∙ (all_numbers-map views.view_place numbering.place_numbers c.places.places ∙ (renumbered_all (λ x. numbering.place_numbers (views.view_place x)) c.args.first c.args.places.now c.places.places (omega arith) (λ k d lt. (c.places.invariant.numbered k d (omega arith)).1) ∙ ap (renumbered c.args.first) (sym (places_numbers_of (map views.view_place c.args.places.now) ∙ all_numbers-map views.view_place numbering.place_numbers c.args.places.now))));
  next = c.places.invariant.begins ∙ (ap (start (λ x. numbering.place_numbers (views.view_place x)) c.args.first c.args.places.now) (omega arith) ∙ (start_all (λ x. numbering.place_numbers (views.view_place x)) c.args.first c.args.places.now ∙ ap (λ zs. past zs c.args.first) (sym (places_numbers_of (map views.view_place c.args.places.now) ∙ all_numbers-map views.view_place numbering.place_numbers c.args.places.now))));
}

pub places-preserved : goal.places-preserved
places-preserved c = record {
  unvisited = unvisited_more c.args.places.now c.places.places c.places.place-index _ c.places.invariant.unvisited.0 c.places.invariant.unvisited.1;
  numbered = more (λ k x y. (maps.map_place no_blocks (views.view_place x) ≡ maps.map_place no_blocks (views.view_place y)) × (numbering.place_numbers (views.view_place x) ≡ renumbered (start (λ x. numbering.place_numbers (views.view_place x)) c.args.first c.args.places.now k) (numbering.place_numbers (views.view_place y)))) c.args.places.now c.places.places c.places.place-index c.place-item.result _ (omega arith) c.places.invariant.unvisited.0 c.places.invariant.unvisited.1 c.places.invariant.numbered (c.number_place-next.ensures.kept, c.number_place-next.ensures.numbers ∙ ap (λ z. renumbered z (numbering.place_numbers (views.view_place (get_or c.places.places c.places.place-index c.place-item.result)))) c.places.invariant.begins);
  begins = begins_more (λ x. numbering.place_numbers (views.view_place x)) c.args.first c.args.places.now c.places.places c.places.place-index c.place-item.result c.places.next _ (omega arith) c.places.invariant.unvisited.0 c.places.invariant.unvisited.1 c.places.invariant.begins (c.number_place-next.ensures.next);
}
