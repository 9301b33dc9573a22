use Rattle.std.proofs.Common.{◌≡◌, [], ◌<◌, ◌≤◌, ◌+◌, drop, get_or, length, arith, refl, sym, ap, ◌∙◌}
use Rattle.std.proofs.lemmas.Grind.{common_steps}
use Rattle.std.proofs.lemmas.List.{drop_all, drop_more, length-map}
use Rattle.rp_decl.specs.Consistency.{class_names, is_on_ring}
use Rattle.rp_decl.specs.InOrder.{AreAscending}
use Rattle.rp_decl.proofs.Orders.{lesser_of-none}
use Rattle.rp_decl.proofs.Rings.{is_on_ring-places, least-filter, likes_of}
use Rattle.rp_decl.proofs.ring.ring_fault.Goals as goal

pub loop-place-init : goal.loop-place-init
loop-place-init c = λ d named like. refl

pub loop-place-preserved : goal.loop-place-preserved
loop-place-preserved c = λ d named like.
    let names = class_names d in
    let likes = likes_of d in
    let place = c.loop-place.place in
    let items : c.texts-name-items.result.now ≡ names = c.texts-name-items.ensures.value ∙ named in
    let within : place < length names = rw items at c.loop-place-test.true in
    let up : AreAscending names = rw named at c.texts-name-items.ensures.ascending in
    let name : get_or names place [] ≡ c.name-item.result = rw (← items) (grind (arith, common_steps)) in
    let as_many : length likes ≡ length names = length-map d.classes _ ∙ sym (length-map d.classes _) in
    let rings = rw like at c.in_ok-rings.ensures in
    let marked = rings place (rw as_many within) in
    let reached = rw (c.as_slice.ensures.value, marked) at c.in_ok-fault.ensures in
    rw (c.lesser_of-least.ensures, reached)
    (sym (least-filter c.loop-place.least (is_on_ring d) c.name-item.result (drop (place + 1) names) _ (ap (is_on_ring d) (sym name) ∙ is_on_ring-places d up place within))
    ∙ rw (drop_more names place [] within, name) at (c.loop-place.invariant d named like))

pub returns : goal.returns
returns c = λ d named like.
    let names = class_names d in
    let all : length names ≤ c.loop-place.place = rw (c.texts-name-items.ensures.value ∙ named) at c.loop-place-test.false in
    let none : drop c.loop-place.place names ≡ [] = drop_all c.loop-place.place names all in
    sym (lesser_of-none c.loop-place.least) ∙ rw none at (c.loop-place.invariant d named like)
