use Rattle.std.proofs.Common.{◌≡◌, suc, ◌+◌, ◌-◌, [], ◌∷◌, length, length-append, Err, refl, sym, ap, ◌∙◌, subst, arith, rules}
use Rattle.std.proofs.lemmas.List.Elements.{All-nil, All-push}
use Rattle.rp_store.specs.Kept.{AreFit, IsFit}
use Rattle.rp_store.proofs.CallerLemmas.{KeepsShape-same, KeepsShape-trans}
use Rattle.rp_access.proofs.Going.{IsEnd-same}
use Rattle.rp_access.specs.Moment.{decided_frame, state_of}
use Rattle.rp_access.specs.Spots.{cursor_at}
use Rattle.rp_access.specs.Unpacking.{exactly_behind}
use Rattle.rp_access.proofs.Unpacked.{behind_none}
use Rattle.rp_access.proofs.unpacking.all_elements.Goals as goal

pub loop-init : goal.loop-init
loop-init c =
    let v = c.args.value.now in
    let s = state_of c.args.world.now in
    let none : c.args.count ≡ c.args.count - 0 = omega arith in record {
      same = λ frame is. behind_none c.args.count (cursor_at v c.args.spot) (decided_frame frame) s
          ∙ ap (λ us. exactly_behind us c.args.count (cursor_at v c.args.spot) (decided_frame frame) s) (sym c.in_ok-elements.ensures)
          ∙ ap (λ n. exactly_behind c.in_ok-elements.elements.items n (cursor_at v c.args.spot) (decided_frame frame) s) none;
      taken = ap length c.in_ok-elements.ensures;
      faithful = c.requires.faithful;
      shape = KeepsShape-same _ _ refl;
      fit = subst (AreFit c.args.world.now.store.heap c.args.side) (sym c.in_ok-elements.ensures) (All-nil (IsFit c.args.world.now.store.heap c.args.side));
      fewer = omega arith;
    }

pub loop-preserved : goal.loop-preserved
loop-preserved c =
    let l = c.loop in
    let v = c.args.value.now in
    let e = c.in_ok-element.element in
    let next = c.in_ok-element.next in
    let u = c.one_element.new.world in
    let k = c.args.count - (l.counter + 1) in
    let less : c.args.count - l.counter ≡ suc k = omega arith in record {
      same = λ frame is. l.invariant.same frame is
          ∙ ap (λ n. exactly_behind l.elements.items n (cursor_at v l.spot) (decided_frame frame) (state_of l.world)) less
          ∙ c.in_ok-element.ensures.law l.elements.items k frame is
          ∙ ap (λ us. exactly_behind us k (cursor_at v next) (decided_frame frame) (state_of u)) (sym c.in_ok-keep.ensures);
      taken = omega (arith, ap length c.in_ok-keep.ensures, length-append l.elements.items (e ∷ []), l.invariant.taken);
      faithful = c.one_element.ensures.faithful;
      shape = KeepsShape-trans c.args.world.now.store.heap l.world.store.heap u.store.heap l.invariant.shape c.one_element.ensures.shape;
      fit = subst (AreFit u.store.heap c.args.side) (sym c.in_ok-keep.ensures)
          (All-push (IsFit u.store.heap c.args.side) l.elements.items e (c.one_element.ensures.shape.all_fit c.args.side l.elements.items l.invariant.fit) c.in_ok-element.ensures.fit);
      fewer = omega (arith, l.invariant.fewer, c.one_element.ensures.fewer);
    }

pub returns-in_err-element-clause-law : goal.returns-in_err-element-clause-law
returns-in_err-element-clause-law c =
    let l = c.loop in
    let v = c.args.value.now in
    let u = state_of c.one_element.new.world in
    let k = c.args.count - (l.counter + 1) in
    let less : c.args.count - l.counter ≡ suc k = omega arith in
    let e : c.from_residual-in_err-element.result ≡ Err c.in_err-element.field-0.0 = search rules in
    λ frame is. rw e (IsEnd-same c.in_err-element.field-0.0 u _ _
    (l.invariant.same frame is ∙ ap (λ n. exactly_behind l.elements.items n (cursor_at v l.spot) (decided_frame frame) (state_of l.world)) less)
    (c.in_err-element.ensures.law l.elements.items k frame is))

pub returns-in_err-no_element-clause-law : goal.returns-in_err-no_element-clause-law
returns-in_err-no_element-clause-law c =
    let l = c.loop in
    let v = c.args.value.now in
    let u = state_of c.no_element.new.world in
    let none : c.args.count - l.counter ≡ 0 = omega arith in
    let e : c.from_residual-in_err-no_element.result ≡ Err c.in_err-no_element.field-0.0 = search rules in
    λ frame is. rw e (IsEnd-same c.in_err-no_element.field-0.0 u _ _
    (l.invariant.same frame is ∙ ap (λ n. exactly_behind l.elements.items n (cursor_at v l.spot) (decided_frame frame) (state_of l.world)) none)
    (c.in_err-no_element.ensures.law l.elements.items frame is))

pub returns-clause-law : goal.returns-clause-law
returns-clause-law c =
    let l = c.loop in
    let v = c.args.value.now in
    let none : c.args.count - l.counter ≡ 0 = omega arith in
    λ frame is. l.invariant.same frame is ∙ ap (λ n. exactly_behind l.elements.items n (cursor_at v l.spot) (decided_frame frame) (state_of l.world)) none
    ∙ c.in_ok-no_element.ensures.law l.elements.items frame is
