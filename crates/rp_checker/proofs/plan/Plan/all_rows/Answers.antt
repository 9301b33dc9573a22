use Rattle.std.proofs.Common.{◌≡◌, ◌<◌, ap, sym, subst, ◌∙◌, length, rules, arith}
use Rattle.std.proofs.lemmas.List.{with_items_is}
use Rattle.std.proofs.lemmas.Grind.{common_steps}
use Rattle.rp_checker.specs.Chain.{AllEnd, AreRight}
use Rattle.rp_checker.proofs.Within.{stands}
use Rattle.rp_checker.proofs.plan.Plan.all_rows.Goals as goal
use Rattle.rp_checker.proofs.plan.Plan.all_rows.Goals.{then-not-index+in_ok-settle, else-not-index}

pub loop-place-init : goal.loop-place-init
loop-place-init c = (search rules, search rules, grind (arith, common_steps), λ _. c.in_ok-rows.ensures.none _, search rules)

pub loop-place-preserved : goal.loop-place-preserved
loop-place-preserved c =
    let self = c.args.self.now in
    let right : AllEnd self → AreRight self c.if-not-index.done.items c.if-not-index.rows.items = λ all. elim c.if-not-index.branch [
      | then-not-index+in_ok-settle w ↦
          let done : c.if-not-index.done.items ≡ w.settle.new.done = ap (λ v. v.items) w.done-is ∙ with_items_is c.loop-place.done w.settle.new.done (omega arith) in
          let rows : c.if-not-index.rows.items ≡ w.settle.new.rows = ap (λ v. v.items) w.rows-is ∙ with_items_is c.loop-place.rows w.settle.new.rows (omega arith) in
          let old : AreRight self w.deref_mut-then-not-index.result.now w.deref_mut.result.now = rw (w.deref_mut-then-not-index.ensures.value, w.deref_mut.ensures.value) (c.loop-place.invariant.2 all) in
          subst (λ ds. AreRight self ds c.if-not-index.rows.items) (sym done) (subst (AreRight self w.settle.new.done) (sym rows) (w.in_ok-settle.ensures.right all old))
      | else-not-index w ↦
          let done : c.if-not-index.done.items ≡ c.loop-place.done.items = ap (λ v. v.items) w.done-is in
          let rows : c.if-not-index.rows.items ≡ c.loop-place.rows.items = ap (λ v. v.items) w.rows-is in
          subst (λ ds. AreRight self ds c.if-not-index.rows.items) (sym done) (subst (AreRight self c.loop-place.done.items) (sym rows) (c.loop-place.invariant.2 all))
    ] in
    (search rules, search rules, right, grind (arith, common_steps), grind (arith, common_steps))

pub returns-clause-all : goal.returns-clause-all
returns-clause-all c all place inside =
    let seen : length c.self.inside.classes.now ≡ length c.args.self.now.classes = ap (λ p. length p.classes) c.self.view_is in
    let low : place < c.loop-place.place = omega arith in
    (c.loop-place.invariant.2 all place (c.loop-place.invariant.4 place low), stands c.loop-place.rows.items place (omega arith))
