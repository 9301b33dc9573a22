use Rattle.std.proofs.Common.{◌≡◌, refl, sym, subst, ◌∙◌, None, Some, IfErr, IfOk}
use Rattle.std.specs.Option.{option_map}
use Rattle.rp_dict.specs.declared.slot.Slot.TheVariants.{Live, Dead}
use Rattle.rp_dict.specs.Slot.{sought}
use Rattle.rp_dict.proofs.Blocks.{blocks_like, place_like, rank_second, set_longer as longer}
use Rattle.rp_dict.proofs.Live.{absent-live, second_answer-absent, second_answer-held, second_place, taken_at}
use Rattle.rp_dict.proofs.Pairs.{same-with_second, with_second-missing}
use Rattle.rp_dict.proofs.table.Table+K+tuple2+A+B.set_second.Goals as goal

pub invariant_of-self : goal.invariant_of-self
invariant_of-self g c =
    let s = second_place g.K.PartialEq.eq c.args.key.now (sought g.K.PartialEq.eq (Live c.args.key)) (λ b. refl) (λ m. refl) c.args.value _ _ c.in-Some.place c.self.invariant.kept (sym c.in-Some.ensures.index) in
    rw (c.second_set.ensures.set (Dead 0, None)) (record { kept = s.kept; counted = c.self.invariant.counted ∙ sym s.counted; blocks = blocks_like _ _ _ c.self.invariant.blocks (longer _ _ _) (λ i below. rank_second c.args.value _ _ (Dead 0, None) i); stand = place_like _ _ _ _ c.self.invariant.stand (longer _ _ _) (λ i below. rank_second c.args.value _ _ (Dead 0, None) i) })

pub returns-in-Some-clause-set : goal.returns-in-Some-clause-set
returns-in-Some-clause-set g c =
    let s = second_place g.K.PartialEq.eq c.args.key.now (sought g.K.PartialEq.eq (Live c.args.key)) (λ b. refl) (λ m. refl) c.args.value _ _ c.in-Some.place c.self.invariant.kept (sym c.in-Some.ensures.index) in
    rw (← c.self.view_is, c.second_set.ensures.set (Dead 0, None)) s.pairs

pub returns-in-Some-clause-held : goal.returns-in-Some-clause-held
returns-in-Some-clause-held g c =
    let t = taken_at g.K.PartialEq.eq c.args.key.now (sought g.K.PartialEq.eq (Live c.args.key)) (λ b. refl) (λ m. refl) _ _ c.in-Some.place c.self.invariant.kept (sym c.in-Some.ensures.index) in
    rw (← c.self.view_is)
    (subst (λ o. IfOk c.second_set.result (λ old. option_map (λ pair. pair.1) o ≡ Some old)) t.value (second_answer-held c.args.value _ _ (c.second_set.ensures.held (Dead 0, None))))

pub returns-in-Some-clause-absent : goal.returns-in-Some-clause-absent
returns-in-Some-clause-absent g c =
    let t = taken_at g.K.PartialEq.eq c.args.key.now (sought g.K.PartialEq.eq (Live c.args.key)) (λ b. refl) (λ m. refl) _ _ c.in-Some.place c.self.invariant.kept (sym c.in-Some.ensures.index) in
    rw (← c.self.view_is)
    (subst (λ o. IfErr c.second_set.result (λ same. (same ≡ c.args.value) × (o ≡ None))) t.value (second_answer-absent c.args.value _ _ (c.second_set.ensures.held (Dead 0, None))))

pub returns-in-Some-clause-same : goal.returns-in-Some-clause-same
returns-in-Some-clause-same g c =
    same-with_second (g.K.PartialEq.eq c.args.key.now) c.args.value c.second_set.result _ _ (returns-in-Some-clause-set g c) (returns-in-Some-clause-absent g c)

pub returns-in-None-clause-set : goal.returns-in-None-clause-set
returns-in-None-clause-set g c =
    let none = absent-live g.K.PartialEq.eq c.args.key.now (sought g.K.PartialEq.eq (Live c.args.key)) (λ b. refl) (λ m. refl) _ _ c.self.invariant.kept c.in-None.ensures.found in
    rw (← c.self.view_is) (sym (with_second-missing (g.K.PartialEq.eq c.args.key.now) c.args.value _ none))

pub returns-in-None-clause-absent : goal.returns-in-None-clause-absent
returns-in-None-clause-absent g c =
    let none = absent-live g.K.PartialEq.eq c.args.key.now (sought g.K.PartialEq.eq (Live c.args.key)) (λ b. refl) (λ m. refl) _ _ c.self.invariant.kept c.in-None.ensures.found in
    rw (← c.self.view_is) (refl, none)
