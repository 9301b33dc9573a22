use Rattle.std.proofs.Common.{◌≡◌, List, drop, length, arith}
use Rattle.rp_meaning.specs.Frame.{Run}
use Rattle.rp_tree.specs.declared.expr.Target.{Target}
use Rattle.rp_access.specs.Moment.{state_of}
use Rattle.rp_engine.proofs.Doings.{always}
use Rattle.rp_engine.proofs.Firsts.{of_first, of_none}
use Rattle.rp_engine.specs.Does as does
use Rattle.rp_engine.specs.Law.{frame_in, rest_of}
use Rattle.rp_engine.specs.Rest.{did, rest}
use Rattle.rp_engine.specs.UnpackingSteps.{store_from}
use Rattle.rp_engine.proofs.Weights as weights
use Rattle.rp_targets.proofs.unpacking.store_each.Goals as goal

pub returns-in-len1-up-clause-law : goal.returns-in-len1-up-clause-law
returns-in-len1-up-clause-law c =
    let m = c.args.machine.now in
    of_first c.store_element.result
    (λ (xs : List Target). (base : Run) → rest_of base c.store_element.new.machine (state_of c.store_element.new.world) ≡ rest m.tasks (did (frame_in base m) (drop (length xs) m.values)
    (store_from (does.targets xs) m.values (frame_in base m) (state_of c.args.world.now))))
    c.args.targets.now c.target-item.result c.in-len1-up.len_at_least c.target-item.is c.store_element.ensures.law

pub returns-in-empty-clause-law : goal.returns-in-empty-clause-law
returns-in-empty-clause-law c =
    let m = c.args.machine.now in
    let w = c.args.world.now in
    let P : List Target → Type 0 = λ (xs : List Target). (base : Run) → rest_of base c.go.new.self (state_of w) ≡ rest m.tasks (did (frame_in base m) (drop (length xs) m.values)
    (store_from (does.targets xs) m.values (frame_in base m) (state_of w))) in
    of_none c.go.result P c.args.targets.now (omega arith) (always c.go.result _ (λ base. c.go.ensures.law base (state_of w)))

pub returns-in-len1-up-clause-less : goal.returns-in-len1-up-clause-less
returns-in-len1-up-clause-less c =
    grind (arith, weights.targets_front c.args.targets.now c.target-item.result c.in-len1-up.len_at_least c.target-item.is)
