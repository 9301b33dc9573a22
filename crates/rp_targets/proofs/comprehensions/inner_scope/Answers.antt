use Rattle.std.proofs.Common.{◌≡◌, ◌++◌, ◌-◌, ℕ, List, [], Option, Some, arith, ap, length, subst, sym, ◌∙◌}
use Rattle.std.specs.Prelude.{IfSome}
use Rattle.std.proofs.lemmas.List.Elements.{All-nil}
use Rattle.rp_access.specs.Comes.{Comes}
use Rattle.rp_access.specs.Moment.{state_of}
use Rattle.rp_base.specs.declared.value.Value.{Value}
use Rattle.rp_enter.specs.Entering.{AreSlotsFit}
use Rattle.rp_meaning.specs.Expressions.{empty_slots}
use Rattle.rp_meaning.specs.State.{makes}
use Rattle.rp_scope.specs.Scopes.{locals_of}
use Rattle.rp_store.specs.Kept.{IsFit}
use Rattle.rp_store.specs.Object as object
use Rattle.rp_engine.specs.declared.units.Program.{Program}
use Rattle.rp_targets.proofs.comprehensions.inner_scope.Goals as goal

sub_none : (n : ℕ) → n - 0 ≡ n
sub_none n = omega arith

pub new_scope-requires-clause-slots : goal.new_scope-requires-clause-slots
new_scope-requires-clause-slots c =
    let heap = c.args.world.now.store.heap in
    let side = c.args.machine.now.frame.side in
    subst (λ (slots : List (Option Value)). AreSlotsFit heap side slots) (sym c.new-slots.ensures.items) (All-nil (λ (slot : Option Value). IfSome slot (IsFit heap side)))

pub returns-clause-law : goal.returns-clause-law
returns-clause-law c = λ base.
    let f = c.args.machine.now.frame in
    let n = c.local_count-locals.result in
    let made : List (Option Value) → ℕ → Type 0 = λ slots k.
    Comes c.new_scope.result (state_of c.new_scope.new.world) (makes f.side (object.scope (Some c.args.block) (Some f.scope) (slots ++ empty_slots k)) (state_of c.args.world.now)) in
    subst (λ (k : ℕ). made [] k) (sub_none n ∙ c.local_count-locals.ensures ∙ ap (λ (p : Program). length (locals_of p.layouts c.args.block)) c.program.ensures)
    (subst (λ (slots : List (Option Value)). made slots (n - length slots)) c.new-slots.ensures.items c.new_scope.ensures.law)
