use Rattle.std.proofs.Common.{[], ap, subst, sym, ◌∙◌}
use Rattle.std.specs.Prelude.{All, if◌then◌else◌}
use Rattle.std.proofs.lemmas.List.Elements.{All-nil}
use Rattle.rp_base.specs.declared.value.Name.{Name}
use Rattle.rp_base.specs.declared.value.Oid.{Oid}
use Rattle.rp_store.specs.Heap.{Names}
use Rattle.rp_store.specs.Parts.{IsFunction}
use Rattle.rp_access.proofs.Occupants.{functions_are}
use Rattle.rp_access.proofs.standing.functions_in.Goals as goal

pub returns-then-are_functions-clause-value : goal.returns-then-are_functions-clause-value
returns-then-are_functions-clause-value c = sym (ap (λ b. if b then c.args.methods else []) (sym c.are_functions.ensures ∙ c.if-are_functions.true))

pub returns-then-are_functions-clause-functions : goal.returns-then-are_functions-clause-functions
returns-then-are_functions-clause-functions c = functions_are c.args.store.now.heap c.args.methods (sym c.are_functions.ensures ∙ c.if-are_functions.true)

pub returns-clause-value : goal.returns-clause-value
returns-clause-value c = c.new.ensures ∙ sym (ap (λ b. if b then c.args.methods else []) (sym c.are_functions.ensures ∙ c.if-are_functions.false))

pub returns-clause-functions : goal.returns-clause-functions
returns-clause-functions c =
    subst (All (λ (m : Name × Oid). Names c.args.store.now.heap IsFunction m.1)) (sym c.new.ensures)
    (All-nil (λ (m : Name × Oid). Names c.args.store.now.heap IsFunction m.1))
