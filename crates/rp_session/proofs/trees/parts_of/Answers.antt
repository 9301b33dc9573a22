use Rattle.std.proofs.Common.{◌≡◌, ◌≤◌, ◌∙◌, ◌∷◌, ◌++◌, [], length, map, ap, subst, sym, arith}
use Rattle.std.proofs.lemmas.List.{nil_from_length}
use Rattle.std.specs.Vec.Iter.{into_iter_items}
use Rattle.rp_compile.specs.Compiled.{Compilation}
use Rattle.rp_grammar.specs.Program.{highest}
use Rattle.rp_session.specs.Programs.{IsResolved, source_of}
use Rattle.rp_session.proofs.Heights.{script_low}
use Rattle.rp_scope.specs.Numbers.{HasNumbers}
use Rattle.rp_scope.specs.Scopes.{scopes}
use Rattle.rp_tree.specs.Heights.{stmts_height}
use Rattle.rp_tree.specs.StatementViews.{view_tree}
use Rattle.rp_tree.specs.declared.stmt.Tree.{Tree}
use Rattle.rp_session.proofs.Lists.{all-yielded, map-push, one-yielded, zip-last}
use Rattle.rp_session.proofs.trees.parts_of.Goals as goal

pub loop-script-preserved : goal.loop-script-preserved
loop-script-preserved c =
    let at = c.loop-script in
    let script = c.in-Some.script in
    let rest = into_iter_items c.next.new.self in
    let steps : into_iter_items at.script-iterator ≡ script ∷ rest = c.in-Some.ensures.steps.0 in
    let made = c.into_parts-parts.ensures in
    let parts = c.into_parts-parts.result in
    let resolved : IsResolved parts.0 parts.1 = record {
      numbers = subst (λ (t : Tree). HasNumbers (view_tree t)) (sym made.tree) made.kept.numbers;
      low = subst (λ (t : Tree). stmts_height (view_tree t) ≤ highest) (sym made.tree) (script_low script made.kept);
      is = made.layouts ∙ made.kept.table ∙ ap (λ (t : Tree). scopes [] (source_of t)) (sym made.tree);
    } in
    record {
      yielded = one-yielded at.yielded (into_iter_items at.script-iterator) rest _ script steps at.invariant.yielded;
      left = (let was = at.invariant.left in
          let gone = c.in-Some.ensures.steps.1 in
          let short = ap length steps in
          omega arith);
      trees = map-push (λ (s : Compilation). s.rewritten) at.yielded at.trees.items c.push.new.self.items script
          (c.in_ok-push.ensures.items ∙ ap (λ (t : Tree). at.trees.items ++ t ∷ []) made.tree) at.invariant.trees;
      resolved = zip-last IsResolved at.trees.items c.push.new.self.items at.tables.items c.push-in-loop-script.new.self.items parts.0 parts.1
          c.in_ok-push.ensures.items c.in_ok-push-2.ensures.items at.invariant.resolved resolved;
    }

pub returns-clause-scripts : goal.returns-clause-scripts
returns-clause-scripts c =
    let at = c.loop-script in
    let gone = c.in-None.ensures.steps in
    let left = at.invariant.left in
    let none : into_iter_items at.script-iterator ≡ [] = nil_from_length (into_iter_items at.script-iterator) (omega arith) in
    let all : at.yielded ≡ c.args.scripts.items =
    all-yielded at.yielded (into_iter_items at.script-iterator) c.args.scripts.items none (at.invariant.yielded ∙ c.into_iter-script-iterator.ensures.into_iter_gives.0) in
    at.invariant.trees ∙ ap (map (λ (s : Compilation). s.rewritten)) all

pub returns-clause-resolved : goal.returns-clause-resolved
returns-clause-resolved c = c.loop-script.invariant.resolved
