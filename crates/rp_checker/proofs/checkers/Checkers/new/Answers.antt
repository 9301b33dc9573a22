use Rattle.std.proofs.Common.{◌≡◌, List, length, sym, ap, ◌∙◌, subst}
use Rattle.std.specs.List.{All}
use Rattle.std.specs.Map.{lookup}
use Rattle.rp_base.specs.declared.value.Name.{Name}
use Rattle.rp_decl.specs.Places.{IsClassWithin}
use Rattle.rp_decl.specs.declared.records.ClassDecl.{ClassDecl}
use Rattle.rp_checker.specs.Chain.{AllEnd, AreClassesWithin, HasAllRows, HaveRowsWithin, class_places}
use Rattle.rp_checker.specs.Lookup.{is_name}
use Rattle.rp_checker.specs.Plan.{Plan}
use Rattle.rp_checker.proofs.Answering.{answers-as}
use Rattle.rp_checker.proofs.Composition.{plan_of}
use Rattle.rp_checker.proofs.Plans.{places-within}
use Rattle.rp_checker.proofs.Within.{rows-within}
use Rattle.rp_checker.proofs.checkers.Checkers.new.Goals as goal

pub returns-clause-answers : goal.returns-clause-answers
returns-clause-answers c names r =
    let d = c.args.decl.now in
    let places = c.into_places.result in
    let made = c.in_ok-plan.ensures in
    let classes = made.classes ∙ c.classes.ensures.value in
    let permissions = made.permissions ∙ c.permissions.ensures in
    let plan : c.in_ok-plan.plan ≡ plan_of d places = λ k. record { classes = classes k; places = sym c.into_places.ensures k; permissions = permissions k } in
    let look = λ (name : Name). ap (lookup (is_name name)) c.into_places.ensures ∙ made.places name ∙ ap (λ cs. lookup (is_name name) (class_places cs)) c.classes.ensures.value in
    let rows = c.in_ok-rows.rows.items in
    let right = λ (all : AllEnd (plan_of d places)). subst (λ (p : Plan). HasAllRows p rows) plan (c.in_ok-rows.ensures.all (subst AllEnd (sym plan) all)) in
    answers-as names d r places rows look (λ name q e. places-within d.classes (is_name name) q (sym (look name) ∙ e)) right c.in_ok-places.places c.in_ok-places.ensures

pub returns-clause-declared : goal.returns-clause-declared
returns-clause-declared c =
    let d = c.args.decl.now in
    let rows = c.in_ok-rows.rows.items in
    let made = c.in_ok-plan.ensures in
    let declared : AreClassesWithin (plan_of d c.into_places.result) = record { each = subst (λ (cs : List ClassDecl). All (IsClassWithin (length d.permissions)) cs) c.classes.ensures.value c.classes.ensures.within } in
    let classes = made.classes ∙ c.classes.ensures.value in
    let permissions = made.permissions ∙ c.permissions.ensures in
    let plan : c.in_ok-plan.plan ≡ plan_of d c.into_places.result = λ k. record { classes = classes k; places = sym c.into_places.ensures k; permissions = permissions k } in
    let all = subst (λ (p : Plan). HaveRowsWithin (length p.permissions) rows) plan (c.in_ok-rows.ensures.within (subst AreClassesWithin (sym plan) declared)) in
    rows-within (length d.permissions) (record { places = c.in_ok-places.places; rows = rows }) all.each
