use Rattle.std.proofs.Common.{◌≡◌, ◌∙◌, ◌++◌, [], ◌∷◌, List, ℕ, false, Ok, sym, subst, ap, arith}
use Rattle.std.proofs.lemmas.List.{append-nil, nil_from_length}
use Rattle.std.specs.List.{All}
use Rattle.rp_token.specs.View.{IsHeld}
use Rattle.rp_more.specs.Literals.{literals}
use Rattle.rp_more.specs.LiteralSteps.{items_of, left}
use Rattle.rp_more.specs.NameSteps.{Follow}
use Rattle.rp_more.proofs.Growth.{grown-at, grown-on}
use Rattle.rp_more.proofs.Held.{All-first, All-grown, All-rest}
use Rattle.rp_more.proofs.Leading.{Gives-fault, fault_handed}
use Rattle.rp_more.proofs.NameWords.{Follow-refl, Follow-then}
use Rattle.rp_more.proofs.literals.each_written_out.Goals as goal

pub returns-in_err-take-clause-literals : goal.returns-in_err-take-clause-literals
returns-in_err-take-clause-literals c =
    let at = c.tokens in
    let rest = at.rest.items in
    let t = c.in-Some.token in
    let behind = c.pop_front.new.self.items in
    let new = c.take.new.names in
    let f = c.in_err-take.field-0.0 in
    let is = fault_handed c.from_residual-in_err-take.result f c.from_residual-in_err-take.ensures.1 in
    let split : rest ≡ t ∷ behind = c.in-Some.ensures.items in
    let P = λ (names : List (List ℕ)). literals false false (items_of names c.args.tokens.items) ≡ left names at.literals rest in
    λ more.
    let before = grown-at at.names new more P c.in_err-take.ensures.grown at.invariant.same ∙ (λ k. left (new ++ more) at.literals (split k)) in
    rw is (Gives-fault (new ++ more) (literals false false (items_of (new ++ more) c.args.tokens.items)) (left (new ++ more) at.literals (t ∷ behind))
    (left (new ++ more) c.take.new.self behind) f before (c.in_err-take.ensures.leads more))

pub returns-clause-literals : goal.returns-clause-literals
returns-clause-literals c =
    let at = c.tokens in
    let gone = rw c.in_default.is at c.pop_front.ensures.cases in
    let none : at.rest.items ≡ [] = nil_from_length at.rest.items (omega (arith, at.rest.ok.0, gone.0)) in
    λ more.
    let names = at.names ++ more in
    at.invariant.same more ∙ (λ k. left names at.literals (none k)) ∙ ap Ok (append-nil (items_of names at.literals.written.items))

pub take-requires : goal.take-requires
take-requires c =
    let at = c.tokens in
    let t = c.in-Some.token in
    let behind = c.pop_front.new.self.items in
    let split : at.rest.items ≡ t ∷ behind = c.in-Some.ensures.items in
    All-first (IsHeld at.names) t behind (subst (All (IsHeld at.names)) split at.invariant.held)

pub tokens-init : goal.tokens-init
tokens-init c =
    let names = c.args.names.now in
    let all = c.from_vec-rest.ensures.items in
    record {
      grown = ([], sym (append-nil names));
      held = subst (All (IsHeld names)) (sym all) c.requires;
      follows = subst (Follow names names []) (sym c.in_ok-literals.ensures.empty) (Follow-refl names []);
      same = λ more. sym (c.in_ok-literals.ensures.starts (names ++ more) c.args.tokens.items) ∙ ap (left (names ++ more) c.in_ok-literals.literals) (sym all);
    }

pub tokens-preserved : goal.tokens-preserved
tokens-preserved c =
    let at = c.tokens in
    let rest = at.rest.items in
    let t = c.in-Some.token in
    let behind = c.pop_front.new.self.items in
    let kept : behind ≡ c.give_back.new.tokens.items = sym c.give_back.ensures.items in
    let new = c.take.new.names in
    let g = c.in_ok-take.ensures.grown in
    let split : rest ≡ t ∷ behind = c.in-Some.ensures.items in
    let P = λ (names : List (List ℕ)). literals false false (items_of names c.args.tokens.items) ≡ left names at.literals rest in
    record {
      grown = grown-on _ _ _ at.invariant.grown g;
      follows = Follow-then c.args.names.now at.names new [] at.literals.written.items c.take.new.self.written.items g at.invariant.follows c.in_ok-take.ensures.follows;
      held = subst (All (IsHeld new)) kept (All-grown at.names new behind g (All-rest (IsHeld at.names) t behind (subst (All (IsHeld at.names)) split at.invariant.held)));
      same = λ more. grown-at at.names new more P g at.invariant.same ∙ (λ k. left (new ++ more) at.literals (split k)) ∙ c.in_ok-take.ensures.leads more ∙ ap (left (new ++ more) c.take.new.self) kept;
    }
