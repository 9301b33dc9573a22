use Rattle.std.proofs.Common.{◌≡◌, ◌∙◌, ◌++◌, ◌+◌, ◌<◌, ◌∷◌, [], List, ℕ, sym, ap, map, drop, length, rules, false, Ok}
use Rattle.std.proofs.Math.ListN.{drop_of_length-le}
use Rattle.std.proofs.lemmas.List.{append-nil, drop_more}
use Rattle.rp_more.specs.Literals.{elements, with_front}
use Rattle.rp_more.specs.LiteralSteps.{comma_before, in_place, items_of}
use Rattle.rp_more.specs.PieceSteps.{piece_seen}
use Rattle.rp_more.proofs.Growth.{grown-at, grown-on}
use Rattle.rp_more.proofs.Leading.{Leads-fault, fault_handed}
use Rattle.rp_more.proofs.NameWords.{Follow-then}
use Rattle.rp_more.proofs.literals.add_elements.Goals as goal

pub returns-in_err-add_element-clause-leads : goal.returns-in_err-add_element-clause-leads
returns-in_err-add_element-clause-leads c =
    let at = c.loop-piece in
    let ps = c.args.pieces.now in
    let i = at.piece-index in
    let f = c.in_err-add_element.field-0.0 in
    let is = fault_handed c.from_residual.result f c.from_residual.ensures.1 in
    let P = λ (names : List (List ℕ)).
    with_front (items_of names c.args.written.now.items) (in_place c.args.place (elements [] (map piece_seen ps)))
    ≡ with_front (items_of names at.written.items) (in_place c.args.place (elements (comma_before at.first) (map piece_seen (drop i ps)))) in
    let within : i < length ps = search rules in
    let rest : map piece_seen (drop i ps) ≡ piece_seen c.piece-item.result ∷ map piece_seen (drop (i + 1) ps) =
    ap (map piece_seen) (drop_more ps i c.piece-item.result within ∙ (λ k. sym c.piece-item.is k ∷ drop (i + 1) ps)) in
    λ more.
    let names = c.add_element.new.names ++ more in
    let before = grown-at at.names c.add_element.new.names more P c.in_err-add_element.ensures.grown at.invariant.same in
    let v = items_of names c.add_element.new.written.items in
    let others = map piece_seen (drop (i + 1) ps) in
    let start = with_front (items_of names c.args.written.now.items) (in_place c.args.place (elements [] (map piece_seen ps))) in
    let next = with_front (items_of names at.written.items) (in_place c.args.place (elements (comma_before at.first) (piece_seen c.piece-item.result ∷ others))) in
    let turned : start ≡ next = before ∙ (λ k. with_front (items_of names at.written.items) (in_place c.args.place (elements (comma_before at.first) (rest k)))) in
    rw is (Leads-fault start next (Ok v) (with_front v (in_place c.args.place (elements (comma_before false) others))) f (λ g fails. turned ∙ fails)
    (c.in_err-add_element.ensures.leads more others))

pub loop-piece-preserved : goal.loop-piece-preserved
loop-piece-preserved c =
    let at = c.loop-piece in
    let ps = c.args.pieces.now in
    let i = at.piece-index in
    let g = c.in_ok-add_element.ensures.grown in
    let P = λ (names : List (List ℕ)).
    with_front (items_of names c.args.written.now.items) (in_place c.args.place (elements [] (map piece_seen ps)))
    ≡ with_front (items_of names at.written.items) (in_place c.args.place (elements (comma_before at.first) (map piece_seen (drop i ps)))) in
    let within : i < length ps = search rules in
    let rest : map piece_seen (drop i ps) ≡ piece_seen c.piece-item.result ∷ map piece_seen (drop (i + 1) ps) =
    ap (map piece_seen) (drop_more ps i c.piece-item.result within ∙ (λ k. sym c.piece-item.is k ∷ drop (i + 1) ps)) in
    record {
      grown = grown-on _ _ _ at.invariant.grown g;
      follows = Follow-then c.args.names.now at.names c.add_element.new.names c.args.written.now.items at.written.items c.add_element.new.written.items g at.invariant.follows c.in_ok-add_element.ensures.follows;
      same = λ more.
          let names = c.add_element.new.names ++ more in
          grown-at at.names c.add_element.new.names more P g at.invariant.same
          ∙ (λ k. with_front (items_of names at.written.items) (in_place c.args.place (elements (comma_before at.first) (rest k))))
          ∙ c.in_ok-add_element.ensures.leads more (map piece_seen (drop (i + 1) ps));
    }

pub returns-clause-leads : goal.returns-clause-leads
returns-clause-leads c =
    let at = c.loop-piece in
    let ps = c.args.pieces.now in
    let none : drop at.piece-index ps ≡ [] = drop_of_length-le ps c.loop-piece-test.false in
    λ more.
    let w = items_of (at.names ++ more) at.written.items in
    at.invariant.same more ∙ (λ k. with_front w (in_place c.args.place (elements (comma_before at.first) (map piece_seen (none k))))) ∙ ap Ok (append-nil w)
