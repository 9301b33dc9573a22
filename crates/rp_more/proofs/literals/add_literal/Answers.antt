use Rattle.std.proofs.Common.{◌≡◌, ◌∙◌, ◌++◌, ◌∷◌, [], List, ℕ, codes, refl, sym, subst, map, Some, Ok, Err}
use Rattle.rp_token.specs.Form.{mark}
use Rattle.rp_token.specs.View.{form_view, item_view}
use Rattle.rp_more.specs.declared.fault.MoreFault.{MoreFault}
use Rattle.rp_more.specs.declared.pieces.Piece.{Piece}
use Rattle.rp_more.specs.Forms.{text_of}
use Rattle.rp_more.specs.LiteralSteps.{Leads, in_place, items_of, join_front}
use Rattle.rp_more.specs.Literals.{elements, literal_forms, literal_items, with_front}
use Rattle.rp_more.specs.Pieces.{pieces_of}
use Rattle.rp_more.specs.PieceSteps.{piece_seen}
use Rattle.rp_more.proofs.Growth.{grown-at}
use Rattle.rp_more.proofs.Leading.{Leads-fault, at_place, fault_handed, join-done, join-failed}
use Rattle.rp_more.proofs.NameWords.{Follow-on, Follow-then, Follow-words}
use Rattle.rp_more.proofs.literals.add_literal.Goals as goal

pub returns-in_err-add_elements-clause-leads : goal.returns-in_err-add_elements-clause-leads
returns-in_err-add_elements-clause-leads c =
    let f = c.in_err-add_elements.field-0.0 in
    let is = fault_handed c.from_residual-in_err-add_elements.result f c.from_residual-in_err-add_elements.ensures.1 in
    λ more.
    let names = c.add_elements.new.names ++ more in
    let place = c.of-place.result in
    let w = items_of names c.args.written.now.items in
    let a = items_of names c.begin_call.new.written.items in
    let t = item_view names c.args.token.now in
    let ps = map piece_seen c.in-Some.pieces.items in
    let text = text_of (form_view names c.args.token.now.kind) in
    let found : pieces_of text ≡ Some ps = sym (rw c.in-Some.is at (c.in_ok-pieces.ensures names)) in
    let here : with_front w (literal_items t) ≡ with_front w (in_place place (literal_forms text)) = λ k. with_front w (in_place (sym c.of-place.ensures k) (literal_forms text)) in
    let v = items_of names c.add_elements.new.written.items in
    let leads = subst (λ (pieces : List Piece). Leads (with_front a (in_place place (elements [] (map piece_seen pieces)))) (Ok v) (Err f)) c.as_slice.ensures.value
    (c.in_err-add_elements.ensures.leads more) in
    let first = λ (g : MoreFault) (fails : with_front a (in_place place (elements [] ps)) ≡ Err g). here ∙ join-failed place w a text ps g found fails in
    rw is (Leads-fault (with_front w (literal_items t)) (with_front a (in_place place (elements [] ps))) (Ok v) (Ok v) f first leads)

pub returns-clause-leads : goal.returns-clause-leads
returns-clause-leads c = λ more.
    let names = c.add_elements.new.names ++ more in
    let place = c.of-place.result in
    let w = items_of names c.args.written.now.items in
    let ps = map piece_seen c.in-Some.pieces.items in
    let text = text_of (form_view names c.args.token.now.kind) in
    let found : pieces_of text ≡ Some ps = sym (rw c.in-Some.is at (c.in_ok-pieces.ensures names)) in
    let P = λ (ns : List (List ℕ)). items_of ns c.begin_call.new.written.items ≡ items_of ns c.args.written.now.items ++ at_place place join_front in
    let begun : P names = grown-at c.begin_call.new.names c.add_elements.new.names more P c.in_ok-add_elements.ensures.grown c.in_ok-begin_call.ensures.items in
    let leads = subst (λ (pieces : List Piece). with_front (items_of names c.begin_call.new.written.items) (in_place place (elements [] (map piece_seen pieces)))
    ≡ Ok (items_of names c.add_elements.new.written.items)) c.as_slice.ensures.value (c.in_ok-add_elements.ensures.leads more) in
    (λ k. with_front w (in_place (sym c.of-place.ensures k) (literal_forms text)))
    ∙ join-done place w (items_of names c.begin_call.new.written.items) (items_of names c.add_elements.new.written.items) (items_of names c.end_call.new.written.items) text ps found begun leads
    (c.in_ok-end_call.ensures names)

pub returns-clause-follows : goal.returns-clause-follows
returns-clause-follows c =
    let new = c.add_elements.new.names in
    let end = Follow-words c.of-place.result (mark (codes "]") ∷ mark (codes ")") ∷ []) [] new new c.add_elements.new.written.items c.end_call.new.written.items (λ more. c.in_ok-end_call.ensures (new ++ more)) refl refl in
    let before = c.args.written.now.items in
    let begun = c.begin_call.new.written.items in
    let ended = c.end_call.new.written.items in
    Follow-then c.args.names.now c.begin_call.new.names new before begun ended c.in_ok-add_elements.ensures.grown c.in_ok-begin_call.ensures.follows
    (Follow-on c.begin_call.new.names new begun c.add_elements.new.written.items ended c.in_ok-add_elements.ensures.follows end)
