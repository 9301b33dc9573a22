use Rattle.std.proofs.Common.{◌∙◌, ◌++◌, ◌∷◌, [], codes, refl}
use Rattle.rp_token.specs.Form.{literal, mark, name}
use Rattle.rp_more.specs.Forms.{placed}
use Rattle.rp_more.specs.LiteralSteps.{items_of, join_front, place_item}
use Rattle.rp_more.proofs.Fronts.{pushed-five}
use Rattle.rp_more.proofs.NameWords.{Follow-words}
use Rattle.rp_more.proofs.literals.begin_call.Goals as goal

pub returns-clause-items : goal.returns-clause-items
returns-clause-items c = λ more.
    let names = c.join.new.names ++ more in
    let t = place_item c.args.place in
    let w = items_of names c.args.written.now.items in
    let b = items_of names c.push-2.new.written.items in
    pushed-five w (items_of names c.push.new.written.items) b (items_of names c.push-3.new.written.items) (items_of names c.push-4.new.written.items) (items_of names c.push-5.new.written.items)
    (placed t (literal [])) (placed t (mark (codes "."))) (placed t (name (codes "join"))) (placed t (mark (codes "("))) (placed t (mark (codes "[")))
    (c.in_ok-push.ensures.items names ∙ (λ k. w ++ placed t (literal (c.in_ok-copy.ensures k)) ∷ [])) (c.in_ok-push-2.ensures.items names)
    (c.in_ok-push-3.ensures.items names ∙ (λ k. b ++ placed t (c.in_ok-join.ensures.name more k) ∷ [])) (c.in_ok-push-4.ensures.items names) (c.in_ok-push-5.ensures.items names)

pub returns-clause-follows : goal.returns-clause-follows
returns-clause-follows c =
    Follow-words c.args.place join_front (codes "join" ∷ []) c.args.names.now c.join.new.names c.args.written.now.items c.push-5.new.written.items (returns-clause-items c) refl c.in_ok-join.ensures.word
