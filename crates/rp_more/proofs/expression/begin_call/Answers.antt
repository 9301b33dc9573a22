use Rattle.std.proofs.Common.{◌∙◌, ◌++◌, ◌∷◌, [], codes, refl}
use Rattle.rp_token.specs.Form.{mark, name}
use Rattle.rp_more.specs.Forms.{placed}
use Rattle.rp_more.specs.LiteralSteps.{items_of, place_item, str_front}
use Rattle.rp_more.proofs.Fronts.{pushed-three}
use Rattle.rp_more.proofs.NameWords.{Follow-words}
use Rattle.rp_more.proofs.expression.begin_call.Goals as goal

pub returns-clause-items : goal.returns-clause-items
returns-clause-items c = λ more.
    let names = c.str.new.names ++ more in
    let t = place_item c.args.place in
    let w = items_of names c.args.written.now.items in
    pushed-three w (items_of names c.push.new.written.items) (items_of names c.push-2.new.written.items) (items_of names c.push-3.new.written.items)
    (placed t (name (codes "str"))) (placed t (mark (codes "("))) (placed t (mark (codes "(")))
    (c.in_ok-push.ensures.items names ∙ (λ k. w ++ placed t (c.in_ok-str.ensures.name more k) ∷ [])) (c.in_ok-push-2.ensures.items names) (c.in_ok-push-3.ensures.items names)

pub returns-clause-follows : goal.returns-clause-follows
returns-clause-follows c =
    Follow-words c.args.place str_front (codes "str" ∷ []) c.args.names.now c.str.new.names c.args.written.now.items c.push-3.new.written.items (returns-clause-items c) refl c.in_ok-str.ensures.word
