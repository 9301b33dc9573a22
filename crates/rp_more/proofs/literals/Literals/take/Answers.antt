use Rattle.std.proofs.Common.{◌≡◌, ◌∙◌, sym, ap, rules, true, false, ◌++◌, ◌∷◌, [], Ok, Err}
use Rattle.std.proofs.lemmas.List.{map-append}
use Rattle.rp_token.specs.View.{item_view}
use Rattle.rp_more.specs.LiteralSteps.{items_of}
use Rattle.rp_more.specs.declared.fault.MoreFault.{MoreFault}
use Rattle.rp_more.specs.Literals.{begins, literal_items, literals, with_front}
use Rattle.rp_more.proofs.Fronts.{Leads-failed, Leads-joined, kept-left}
use Rattle.rp_more.proofs.KindForms.{form-ends_operand}
use Rattle.rp_more.proofs.Leading.{Leads-fault, fault_handed}
use Rattle.rp_more.proofs.NameWords.{Follow-held, Follow-refl}
use Rattle.rp_more.proofs.literals.Literals.take.Goals as goal

pub returns-then-self-clause-leads : goal.returns-then-self-clause-leads
returns-then-self-clause-leads c =
    λ more.
    let ns = c.add_literal.new.names ++ more in
    let inside : c.args.self.now.inside ≡ true = search rules in
    let t = item_view ns c.args.token in
    let ts = items_of ns c.args.behind.now.items in
    let w = items_of ns c.args.self.now.written.items in
    (λ i. with_front w (literals c.args.self.now.operand (inside i) (t ∷ ts))) ∙ Leads-joined w _ _ (literals true false ts) (c.in_ok-add_literal.ensures.leads more)

pub returns-in_err-add_literal-clause-leads : goal.returns-in_err-add_literal-clause-leads
returns-in_err-add_literal-clause-leads c =
    let f = c.in_err-add_literal.field-0.0 in
    let is = fault_handed c.from_residual.result f c.from_residual.ensures.1 in
    λ more.
    let ns = c.add_literal.new.names ++ more in
    let inside : c.args.self.now.inside ≡ true = search rules in
    let t = item_view ns c.args.token in
    let ts = items_of ns c.args.behind.now.items in
    let w = items_of ns c.args.self.now.written.items in
    let first = λ (g : MoreFault) (fails : with_front w (literal_items t) ≡ Err g).
    (λ i. with_front w (literals c.args.self.now.operand (inside i) (t ∷ ts))) ∙ Leads-failed w (literal_items t) (literals true false ts) g fails in
    let v = items_of ns c.add_literal.new.written.items in
    rw is (Leads-fault (with_front w (literals c.args.self.now.operand c.args.self.now.inside (t ∷ ts))) (with_front w (literal_items t))
    (with_front v (literals c.args.self.now.operand c.args.self.now.inside ts)) (Ok v) f first (c.in_err-add_literal.ensures.leads more))

pub returns-clause-leads : goal.returns-clause-leads
returns-clause-leads c = λ more.
    let ns = c.args.names.now ++ more in
    let old = c.args.self.now in
    let t = item_view ns c.args.token in
    let ts = items_of ns c.args.behind.now.items in
    let other : begins old.operand t ts ≡ false = sym (c.begins.ensures more) ∙ c.if-begins.false in
    kept-left (items_of ns old.written.items) (items_of ns c.keep.new.self.written.items) old.operand old.inside c.keep.new.self.operand c.keep.new.self.inside t ts (search rules) other
    (ap (items_of ns) c.in_ok-keep.ensures.items ∙ map-append (item_view ns) old.written.items (c.args.token ∷ [])) (c.in_ok-keep.ensures.operand ∙ c.ends_operand-self.ensures ∙ sym (form-ends_operand ns c.args.token.kind))
    (c.in_ok-keep.ensures.inside ∙ search rules)

pub returns-then-begins-clause-follows : goal.returns-then-begins-clause-follows
returns-then-begins-clause-follows c = Follow-refl c.args.names.now c.args.self.now.written.items

pub returns-clause-follows : goal.returns-clause-follows
returns-clause-follows c = Follow-held c.args.names.now c.args.self.now.written.items c.keep.new.self.written.items c.args.token c.requires c.in_ok-keep.ensures.items
