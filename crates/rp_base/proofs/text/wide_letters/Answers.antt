use Rattle.std.proofs.Common.{◌≡◌, ◌∙◌, ap, chars, sym}
use Rattle.rp_base.proofs.Plain.{each_ascii, one_each}
use Rattle.rp_base.proofs.text.wide_letters.Goals as goal

pub returns-then-text-count : goal.returns-then-text-count
returns-then-text-count c = each_ascii _ c.utf8.text (c.if-text-count.true ∙ c.requires)

pub returns : goal.returns
returns c =
    let items : c.in_ok-new.field-0.value.items ≡ chars c.args.text.now = ap (λ v. v.items) c.in_ok-new.ensures.ok ∙ c.in_ok-by_place.ensures in
    (items, (λ ascii. c.if-text-count.false (one_each _ c.utf8.text ascii ∙ sym c.requires)))
