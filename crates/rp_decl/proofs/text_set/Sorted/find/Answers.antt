use Rattle.std.proofs.Common.{◌≡◌, rules, chars, ◌∙◌}
use Rattle.std.proofs.lemmas.Fn.{always_returns_same}
use Rattle.rp_decl.specs.Order.{text_cmp}
use Rattle.rp_decl.proofs.Places.{searched}
use Rattle.rp_decl.proofs.text_set.Sorted.find.Goals as goal

pub returns : goal.returns
returns c =
    let text = chars c.args.text.now in
    let facts = c.binary_search_by.ensures in
    let position = facts.position (λ y. text_cmp y text) (always_returns_same _ (λ a r. r ≡ text_cmp a.0.now text) _ (λ a r g called. (search rules, search rules))) in
    c.ok.ensures.value ∙ rw (← c.self.view_is, ← c.deref.ensures.value) (searched _ (rw c.deref.ensures.value c.self.invariant) text _ facts.bound position)
