use Rattle.std.proofs.Common.{◌≡◌, [], append-nil, sym, ◌∙◌, arith}
use Rattle.std.proofs.lemmas.Grind.{common_steps}
use Rattle.rp_decl.proofs.Documents.{key_texts, key_texts-ascend}
use Rattle.rp_decl.proofs.text_set.Sorted.keys.Goals as goal

pub invariant_of-result : goal.invariant_of-result
invariant_of-result c =
    let none : c.loop-key.key-iterator ≡ [] = grind (arith, common_steps) in
    let all : c.loop-key.texts.items ≡ key_texts c.args.table.now.entries = sym (append-nil _) ∙ (rw none at c.loop-key.invariant) in
    rw all (key_texts-ascend c.args.table.now.entries c.iter-key-items.ensures.ordered)
