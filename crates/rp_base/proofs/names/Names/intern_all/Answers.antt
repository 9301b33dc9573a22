use Rattle.std.proofs.Common.{[], chars, arith}
use Rattle.std.proofs.lemmas.List.{get_or-map, length-map}
use Rattle.rp_base.proofs.names.Names.intern_all.Goals as goal

pub intern-requires : goal.intern-requires
intern-requires c =
    let i = c.loop-word.word-index in
    rw (get_or-map (λ word. chars word.now) c.args.words.now i (record { ref_ptr = (0, 0); now = [] }) [] (omega arith)) at (c.requires i [] (simp length-map (omega arith)))
