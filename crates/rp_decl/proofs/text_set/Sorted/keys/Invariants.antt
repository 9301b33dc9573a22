use Rattle.std.proofs.Common.{◌≡◌, ◌++◌}
use Rattle.toml.specs.View.{members_view}
use Rattle.rp_decl.specs.Document.{each_member, key_text}
use Rattle.rp_decl.proofs.text_set.Sorted.keys.Given as goal

abbrev pub invariant-loop-key : goal.invariant-loop-key
invariant-loop-key l = l.texts.items ++ each_member key_text (members_view l.key-iterator) ≡ each_member key_text (members_view l.table.entries)
