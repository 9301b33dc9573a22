use Rattle.std.proofs.Common.{◌≡◌, ◌++◌, codes, ◌∙◌, sym, append_assoc, append-nil}
use Rattle.rp_run.proofs.Bytes.{detail-some, detail-none}
use Rattle.rp_run.proofs.answer.add_detail.Goals as goal

pub returns-then-is_empty : goal.returns-then-is_empty
returns-then-is_empty c =
    rw (detail-none _ _ c.as_str.ensures (sym c.is_empty.ensures ∙ c.if-is_empty.true)) (sym (append-nil _))

pub returns : goal.returns
returns c =
    let label : c.add_ascii.new.text ≡ c.args.text.now ++ codes ": " = c.in_ok-add_ascii.ensures in
    rw (
      detail-some _ _ c.as_str.utf8 c.as_str.ensures (sym c.is_empty.ensures
          ∙ c.if-is_empty.false),
      ← append_assoc,
      ← label,
      ← c.as_str-2.ensures,
    )
    c.add.ensures.added
