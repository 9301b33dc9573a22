use Rattle.std.proofs.Common.{◌+◌, ◌++◌, append-nil, arith, drop, length, List, string_bytes, ap, sym, ◌∙◌}
use Rattle.std.proofs.lemmas.List.{drop_all}
use Rattle.rp_base.specs.declared.value.Value.{Value}
use Rattle.rp_methods.proofs.Turns.{bytes_preceded, joined-turn, longer}
use Rattle.rp_methods.proofs.text_makers.push_others.Goals as goal

pub loop-value-preserved : goal.loop-value-preserved
loop-value-preserved c =
    joined-turn c.args.between.now (string_bytes c.loop-value.all) (string_bytes c.push_next.new.all) (string_bytes c.args.all.now ++ bytes_preceded c.args.between.now c.args.others.now)
    c.args.others.now c.loop-value.value-index c.value-item.result c.value-item.is (omega arith) c.loop-value.invariant c.in_ok-push_next.ensures

pub returns-then-as_str-room : goal.returns-then-as_str-room
returns-then-as_str-room c =
    let whole = string_bytes c.args.all.now ++ bytes_preceded c.args.between.now c.args.others.now in
    let turn = joined-turn c.args.between.now (string_bytes c.loop-value.all) (string_bytes c.push_next.new.all) whole c.args.others.now c.loop-value.value-index c.value-item.result
    c.value-item.is (omega arith) c.loop-value.invariant c.in_ok-push_next.ensures in
    let size = ap length c.as_str.ensures.value in
    longer (string_bytes c.push_next.new.all) (bytes_preceded c.args.between.now (drop (c.loop-value.value-index + 1) c.args.others.now)) whole c.args.room turn (omega (size, arith))

pub returns : goal.returns
returns c =
    let rest = drop_all c.loop-value.value-index c.args.others.now (omega arith) in
    sym (append-nil (string_bytes c.loop-value.all)) ∙ ap (λ (l : List Value). string_bytes c.loop-value.all ++ bytes_preceded c.args.between.now l) (sym rest) ∙ c.loop-value.invariant
