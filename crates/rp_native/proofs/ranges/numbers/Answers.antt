use Rattle.std.proofs.Common.{◌∷◌, ◌++◌, ◌∙◌, List, [], ap, arith, map, subst, sym, zero-add}
use Rattle.std.specs.List.{range_with_len}
use Rattle.std.proofs.lemmas.List.Elements.{All-push}
use Rattle.std.proofs.lemmas.List.FromFn.{map-range_with_len_more}
use Rattle.rp_base.specs.declared.value.Value.{Value}
use Rattle.rp_store.specs.Kept.{AreSound, IsSound}
use Rattle.rp_native.specs.Ranges.{member}
use Rattle.rp_native.proofs.ranges.numbers.Goals as goal

pub loop-m-preserved : goal.loop-m-preserved
loop-m-preserved c =
    let m = c.loop-m.m in
    let f = member c.args.bounds in
    let so_far = map f (range_with_len 0 m) in
    let v : Value = c.member.result in (
      c.push_reserved.ensures.items ∙ ap (λ (l : List Value). l ++ v ∷ []) c.loop-m.invariant.0
          ∙ ap (λ (w : Value). so_far ++ w ∷ []) c.member.ensures ∙ sym (map-range_with_len_more f 0 m m (zero-add m)),
      (λ heap. subst (λ (vs : List Value). AreSound heap vs) (sym c.push_reserved.ensures.items)
          (All-push (IsSound heap) c.loop-m.numbers.items v (c.loop-m.invariant.1 heap) (subst (λ (w : Value). IsSound heap w) (sym c.member.ensures) tt))),
      omega (arith, c.push_reserved.ensures.len, c.loop-m.invariant.2),
      omega (arith, c.push_reserved.ensures.capacity, c.loop-m.invariant.3),
    )
