use Rattle.std.proofs.Common.{◌≡◌, ◌++◌, ◌+◌, ◌-◌, ◌∙◌, ℕ, List, ap, append_assoc, arith, codes, flat_map, string_bytes}
use Rattle.std.specs.List.{range_with_len}
use Rattle.rp_gen.specs.Large.{quoted_name}
use Rattle.rp_gen.proofs.Lines.{one_more}
use Rattle.rp_gen.proofs.input.add_names.Goals as goal

abbrev behind_comma : ℕ → List ℕ
behind_comma i = codes ", " ++ quoted_name i

pub names-preserved : goal.names-preserved
names-preserved c =
    let i = c.names.i in
    let start = string_bytes c.add_name.new.text in
    let front = string_bytes c.names.text in
    let added =
    c.in_ok-add_name-2.ensures
    ∙ (ap (λ (text : List ℕ). text ++ quoted_name i) c.in_ok-push_str.ensures.bytes
    ∙ append_assoc front (codes ", ") (quoted_name i)) in
    let numbers : (i - 1) + 1 ≡ (i + 1) - 1 = omega (arith, c.names.auto.i) in
    one_more behind_comma 1 (i - 1) i start front (string_bytes c.add_name-in-names.new.text)
    (omega (arith, c.names.auto.i)) c.names.invariant added
    ∙ ap (λ (k : ℕ). start ++ flat_map behind_comma (range_with_len 1 k)) numbers
