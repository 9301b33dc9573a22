use Rattle.std.proofs.Common.{◌≡◌, ◌≢◌, [], length, string_bytes, ap, sym, ◌∙◌, arith}
use Rattle.std.proofs.lemmas.Bool.Decides.{nat_tests}
use Rattle.std.proofs.lemmas.Str.{IsUtf8-string_bytes}
use Rattle.rp_decl.proofs.Paths.{within-root, within-more, empty_text}
use Rattle.rp_decl.proofs.path.within.Goals as goal

pub returns-then-is_empty : goal.returns-then-is_empty
returns-then-is_empty c =
    let none : length c.as_str.result.now ≡ 0 = grind (arith, nat_tests) in
    let empty : string_bytes c.args.path ≡ [] = sym c.as_str.ensures.value ∙ empty_text _ none in
    rw c.in_ok-push_str.ensures.bytes (within-root _ c.args.key.now empty)

pub returns : goal.returns
returns c =
    let some : string_bytes c.args.path ≢ [] = λ e. (let none : length c.as_str.result.now ≡ 0 = ap length (c.as_str.ensures.value ∙ e) in grind (arith, nat_tests)) in
    rw (c.in_ok-push_str-2.ensures.bytes, c.in_ok-push.ensures.bytes, c.in_ok-push.ensures.ascii (omega arith)) (within-more _ c.args.key.now (IsUtf8-string_bytes c.args.path) some)
