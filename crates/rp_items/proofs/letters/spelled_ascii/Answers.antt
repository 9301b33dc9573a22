use Rattle.std.proofs.Common.{◌≡◌, ℕ, ◌<◌, List, ◌++◌, encode_utf8, encode_utf8_all, filter_map, get_or, length, slice_get, Some, ◌∙◌, ap, subst, sym}
use Rattle.std.specs.List.{range_with_len}
use Rattle.rp_items.specs.SliceView.{place_at}
use Rattle.rp_items.proofs.Sliced.{slice_get-or, spelled-more}
use Rattle.rp_items.proofs.SlicePlaces.{taken-more}
use Rattle.rp_items.proofs.letters.spelled_ascii.Goals as goal

pub at-requires-clause-within : goal.at-requires-clause-within
at-requires-clause-within c = (length c.args.letters.now, (c.requires.small, c.requires.within))

pub loop-m-preserved : goal.loop-m-preserved
loop-m-preserved c =
    let cs = c.args.letters.now in
    let p = c.args.places in
    let h = λ (k : ℕ). slice_get cs (place_at p k) in
    let letter = get_or cs c.at.result 0 in
    let within : c.at.result < length cs = subst (λ (k : ℕ). k < length cs) (sym c.at.ensures) (c.requires.within c.loop-m.m c.loop-m-test.true).1 in
    let found : slice_get cs (place_at p c.loop-m.m) ≡ Some letter = ap (slice_get cs) (sym c.at.ensures) ∙ slice_get-or cs c.at.result 0 within in
    c.in_ok-push.ensures.bytes ∙ ap (λ (bs : List ℕ). bs ++ encode_utf8 letter) c.loop-m.invariant
    ∙ spelled-more (filter_map h (range_with_len 0 c.loop-m.m)) letter
    ∙ ap encode_utf8_all (sym (taken-more h c.loop-m.m letter found))
