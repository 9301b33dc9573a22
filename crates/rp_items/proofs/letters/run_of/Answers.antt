use Rattle.std.proofs.Common.{◌≡◌, ℕ, ◌+◌, ◌-◌, ◌≤◌, false, List, drop, length, ◌∙◌, ap, subst, sym}
use Rattle.std.specs.List.{slice_range}
use Rattle.std.specs.Str.{IsAscii}
use Rattle.std.proofs.lemmas.Str.{IsAscii-drop, IsAscii-take, chars-IsAscii}
use Rattle.rp_items.proofs.Runs.{run-fits, run-taken}
use Rattle.rp_items.proofs.letters.run_of.Goals as goal

pub returns : goal.returns
returns c =
    let p = c.args.places in
    let t = c.args.text.now in
    let letters = c.in_ok-letters.letters.now in
    let on : p.backward ≡ false = c.if-places.false in
    let one : p.step ≡ 1 = c.if-places-ne1.false in
    let within : p.first + p.count ≤ length t = run-fits p (length t) on one c.requires.first c.requires.within in
    let ascii : IsAscii (slice_range letters p.first (p.first + p.count)) =
    IsAscii-take (drop p.first letters) (p.first + p.count - p.first) (IsAscii-drop letters p.first c.in_ok-letters.ensures.ascii) in
    chars-IsAscii c.ascii_slice.result.now (subst IsAscii (sym c.ascii_slice.ensures) ascii) ∙ c.ascii_slice.ensures
    ∙ ap (λ (xs : List ℕ). slice_range xs p.first (p.first + p.count)) c.in_ok-letters.ensures.same ∙ run-taken p t on one within
