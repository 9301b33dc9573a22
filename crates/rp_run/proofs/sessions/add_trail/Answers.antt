use Rattle.std.proofs.Common.{◌≡◌, ◌∙◌, ◌++◌, ℕ, List, ap, codes, length, map, sym}
use Rattle.std.specs.Fmt.{decimal}
use Rattle.std.proofs.lemmas.List.{length-map}
use Rattle.rp_run.proofs.Blocks.{trail-written}
use Rattle.rp_run.specs.Output.{entry_lines}
use Rattle.rp_trail.specs.View.{entry_view, trail_view}
use Rattle.rp_words.specs.View.{pair_view}
use Rattle.rp_run.proofs.sessions.add_trail.Goals as goal

pub returns : goal.returns
returns c =
    let world = c.args.world.now in
    let log = trail_view world.names world.decl.permissions world.trail in
    let many : c.len.result ≡ length log =
    c.len.ensures ∙ sym (length-map world.trail (entry_view world.names world.decl.permissions)) in
    let counted : c.add_number.new.text ≡ c.add_ascii.new.text ++ decimal (length log) =
    c.in_ok-add_number.ensures ∙ ap (λ (n : ℕ). c.add_ascii.new.text ++ decimal n) many in
    trail-written c.add_entries.result c.args.text.now (codes "trail ") (decimal (length log)) (codes "\n")
    (entry_lines (map pair_view c.args.pairs.now) 0 log) _ _ _ _ c.in_ok-add_ascii.ensures counted
    c.in_ok-add_ascii-2.ensures c.add_entries.ensures
