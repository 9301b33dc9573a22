use Rattle.std.proofs.Common.{◌++◌, ◌∙◌, List, ℕ, ap, flat_map}
use Rattle.rp_gen.specs.Large.{behind_names, below, names, object_lines}
use Rattle.rp_gen.proofs.input.make_declarations.Goals as goal

pub returns : goal.returns
returns c =
    c.in_ok-add_objects.ensures
    ∙ ap (λ (text : List ℕ). text ++ flat_map object_lines (below c.args.size)) (c.in_ok-push_str.ensures.bytes
    ∙ ap (λ (text : List ℕ). text ++ behind_names) (c.in_ok-add_names.ensures
    ∙ ap (λ (text : List ℕ). text ++ names c.args.size) c.in_ok-text.ensures.ok))
