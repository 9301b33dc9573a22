use Rattle.std.proofs.Common.{◌≡◌, [], ap, ◌∙◌, refl, arith, rules}
use Rattle.std.proofs.lemmas.Grind.{common_steps}
use Rattle.std.specs.List.{filter_map}
use Rattle.indexmap.specs.IndexSet.{insert_all}
use Rattle.rp_scope.specs.Bindings.{bound_name, global_name}
use Rattle.rp_scope.specs.MentionSteps.{unlisted}
use Rattle.rp_scope.specs.Scopes.{same_name}
use Rattle.rp_scope.proofs.Sets.{scope_made}
use Rattle.rp_scope.proofs.layout.layout_of.Goals as goal

pub returns : goal.returns
returns c =
    let no_globals : c.new-globals.result.keys ≡ [] = first_of (search rules, grind arith, grind (arith, common_steps)) in
    let no_locals : c.new-locals.result.keys ≡ [] = first_of (search rules, grind arith, grind (arith, common_steps)) in
    scope_made (record { locals = c.add_locals.new.names.keys; globals = c.add_globals.new.names.keys; around = c.args.around }) c.args.around c.args.mentions.now (c.in_ok-add_globals.ensures ∙ ap (λ ks. insert_all same_name ks (filter_map global_name c.args.mentions.now)) no_globals) (c.in_ok-add_locals.ensures ∙ ap (λ ks. insert_all same_name ks (unlisted same_name c.add_globals.new.names.keys (filter_map bound_name c.args.mentions.now))) no_locals) refl
