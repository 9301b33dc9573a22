use Rattle.std.proofs.Common.{sym, ap, map, ◌∙◌}
use Rattle.rp_tree.specs.StatementViews.{view_tree}
use Rattle.rp_base.specs.Names.{word_of}
use Rattle.rp_policy.specs.Offences.{offence_named}
use Rattle.rp_policy.proofs.Augmented.{augments_names}
use Rattle.rp_policy.proofs.Collections.{found-body}
use Rattle.rp_policy.proofs.Renamed.{offences-named}
use Rattle.rp_policy.proofs.statements.offences.Goals as goal

pub returns-clause-found : goal.returns-clause-found
returns-clause-found c = found-body c.args.names.now _ _ _ _ _ c.new-collector.ensures c.in_ok-block.ensures c.deref.ensures.value c.into_found.ensures

pub returns-clause-unaugmented : goal.returns-clause-unaugmented
returns-clause-unaugmented c = λ none. augments_names (word_of c.args.names.now) (view_tree c.args.tree.now) (sym (returns-clause-found c) ∙ none)

pub returns-clause-told : goal.returns-clause-told
returns-clause-told c =
    ap (map (offence_named (word_of c.args.names.now))) (returns-clause-found c) ∙ sym (offences-named (word_of c.args.names.now) (view_tree c.args.tree.now))
