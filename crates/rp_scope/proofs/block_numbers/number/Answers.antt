use Rattle.std.proofs.Common.{arith}
use Rattle.std.proofs.lemmas.Grind.{common_steps}
use Rattle.rp_tree.specs.StatementViews.{view_tree}
use Rattle.rp_scope.specs.Numbers.{block_numbers}
use Rattle.rp_scope.proofs.Runs.{numbered_from}
use Rattle.rp_scope.proofs.block_numbers.number.Goals as goal

pub returns-clause-numbered : goal.returns-clause-numbered
returns-clause-numbered c = λ few. record { is_source = grind (arith, common_steps); has_numbers = numbered_from (block_numbers (view_tree c.args.tree.now)) _ (grind (arith, common_steps)) few }
