use Rattle.std.proofs.Common.{arith, rules}
use Rattle.std.proofs.lemmas.Grind.{common_steps}
use Rattle.rp_tree.proofs.ExpressionEquations.{params_out}
use Rattle.rp_scope.proofs.Listings.{listings}
use Rattle.rp_scope.proofs.mentions.note_params.Goals as goal

pub returns : goal.returns
returns c = first_of (grind (arith, common_steps, params_out, listings), grind (arith, params_out, listings), search (rules, params_out, listings))
