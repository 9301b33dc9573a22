use Rattle.std.proofs.Common.{◌≡◌, length}
use Rattle.std.specs.List.{list_all}
use Rattle.rp_grammar.specs.Statements.{is_free}
use Rattle.rp_parse.specs.Gives.{context_of}
use Rattle.rp_parse.proofs.context.are_free.Given as goal

abbrev pub invariant-names : goal.invariant-names
invariant-names l = list_all (is_free (context_of l.context).function) l.fn.names ≡ list_all (is_free (context_of l.context).function) l.rest

abbrev pub decreases-names : goal.decreases-names
decreases-names l = length l.rest
