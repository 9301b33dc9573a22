-- What is spelled as an expression, read as what is assigned to or deleted: a tuple or a list is a group of targets, and a
-- primary is a place, at the attribute or the item that its last trailer names.
use Rattle.std.specs.Prelude.{Option, None, Some, option_map}
use Rattle.rp_base.specs.declared.value.Line.{Line}
use Rattle.rp_tree.specs.Expressions as tree
use Rattle.rp_tree.specs.Expressions.{Expr, Form, Exprs, Place, Target, Targets, Trailer, Trailers}
use Rattle.rp_grammar.specs.Expressions.{line_of}

abbrev pub with_trailers : Expr → Trailers → Expr
with_trailers e tree.no_trailers = e
with_trailers e (tree.trailer x xs) = tree.node (line_of e) (tree.primary e (tree.trailer x xs))

-- of a trailer and those behind it, all but the last, and the last
abbrev pub before_last : Trailer → Trailers → Trailers
before_last x tree.no_trailers = tree.no_trailers
before_last x (tree.trailer y ys) = tree.trailer x (before_last y ys)

abbrev pub last_of : Trailer → Trailers → Trailer
last_of x tree.no_trailers = x
last_of x (tree.trailer y ys) = last_of y ys

abbrev pub trailed_place : Expr → Trailer → Option Place
trailed_place e (tree.attr n guard) = Some (tree.to_attr e n guard)
trailed_place e (tree.item i guard) = Some (tree.to_item e i guard)
trailed_place e _ = None

abbrev pub place_form : Line → Form → Option Place
place_form line (tree.name n) = Some (tree.to_name (record { name = n; line = line }))
place_form line (tree.primary e (tree.trailer x xs)) = trailed_place (with_trailers e (before_last x xs)) (last_of x xs)
place_form line _ = None

abbrev pub as_place : Expr → Option Place
as_place (tree.node line form) = place_form line form

-- a group of at least one target
abbrev pub group_of : Option Targets → Option Target
group_of None = None
group_of (Some tree.no_targets) = None
group_of (Some (tree.target p ps)) = Some (tree.group (tree.target p ps))

abbrev pub one_more : Option Target → Option Targets → Option Targets
one_more None ps = None
one_more (Some p) None = None
one_more (Some p) (Some ps) = Some (tree.target p ps)

abbrev mutual
  pub as_target : Expr → Option Target
  as_target (tree.node line form) = target_form line form

  pub target_form : Line → Form → Option Target
  target_form line (tree.tuple es) = group_of (as_targets es)
  target_form line (tree.list es) = group_of (as_targets es)
  target_form line (tree.name n) = Some (tree.to_place (tree.to_name (record { name = n; line = line })))
  target_form line (tree.primary e xs) = option_map tree.to_place (place_form line (tree.primary e xs))
  target_form line _ = None

  pub as_targets : Exprs → Option Targets
  as_targets tree.no_exprs = Some tree.no_targets
  as_targets (tree.expr e es) = one_more (as_target e) (as_targets es)
