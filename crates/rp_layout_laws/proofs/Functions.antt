-- Functions whose parameters differ, and statements whose `global` names no parameter, of parts that are joined.
use Rattle.std.proofs.Common.{◌≡◌, ℕ, true, List, [], ◌∷◌, ◌++◌, map, Option, Some}
use Rattle.std.specs.List.{filter_map, list_all}
use Rattle.rp_base.specs.declared.value.Name.{Name}
use Rattle.rp_tree.specs.Expressions as tree
use Rattle.rp_tree.specs.Statements.{Stmts}
use Rattle.rp_grammar.specs.Expressions.{distinct, parameter_names}
use Rattle.rp_grammar.specs.Statements.{is_free}
use Rattle.rp_scope.specs.Bindings.{all_bound, global_name, stmts_mentions, within}
use Rattle.rp_scope.specs.declared.mentions.Mention.{Mention}
use Rattle.rp_scope.specs.declared.mentions.Mention.TheVariants.{Bound, Global}
use Rattle.rp_meaning.specs.Blocks.{Code, Codes, def, lambda}
use Rattle.rp_apart_laws.specs.Apart.{Each}
use Rattle.rp_apart_laws.proofs.Lists.{each_append}
use Rattle.rp_fit_laws.specs.Programs.{ParametersDiffer}
use Rattle.rp_keeper_laws.proofs.Trees.{each_left, each_right}
use Rattle.rp_layout_laws.proofs.Parameters as names
use Rattle.rp_layout_laws.proofs.Parameters.{Spares}

-- ---- functions

abbrev Differs : ℕ × Code → Type 0
Differs e = ParametersDiffer e.1

-- the parameters of each of them differ
pub record Differ (codes : Codes) : Type 0 where
  pub each : Each Differs codes

pub none : Differ []
none = record { each = tt }

pub both : {xs ys : Codes} → Differ xs → Differ ys → Differ (xs ++ ys)
both {xs} {ys} h k = record { each = each_append Differs xs ys h.each k.each }

pub front : (xs ys : Codes) → Differ (xs ++ ys) → Differ xs
front xs ys h = record { each = each_left Differs xs ys h.each }

pub rest : (xs ys : Codes) → Differ (xs ++ ys) → Differ ys
rest xs ys h = record { each = each_right Differs xs ys h.each }

pub a_lambda : (n : ℕ) (ps : tree.Params) (x : tree.Expr) {codes : Codes} → distinct (parameter_names ps) ≡ true
    → Differ codes → Differ ((n, lambda ps x) ∷ codes)
a_lambda n ps x d h = record { each = (names.parameters_differ ps [] d tt, h.each) }

-- ---- what statements say of names

pub record Spare (f : Option (List Name)) (ms : List (Mention Name)) : Type 0 where
  pub each : Each (Spares f) ms

pub silent : {f : Option (List Name)} → Spare f []
silent = record { each = tt }

pub listed : {f : Option (List Name)} {xs ys : List (Mention Name)} → Spare f xs → Spare f ys → Spare f (xs ++ ys)
listed {f} {xs} {ys} h k = record { each = each_append (Spares f) xs ys h.each k.each }

pub listed_front : {f : Option (List Name)} (xs ys : List (Mention Name)) → Spare f (xs ++ ys) → Spare f xs
listed_front {f} xs ys h = record { each = each_left (Spares f) xs ys h.each }

pub listed_rest : {f : Option (List Name)} (xs ys : List (Mention Name)) → Spare f (xs ++ ys) → Spare f ys
listed_rest {f} xs ys h = record { each = each_right (Spares f) xs ys h.each }

pub above : {f : Option (List Name)} {n : Name} {ms : List (Mention Name)} → Spare f ms → Spare f (Bound n ∷ ms)
above h = record { each = (tt, h.each) }

pub bound : {f : Option (List Name)} (ns : List Name) → Spare f (all_bound ns)
bound {f} ns = record { each = names.bound_spare f ns }

-- what a definition says of names: its own, and nothing of `global` statements around it
pub defined : {f : Option (List Name)} {n : Name} (ms : List (Mention Name)) → Spare f (Bound n ∷ within ms)
defined {f} ms = record { each = (tt, names.within_spare f ms) }

pub free : (f : Option (List Name)) (ns : List tree.Named) → list_all (is_free f) ns ≡ true
    → Spare f (map (λ (n : tree.Named). Global n.name) ns)
free f ns h = record { each = names.all_free f ns h }

-- so the parameters of a function differ, where its statements spare them
pub a_def : (n : ℕ) (ps : tree.Params) (b : Stmts) {codes : Codes} → distinct (parameter_names ps) ≡ true
    → Spare (Some (parameter_names ps)) (stmts_mentions b) → Differ codes → Differ ((n, def ps b) ∷ codes)
a_def n ps b d spare h = record {
  each = (
    names.parameters_differ ps (filter_map global_name (stmts_mentions b)) d
        (names.spared (parameter_names ps) (stmts_mentions b) spare.each),
    h.each,
  );
}
