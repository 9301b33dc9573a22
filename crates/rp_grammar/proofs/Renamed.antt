-- Tokens and trees with each name replaced by the one that a function gives it, and all else as it is. Names are places
-- in a list of words: a renaming is another order of that list, and maps different names to different ones.
use Rattle.std.specs.Prelude.{◌≡◌, map, option_map, Ok, Err}
use Rattle.rp_base.specs.declared.value.Name.{Name}
use Rattle.rp_token.specs.declared.token.Token.{Token}
use Rattle.rp_token.specs.declared.token.TokenKind.{TokenKind}
use Rattle.rp_token.specs.declared.token.TokenKind.TheVariants as kind
use Rattle.rp_tree.specs.Maps.{names_by, map_named, map_expr, map_form, map_exprs, map_maybe, map_pairs, map_tests, map_ops, map_clause, map_clauses, map_target, map_targets, map_place, map_params, map_plain, map_trailer, map_trailers, map_arg, map_args, map_stmt, map_stmt_form, map_stmts, map_maybe_stmts, map_branches, map_except, map_excepts}
use Rattle.rp_tree.specs.Expressions.{Named, Expr, Form, Exprs, Maybe, Pairs, Tests, Ops, Clause, Clauses, Target, Targets, Place, Params, Plain, Trailer, Trailers, Arg, Args}
use Rattle.rp_tree.specs.Statements.{Stmt, StmtForm, Stmts, MaybeStmts, Branches, Except, Excepts}
use Rattle.rp_grammar.specs.Kinds.{Tokens}
use Rattle.rp_grammar.specs.StatementReading.{Found}

-- different names stay different
abbrev pub IsInjective : (Name → Name) → Type 0
IsInjective f = (m n : Name) → f m ≡ f n → m ≡ n

abbrev pub renamed_kind : (Name → Name) → TokenKind → TokenKind
renamed_kind f (kind.Name n) = kind.Name (f n)
renamed_kind f k = k

abbrev pub renamed_token : (Name → Name) → Token → Token
renamed_token f t = record t { kind = renamed_kind f t.kind }

abbrev pub renamed_tokens : (Name → Name) → Tokens → Tokens
renamed_tokens f ts = map (renamed_token f) ts

abbrev pub renamed_named : (Name → Name) → Named → Named
renamed_named f = map_named (names_by f)

abbrev pub renamed_expr : (Name → Name) → Expr → Expr
renamed_expr f = map_expr (names_by f)

abbrev pub renamed_form : (Name → Name) → Form → Form
renamed_form f = map_form (names_by f)

abbrev pub renamed_exprs : (Name → Name) → Exprs → Exprs
renamed_exprs f = map_exprs (names_by f)

abbrev pub renamed_maybe : (Name → Name) → Maybe → Maybe
renamed_maybe f = map_maybe (names_by f)

abbrev pub renamed_pairs : (Name → Name) → Pairs → Pairs
renamed_pairs f = map_pairs (names_by f)

abbrev pub renamed_tests : (Name → Name) → Tests → Tests
renamed_tests f = map_tests (names_by f)

abbrev pub renamed_ops : (Name → Name) → Ops → Ops
renamed_ops f = map_ops (names_by f)

abbrev pub renamed_clause : (Name → Name) → Clause → Clause
renamed_clause f = map_clause (names_by f)

abbrev pub renamed_clauses : (Name → Name) → Clauses → Clauses
renamed_clauses f = map_clauses (names_by f)

abbrev pub renamed_target : (Name → Name) → Target → Target
renamed_target f = map_target (names_by f)

abbrev pub renamed_targets : (Name → Name) → Targets → Targets
renamed_targets f = map_targets (names_by f)

abbrev pub renamed_place : (Name → Name) → Place → Place
renamed_place f = map_place (names_by f)

abbrev pub renamed_params : (Name → Name) → Params → Params
renamed_params f = map_params (names_by f)

abbrev pub renamed_plain : (Name → Name) → Plain → Plain
renamed_plain f = map_plain (names_by f)

abbrev pub renamed_trailer : (Name → Name) → Trailer → Trailer
renamed_trailer f = map_trailer (names_by f)

abbrev pub renamed_trailers : (Name → Name) → Trailers → Trailers
renamed_trailers f = map_trailers (names_by f)

abbrev pub renamed_arg : (Name → Name) → Arg → Arg
renamed_arg f = map_arg (names_by f)

abbrev pub renamed_args : (Name → Name) → Args → Args
renamed_args f = map_args (names_by f)

abbrev pub renamed_stmt : (Name → Name) → Stmt → Stmt
renamed_stmt f = map_stmt (names_by f)

abbrev pub renamed_stmt_form : (Name → Name) → StmtForm → StmtForm
renamed_stmt_form f = map_stmt_form (names_by f)

abbrev pub renamed_stmts : (Name → Name) → Stmts → Stmts
renamed_stmts f = map_stmts (names_by f)

abbrev pub renamed_maybe_stmts : (Name → Name) → MaybeStmts → MaybeStmts
renamed_maybe_stmts f = map_maybe_stmts (names_by f)

abbrev pub renamed_branches : (Name → Name) → Branches → Branches
renamed_branches f = map_branches (names_by f)

abbrev pub renamed_except : (Name → Name) → Except → Except
renamed_except f = map_except (names_by f)

abbrev pub renamed_excepts : (Name → Name) → Excepts → Excepts
renamed_excepts f = map_excepts (names_by f)

-- what was read of a program, and the tokens behind it, or else the place that is told
abbrev pub renamed_found : (Name → Name) → Found Stmts → Found Stmts
renamed_found f (Ok x) = Ok (renamed_stmts f x.0, renamed_tokens f x.1)
renamed_found f (Err place) = Err (option_map (renamed_tokens f) place)
