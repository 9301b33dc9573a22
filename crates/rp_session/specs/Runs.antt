-- The programs of a run, and the run of them.
use Rattle.std.specs.Prelude.{◌≡◌, ℕ, zero, suc, List, [], map, slice_get}
use Rattle.std.specs.Option.{option_map_or}
use Rattle.rp_access.specs.Natives.{natives}
use Rattle.rp_base.specs.Identifier.{is_identifier_word}
use Rattle.rp_base.specs.declared.value.Name.{Name}
use Rattle.rp_decl.specs.Records.{Declarations}
use Rattle.rp_engine.specs.Moment.{layouts_view}
use Rattle.rp_engine.specs.declared.units.Program.{Program as CodeProgram}
use Rattle.rp_session.specs.Ready.{IsLaidOut}
use Rattle.rp_world.specs.Globals.{global_names}
use Rattle.rp_meaning.specs.BuiltIn.{name_of}
use Rattle.rp_meaning.specs.Frame.{Program, Run, program_of}
use Rattle.rp_policy.specs.Forbidden.{is_forbidden_attribute}
use Rattle.rp_proxy.specs.Decide.{decide}
use Rattle.rp_scope.specs.Numbers.{HasNumbers}
use Rattle.rp_scope.specs.Scopes.{scopes}
use Rattle.rp_tree.specs.Marks.{erase}
use Rattle.rp_tree.specs.Statements.{Stmts}
use Rattle.rp_tree.specs.StatementViews.{view_tree}

-- a program, whose global names begin with these
abbrev pub program_in : List Name → Stmts → Program
program_in first body = program_of body (layouts_view (scopes first body))

-- The program of a trusted module (Python Language Reference, Complete Python programs). Its global names begin with those of the declared classes and
-- then of the declared objects, which are bound before it runs.
abbrev pub module_in : List (List ℕ) → Declarations → Stmts → Program
module_in names d body = program_in (map (name_of names) (global_names d)) body

-- the program of the side of a number: that of the script of this number, from 1 on; where there is none it is the one of the module
abbrev pub program_on : Program → List Stmts → ℕ → Program
program_on of_module scripts zero = of_module
program_on of_module scripts (suc place) = option_map_or (program_in []) (slice_get scripts place) of_module

-- The run of a module and some scripts: what is done through a proxy is decided (zope.security, checkers), the built-in functions and methods are
-- those of the library, and `getattr` and `setattr` take the identifiers that the policy of names lets pass.
abbrev pub run_of : List (List ℕ) → Declarations → Stmts → List Stmts → Run
run_of names d body scripts = record {
  programs = λ side. program_on (module_in names d body) scripts side.0;
  natives = natives;
  is_identifier = is_identifier_word;
  is_forbidden = is_forbidden_attribute;
  decide = decide;
}

-- The program runs a script of this source (RestrictedPython, transformer): its tree is the source but for guard marks, which mean nothing, and its
-- code blocks have their numbers, and its table is that of the scopes of the source; it may run.
pub record IsProgramOf (source : Stmts) (program : CodeProgram) : Type 0 where
  pub is_source : erase (view_tree program.tree.now) ≡ source
  pub numbers : HasNumbers source
  pub table : program.layouts ≡ scopes [] source
  pub laid : IsLaidOut program
