-- The run of the programs of a module and some scripts is that of their direct meaning.
use Rattle.std.proofs.Common.{◌≡◌, ℕ, zero, suc, ◌-◌, false, if◌then◌else◌, nat_eq, List, [], ◌∷◌, map, slice_get, sym, ap, subst, ◌∙◌, ne_eqb, arith}
use Rattle.std.specs.List.{AllZip}
use Rattle.std.specs.Option.{option_map_or}
use Rattle.rp_base.specs.declared.value.Name.{Name}
use Rattle.rp_decl.specs.Records.{Declarations}
use Rattle.rp_meaning.specs.BuiltIn.{name_of}
use Rattle.rp_meaning.specs.Frame.{Program, program_of}
use Rattle.rp_engine.specs.Moment as engine
use Rattle.rp_engine.specs.Moment.{layouts_view, program_view}
use Rattle.rp_engine.specs.declared.units.Program.{Program as CodeProgram}
use Rattle.rp_engine.specs.declared.units.Units.{Units}
use Rattle.rp_session.specs.Ready.{AreLaidOut, IsLaidOut}
use Rattle.rp_session.specs.Runs.{IsProgramOf, module_in, program_in, program_on, run_of}
use Rattle.rp_mark_laws.proofs.Codes.{program-erased}
use Rattle.rp_mark_laws.specs.Unmarked.{unmarked, unmarked_program}
use Rattle.rp_scope.specs.Scopes.{scopes}
use Rattle.rp_tree.specs.Marks.{HasNoGuards}
use Rattle.rp_tree.specs.Statements.{Stmts}
use Rattle.rp_tree.specs.StatementViews.{view_tree}
use Rattle.rp_access.specs.Natives.{is_attribute_word}
use Rattle.rp_world.specs.Globals.{global_names}

not-first : (place : ℕ) → nat_eq (suc place) 0 ≡ false
not-first place = ne_eqb (suc place) 0 (λ e. absurd (omega arith))

before : (place : ℕ) → suc place - 1 ≡ place
before place = omega arith

-- the script of a place, or else the module
module _ (module' : CodeProgram) where
  abbrev at_place : ℕ → List CodeProgram → CodeProgram
  at_place place us = option_map_or (λ u. u) (slice_get us place) module'

  abbrev on_side : ℕ → List CodeProgram → CodeProgram
  on_side n us = if nat_eq n 0 then module' else at_place (n - 1) us

  behind-first : (place : ℕ) (us : List CodeProgram) → on_side (suc place) us ≡ at_place place us
  behind-first place us =
      ap (λ b. if b then module' else at_place (suc place - 1) us) (not-first place) ∙ ap (λ i. at_place i us) (before place)

  laid-at : IsLaidOut module' → (trees : List Stmts) (us : List CodeProgram) → AllZip IsProgramOf trees us → (place : ℕ) → IsLaidOut (at_place place us)
  laid-at laid [] [] are place = laid
  laid-at laid [] (u ∷ us) are place = absurd are
  laid-at laid (t ∷ ts) [] are place = absurd are
  laid-at laid (t ∷ ts) (u ∷ us) are zero = are.0.laid
  laid-at laid (t ∷ ts) (u ∷ us) are (suc place) = laid-at laid ts us are.1 place

  laid-on : IsLaidOut module' → (trees : List Stmts) (us : List CodeProgram) → AllZip IsProgramOf trees us → (n : ℕ) → IsLaidOut (on_side n us)
  laid-on laid trees us are zero = laid
  laid-on laid trees us are (suc place) = subst IsLaidOut (sym (behind-first place us)) (laid-at laid trees us are place)

pub laid-out : (trees : List Stmts) (units : Units) → IsLaidOut units.module → AllZip IsProgramOf trees units.scripts.items → AreLaidOut units
laid-out trees units laid are side = laid-on units.module laid trees units.scripts.items are side.0

-- programs, seen in some way, are those of the meaning
module _ (seen : Program → Program) where
  -- a program is seen as that of a script of this source
  abbrev pub Shows : Stmts → CodeProgram → Type 0
  Shows tree u = seen (program_view u) ≡ program_in [] tree

  view-at : (m : Program) (module' : CodeProgram) → seen (program_view module') ≡ m → (trees : List Stmts) (us : List CodeProgram) → AllZip Shows trees us → (place : ℕ)
      → seen (program_view (at_place module' place us)) ≡ option_map_or (program_in []) (slice_get trees place) m
  view-at m module' is_module [] [] are place = is_module
  view-at m module' is_module [] (u ∷ us) are place = absurd are
  view-at m module' is_module (t ∷ ts) [] are place = absurd are
  view-at m module' is_module (t ∷ ts) (u ∷ us) are zero = are.0
  view-at m module' is_module (t ∷ ts) (u ∷ us) are (suc place) = view-at m module' is_module ts us are.1 place

  view-on : (m : Program) (module' : CodeProgram) → seen (program_view module') ≡ m → (trees : List Stmts) (us : List CodeProgram) → AllZip Shows trees us → (n : ℕ)
      → seen (program_view (on_side module' n us)) ≡ program_on m trees n
  view-on m module' is_module trees us are zero = is_module
  view-on m module' is_module trees us are (suc place) =
      ap (λ (u : CodeProgram). seen (program_view u)) (behind-first module' place us) ∙ view-at m module' is_module trees us are place

-- those of a module alone
pub run-alone : (names : List (List ℕ)) (d : Declarations) (body : Stmts) (units : Units) → program_view units.module ≡ module_in names d body → units.scripts.items ≡ []
    → engine.run_of (run_of names d body []) units ≡ run_of names d body []
unfolding is_attribute_word
run-alone names d body units is_module none =
    let are : AllZip (Shows (λ p. p)) [] units.scripts.items = subst (λ (us : List CodeProgram). AllZip (Shows (λ p. p)) [] us) (sym none) tt in
    λ i. record (run_of names d body []) { programs = λ side. view-on (λ p. p) (module_in names d body) units.module is_module [] units.scripts.items are side.0 i }

-- a program of a source is that of it, without its marks
of-source : (source : Stmts) (u : CodeProgram) → IsProgramOf source u → unmarked_program (program_view u) ≡ program_in [] source
of-source source u is =
    program-erased (view_tree u.tree.now) (layouts_view u.layouts) ∙ (λ i. program_of (is.is_source i) (layouts_view (is.table i)))

of-sources : (sources : List Stmts) (us : List CodeProgram) → AllZip IsProgramOf sources us → AllZip (Shows unmarked_program) sources us
of-sources [] [] are = tt
of-sources [] (u ∷ us) are = absurd are
of-sources (t ∷ ts) [] are = absurd are
of-sources (t ∷ ts) (u ∷ us) are = (of-source t u are.0, of-sources ts us are.1)

-- and so is that of a tree that has no marks
of-plain : (m : Program) (first : List Name) (body : Stmts) → HasNoGuards body → m ≡ program_in first body → unmarked_program m ≡ program_in first body
of-plain m first body plain is =
    ap unmarked_program is ∙ program-erased body (layouts_view (scopes first body))
    ∙ (λ i. program_of (plain i) (layouts_view (scopes first body)))

-- those of a module and of scripts of these sources, without their marks
pub run-is : (names : List (List ℕ)) (d : Declarations) (body : Stmts) (sources : List Stmts) (units : Units) → HasNoGuards body
    → program_view units.module ≡ module_in names d body → AllZip IsProgramOf sources units.scripts.items
    → unmarked (engine.run_of (run_of names d body sources) units) ≡ run_of names d body sources
unfolding is_attribute_word
run-is names d body sources units plain is_module are =
    let module' : unmarked_program (program_view units.module) ≡ module_in names d body = of-plain (program_view units.module) (map (name_of names) (global_names d)) body plain is_module in
    λ i. record (run_of names d body sources) {
      programs = λ side.
          view-on unmarked_program (module_in names d body) units.module module' sources units.scripts.items (of-sources sources units.scripts.items are) side.0 i;
    }
