-- Trees with guards and the tables of their sources.
use Rattle.std.proofs.Common.{◌≡◌, ◌<◌, ◌∙◌, ℕ, suc, List, [], ◌∷◌, length, map, refl, ap, sym, subst, arith}
use Rattle.std.specs.List.{AllZip, range_with_len}
use Rattle.std.proofs.lemmas.List.{map-id}
use Rattle.rp_compile.specs.Compiled.{Compilation, source_tree}
use Rattle.rp_engine.specs.Moment.{layouts_view, program_view}
use Rattle.rp_engine.specs.declared.units.Program.{Program}
use Rattle.rp_engine.specs.declared.units.Units.{Units}
use Rattle.rp_meaning.specs.Frame.{program_of}
use Rattle.rp_session.specs.Loads.{HasModule}
use Rattle.rp_session.specs.Programs.{IsResolved, source_of}
use Rattle.rp_session.specs.Ready.{IsLaidOut}
use Rattle.rp_session.specs.Runs.{IsProgramOf, program_in}
use Rattle.rp_session.specs.declared.loading.Loaded.{Loaded}
use Rattle.rp_scope.proofs.Mapped.{stmts_mapped}
use Rattle.rp_scope.proofs.TableLaws.{scopes_counted}
use Rattle.rp_scope.specs.Numbers.{HasNumbers, block_count, block_numbers}
use Rattle.rp_scope.specs.Scopes.{Scope}
use Rattle.rp_tree.specs.Marks.{erase, no_marks}
use Rattle.rp_tree.specs.Statements.{Stmts}
use Rattle.rp_tree.specs.StatementViews.{view_tree}
use Rattle.rp_tree.specs.declared.stmt.Tree.{Tree}
use Rattle.rp_world.specs.Globals.{placed_names}

-- a tree has the numbers of its source

erased_numbers : (x : Stmts) → block_numbers (erase x) ≡ block_numbers x
erased_numbers x = sym (stmts_mapped no_marks x) ∙ map-id (block_numbers x)

source_has_numbers : (x : Stmts) → HasNumbers x → HasNumbers (erase x)
source_has_numbers x has = subst (λ (ns : List ℕ). ns ≡ range_with_len 1 (length ns)) (sym (erased_numbers x)) has

-- its table has a scope for the program and for each of its code blocks
pub blocks_of : (tree : Tree) (table : List Scope) → IsResolved tree table → length table ≡ suc (block_count (view_tree tree))
blocks_of tree table resolved =
    ap length resolved.is ∙ scopes_counted [] (source_of tree) ∙ ap (λ (ns : List ℕ). suc (length ns)) (erased_numbers (view_tree tree))

-- a program of a tree and its table is one of the source
pub program_made : (tree : Tree) (table : List Scope) (p : Program) → IsResolved tree table → p.tree.now ≡ tree → p.layouts ≡ table → IsLaidOut p → IsProgramOf (source_of tree) p
program_made tree table p resolved same kept laid = record {
  is_source = ap source_of same;
  numbers = source_has_numbers (view_tree tree) resolved.numbers;
  table = kept ∙ resolved.is;
  laid = laid;
}

-- some trees, and the tables that are left for them

pub some_left : (tree : Tree) (trees : List Tree) (tables : List (List Scope)) → AllZip IsResolved (tree ∷ trees) tables → 0 < length tables
some_left tree trees [] are = absurd are
some_left tree trees (t ∷ ts) are = omega arith

pub taken_of : (tree : Tree) (trees : List Tree) (table : List Scope) (tables all : List (List Scope)) → all ≡ table ∷ tables → AllZip IsResolved (tree ∷ trees) all
    → IsResolved tree table × AllZip IsResolved trees tables
taken_of tree trees table tables all is are = subst (λ (all : List (List Scope)). AllZip IsResolved (tree ∷ trees) all) is are

-- the sources of compiled scripts
pub sources_are : (scripts : List Compilation) → map source_of (map (λ s. s.rewritten) scripts) ≡ map source_tree scripts
sources_are [] = refl
sources_are (s ∷ ss) = ap (λ (xs : List Stmts). source_tree s ∷ xs) (sources_are ss)

-- the module beside a world

pub module_blocks : (loaded : Loaded) (tree : Tree) (table : List Scope) → HasModule loaded → tree ≡ loaded.module → table ≡ loaded.layouts → length table ≡ suc (block_count (view_tree tree))
module_blocks loaded tree table whole same kept =
    ap length kept ∙ ap length whole.table ∙ scopes_counted (placed_names loaded.world.decl) (view_tree loaded.module)
    ∙ ap (λ (t : Tree). suc (block_count (view_tree t))) (sym same)

pub module_is : (loaded : Loaded) (units : Units) → units.module.tree.now ≡ loaded.module → units.module.layouts ≡ loaded.layouts → HasModule loaded
    → program_view units.module ≡ program_in (placed_names loaded.world.decl) (view_tree loaded.module)
module_is loaded units same kept whole = λ i. program_of (view_tree (same i)) (layouts_view ((kept ∙ whole.table) i))
