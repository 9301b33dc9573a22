-- Compiled scripts and trusted modules are laid out by their scopes.
use Rattle.std.proofs.Common.{◌≡◌, ◌≤◌, ◌<◌, refl, ◌∙◌, ℕ, List, [], length, arith}
use Rattle.rp_base.specs.Names.{same_name}
use Rattle.rp_base.specs.declared.value.Name.{Name}
use Rattle.rp_compile.specs.Compiled.{source_tree}
use Rattle.rp_meaning.specs.Scopes.{Layouts}
use Rattle.rp_scope.specs.Numbers.{block_count}
use Rattle.rp_scope.specs.Places.{locals}
use Rattle.rp_scope.specs.Scopes.{AreScopesOf, Scope}
use Rattle.rp_tree.specs.Maps.{no_blocks, without_blocks}
use Rattle.rp_tree.specs.Statements.{Stmts}
use Rattle.rp_tree.specs.StatementViews.{view_tree}
use Rattle.rp_fit_laws.proofs.Rooms.{each_scoped_is_laid_out}
use Rattle.rp_layout_laws.specs.Layout.{AreLocalsOf, EachCompiledIsLaidOut, EachNumberedIsLaidOut, EachTrustedIsLaidOut}
use Rattle.rp_layout_laws.proofs.Numbered.{each_differs_back, each_room_back}
use Rattle.rp_layout_laws.proofs.Statements.{each_spelled_differs}

-- the local names of each block, where they are those of a table of its scopes
locals_are : (first : List Name) (body : Stmts) (table : List Scope) → AreScopesOf table first body
    → (layouts : Layouts) → AreLocalsOf table layouts → (number : ℕ) → number ≤ block_count body
    → layouts.locals number ≡ locals same_name first body number
locals_are first body table scopes layouts same number within =
    let blocks = scopes.blocks in
    let there : number < length table = omega (arith, blocks, within) in
    same number ∙ scopes.local_names number there

pub each_numbered_is_laid_out : EachNumberedIsLaidOut
each_numbered_is_laid_out first body tokens spells has layouts same =
    each_scoped_is_laid_out first body layouts has same
    (each_differs_back no_blocks (λ n. refl) body (each_spelled_differs (without_blocks body) tokens spells))

pub each_compiled_is_laid_out : EachCompiledIsLaidOut
each_compiled_is_laid_out c is layouts same =
    let source = each_numbered_is_laid_out [] (source_tree c) is.tokens is.spells is.source_numbers layouts
    (locals_are [] (source_tree c) c.layouts is.scopes layouts same) in (
      source,
      record {
        numbers = is.numbers;
        code = λ n. refl;
        room = each_room_back layouts (view_tree c.rewritten) source.room;
      },
    )

pub each_trusted_is_laid_out : EachTrustedIsLaidOut
each_trusted_is_laid_out m is layouts same =
    each_numbered_is_laid_out is.first (view_tree m.tree) is.tokens is.spells is.numbers layouts
    (locals_are is.first (view_tree m.tree) m.layouts is.scopes layouts same)
