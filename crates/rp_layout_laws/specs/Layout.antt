-- Programs that are laid out because tokens spell them: the grammar has it that the parameters of a function differ,
-- and that its `global` statements name none of them, so there is a slot for each in the scope of a call (Python
-- Language Reference, Function definitions; The global statement; Naming and binding).
use Rattle.std.specs.Prelude.{◌≡◌, ◌≤◌, ℕ, ◌+◌, true, List, ◌++◌, length, map}
use Rattle.rp_base.specs.Names.{is_held, same_name}
use Rattle.rp_base.specs.declared.value.Name.{Name}
use Rattle.rp_decl.specs.Apart.{AreNamesApart}
use Rattle.rp_decl.specs.InOrder.{AreInOrder}
use Rattle.rp_decl.specs.Records.{Declarations}
use Rattle.rp_compile.specs.Compiled.{Compilation, IsCompiled, source_tree}
use Rattle.rp_compile.specs.Trusted.{IsTrusted, TrustedModule}
use Rattle.rp_grammar.specs.Kinds.{Tokens}
use Rattle.rp_grammar.specs.Program.{Spells}
use Rattle.rp_meaning.specs.Blocks.{Code, of_stmts}
use Rattle.rp_meaning.specs.BuiltIn.{name_of}
use Rattle.rp_meaning.specs.Frame.{program_of}
use Rattle.rp_meaning.specs.Scopes.{Layouts}
use Rattle.rp_program.specs.Program.{IsProgram}
use Rattle.rp_program.specs.ProgramWords.{program_words}
use Rattle.rp_scope.specs.Bindings.{once, program_names}
use Rattle.rp_scope.specs.Numbers.{HasNumbers, IsNumbered, block_count}
use Rattle.rp_scope.specs.Places.{locals}
use Rattle.rp_scope.specs.Scopes.{Scope, locals_of}
use Rattle.rp_tree.specs.Maps.{named, without_blocks}
use Rattle.rp_tree.specs.Statements.{Stmts}
use Rattle.rp_tree.specs.StatementTrees.{Stmts as TextStmts}
use Rattle.rp_tree.specs.StatementViews.{view_tree}
use Rattle.rp_apart_laws.specs.Apart.{Each}
use Rattle.rp_fit_laws.specs.Programs.{IsLaidOut, ParametersDiffer}

-- the parameters of each function of a tree differ, and its `global` statements name none of them
abbrev pub EachDiffers : Stmts → Type 0
EachDiffers body = Each (λ (e : ℕ × Code). ParametersDiffer e.1) (of_stmts body)

-- so it is in each tree that tokens spell
abbrev pub EachSpelledDiffers : Type 0
EachSpelledDiffers = (body : Stmts) (tokens : Tokens) → Spells body tokens → EachDiffers body

-- A tree with its numbers, which tokens spell without them, is laid out by the local names of its blocks. Those of the
-- program begin with the given ones.
abbrev pub EachNumberedIsLaidOut : Type 0
EachNumberedIsLaidOut = (first : List Name) (body : Stmts) (tokens : Tokens) → Spells (without_blocks body) tokens
    → HasNumbers body → (layouts : Layouts)
    → ((number : ℕ) → number ≤ block_count body → layouts.locals number ≡ locals same_name first body number)
    → IsLaidOut (program_of body layouts)

-- names that have a place for a word, and for each of some words

abbrev pub Holds : List (List ℕ) → List ℕ → Type 0
Holds names w = is_held names w ≡ true

abbrev pub AreHeld : List (List ℕ) → List (List ℕ) → Type 0
AreHeld names words = Each (Holds names) words

-- So is a program of some bytes, whichever numbers its names have, where each of its words has one.
abbrev pub EachProgramIsLaidOut : Type 0
EachProgramIsLaidOut = (names : List (List ℕ)) (bytes : List ℕ) (tree : TextStmts (List ℕ)) → IsProgram bytes tree
    → AreHeld names (program_words bytes) → (first : List Name) (body : Stmts)
    → IsNumbered (named (name_of names) tree) body → (layouts : Layouts)
    → ((number : ℕ) → number ≤ block_count body → layouts.locals number ≡ locals same_name first body number)
    → IsLaidOut (program_of body layouts)

-- layouts with the local names that a table of scopes has of each block
abbrev pub AreLocalsOf : List Scope → Layouts → Type 0
AreLocalsOf table layouts = (number : ℕ) → layouts.locals number ≡ locals_of table number

-- So is a compiled script by its scopes, both its source and the tree that runs (RestrictedPython, compile_restricted).
abbrev pub EachCompiledIsLaidOut : Type 0
EachCompiledIsLaidOut = (c : Compilation) → IsCompiled c → (layouts : Layouts) → AreLocalsOf c.layouts layouts
    → IsLaidOut (program_of (source_tree c) layouts) × IsLaidOut (program_of (view_tree c.rewritten) layouts)

-- And so is a trusted module, with the names that it first binds among its local names.
abbrev pub EachTrustedIsLaidOut : Type 0
EachTrustedIsLaidOut = (m : TrustedModule) → IsTrusted m → (layouts : Layouts) → AreLocalsOf m.layouts layouts
    → IsLaidOut (program_of (view_tree m.tree) layouts)

-- ---- the declared classes and objects, which a module binds first

abbrev pub declared_names : Declarations → List (List ℕ)
declared_names d = map (λ c. c.name) d.classes ++ map (λ o. o.name) d.objects

-- The module has a local name for each of them: they stand in byte order, each once, and no object has the name of a
-- class.
abbrev pub EachDeclaredHasRoom : Type 0
EachDeclaredHasRoom = (names : List (List ℕ)) (d : Declarations) → AreInOrder d → AreNamesApart d
    → AreHeld names (declared_names d) → (body : Stmts)
    → length d.classes + length d.objects
    ≤ length (once same_name (program_names (map (name_of names) (declared_names d)) body))
