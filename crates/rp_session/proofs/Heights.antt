-- No statement of a compiled program is higher than one of a program may be.
use Rattle.std.proofs.Common.{◌≤◌, ℕ, subst, ◌∙◌}
use Rattle.rp_compile.specs.Compiled.{Compilation, IsCompiled, source_tree}
use Rattle.rp_compile.specs.Trusted.{IsTrusted, TrustedModule}
use Rattle.rp_grammar.proofs.MapHeights.{stmts_height_mapped}
use Rattle.rp_grammar.specs.Program.{highest}
use Rattle.rp_tree.specs.Heights.{stmts_height}
use Rattle.rp_tree.specs.Maps.{no_blocks}
use Rattle.rp_tree.specs.Marks.{no_marks}
use Rattle.rp_tree.specs.StatementViews.{view_tree}

pub module_low : (m : TrustedModule) → IsTrusted m → stmts_height (view_tree m.tree) ≤ highest
module_low m is = subst (λ (n : ℕ). n ≤ highest) (stmts_height_mapped no_blocks (view_tree m.tree)) is.spells.low

pub script_low : (c : Compilation) → IsCompiled c → stmts_height (view_tree c.rewritten) ≤ highest
script_low c is =
    subst (λ (n : ℕ). n ≤ highest) (stmts_height_mapped no_blocks (source_tree c) ∙ stmts_height_mapped no_marks (view_tree c.rewritten)) is.spells.low
