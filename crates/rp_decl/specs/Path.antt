-- The text of a path that is kept as its keys.
use Rattle.std.specs.Prelude.{ℕ, List, []}
use Rattle.rp_decl.specs.Shape.{within}
use Rattle.rp_decl.specs.declared.path.Path.{Path, fold-Path}
use Rattle.rp_decl.specs.declared.path.Path.TheOpen.{Path-F}

-- one key, behind the text of those before it
abbrev pub path_step : Path-F (List ℕ) → List ℕ
path_step Path-F.Root = []
path_step (Path-F.Within outer key) = within outer.now key.now

abbrev pub path_of : Path → List ℕ
path_of = fold-Path (List ℕ) path_step
