-- A slicing whose parts are marked.
use Rattle.std.proofs.Common.{◌≡◌, Option, Some, Global, Box, ap, sym, ◌∙◌, refl}
use Rattle.rp_tree.specs.declared.parts.Guard.{Guard}
use Rattle.rp_tree.specs.declared.parts.Guard.TheVariants.{GetItem}
use Rattle.rp_tree.specs.declared.expr.Slice.{Slice}
use Rattle.rp_tree.specs.declared.expr.Trailer.TheVariants as trailer
use Rattle.rp_tree.specs.ExpressionViews as views
use Rattle.rp_tree.specs.Maps as maps
use Rattle.rp_tree.specs.Marks.{table}
use Rattle.rp_tree.proofs.ExpressionEquations.{trailer_slice}

pub slice_marked : (x y : Box Slice Global) (g : Option Guard) → (views.view_slice y.value).0 ≡ maps.map_maybe table (views.view_slice x.value).0 → (views.view_slice y.value).1 ≡ maps.map_maybe table (views.view_slice x.value).1 → (views.view_slice y.value).2 ≡ maps.map_maybe table (views.view_slice x.value).2 → views.view_trailer (trailer.Slice y (Some GetItem)) ≡ maps.map_trailer table (views.view_trailer (trailer.Slice x g))
slice_marked x y g from to step = trailer_slice y (Some GetItem) ∙ (rw (from, to, step) refl ∙ sym (ap (maps.map_trailer table) (trailer_slice x g)))
