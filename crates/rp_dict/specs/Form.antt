-- The two forms in which a dict is kept.
use Rattle.std.specs.Prelude.{List}
use Rattle.rp_dict.specs.declared.form.Form.{Form}
use Rattle.rp_dict.specs.declared.form.Form.TheVariants.{Few, Many}

module _ {K V : Type 0} where
  -- the pairs, in order
  abbrev pub pairs_of : Form K V → List (K × V)
  pairs_of (Few pairs) = pairs.items
  pairs_of (Many table) = table.value
