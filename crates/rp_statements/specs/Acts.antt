-- What a statement of a class block does, as the code tells it.
use Rattle.std.specs.Prelude.{Some}
use Rattle.rp_engine.specs.Does as does
use Rattle.rp_meaning.specs.Classes.{Part, method, other}
use Rattle.rp_meaning.specs.Expressions as forms
use Rattle.rp_meaning.specs.Statements as stmt_forms
use Rattle.rp_statements.specs.declared.class_blocks.Act.{Act}
use Rattle.rp_statements.specs.declared.class_blocks.Act.TheVariants as act
use Rattle.rp_tree.specs.declared.expr.Params.{out-Params}

abbrev pub part_of : Act → Part
part_of (act.Method block name ps) = method name (forms.makes_function (Some name) block (does.defaults (out-Params ps.now).plain.items))
part_of (act.Evaluate x) = other (stmt_forms.evaluate (does.expr x.now))
part_of act.Nothing = other stmt_forms.nothing
