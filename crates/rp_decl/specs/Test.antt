-- The tests of texts, as the program names them.
use Rattle.std.specs.Prelude.{ℕ, Bool, true, List, codes, None, is_some}
use Rattle.std.specs.Option.{option_map_or}
use Rattle.toml.specs.Data.{Members, get_member}
use Rattle.rp_decl.specs.Document.{members_of}
use Rattle.rp_decl.specs.Word.{is_id, is_declared_name}
use Rattle.rp_decl.specs.declared.test.Test.{Test}
use Rattle.rp_decl.specs.declared.test.Test.TheVariants.{Any, Id, Name}

abbrev pub admits : Test → List ℕ → Bool
admits Any = λ text. true
admits Id = is_id
admits Name = is_declared_name

-- a class is declared at this key
abbrev pub has_class : Members → List ℕ → Bool
has_class ms key = is_some (option_map_or (λ d. get_member key (members_of d)) (get_member (codes "class") ms) None)
