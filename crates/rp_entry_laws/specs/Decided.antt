-- When an entry of the trail tells what the written policy says (zope.security, checkers and interactions).
use Rattle.std.specs.Prelude.{◌≡◌, ℕ, List, codes}
use Rattle.rp_checker.specs.RowOf.{Tag, list, tuple, dict, function, method, class, declared, other, Operation}
use Rattle.rp_decl.specs.Records.{Declarations}
use Rattle.rp_proxy.specs.Decide.{operation_name, operation_word, verdict_of}
use Rattle.rp_trail.specs.Entry.{Entry}

-- the word by which an entry tells a class; no declared class has the name of another one
abbrev pub class_word : Tag → List ℕ
class_word list = codes "list"
class_word tuple = codes "tuple"
class_word dict = codes "dict"
class_word function = codes "function"
class_word method = codes "method"
class_word class = codes "class"
class_word (declared name) = name
class_word other = codes "instance"

-- The entry tells an operation on objects of a class, and its verdict is that of the declarations on these principals: by the row of the class for
-- the name, and by what each of the principals is granted.
pub record IsDecided (d : Declarations) (who : List (List ℕ)) (e : Entry) : Type 0 where
  pub tag : Tag
  pub operation : Operation
  pub class : e.class ≡ class_word tag
  pub word : e.op ≡ operation_word operation
  pub name : e.name ≡ operation_name operation
  pub verdict : e.verdict ≡ verdict_of d who tag operation
