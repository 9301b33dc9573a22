-- The large input: n declared objects, each with its number in a field that one permission lets the principal read, and
-- a script that adds up the numbers (TOML; Python Language Reference, Augmented assignment statements).
use Rattle.std.specs.Prelude.{ℕ, List, ◌++◌, codes, flat_map}
use Rattle.std.specs.Fmt.{decimal}
use Rattle.std.specs.List.{join_by, range_with_len}

-- the numbers from 0 to n - 1
abbrev pub below : ℕ → List ℕ
below n = range_with_len 0 n

abbrev pub quoted_name : ℕ → List ℕ
quoted_name i = codes "\"o" ++ decimal i ++ codes "\""

abbrev pub names : ℕ → List ℕ
names n = join_by quoted_name (codes ", ") (below n)

abbrev pub object_lines : ℕ → List ℕ
object_lines i =
    codes "[object.o" ++ decimal i ++ codes "]\nclass = \"Item\"\nfields = { n = " ++ decimal i ++ codes " }\n"

abbrev pub sum_line : ℕ → List ℕ
sum_line i = codes "t += o" ++ decimal i ++ codes ".n\n"

-- what stands before the names that are exposed, and behind them
abbrev pub before_names : List ℕ
before_names = codes "version = 1\n" ++ codes "permissions = [\"zope.View\"]\n" ++ codes "expose = ["

abbrev pub behind_names : List ℕ
behind_names =
    codes "]\n"
    ++ codes "[class.Item]\n"
    ++ codes "get = { n = \"zope.View\" }\n"
    ++ codes "[principal.p]\n"
    ++ codes "allow = [\"zope.View\"]\n"

abbrev pub declarations : ℕ → List ℕ
declarations n = before_names ++ names n ++ behind_names ++ flat_map object_lines (below n)

abbrev pub script : ℕ → List ℕ
script n = codes "t = 0\n" ++ flat_map sum_line (below n) ++ codes "print(t)\n"
