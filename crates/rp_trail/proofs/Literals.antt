-- The words of the trail are ASCII: their bytes are their characters.
use Rattle.std.proofs.Common.{◌≡◌, codes, refl}
use Rattle.std.specs.Str.{chars}

pub chars_get : chars (codes "get") ≡ codes "get"
unfolding chars
chars_get = refl

pub chars_set : chars (codes "set") ≡ codes "set"
unfolding chars
chars_set = refl

pub chars_list : chars (codes "list") ≡ codes "list"
unfolding chars
chars_list = refl

pub chars_tuple : chars (codes "tuple") ≡ codes "tuple"
unfolding chars
chars_tuple = refl

pub chars_dict : chars (codes "dict") ≡ codes "dict"
unfolding chars
chars_dict = refl

pub chars_function : chars (codes "function") ≡ codes "function"
unfolding chars
chars_function = refl

pub chars_method : chars (codes "method") ≡ codes "method"
unfolding chars
chars_method = refl

pub chars_class : chars (codes "class") ≡ codes "class"
unfolding chars
chars_class = refl

pub chars_instance : chars (codes "instance") ≡ codes "instance"
unfolding chars
chars_instance = refl

pub chars_zope_public : chars (codes "zope.Public") ≡ codes "zope.Public"
unfolding chars
chars_zope_public = refl

pub chars_default : chars (codes "default") ≡ codes "default"
unfolding chars
chars_default = refl

pub ruleset literals = (
  chars_get,
  chars_set,
  chars_list,
  chars_tuple,
  chars_dict,
  chars_function,
  chars_method,
  chars_class,
  chars_instance,
  chars_zope_public,
  chars_default,
)
