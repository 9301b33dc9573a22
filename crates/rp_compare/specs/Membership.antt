-- Membership: in a list or a tuple by equality, in a dict by key, in a text as a part of it (Python Language Reference, Membership
-- test operations). Other way: a part is tried at each place of the text, one behind another, where the code asks std's search; a list
-- is gone through by recursion, where the code loops; and a dict is searched as a list of entries.
use Rattle.std.specs.Prelude.{ℕ, ◌==◌, Bool, true, false, ◌&&◌, ◌||◌, List, [], ◌∷◌, codes, encode_utf8_all, is_some, if◌then◌else◌}
use Rattle.std.specs.Option.{option_map_or}
use Rattle.rp_base.specs.declared.kind.Kind.TheVariants.{TypeError}
use Rattle.rp_base.specs.declared.value.Oid.{Oid}
use Rattle.rp_base.specs.declared.value.Rock.{Rock}
use Rattle.rp_base.specs.declared.value.Rock.TheVariants as rock
use Rattle.rp_base.specs.declared.value.Value.{Value}
use Rattle.rp_base.specs.declared.value.Value.TheVariants as value
use Rattle.rp_store.specs.Heap.{content_at}
use Rattle.rp_store.specs.Object as object
use Rattle.rp_store.specs.Object.{Content}
use Rattle.rp_ops.specs.Depth.{deepest}
use Rattle.rp_ops.specs.Keys.{entry_in, key_named}
use Rattle.rp_ops.specs.Outcome.{State, Outcome, gives, raises, on_value, on_found, stepped}
use Rattle.rp_compare.specs.Equality.{equal}

-- xs begins ys
abbrev pub begins : List ℕ → List ℕ → Bool
begins [] ys = true
begins (x ∷ xs) [] = false
begins (x ∷ xs) (y ∷ ys) = (x == y) && begins xs ys

-- xs stands somewhere in ys
abbrev pub is_part : List ℕ → List ℕ → Bool
is_part xs [] = begins xs []
is_part xs (y ∷ ys) = begins xs (y ∷ ys) || is_part xs ys

-- a text is a part of another where its bytes are (RFC 3629)
abbrev pub is_text_part : List ℕ → List ℕ → Bool
is_text_part t u = is_part (encode_utf8_all t) (encode_utf8_all u)

-- each pair takes a step, up to the first that is equal; the value that is searched for is the left one
abbrev pub found_in : Value → List Value → State → Outcome Bool
found_in a [] s = gives false s
found_in a (x ∷ xs) s = stepped s (λ s. on_value (equal deepest a x s) (λ b s. if b then gives true s else found_in a xs s))

abbrev pub no_container : {A : Type 0} → State → Outcome A
no_container s = raises TypeError (codes "operand") s

abbrev pub content_contains : Content → Value → State → Outcome Bool
content_contains (object.list xs) a s = found_in a xs s
content_contains (object.tuple xs) a s = found_in a xs s
content_contains (object.dict es) a s = on_found (key_named a) s (λ r s. gives (is_some (entry_in es r)) s)
content_contains c a s = no_container s

-- the value is a text that is a part of t
abbrev pub text_contains : List ℕ → Value → State → Outcome Bool
text_contains t (value.Rock (rock.Text u)) s = gives (is_text_part u t) s
text_contains t a s = no_container s

abbrev pub rock_contains : Rock → Value → State → Outcome Bool
rock_contains (rock.Text t) a s = text_contains t a s
rock_contains r a s = no_container s

abbrev pub object_contains : Oid → Value → State → Outcome Bool
object_contains at a s = option_map_or (λ c. content_contains c a s) (content_at s.store.heap at) (no_container s)

-- `a in of`
abbrev pub contains : Value → Value → State → Outcome Bool
contains a (value.Rock r) s = rock_contains r a s
contains a (value.Ref at) s = object_contains at a s
contains a (value.Prox at) s = object_contains at a s
