-- What is read of a document's data.
use Rattle.std.proofs.Common.{◌≡◌, ℕ, List, [], ◌∷◌, chars, string_bytes, String, Global, None, Less, refl, ◌∙◌}
use Rattle.std.specs.List.{AllByRecursion}
use Rattle.std.specs.List.Sorted.{IsStrictlySortedBy}
use Rattle.std.specs.Map.{keys_of}
use Rattle.std.specs.String.{string_cmp}
use Rattle.std.proofs.lemmas.Str.{chars-nil, encodes-chars, IsUtf8-string_bytes}
use Rattle.toml.specs.Data.{Data, string, integer, float, boolean, datetime, array, table, as_str}
use Rattle.toml.specs.View.{members_view}
use Rattle.toml.proofs.Views.{Entry}
use Rattle.rp_decl.specs.Document.{text_of, each_member, key_text}
use Rattle.rp_decl.specs.InOrder.{AreAscending}
use Rattle.rp_decl.specs.Order.{text_cmp}

pub text_of-none : (d : Data) → None ≡ as_str d → chars [] ≡ text_of d
text_of-none (string s) h = cc
text_of-none (integer z) h = chars-nil
text_of-none (float x) h = chars-nil
text_of-none (boolean b) h = chars-nil
text_of-none (datetime dt) h = chars-nil
text_of-none (array ds) h = chars-nil
text_of-none (table ms) h = chars-nil

-- keys are compared by their bytes
key_cmp : (k l : String Global) → text_cmp (chars (string_bytes k)) (chars (string_bytes l)) ≡ string_cmp k l
key_cmp k l = rw (encodes-chars (string_bytes k) (IsUtf8-string_bytes k), encodes-chars (string_bytes l) (IsUtf8-string_bytes l)) refl

abbrev pub key_texts : List Entry → List (List ℕ)
key_texts es = each_member key_text (members_view es)

before_keys : (k : String Global) (es : List Entry) → AllByRecursion (λ y. string_cmp k y ≡ Less) (keys_of es) → AllByRecursion (λ y. text_cmp (chars (string_bytes k)) y ≡ Less) (key_texts es)
before_keys k [] h = tt
before_keys k (e ∷ es) h = (key_cmp k e.0 ∙ h.0, before_keys k es h.1)

-- the keys of a table ascend
pub key_texts-ascend : (es : List Entry) → IsStrictlySortedBy string_cmp (keys_of es) → AreAscending (key_texts es)
unfolding IsStrictlySortedBy
key_texts-ascend [] h = tt
key_texts-ascend (e ∷ es) h = (before_keys e.0 es h.0, key_texts-ascend es h.1)

pub AreAscending-nil : AreAscending []
unfolding IsStrictlySortedBy
AreAscending-nil = tt
