-- The names of kinds of exceptions are ASCII, so that to compare texts is to compare their bytes.
use Rattle.std.proofs.Common.{◌≡◌, ℕ, List, chars, encode_utf8_all, nat_eq, refl, sym}
use lib.Utf8.{encode}
use Rattle.std.specs.Str.{IsUtf8}
use Rattle.std.specs.Cmp.Lexicographic.{pointwise}
use Rattle.std.proofs.lemmas.Str.{encodes-chars}
use Rattle.rp_base.specs.declared.kind.Kind.{Kind}
use Rattle.rp_base.specs.declared.kind.Kind.TheVariants as kind
use Rattle.rp_base.specs.Kind.{kind_name}
use Rattle.rp_base.specs.Same.{same_text}

encodes-kind_name : (k : Kind) → encode_utf8_all (kind_name k) ≡ kind_name k
unfolding encode
encodes-kind_name kind.Exception = refl
encodes-kind_name kind.ArithmeticError = refl
encodes-kind_name kind.ZeroDivisionError = refl
encodes-kind_name kind.OverflowError = refl
encodes-kind_name kind.LookupError = refl
encodes-kind_name kind.IndexError = refl
encodes-kind_name kind.KeyError = refl
encodes-kind_name kind.NameError = refl
encodes-kind_name kind.UnboundLocalError = refl
encodes-kind_name kind.RuntimeError = refl
encodes-kind_name kind.RecursionError = refl
encodes-kind_name kind.ValueError = refl
encodes-kind_name kind.TypeError = refl
encodes-kind_name kind.AttributeError = refl
encodes-kind_name kind.AssertionError = refl
encodes-kind_name kind.Unauthorized = refl
encodes-kind_name kind.Forbidden = refl
encodes-kind_name kind.ForbiddenAttribute = refl

pub same_text-kind : (x : Kind) (word : List ℕ) → IsUtf8 word → pointwise nat_eq (kind_name x) word ≡ same_text (kind_name x) (chars word)
same_text-kind x word text = λ k. pointwise nat_eq (sym (encodes-kind_name x) k) (sym (encodes-chars word text) k)
