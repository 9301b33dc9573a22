-- Characters and escapes as they are added to a text.
use Rattle.std.proofs.Common.{◌≡◌, ℕ, List, [], ◌∷◌, ◌++◌, append-nil, append_assoc, encode_utf8_all, IsUtf8, refl, sym, ap, ◌∙◌, length, true, false, ◌==◌}
use Rattle.std.specs.Char.{IsScalar}
use Rattle.std.specs.Str.{chars}
use Rattle.std.proofs.lemmas.Str.{IsUtf8-encode, chars-append, chars_from_encodes, chars-nil, encodes-chars}
use Rattle.std.proofs.Math.Dec.{eqb-suc-zero}
use Rattle.std.proofs.lemmas.Bool.{false≢true}
use Rattle.rp_base.specs.Kind.{kind_name}
use Rattle.rp_base.specs.Native.{native_name}
use Rattle.rp_base.specs.declared.kind.Kind.{Kind}
use Rattle.rp_base.specs.declared.kind.Kind.TheVariants as kind
use Rattle.rp_base.specs.declared.native.NativeId.{NativeId}
use Rattle.rp_base.specs.declared.native.NativeId.TheVariants as native
use Rattle.std.specs.Prelude.{encode_utf8, codes}
use Rattle.rp_show.specs.Shown.{escaped, escaped_all, exception_call, quoted}

-- one character more
pub chars-push : (bs : List ℕ) (c : ℕ) → IsUtf8 bs → IsScalar c → chars (bs ++ encode_utf8 c) ≡ chars bs ++ c ∷ []
chars-push bs c h scalar =
    chars-append bs (encode_utf8 c) h ∙ ap (λ cs. chars bs ++ cs) (sym (chars_from_encodes (c ∷ []) (encode_utf8 c) (IsUtf8-encode c scalar) (append-nil (encode_utf8 c))))

pub escaped_all-append : (q : ℕ) (xs ys : List ℕ) → escaped_all q (xs ++ ys) ≡ escaped_all q xs ++ escaped_all q ys
escaped_all-append q [] ys = refl
escaped_all-append q (x ∷ xs) ys = ap (λ t. escaped q x ++ t) (escaped_all-append q xs ys) ∙ sym (append_assoc (escaped q x) (escaped_all q xs) (escaped_all q ys))

-- the names of kinds and built-ins are their own bytes
pub chars-kind : (k : Kind) → chars (kind_name k) ≡ kind_name k
unfolding chars
chars-kind kind.Exception = refl
chars-kind kind.ArithmeticError = refl
chars-kind kind.ZeroDivisionError = refl
chars-kind kind.OverflowError = refl
chars-kind kind.LookupError = refl
chars-kind kind.IndexError = refl
chars-kind kind.KeyError = refl
chars-kind kind.NameError = refl
chars-kind kind.UnboundLocalError = refl
chars-kind kind.RuntimeError = refl
chars-kind kind.RecursionError = refl
chars-kind kind.ValueError = refl
chars-kind kind.TypeError = refl
chars-kind kind.AttributeError = refl
chars-kind kind.AssertionError = refl
chars-kind kind.Unauthorized = refl
chars-kind kind.Forbidden = refl
chars-kind kind.ForbiddenAttribute = refl

pub chars-native : (f : NativeId) → chars (native_name f) ≡ native_name f
unfolding chars
chars-native native.Len = refl
chars-native native.Bool = refl
chars-native native.Str = refl
chars-native native.Int = refl
chars-native native.Abs = refl
chars-native native.Sum = refl
chars-native native.Min = refl
chars-native native.Max = refl
chars-native native.Sorted = refl
chars-native native.List = refl
chars-native native.Tuple = refl
chars-native native.Dict = refl
chars-native native.Range = refl
chars-native native.Enumerate = refl
chars-native native.Zip = refl
chars-native native.GetAttr = refl
chars-native native.SetAttr = refl
chars-native native.Print = refl
chars-native native.RemoveSecurityProxy = refl
chars-native native.Append = refl
chars-native native.Extend = refl
chars-native native.Insert = refl
chars-native native.Pop = refl
chars-native native.Remove = refl
chars-native native.Index = refl
chars-native native.Count = refl
chars-native native.Reverse = refl
chars-native native.Get = refl
chars-native native.Keys = refl
chars-native native.Values = refl
chars-native native.Items = refl
chars-native native.SetDefault = refl
chars-native native.Update = refl
chars-native native.Copy = refl
chars-native native.Join = refl
chars-native native.Split = refl
chars-native native.Strip = refl
chars-native native.StartsWith = refl
chars-native native.EndsWith = refl
chars-native native.Find = refl
chars-native native.Replace = refl
chars-native native.IsDigit = refl

-- an exception value with no text, and with one
pub exception-empty : (kind bs : List ℕ) → (length bs == 0) ≡ true → exception_call kind (chars bs) ≡ kind ++ codes "()"
exception-empty kind [] e = ap (exception_call kind) chars-nil
exception-empty kind (b ∷ bs) e = absurd (false≢true (sym (eqb-suc-zero (length bs)) ∙ e))

called : (kind cs : List ℕ) (b : ℕ) (bs : List ℕ) → encode_utf8_all cs ≡ b ∷ bs → exception_call kind cs ≡ kind ++ codes "(" ++ quoted cs ++ codes ")"
called kind [] b bs e = absurd (cc)
called kind (c ∷ cs) b bs e = refl

pub exception-some : (kind bs : List ℕ) → IsUtf8 bs → (length bs == 0) ≡ false → exception_call kind (chars bs) ≡ kind ++ codes "(" ++ quoted (chars bs) ++ codes ")"
exception-some kind [] h e = absurd (false≢true (sym e))
exception-some kind (b ∷ bs) h e = called kind (chars (b ∷ bs)) b bs (encodes-chars (b ∷ bs) h)

pub call-joined : (a b c d e : List ℕ) → (((a ++ b) ++ c) ++ d) ++ e ≡ a ++ (b ++ c ++ d ++ e)
call-joined a b c d e = simp append_assoc

pub ruleset names = (chars-kind, chars-native)
