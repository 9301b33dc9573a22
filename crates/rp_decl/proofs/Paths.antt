-- The bytes and the characters of a path with a key more.
use Rattle.std.proofs.Common.{◌≡◌, ◌≢◌, ℕ, List, [], ◌∷◌, ◌++◌, chars, IsUtf8, encode_utf8_all, lit<, Bor, rules, length, arith, refl, sym, ap, ◌∙◌}
use Rattle.std.proofs.lemmas.Str.{chars-append, chars-nil, encodes-chars, IsUtf8-append}
use Rattle.std.proofs.lemmas.Str.Ascii.{IsAscii-nil, IsAscii-cons}
use Rattle.std.proofs.lemmas.Str.{chars-IsAscii, IsUtf8-from_ascii}
use Rattle.rp_decl.specs.Path.{path_of}
use Rattle.rp_decl.specs.declared.path.Path.{Path, Root, Within, the_lemmas}
use Rattle.std.specs.Str.{IsAscii}
use Rattle.rp_decl.specs.Shape.{within}

dot : IsAscii (46 ∷ [])
dot = IsAscii-cons 46 [] (lit< tt) IsAscii-nil

behind : (outer : List ℕ) (key : List ℕ) → outer ≢ [] → (outer ++ 46 ∷ []) ++ chars key ≡ within outer key
behind [] key h = absurd (h refl)
behind (c ∷ cs) key h = refl

pub within-root : (path key : List ℕ) → path ≡ [] → chars (path ++ key) ≡ within (chars path) key
within-root path key h = rw (h, chars-nil) refl

pub within-more : (path key : List ℕ) → IsUtf8 path → path ≢ [] → chars ((path ++ 46 ∷ []) ++ key) ≡ within (chars path) key
within-more path key text h =
    rw (chars-append (path ++ 46 ∷ []) key (IsUtf8-append path (46 ∷ []) text (IsUtf8-from_ascii (46 ∷ []) dot)), chars-append path (46 ∷ []) text, chars-IsAscii (46 ∷ []) dot)
    (behind (chars path) key (λ e. h (sym (encodes-chars path text) ∙ ap encode_utf8_all e)))

pub path_of-Root : path_of Root ≡ []
path_of-Root = search (rules, the_lemmas)

pub empty_text : (text : List ℕ) → length text ≡ 0 → text ≡ []
empty_text [] h = refl
empty_text (c ∷ cs) h = absurd (omega arith)

pub path_of-Within : (outer : Bor Path) (key : Bor (List ℕ)) → path_of (Within outer key) ≡ within (path_of outer.now) key.now
path_of-Within outer key = search (rules, the_lemmas)
