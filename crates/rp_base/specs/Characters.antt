-- The forms in which a text gives its characters by place: one byte for each where all are ASCII, and four elsewhere (PEP 393, Flexible
-- String Representation, has three such forms).
use Rattle.std.specs.Prelude.{◌≡◌, ℕ, List}
use Rattle.std.specs.Str.{IsAscii}
use Rattle.rp_base.specs.declared.text.Characters.{Characters}
use Rattle.rp_base.specs.declared.text.Characters.TheVariants as form

-- they are the characters of this text, in its form
abbrev pub AreThose : List ℕ → Characters → Type 0
AreThose text (form.Ascii letters) = (letters.now ≡ text) × IsAscii letters.now
AreThose text (form.Wide letters) = (letters.now ≡ text) × ¬ IsAscii text
