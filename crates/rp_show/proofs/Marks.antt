-- What stands around elements and names is its own characters.
use Rattle.std.proofs.Common.{◌≡◌, Bool, true, false, length, ◌==◌, if◌then◌else◌, refl}
use Rattle.std.specs.Prelude.{codes}
use Rattle.std.specs.Str.{chars}
use Rattle.rp_store.specs.Object as object
use Rattle.rp_store.specs.Object.{Content}
use Rattle.rp_show.specs.Show.{cut_text}
use Rattle.rp_show.specs.ShowView.{closing, opening}

pub chars-opening : (c : Content) → chars (opening c) ≡ opening c
unfolding chars
chars-opening (object.list xs) = refl
chars-opening (object.tuple xs) = refl
chars-opening (object.dict es) = refl
chars-opening (object.instance of fields) = refl
chars-opening (object.class name declared methods) = refl
chars-opening (object.function name unit block within defaults) = refl
chars-opening (object.method receiver called) = refl
chars-opening (object.scope block parent slots) = refl

chars-comma : (b : Bool) → chars (if b then codes ",)" else codes ")") ≡ (if b then codes ",)" else codes ")")
unfolding chars
chars-comma true = refl
chars-comma false = refl

pub chars-closing : (c : Content) → chars (closing c) ≡ closing c
unfolding chars
chars-closing (object.list xs) = refl
chars-closing (object.tuple xs) = chars-comma (length xs == 1)
chars-closing (object.dict es) = refl
chars-closing (object.instance of fields) = refl
chars-closing (object.class name declared methods) = refl
chars-closing (object.function name unit block within defaults) = refl
chars-closing (object.method receiver called) = refl
chars-closing (object.scope block parent slots) = refl

pub chars-cut : (c : Content) → chars (cut_text c) ≡ cut_text c
unfolding chars
chars-cut (object.list xs) = refl
chars-cut (object.tuple xs) = refl
chars-cut (object.dict es) = refl
chars-cut (object.instance of fields) = refl
chars-cut (object.class name declared methods) = refl
chars-cut (object.function name unit block within defaults) = refl
chars-cut (object.method receiver called) = refl
chars-cut (object.scope block parent slots) = refl
