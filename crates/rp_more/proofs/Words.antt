-- The words of calls that are written out are identifiers in their form.
use Rattle.std.proofs.Common.{refl, codes}
use lib.Utf8.{encode}
use Rattle.unicode_ident.proofs.Computing.{unicode_ident}
use Rattle.unicode_normalization.proofs.Computing.{unicode_normalization}
use Rattle.rp_base.specs.Identifier.{IsIdentifier}
use Rattle.rp_base.proofs.CallerLemmas.{IsIdentifier-spelled}

pub identifier-join : IsIdentifier (codes "join")
unfolding encode unicode_ident unicode_normalization
identifier-join = IsIdentifier-spelled _ refl

pub identifier-str : IsIdentifier (codes "str")
unfolding encode unicode_ident unicode_normalization
identifier-str = IsIdentifier-spelled _ refl
