use Rattle.std.proofs.Common.{chars, refl}
use Rattle.rp_decl.proofs.Unknown.{is_among-place_of}
use Rattle.rp_decl.proofs.naming.unknown_text.Goals as goal

pub returns-in-Some : goal.returns-in-Some
returns-in-Some c = rw (is_among-place_of c.args.known.now (chars c.args.text.now), ← c.in-Some.ensures) refl

pub returns-in_ok-new-in-None : goal.returns-in_ok-new-in-None
returns-in_ok-new-in-None c =
    rw (is_among-place_of c.args.known.now (chars c.args.text.now), ← c.in-None.ensures, c.in_ok-new-in-None.ensures) refl
