use Rattle.rp_base.proofs.Texts.{bytes_from_view}
use Rattle.rp_base.proofs.text.TextHash.hash.Goals as goal

pub returns : goal.returns
returns g c = rw (bytes_from_view _ _ c.as_str.utf8 c.as_str.ensures) c.hash.ensures
