use Rattle.rp_base.proofs.Texts.{bytes_from_view}
use Rattle.rp_base.proofs.text.TextOrd.cmp.Goals as goal

pub returns : goal.returns
returns c = rw (bytes_from_view _ _ c.as_str.utf8 c.as_str.ensures, bytes_from_view _ _ c.as_str-2.utf8 c.as_str-2.ensures) c.cmp.ensures
