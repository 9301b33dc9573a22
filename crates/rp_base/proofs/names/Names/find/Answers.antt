use Rattle.std.proofs.Common.{◌∙◌, sym}
use Rattle.rp_base.proofs.Words.{is_held-words_of, slice_get-found}
use Rattle.rp_base.proofs.names.Names.find.Goals as goal

pub returns-in_err-place-clause-held : goal.returns-in_err-place-clause-held
returns-in_err-place-clause-held c = rw (← c.self.view_is, c.from_residual.ensures) (c.in_err-place.ensures.found ∙ is_held-words_of _ _ c.utf8.word)

pub returns-clause-held : goal.returns-clause-held
returns-clause-held c = rw (← c.self.view_is) (c.in_ok-place.ensures.found ∙ is_held-words_of _ _ c.utf8.word)

pub returns-clause-place : goal.returns-clause-place
returns-clause-place c = rw (← c.self.view_is) (slice_get-found _ _ _ c.utf8.word (sym c.in_ok-place.ensures.index))
