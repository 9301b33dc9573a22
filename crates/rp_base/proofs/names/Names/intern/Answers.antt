use Rattle.std.proofs.Common.{◌≡◌, ◌∙◌, sym, refl, true, chars}
use Rattle.rp_base.specs.Names.{is_held, with_word}
use Rattle.rp_base.proofs.Words.{IsDistinct-words_of, each_once, identifiers-with_word, is_held-words_of, not_held, slice_get-found, slice_get-stored, words_of, words_of-inserted}
use Rattle.rp_base.proofs.names.Names.intern.Goals as goal

pub returns-in-Some-clause-words : goal.returns-in-Some-clause-words
returns-in-Some-clause-words c =
    let held : is_held (words_of c.self.inside.words.keys) (chars c.args.word.now) ≡ true = sym (is_held-words_of _ _ c.utf8.word) ∙ sym c.in-Some.ensures.found in
    rw (← c.self.view_is, held) refl

pub returns-in-Some-clause-place : goal.returns-in-Some-clause-place
returns-in-Some-clause-place c = rw (← c.self.view_is) (slice_get-found _ _ _ c.utf8.word (sym c.in-Some.ensures.index))

pub returns-in_err-text-clause-held : goal.returns-in_err-text-clause-held
returns-in_err-text-clause-held c held =
    absurd (not_held _ c.self.inside.words.keys c.utf8.word c.in_default.ensures.found (rw (← c.self.view_is) at held))

pub returns-in_err-place-clause-held : goal.returns-in_err-place-clause-held
returns-in_err-place-clause-held c held =
    absurd (not_held _ c.self.inside.words.keys c.utf8.word c.in_default.ensures.found (rw (← c.self.view_is) at held))

pub invariant_of-self-2 : goal.invariant_of-self-2
invariant_of-self-2 c =
    let added : words_of c.insert_full.new.self.keys ≡ with_word (words_of c.self.inside.words.keys) (chars c.args.word.now) = words_of-inserted _ _ _ _ c.in_ok-place.ensures.keys c.in_ok-text.ensures.ok in
    record {
      identifiers = rw added (identifiers-with_word _ _ c.self.invariant.identifiers c.requires);
      distinct = each_once _ (IsDistinct-words_of _ c.insert_full.ensures.unique);
    }

pub returns-clause-words : goal.returns-clause-words
returns-clause-words c = rw (← c.self.view_is) (words_of-inserted _ _ _ _ c.in_ok-place.ensures.keys c.in_ok-text.ensures.ok)

pub returns-clause-place : goal.returns-clause-place
returns-clause-place c = slice_get-stored c.insert_full.new.self.keys c.in_ok-place.place c.in_ok-text.text _ c.in_ok-place.ensures.stored c.in_ok-text.ensures.ok
