use Rattle.std.proofs.Common.{◌≡◌, ◌&&◌, Bool, true, false, chars, rules, refl, sym, ◌∙◌}
use Rattle.std.proofs.lemmas.Bool.{and_right}
use Rattle.rp_base.specs.Identifier.{is_identifier_word}
use Rattle.rp_base.specs.Keyword.{is_keyword}
use Rattle.rp_decl.proofs.Words.{is_declared_name-is}
use Rattle.rp_decl.proofs.word.is_declared_name.Goals as goal

pub returns-then-is_keyword : goal.returns-then-is_keyword
returns-then-is_keyword c =
    let keyword : is_keyword c.args.word.now ≡ true = search rules in
    rw (is_declared_name-is c.args.word.now c.utf8.word, keyword) (sym (and_right _ _ refl))

pub returns : goal.returns
returns c =
    let keyword : is_keyword c.args.word.now ≡ false = search rules in
    rw (is_declared_name-is c.args.word.now c.utf8.word, keyword) (c.in_ok-is_identifier_word.ensures.value ∙ and_true (is_identifier_word (chars c.args.word.now)))
  where
    and_true : (b : Bool) → b ≡ (b && true)
    and_true true = refl
    and_true false = refl
