use Rattle.std.proofs.Common.{◌≡◌, chars, fold, map, take}
use Rattle.rp_base.specs.Names.{with_word}
use Rattle.rp_base.proofs.names.Names.intern_all.Given as goal

-- the words so far are interned
abbrev pub invariant-loop-word : goal.invariant-loop-word
invariant-loop-word l = l.self ≡ fold with_word l.initial.self (map (λ word. chars word.now) (take l.word-index l.words))
