use Rattle.std.proofs.Common.{◌≡◌, ◌∙◌, ap}
use Rattle.rp_base.proofs.Words.{put_anew, words_of}
use Rattle.rp_base.proofs.names.Names.rekey.Goals as goal

pub invariant_of-self-2 : goal.invariant_of-self-2
invariant_of-self-2 c =
    let moved : c.append.new.self.keys ≡ c.self.inside.words.keys = rw c.in_ok-words.ensures.empty at c.in_ok-append.ensures.keys ∙ put_anew _ c.len.ensures.unique in
    rw (ap words_of moved) c.self.invariant

pub returns : goal.returns
returns c =
    let moved : c.append.new.self.keys ≡ c.self.inside.words.keys = rw c.in_ok-words.ensures.empty at c.in_ok-append.ensures.keys ∙ put_anew _ c.len.ensures.unique in
    record { same = ap words_of moved ∙ c.self.view_is }
