use Rattle.std.proofs.Common.{◌<◌, length}
use Rattle.rp_base.proofs.Words.{identifier_at, words_of}
use Rattle.rp_base.proofs.names.Names.text.Goals as goal

pub returns-clause-identifier : goal.returns-clause-identifier
returns-clause-identifier c =
    let within : c.args.name.0 < length (words_of c.self.inside.words.keys) = rw c.self.view_is c.requires in
    rw c.as_str.ensures.value (identifier_at c.self.inside.words.keys c.args.name.0 c.index-as_slice-name.result c.self.invariant.identifiers within (rw c.as_slice.ensures.keys at c.index-as_slice-name.is))
