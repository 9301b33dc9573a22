use Rattle.std.proofs.Common.{chars}
use Rattle.std.proofs.lemmas.Result.{IfOk-weaker}
use Rattle.rp_decl.proofs.Growth.{ShowsName-held}
use Rattle.rp_decl.proofs.Words.{IsIdentifier-is_declared_name}
use Rattle.rp_decl.proofs.reading.name_of.Goals as goal

pub intern-requires : goal.intern-requires
intern-requires c = IsIdentifier-is_declared_name (chars c.args.word.now) c.requires

pub returns-clause-name : goal.returns-clause-name
returns-clause-name c =
    IfOk-weaker c.intern.result _ _ (λ name held. ShowsName-held c.intern.new.self name (chars c.args.word.now) held) c.intern.ensures.place
