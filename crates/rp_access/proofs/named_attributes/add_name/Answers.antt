use Rattle.std.specs.Str.{chars}
use Rattle.rp_access.proofs.NamedWords.{IsFaithful-added, IsFaithful-same, name-added, state-added}
use Rattle.rp_access.proofs.named_attributes.add_name.Goals as goal

pub returns-clause-added : goal.returns-clause-added
returns-clause-added c = state-added c.args.world.now (chars c.args.word.now) c.intern.new.self c.requires.faithful c.in_ok-name.ensures.words

pub returns-clause-place : goal.returns-clause-place
returns-clause-place c = name-added c.args.world.now (chars c.args.word.now) c.intern.new.self c.requires.faithful c.in_ok-name.ensures.words c.in_ok-name.name c.in_ok-name.ensures.place

pub returns-clause-faithful : goal.returns-clause-faithful
returns-clause-faithful c = IsFaithful-added c.args.world.now (chars c.args.word.now) c.intern.new.self c.requires.faithful c.in_ok-name.ensures.words

pub returns-in_err-name-clause-faithful : goal.returns-in_err-name-clause-faithful
returns-in_err-name-clause-faithful c = IsFaithful-same c.args.world.now c.intern.new.self c.in_err-name.ensures.same c.requires.faithful
