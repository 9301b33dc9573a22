use Rattle.std.proofs.Common.{◌≡◌, rules, refl}
use Rattle.toml.specs.Data.{no_members}
use Rattle.toml.specs.View.{view}
use Rattle.toml.specs.declared.value.Value.{the_lemmas}
use Rattle.rp_decl.specs.Document.{members_of}
use Rattle.rp_decl.proofs.Documents.{AreAscending-nil}
use Rattle.rp_decl.proofs.Growth.{GrowsTo-refl}
use Rattle.rp_decl.proofs.reading.records_of.Goals as goal

pub returns-in_default : goal.returns-in_default
returns-in_default g c =
    let none : members_of (view c.args.value.now) ≡ no_members = search (rules, the_lemmas) in
    record {
      records = λ later grown. rw (c.new.ensures.items, none) refl;
      ordered = rw none AreAscending-nil;
      grown = GrowsTo-refl c.args.names.now;
      interned = rw none refl;
    }
