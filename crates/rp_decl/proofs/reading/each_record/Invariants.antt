use Rattle.std.proofs.Common.{◌≡◌, flat_map}
use Rattle.std.specs.List.{AllByRecursion}
use Rattle.toml.specs.View.{members_view}
use Rattle.rp_base.specs.Names.{with_words}
use Rattle.rp_decl.specs.Document.{each_member}
use Rattle.rp_decl.specs.Places.{GrowsTo}
use Rattle.rp_decl.specs.Reading.{FromNowOn, Shows}
use Rattle.rp_decl.proofs.reading.each_record.Given as goal

abbrev pub invariant-loop-key : goal.invariant-loop-key
invariant-loop-key g l = record {
  left_known : AllByRecursion (g.R.Record.is_known l.known) (each_member g.R.Record.said (members_view l.key-iterator));
  shown : FromNowOn l.names (λ names. Shows (g.R.Record.shows names l.known) l.records.items (each_member g.R.Record.said (members_view l.table.entries)) (each_member g.R.Record.said (members_view l.key-iterator)));
  grown : GrowsTo l.initial.names l.names;
  interned : with_words l.names (flat_map g.R.Record.words (each_member g.R.Record.said (members_view l.key-iterator))) ≡ with_words l.initial.names (flat_map g.R.Record.words (each_member g.R.Record.said (members_view l.table.entries)));
}
