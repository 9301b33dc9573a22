use Rattle.std.proofs.lemmas.List.Elements.{All-nil}
use Rattle.rp_checker.specs.Answers.{IsReadWith}
use Rattle.rp_proxy.proofs.LaterNames.{grants-later, rows-later}
use Rattle.rp_proxy.proofs.RowWords.{declared-words}
use Rattle.rp_proxy.proofs.world.World.new.Goals as goal

pub returns-clause-faithful : goal.returns-clause-faithful
returns-clause-faithful c =
    let read : IsReadWith c.args.names c.args.decl = record {
      first = c.requires.first;
      distinct = c.text-first.ensures.distinct;
      held = c.requires.held;
      consistent = c.requires.consistent;
      words = declared-words c.args.names c.args.decl c.text-first.ensures.identifiers c.requires.held;
    } in
    record {
      read = read;
      ordered = c.requires.ordered;
      rows = rows-later c.args.names c.args.decl c.in_ok-checkers.checkers read c.in_ok-checkers.ensures.answers;
      rows_within = c.in_ok-checkers.ensures.declared;
      grants = grants-later c.args.names c.args.decl c.args.running.interaction read c.requires.grants;
      classes = rw c.new-2.ensures.heap (All-nil _);
      entries = rw c.new-3.ensures (All-nil _);
    }
