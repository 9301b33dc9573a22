-- Records that were read into names which have grown since.
use Rattle.std.proofs.Common.{ℕ, List, sym, subst}
use Rattle.rp_base.specs.Names.{first_words}
use Rattle.rp_decl.proofs.Growth.{GrowsTo-trans}
use Rattle.rp_decl.specs.Consistency.{IsConsistent}
use Rattle.rp_decl.specs.InOrder.{AreInOrder}
use Rattle.rp_decl.specs.Places.{GrowsTo}
use Rattle.rp_decl.specs.View.{Placed}
use Rattle.rp_proxy.proofs.LaterRecords.{declarations-later, held-later}
use Rattle.rp_run.specs.View.{IsReadInto}

-- the records stay those that were read
pub IsReadInto-later : (names later : List (List ℕ)) → GrowsTo names later → (d : Placed) → IsReadInto names d
    → IsReadInto later d
IsReadInto-later names later grown d read =
    let same = declarations-later names later grown d read.held in
    record {
      first = GrowsTo-trans first_words names later read.first grown;
      held = held-later names later grown d read.held;
      consistent = subst IsConsistent (sym same) read.consistent;
      ordered = subst AreInOrder (sym same) read.ordered;
    }
