use Rattle.std.proofs.Common.{◌≡◌, [], ◌∷◌, ◌++◌, ap, subst, sym, length, arith}
use Rattle.std.proofs.lemmas.List.{length-append}
use Rattle.rp_scope.specs.Tables.{IsTableOf, AreTablesOf}
use Rattle.rp_scope.proofs.Cells.{one_more_table}
use Rattle.rp_scope.proofs.layouts.tables_of.Goals as goal

pub blocks-2-preserved : goal.blocks-2-preserved
blocks-2-preserved c =
    let pushed : c.push.new.self.items ≡ c.blocks-2.tables.items ++ c.in_ok-of_block.field-0 ∷ [] = c.in_ok-push.ensures.items in
    let of_block : IsTableOf c.args.scopes.now (length c.blocks-2.tables.items) c.in_ok-of_block.field-0 = subst (λ k. IsTableOf c.args.scopes.now k c.in_ok-of_block.field-0) (sym c.blocks-2.invariant.count) c.in_ok-of_block.ensures in
    record {
      count = omega (arith, ap length pushed, length-append c.blocks-2.tables.items (c.in_ok-of_block.field-0 ∷ []));
      right = subst (AreTablesOf c.args.scopes.now) (sym pushed) (one_more_table c.args.scopes.now c.blocks-2.tables.items c.in_ok-of_block.field-0 c.blocks-2.invariant.right of_block);
    }
