use Rattle.std.proofs.Common.{◌<◌, ◌∙◌, ℕ, sym, subst, arith}
use Rattle.rp_engine.proofs.CodeNumbers.{program_indexed}
use Rattle.rp_engine.specs.declared.units.Program.{Program}
use Rattle.rp_engine.proofs.units.Program.of_tree.Goals as goal

pub returns-clause-block : goal.returns-clause-block
returns-clause-block c =
    let blocks = c.requires.blocks in
    omega (arith, blocks)

pub returns-clause-indexed : goal.returns-clause-indexed
returns-clause-indexed c =
    let p : Program = record { tree = c.args.tree; layouts = c.args.layouts; codes = c.in_ok-codes.codes } in
    program_indexed p c.requires.numbers c.requires.blocks (c.in_ok-codes.ensures.size ∙ c.len.ensures)
    (λ n within. c.in_ok-codes.ensures.codes n (subst (λ (k : ℕ). n < k) (sym c.len.ensures) within)) c.requires.low
