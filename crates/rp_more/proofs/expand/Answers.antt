use Rattle.rp_more.proofs.Expanding.{Given, expanded-failed, expanded-now, found-ends, found-held, found-shallow}
use Rattle.rp_more.proofs.ExpandedWords.{expanded-words}
use Rattle.rp_more.proofs.Leading.{fault_handed}
use Rattle.rp_more.proofs.expand.Goals as goal

pub returns-in_err-written-clause-expanded : goal.returns-in_err-written-clause-expanded
returns-in_err-written-clause-expanded c =
    let f = c.in_err-written.field-0.0 in
    let is = fault_handed c.from_residual.result f c.from_residual.ensures.1 in
    rw is (expanded-failed c.args.names.now c.written_out.new.names c.args.tokens.items f c.requires c.in_err-written.ensures.grown c.in_err-written.ensures.literals)

pub returns-clause-expanded : goal.returns-clause-expanded
returns-clause-expanded c =
    let found = c.in_ok-written_out.field-0 in
    let given : Given c.args.names.now c.written_out.new.names c.args.tokens.items c.in_ok-written.written.items found.items =
    record { held = c.requires; grown = c.in_ok-written.ensures.grown; literals = c.in_ok-written.ensures.literals; sets = c.in_ok-written_out.ensures } in
    expanded-now _ _ _ _ _ given

pub returns-clause-held : goal.returns-clause-held
returns-clause-held c =
    let found = c.in_ok-written_out.field-0 in
    let given : Given c.args.names.now c.written_out.new.names c.args.tokens.items c.in_ok-written.written.items found.items =
    record { held = c.requires; grown = c.in_ok-written.ensures.grown; literals = c.in_ok-written.ensures.literals; sets = c.in_ok-written_out.ensures } in
    found-held _ _ _ _ found given

pub returns-clause-ends : goal.returns-clause-ends
returns-clause-ends c =
    let found = c.in_ok-written_out.field-0 in
    let given : Given c.args.names.now c.written_out.new.names c.args.tokens.items c.in_ok-written.written.items found.items =
    record { held = c.requires; grown = c.in_ok-written.ensures.grown; literals = c.in_ok-written.ensures.literals; sets = c.in_ok-written_out.ensures } in
    found-ends _ _ _ _ _ given

pub returns-clause-shallow : goal.returns-clause-shallow
returns-clause-shallow c =
    let found = c.in_ok-written_out.field-0 in
    let given : Given c.args.names.now c.written_out.new.names c.args.tokens.items c.in_ok-written.written.items found.items =
    record { held = c.requires; grown = c.in_ok-written.ensures.grown; literals = c.in_ok-written.ensures.literals; sets = c.in_ok-written_out.ensures } in
    found-shallow _ _ _ _ _ given

pub returns-clause-words : goal.returns-clause-words
returns-clause-words c =
    let old = c.args.names.now in
    let new = c.written_out.new.names in
    let written = c.in_ok-written.written.items in
    let found = c.in_ok-written_out.field-0 in
    let given : Given old new c.args.tokens.items written found.items =
    record { held = c.requires; grown = c.in_ok-written.ensures.grown; literals = c.in_ok-written.ensures.literals; sets = c.in_ok-written_out.ensures } in
    expanded-words old new c.args.tokens.items written found.items given c.in_ok-written.ensures.follows
