use Rattle.rp_run.proofs.Sayings.{unknown_to}
use Rattle.rp_run.proofs.admitting.find_principals.Goals as goal

pub returns-in_ok-labelled-in-Err-Unknown-clause-refused : goal.returns-in_ok-labelled-in-Err-Unknown-clause-refused
returns-in_ok-labelled-in-Err-Unknown-clause-refused c =
    let said = c.in_ok-labelled-in-Err-Unknown.ensures in (
      c.in-Err-Unknown.id,
      (
        unknown_to c.args.decl.now c.args.ids.now c.in-Err-Unknown.field-0 c.in-Err-Unknown.id
            c.in-Err-Unknown.field-0-is c.in-Err-Unknown.ensures.refused,
        said.0,
        said.1,
      ),
    )
