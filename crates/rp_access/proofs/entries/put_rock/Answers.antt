use Rattle.std.proofs.Common.{Ok, sym, ap, ◌∙◌}
use Rattle.rp_store.specs.Object as object
use Rattle.rp_store.specs.Object.{Entries}
use Rattle.rp_access.proofs.Coupled.{rock_put}
use Rattle.rp_access.proofs.entries.put_rock.Goals as goal

pub returns-in_ok-put_key-in-Some : goal.returns-in_ok-put_key-in-Some
returns-in_ok-put_key-in-Some c =
    rock_put c.args.rock.now c.in-Some.key c.args.value.now c.args.entries.now (sym c.in_ok-key.ensures ∙ c.in-Some.is)
    ∙ ap (λ (es : Entries). Ok (object.dict es)) (sym c.in_ok-put_key-in-Some.ensures)
