use Rattle.std.proofs.Common.{refl}
use Rattle.std.proofs.lemmas.Int.{to_z-of_z}
use Rattle.std.specs.Int.{w64}
use Rattle.rp_engine.proofs.Equations.{form_int, form_name}
use Rattle.rp_engine.proofs.machine.Machine.form_number.Goals as goal

pub returns-in-Name-clause-law : goal.returns-in-Name-clause-law
returns-in-Name-clause-law c = rw (c.in-Name.is, form_name c.in-Name.name) c.number_named.ensures.law

pub returns-in-Int-clause-law : goal.returns-in-Int-clause-law
returns-in-Int-clause-law c = λ base s same.
    rw (c.in-Int.is, form_int c.in-Int.number, to_z-of_z w64 c.number_at.result c.number_at.ensures.fits, c.number_at.ensures.value) refl
