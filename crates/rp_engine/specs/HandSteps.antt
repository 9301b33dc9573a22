-- The arguments of a call that stand at hand, upon what is called.
use Rattle.std.specs.Prelude.{ℕ, List}
use Rattle.rp_base.specs.declared.value.Value.{Value}
use Rattle.rp_meaning.specs.Binding.{Arguments}
use Rattle.rp_engine.specs.ArgumentSteps.{arguments_at, sum_of}
use Rattle.rp_engine.specs.declared.calling.Hand.{Hand}

abbrev pub size_of : Hand → ℕ
size_of h = sum_of h.plain h.named

abbrev pub held_by : Hand → List Value → Arguments
held_by h vs = arguments_at h.plain h.named vs
