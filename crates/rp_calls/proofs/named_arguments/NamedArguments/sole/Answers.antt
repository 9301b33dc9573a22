use Rattle.std.proofs.Common.{◌≡◌, ◌∙◌, ◌++◌, Option, IfOk, ap, chars, subst}
use Rattle.std.specs.Option.{option_copied, option_map, option_to_list}
use Rattle.rp_base.specs.declared.value.Value.{Value}
use Rattle.rp_calls.specs.Binding.{given, sole}
use Rattle.rp_calls.specs.TableSteps.{chosen}
use Rattle.rp_calls.proofs.Tables.{sole-told}
use Rattle.rp_calls.proofs.named_arguments.NamedArguments.sole.Goals as goal

pub returns-in-Some : goal.returns-in-Some
returns-in-Some c =
    let first : Option Value = option_copied c.args.first in
    let default : Option Value = option_copied c.args.default in
    let told = sole-told c.self.inside.table c.in-Some.table c.self.inside.list.now c.args.word.now first default c.self.invariant c.in-Some.is c.utf8.word in
    subst (λ (v : Option Value). IfOk c.chosen.result (λ r. r ≡ v))
    (ap (λ held. chosen first (option_map option_copied held) default) (c.copied.ensures ∙ c.get.ensures.value)
    ∙ told
    ∙ ap (λ named. sole (option_to_list first ++ given named (chars c.args.word.now)) default) c.self.view_is)
    c.chosen.ensures
