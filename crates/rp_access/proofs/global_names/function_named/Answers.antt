use Rattle.std.proofs.Common.{◌∙◌, sym, ap, chars, List, rules}
use Rattle.rp_attributes.specs.Attributes.{method_named}
use Rattle.rp_base.specs.declared.native.NativeId.{NativeId}
use Rattle.rp_access.proofs.Exposed.{functions_of_script}
use Rattle.rp_access.proofs.global_names.function_named.Goals as goal

pub returns : goal.returns
returns c =
    c.public_function.ensures ∙ sym (ap (λ (ids : List NativeId). method_named ids (chars c.args.word.now)) (functions_of_script c.args.side.0 (search rules)))
