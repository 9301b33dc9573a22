use Rattle.std.proofs.Common.{[], Option, ap, ◌∙◌}
use Rattle.std.specs.Option.{option_map_or}
use Rattle.std.proofs.lemmas.Str.{chars-nil}
use Rattle.rp_store.specs.Object.{Content}
use Rattle.rp_show.specs.Show.{function_word}
use Rattle.rp_show.proofs.object_names.function_word_at.Goals as goal

pub returns-in-None : goal.returns-in-None
returns-in-None c = chars-nil ∙ ap (λ (o : Option Content). option_map_or (function_word c.args.names.now) o []) c.in-None.ensures.content
