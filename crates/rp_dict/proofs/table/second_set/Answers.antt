use Rattle.std.proofs.Common.{◌∙◌, sym, ap, Some, get_or, slice_set}
use Rattle.std.specs.Option.{option_map}
use Rattle.rp_dict.proofs.Live.{no_value_here, second_says-absent, second_says-held, set_value_here, value_here}
use Rattle.rp_dict.proofs.table.second_set.Goals as goal

pub returns-in_default-clause-set : goal.returns-in_default-clause-set
returns-in_default-clause-set g c d = absurd (no_value_here c.args.map.now.entries c.args.place c.in_default.ensures.value c.requires)

pub returns-in_default-clause-held : goal.returns-in_default-clause-held
returns-in_default-clause-held g c d = absurd (no_value_here c.args.map.now.entries c.args.place c.in_default.ensures.value c.requires)

pub returns-in-Some-held-clause-set : goal.returns-in-Some-held-clause-set
returns-in-Some-held-clause-set g c d =
    let es = c.args.map.now.entries in
    let at = value_here es c.args.place c.in-Some.held.now d c.in-Some.ensures.value ∙ c.in-Some-held.is in
    set_value_here es c.args.place _ d
    ∙ ap (λ o. slice_set es c.args.place ((get_or es c.args.place d).0, o)) (ap (λ v. Some (c.in-Some-held.pair.0, v)) c.replace.ensures.after ∙ sym (ap (option_map (λ pair. (pair.0, c.args.value))) at))

pub returns-in-Some-held-clause-held : goal.returns-in-Some-held-clause-held
returns-in-Some-held-clause-held g c d =
    let at = value_here c.args.map.now.entries c.args.place c.in-Some.held.now d c.in-Some.ensures.value ∙ c.in-Some-held.is in
    second_says-held c.args.value _ c.replace.result c.in-Some-held.pair at c.replace.ensures.value

pub returns-in-None-clause-set : goal.returns-in-None-clause-set
returns-in-None-clause-set g c d =
    let es = c.args.map.now.entries in
    let at = value_here es c.args.place c.in-Some.held.now d c.in-Some.ensures.value ∙ c.in-None.is in
    set_value_here es c.args.place _ d
    ∙ ap (λ o. slice_set es c.args.place ((get_or es c.args.place d).0, o)) (c.in-None.is ∙ sym (ap (option_map (λ pair. (pair.0, c.args.value))) at))

pub returns-in-None-clause-held : goal.returns-in-None-clause-held
returns-in-None-clause-held g c d =
    let at = value_here c.args.map.now.entries c.args.place c.in-Some.held.now d c.in-Some.ensures.value ∙ c.in-None.is in
    second_says-absent c.args.value _ at
