use Rattle.std.proofs.Common.{option_map, sym, ap, ◌∙◌}
use Rattle.rp_base.specs.Names.{word_of}
use Rattle.rp_policy.specs.Offences.{at_line, offence, wrong_attribute, wrong_binding, wrong_call, wrong_method, wrong_reading}
use Rattle.rp_policy.proofs.offence.offence_at.Goals as goal

pub returns-in-Reads : goal.returns-in-Reads
unfolding offence
returns-in-Reads c =
    let named = c.in-Reads.named in
    c.at.ensures
    ∙ (ap (option_map (at_line named.line)) (c.wrong_reading.ensures ∙ ap (λ word. wrong_reading word named.name) c.word_of.ensures)
    ∙ ap (offence (word_of c.args.names.now)) (sym c.in-Reads.is))

pub returns-in-Binds : goal.returns-in-Binds
unfolding offence
returns-in-Binds c =
    let named = c.in-Binds.named in
    c.at-in-Binds.ensures
    ∙ (ap (option_map (at_line named.line)) (c.wrong_binding.ensures ∙ ap (λ word. wrong_binding word named.name) c.word_of-in-Binds.ensures)
    ∙ ap (offence (word_of c.args.names.now)) (sym c.in-Binds.is))

pub returns-in-Method : goal.returns-in-Method
unfolding offence
returns-in-Method c =
    let named = c.in-Method.named in
    c.at-in-Method.ensures
    ∙ (ap (option_map (at_line named.line)) (c.wrong_method.ensures ∙ ap (λ word. wrong_method word named.name) c.word_of-in-Method.ensures)
    ∙ ap (offence (word_of c.args.names.now)) (sym c.in-Method.is))

pub returns-in-Calls : goal.returns-in-Calls
unfolding offence
returns-in-Calls c =
    let named = c.in-Calls.named in
    c.at-in-Calls.ensures
    ∙ (ap (option_map (at_line named.line)) (c.wrong_call.ensures ∙ ap (λ word. wrong_call word named.name) c.word_of-in-Calls.ensures)
    ∙ ap (offence (word_of c.args.names.now)) (sym c.in-Calls.is))

pub returns-in-Attribute : goal.returns-in-Attribute
unfolding offence
returns-in-Attribute c =
    let named = c.in-Attribute.named in
    c.at-in-Attribute.ensures
    ∙ (ap (option_map (at_line named.line)) (c.wrong_attribute.ensures ∙ ap (λ word. wrong_attribute word named.name) c.word_of-in-Attribute.ensures)
    ∙ ap (offence (word_of c.args.names.now)) (sym c.in-Attribute.is))

pub returns-in-Augments : goal.returns-in-Augments
unfolding offence
returns-in-Augments c = c.at-in-Augments.ensures ∙ ap (offence (word_of c.args.names.now)) (sym c.in-Augments.is)
