use Rattle.std.proofs.Common.{◌++◌, ◌∙◌, ap, reverse}
use Rattle.std.proofs.lemmas.List.{reverse-append, reverse-reverse}
use Rattle.rp_frame.proofs.values.Values.put.Goals as goal

pub returns-clause-put : goal.returns-clause-put
returns-clause-put c =
    let items = c.self.inside.values.items in
    let vs = c.args.values.items in
    ap reverse (c.in_ok-append.ensures.items ∙ ap (λ us. items ++ us) c.reverse.ensures.items) ∙ reverse-append items (reverse vs)
    ∙ ap (λ us. us ++ reverse items) (reverse-reverse vs) ∙ ap (λ us. vs ++ us) c.self.view_is
