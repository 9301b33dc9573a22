use Rattle.std.proofs.Common.{◌++◌, ◌∙◌, ap, reverse}
use Rattle.std.proofs.lemmas.List.{reverse-append}
use Rattle.rp_frame.proofs.values.Values.add.Goals as goal

pub returns-clause-added : goal.returns-clause-added
returns-clause-added c =
    let items = c.self.inside.values.items in
    let vs = c.args.values.items in
    ap reverse c.in_ok-append.ensures.items ∙ reverse-append items vs ∙ ap (λ us. reverse vs ++ us) c.self.view_is
