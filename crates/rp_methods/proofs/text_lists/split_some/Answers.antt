use Rattle.std.proofs.Common.{◌≡◌, ◌<◌, List, ℕ, chars, length, ap, subst, sym, ◌∙◌}
use Rattle.rp_ops.specs.Outcome.{state_of}
use Rattle.rp_methods.specs.Texts.{pieces}
use Rattle.rp_methods.proofs.Turns.{listed-same, values-again}
use Rattle.rp_methods.proofs.text_lists.split_some.Goals as goal

pub list_texts-requires : goal.list_texts-requires
list_texts-requires c = values-again c.in_ok-values.values.items (pieces (chars c.as_str-2.result.now) (chars c.as_str.result.now)) c.in_ok-values.ensures

pub returns-clause-plain : goal.returns-clause-plain
returns-clause-plain c =
    let found = pieces (chars c.as_str-2.result.now) (chars c.as_str.result.now) in
    let same : found ≡ pieces c.args.part.now c.args.text.now =
    ap (λ (l : List ℕ). pieces l (chars c.as_str.result.now)) c.as_str-2.ensures ∙ ap (λ (l : List ℕ). pieces c.args.part.now l) c.as_str.ensures in
    (λ steps. listed-same c.list_texts.result (state_of c.args.store.now steps) (state_of c.list_texts.new.store steps) c.args.side c.in_ok-values.values.items found
    (pieces c.args.part.now c.args.text.now) c.in_ok-values.ensures same (c.list_texts.ensures.plain steps))

pub pieces_of-requires : goal.pieces_of-requires
pieces_of-requires c = subst (λ (l : List ℕ). 0 < length l) (sym c.as_str-2.ensures) c.requires
