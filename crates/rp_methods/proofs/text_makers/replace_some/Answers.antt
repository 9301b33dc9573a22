use Rattle.std.proofs.Common.{◌≡◌, ◌<◌, List, ℕ, chars, encode_utf8_all, length, ap, subst, sym, ◌∙◌}
use Rattle.rp_ops.specs.Outcome.{state_of}
use Rattle.rp_methods.specs.Texts.{joined, pieces}
use Rattle.rp_methods.proofs.Turns.{text-over, text-same}
use Rattle.rp_methods.proofs.text_makers.replace_some.Goals as goal

pub replaced-requires : goal.replaced-requires
replaced-requires c = subst (λ (l : List ℕ). 0 < length l) (sym c.as_str-2.ensures) c.requires

pub returns-in_default-clause-plain : goal.returns-in_default-clause-plain
returns-in_default-clause-plain c =
    let text = chars c.as_str.result.now in
    let from = chars c.as_str-2.result.now in
    let to = chars c.as_str-3.result.now in
    let whole = joined c.args.to.now (pieces c.args.from.now c.args.text.now) in
    let same : joined to (pieces from text) ≡ whole =
    ap (λ (l : List ℕ). joined l (pieces from text)) c.as_str-3.ensures ∙ ap (λ (l : List ℕ). joined c.args.to.now (pieces l text)) c.as_str-2.ensures
    ∙ ap (λ (l : List ℕ). joined c.args.to.now (pieces c.args.from.now l)) c.as_str.ensures in
    (λ steps. text-over whole c.args.store.now steps c.room_in-room.result c.room_in-room.ensures
    (subst (λ (l : List ℕ). c.room_in-room.result < length (encode_utf8_all l)) same (rw c.in_default.is at c.in_ok-made.ensures.over)))

pub returns-clause-plain : goal.returns-clause-plain
returns-clause-plain c =
    let text = chars c.as_str.result.now in
    let from = chars c.as_str-2.result.now in
    let to = chars c.as_str-3.result.now in
    let whole = joined c.args.to.now (pieces c.args.from.now c.args.text.now) in
    let same : joined to (pieces from text) ≡ whole =
    ap (λ (l : List ℕ). joined l (pieces from text)) c.as_str-3.ensures ∙ ap (λ (l : List ℕ). joined c.args.to.now (pieces l text)) c.as_str-2.ensures
    ∙ ap (λ (l : List ℕ). joined c.args.to.now (pieces c.args.from.now l)) c.as_str.ensures in
    (λ steps. text-same c.new_text.result (state_of c.args.store.now steps) (state_of c.new_text.new.store steps) whole c.as_str-4.result.now c.as_str-4.utf8
    (c.as_str-4.ensures.value ∙ rw c.in-Some.is at c.in_ok-made.ensures.replaced ∙ ap encode_utf8_all same) (c.new_text.ensures.plain steps))
