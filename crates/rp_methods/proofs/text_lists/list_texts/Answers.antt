use Rattle.std.proofs.Common.{◌≡◌, ◌+◌, ◌*◌, ◌<◌, ◌≤◌, List, ℕ, map, ap, subst, ◌∙◌}
use Rattle.rp_store.specs.Store.{IsOver}
use Rattle.rp_ops.proofs.CallerLemmas.{used}
use Rattle.rp_base.specs.declared.value.Value.{Value}
use Rattle.rp_methods.specs.Texts.{letters_of}
use Rattle.rp_methods.proofs.Turns.{bytes_in, listed-over, listed-stopped, listed-within, texts-sound}
use Rattle.rp_methods.proofs.text_lists.list_texts.Goals as goal

pub add_list-requires : goal.add_list-requires
add_list-requires c = texts-sound c.charge_copies.new.store.heap c.args.values.items (map letters_of c.args.values.items) c.requires

pub returns-in_default-clause-plain : goal.returns-in_default-clause-plain
returns-in_default-clause-plain c =
    (λ steps. listed-over c.args.side c.args.values.items c.args.store.now steps c.room_in.result c.room_in.ensures
    (subst (λ (vs : List Value). c.room_in.result < bytes_in vs) c.as_slice.ensures.value c.in_default.ensures.over))

pub returns-in_err-charge_copies-clause-plain : goal.returns-in_err-charge_copies-clause-plain
returns-in_err-charge_copies-clause-plain c =
    let bytes : c.in-Some.bytes ≡ bytes_in c.args.values.items = c.in-Some.ensures.bytes ∙ ap bytes_in c.as_slice.ensures.value in
    (λ steps. listed-stopped c.args.side c.args.values.items c.args.store.now c.charge_copies.new.store c.from_residual.result c.in_err-charge_copies.field-0.0 c.in-Some.bytes steps
    bytes c.from_residual.ensures.1 c.in_err-charge_copies.ensures.stopped
    (subst (λ (n : ℕ). IsOver c.args.store.now ((1 + n) + c.in-Some.bytes * 1)) (c.len.ensures ∙ c.args.values.ok.0) c.in_err-charge_copies.ensures.over) c.in_err-charge_copies.ensures.same)

pub returns-clause-plain : goal.returns-clause-plain
returns-clause-plain c =
    let bytes : c.in-Some.bytes ≡ bytes_in c.args.values.items = c.in-Some.ensures.bytes ∙ ap bytes_in c.as_slice.ensures.value in
    (λ steps. listed-within c.args.side c.args.values.items c.args.store.now c.charge_copies.new.store c.in-Some.bytes steps c.requires bytes
    (subst (λ (n : ℕ). c.args.store.now.used + ((1 + n) + c.in-Some.bytes * 1) ≤ c.args.store.now.limit) (c.len.ensures ∙ c.args.values.ok.0) c.in_ok-charge_copies.ensures.within)
    (c.in_ok-charge_copies.ensures.charged ∙ ap (λ (n : ℕ). used c.args.store.now ((1 + n) + c.in-Some.bytes * 1)) (c.len.ensures ∙ c.args.values.ok.0)) ∙ c.in_ok-list.ensures.plain steps)
