use Rattle.std.proofs.Common.{not, ◌∙◌, ap, sym}
use Rattle.rp_items.proofs.Found.{entry-dropped, entry-missing, written-missing}
use Rattle.rp_ops.proofs.CallerLemmas.{Meets-raised}
use Rattle.rp_base.proofs.CallerLemmas.{is_none-None}
use Rattle.rp_items.proofs.item_writers.drop_entry.Goals as goal

pub returns-then-is_none-clause-plain : goal.returns-then-is_none-clause-plain
returns-then-is_none-clause-plain c =
    let old = c.args.store.now in
    let form = sym c.in-Some.is ∙ c.in_ok-key.ensures in
    let is = c.drop_key-dropped.ensures.value in
    let none = is_none-None _ c.is_none.result c.is_none.ensures c.if-is_none.true in
    let same = c.missing_key.ensures.same ∙ c.drop_key-dropped.ensures.dropped ∙ written-missing c.in-Some.key old c.args.at (sym is ∙ none) in
    (λ steps. Meets-raised c.missing_key.result _ old c.missing_key.new.store steps _ c.missing_key.ensures.raises same
    (entry-missing old c.args.at c.args.rock.now c.in-Some.key steps _ form is none))

pub returns-then-is_none-clause-same : goal.returns-then-is_none-clause-same
returns-then-is_none-clause-same c =
    let none = is_none-None _ c.is_none.result c.is_none.ensures c.if-is_none.true in
    c.missing_key.ensures.same ∙ c.drop_key-dropped.ensures.dropped
    ∙ written-missing c.in-Some.key c.args.store.now c.args.at (sym c.drop_key-dropped.ensures.value ∙ none)

pub returns-clause-plain : goal.returns-clause-plain
returns-clause-plain c =
    (λ steps. entry-dropped c.args.store.now c.args.at c.args.rock.now c.in-Some.key steps _ (sym c.in-Some.is ∙ c.in_ok-key.ensures) c.drop_key-dropped.ensures.value
    c.drop_key-dropped.new.self (c.is_none.ensures ∙ ap not c.if-is_none.false) c.drop_key-dropped.ensures.dropped)
