use Rattle.std.proofs.Common.{◌∙◌, ◌++◌, ◌∷◌, [], None, ap, sym, true≢false, is_some, length, slice_get, ◌<◌, arith}
use Rattle.std.proofs.lemmas.List.{length-append, get_or_append_left}
use Rattle.std.proofs.lemmas.Option.{get_or_from_slice_get, slice_get-get_or}
use Rattle.indexmap.proofs.CallerLemmas.{insert_entry-new}
use Rattle.rp_dict.specs.declared.slot.Slot.TheVariants.{Dead}
use Rattle.rp_dict.specs.Slot.{slot_eq}
use Rattle.rp_dict.proofs.Live.{swap_remove-end}
use Rattle.rp_dict.proofs.table.marked.Goals as goal

pub returns-in-Some-clause-marked : goal.returns-in-Some-clause-marked
returns-in-Some-clause-marked g c =
    let put = c.in_ok-insert.ensures.entries ∙ insert_entry-new (slot_eq g.K.PartialEq.eq) c.args.map.now (Dead c.args.mark) None c.requires.fresh in
    rw (c.in-Some.ensures.entries, put) (swap_remove-end c.args.map.now.entries c.args.place (Dead c.args.mark, None) _ c.requires.within)

pub returns-in-Some-clause-value : goal.returns-in-Some-clause-value
returns-in-Some-clause-value g c d =
    let es = c.args.map.now.entries in
    let put = c.in_ok-insert.ensures.entries ∙ insert_entry-new (slot_eq g.K.PartialEq.eq) c.args.map.now (Dead c.args.mark) None c.requires.fresh in
    let stands = sym (c.in-Some.ensures.entry ∙ ap (λ l. slice_get l c.args.place) put) in
    sym (ap (λ p. p.1) (sym (get_or_append_left es ((Dead c.args.mark, None) ∷ []) d c.args.place c.requires.within) ∙ get_or_from_slice_get (es ++ (Dead c.args.mark, None) ∷ []) c.args.place _ d stands))

pub returns-clause-marked : goal.returns-clause-marked
returns-clause-marked g c =
    let es = c.args.map.now.entries in
    let put = c.in_ok-insert.ensures.entries ∙ insert_entry-new (slot_eq g.K.PartialEq.eq) c.args.map.now (Dead c.args.mark) None c.requires.fresh in
    let within : c.args.place < length (es ++ (Dead c.args.mark, None) ∷ []) = omega (arith, c.requires.within, length-append es ((Dead c.args.mark, None) ∷ [])) in
    absurd (true≢false (sym (ap is_some (c.in-None.ensures.entry ∙ ap (λ l. slice_get l c.args.place) put ∙ slice_get-get_or _ _ (Dead 0, None) within))))

pub returns-clause-value : goal.returns-clause-value
returns-clause-value g c d =
    let es = c.args.map.now.entries in
    let put = c.in_ok-insert.ensures.entries ∙ insert_entry-new (slot_eq g.K.PartialEq.eq) c.args.map.now (Dead c.args.mark) None c.requires.fresh in
    let within : c.args.place < length (es ++ (Dead c.args.mark, None) ∷ []) = omega (arith, c.requires.within, length-append es ((Dead c.args.mark, None) ∷ [])) in
    absurd (true≢false (sym (ap is_some (c.in-None.ensures.entry ∙ ap (λ l. slice_get l c.args.place) put ∙ slice_get-get_or _ _ (Dead 0, None) within))))
