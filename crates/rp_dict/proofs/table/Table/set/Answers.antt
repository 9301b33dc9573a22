use Rattle.std.proofs.Common.{refl, sym, ap, ◌∙◌, Result, Ok, Err, OnErr, Some}
use Rattle.rp_dict.specs.declared.slot.Slot.TheVariants.{Live}
use Rattle.rp_dict.specs.Places.{flat}
use Rattle.rp_dict.specs.Slot.{slot_eq}
use Rattle.rp_dict.proofs.Blocks.{blocks_like, insert_entry-longer, place_like, rank_insert}
use Rattle.rp_dict.proofs.Live.{lookup-live, set}
use Rattle.rp_dict.proofs.table.Table.set.Goals as goal

on_err : {A E P : Type 0} (r : Result A E) → P → OnErr r P
on_err (Ok x) p = tt
on_err (Err e) p = p

pub returns-in_err-old-clause-absent : goal.returns-in_err-old-clause-absent
returns-in_err-old-clause-absent g c =
    rw (← c.self.view_is)
    (on_err _ (sym (lookup-live g.K.PartialEq.eq c.args.key (slot_eq g.K.PartialEq.eq (Live c.args.key)) (λ b. refl) (λ m. refl) _ _ c.self.invariant.kept) ∙ ap flat c.in_err-old.ensures.absent))

pub invariant_of-self-2 : goal.invariant_of-self-2
invariant_of-self-2 g c =
    let done = set g.K.PartialEq.eq c.args.key c.args.value c.self.inside.next c.self.inside.map.entries c.self.invariant.kept in
    rw c.in_ok-old.ensures.entries (record { kept = done.kept; counted = c.self.invariant.counted ∙ sym done.counted; blocks = rw (← c.in_ok-old.ensures.entries) c.count_blocks.ensures; stand = place_like _ _ _ _ c.self.invariant.stand (insert_entry-longer (slot_eq g.K.PartialEq.eq) (Live c.args.key) (Some c.args.value) _) (λ i below. rank_insert g.K.PartialEq.eq c.args.key c.args.value c.self.inside.next _ i c.self.invariant.kept below) })

pub returns-clause-set : goal.returns-clause-set
returns-clause-set g c =
    rw (← c.self.view_is, c.in_ok-old.ensures.entries)
    (set g.K.PartialEq.eq c.args.key c.args.value c.self.inside.next c.self.inside.map.entries c.self.invariant.kept).pairs

pub returns-clause-held : goal.returns-clause-held
returns-clause-held g c =
    rw (← c.self.view_is)
    (c.flattened.ensures ∙ ap flat c.in_ok-old.ensures.old ∙ lookup-live g.K.PartialEq.eq c.args.key (slot_eq g.K.PartialEq.eq (Live c.args.key)) (λ b. refl) (λ m. refl) _ _ c.self.invariant.kept)

pub count_blocks-requires : goal.count_blocks-requires
count_blocks-requires g c =
    rw c.in_ok-old.ensures.entries
    (blocks_like _ _ _ c.self.invariant.blocks (insert_entry-longer (slot_eq g.K.PartialEq.eq) (Live c.args.key) (Some c.args.value) _) (λ i below. rank_insert g.K.PartialEq.eq c.args.key c.args.value c.self.inside.next _ i c.self.invariant.kept below))
