use Rattle.std.proofs.Common.{◌≡◌, ◌∙◌, Some, None, ap, sym, subst}
use Rattle.std.specs.Prelude.{ℕ, List, All}
use Rattle.std.proofs.lemmas.List.Elements.{All-push}
use Rattle.rp_base.specs.declared.value.Value.{Value}
use Rattle.rp_store.specs.Kept.{IsFit}
use Rattle.rp_store.specs.Object.{Entry}
use Rattle.rp_access.proofs.Spreadings.{all_of, entry_more, entry_wrong, named_all, named_none, next_entry}
use Rattle.rp_access.specs.Spreading.{word_of}
use Rattle.rp_access.proofs.spreading.all_named.Goals as goal

pub taken_through-requires : goal.taken_through-requires
taken_through-requires c =
    let e : Entry = (c.in-Some.field-0-0.now, c.in-Some.field-0-1.now) in
    (next_entry c.args.world.now.store.heap c.args.side c.args.from.now c.loop-rock.rest c.next.new.self e c.in-Some.ensures c.loop-rock.invariant.1).0

pub loop-rock-preserved : goal.loop-rock-preserved
loop-rock-preserved c =
    let heap = c.args.world.now.store.heap in
    let side = c.args.side in
    let from = c.args.from.now in
    let e : Entry = (c.in-Some.field-0-0.now, c.in-Some.field-0-1.now) in
    let ns = c.loop-rock.all.items in
    let ms = c.push.new.self.items in
    let word = c.in-Some-2.word in
    let v = c.in_ok-taken_through.field-0 in
    let is : word_of e.1.0 ≡ Some word = sym c.in_ok-word.ensures ∙ c.in-Some-2.is in (
      sym (entry_more heap side from ns ms e c.next.new.self word v is c.in_ok-taken_through.ensures.value c.in_ok-push.ensures.items)
          ∙ ap (all_of heap side from ns) (sym c.in-Some.ensures) ∙ c.loop-rock.invariant.0,
      (next_entry heap side from c.loop-rock.rest c.next.new.self e c.in-Some.ensures c.loop-rock.invariant.1).1,
      subst (λ (ns : List (List ℕ × Value)). All (λ n. IsFit heap side n.1) ns) (sym c.in_ok-push.ensures.items)
          (All-push (λ (n : List ℕ × Value). IsFit heap side n.1) ns (word, v) c.loop-rock.invariant.2 c.in_ok-taken_through.ensures.fit),
    )

pub returns-in_default-2-clause-named : goal.returns-in_default-2-clause-named
returns-in_default-2-clause-named c =
    let heap = c.args.world.now.store.heap in
    let side = c.args.side in
    let from = c.args.from.now in
    let e : Entry = (c.in-Some.field-0-0.now, c.in-Some.field-0-1.now) in
    let ns = c.loop-rock.all.items in
    named_none heap side from c.args.entries.now c.loop-rock.rest ns c.loop-rock.invariant.0
    (ap (all_of heap side from ns) c.in-Some.ensures ∙ entry_wrong heap side from ns e c.next.new.self (sym c.in_ok-word.ensures ∙ c.in_default-2.is))

pub returns-clause-named : goal.returns-clause-named
returns-clause-named c =
    named_all c.args.world.now.store.heap c.args.side c.args.from.now c.args.entries.now c.loop-rock.rest c.loop-rock.all.items c.in_default.ensures.0 c.loop-rock.invariant.0
