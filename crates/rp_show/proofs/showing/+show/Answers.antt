use Rattle.std.proofs.Common.{[], ◌+◌, arith, ℕ, List, ◌∷◌, ◌≡◌, true, false, Err, chars, drop, map, reverse, refl, sym, ap, ◌∙◌, subst}
use Rattle.std.specs.Option.{option_copied}
use Rattle.rp_base.specs.declared.value.Oid.{Oid}
use Rattle.rp_base.specs.declared.value.Rock.{Rock}
use Rattle.rp_base.specs.declared.value.Value.{Value}
use Rattle.rp_store.specs.declared.key.Key.{Key}
use Rattle.rp_store.specs.Object.{content_of}
use Rattle.rp_store.proofs.CallerLemmas.{KeepsCounters-trans}
use Rattle.rp_ops.specs.Outcome.{Meets, Outcome, State, gives}
use Rattle.rp_show.specs.Show.{content_shown, enclosed, is_among, object_shown, printed, separated, shown}
use Rattle.rp_show.specs.Shown.{shown_inside}
use Rattle.rp_show.specs.ShowView.{Item, Writes, added, cells_of, closing, element_item, entry_item, item_of, inner, items, moment, named_text, object_within, opening, turn}
use Rattle.rp_show.proofs.Marks.{chars-closing, chars-cut, chars-opening}
use Rattle.rp_show.proofs.Lines.{Prints-as, enclosed-first, enclosed-on, enclosed-second, stops}
use Rattle.rp_show.proofs.Turns.{among-reverse, container-deep, container-parts, content-named, object-none, object-some, rest-on, rest-stops, shown-prox, shown-ref, shown-rock, turn-gap_stops, turn-key_stops, turn-on, turn-step_stops}
use Rattle.rp_base.proofs.CallerLemmas.{drop_here}
use Rattle.rp_show.proofs.showing.+show.Goals as goal

-- ---- values

pub show_value-returns-in-Rock-clause-plain : goal.show_value-returns-in-Rock-clause-plain
show_value-returns-in-Rock-clause-plain t c =
    let names = c.args.names.now in
    let outer = reverse c.args.page.now.outer.items in
    let n = c.args.meter.now.left in
    let heap = c.args.store.now.heap in
    let s = moment heap c.args.page.now.printer.purse n in
    Prints-as c.print_rock.result c.print_rock.new.self c.args.page.now.printer heap n n (printed (shown_inside c.in-Rock.rock)) (shown names c.args.left outer c.args.value.now)
    (ap (λ (v : Value). shown names c.args.left outer v s) c.in-Rock.is ∙ shown-rock names c.args.left outer c.in-Rock.rock s)
    (c.print_rock.ensures.plain heap n)

pub show_value-returns-in-Ref-clause-plain : goal.show_value-returns-in-Ref-clause-plain
show_value-returns-in-Ref-clause-plain t c =
    let names = c.args.names.now in
    let outer = reverse c.args.page.now.outer.items in
    let n = c.args.meter.now.left in
    let heap = c.args.store.now.heap in
    let s = moment heap c.args.page.now.printer.purse n in
    Prints-as c.show_object.result c.show_object.new.page.printer c.args.page.now.printer heap c.show_object.new.meter.left n (object_shown names (inner names c.args.left) outer c.in-Ref.at) (shown names c.args.left outer c.args.value.now)
    (ap (λ (v : Value). shown names c.args.left outer v s) c.in-Ref.is ∙ shown-ref names c.args.left outer c.in-Ref.at s)
    c.show_object.ensures.plain

pub show_value-returns-in-Prox-clause-plain : goal.show_value-returns-in-Prox-clause-plain
show_value-returns-in-Prox-clause-plain t c =
    let names = c.args.names.now in
    let outer = reverse c.args.page.now.outer.items in
    let n = c.args.meter.now.left in
    let heap = c.args.store.now.heap in
    let s = moment heap c.args.page.now.printer.purse n in
    Prints-as c.show_object-in-Prox.result c.show_object-in-Prox.new.page.printer c.args.page.now.printer heap c.show_object-in-Prox.new.meter.left n (object_shown names (inner names c.args.left) outer c.in-Prox.at) (shown names c.args.left outer c.args.value.now)
    (ap (λ (v : Value). shown names c.args.left outer v s) c.in-Prox.is ∙ shown-prox names c.args.left outer c.in-Prox.at s)
    c.show_object-in-Prox.ensures.plain

-- ---- objects

pub show_object-returns-in-Some-clause-plain : goal.show_object-returns-in-Some-clause-plain
show_object-returns-in-Some-clause-plain t c =
    let names = c.args.names.now in
    let outer = reverse c.args.page.now.outer.items in
    let n = c.args.meter.now.left in
    let heap = c.args.store.now.heap in
    let content = content_of c.in-Some.object.now in
    Prints-as c.show_content.result c.show_content.new.page.printer c.args.page.now.printer heap c.show_content.new.meter.left n (object_within names c.args.left outer c.args.at content)
    (object_shown names (inner names c.args.left) outer c.args.at)
    (object-some names c.args.left outer c.args.at content (moment heap c.args.page.now.printer.purse n) (sym c.in-Some.ensures.content))
    c.show_content.ensures.plain

pub show_object-returns-in-None-clause-plain : goal.show_object-returns-in-None-clause-plain
show_object-returns-in-None-clause-plain t c =
    object-none c.args.names.now c.args.left (reverse c.args.page.now.outer.items) c.args.at c.args.page.now.printer.line (moment c.args.store.now.heap c.args.page.now.printer.purse c.args.meter.now.left) c.in-None.ensures.content

-- within itself, a container, or another object

pub show_content-returns-then-is_among-clause-plain : goal.show_content-returns-then-is_among-clause-plain
show_content-returns-then-is_among-clause-plain t c =
    let xs = c.args.page.now.outer.items in
    let n = c.args.meter.now.left in
    let heap = c.args.store.now.heap in
    let s = moment heap c.args.page.now.printer.purse n in
    let among : is_among (reverse xs) c.args.at ≡ true = among-reverse xs c.args.at ∙ ap (λ (l : List Oid). is_among l c.args.at) (sym c.as_slice.ensures.value) ∙ sym c.is_among.ensures ∙ c.if-is_among.true in
    Prints-as c.print.result c.print.new.self c.args.page.now.printer heap n n (printed (chars c.cut_text.result.now)) (object_within c.args.names.now c.args.left (reverse xs) c.args.at (content_of c.args.object.now))
    (rw among (ap (λ (x : List ℕ). printed x s) (sym (ap chars c.cut_text.ensures ∙ chars-cut (content_of c.args.object.now)))))
    (c.print.ensures.plain heap n)

pub show_content-returns-then-is_container-clause-plain : goal.show_content-returns-then-is_container-clause-plain
show_content-returns-then-is_container-clause-plain t c =
    let names = c.args.names.now in
    let xs = c.args.page.now.outer.items in
    let n = c.args.meter.now.left in
    let heap = c.args.store.now.heap in
    let content = content_of c.args.object.now in
    let among : is_among (reverse xs) c.args.at ≡ false = among-reverse xs c.args.at ∙ ap (λ (l : List Oid). is_among l c.args.at) (sym c.as_slice.ensures.value) ∙ sym c.is_among.ensures ∙ c.if-is_among.false in
    Prints-as c.show_container.result c.show_container.new.page.printer c.args.page.now.printer heap c.show_container.new.meter.left n (content_shown names (inner names c.args.left (c.args.at ∷ reverse xs)) content)
    (object_within names c.args.left (reverse xs) c.args.at content)
    (rw among refl)
    c.show_container.ensures.plain

pub show_content-returns-clause-plain : goal.show_content-returns-clause-plain
show_content-returns-clause-plain t c =
    let names = c.args.names.now in
    let xs = c.args.page.now.outer.items in
    let n = c.args.meter.now.left in
    let heap = c.args.store.now.heap in
    let content = content_of c.args.object.now in
    let s = moment heap c.args.page.now.printer.purse n in
    let among : is_among (reverse xs) c.args.at ≡ false = among-reverse xs c.args.at ∙ ap (λ (l : List Oid). is_among l c.args.at) (sym c.as_slice.ensures.value) ∙ sym c.is_among.ensures ∙ c.if-is_among.false in
    Prints-as c.print_named.result c.print_named.new.printer c.args.page.now.printer heap n n (printed (named_text names heap content))
    (object_within names c.args.left (reverse xs) c.args.at content)
    (rw among (content-named names (inner names c.args.left (c.args.at ∷ reverse xs)) content s (sym c.is_container.ensures ∙ c.if-is_container.false)))
    (c.print_named.ensures.plain n)

-- ---- containers

pub show_container-returns-then-left-eq0-clause-plain : goal.show_container-returns-then-left-eq0-clause-plain
show_container-returns-then-left-eq0-clause-plain t c =
    container-deep c.end.result c.args.names.now c.args.left (c.args.at ∷ reverse c.args.page.now.outer.items) (content_of c.args.object.now) c.args.page.now.printer.line
    (moment c.args.store.now.heap c.args.page.now.printer.purse c.args.meter.now.left) c.requires.container c.if-left-eq0.true c.end.ensures

pub show_container-returns-in_err-show_enclosed-clause-plain : goal.show_container-returns-in_err-show_enclosed-clause-plain
show_container-returns-in_err-show_enclosed-clause-plain t c =
    let content = content_of c.args.object.now in
    let line = c.args.page.now.printer.line in
    let s = moment c.args.store.now.heap c.args.page.now.printer.purse c.args.meter.now.left in
    let f = c.in_err-show_enclosed.field-0.0 in
    let end = moment c.args.store.now.heap c.show_enclosed.new.page.printer.purse c.show_enclosed.new.meter.left in
    let old = c.args.page.now.outer.items in
    let parts = container-parts c.args.names.now c.args.left c.enter.new.outer.items old c.args.at content c.requires.container c.if-left-eq0.false c.in_ok-enter.ensures in
    stops c.from_residual-in_err-show_enclosed.result f c.show_enclosed.new.page.printer.line end (added line (content_shown c.args.names.now (inner c.args.names.now c.args.left (c.args.at ∷ reverse old)) content s))
    c.from_residual-in_err-show_enclosed.ensures.1
    (subst (λ (p : State → Outcome (List ℕ)). Meets {A = List ℕ} (Err f) end (added line (p s))) (sym parts) c.in_err-show_enclosed.ensures.plain)

pub show_container-returns-clause-plain : goal.show_container-returns-clause-plain
show_container-returns-clause-plain t c =
    let s = moment c.args.store.now.heap c.args.page.now.printer.purse c.args.meter.now.left in
    ap (λ (p : State → Outcome (List ℕ)). added c.args.page.now.printer.line (p s))
    (container-parts c.args.names.now c.args.left c.enter.new.outer.items c.args.page.now.outer.items c.args.at (content_of c.args.object.now) c.requires.container c.if-left-eq0.false c.in_ok-enter.ensures)
    ∙ c.in_ok-show_enclosed.ensures.plain

pub show_enclosed-returns-in_err-print-clause-plain : goal.show_enclosed-returns-in_err-print-clause-plain
show_enclosed-returns-in_err-print-clause-plain t c =
    let content = content_of c.args.object.now in
    let line = c.args.page.now.printer.line in
    let n = c.args.meter.now.left in
    let heap = c.args.store.now.heap in
    let s = moment heap c.args.page.now.printer.purse n in
    let end = moment heap c.print.new.self.purse n in
    let f = c.in_err-print.field-0.0 in
    let inside = separated (item_of c.args.names.now c.args.left (reverse c.args.page.now.outer.items)) (items content) in
    stops c.from_residual.result f c.print.new.self.line end (added line (enclosed (opening content) (closing content) inside s)) c.from_residual.ensures.1
    (enclosed-first f line (opening content) (closing content) inside end s
    (subst (λ (x : List ℕ). Meets {A = List ℕ} (Err f) end (added line (printed x s))) (ap chars c.opening.ensures ∙ chars-opening (content_of c.args.object.now)) (c.in_err-print.ensures.plain heap n)))

pub show_enclosed-returns-in_err-show_items-clause-plain : goal.show_enclosed-returns-in_err-show_items-clause-plain
show_enclosed-returns-in_err-show_items-clause-plain t c =
    let content = content_of c.args.object.now in
    let line = c.args.page.now.printer.line in
    let n = c.args.meter.now.left in
    let heap = c.args.store.now.heap in
    let s = moment heap c.args.page.now.printer.purse n in
    let end = moment heap c.show_items.new.page.printer.purse c.show_items.new.meter.left in
    let f = c.in_err-show_items.field-0.0 in
    let inside = separated (item_of c.args.names.now c.args.left (reverse c.args.page.now.outer.items)) (items content) in
    stops c.from_residual-in_err-show_items.result f c.show_items.new.page.printer.line end (added line (enclosed (opening content) (closing content) inside s)) c.from_residual-in_err-show_items.ensures.1
    (subst (λ (x : List ℕ). Meets {A = List ℕ} (Err f) end (added line (enclosed x (closing content) inside s))) (ap chars c.opening.ensures ∙ chars-opening (content_of c.args.object.now))
    (enclosed-second f line c.print.new.self.line (chars c.opening.result.now) (closing content) inside s (moment heap c.print.new.self.purse n) end (c.in_ok-print.ensures.plain heap n) c.in_err-show_items.ensures.plain))

pub show_enclosed-returns-clause-plain : goal.show_enclosed-returns-clause-plain
show_enclosed-returns-clause-plain t c =
    let content = content_of c.args.object.now in
    let line = c.args.page.now.printer.line in
    let n = c.args.meter.now.left in
    let m = c.show_items.new.meter.left in
    let heap = c.args.store.now.heap in
    let s = moment heap c.args.page.now.printer.purse n in
    let inside = separated (item_of c.args.names.now c.args.left (reverse c.args.page.now.outer.items)) (items content) in
    subst (λ (o : Outcome (List ℕ)). Writes c.print-2.result c.print-2.new.self.line (moment heap c.print-2.new.self.purse m) o)
    (sym (ap (λ (x : List ℕ). added line (enclosed x (closing content) inside s)) (sym (ap chars c.opening.ensures ∙ chars-opening (content_of c.args.object.now)))
    ∙ ap (λ (x : List ℕ). added line (enclosed (chars c.opening.result.now) x inside s)) (sym (ap chars c.closing.ensures ∙ chars-closing (content_of c.args.object.now)))
    ∙ enclosed-on line c.print.new.self.line c.show_items.new.page.printer.line (chars c.opening.result.now) (chars c.closing.result.now) inside s (moment heap c.print.new.self.purse n)
    (moment heap c.show_items.new.page.printer.purse m) (c.in_ok-print.ensures.plain heap n) c.in_ok-show_items.ensures.plain))
    (c.print-2.ensures.plain heap m)

-- ---- items

pub show_item-returns-in_err-separate-clause-plain : goal.show_item-returns-in_err-separate-clause-plain
show_item-returns-in_err-separate-clause-plain t c =
    let show = shown c.args.names.now c.args.left (reverse c.args.page.now.outer.items) in
    let item : Item = record { key = option_copied c.args.key; value = c.args.value.now } in
    let n = c.args.meter.now.left in
    let heap = c.args.store.now.heap in
    let line = c.args.page.now.printer.line in
    let f = c.in_err-separate.field-0.0 in
    stops c.from_residual.result f c.separate.new.self.line (moment heap c.separate.new.self.purse n) _ c.from_residual.ensures.1
    (turn-gap_stops heap show c.args.first n item line c.separate.new.self.line c.args.page.now.printer.purse c.separate.new.self.purse f (c.in_err-separate.ensures.plain heap n))

pub show_item-returns-in_err-step-clause-plain : goal.show_item-returns-in_err-step-clause-plain
show_item-returns-in_err-step-clause-plain t c =
    let show = shown c.args.names.now c.args.left (reverse c.args.page.now.outer.items) in
    let item : Item = record { key = option_copied c.args.key; value = c.args.value.now } in
    let n = c.args.meter.now.left in
    let heap = c.args.store.now.heap in
    let line = c.args.page.now.printer.line in
    let purse = c.args.page.now.printer.purse in
    let f = c.in_err-step.field-0.0 in
    let whole = added line (turn (item_of c.args.names.now c.args.left (reverse c.args.page.now.outer.items)) c.args.first item (moment heap purse n)) in
    stops c.from_residual-in_err-step.result f c.separate.new.self.line (moment heap c.separate.new.self.purse c.step.new.meter.left) whole c.from_residual-in_err-step.ensures.1
    (subst (λ (k : ℕ). Meets {A = List ℕ} (Err f) (moment heap c.separate.new.self.purse k) whole) (sym (ap (λ x. x.left) c.in_err-step.ensures.same))
    (turn-step_stops heap show c.args.first n item line c.separate.new.self.line purse c.separate.new.self.purse f (c.in_ok-separate.ensures.plain heap n) c.in_err-step.ensures.stopped c.in_err-step.ensures.none))

pub show_item-returns-in_err-print_key-clause-plain : goal.show_item-returns-in_err-print_key-clause-plain
show_item-returns-in_err-print_key-clause-plain t c =
    let show = shown c.args.names.now c.args.left (reverse c.args.page.now.outer.items) in
    let item : Item = record { key = option_copied c.args.key; value = c.args.value.now } in
    let n = c.args.meter.now.left in
    let m = c.step.new.meter.left in
    let heap = c.args.store.now.heap in
    let line = c.args.page.now.printer.line in
    let f = c.in_err-print_key.field-0.0 in
    stops c.from_residual-in_err-print_key.result f c.print_key.new.self.line (moment heap c.print_key.new.self.purse m) _ c.from_residual-in_err-print_key.ensures.1
    (turn-key_stops heap show c.args.first n item line c.separate.new.self.line c.args.page.now.printer.purse c.separate.new.self.purse f m c.print_key.new.self.purse (c.in_ok-separate.ensures.plain heap n) c.in_ok-step.ensures.taken
    (c.in_err-print_key.ensures.plain heap m))

pub show_item-returns-clause-plain : goal.show_item-returns-clause-plain
show_item-returns-clause-plain t c =
    let show = shown c.args.names.now c.args.left (reverse c.args.page.now.outer.items) in
    let item : Item = record { key = option_copied c.args.key; value = c.args.value.now } in
    let n = c.args.meter.now.left in
    let m = c.step.new.meter.left in
    let heap = c.args.store.now.heap in
    let line = c.args.page.now.printer.line in
    subst (λ (o : Outcome (List ℕ)). Writes c.show_value.result c.show_value.new.page.printer.line (moment heap c.show_value.new.page.printer.purse c.show_value.new.meter.left) o)
    (sym (turn-on heap show c.args.first n item line c.separate.new.self.line c.args.page.now.printer.purse c.separate.new.self.purse m c.print_key.new.self.line c.print_key.new.self.purse
    (c.in_ok-separate.ensures.plain heap n) c.in_ok-step.ensures.taken (c.in_ok-print_key.ensures.plain heap m)))
    c.show_value.ensures.plain

-- ---- loops

pub show_elements-loop-element-preserved : goal.show_elements-loop-element-preserved
show_elements-loop-element-preserved t c =
    let names = c.args.names.now in
    let l = c.loop-element in
    let xs = c.args.elements.now in
    let i = l.element-index in
    let x = c.element-item.result in
    let heap = c.args.store.now.heap in
    let s = moment heap l.page.printer.purse l.meter.left in
    let end = moment heap c.show_item.new.page.printer.purse c.show_item.new.meter.left in
    let line = l.page.printer.line in
    let after = c.show_item.new.page.printer.line in
    let first : drop i xs ≡ x ∷ drop (i + 1) xs = drop_here xs i x (omega arith) c.element-item.is in
    record {
      plain = l.invariant.plain
          ∙ rest-on (item_of names c.args.left (reverse c.args.page.now.outer.items)) l.first (element_item x) (map element_item (drop i xs)) (map element_item (drop (i + 1) xs)) line after s end (ap (map element_item) first)
          (subst (λ (outer : List Oid). added line (turn (item_of names c.args.left (reverse outer)) l.first (element_item x) s) ≡ gives after end) l.invariant.outer c.in_ok-show_item.ensures.plain);
      fewer = omega (arith, c.show_item.ensures.fewer, l.invariant.fewer);
      outer = c.in_ok-show_item.ensures.outer ∙ l.invariant.outer;
      counters = KeepsCounters-trans (cells_of [] c.args.page.now.printer.purse) (cells_of [] l.page.printer.purse) (cells_of [] c.show_item.new.page.printer.purse)
          l.invariant.counters c.show_item.ensures.counters;
    }

pub show_elements-returns-in_err-show_item-clause-plain : goal.show_elements-returns-in_err-show_item-clause-plain
show_elements-returns-in_err-show_item-clause-plain t c =
    let names = c.args.names.now in
    let l = c.loop-element in
    let xs = c.args.elements.now in
    let i = l.element-index in
    let x = c.element-item.result in
    let heap = c.args.store.now.heap in
    let s = moment heap l.page.printer.purse l.meter.left in
    let end = moment heap c.show_item.new.page.printer.purse c.show_item.new.meter.left in
    let line = l.page.printer.line in
    let f = c.in_err-show_item.field-0.0 in
    let one = item_of names c.args.left (reverse c.args.page.now.outer.items) in
    let first : drop i xs ≡ x ∷ drop (i + 1) xs = drop_here xs i x (omega arith) c.element-item.is in
    stops c.from_residual.result f c.show_item.new.page.printer.line end (added c.args.page.now.printer.line (separated one (map element_item xs) (moment heap c.args.page.now.printer.purse c.args.meter.now.left)))
    c.from_residual.ensures.1
    (subst (λ (o : Outcome (List ℕ)). Meets {A = List ℕ} (Err f) end o) (sym l.invariant.plain)
    (rest-stops f one l.first (element_item x) (map element_item (drop i xs)) (map element_item (drop (i + 1) xs)) line s end (ap (map element_item) first)
    (subst (λ (outer : List Oid). Meets {A = List ℕ} (Err f) end (added line (turn (item_of names c.args.left (reverse outer)) l.first (element_item x) s))) l.invariant.outer c.in_err-show_item.ensures.plain)))

pub show_entries-loop-key-preserved : goal.show_entries-loop-key-preserved
show_entries-loop-key-preserved t c =
    let names = c.args.names.now in
    let l = c.loop-key in
    let e : Key × (Rock × Value) = (c.in-Some.field-0-0.now, c.in-Some.field-0-1.now) in
    let heap = c.args.store.now.heap in
    let s = moment heap l.page.printer.purse l.meter.left in
    let end = moment heap c.show_item.new.page.printer.purse c.show_item.new.meter.left in
    let line = l.page.printer.line in
    let after = c.show_item.new.page.printer.line in
    record {
      plain = l.invariant.plain
          ∙ rest-on (item_of names c.args.left (reverse c.args.page.now.outer.items)) l.first (entry_item e) (map entry_item l.walk) (map entry_item c.next.new.self) line after s end (ap (map entry_item) c.in-Some.ensures)
          (subst (λ (outer : List Oid). added line (turn (item_of names c.args.left (reverse outer)) l.first (entry_item e) s) ≡ gives after end) l.invariant.outer c.in_ok-show_item.ensures.plain);
      fewer = omega (arith, c.show_item.ensures.fewer, l.invariant.fewer);
      outer = c.in_ok-show_item.ensures.outer ∙ l.invariant.outer;
      counters = KeepsCounters-trans (cells_of [] c.args.page.now.printer.purse) (cells_of [] l.page.printer.purse) (cells_of [] c.show_item.new.page.printer.purse)
          l.invariant.counters c.show_item.ensures.counters;
    }

pub show_entries-returns-in_err-show_item-clause-plain : goal.show_entries-returns-in_err-show_item-clause-plain
show_entries-returns-in_err-show_item-clause-plain t c =
    let names = c.args.names.now in
    let l = c.loop-key in
    let e : Key × (Rock × Value) = (c.in-Some.field-0-0.now, c.in-Some.field-0-1.now) in
    let heap = c.args.store.now.heap in
    let s = moment heap l.page.printer.purse l.meter.left in
    let end = moment heap c.show_item.new.page.printer.purse c.show_item.new.meter.left in
    let line = l.page.printer.line in
    let f = c.in_err-show_item.field-0.0 in
    let one = item_of names c.args.left (reverse c.args.page.now.outer.items) in
    stops c.from_residual.result f c.show_item.new.page.printer.line end (added c.args.page.now.printer.line (separated one (map entry_item c.args.entries.now) (moment heap c.args.page.now.printer.purse c.args.meter.now.left)))
    c.from_residual.ensures.1
    (subst (λ (o : Outcome (List ℕ)). Meets {A = List ℕ} (Err f) end o) (sym l.invariant.plain)
    (rest-stops f one l.first (entry_item e) (map entry_item l.walk) (map entry_item c.next.new.self) line s end (ap (map entry_item) c.in-Some.ensures)
    (subst (λ (outer : List Oid). Meets {A = List ℕ} (Err f) end (added line (turn (item_of names c.args.left (reverse outer)) l.first (entry_item e) s))) l.invariant.outer c.in_err-show_item.ensures.plain)))
