use Rattle.std.proofs.Common.{◌≡◌, ◌≤◌, ◌+◌, ◌*◌, drop, length, map, reverse}
use Rattle.rp_show.specs.Show.{separated}
use Rattle.rp_show.specs.ShowView.{KeepsRoom, added, element_item, entry_item, item_of, moment, rest}
use Rattle.rp_show.proofs.showing.+show.Given as goal

-- ---- each call goes down in depth, or in rank at the same depth

abbrev pub decreases-show_value : goal.decreases-show_value
decreases-show_value l = 10 * l.left + 4

abbrev pub decreases-show_object : goal.decreases-show_object
decreases-show_object l = 10 * l.left + 3

abbrev pub decreases-show_content : goal.decreases-show_content
decreases-show_content l = 10 * l.left + 2

abbrev pub decreases-show_container : goal.decreases-show_container
decreases-show_container l = 10 * l.left + 1

abbrev pub decreases-show_enclosed : goal.decreases-show_enclosed
decreases-show_enclosed l = 10 * l.left + 8

abbrev pub decreases-show_items : goal.decreases-show_items
decreases-show_items l = 10 * l.left + 7

abbrev pub decreases-show_elements : goal.decreases-show_elements
decreases-show_elements l = 10 * l.left + 6

abbrev pub decreases-show_entries : goal.decreases-show_entries
decreases-show_entries l = 10 * l.left + 6

abbrev pub decreases-show_item : goal.decreases-show_item
decreases-show_item l = 10 * l.left + 5

-- what is printed so far, and what is left to print
abbrev pub invariant-show_elements-loop-element : goal.invariant-show_elements-loop-element
invariant-show_elements-loop-element l =
    let one = item_of l.names l.left (reverse l.initial.page.outer.items) in
    record {
      plain : added l.initial.page.printer.line (separated one (map element_item l.elements) (moment l.store.heap l.initial.page.printer.purse l.initial.meter.left))
          ≡ added l.page.printer.line (rest one l.first (map element_item (drop l.element-index l.elements)) (moment l.store.heap l.page.printer.purse l.meter.left));
      fewer : l.meter.left ≤ l.initial.meter.left;
      outer : l.page.outer.items ≡ l.initial.page.outer.items;
      counters : KeepsRoom l.initial.page.printer.purse l.page.printer.purse;
    }

abbrev pub invariant-show_entries-loop-key : goal.invariant-show_entries-loop-key
invariant-show_entries-loop-key l =
    let one = item_of l.names l.left (reverse l.initial.page.outer.items) in
    record {
      plain : added l.initial.page.printer.line (separated one (map entry_item l.entries) (moment l.store.heap l.initial.page.printer.purse l.initial.meter.left))
          ≡ added l.page.printer.line (rest one l.first (map entry_item l.walk) (moment l.store.heap l.page.printer.purse l.meter.left));
      fewer : l.meter.left ≤ l.initial.meter.left;
      outer : l.page.outer.items ≡ l.initial.page.outer.items;
      counters : KeepsRoom l.initial.page.printer.purse l.page.printer.purse;
    }

abbrev pub decreases-show_entries-loop-key : goal.decreases-show_entries-loop-key
decreases-show_entries-loop-key l = length l.walk
