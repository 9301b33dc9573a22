-- What the writer of f-literals does, in the words of the definition.
use Rattle.std.specs.Prelude.{◌≡◌, ℕ, Bool, true, false, List, [], ◌∷◌, map, codes, Option, None, Result, Ok, Err, ⊤}
use Rattle.std.specs.Option.{option_map_or}
use Rattle.rp_token.specs.declared.token.Token.{Token}
use Rattle.rp_token.specs.Form.{Form, literal, mark, name, newline, Item}
use Rattle.rp_token.specs.View.{item_view}
use Rattle.rp_more.specs.declared.fault.MoreFault.{MoreFault}
use Rattle.rp_more.specs.declared.fault.MoreFault.TheVariants as fault
use Rattle.rp_more.specs.declared.literals.Literals.{Literals}
use Rattle.rp_more.specs.declared.place.Place.{Place}
use Rattle.rp_more.specs.Forms.{placed}
use Rattle.rp_more.specs.Literals as of

abbrev pub items_of : List (List ℕ) → List Token → List Item
items_of names ts = map (item_view names) ts

-- the tokens so far, and what those that are left give
abbrev pub left : List (List ℕ) → Literals → List Token → Result (List Item) MoreFault
left names l ts = of.with_front (items_of names l.written.items) (of.literals l.operand l.inside (items_of names ts))

-- what was to come stays so, or the fault is that of it
abbrev pub Leads : Result (List Item) MoreFault → Result (List Item) MoreFault → Result (Unit {0}) MoreFault → Type 0
Leads before after (Ok done) = before ≡ after
Leads before after (Err fault.Memory) = ⊤
Leads before after (Err f) = before ≡ Err f

-- a token in the place
abbrev pub place_item : Place → Item
place_item p = record { form = newline; from = p.from; to = p.from; line = p.line.0 }

-- forms in the place, or the fault of its line
abbrev pub in_place : Place → Option (List Form) → Result (List Item) MoreFault
in_place p forms = option_map_or (λ fs. Ok (map (placed (place_item p)) fs)) forms (Err (fault.Format p.line))

-- the fault is want of memory, or there is no answer, and the fault is that of the place's line
abbrev pub IsWrongAt : Place → Option (List Form) → MoreFault → Type 0
IsWrongAt p answer fault.Memory = ⊤
IsWrongAt p answer f = (answer ≡ None) × (f ≡ fault.Format p.line)

-- the front of the call of an f-literal, and of that of an expression
abbrev pub join_front : List Form
join_front = literal [] ∷ mark (codes ".") ∷ name (codes "join") ∷ mark (codes "(") ∷ mark (codes "[") ∷ []

abbrev pub str_front : List Form
str_front = name (codes "str") ∷ mark (codes "(") ∷ mark (codes "(") ∷ []

-- what stands before an element that is the first, or is not
abbrev pub comma_before : Bool → List Form
comma_before true = []
comma_before false = mark (codes ",") ∷ []
