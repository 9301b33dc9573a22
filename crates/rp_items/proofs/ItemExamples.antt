-- Examples of items and slices. What is given, and the kinds of exceptions, are CPython's; cells, steps, lent references and the texts of
-- exceptions other than those of keys are rules of this program.
use Rattle.std.proofs.Common.{◌≡◌, ℕ, ℤ, pos, negsuc, true, List, [], ◌∷◌, codes, refl}
use Rattle.std.specs.Fmt.{digits}
use Rattle.rp_base.specs.declared.kind.Kind.TheVariants.{TypeError, IndexError, KeyError, ValueError}
use Rattle.rp_base.specs.declared.value.Rock.TheVariants as rock
use Rattle.rp_base.specs.declared.value.Value.{Value}
use Rattle.rp_base.specs.declared.value.Value.TheVariants as value
use Rattle.rp_store.specs.declared.key.Key.TheVariants as key
use Rattle.rp_store.specs.Object as object
use Rattle.rp_store.specs.Object.{Content}
use Rattle.rp_ops.specs.Binary.{new_text}
use Rattle.rp_items.specs.Items.{item, set_item, del_item}
use Rattle.rp_ops.specs.Outcome.{State, Outcome, gives, ends, raises, no_cell}
use Rattle.rp_show.specs.Shown.{quoted, shown_inside}
use Rattle.rp_items.specs.Slices.{slice}

abbrev int : ℤ → Value
int n = value.Rock (rock.Int n)

abbrev text : List ℕ → Value
text t = value.Rock (rock.Text t)

abbrev nil : Value
nil = value.Rock rock.Nil

-- one object, of the first session, and 10 cells of which 5 are used
abbrev holding : Content → State
holding c = record { store = record { heap = record { owner = record { 0 = 1 }; content = c } ∷ []; used = 5; limit = 10 }; steps = 7 }

abbrev using : Content → ℕ → State
using c used = record { store = record { heap = record { owner = record { 0 = 1 }; content = c } ∷ []; used = used; limit = 10 }; steps = 7 }

abbrev it : Value
it = value.Ref (record { 0 = 0 })

abbrev lent : Value
lent = value.Prox (record { 0 = 0 })

abbrev numbers : List ℕ → List Value
numbers [] = []
numbers (n ∷ ns) = int (pos n) ∷ numbers ns

abbrev list : List ℕ → Content
list ns = object.list (numbers ns)

abbrev words : Content
words = object.dict ((key.Number (pos 1), (rock.Int (pos 1), text (codes "a"))) ∷ [])

abbrev empty : Content
empty = object.dict []

item-last_character : item (text (codes "abc")) (int (negsuc 0)) (holding empty) ≡ new_text (codes "c") (holding empty)
item-last_character = refl

item-outside : item it (int (pos 2)) (holding (list (1 ∷ 2 ∷ []))) ≡ raises IndexError (codes "index") (holding (list (1 ∷ 2 ∷ [])))
item-outside = refl

item-below : item it (int (negsuc 2)) (holding (list (1 ∷ 2 ∷ []))) ≡ raises IndexError (codes "index") (holding (list (1 ∷ 2 ∷ [])))
item-below = refl

item-by_text : item it (text (codes "a")) (holding (list (1 ∷ 2 ∷ []))) ≡ raises TypeError (codes "index") (holding (list (1 ∷ 2 ∷ [])))
item-by_text = refl

item-by_truth : item it (value.Rock (rock.Truth true)) (holding (list (1 ∷ 2 ∷ []))) ≡ gives (int (pos 2)) (holding (list (1 ∷ 2 ∷ [])))
item-by_truth = refl

item-same_key : item it (value.Rock (rock.Truth true)) (holding words) ≡ gives (text (codes "a")) (holding words)
item-same_key = refl

item-no_key : item it (text (codes "k")) (holding empty) ≡ raises KeyError (codes "'k'") (holding empty)
item-no_key = refl

item-by_list : item it it (holding empty) ≡ raises TypeError (codes "key") (holding empty)
item-by_list = refl

item-of_number : item (int (pos 5)) (int (pos 0)) (holding empty) ≡ raises TypeError (codes "item") (holding empty)
item-of_number = refl

item-of_lent : item lent (int (pos 0)) (holding (object.list (it ∷ []))) ≡ gives lent (holding (object.list (it ∷ [])))
item-of_lent = refl

-- what a slice of [0, 1, 2, 3] gives, and the new list
abbrev four : Content
four = list (0 ∷ 1 ∷ 2 ∷ 3 ∷ [])

abbrev sliced_to : List ℕ → ℕ → Outcome Value
sliced_to ns used = gives (value.Ref (record { 0 = 1 })) (record {
  store = record { heap = record { owner = record { 0 = 1 }; content = four } ∷ record { owner = record { 0 = 1 }; content = list ns } ∷ []; used = used; limit = 10 };
  steps = 7;
})

slice-middle : slice it (int (pos 1)) (int (pos 3)) nil (holding four) ≡ sliced_to (1 ∷ 2 ∷ []) 8
slice-middle = refl

slice-each_second : slice it nil nil (int (pos 2)) (holding four) ≡ sliced_to (0 ∷ 2 ∷ []) 8
slice-each_second = refl

slice-backward : slice it nil nil (int (negsuc 0)) (holding four) ≡ sliced_to (3 ∷ 2 ∷ 1 ∷ 0 ∷ []) 10
slice-backward = refl

slice-down : slice it (int (pos 3)) (int (pos 0)) (int (negsuc 1)) (holding four) ≡ sliced_to (3 ∷ 1 ∷ []) 8
slice-down = refl

slice-behind : slice it (int (pos 5)) nil nil (holding four) ≡ sliced_to [] 6
slice-behind = refl

slice-before : slice it (int (negsuc 99)) (int (pos 2)) nil (holding four) ≡ sliced_to (0 ∷ 1 ∷ []) 8
slice-before = refl

slice-down_before : slice it nil (int (negsuc 99)) (int (negsuc 0)) (holding four) ≡ sliced_to (3 ∷ 2 ∷ 1 ∷ 0 ∷ []) 10
slice-down_before = refl

slice-text_backward : slice (text (codes "abcd")) nil nil (int (negsuc 0)) (holding empty) ≡ new_text (codes "dcba") (holding empty)
slice-text_backward = refl

slice-step_zero : slice it nil nil (int (pos 0)) (holding four) ≡ raises ValueError (codes "slice") (holding four)
slice-step_zero = refl

slice-by_text : slice it (text (codes "a")) nil nil (holding four) ≡ raises TypeError (codes "index") (holding four)
slice-by_text = refl

slice-of_dict : slice it nil nil nil (holding empty) ≡ raises TypeError (codes "item") (holding empty)
slice-of_dict = refl

-- the slice of what is lent is lent, and holds the elements as they were stored
slice-of_lent : slice lent nil nil nil (holding (object.tuple (it ∷ [])))
    ≡ gives (value.Prox (record { 0 = 1 })) (record {
      store = record {
        heap = record { owner = record { 0 = 1 }; content = object.tuple (it ∷ []) } ∷ record { owner = record { 0 = 1 }; content = object.tuple (it ∷ []) } ∷ [];
        used = 7;
        limit = 10;
      };
      steps = 7;
    })
slice-of_lent = refl

slice-over : slice it nil nil nil (using four 6) ≡ ends no_cell (using four 6)
slice-over = refl

set_item-list : set_item it (int (negsuc 0)) (int (pos 9)) (holding (list (1 ∷ 2 ∷ []))) ≡ gives tt (holding (list (1 ∷ 9 ∷ [])))
set_item-list = refl

set_item-new_key : set_item it (text (codes "k")) nil (using empty 9) ≡ gives tt (using (object.dict ((key.Text (codes "k"), (rock.Text (codes "k"), nil)) ∷ [])) 10)
set_item-new_key = refl

set_item-held_key : set_item it (value.Rock (rock.Truth true)) nil (using words 10) ≡ gives tt (using (object.dict ((key.Number (pos 1), (rock.Int (pos 1), nil)) ∷ [])) 10)
set_item-held_key = refl

set_item-over : set_item it (text (codes "k")) nil (using empty 10) ≡ ends no_cell (using empty 10)
set_item-over = refl

set_item-tuple : set_item it (int (pos 0)) nil (holding (object.tuple (nil ∷ []))) ≡ raises TypeError (codes "item") (holding (object.tuple (nil ∷ [])))
set_item-tuple = refl

del_item-list : del_item it (int (pos 0)) (holding (list (1 ∷ 2 ∷ []))) ≡ gives tt (holding (list (2 ∷ [])))
del_item-list = refl

del_item-key : del_item it (value.Rock (rock.Truth true)) (holding words) ≡ gives tt (holding empty)
del_item-key = refl

del_item-no_key : del_item it (int (pos 2)) (holding words) ≡ raises KeyError (codes "2") (holding words)
unfolding digits
del_item-no_key = refl

quoted-apostrophe : quoted (codes "it's") ≡ codes "\"it's\""
quoted-apostrophe = refl

quoted-both : quoted (codes "it's \"so\"") ≡ codes "'it\\'s \"so\"'"
quoted-both = refl

quoted-lines : quoted (9 ∷ 10 ∷ 13 ∷ 92 ∷ []) ≡ codes "'\\t\\n\\r\\\\'"
quoted-lines = refl

quoted-controls : quoted (7 ∷ 127 ∷ 31 ∷ []) ≡ codes "'\\x07\\x7f\\x1f'"
quoted-controls = refl

quoted-accent : quoted (codes "é") ≡ codes "'é'"
quoted-accent = refl

shown-exception : shown_inside (rock.Exc KeyError (codes "k")) ≡ codes "KeyError('k')"
shown-exception = refl

shown-empty_exception : shown_inside (rock.Exc KeyError []) ≡ codes "KeyError()"
shown-empty_exception = refl

shown-number : shown_inside (rock.Int (negsuc 41)) ≡ codes "-42"
unfolding digits
shown-number = refl
