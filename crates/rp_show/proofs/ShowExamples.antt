-- Examples of how values are shown; the texts of containers are CPython's, but for an exception value with an empty text, which is shown
-- as one that was made without a text.
use Rattle.std.proofs.Common.{◌≡◌, ℕ, true, false, List, [], ◌∷◌, codes, Some, None, refl}
use Rattle.std.specs.Char.{encode_utf8}
use Rattle.rp_base.specs.declared.kind.Kind.TheVariants.{RecursionError, ValueError}
use Rattle.rp_base.specs.declared.native.NativeId.TheVariants as native
use Rattle.rp_base.specs.declared.value.Oid.{Oid}
use Rattle.rp_base.specs.declared.value.Rock.TheVariants as rock
use Rattle.rp_base.specs.declared.value.Side.{Side}
use Rattle.rp_base.specs.declared.value.Value.{Value}
use Rattle.rp_base.specs.declared.value.Value.TheVariants as value
use Rattle.rp_store.specs.declared.object.Callee.TheVariants as callee
use Rattle.rp_store.specs.declared.key.Key.TheVariants as key
use Rattle.rp_store.specs.Heap.{Owned}
use Rattle.rp_store.specs.Object as object
use Rattle.rp_store.specs.Object.{Content}
use Rattle.rp_ops.specs.Outcome.{State, ends, gives, no_cell, no_step, raises}
use Rattle.rp_show.specs.Show.{show, shown}

abbrev at : ℕ → Oid
at n = record { 0 = n }

abbrev owned : Content → Owned
owned c = record { owner = record { 0 = 0 }; content = c }

-- so many cells of the limit and steps are left
abbrev state : List Owned → ℕ → ℕ → ℕ → State
state heap used limit steps = record { store = record { heap = heap; used = used; limit = limit }; steps = steps }

abbrev none : Value
none = value.Rock rock.Nil

abbrev truth : Value
truth = value.Rock (rock.Truth true)

abbrev text : List ℕ → Value
text t = value.Rock (rock.Text t)

abbrev words : List (List ℕ)
words = codes "f" ∷ codes "Box" ∷ []

abbrev listed : List Owned
listed =
    owned (object.list (none ∷ text (codes "a") ∷ value.Rock (rock.Truth false) ∷ truth ∷ []))
    ∷ []

in_list : show words (value.Ref (at 0)) (state listed 0 100 4) ≡ gives (codes "[None, 'a', False, True]") (state listed 24 100 0)
unfolding encode_utf8
in_list = refl

-- what was charged before stays charged
no_second_step : show words (value.Ref (at 0)) (state listed 0 100 1) ≡ ends no_step (state listed 7 100 0)
unfolding encode_utf8
no_second_step = refl

-- the characters that fit are charged
no_cell_left : show words (value.Ref (at 0)) (state listed 0 3 9) ≡ ends no_cell (state listed 3 3 8)
unfolding encode_utf8
no_cell_left = refl

abbrev single : List Owned
single =
    owned (object.tuple (none ∷ []))
    ∷ []

in_tuple : show words (value.Ref (at 0)) (state single 0 100 4) ≡ gives (codes "(None,)") (state single 7 100 3)
unfolding encode_utf8
in_tuple = refl

abbrev pair : List Owned
pair =
    owned (object.tuple (none ∷ truth ∷ []))
    ∷ []

in_pair : show words (value.Ref (at 0)) (state pair 0 100 4) ≡ gives (codes "(None, True)") (state pair 12 100 2)
unfolding encode_utf8
in_pair = refl

abbrev empties : List Owned
empties =
    owned (object.tuple [])
    ∷ owned (object.list [])
    ∷ owned (object.dict [])
    ∷ []

empty_tuple : show words (value.Ref (at 0)) (state empties 0 100 0) ≡ gives (codes "()") (state empties 2 100 0)
unfolding encode_utf8
empty_tuple = refl

empty_list : show words (value.Prox (at 1)) (state empties 0 100 0) ≡ gives (codes "[]") (state empties 2 100 0)
unfolding encode_utf8
empty_list = refl

empty_dict : show words (value.Ref (at 2)) (state empties 0 100 0) ≡ gives (codes "{}") (state empties 2 100 0)
unfolding encode_utf8
empty_dict = refl

abbrev entered : List Owned
entered =
    owned (object.dict ((key.Text (codes "k"), (rock.Text (codes "k"), value.Ref (at 1))) ∷ (key.Text (codes "m"), (rock.Text (codes "m"), none)) ∷ []))
    ∷ owned (object.list (truth ∷ []))
    ∷ []

in_dict : show words (value.Ref (at 0)) (state entered 0 100 3) ≡ gives (codes "{'k': [True], 'm': None}") (state entered 24 100 0)
unfolding encode_utf8
in_dict = refl

abbrev cyclic : List Owned
cyclic =
    owned (object.list (value.Ref (at 0) ∷ []))
    ∷ owned (object.dict ((key.Text (codes "k"), (rock.Text (codes "k"), value.Prox (at 1))) ∷ []))
    ∷ owned (object.tuple (value.Ref (at 3) ∷ []))
    ∷ owned (object.list (value.Ref (at 2) ∷ none ∷ []))
    ∷ []

list_in_itself : show words (value.Ref (at 0)) (state cyclic 0 100 1) ≡ gives (codes "[[...]]") (state cyclic 7 100 0)
unfolding encode_utf8
list_in_itself = refl

dict_in_itself : show words (value.Ref (at 1)) (state cyclic 0 100 1) ≡ gives (codes "{'k': {...}}") (state cyclic 12 100 0)
unfolding encode_utf8
dict_in_itself = refl

tuple_in_itself : show words (value.Ref (at 2)) (state cyclic 0 100 3) ≡ gives (codes "([(...), None],)") (state cyclic 16 100 0)
unfolding encode_utf8
tuple_in_itself = refl

abbrev raised : List Owned
raised =
    owned (object.list (value.Rock (rock.Exc ValueError (codes "x")) ∷ value.Rock (rock.Exc ValueError []) ∷ []))
    ∷ []

exceptions_in_list : show words (value.Ref (at 0)) (state raised 0 100 2) ≡ gives (codes "[ValueError('x'), ValueError()]") (state raised 31 100 0)
unfolding encode_utf8
exceptions_in_list = refl

exception_alone : show words (value.Rock (rock.Exc ValueError (codes "x"))) (state [] 0 100 0) ≡ gives (codes "x") (state [] 1 100 0)
unfolding encode_utf8
exception_alone = refl

text_alone : show words (text (codes "it's")) (state [] 0 0 0) ≡ gives (codes "it's") (state [] 0 0 0)
unfolding encode_utf8
text_alone = refl

kind_alone : show words (value.Rock (rock.Kind ValueError)) (state [] 0 100 0) ≡ gives (codes "<class 'ValueError'>") (state [] 20 100 0)
unfolding encode_utf8
kind_alone = refl

built_in_alone : show words (value.Rock (rock.Native native.Len)) (state [] 0 100 0) ≡ gives (codes "<function len>") (state [] 14 100 0)
unfolding encode_utf8
built_in_alone = refl

-- a character of two bytes costs two
two_bytes : show words (value.Rock (rock.Exc ValueError (233 ∷ []))) (state [] 0 1 0) ≡ ends no_cell (state [] 0 1 0)
unfolding encode_utf8
two_bytes = refl

abbrev trusted : Side
trusted = record { 0 = 0 }

abbrev named : List Owned
named =
    owned (object.class (record { 0 = 1 }) false [])
    ∷ owned (object.instance (at 0) [])
    ∷ owned (object.function (Some (record { 0 = 0 })) trusted 0 (at 9) [])
    ∷ owned (object.function None trusted 0 (at 9) [])
    ∷ owned (object.method (value.Ref (at 1)) (callee.Function (at 2)))
    ∷ owned (object.method (value.Ref (at 1)) (callee.Native native.Append))
    ∷ []

class_alone : show words (value.Ref (at 0)) (state named 0 100 0) ≡ gives (codes "<class 'Box'>") (state named 13 100 0)
unfolding encode_utf8
class_alone = refl

instance_alone : show words (value.Ref (at 1)) (state named 0 100 0) ≡ gives (codes "<Box object>") (state named 12 100 0)
unfolding encode_utf8
instance_alone = refl

def_alone : show words (value.Ref (at 2)) (state named 0 100 0) ≡ gives (codes "<function f>") (state named 12 100 0)
unfolding encode_utf8
def_alone = refl

lambda_alone : show words (value.Ref (at 3)) (state named 0 100 0) ≡ gives (codes "<function <lambda>>") (state named 19 100 0)
unfolding encode_utf8
lambda_alone = refl

method_alone : show words (value.Ref (at 4)) (state named 0 100 0) ≡ gives (codes "<method f>") (state named 10 100 0)
unfolding encode_utf8
method_alone = refl

built_in_method_alone : show words (value.Ref (at 5)) (state named 0 100 0) ≡ gives (codes "<method append>") (state named 15 100 0)
unfolding encode_utf8
built_in_method_alone = refl

-- a depth is left for the outermost container alone
too_deep : shown words 1 [] (value.Ref (at 0)) (state entered 0 100 9) ≡ raises RecursionError (codes "depth") (state entered 6 100 8)
unfolding encode_utf8
too_deep = refl
