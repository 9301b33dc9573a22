-- Examples of the definitions. What instances, lists, tuples, dicts and texts give is CPython's, and of zope.security where references
-- are lent; owners, cells, the texts of exceptions, and that classes have no attributes and texts no `upper`, are rules of this program.
use Rattle.std.proofs.Common.{◌≡◌, ℕ, pos, true, List, [], ◌∷◌, ◌++◌, codes, Some, None, refl}
use lib.Utf8.{encode}
use Rattle.rp_base.specs.declared.kind.Kind.TheVariants.{AttributeError}
use Rattle.rp_base.specs.declared.native.NativeId.{NativeId}
use Rattle.rp_base.specs.declared.native.NativeId.TheVariants as native
use Rattle.rp_base.specs.declared.value.Name.{Name}
use Rattle.rp_base.specs.declared.value.Oid.{Oid}
use Rattle.rp_base.specs.declared.value.Rock.TheVariants as rock
use Rattle.rp_base.specs.declared.value.Side.{Side}
use Rattle.rp_base.specs.declared.value.Value.{Value}
use Rattle.rp_base.specs.declared.value.Value.TheVariants as value
use Rattle.rp_store.specs.Heap.{Owned}
use Rattle.rp_store.specs.Object as object
use Rattle.rp_store.specs.Object.{Content}
use Rattle.rp_store.specs.declared.object.Callee.TheVariants as callee
use Rattle.rp_ops.specs.Outcome.{State, ends, gives, no_cell, raises}
use Rattle.rp_attributes.specs.Attributes.{attribute, built_in_method, del_attribute, set_attribute}
use Rattle.rp_attributes.specs.BuiltIns.{between, counts_of, just}
use Rattle.rp_attributes.specs.declared.built_ins.Receiver.TheVariants as receiver

abbrev side : ℕ → Side
side n = record { 0 = n }

abbrev place : ℕ → Oid
place n = record { 0 = n }

abbrev name : ℕ → Name
name n = record { 0 = n }

abbrev number : ℕ → Value
number n = value.Rock (rock.Int (pos n))

abbrev owned : ℕ → Content → Owned
owned n c = record { owner = side n; content = c }

-- a script's class with the methods 1 and 2, its instance with the fields 1 and 3, and a list, a tuple, and a dict of trusted code
abbrev objects : Value → List Owned
objects v =
    owned 1 (object.class (name 9) true ((name 1, place 5) ∷ (name 2, place 6) ∷ []))
    ∷ owned 1 (object.instance (place 0) ((name 1, v) ∷ (name 3, value.Ref (place 2)) ∷ []))
    ∷ owned 0 (object.list []) ∷ owned 0 (object.tuple []) ∷ owned 0 (object.dict []) ∷ []

-- so many cells are used of seven
abbrev at_cells : ℕ → List Owned → State
at_cells used heap = record { store = record { heap = heap; used = used; limit = 7 }; steps = 0 }

abbrev before : State
before = at_cells 6 (objects (number 7))

abbrev a : Value
a = value.Ref (place 1)

-- a bound method, which stands at the next place
abbrev with_method : ℕ → Content → State
with_method n c = at_cells 7 (objects (number 7) ++ owned n c ∷ [])

abbrev bound_to : Value → ℕ → Content
bound_to receiver at = object.method receiver (callee.Function (place at))

abbrev native_of : ℕ → NativeId → Content
native_of at id = object.method (value.Ref (place at)) (callee.Native id)

get-field : attribute (side 2) a (name 3) (codes "c") before ≡ gives (value.Ref (place 2)) before
get-field = refl

get-field_before_method : attribute (side 2) a (name 1) (codes "a") before ≡ gives (number 7) before
get-field_before_method = refl

get-field_lent : attribute (side 2) (value.Prox (place 1)) (name 3) (codes "c") before ≡ gives (value.Prox (place 2)) before
get-field_lent = refl

-- the method is the owner's, also where another side reads it
get-method : attribute (side 2) a (name 2) (codes "b") before ≡ gives (value.Ref (place 5)) (with_method 1 (bound_to a 6))
get-method = refl

-- and it keeps its receiver plain, where what is got is lent
get-method_lent : attribute (side 2) (value.Prox (place 1)) (name 2) (codes "b") before ≡ gives (value.Prox (place 5)) (with_method 1 (bound_to a 6))
get-method_lent = refl

get-method_at_limit : attribute (side 2) a (name 2) (codes "b") (at_cells 7 (objects (number 7))) ≡ ends no_cell (at_cells 7 (objects (number 7)))
get-method_at_limit = refl

get-missing : attribute (side 2) a (name 4) (codes "d") before ≡ raises AttributeError (codes "d") before
get-missing = refl

-- a class has no attributes, not its functions either
get-class : attribute (side 2) (value.Ref (place 0)) (name 1) (codes "a") before ≡ raises AttributeError (codes "a") before
get-class = refl

get-none : attribute (side 2) (value.Rock rock.Nil) (name 1) (codes "append") before ≡ raises AttributeError (codes "append") before
get-none = refl

get-append : attribute (side 2) (value.Ref (place 2)) (name 4) (codes "append") before ≡ gives (value.Ref (place 5)) (with_method 0 (native_of 2 native.Append))
unfolding encode
get-append = refl

get-append_lent : attribute (side 2) (value.Prox (place 2)) (name 4) (codes "append") before ≡ gives (value.Prox (place 5)) (with_method 0 (native_of 2 native.Append))
unfolding encode
get-append_lent = refl

get-list_has_no_get : attribute (side 2) (value.Ref (place 2)) (name 4) (codes "get") before ≡ raises AttributeError (codes "get") before
unfolding encode
get-list_has_no_get = refl

get-tuple_count : attribute (side 2) (value.Ref (place 3)) (name 4) (codes "count") before ≡ gives (value.Ref (place 5)) (with_method 0 (native_of 3 native.Count))
unfolding encode
get-tuple_count = refl

get-tuple_has_no_append : attribute (side 2) (value.Ref (place 3)) (name 4) (codes "append") before ≡ raises AttributeError (codes "append") before
unfolding encode
get-tuple_has_no_append = refl

get-dict_setdefault : attribute (side 2) (value.Ref (place 4)) (name 4) (codes "setdefault") before ≡ gives (value.Ref (place 5)) (with_method 0 (native_of 4 native.SetDefault))
unfolding encode
get-dict_setdefault = refl

-- the methods of a text are made for the side that runs
get-text_join : attribute (side 2) (value.Rock (rock.Text (codes ", "))) (name 4) (codes "join") before
    ≡ gives (value.Ref (place 5)) (with_method 2 (object.method (value.Rock (rock.Text (codes ", "))) (callee.Native native.Join)))
unfolding encode
get-text_join = refl

get-text_has_no_upper : attribute (side 2) (value.Rock (rock.Text [])) (name 4) (codes "upper") before ≡ raises AttributeError (codes "upper") before
unfolding encode
get-text_has_no_upper = refl

named-list : built_in_method receiver.List (codes "reverse") ≡ Some native.Reverse
unfolding encode
named-list = refl

named-tuple : built_in_method receiver.Tuple (codes "index") ≡ Some native.Index
unfolding encode
named-tuple = refl

named-dict : built_in_method receiver.Dict (codes "append") ≡ None
unfolding encode
named-dict = refl

named-text : built_in_method receiver.Text (codes "isdigit") ≡ Some native.IsDigit
unfolding encode
named-text = refl

named-empty : built_in_method receiver.List [] ≡ None
unfolding encode
named-empty = refl

-- the words are told apart where one begins as the other
named-longer : built_in_method receiver.List (codes "appends") ≡ None
unfolding encode
named-longer = refl

-- the same method may take other counts at another kind
counts-list : counts_of receiver.List native.Pop ≡ Some (between 0 1)
counts-list = refl

counts-dict : counts_of receiver.Dict native.Pop ≡ Some (between 1 2)
counts-dict = refl

counts-tuple_has_no_append : counts_of receiver.Tuple native.Append ≡ None
counts-tuple_has_no_append = refl

counts-text : counts_of receiver.Text native.Replace ≡ Some (just 2)
counts-text = refl

set-held : set_attribute a (name 1) (codes "a") (number 8) (at_cells 7 (objects (number 7))) ≡ gives tt (at_cells 7 (objects (number 8)))
set-held = refl

abbrev grown : State
grown = at_cells 7
    (owned 1 (object.class (name 9) true ((name 1, place 5) ∷ (name 2, place 6) ∷ []))
    ∷ owned 1 (object.instance (place 0) ((name 1, number 7) ∷ (name 3, value.Ref (place 2)) ∷ (name 2, number 8) ∷ []))
    ∷ owned 0 (object.list []) ∷ owned 0 (object.tuple []) ∷ owned 0 (object.dict []) ∷ [])

-- a field may be named as a method
set-new : set_attribute (value.Prox (place 1)) (name 2) (codes "b") (number 8) before ≡ gives tt grown
set-new = refl

set-new_at_limit : set_attribute a (name 2) (codes "b") (number 8) (at_cells 7 (objects (number 7))) ≡ ends no_cell (at_cells 7 (objects (number 7)))
set-new_at_limit = refl

set-list : set_attribute (value.Ref (place 2)) (name 1) (codes "a") (number 8) before ≡ raises AttributeError (codes "a") before
set-list = refl

set-class : set_attribute (value.Ref (place 0)) (name 1) (codes "a") (number 8) before ≡ raises AttributeError (codes "a") before
set-class = refl

set-number : set_attribute (number 1) (name 1) (codes "a") (number 8) before ≡ raises AttributeError (codes "a") before
set-number = refl

-- no cell is given back
del-field : del_attribute a (name 1) (codes "a") before
    ≡ gives tt (at_cells 6
    (owned 1 (object.class (name 9) true ((name 1, place 5) ∷ (name 2, place 6) ∷ []))
    ∷ owned 1 (object.instance (place 0) ((name 3, value.Ref (place 2)) ∷ []))
    ∷ owned 0 (object.list []) ∷ owned 0 (object.tuple []) ∷ owned 0 (object.dict []) ∷ []))
del-field = refl

del-method : del_attribute a (name 2) (codes "b") before ≡ raises AttributeError (codes "b") before
del-method = refl

del-missing : del_attribute (value.Prox (place 1)) (name 4) (codes "d") before ≡ raises AttributeError (codes "d") before
del-missing = refl

del-dict : del_attribute (value.Ref (place 4)) (name 1) (codes "get") before ≡ raises AttributeError (codes "get") before
del-dict = refl
