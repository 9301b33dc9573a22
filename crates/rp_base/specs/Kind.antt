-- The kinds of exceptions: their names, and which kinds a handler takes (Python Library Reference, "Exception hierarchy").
use Rattle.std.specs.Prelude.{ℕ, zero, suc, Bool, ◌||◌, List, [], ◌∷◌, codes}
use Rattle.std.specs.List.{list_any}
use denote.Enum.Bare.{sameb}
use Rattle.rp_base.specs.contracts.kind.Kind.{the_type}
use Rattle.rp_base.specs.declared.kind.Kind.{Kind}
pub use Rattle.rp_base.specs.declared.kind.TheConstants.Kind.{ALL}
use Rattle.rp_base.specs.declared.kind.Kind.TheVariants.{Exception, ArithmeticError, ZeroDivisionError, OverflowError, LookupError, IndexError, KeyError, NameError, UnboundLocalError, RuntimeError, RecursionError, ValueError, TypeError, AttributeError, AssertionError, Unauthorized, Forbidden, ForbiddenAttribute}

-- the name of a kind, as its bytes
abbrev pub kind_name : Kind → List ℕ
kind_name Exception = codes "Exception"
kind_name ArithmeticError = codes "ArithmeticError"
kind_name ZeroDivisionError = codes "ZeroDivisionError"
kind_name OverflowError = codes "OverflowError"
kind_name LookupError = codes "LookupError"
kind_name IndexError = codes "IndexError"
kind_name KeyError = codes "KeyError"
kind_name NameError = codes "NameError"
kind_name UnboundLocalError = codes "UnboundLocalError"
kind_name RuntimeError = codes "RuntimeError"
kind_name RecursionError = codes "RecursionError"
kind_name ValueError = codes "ValueError"
kind_name TypeError = codes "TypeError"
kind_name AttributeError = codes "AttributeError"
kind_name AssertionError = codes "AssertionError"
kind_name Unauthorized = codes "Unauthorized"
kind_name Forbidden = codes "Forbidden"
kind_name ForbiddenAttribute = codes "ForbiddenAttribute"

-- the kinds that a kind stands directly under
abbrev pub kinds_above : Kind → List Kind
kinds_above Exception = []
kinds_above ArithmeticError = Exception ∷ []
kinds_above ZeroDivisionError = ArithmeticError ∷ []
kinds_above OverflowError = ArithmeticError ∷ []
kinds_above LookupError = Exception ∷ []
kinds_above IndexError = LookupError ∷ []
kinds_above KeyError = LookupError ∷ []
kinds_above NameError = Exception ∷ []
kinds_above UnboundLocalError = NameError ∷ []
kinds_above RuntimeError = Exception ∷ []
kinds_above RecursionError = RuntimeError ∷ []
kinds_above ValueError = Exception ∷ []
kinds_above TypeError = Exception ∷ []
kinds_above AttributeError = Exception ∷ []
kinds_above AssertionError = Exception ∷ []
kinds_above Unauthorized = Exception ∷ []
kinds_above Forbidden = Exception ∷ []
kinds_above ForbiddenAttribute = Forbidden ∷ AttributeError ∷ []

-- the two are one kind
abbrev pub is_same_kind : Kind → Kind → Bool
is_same_kind = sameb the_type

-- the second kind stands so many steps above the first
abbrev pub reaches : ℕ → Kind → Kind → Bool
reaches zero kind handler = is_same_kind kind handler
reaches (suc n) kind handler = list_any (λ above. reaches n above handler) (kinds_above kind)

-- the first kind is the second, or stands under it: at most two steps lead from a kind to `Exception`
abbrev pub is_under : Kind → Kind → Bool
is_under kind handler = reaches 0 kind handler || (reaches 1 kind handler || reaches 2 kind handler)
