-- What is found in a class that a store keeps.
use Rattle.std.proofs.Common.{◌≡◌, List, Option, subst, sym}
use Rattle.std.specs.Map.{lookup}
use Rattle.std.specs.Option.{IfSome}
use Rattle.std.proofs.lemmas.Map.Entries.{All-lookup}
use Rattle.rp_base.specs.declared.value.Name.{Name}
use Rattle.rp_base.specs.declared.value.Oid.{Oid}
use Rattle.rp_store.specs.Heap.{Owned, Names}
use Rattle.rp_store.specs.Kept.{IsHeldBySome}
use Rattle.rp_store.specs.Key.{same_name}
use Rattle.rp_store.specs.Object.{Content, list, tuple, dict, instance, class, function, method, scope}
use Rattle.rp_store.specs.Parts.{IsFunction, methods}

-- the methods of a class are functions
pub IsFunction-method : (heap : List Owned) (c : Content) (name : Name) (x : Option Oid) → IsHeldBySome heap c → x ≡ lookup (same_name name) (methods c) → IfSome x (Names heap IsFunction)
IsFunction-method heap c name x h e = subst (λ (x : Option Oid). IfSome x (Names heap IsFunction)) (sym e) (by c h) where
  by : (c : Content) → IsHeldBySome heap c → IfSome (lookup (same_name name) (methods c)) (Names heap IsFunction)
  by (class n d ms) h = All-lookup (Names heap IsFunction) (same_name name) ms h.holds
  by (list xs) h = tt
  by (tuple xs) h = tt
  by (dict es) h = tt
  by (instance of fs) h = tt
  by (function n u b w ds) h = tt
  by (method r c) h = tt
  by (scope b p vs) h = tt
