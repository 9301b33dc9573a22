-- What a built-in method of the language changes.
use Rattle.std.proofs.Common.{◌≡◌, refl, ap, ◌∙◌, ℕ, zero, suc, List, [], ◌∷◌, ◌++◌, slice_get, Some}
use Rattle.rp_base.specs.declared.value.Oid.{Oid}
use Rattle.rp_base.specs.declared.value.Value.TheVariants as value
use Rattle.rp_store.specs.Heap.{Owned, changed_from}
use Rattle.rp_store.specs.Object.{Content}
use Rattle.rp_keeper_laws.specs.PlainKeepers.{PlainKeeper}
use Rattle.rp_keeper_laws.proofs.Methods.{method_leaves}
use Rattle.rp_owner_laws.specs.Uses.{AllStayBut, MethodsChangeTheirReceiverAlone}

changed_other : (heap : List Owned) (i j : ℕ) (f : Content → Content) → (j ≡ i → ⊥) → (o : Owned)
    → slice_get heap j ≡ Some o → slice_get (changed_from heap i f) j ≡ Some o
changed_other [] i j f other o e = e
changed_other (x ∷ xs) zero zero f other o e = absurd (other refl)
changed_other (x ∷ xs) zero (suc j) f other o e = e
changed_other (x ∷ xs) (suc i) zero f other o e = e
changed_other (x ∷ xs) (suc i) (suc j) f other o e = changed_other xs i j f (λ q. other (ap suc q)) o e

appended_later : (heap news : List Owned) (i : ℕ) (o : Owned) → slice_get heap i ≡ Some o
    → slice_get (heap ++ news) i ≡ Some o
appended_later [] news i o e = absurd (cc)
appended_later (x ∷ xs) news zero o e = e
appended_later (x ∷ xs) news (suc i) o e = appended_later xs news i o e

-- plain operations that may change the object at a place alone
abbrev only : Oid → List Owned → PlainKeeper
only at old = record {
  Kept = λ heap. AllStayBut at old heap;
  Usable = λ it. it.0 ≡ at.0;
  Fits = λ c. Unit {0};
  list = λ xs. tt;
  tuple = λ xs. tt;
  dict = λ es. tt;
  changed = λ heap it f m usable h x o other e.
      changed_other heap it.0 x.0 f (λ q. other (q ∙ usable)) o (h x o other e);
  appended = λ heap news p h x o other e. appended_later heap news x.0 o (h x o other e);
}

pub methods_change_their_receiver_alone : MethodsChangeTheirReceiverAlone
methods_change_their_receiver_alone side at id vs s =
    (method_leaves {k = only at s.store.heap} side (value.Ref at) id vs refl s (λ x o other e. e)).there
