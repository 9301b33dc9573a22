-- What taking a key out of a dict comes to.
use Rattle.std.proofs.Common.{◌≡◌, ℕ, Option, Some, None, Bor, Ok, codes, sym, ap, ◌∙◌}
use Rattle.std.specs.Option.{option_and_then, option_copied, option_map, option_map_or}
use Rattle.rp_base.specs.declared.kind.Kind.TheVariants.{TypeError}
use Rattle.rp_base.specs.declared.value.Oid.{Oid}
use Rattle.rp_base.specs.declared.value.Rock.{Rock}
use Rattle.rp_base.specs.declared.value.Value.{Value}
use Rattle.rp_base.specs.declared.value.Value.TheVariants as value
use Rattle.rp_store.specs.Heap.{entry_at}
use Rattle.rp_store.specs.Key.{key_form}
use Rattle.rp_store.specs.Object.{Content}
use Rattle.rp_store.specs.Store.{Cells, written}
use Rattle.rp_store.specs.Writers.{without_entry}
use Rattle.rp_store.specs.declared.key.Key.{Key}
use Rattle.rp_ops.specs.Numbers.{refused}
use Rattle.rp_ops.specs.Outcome.{State, gives, on_found, state_of, with_change}
use Rattle.rp_methods.specs.Dicts.{missed, pop_or}

some_value : {A B : Type 0} (f : A → B) (x : Option (Rock × A)) (v : A) (z : B) → option_map (λ e. e.1) x ≡ Some v → option_map_or (λ e. f e.1) x z ≡ f v
some_value f None v z e = absurd (cc)
some_value f (Some p) v z e = ap (λ o. option_map_or f o z) e

module _ (old : Cells) (at : Oid) (r : Rock) (key : Key) (d : Option Value) (steps : ℕ) (form : Some key ≡ key_form r) where
  abbrev before : State
  before = state_of old steps

  popped : pop_or at (value.Rock r) d before
      ≡ option_map_or (λ e. gives e.1 (with_change before at (λ (c : Content). without_entry key c))) (entry_at old.heap at key) (missed d r before)
  popped =
      ap (λ (k : Option Key). on_found (option_map_or (λ _. Ok r) k (refused TypeError (codes "key"))) before
      (λ r s. option_map_or (λ e. gives e.1 (with_change s at (λ (c : Content). option_map_or (λ key. without_entry key c) (key_form r) c)))
      (option_and_then (entry_at s.store.heap at) (key_form r)) (missed d r s))) (sym form)
      ∙ ap (λ (k : Option Key). option_map_or (λ e. gives e.1 (with_change before at (λ (c : Content). option_map_or (λ key. without_entry key c) k c)))
      (option_and_then (entry_at old.heap at) k) (missed d r before)) (sym form)

  pub entry-taken : (new : Cells) (v : Value) → option_map (λ e. e.1) (entry_at old.heap at key) ≡ Some v → new ≡ written old at (without_entry key)
      → pop_or at (value.Rock r) d before ≡ gives v (state_of new steps)
  entry-taken new v held same =
      popped
      ∙ some_value (λ (v : Value). gives v (with_change before at (λ (c : Content). without_entry key c))) (entry_at old.heap at key) v (missed d r before) held
      ∙ ap (λ (s : Cells). gives v (state_of s steps)) (sym same)

-- the value of what is read
pub value-held : (r : Option (Bor (Rock × Value))) (b : Bor (Rock × Value)) (x : Option (Rock × Value)) (v : Value) → option_copied r ≡ x → r ≡ Some b → v ≡ b.now.1
    → option_map (λ e. e.1) x ≡ Some v
value-held r b x v e is same =
    ap (λ (x : Option (Rock × Value)). option_map (λ (e : Rock × Value). e.1) x) (sym e)
    ∙ ap (λ (r : Option (Bor (Rock × Value))). option_map (λ (e : Rock × Value). e.1) (option_copied r)) is ∙ ap (λ (v : Value). Some v) (sym same)
