-- No item is put where nothing stands, or a scope.
use Rattle.std.proofs.Common.{◌≡◌, List, Option, Some, None, sym, ap, ◌∙◌}
use Rattle.std.specs.Option.{option_map_or}
use Rattle.rp_base.specs.declared.value.Oid.{Oid}
use Rattle.rp_base.specs.declared.value.Value.{Value}
use Rattle.rp_base.specs.declared.value.Value.TheVariants as value
use Rattle.rp_items.specs.Items.{content_set, no_items, set_item}
use Rattle.rp_ops.specs.Outcome.{State}
use Rattle.rp_store.specs.Heap.{Owned, content_at}
use Rattle.rp_store.specs.Object.{Content, class, dict, function, instance, list, method, scope, tuple}
use Rattle.rp_store.specs.Parts.{IsScope}
use Rattle.rp_engine.specs.ComprehensionSteps.{HasNoItems}

module _ (heap : List Owned) (at : Oid) where
  -- what is put there, by what stands there
  put_there : (o : Option Content) (k v : Value) (s : State) → o ≡ content_at heap at → s.store.heap ≡ heap
      → set_item (value.Ref at) k v s ≡ option_map_or (λ c. content_set at c k v s) o (no_items s)
  put_there o k v s is same =
      ap (λ (h : List Owned). option_map_or (λ c. content_set at c k v s) (content_at h at) (no_items s)) same
      ∙ ap (λ (o : Option Content). option_map_or (λ c. content_set at c k v s) o (no_items s)) (sym is)

  pub none_no_items : None ≡ content_at heap at → HasNoItems heap at
  none_no_items is k v s same = put_there None k v s is same

  pub scope_no_items : (c : Content) → Some c ≡ content_at heap at → IsScope c → HasNoItems heap at
  scope_no_items (list xs) is h = absurd h
  scope_no_items (tuple xs) is h = absurd h
  scope_no_items (dict es) is h = absurd h
  scope_no_items (instance of fs) is h = absurd h
  scope_no_items (class n d ms) is h = absurd h
  scope_no_items (function n u b w ds) is h = absurd h
  scope_no_items (method r c) is h = absurd h
  scope_no_items (scope b p ss) is h = λ k v s same. put_there (Some (scope b p ss)) k v s is same
