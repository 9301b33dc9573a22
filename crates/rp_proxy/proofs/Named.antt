-- The tags of objects whose classes have names that are held.
use Rattle.std.proofs.Common.{◌≡◌, ℕ, zero, suc, List, [], ◌∷◌, Option, Some, None, true, false, slice_get, subst, arith}
use Rattle.std.specs.List.{All}
use Rattle.std.specs.Option.{option_map, option_map_or}
use Rattle.rp_base.specs.declared.value.ClassTag.{ClassTag}
use Rattle.rp_base.specs.declared.value.ClassTag.TheVariants as tag
use Rattle.rp_base.specs.declared.value.Oid.{Oid}
use Rattle.rp_checker.specs.Answers.{IsTagHeld}
use Rattle.rp_store.specs.Heap.{Owned, content_at, instance_tag, tag_at, tag_in}
use Rattle.rp_store.specs.Object.{Content, list, tuple, dict, instance, class, function, method, scope}
use Rattle.rp_proxy.specs.Held.{AreNamed, IsNamed}

-- what holds of each object holds of the one at a place
at_each : (P : Content → Type 0) (heap : List Owned) (k : ℕ) (c : Content) → All (λ o. P o.content) heap → option_map (λ o. o.content) (slice_get heap k) ≡ Some c → P c
at_each P [] k c h e = absurd (cc)
at_each P (o ∷ os) zero c h e = let same : o.content ≡ c = cc in let first : P o.content = h 0 o (omega arith) in subst P same first
at_each P (o ∷ os) (suc k) c h e = at_each P os k c (λ j d l. h (suc j) d (omega arith)) e

module _ (names : List (List ℕ)) where
  instance_held : (found : Option Content) → ((c : Content) → found ≡ Some c → IsNamed names c) → IsTagHeld names (option_map_or instance_tag found tag.Other)
  instance_held None named = tt
  instance_held (Some (list elements)) named = tt
  instance_held (Some (tuple elements)) named = tt
  instance_held (Some (dict entries)) named = tt
  instance_held (Some (instance of fields)) named = tt
  instance_held (Some (class name true methods)) named = named (class name true methods) (λ i. Some (class name true methods))
  instance_held (Some (class name false methods)) named = tt
  instance_held (Some (function name unit block within defaults)) named = tt
  instance_held (Some (method receiver callee)) named = tt
  instance_held (Some (scope block parent slots)) named = tt

  tag_in_held : (heap : List Owned) (c : Content) → AreNamed names heap → IsTagHeld names (tag_in heap c)
  tag_in_held heap (list elements) named = tt
  tag_in_held heap (tuple elements) named = tt
  tag_in_held heap (dict entries) named = tt
  tag_in_held heap (instance of fields) named = instance_held (content_at heap of) (λ c e. at_each (IsNamed names) heap of.0 c named e)
  tag_in_held heap (class name declared methods) named = tt
  tag_in_held heap (function name unit block within defaults) named = tt
  tag_in_held heap (method receiver callee) named = tt
  tag_in_held heap (scope block parent slots) named = tt

  found_held : (heap : List Owned) (found : Option Content) (t : ClassTag) → AreNamed names heap → option_map (tag_in heap) found ≡ Some t → IsTagHeld names t
  found_held heap None t named e = absurd (cc)
  found_held heap (Some c) t named e = let same : tag_in heap c ≡ t = cc in subst (IsTagHeld names) same (tag_in_held heap c named)

  pub IsTagHeld-tag_at : (heap : List Owned) (at : Oid) (t : ClassTag) → AreNamed names heap → tag_at heap at ≡ Some t → IsTagHeld names t
  IsTagHeld-tag_at heap at t named e = found_held heap (content_at heap at) t named e
