-- What is bound is sound, where the arguments and the defaults are.
use Rattle.std.proofs.Common.{◌≡◌, ℕ, Bool, true, false, List, [], ◌∷◌, ◌++◌, map, drop, slice_get, Option, Some, None, is_some, if◌then◌else◌, refl, sym, ap, subst, ◌∙◌}
use Rattle.std.specs.List.{All}
use Rattle.std.specs.Map.{lookup}
use Rattle.std.specs.Option.{IfSome, option_map, option_to_list}
use Rattle.std.specs.declared.alloc.Global.{Global}
use Rattle.std.specs.declared.vec.Vec.{Vec}
use Rattle.std.proofs.lemmas.List.Elements.{All-append, All-cons, All-drop, All-head, All-map, All-nil, All-push, All-same, All-tail}
use Rattle.rp_base.specs.Same.{same_text}
use Rattle.rp_base.specs.declared.value.Rock.{Rock}
use Rattle.rp_base.specs.declared.value.Rock.TheVariants as rock
use Rattle.rp_base.specs.declared.value.Value.{Value}
use Rattle.rp_dict.specs.Dict.{insert_entry}
use Rattle.rp_store.specs.Heap.{Owned}
use Rattle.rp_store.specs.Kept.{AreSound, IsEntry, IsSound}
use Rattle.rp_store.specs.Key.{same_key}
use Rattle.rp_store.specs.declared.key.Key.{Key}
use Rattle.rp_store.specs.declared.key.Key.TheVariants as key
use Rattle.rp_tree.specs.declared.expr.Expr.{Expr}
use Rattle.rp_tree.specs.Expressions.{Named}
use Rattle.rp_base.specs.Names.{word_of}
use Rattle.rp_calls.specs.Binding.{are_plain, default_of, defaults_after, entries_for, filled, given, is_plain, offered, other_entries, put, sole}
use Rattle.rp_calls.specs.View.{AreSlotsSound}
use Rattle.rp_store.proofs.CallerLemmas.{insert_entry-absent}

module _ (heap : List Owned) where
  abbrev pub Given : List (List ℕ × Value) → Type 0
  Given named = All (λ (g : List ℕ × Value). IsSound heap g.1) named

  first-sound : (vs : List Value) → AreSound heap vs → IfSome (slice_get vs 0) (IsSound heap)
  first-sound [] h = tt
  first-sound (v ∷ vs) h = All-head (IsSound heap) v vs h

  default-sound : (b : Bool) (vs : List Value) → AreSound heap vs → IfSome (default_of b vs) (IsSound heap)
  default-sound true vs h = first-sound vs h
  default-sound false vs h = tt

  after-sound : (b : Bool) (vs : List Value) → AreSound heap vs → AreSound heap (defaults_after b vs)
  after-sound true vs h = All-drop (IsSound heap) 1 vs h
  after-sound false vs h = h

  list-sound : (v : Option Value) → IfSome v (IsSound heap) → AreSound heap (option_to_list v)
  list-sound None h = All-nil (IsSound heap)
  list-sound (Some v) h = All-cons (IsSound heap) v [] h (All-nil (IsSound heap))

  given-sound : (named : List (List ℕ × Value)) (word : List ℕ) → Given named → AreSound heap (given named word)
  given-sound [] word h = All-nil (IsSound heap)
  given-sound (g ∷ gs) word h =
      let P = λ (g : List ℕ × Value). IsSound heap g.1 in
      by (same_text g.0 word) (All-head P g gs h) (given-sound gs word (All-tail P g gs h)) where
        by : (b : Bool) → IsSound heap g.1 → AreSound heap (given gs word) → AreSound heap (if b then g.1 ∷ given gs word else given gs word)
        by true first rest = All-cons (IsSound heap) g.1 (given gs word) first rest
        by false first rest = rest

  sole-sound : (vs : List Value) (default : Option Value) → AreSound heap vs → IfSome default (IsSound heap) → IfSome (sole vs default) (IsSound heap)
  sole-sound [] default h d = d
  sole-sound (v ∷ []) default h d = All-head (IsSound heap) v [] h
  sole-sound (v ∷ w ∷ vs) default h d = tt

  put-sound : (v : Option Value) (vs : Option (List Value)) → IfSome v (IsSound heap) → IfSome vs (AreSound heap) → IfSome (put v vs) (AreSound heap)
  put-sound None vs h hs = tt
  put-sound (Some v) None h hs = tt
  put-sound (Some v) (Some vs) h hs = All-cons (IsSound heap) v vs h hs

  filled-sound : (names : List (List ℕ)) (ps : List (Named × Option Expr)) (args defaults : List Value) (named : List (List ℕ × Value))
      → AreSound heap args → AreSound heap defaults → Given named → IfSome (filled (offered names ps args defaults) named) (AreSound heap)
  filled-sound names [] args defaults named a d n = All-nil (IsSound heap)
  filled-sound names (p ∷ ps) args defaults named a d n =
      let default = default_of (is_some p.1) defaults in
      let word = word_of names p.0.name in
      put-sound (sole (option_to_list (slice_get args 0) ++ given named word) default)
      (filled (offered names ps (drop 1 args) (defaults_after (is_some p.1) defaults)) named)
      (sole-sound (option_to_list (slice_get args 0) ++ given named word) default
      (All-append (IsSound heap) (option_to_list (slice_get args 0)) (given named word) (list-sound (slice_get args 0) (first-sound args a)) (given-sound named word n))
      (default-sound (is_some p.1) defaults d))
      (filled-sound names ps (drop 1 args) (defaults_after (is_some p.1) defaults) named (All-drop (IsSound heap) 1 args a) (after-sound (is_some p.1) defaults d) n)

  others-sound : (names : List (List ℕ)) (ps : List (Named × Option Expr)) (gs : List (List ℕ × Value)) (es : List (Key × (Rock × Value)))
      → All (IsEntry heap) es → Given gs → IfSome (other_entries names ps es gs) (All (IsEntry heap))
  others-sound names ps [] es a n = a
  others-sound names ps (g ∷ gs) es a n =
      let P = λ (g : List ℕ × Value). IsSound heap g.1 in
      by (is_plain names ps g.0) (lookup (same_key (key.Text g.0)) es) refl (All-head P g gs n) (λ es a. others-sound names ps gs es a (All-tail P g gs n)) where
        more : List (Key × (Rock × Value))
        more = insert_entry same_key es (key.Text g.0) (rock.Text g.0, g.1)

        by : (b : Bool) (l : Option (Rock × Value)) → lookup (same_key (key.Text g.0)) es ≡ l → IsSound heap g.1
            → ((es : List (Key × (Rock × Value))) → All (IsEntry heap) es → IfSome (other_entries names ps es gs) (All (IsEntry heap)))
            → IfSome (if b then other_entries names ps es gs else if is_some l then None else other_entries names ps more gs) (All (IsEntry heap))
        by true l e v rest = rest es a
        by false (Some x) e v rest = tt
        by false None e v rest =
            rest more
            (All-same (IsEntry heap) more (es ++ (key.Text g.0, (rock.Text g.0, g.1)) ∷ []) (insert_entry-absent same_key (key.Text g.0) (rock.Text g.0, g.1) es e)
            (All-push (IsEntry heap) es (key.Text g.0, (rock.Text g.0, g.1)) a (refl, v)))

  for-sound : (b : Bool) (names : List (List ℕ)) (ps : List (Named × Option Expr)) (named : List (List ℕ × Value))
      → Given named → IfSome (entries_for b names ps named) (All (IsEntry heap))
  for-sound true names ps named n = others-sound names ps named [] (All-nil (IsEntry heap)) n
  for-sound false names ps named n = by (are_plain names ps named) where
    by : (b : Bool) → IfSome {T = List (Key × (Rock × Value))} (if b then Some [] else None) (All (IsEntry heap))
    by true = All-nil (IsEntry heap)
    by false = tt

  pub entries-sound : (b : Bool) (names : List (List ℕ)) (ps : List (Named × Option Expr)) (named : List (List ℕ × Value))
      (r : Option (List (Key × (Rock × Value)))) (es : List (Key × (Rock × Value)))
      → r ≡ entries_for b names ps named → r ≡ Some es → Given named → All (IsEntry heap) es
  entries-sound b names ps named r es e is n = subst (λ (r : Option (List (Key × (Rock × Value)))). IfSome r (All (IsEntry heap))) (sym e ∙ is) (for-sound b names ps named n)

  mapped-sound : (vs : Option (List Value)) → IfSome vs (AreSound heap) → IfSome (option_map (map Some) vs) (AreSlotsSound heap)
  mapped-sound None h = tt
  mapped-sound (Some vs) h = All-map (λ (slot : Option Value). IfSome slot (IsSound heap)) Some vs h

  pub slots-sound : (names : List (List ℕ)) (ps : List (Named × Option Expr)) (args defaults : List Value) (named : List (List ℕ × Value))
      (r : Option (Vec (Option Value) Global)) (slots : Vec (Option Value) Global)
      → option_map (λ s. s.items) r ≡ option_map (map Some) (filled (offered names ps args defaults) named) → r ≡ Some slots
      → AreSound heap args → AreSound heap defaults → Given named → AreSlotsSound heap slots.items
  slots-sound names ps args defaults named r slots e is a d n =
      subst (λ (r : Option (List (Option Value))). IfSome r (AreSlotsSound heap)) (sym e ∙ ap (option_map (λ s. s.items)) is)
      (mapped-sound (filled (offered names ps args defaults) named) (filled-sound names ps args defaults named a d n))
