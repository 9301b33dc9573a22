-- What is spread over arguments, from what is known of each part.
use Rattle.std.proofs.Common.{◌≡◌, ◌<◌, ◌+◌, length, get_or, take, List, [], ◌∷◌, ◌++◌, map, Option, Some, None, Result, refl, sym, ap, ◌∙◌, subst}
use Rattle.std.specs.Prelude.{All, IfOk, MatchOption, ℕ, codes, option_map}
use Rattle.std.specs.declared.alloc.Global.{Global}
use Rattle.std.specs.declared.vec.Vec.{Vec}
use Rattle.std.specs.Option.{option_and_then}
use Rattle.std.proofs.lemmas.List.{append-nil, append_assoc, map-append, take_more}
use Rattle.std.proofs.lemmas.List.Elements.{All-get_or, All-head, All-tail}
use Rattle.rp_base.specs.declared.kind.Kind.TheVariants.{TypeError}
use Rattle.rp_base.specs.declared.value.OpEnd.{OpEnd}
use Rattle.rp_base.specs.declared.value.Rock.{Rock}
use Rattle.rp_base.specs.declared.value.Rock.TheVariants as rock
use Rattle.rp_base.specs.declared.value.Side.{Side}
use Rattle.rp_base.specs.declared.value.Value.{Value}
use Rattle.rp_base.specs.declared.word.TheConstants.{ITER, ITEMS}
use Rattle.rp_meaning.specs.Calls.{all_named, content_named, entries_named, entry_named}
use Rattle.rp_meaning.specs.State.{State, heap_of, plainly}
use Rattle.rp_ops.specs.Outcome.{Raises, gives, on_value}
use Rattle.rp_ops.specs.Walk.{elements}
use Rattle.rp_proxy.specs.Taken.{taken}
use Rattle.rp_store.specs.Heap.{Owned}
use Rattle.rp_store.specs.Kept.{AreSound, IsEntry, IsSound}
use Rattle.rp_store.specs.Object.{Content, Entry}
use Rattle.rp_access.specs.Comes.{IsEnd}
use Rattle.rp_access.specs.Parts.{asking}
use Rattle.rp_access.specs.Spreading.{all_got, all_taken, got_through, spread, spread_named, word_of}
use Rattle.rp_access.proofs.Going.{IsEnd-same, IsEnd-then, gives-then, raises_end}

module _ (side : Side) (v : Value) (s t : State) where
  -- the elements of a value
  module _ (asked : asking ITER v s ≡ gives (tt {0}) t) where
    behind_asked : spread side v s ≡ on_value (plainly (elements v) t) (λ vs s. all_taken side vs s)
    behind_asked = gives-then (tt {0}) t _ (λ _ s. on_value (plainly (elements v) s) (λ vs s. all_taken side vs s)) asked

    pub spread_ends : (u : State) (e : OpEnd) → IsEnd e u (plainly (elements v) t) → IsEnd e u (spread side v s)
    spread_ends u e is = IsEnd-same e u _ _ behind_asked (IsEnd-then e u _ (λ vs s. all_taken side vs s) is)

    pub spread_gives : (u : State) (vs us : List Value) → plainly (elements v) t ≡ gives vs u → us ≡ map (taken (heap_of u) side) vs → spread side v s ≡ gives us u
    spread_gives u vs us is all = behind_asked ∙ gives-then vs u _ (λ vs s. all_taken side vs s) is ∙ ap (λ us. gives us u) (sym all)

  -- the entries of a dict
  module _ (asked : asking ITEMS v s ≡ gives (tt {0}) t) where
    named_asked : spread_named side v s ≡ all_got side v (entries_named (heap_of t) v) t
    named_asked = gives-then (tt {0}) t _ (λ _ s. all_got side v (entries_named (heap_of s) v) s) asked

    got_of : (o : Option (List (List ℕ × Value))) (ns : List (List ℕ × Value)) → option_map (map (got_through (heap_of t) side v)) o ≡ Some ns → all_got side v o t ≡ gives ns t
    got_of None ns is = let k : None ≡ Some ns = is in absurd (cc)
    got_of (Some ms) ns is = let k : Some (map (got_through (heap_of t) side v) ms) ≡ Some ns = is in let j : map (got_through (heap_of t) side v) ms ≡ ns = cc in ap (λ ns. gives ns t) j

    pub named_gives : (ns : List (List ℕ × Value)) → option_map (map (got_through (heap_of t) side v)) (entries_named (heap_of t) v) ≡ Some ns → spread_named side v s ≡ gives ns t
    named_gives ns is = named_asked ∙ got_of (entries_named (heap_of t) v) ns is

    pub named_wrong : (e : OpEnd) → entries_named (heap_of t) v ≡ None → Raises e (record { kind = TypeError; text = codes "argument" }) → IsEnd e t (spread_named side v s)
    named_wrong e none raised =
        IsEnd-same e t _ _ (named_asked ∙ ap (λ o. all_got side v o t) none) (raises_end (List (List ℕ × Value)) e (record { kind = TypeError; text = codes "argument" }) t raised)

-- one more entry
module _ (heap : List Owned) (side : Side) (from : Value) where
  abbrev pub all_of : List (List ℕ × Value) → List Entry → Option (List (List ℕ × Value))
  all_of ns es = option_map (λ ms. ns ++ map (got_through heap side from) ms) (all_named es)

  more_of : (o : Option (List (List ℕ × Value))) (ns : List (List ℕ × Value)) (n : List ℕ × Value)
      → option_map (λ ms. ns ++ map (got_through heap side from) ms) (option_map (λ ms. n ∷ ms) o)
      ≡ option_map (λ ms. (ns ++ got_through heap side from n ∷ []) ++ map (got_through heap side from) ms) o
  more_of None ns n = refl
  more_of (Some ms) ns n = ap (λ xs. Some xs) (sym (append_assoc ns (got_through heap side from n ∷ []) (map (got_through heap side from) ms)))

  pub entry_more : (ns ms : List (List ℕ × Value)) (e : Entry) (es : List Entry) (word : List ℕ) (v : Value) → word_of e.1.0 ≡ Some word → v ≡ (got_through heap side from (word, e.1.1)).1
      → ms ≡ ns ++ (word, v) ∷ [] → all_of ns (e ∷ es) ≡ all_of ms es
  entry_more ns ms e es word v is got more =
      ap (λ o. option_map (λ ms. ns ++ map (got_through heap side from) ms) (option_and_then (λ n. option_map (λ ns. n ∷ ns) (all_named es)) o)) (entry_is e word is)
      ∙ more_of (all_named es) ns (word, e.1.1)
      ∙ ap (λ zs. all_of zs es) (ap (λ v. ns ++ (word, v) ∷ []) (sym got) ∙ sym more) where
        entry_is : (e : Entry) (word : List ℕ) → word_of e.1.0 ≡ Some word → entry_named e ≡ Some (word, e.1.1)
        entry_is e word is = of_rock e.1.0 is where
          of_rock : (r : Rock) → word_of r ≡ Some word → entry_named (e.0, (r, e.1.1)) ≡ Some (word, e.1.1)
          of_rock (rock.Text t) is = let k : Some t ≡ Some word = is in let j : t ≡ word = cc in ap (λ t. Some (t, e.1.1)) j
          of_rock rock.Nil is = let k : None ≡ Some word = is in absurd (cc)
          of_rock (rock.Truth b) is = let k : None ≡ Some word = is in absurd (cc)
          of_rock (rock.Int z) is = let k : None ≡ Some word = is in absurd (cc)
          of_rock (rock.Exc x t) is = let k : None ≡ Some word = is in absurd (cc)
          of_rock (rock.Kind x) is = let k : None ≡ Some word = is in absurd (cc)
          of_rock (rock.Native x) is = let k : None ≡ Some word = is in absurd (cc)

  -- a key that is no text
  pub entry_wrong : (ns : List (List ℕ × Value)) (e : Entry) (es : List Entry) → word_of e.1.0 ≡ None → all_of ns (e ∷ es) ≡ None
  entry_wrong ns e es is = ap (λ o. option_map (λ ms. ns ++ map (got_through heap side from) ms) (option_and_then (λ n. option_map (λ ns. n ∷ ns) (all_named es)) o)) (none_is e.1.0 is) where
    none_is : (r : Rock) → word_of r ≡ None → entry_named (e.0, (r, e.1.1)) ≡ None
    none_is (rock.Text t) is = let k : Some t ≡ None = is in absurd (cc)
    none_is rock.Nil is = refl
    none_is (rock.Truth b) is = refl
    none_is (rock.Int z) is = refl
    none_is (rock.Exc x t) is = refl
    none_is (rock.Kind x) is = refl
    none_is (rock.Native x) is = refl

  -- where a key is no text there is none of them
  pub named_none : (es rest : List Entry) (ns : List (List ℕ × Value)) → all_of ns rest ≡ all_of [] es → all_of ns rest ≡ None → all_named es ≡ None
  named_none es rest ns same none = none_of (all_named es) (sym same ∙ none) where
    none_of : (o : Option (List (List ℕ × Value))) → option_map (λ ms. [] ++ map (got_through heap side from) ms) o ≡ None → o ≡ None
    none_of None h = refl
    none_of (Some ms) h = let k : Some ([] ++ map (got_through heap side from) ms) ≡ None = h in absurd (cc)

  -- where nothing is left all are taken
  pub named_all : (es rest : List Entry) (ns : List (List ℕ × Value)) → rest ≡ [] → all_of ns rest ≡ all_of [] es → option_map (map (got_through heap side from)) (all_named es) ≡ Some ns
  named_all es rest ns none same = sym same ∙ ap (all_of ns) none ∙ ap (λ xs. Some xs) (append-nil ns)

  pub next_entry : (es rest : List Entry) (e : Entry) → es ≡ e ∷ rest → All (IsEntry heap) es → IsSound heap e.1.1 × All (IsEntry heap) rest
  next_entry es rest e is h =
      let k : All (IsEntry heap) (e ∷ rest) = subst (All (IsEntry heap)) is h in
      ((All-head (IsEntry heap) e rest k).1, All-tail (IsEntry heap) e rest k)

-- one more value is taken
pub sound_at : (heap : List Owned) (vs : List Value) (i : ℕ) (v copy : Value) → v ≡ get_or vs i v → i < length vs → copy ≡ v → AreSound heap vs → IsSound heap copy
sound_at heap vs i v copy is within same h = subst (IsSound heap) (sym (same ∙ is)) (All-get_or (IsSound heap) vs i v within h)

pub taken_next : (heap : List Owned) (side : Side) (vs : List Value) (i : ℕ) (v copy got : Value) (items more : List Value) → i < length vs → v ≡ get_or vs i v
    → more ≡ items ++ got ∷ [] → copy ≡ v → got ≡ taken heap side copy → items ≡ map (taken heap side) (take i vs) → more ≡ map (taken heap side) (take (i + 1) vs)
taken_next heap side vs i v copy got items more within is pushed same gets before =
    pushed ∙ ap (λ (xs : List Value). xs ++ got ∷ []) before
    ∙ ap (λ (x : Value). map (taken heap side) (take i vs) ++ x ∷ []) (gets ∙ ap (taken heap side) (same ∙ is))
    ∙ sym (map-append (taken heap side) (take i vs) (get_or vs i v ∷ [])) ∙ sym (ap (map (taken heap side)) (take_more vs i v within))

-- what stands at a place
module _ (heap : List Owned) (side : Side) (from : Value) where
  abbrev pub AreGot : Option (Vec (List ℕ × Value) Global) → Option (List (List ℕ × Value)) → Type 0
  AreGot o found = MatchOption o (found ≡ None) (λ all. option_map (map (got_through heap side from)) found ≡ Some all.items)

  pub got_at : {E : Type 0} (r : Result (Option (Vec (List ℕ × Value) Global)) E) (found content : Option Content) → found ≡ content
      → IfOk r (λ o. AreGot o (option_and_then content_named content)) → IfOk r (λ o. AreGot o (option_and_then content_named found))
  got_at r found content is h = subst (λ (c : Option Content). IfOk r (λ o. AreGot o (option_and_then content_named c))) (sym is) h
