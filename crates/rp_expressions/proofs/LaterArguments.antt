-- Arguments without a name that stand behind some with one, from what is known of those at hand.
use Rattle.std.proofs.Common.{◌≡◌, ℕ, suc, ◌+◌, ◌*◌, List, [], ◌∷◌, ◌++◌, drop, length, reverse, take, Result, sym, ap, ◌∙◌, subst, zero-add}
use Rattle.std.specs.Prelude.{All, OnOk}
use Rattle.std.proofs.lemmas.List.{drop-drop}
use Rattle.std.proofs.lemmas.List.Elements.{All-append, All-cons, All-head, All-nil, All-tail, All-take}
use Rattle.rp_base.specs.declared.value.Side.{Side}
use Rattle.rp_base.specs.declared.value.Value.{Value}
use Rattle.rp_frame.specs.Top.{top}
use Rattle.rp_meaning.specs.Binding.{Arguments}
use Rattle.rp_meaning.specs.Calls.{Argument, with_named, with_plain}
use Rattle.rp_meaning.specs.Frame.{Meaning}
use Rattle.rp_proxy.specs.declared.world.World.{World}
use Rattle.rp_store.specs.Heap.{Owned}
use Rattle.rp_store.specs.Kept.{AreFit, IsFit}
use Rattle.rp_access.specs.Moment.{state_of}
use Rattle.rp_engine.specs.ArgumentSteps.{named_in, with_all, with_all_named, word_at}
use Rattle.rp_engine.specs.HandSteps.{held_by, size_of}
use Rattle.rp_engine.specs.Law.{frame_in}
use Rattle.rp_engine.specs.Ready.{IsReady}
use Rattle.rp_engine.specs.Rest.{gave, rest}
use Rattle.rp_engine.specs.declared.calling.Hand.{Hand}
use Rattle.rp_engine.specs.declared.halt.Halt.{Halt}
use Rattle.rp_engine.specs.declared.machine.Machine.{Machine}
use Rattle.rp_engine.proofs.Moves.{on_ok}
use Rattle.rp_engine.proofs.Passing.{ready_forgot}
use Rattle.rp_expressions.specs.Arguments.{NamedCalls}
use Rattle.rp_expressions.proofs.Spreads.{Behind, Left, dropped_spread, fit_added, named_held, past, size_plain, taken_spread}

-- those with a name are fit
named_fit : (heap : List Owned) (side : Side) (vs : List Value) → AreFit heap side vs → All (λ n. IsFit heap side n.1) (named_in vs)
named_fit heap side [] fit = All-nil (λ (n : List ℕ × Value). IsFit heap side n.1)
named_fit heap side (v ∷ []) fit = All-nil (λ (n : List ℕ × Value). IsFit heap side n.1)
named_fit heap side (v ∷ word ∷ vs) fit =
    All-append (λ (n : List ℕ × Value). IsFit heap side n.1) (named_in vs) ((word_at word, v) ∷ [])
    (named_fit heap side vs (All-tail (IsFit heap side) word vs (All-tail (IsFit heap side) v (word ∷ vs) fit)))
    (All-cons (λ (n : List ℕ × Value). IsFit heap side n.1) (word_at word, v) [] (All-head (IsFit heap side) v (word ∷ vs) fit) (All-nil (λ (n : List ℕ × Value). IsFit heap side n.1)))

-- they are taken off, and stand again upon more values without a name
module _ (m p : Machine) (h : Hand) (dropped : p ≡ record m { values = drop (2 * h.named) m.values }) where
  pub put_behind : (named : List (List ℕ × Value)) (us zs : List Value) (q : Machine) → named ≡ (held_by h m.values).named → zs ≡ reverse us ++ p.values
      → q ≡ record p { values = with_all_named named zs } → q ≡ record m { values = with_all_named (held_by h m.values).named (reverse us ++ drop (2 * h.named) m.values) }
  put_behind named us zs q same added held =
      held
      ∙ ap (λ (vs : List Value). record p { values = with_all_named named vs }) (added ∙ ap (λ (z : Machine). reverse us ++ z.values) dropped)
      ∙ ap (λ (z : Machine). record z { values = with_all_named named (reverse us ++ drop (2 * h.named) m.values) }) dropped
      ∙ ap (λ (ns : List (List ℕ × Value)). record m { values = with_all_named ns (reverse us ++ drop (2 * h.named) m.values) }) same

  module _ (w : World) (ready : IsReady m.units.now m.frame m.values w) where
    pub taken_off : IsReady p.units.now p.frame p.values w
    taken_off = ready_forgot m p (2 * h.named) dropped w ready

    pub put_ready : (us zs : List Value) → zs ≡ reverse us ++ p.values → AreFit w.store.heap m.frame.side us → IsReady p.units.now p.frame zs w
    put_ready us zs added fit =
        subst (λ (vs : List Value). IsReady p.units.now p.frame vs w) (sym added)
        (fit_added p.units.now p.frame p.values us w (subst (λ (z : Machine). AreFit w.store.heap z.frame.side us) (sym dropped) fit) taken_off)

    pub names_fit : (named : List (List ℕ × Value)) → named ≡ (held_by h m.values).named → All (λ n. IsFit w.store.heap p.frame.side n.1) named
    names_fit named same =
        subst (λ (ns : List (List ℕ × Value)). All (λ n. IsFit w.store.heap p.frame.side n.1) ns) (sym same)
        (subst (λ (z : Machine). All (λ n. IsFit w.store.heap z.frame.side n.1) (held_by h m.values).named) (sym dropped)
        (named_fit w.store.heap m.frame.side (take (2 * h.named) m.values) (All-take (IsFit w.store.heap m.frame.side) (2 * h.named) m.values ready.fit)))

-- what is left to be done then
module _ (m n : Machine) (w v : World) (r : Result (Unit {0}) Halt) (as' : List Argument) (ts : List (Value → Meaning)) (h : Hand) (us : List Value) where
  abbrev ns : List (List ℕ × Value)
  ns = (held_by h m.values).named

  abbrev under : List Value
  under = drop (2 * h.named) m.values

  abbrev zs : List Value
  zs = reverse us ++ under

  -- no name is counted yet
  abbrev unnamed : Hand
  unnamed = record { plain = h.plain + length us; named = 0 }

  abbrev put : Machine
  put = record m { values = zs }

  abbrev pub Later : Type 0
  Later = Left m n v r (suc (size_of h)) (λ base. with_all as' ts (top (drop (size_of h) m.values)) (with_plain (held_by h m.values) us) (frame_in base m) (state_of w))

  callee_under : drop (size_of unnamed) zs ≡ drop (size_of h) m.values
  callee_under = ap (λ j. drop j zs) (size_plain (h.plain + length us)) ∙ dropped_spread us under h.plain ∙ drop-drop h.plain (2 * h.named) m.values

  rest_under : drop (suc (size_of unnamed)) zs ≡ drop (suc (size_of h)) m.values
  rest_under = past (size_of unnamed) zs ∙ ap (drop 1) callee_under ∙ sym (past (size_of h) m.values)

  arguments_behind : with_named (held_by unnamed zs) ns ≡ with_plain (held_by h m.values) us
  arguments_behind = ap (λ (ps : List Value). record { plain = ps; named = ns }) (taken_spread us under h.plain)

  later_named : Behind put n w v r as' ts unnamed ns → Later
  later_named law base =
      law base
      ∙ ap (λ (xs : List Value). rest m.tasks (gave (frame_in base m) xs (with_all as' ts (top (drop (size_of unnamed) zs)) (with_named (held_by unnamed zs) ns) (frame_in base m) (state_of w)))) rest_under
      ∙ ap (λ (xs : List Value). rest m.tasks (gave (frame_in base m) (drop (suc (size_of h)) m.values) (with_all as' ts (top xs) (with_named (held_by unnamed zs) ns) (frame_in base m) (state_of w)))) callee_under
      ∙ ap (λ (a : Arguments). rest m.tasks (gave (frame_in base m) (drop (suc (size_of h)) m.values) (with_all as' ts (top (drop (size_of h) m.values)) a (frame_in base m) (state_of w)))) arguments_behind

  pub later_held : (j : Hand) (z : Machine) → j.plain ≡ h.plain + length us → j.named ≡ length ns → z ≡ record m { values = with_all_named ns zs } → OnOk r (NamedCalls j as' ts z w n v) → OnOk r Later
  later_held j z plain named held law =
      on_ok r (Behind put n w v r as' ts unnamed ns) Later later_named
      (named_held put n w v r as' ts unnamed ns j.named z (named ∙ sym (zero-add (length ns))) held
      (subst (λ (k : ℕ). OnOk r (NamedCalls (record { plain = k; named = j.named }) as' ts z w n v)) plain law))
