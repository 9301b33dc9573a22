-- How the trail is told.
use Rattle.std.proofs.Common.{◌≡◌, ◌+◌, ◌<◌, ◌≤◌, ℕ, suc, List, [], ◌∷◌, ◌++◌, length, get_or, map, drop, refl, sym, ap}
use Rattle.std.proofs.Common.{subst, ◌∙◌, ◌-◌, arith, append-nil, append_assoc, slice_get, Option, Some, None}
use Rattle.std.proofs.Common.{option_map}
use Rattle.std.proofs.lemmas.List.{drop_all, drop_more}
use Rattle.std.proofs.lemmas.Option.{slice_get-get_or, slice_get-map, slice_get_past}
use Rattle.std.proofs.Math.Numerals.{add-one}
use Rattle.std.specs.List.{All}
use Rattle.std.specs.Option.{option_map_or}
use Rattle.rp_trail.specs.Line.{line_of}
use Rattle.rp_trail.specs.View.{entry_view, trail_view}
use Rattle.rp_trail.specs.declared.entry.Entry.{Entry as PlacedEntry}
use Rattle.rp_run.specs.Output.{entry_lines, who_in}
use Rattle.rp_words.specs.Command.{Pair}
use Rattle.rp_words.specs.View.{pair_view}
use Rattle.rp_words.specs.declared.command.Pair.{Pair as PlacedPair}

-- what holds of all entries holds of one that is read
pub entry-held : (P : PlacedEntry → Type 0) (entries trail : List PlacedEntry) → entries ≡ trail → All P trail → (i : ℕ)
    (d : PlacedEntry) → i < length entries → P (get_or entries i d)
entry-held P entries trail same all i d inside =
    subst (λ (es : List PlacedEntry). All P es) (sym same) all i d inside

module _ (pairs : List Pair) (names permissions : List (List ℕ)) (entries trail : List PlacedEntry)
    (same : entries ≡ trail) (i : ℕ) where
  pub entry-turn : (d : PlacedEntry) (who line old new whole : List ℕ) → i < length entries
      → who ≡ who_in pairs (get_or entries i d).session
      → line ≡ line_of i who (entry_view names permissions (get_or entries i d)) → new ≡ old ++ line
      → old ++ entry_lines pairs i (trail_view names permissions (drop i trail)) ≡ whole
      → new ++ entry_lines pairs (i + 1) (trail_view names permissions (drop (i + 1) trail)) ≡ whole
  entry-turn d who line old new whole inside who_is line_is more before =
      let e : PlacedEntry = get_or entries i d in
      let here : drop i entries ≡ e ∷ drop (i + 1) entries = drop_more entries i d inside in
      let left : drop i trail ≡ e ∷ drop (i + 1) trail =
      ap (drop i) (sym same) ∙ here ∙ ap (λ (es : List PlacedEntry). e ∷ drop (i + 1) es) same in
      let rest = trail_view names permissions (drop (i + 1) trail) in
      let one : List ℕ = line_of i (who_in pairs e.session) (entry_view names permissions e) in
      let told : line ≡ one =
      line_is ∙ ap (λ (w : List ℕ). line_of i w (entry_view names permissions e)) who_is in
      ap (λ (n : ℕ). new ++ entry_lines pairs n rest) (add-one i)
      ∙ ap (λ (t : List ℕ). t ++ entry_lines pairs (suc i) rest) (more ∙ ap (λ (l : List ℕ). old ++ l) told)
      ∙ append_assoc old one (entry_lines pairs (suc i) rest)
      ∙ ap (λ (es : List PlacedEntry). old ++ entry_lines pairs i (trail_view names permissions es)) (sym left)
      ∙ before

  pub entry-end : (text whole : List ℕ) → length entries ≤ i
      → text ++ entry_lines pairs i (trail_view names permissions (drop i trail)) ≡ whole → text ≡ whole
  entry-end text whole past before =
      let many : length entries ≡ length trail = ap length same in
      let none : drop i trail ≡ [] = drop_all i trail (omega (arith, past, many)) in
      sym (append-nil text)
      ∙ ap (λ (es : List PlacedEntry). text ++ entry_lines pairs i (trail_view names permissions es)) (sym none)
      ∙ before

-- the principals of the session of a number

pub who-there : (pairs : List PlacedPair) (session : ℕ) (p : PlacedPair) → session - 1 < length pairs
    → p ≡ get_or pairs (session - 1) p → p.who ≡ who_in (map pair_view pairs) session
who-there pairs session p inside is =
    let here : slice_get (map pair_view pairs) (session - 1) ≡ Some (pair_view p) =
    slice_get-map pair_view pairs (session - 1)
    ∙ ap (option_map pair_view) (slice_get-get_or pairs (session - 1) p inside ∙ ap Some (sym is)) in
    sym (ap (λ (o : Option Pair). option_map_or (λ (q : Pair). q.who) o []) here)

pub who-past : (pairs : List PlacedPair) (session : ℕ) → length pairs ≤ session - 1
    → [] ≡ who_in (map pair_view pairs) session
who-past pairs session past =
    let none : slice_get (map pair_view pairs) (session - 1) ≡ None =
    slice_get-map pair_view pairs (session - 1) ∙ ap (option_map pair_view) (slice_get_past pairs (session - 1) past) in
    sym (ap (λ (o : Option Pair). option_map_or (λ (q : Pair). q.who) o []) none)
