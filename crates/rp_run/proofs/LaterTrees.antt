-- Scripts that were read into names which have grown since.
use Rattle.std.proofs.Common.{◌≡◌, ◌≤◌, ◌<◌, ℕ, Bool, true, false, List, [], ◌∷◌, length, get_or, map, nat_lt}
use Rattle.std.proofs.Common.{if◌then◌else◌, refl, ap, sym, subst, ◌∙◌, arith, ⊎_elim}
use Rattle.std.specs.List.{All}
use Rattle.std.proofs.lemmas.Bool.{cases_Bool, lt-ltb, ltb-false, ltb-true}
use Rattle.std.proofs.lemmas.List.{get_or_past, length-append}
use Rattle.rp_base.specs.Names.{word_of}
use Rattle.rp_base.specs.declared.value.Name.{Name}
use Rattle.rp_compile.specs.Compiled.{Compilation, source_tree}
use Rattle.rp_decl.specs.Places.{GrowsTo}
use Rattle.rp_session.specs.Played.{source_text}
use Rattle.rp_grammar.proofs.Kept.{stmts_kept}
use Rattle.rp_program.specs.Leaves.{IsTreeHeld, below}
use Rattle.rp_proxy.proofs.LaterRecords.{map-agree, name-later}
use Rattle.rp_tree.specs.Maps.{named, names_by, without_blocks}
use Rattle.rp_tree.specs.StatementTrees.{Stmts}
use Rattle.rp_tree.proofs.MapLaws.{stmts_after}
use Rattle.rp_run.proofs.Passing.{stmts_more}

-- a name of these many, or else one beyond all
abbrev within : ℕ → ℕ → Name → Name
within few many x = if nat_lt x.0 few then x else record { 0 = many }

within_keeps : (few many : ℕ) (x : Name) → nat_lt x.0 few ≡ true → within few many x ≡ x
within_keeps few many x low = ap (λ (b : Bool). if b then x else record { 0 = many }) low

module _ (names later : List (List ℕ)) (grown : GrowsTo names later) where
  longer : length names ≤ length later
  longer =
      let (more, is) = grown in
      let sum = ap length is ∙ length-append names more in
      omega (arith, sum)

  abbrev here : Name → Name
  here = within (length names) (length later)

  same_word : (x : Name) → word_of later (here x) ≡ word_of names (here x)
  same_word x = ⊎_elim (λ low. inside low) (λ high. outside high) (cases_Bool (nat_lt x.0 (length names))) where
    inside : nat_lt x.0 (length names) ≡ true → word_of later (here x) ≡ word_of names (here x)
    inside low =
        let kept = within_keeps (length names) (length later) x low in
        ap (word_of later) kept ∙ name-later names later grown x (ltb-true x.0 (length names) low)
        ∙ sym (ap (word_of names) kept)

    outside : nat_lt x.0 (length names) ≡ false → word_of later (here x) ≡ word_of names (here x)
    outside high =
        let beyond : here x ≡ record { 0 = length later } =
        ap (λ (b : Bool). if b then x else record { 0 = length later }) high in
        ap (word_of later) beyond ∙ get_or_past later (length later) [] (omega arith)
        ∙ sym (ap (word_of names) beyond ∙ get_or_past names (length later) [] longer)

  kept : (tree : Stmts Name) → IsTreeHeld names tree → named here tree ≡ tree
  kept tree held = stmts_kept (below (length names)) (names_by here) (λ x low.
      within_keeps (length names) (length later) x low) (λ k. refl) (λ b ok. refl) (λ s g ok. refl) tree held

  pub tree-later : (tree : Stmts Name) → IsTreeHeld names tree → named (word_of later) tree ≡ named (word_of names) tree
  tree-later tree held =
      ap (named (word_of later)) (sym (kept tree held)) ∙ stmts_after (names_by here) (names_by (word_of later)) tree
      ∙ ap (λ (word : Name → List ℕ). named word tree) (λ i x. same_word x i)
      ∙ sym (stmts_after (names_by here) (names_by (word_of names)) tree) ∙ ap (named (word_of names)) (kept tree held)

  pub held-later : (tree : Stmts Name) → IsTreeHeld names tree → IsTreeHeld later tree
  held-later tree held =
      stmts_more (below (length names)) (below (length later))
      (λ x low. lt-ltb x.0 (length later) (let few = ltb-true x.0 (length names) low in let more = longer in
      omega (arith, few, more)))
      (λ z ok. refl) (λ b ok. refl) (λ g ok. refl) tree held

  -- some trees

  abbrev AreHeld : List (List ℕ) → List Compilation → Type 0
  AreHeld words trees = All (λ (t : Compilation). IsTreeHeld words (source_tree t)) trees

  pub trees-later : (trees : List Compilation) → AreHeld names trees
      → map (source_text later) trees ≡ map (source_text names) trees
  trees-later trees held =
      map-agree (source_text later) (source_text names) (λ (t : Compilation). IsTreeHeld names (source_tree t)) trees
      (λ t here. ap without_blocks (tree-later (source_tree t) here)) held

  pub trees-held-later : (trees : List Compilation) → AreHeld names trees → AreHeld later trees
  trees-held-later trees held = λ i d inside. held-later (source_tree (get_or trees i d)) (held i d inside)
