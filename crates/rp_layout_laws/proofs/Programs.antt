-- Programs are laid out whatever names their words have, where each of their words has one.
use Rattle.std.proofs.Common.{◌≡◌, ◌<◌, refl, sym, ap, subst, ◌∙◌, ℕ, zero, suc, ◌+◌, Bool, true}
use Rattle.std.proofs.Common.{◌&&◌, List, [], ◌∷◌, ◌++◌, length, map, nat_lt, Option}
use Rattle.std.proofs.Common.{Some, slice_get, arith}
use Rattle.std.specs.Prelude.{unwrap_or}
use Rattle.std.specs.List.{All, position_or_len}
use Rattle.std.proofs.lemmas.Bool.{and_parts, lt-ltb, ltb-true}
use Rattle.std.proofs.lemmas.Option.{get_or_from_slice_get}
use Rattle.rp_base.specs.Names.{is_held, word_of}
use Rattle.rp_base.specs.Same.{same_text}
use Rattle.rp_base.specs.declared.value.Name.{Name}
use Rattle.rp_grammar.specs.Kinds.{Tokens}
use Rattle.rp_grammar.specs.Leaves.{kind_passes, tokens_pass}
use Rattle.rp_grammar.proofs.Renamed.{IsInjective, renamed_stmts, renamed_tokens}
use Rattle.rp_meaning.specs.BuiltIn.{name_of}
use Rattle.rp_program.specs.Program.{HasItems, IsProgram}
use Rattle.rp_program.specs.ProgramWords.{item_words, program_words}
use Rattle.rp_program.proofs.Numbered.{injective, number, renumbered}
use Rattle.rp_program.proofs.Renaming.{spells_there}
use Rattle.rp_token.specs.Form.{Item}
use Rattle.rp_token.specs.NameWords.{name_words, word_in, words_of}
use Rattle.rp_token.specs.View.{IsHeld, IsHeldKind, form_view, item_view}
use Rattle.rp_token.specs.declared.token.TokenKind.{TokenKind}
use Rattle.rp_token.specs.declared.token.TokenKind.TheVariants as kind
use Rattle.rp_tree.specs.Maps.{named, names_by, no_blocks, without_blocks}
use Rattle.rp_tree.specs.StatementTrees.{Stmts as TextStmts}
use Rattle.rp_tree.proofs.MapLaws.{stmts_after}
use Rattle.rp_fit_laws.proofs.Rooms.{each_scoped_is_laid_out}
use Rattle.rp_keeper_laws.proofs.Trees.{each_left, each_right}
use Rattle.rp_layout_laws.specs.Layout.{AreHeld, EachDiffers, EachProgramIsLaidOut, Holds}
use Rattle.rp_layout_laws.proofs.Agreeing.{changed_alike, names_test}
use Rattle.rp_layout_laws.proofs.Numbered.{each_differs_back, each_differs_there}
use Rattle.rp_layout_laws.proofs.Places.{place_held}
use Rattle.rp_layout_laws.proofs.Statements.{each_spelled_differs}

module _ (names words : List (List ℕ)) where
  -- the name of a name's word, among other names
  abbrev there : Name → Name
  there n = name_of names (word_of words n)

  -- a name that stands for a word, which has a name
  abbrev is_known : Name → Bool
  is_known n = nat_lt n.0 (length words) && is_held names (word_of words n)

  within_some : (ws : List (List ℕ)) (i : ℕ) → i < length ws → (w : List ℕ) × (slice_get ws i ≡ Some w)
  within_some [] i low = absurd (omega (arith, low))
  within_some (w ∷ ws) zero low = (w, refl)
  within_some (w ∷ ws) (suc i) low = within_some ws i (omega (arith, low))

  same_place : (n : Name) (w : List ℕ) → slice_get words n.0 ≡ Some w → is_held names w ≡ true
      → position_or_len (same_text w) names ≡ number names n.0 (slice_get words n.0)
  same_place n w found held =
      let place = place_held names w held in
      place.2 ∙ sym (ap (number names n.0) found ∙ ap (λ (o : Option ℕ). unwrap_or o (length names + n.0)) place.1)

  -- there it is found as another function finds it, under which different names stay different
  known_alike : (n : Name) → is_known n ≡ true → there n ≡ renumbered words names n
  known_alike n known =
      let parts = and_parts (nat_lt n.0 (length words)) (is_held names (word_of words n)) known in
      let found = within_some words n.0 (ltb-true n.0 (length words) parts.0) in
      let word : word_of words n ≡ found.0 = get_or_from_slice_get words n.0 found.0 [] found.1 in
      let same = same_place n found.0 found.1 (sym (ap (is_held names) word) ∙ parts.1) in
      ap (name_of names) word ∙ (λ i. record { 0 = same i })

  -- ---- tokens whose words are held

  known_kind : (k : TokenKind) → IsHeldKind words k → AreHeld names (word_in (form_view words k))
      → kind_passes (names_test is_known) k ≡ true
  known_kind (kind.Name n) low held = rw (lt-ltb n.0 (length words) low, held.0) refl
  known_kind (kind.Int z) low held = refl
  known_kind _ low held = refl

  known_tokens : (ts : Tokens) → All (IsHeld words) ts → AreHeld names (name_words (map (item_view words) ts))
      → tokens_pass (names_test is_known) ts ≡ true
  known_tokens [] low held = refl
  known_tokens (t ∷ ts) low held =
      let first = word_in (form_view words t.kind) in
      let others = name_words (map (item_view words) ts) in
      let here = each_left (Holds names) first others held in
      let rest = each_right (Holds names) first others held in
      rw (
        known_kind t.kind (low 0 t (omega arith)) here,
        known_tokens ts (λ k d within. low (suc k) d (omega arith)) rest,
      ) refl

-- the words of the items of a program are among its words
items_held : (names : List (List ℕ)) (bytes : List ℕ) (items : List Item) → HasItems bytes items
    → AreHeld names (program_words bytes) → AreHeld names (name_words items)
items_held names bytes items has held =
    let words : program_words bytes ≡ name_words has.given ++ name_words items =
    ap item_words has.read ∙ ap (λ r. name_words has.given ++ words_of r) has.expansion in
    each_right (Holds names) (name_words has.given) (name_words items) (subst (AreHeld names) words held)

-- ---- programs

-- the parameters of each function differ by these names too
named_differs : (names : List (List ℕ)) (bytes : List ℕ) (tree : TextStmts (List ℕ)) → IsProgram bytes tree
    → AreHeld names (program_words bytes) → EachDiffers (named (name_of names) tree)
named_differs names bytes tree is held =
    let spell = is.spell in
    let known = known_tokens names spell.words spell.tokens spell.has.held
    (subst (λ (items : List Item). AreHeld names (name_words items)) spell.has.are
    (items_held names bytes is.items is.has held)) in
    let apart : IsInjective (renumbered spell.words names) = injective spell.words names spell.has.distinct in
    let same : named (name_of names) tree ≡ renamed_stmts (renumbered spell.words names) spell.numbered =
    ap (named (name_of names)) spell.is
    ∙ stmts_after (names_by (word_of spell.words)) (names_by (name_of names)) spell.numbered
    ∙ changed_alike (is_known names spell.words) (there names spell.words) (renumbered spell.words names)
    (known_alike names spell.words) spell.numbered spell.tokens spell.spells known in
    subst EachDiffers (sym same)
    (each_spelled_differs (renamed_stmts (renumbered spell.words names) spell.numbered)
    (renamed_tokens (renumbered spell.words names) spell.tokens)
    (spells_there (renumbered spell.words names) apart spell.numbered spell.tokens spell.spells))

pub each_program_is_laid_out : EachProgramIsLaidOut
each_program_is_laid_out names bytes tree is held first script numbered layouts same =
    let differs : EachDiffers (without_blocks (named (name_of names) tree)) =
    each_differs_there no_blocks (λ n. refl) (named (name_of names) tree) (named_differs names bytes tree is held) in
    each_scoped_is_laid_out first script layouts numbered.has_numbers same
    (each_differs_back no_blocks (λ n. refl) script (subst EachDiffers (sym numbered.is_source) differs))
