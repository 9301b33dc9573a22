-- The laws that the scopes of a program are the same by text: places among words that hold each word once are the same where their words are.
use Rattle.std.proofs.Common.{◌≡◌, ℕ, zero, suc, Bool, true, false, cond, List, [], ◌∷◌, map, length, Some, nat_eq, refl, sym, ap, ◌∙◌, eq-eqb}
use Rattle.std.specs.List.{All}
use Rattle.std.specs.Map.{lookup}
use Rattle.std.specs.Option.{option_map_or}
use Rattle.std.proofs.lemmas.Bool.{eqb-true, true≢false}
use Rattle.std.proofs.lemmas.List.{length-map}
use Rattle.std.proofs.lemmas.List.Elements.{All-append, All-head, All-nil, All-tail, All-weaker}
use Rattle.std.proofs.lemmas.Option.{slice_get-get_or}
use Rattle.rp_base.proofs.CallerLemmas.{same_text-equal, same_text-refl}
use Rattle.rp_base.specs.Names.{HoldsEachOnce, word_of}
use Rattle.rp_base.specs.Same.{same_text}
use Rattle.rp_base.specs.declared.value.Name.{Name}
use Rattle.rp_decl.specs.Places.{IsHeld}
use Rattle.rp_tree.specs.StatementTrees.{Stmts}
use Rattle.rp_tree.specs.Maps.{named, names_by}
use Rattle.rp_scope.specs.Bindings.{mentioned_name, once, program_names, stmts_mentions}
use Rattle.rp_scope.specs.Blocks.{Nest, blocks}
use Rattle.rp_scope.specs.Numbers.{block_count, block_numbers}
use Rattle.rp_scope.specs.Places.{nest_locals, nest_of, place_from}
use Rattle.rp_scope.specs.Scopes.{same_name}
use Rattle.rp_scope.proofs.Mapped.{stmts_mapped}
use Rattle.rp_scope.proofs.TableLaws.{scopes_are}
use Rattle.rp_scope_laws.specs.ByText.{AreHeld, EachFindsItsNames, EachHasItsLocals, EachTableIsByText, IsBlockHeld, ScopesAreByText}
use Rattle.rp_scope_laws.proofs.Alike.{IsBlockOf, local_names_alike, map_block, once_alike, place_from_alike}
use Rattle.rp_scope_laws.proofs.Renamed.{blocks_named, program_named}

-- to compare the words of names is to compare the names
same_words : (words : List (List ℕ)) → HoldsEachOnce words → (a b : Name) → IsHeld words a → IsHeld words b → same_text (word_of words a) (word_of words b) ≡ same_name a b
same_words words once a b here there = by (same_name a b) refl (same_text (word_of words a) (word_of words b)) refl
  where
    by : (c : Bool) → same_name a b ≡ c → (s : Bool) → same_text (word_of words a) (word_of words b) ≡ s → s ≡ c
    by true e true t = refl
    by true e false t =
        let one : a.0 ≡ b.0 = eqb-true a.0 b.0 e in
        absurd (true≢false (sym (same_text-refl (word_of words a)) ∙ ap (λ (k : ℕ). same_text (word_of words a) (word_of words (record { 0 = k }))) one ∙ t))
    by false e false t = refl
    by false e true t =
        let equal : word_of words a ≡ word_of words b = same_text-equal _ _ t in
        let one : a.0 ≡ b.0 = once a.0 b.0 (word_of words a) (slice_get-get_or words a.0 [] here) (slice_get-get_or words b.0 [] there ∙ ap Some (sym equal)) in
        absurd (true≢false (sym (eq-eqb a.0 b.0 one) ∙ e))

-- the nest of a block, in blocks whose names are changed

nest_changed : {A B : Type 0} (f : A → B) (test : ℕ → Bool) (entries : List (ℕ × Nest A))
    → option_map_or (λ nest. nest) (lookup test (map (λ block. (block.0, map (map_block f) block.1)) entries)) []
    ≡ map (map_block f) (option_map_or (λ nest. nest) (lookup test entries) [])
nest_changed f test [] = refl
nest_changed f test (entry ∷ entries) = by (test entry.0) (nest_changed f test entries)
  where
    by : (c : Bool)
        → option_map_or (λ nest. nest) (lookup test (map (λ block. (block.0, map (map_block f) block.1)) entries)) [] ≡ map (map_block f) (option_map_or (λ nest. nest) (lookup test entries) [])
        → option_map_or (λ nest. nest) (cond c (Some (map (map_block f) entry.1)) (lookup test (map (λ block. (block.0, map (map_block f) block.1)) entries))) []
        ≡ map (map_block f) (option_map_or (λ nest. nest) (cond c (Some entry.1) (lookup test entries)) [])
    by true rest = refl
    by false rest = rest

nest_of_named : {A B : Type 0} (f : A → B) (program : Stmts A) (k : ℕ) → nest_of (named f program) k ≡ map (map_block f) (nest_of program k)
nest_of_named f program zero = refl
nest_of_named f program (suc n) =
    ap (λ entries. option_map_or (λ nest. nest) (lookup (nat_eq (suc n)) entries) []) (sym (blocks_named f program)) ∙ nest_changed f (nat_eq (suc n)) (blocks program)

module _ (words : List (List ℕ)) where
  nest_within : (test : ℕ → Bool) (entries : List (ℕ × Nest Name)) → All (λ block. All (IsBlockHeld words) block.1) entries
      → All (IsBlockHeld words) (option_map_or (λ nest. nest) (lookup test entries) [])
  nest_within test [] held = All-nil (IsBlockHeld words)
  nest_within test (entry ∷ entries) held =
      by (test entry.0) (All-head (λ block. All (IsBlockHeld words) block.1) entry entries held)
      (nest_within test entries (All-tail (λ block. All (IsBlockHeld words) block.1) entry entries held))
    where
      by : (c : Bool) → All (IsBlockHeld words) entry.1 → All (IsBlockHeld words) (option_map_or (λ nest. nest) (lookup test entries) [])
          → All (IsBlockHeld words) (option_map_or (λ nest. nest) (cond c (Some entry.1) (lookup test entries)) [])
      by true here rest = here
      by false here rest = rest

  nest_held : (first : List Name) (program : Stmts Name) → AreHeld words first program → (k : ℕ) → All (IsBlockOf (IsHeld words)) (nest_of program k)
  nest_held first program held zero = All-nil (IsBlockOf (IsHeld words))
  nest_held first program held (suc n) =
      All-weaker (IsBlockHeld words) (IsBlockOf (IsHeld words)) (λ b h. (h.names_held, h.globals_held)) (option_map_or (λ nest. nest) (lookup (nat_eq (suc n)) (blocks program)) [])
      (nest_within (nat_eq (suc n)) (blocks program) held.within)

  nest_locals_named : HoldsEachOnce words → (first : List Name) (program : Stmts Name) → AreHeld words first program → (nest : Nest Name) → All (IsBlockOf (IsHeld words)) nest
      → nest_locals same_text (map (word_of words) first) (named (word_of words) program) (map (map_block (word_of words)) nest)
      ≡ map (word_of words) (nest_locals same_name first program nest)
  nest_locals_named each first program held [] inside =
      ap (once same_text) (sym (program_named (names_by (word_of words)) first program))
      ∙ once_alike (word_of words) same_name same_text (IsHeld words) (same_words words each) (program_names first program)
      (All-append (IsHeld words) first (map mentioned_name (stmts_mentions program)) held.first_held held.mentioned)
  nest_locals_named each first program held (b ∷ around) inside =
      local_names_alike (word_of words) same_name same_text (IsHeld words) (same_words words each) b (All-head (IsBlockOf (IsHeld words)) b around inside)

pub each-has_its_locals : EachHasItsLocals
each-has_its_locals words first program each held block =
    ap (nest_locals same_text (map (word_of words) first) (named (word_of words) program)) (nest_of_named (word_of words) program block)
    ∙ nest_locals_named words each first program held (nest_of program block) (nest_held words first program held block)

pub each-finds_its_names : EachFindsItsNames
each-finds_its_names words first program each held block name here =
    ap (λ nest. place_from same_text zero nest (word_of words name)) (nest_of_named (word_of words) program block)
    ∙ place_from_alike (word_of words) same_name same_text (IsHeld words) (same_words words each) zero (nest_of program block) name here (nest_held words first program held block)

-- other names leave the number of code blocks
count_named : {A B : Type 0} (f : A → B) (program : Stmts A) → block_count (named f program) ≡ block_count program
count_named f program = ap length (sym (stmts_mapped (names_by f) program)) ∙ length-map (block_numbers program) (λ k. k)

pub each-table_is_by_text : EachTableIsByText
each-table_is_by_text words table first program each held are = record {
  blocks = are.blocks ∙ ap suc (sym (count_named (word_of words) program));
  local_names = λ k lt. ap (map (word_of words)) (are.local_names k lt) ∙ sym (each-has_its_locals words first program each held k);
  places = λ k name lt here. are.places k name lt ∙ sym (each-finds_its_names words first program each held k name here);
}

pub scopes-are_by_text : ScopesAreByText
scopes-are_by_text words first program each held numbers = each-table_is_by_text words _ first program each held (scopes_are first program numbers)
