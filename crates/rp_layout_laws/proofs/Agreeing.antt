-- Two functions on names that agree on those of a tree change it alike.
use Rattle.std.proofs.Common.{◌≡◌, ◌⊎◌, inl, inr, ⊎_elim, refl, sym, ap, ◌∙◌, true≢false, Bool, true, false}
use Rattle.std.proofs.Common.{◌&&◌, if◌then◌else◌, [], ◌∷◌}
use Rattle.std.proofs.lemmas.Bool.{and_parts}
use Rattle.rp_base.specs.declared.value.Name.{Name}
use Rattle.rp_grammar.specs.Kinds.{Tokens}
use Rattle.rp_grammar.specs.Leaves.{LeafTest, kind_passes, stmts_pass, tokens_pass}
use Rattle.rp_grammar.specs.Program.{Spells}
use Rattle.rp_grammar.proofs.Kept.{stmts_kept}
use Rattle.rp_grammar.proofs.LeavesOfStatements.{tree_passes}
use Rattle.rp_token.specs.declared.token.TokenKind.{TokenKind}
use Rattle.rp_token.specs.declared.token.TokenKind.TheVariants as kind
use Rattle.rp_tree.specs.Maps.{named, names_by}
use Rattle.rp_tree.specs.Statements.{Stmts}
use Rattle.rp_tree.proofs.MapLaws.{stmts_after}

-- a test of names alone
abbrev pub names_test : (Name → Bool) → LeafTest Name
names_test p = record { name = p; number = λ z. true; block = λ k. true; mark = λ g. true }

-- no name passes
abbrev no_names : LeafTest Name
no_names = names_test (λ n. false)

module _ (p : Name → Bool) where
  abbrev Passing : Type 0
  Passing = (n : Name) × (p n ≡ true)

  -- a name that passes, or no names at all

  name_in_kind : (k : TokenKind) → kind_passes (names_test p) k ≡ true → Passing ⊎ (kind_passes no_names k ≡ true)
  name_in_kind (kind.Name n) ok = inl (n, ok)
  name_in_kind (kind.Int z) ok = inr refl
  name_in_kind _ ok = inr refl

  name_in : (ts : Tokens) → tokens_pass (names_test p) ts ≡ true → Passing ⊎ (tokens_pass no_names ts ≡ true)
  name_in [] ok = inr refl
  name_in (t ∷ ts) ok =
      let parts = and_parts (kind_passes (names_test p) t.kind) (tokens_pass (names_test p) ts) ok in
      ⊎_elim (λ found. inl found) (λ here. ⊎_elim (λ found. inl found) (λ rest. inr (both here rest))
      (name_in ts parts.1)) (name_in_kind t.kind parts.0)
    where
      both : {a b : Bool} → a ≡ true → b ≡ true → (a && b) ≡ true
      both h k = rw (h, k) refl

  module _ (f g : Name → Name) (agree : (n : Name) → p n ≡ true → f n ≡ g n) (tree : Stmts) where
    -- another name that passes stands for those that do not
    module _ (other : Passing) where
      abbrev held : Name → Name
      held n = if p n then n else other.0

      same : (n : Name) → f (held n) ≡ g (held n)
      same n = by (p n) refl where
        by : (b : Bool) → p n ≡ b → f (if b then n else other.0) ≡ g (if b then n else other.0)
        by true here = agree n here
        by false here = agree other.0 other.1

      kept : stmts_pass (names_test p) tree ≡ true → named held tree ≡ tree
      kept ok = stmts_kept (names_test p) (names_by held)
          (λ n here. ap (λ (b : Bool). if b then n else other.0) here) (λ k. refl) (λ b here. refl)
          (λ s m here. refl) tree ok

      with_other : stmts_pass (names_test p) tree ≡ true → named f tree ≡ named g tree
      with_other ok =
          ap (named f) (sym (kept ok)) ∙ stmts_after (names_by held) (names_by f) tree
          ∙ (λ i. named (λ n. same n i) tree)
          ∙ sym (stmts_after (names_by held) (names_by g) tree) ∙ ap (named g) (kept ok)

    none_changed : stmts_pass no_names tree ≡ true → (h : Name → Name) → named h tree ≡ tree
    none_changed ok h = stmts_kept no_names (names_by h) (λ n here. absurd (true≢false (sym here))) (λ k. refl)
        (λ b here. refl) (λ s m here. refl) tree ok

    pub changed_alike : (tokens : Tokens) → Spells tree tokens → tokens_pass (names_test p) tokens ≡ true
        → named f tree ≡ named g tree
    changed_alike tokens spells ok =
        ⊎_elim (λ other. with_other other (tree_passes (names_test p) refl refl tree tokens spells ok))
        (λ none. let passes = tree_passes no_names refl refl tree tokens spells none in
        none_changed passes f ∙ sym (none_changed passes g)) (name_in tokens ok)
