-- A tree that is spelled, after its code blocks have been numbered.
use Rattle.std.proofs.Common.{◌≡◌, refl, sym, ap, ◌∙◌, subst, ℕ, ◌+◌, ◌<◌, ◌^◌, true, List, [], length, arith}
use Rattle.std.proofs.lemmas.Bool.{eqb-true}
use Rattle.rp_base.specs.declared.value.Name.{Name}
use Rattle.rp_tree.specs.declared.stmt.Tree.{Tree}
use Rattle.rp_tree.specs.Guarded.{Guarded}
use Rattle.rp_tree.specs.Maps.{named, names_by, no_blocks, without_blocks}
use Rattle.rp_tree.specs.Marks.{HasNoGuards, Rewrites, erase, no_marks}
use Rattle.rp_tree.specs.StatementTrees.{Stmts}
use Rattle.rp_tree.specs.StatementViews.{view_tree}
use Rattle.rp_tree.proofs.MapLaws.{stmts_after}
use Rattle.rp_tree.proofs.MarkLaws.{erased}
use Rattle.rp_grammar.specs.Kinds.{Tokens}
use Rattle.rp_grammar.specs.Leaves.{stmts_pass}
use Rattle.rp_grammar.specs.Program.{Spells}
use Rattle.rp_grammar.proofs.Kept.{stmts_kept}
use Rattle.rp_grammar.proofs.Unmarked.{all_fit, leaves_spelled, taken_off, unmarked}
use Rattle.rp_base.specs.Names.{word_of}
use Rattle.rp_program.specs.Leaves.{IsTreeHeld, below, unnumbered}
use Rattle.rp_program.specs.Program.{IsProgram}
use Rattle.rp_program.proofs.Leaves.{tree_unnumbered}
use Rattle.rp_policy.specs.Offences.{offences, offences_by}
use Rattle.rp_policy.proofs.Renamed.{offences-unnumbered}
use Rattle.rp_scope.specs.Numbers.{HasNumbers, block_count, block_numbers}
use Rattle.rp_scope.specs.NumberSteps.{renumbered}
use Rattle.rp_scope.specs.Scopes as found
use Rattle.rp_scope.specs.Scopes.{AreScopesOf, Scope}
use Rattle.rp_scope.proofs.Mapped.{guarded_has_numbers}
use Rattle.rp_scope.proofs.Runs.{length-renumbered, numbered_from}
use Rattle.rp_compile.specs.Compiled.{IsCompiled}
use Rattle.rp_compile.specs.Trusted.{IsTrusted}
use Rattle.rp_compile.proofs.Uncounted.{stmts_counted}

no_number : (k : ℕ) → unnumbered.block k ≡ true → 0 ≡ k
no_number k ok = sym (eqb-true k 0 ok)

-- the parser gives no code block a number
spelled_unnumbered : (x : Stmts Name) (ts : Tokens) → Spells x ts → without_blocks x ≡ x
spelled_unnumbered x ts spells =
    stmts_kept unnumbered no_blocks (λ n ok. refl) (λ k. refl) no_number (λ s g ok. refl) x (tree_unnumbered ts x (leaves_spelled x ts spells))

module _ (source result : Stmts Name) (ts : Tokens) (spells : Spells source ts) (kept : without_blocks result ≡ without_blocks source) where
  pub is_source : without_blocks result ≡ source
  is_source = kept ∙ spelled_unnumbered source ts spells

  pub spelled : Spells (without_blocks result) ts
  spelled = subst (λ (x : Stmts Name). Spells x ts) (sym is_source) spells

  unmarked_passes : stmts_pass unmarked result ≡ true
  unmarked_passes = sym (stmts_counted unmarked result) ∙ leaves_spelled (without_blocks result) ts spelled unmarked refl refl (all_fit ts)

  pub plain : HasNoGuards result
  plain = stmts_kept unmarked no_marks (λ n ok. refl) (λ k. refl) (λ b ok. refl) (λ s g ok. taken_off g ok) result unmarked_passes

  pub held : (words : List (List ℕ)) → IsTreeHeld words source → IsTreeHeld words result
  held words h = sym (stmts_counted (below (length words)) result) ∙ ap (stmts_pass (below (length words))) is_source ∙ h

  pub unoffending : (word : Name → List ℕ) → offences_by word source ≡ [] → offences_by word result ≡ []
  unoffending word h = sym (offences-unnumbered word result) ∙ ap (offences_by word) is_source ∙ h

  -- the same, where the names are words

  pub named_source : (word : Name → List ℕ) → without_blocks (named word result) ≡ named word source
  named_source word =
      stmts_after (names_by word) no_blocks result ∙ sym (stmts_after no_blocks (names_by word) result) ∙ ap (named word) is_source

  pub program : (bytes : List ℕ) (word : Name → List ℕ) → IsProgram bytes (named word source) → IsProgram bytes (without_blocks (named word result))
  program bytes word is = subst (IsProgram bytes) (sym (named_source word)) is

  pub lawful : (word : Name → List ℕ) → offences (named word source) ≡ [] → offences (named word result) ≡ []
  lawful word h = sym (offences-unnumbered (λ w. w) (named word result)) ∙ ap offences (named_source word) ∙ h

-- the tree with its guards, once they are taken off, differs from what was read in the numbers of code blocks alone
pub unguarded : (source result marked : Stmts Name) → without_blocks result ≡ without_blocks source → Rewrites result marked
    → without_blocks (erase marked) ≡ without_blocks source
unguarded source result marked kept rewrites = ap without_blocks rewrites.is_source ∙ kept

-- where 64 bits count the code blocks, they have their numbers
pub has_numbers : (source result : Stmts Name) → block_numbers result ≡ renumbered 1 (block_numbers source) → block_count result + 1 < 2 ^ 64 → HasNumbers result
has_numbers source result given few =
    let same : length (block_numbers result) ≡ length (block_numbers source) = ap length given ∙ length-renumbered 1 (block_numbers source) in
    numbered_from (block_numbers source) (block_numbers result) given (omega (arith, same, few))

-- what is kept of a script whose source has been numbered, laid out, and then given its guards
pub compiled : (words : List (List ℕ)) (read source marked : Tree) (layouts : List Scope) (ts : Tokens) → Spells (view_tree read) ts
    → without_blocks (view_tree source) ≡ without_blocks (view_tree read) → block_numbers (view_tree source) ≡ renumbered 1 (block_numbers (view_tree read))
    → offences_by (word_of words) (view_tree read) ≡ [] → Rewrites (view_tree source) (view_tree marked)
    → Guarded (view_tree marked) → block_count (view_tree source) + 1 < 2 ^ 64 → (HasNumbers (view_tree source) → AreScopesOf layouts [] (view_tree source))
    → layouts ≡ found.scopes [] (view_tree source) → IsCompiled (record { rewritten = marked; layouts = layouts })
compiled words read source marked layouts ts spells kept given lawful rewrites guarded few laid table =
    let result : Stmts Name = erase (view_tree marked) in
    let kept_off : without_blocks result ≡ without_blocks (view_tree read) = unguarded (view_tree read) (view_tree source) (view_tree marked) kept rewrites in
    let numbers : HasNumbers (view_tree source) = has_numbers (view_tree read) (view_tree source) given few in
    let source_numbers : HasNumbers result = subst (λ (x : Stmts Name). HasNumbers x) (sym rewrites.is_source) numbers in
    record {
      plain = erased (view_tree marked);
      tokens = ts;
      spells = spelled (view_tree read) result ts spells kept_off;
      words = words;
      lawful = unoffending (view_tree read) result ts spells kept_off (word_of words) lawful;
      rewrites = record { is_source = refl; has_marks = rewrites.has_marks };
      guarded = guarded;
      source_numbers = source_numbers;
      numbers = subst (λ (x : Stmts Name). HasNumbers x) rewrites.has_marks (guarded_has_numbers result source_numbers);
      scopes = subst (λ (x : Stmts Name). AreScopesOf layouts [] x) (sym rewrites.is_source) (laid numbers);
      table = table ∙ ap (λ (x : Stmts Name). found.scopes [] x) (sym rewrites.is_source);
    }

-- what is kept of a trusted module that has been numbered, then laid out
pub trusted : (read tree : Tree) (layouts : List Scope) (first : List Name) (ts : Tokens) → Spells (view_tree read) ts
    → without_blocks (view_tree tree) ≡ without_blocks (view_tree read) → block_numbers (view_tree tree) ≡ renumbered 1 (block_numbers (view_tree read))
    → block_count (view_tree tree) + 1 < 2 ^ 64 → (HasNumbers (view_tree tree) → AreScopesOf layouts first (view_tree tree))
    → layouts ≡ found.scopes first (view_tree tree) → IsTrusted (record { tree = tree; layouts = layouts })
trusted read tree layouts first ts spells kept given few laid table =
    let numbers : HasNumbers (view_tree tree) = has_numbers (view_tree read) (view_tree tree) given few in
    record {
      plain = plain (view_tree read) (view_tree tree) ts spells kept;
      tokens = ts;
      spells = spelled (view_tree read) (view_tree tree) ts spells kept;
      numbers = numbers;
      first = first;
      scopes = laid numbers;
      table = table;
    }
