-- Functions of a tree with other numbers, lines or guards have the same parameters and the same `global` names, and
-- room for as many (Python Language Reference, Function definitions).
use Rattle.std.proofs.Common.{◌≡◌, ◌≤◌, refl, sym, ap, subst, ◌∙◌, ℕ, suc, ◌+◌, List, [], ◌∷◌, ◌++◌, length, map}
use Rattle.std.proofs.Common.{Option, Some, None, option_map}
use Rattle.std.specs.List.{filter_map}
use Rattle.rp_base.specs.declared.value.Name.{Name}
use Rattle.rp_scope.specs.Bindings.{global_name, option_names, params_names, plain_names, stmts_mentions}
use Rattle.rp_scope.specs.declared.mentions.Mention.{Mention}
use Rattle.rp_scope.specs.declared.mentions.Mention.TheVariants.{Bound, Global, GlobalWithin}
use Rattle.rp_scope_laws.proofs.Renamed.{map_mention, stmts_mentioned}
use Rattle.rp_tree.specs.Expressions as tree
use Rattle.rp_tree.specs.Maps as maps
use Rattle.rp_tree.specs.Maps.{Change}
use Rattle.rp_tree.specs.Marks.{erase, no_marks}
use Rattle.rp_tree.specs.Statements.{Stmts}
use Rattle.rp_meaning.specs.Blocks.{Code, def, lambda, of_stmts}
use Rattle.rp_meaning.specs.Running.{params_of}
use Rattle.rp_meaning.specs.Scopes.{Layouts}
use Rattle.rp_apart_laws.specs.Apart.{Each}
use Rattle.rp_apart_laws.proofs.Lists.{each_map}
use Rattle.rp_fit_laws.specs.Programs.{AllDiffer, ParametersDiffer, count_of, plain_count, star_count}
use Rattle.rp_layout_laws.specs.Layout.{EachDiffers}
use Rattle.rp_layout_laws.proofs.Changed as changed
use Rattle.rp_layout_laws.proofs.Changed.{changed_code, changed_function}

-- what holds of each of some changed elements holds of the elements
each_back : {A B : Type 0} (f : A → B) (P : B → Type 0) (Q : A → Type 0) → ((x : A) → P (f x) → Q x) → (xs : List A)
    → Each P (map f xs) → Each Q xs
each_back f P Q back [] h = tt
each_back f P Q back (x ∷ xs) h = (back x h.0, each_back f P Q back xs h.1)

abbrev Differs : ℕ × Code → Type 0
Differs e = ParametersDiffer e.1

-- ---- names that stay

module _ (change : Change Name Name) (same : (n : Name) → change.name n ≡ n) where
  plain_same : (ps : tree.Plain) → plain_names (maps.map_plain change ps) ≡ plain_names ps
  plain_same tree.no_plain = refl
  plain_same (tree.plain n x ps) = let here = same n.name in let rest = plain_same ps in λ i. here i ∷ rest i

  option_same : (n : Option tree.Named) → option_names (option_map (maps.map_named change) n) ≡ option_names n
  option_same None = refl
  option_same (Some n) = let here = same n.name in λ i. here i ∷ []

  params_same : (ps : tree.Params) → params_names (maps.map_params change ps) ≡ params_names ps
  params_same (tree.params ps l d) =
      let a = plain_same ps in let b = option_same l in let c = option_same d in λ i. a i ++ b i ++ c i

  mention_same : (m : Mention Name) → map_mention change.name m ≡ m
  mention_same (Bound n) = let here = same n in λ i. Bound (here i)
  mention_same (Global n) = let here = same n in λ i. Global (here i)
  mention_same (GlobalWithin n) = let here = same n in λ i. GlobalWithin (here i)

  mentions_same : (ms : List (Mention Name)) → map (map_mention change.name) ms ≡ ms
  mentions_same [] = refl
  mentions_same (m ∷ ms) = let here = mention_same m in let rest = mentions_same ms in λ i. here i ∷ rest i

  stmts_same : (b : Stmts) → stmts_mentions (maps.map_stmts change b) ≡ stmts_mentions b
  stmts_same b = sym (stmts_mentioned change b) ∙ mentions_same (stmts_mentions b)

  -- the names of the `global` statements of a function
  listed_same : (b : Stmts) → filter_map global_name (stmts_mentions (maps.map_stmts change b))
      ≡ filter_map global_name (stmts_mentions b)
  listed_same b = ap (λ (ms : List (Mention Name)). filter_map global_name ms) (stmts_same b)

  differ_back : (code : Code) → ParametersDiffer (changed_code change code) → ParametersDiffer code
  differ_back (def ps b) d =
      subst (λ (ns : List Name). AllDiffer ns (filter_map global_name (stmts_mentions b))) (params_same ps)
      (subst (λ (gs : List Name). AllDiffer (params_names (maps.map_params change ps)) gs) (listed_same b) d)
  differ_back (lambda ps x) d = subst (λ (ns : List Name). AllDiffer ns []) (params_same ps) d

  differ_there : (code : Code) → ParametersDiffer code → ParametersDiffer (changed_code change code)
  differ_there (def ps b) d =
      subst (λ (gs : List Name). AllDiffer (params_names (maps.map_params change ps)) gs) (sym (listed_same b))
      (subst (λ (ns : List Name). AllDiffer ns (filter_map global_name (stmts_mentions b))) (sym (params_same ps)) d)
  differ_there (lambda ps x) d = subst (λ (ns : List Name). AllDiffer ns []) (sym (params_same ps)) d

  -- so parameters differ in a tree where they do in the changed one, and where they do in the tree, in that one

  pub each_differs_back : (body : Stmts) → EachDiffers (maps.map_stmts change body) → EachDiffers body
  each_differs_back body h =
      each_back (changed_function change) Differs Differs (λ e d. differ_back e.1 d) (of_stmts body)
      (subst (Each Differs) (sym (changed.of_stmts change body)) h)

  pub each_differs_there : (body : Stmts) → EachDiffers body → EachDiffers (maps.map_stmts change body)
  each_differs_there body h =
      subst (Each Differs) (changed.of_stmts change body)
      (each_map Differs Differs (changed_function change) (λ e d. differ_there e.1 d) (of_stmts body) h)

-- ---- room for the parameters

plain_as_many : (change : Change Name Name) (ps : tree.Plain) → plain_count (maps.map_plain change ps) ≡ plain_count ps
plain_as_many change tree.no_plain = refl
plain_as_many change (tree.plain n x ps) = ap suc (plain_as_many change ps)

star_as_many : (change : Change Name Name) (n : Option tree.Named)
    → star_count (option_map (maps.map_named change) n) ≡ star_count n
star_as_many change None = refl
star_as_many change (Some n) = refl

as_many : (change : Change Name Name) (ps : tree.Params) → count_of (maps.map_params change ps) ≡ count_of ps
as_many change (tree.params ps l d) =
    let a = plain_as_many change ps in let b = star_as_many change l in let c = star_as_many change d in
    λ i. a i + b i + c i

-- the block has a local name for each parameter of the function
abbrev HasRoom : Layouts → ℕ × Code → Type 0
HasRoom layouts e = count_of (params_of e.1) ≤ length (layouts.locals e.0)

room_back : (layouts : Layouts) (number : ℕ) (code : Code) → HasRoom layouts (number, changed_code no_marks code)
    → HasRoom layouts (number, code)
room_back layouts number (def ps b) h =
    subst (λ (n : ℕ). n ≤ length (layouts.locals number)) (as_many no_marks ps) h
room_back layouts number (lambda ps x) h =
    subst (λ (n : ℕ). n ≤ length (layouts.locals number)) (as_many no_marks ps) h

-- so a tree with guards has room where its source has
pub each_room_back : (layouts : Layouts) (body : Stmts) → Each (HasRoom layouts) (of_stmts (erase body))
    → Each (HasRoom layouts) (of_stmts body)
each_room_back layouts body h =
    each_back (changed_function no_marks) (HasRoom layouts) (HasRoom layouts) (λ e r. room_back layouts e.0 e.1 r)
    (of_stmts body) (subst (Each (HasRoom layouts)) (sym (changed.of_stmts no_marks body)) h)
