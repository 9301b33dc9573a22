-- The scripts of a run, compiled one after another.
use Rattle.std.proofs.Common.{◌≡◌, ◌≢◌, ◌+◌, ◌<◌, ◌≤◌, ℕ, suc, List, [], ◌∷◌, ◌++◌, length, get_or, map, drop, refl}
use Rattle.std.proofs.Common.{sym, ap, subst, ◌∙◌, arith, append-nil, append_assoc, Vec, Global, Result, Ok, Err, OnOk}
use Rattle.std.specs.List.{All, flat_map}
use Rattle.std.proofs.lemmas.List.{drop_all, drop_more, get_or-map, length-map, map-append}
use Rattle.std.proofs.lemmas.List.Elements.{All-nil, All-push}
use Rattle.std.proofs.Math.Numerals.{add-one}
use Rattle.rp_compile.specs.Compiled.{Compilation, source_tree}
use Rattle.rp_session.specs.Played.{source_text}
use Rattle.rp_decl.proofs.Growth.{GrowsTo-trans}
use Rattle.rp_decl.specs.Places.{GrowsTo}
use Rattle.rp_policy.specs.Offences.{offences, offence_text}
use Rattle.rp_policy.specs.declared.offence.Offence.{Offence}
use Rattle.rp_program.specs.Leaves.{IsTreeHeld}
use Rattle.rp_run.specs.Refusals.{RefusesScripts}
use Rattle.rp_run.specs.Steps as step
use Rattle.rp_run.specs.Steps.{Adds}
use Rattle.rp_run.specs.Told as told
use Rattle.rp_run.specs.Told.{Compiles, ToldRefused, names_behind, script_prefix}
use Rattle.rp_run.specs.declared.answer.Answer.{Answer}
use Rattle.rp_base.specs.declared.memory.Memory.{Memory as MemoryFault}
use Rattle.rp_run.proofs.Asked.{told_refused}
use Rattle.rp_run.proofs.LaterTrees.{trees-held-later, trees-later}
use Rattle.rp_script.specs.Refusal.{IsRefused, line, refusal_lines}
use Rattle.rp_script.specs.declared.refusal.Refusal.{Refusal}
use Rattle.rp_script.specs.declared.refusal.Refusal.TheVariants as refusal
use Rattle.rp_tree.specs.StatementTrees.{Stmts}

-- ---- what is said of a refused script is not empty

some_line : (prefix text : List ℕ) → line prefix text ≢ []
some_line [] [] e = absurd (cc)
some_line [] (c ∷ cs) e = absurd (cc)
some_line (c ∷ cs) text e = absurd (cc)

front_some : (xs ys : List ℕ) → xs ≢ [] → xs ++ ys ≢ []
front_some [] ys some e = some refl
front_some (x ∷ xs) ys some e = absurd (cc)

pub back_some : (xs ys : List ℕ) → ys ≢ [] → xs ++ ys ≢ []
back_some [] ys some e = some e
back_some (x ∷ xs) ys some e = absurd (cc)

pub refused_some : (prefix bytes text : List ℕ) → ToldRefused prefix bytes text → text ≢ []
refused_some prefix bytes text (told.ToldRefused.no_program fault is said) e = some_line prefix _ (sym said ∙ e)
refused_some prefix bytes text (told.ToldRefused.offends tree is some said) e = of (offences tree) some (sym said
    ∙ e) where
      of : (os : List (Offence (List ℕ))) → os ≢ [] → flat_map (λ o. line prefix (offence_text o)) os ≡ [] → ⊥
      of [] some e = some refl
      of (o ∷ os) some e = front_some (line prefix (offence_text o)) _ (some_line prefix (offence_text o)) e

-- what is said of a script that is refused
pub adds_lines : (number : ℕ) (bytes : List ℕ) (old_names names : List (List ℕ)) (trees : List Compilation)
    (said more_said : List ℕ) (r : Refusal) (result : Result (Unit {0}) MemoryFault)
    → (r ≢ refusal.Memory → IsRefused names bytes r) → OnOk result (r ≢ refusal.Memory)
    → OnOk result (more_said ≡ said ++ refusal_lines names (script_prefix number) r)
    → OnOk result (Adds number bytes old_names names trees trees said more_said)
adds_lines number bytes old_names names trees said more_said r (Ok x) refused other said_is =
    step.Adds.lines _ (told_refused (script_prefix number) bytes _ names r (refused other) refl) refl said_is
adds_lines number bytes old_names names trees said more_said r (Err e) refused other said_is = tt

-- where none is refused, there is a tree for each
pub as-many : (k : ℕ) (scripts : List (List ℕ)) (trees : List (Stmts (List ℕ))) (said : List ℕ)
    → Compiles k scripts trees said → said ≡ [] → length trees ≡ length scripts
as-many k [] trees said told.Compiles.no_more none = refl
as-many k (bytes ∷ scripts) (tree ∷ trees) said (told.Compiles.accepted is more) none =
    ap suc (as-many (suc k) scripts trees said more none)
as-many k (bytes ∷ scripts) trees said (told.Compiles.refused {text = text} {said = rest} is more) none =
    absurd (front_some text rest (refused_some (script_prefix k) bytes text is) none)

-- ---- one script more

-- what is left of the scripts, behind what came of those before them, is what comes of all
pub record Goes (scripts first : List (List ℕ)) (i : ℕ) (names : List (List ℕ)) (trees : List Compilation)
    (said : List ℕ) : Type 0 where
  pub rest : (more : List (Stmts (List ℕ))) (behind : List ℕ) → Compiles (i + 1) (drop i scripts) more behind
      → Compiles 1 scripts (map (source_text names) trees ++ more) (said ++ behind)
  pub held : All (λ (t : Compilation). IsTreeHeld names (source_tree t)) trees
  pub words : said ≡ [] → names_behind names (drop i scripts) ≡ names_behind first scripts
  pub grown : GrowsTo first names

pub goes-start : (scripts names : List (List ℕ)) → Goes scripts names 0 names [] []
goes-start scripts names = record {
  rest = λ more behind c. c;
  held = All-nil (λ (t : Compilation). IsTreeHeld names (source_tree t));
  words = λ e. refl;
  grown = ([], sym (append-nil names));
}

module _ (scripts first : List (List ℕ)) (i : ℕ) (names later : List (List ℕ)) (trees more_trees : List Compilation)
    (said more_said : List ℕ) (bytes : List ℕ) where
  -- the script at the place, and those behind it
  behind-it : (inside : i < length scripts) → bytes ≡ get_or scripts i bytes
      → drop i scripts ≡ bytes ∷ drop (i + 1) scripts
  behind-it inside is = drop_more scripts i bytes inside ∙ ap (λ (b : List ℕ). b ∷ drop (i + 1) scripts) (sym is)

  all_held : (t : Compilation) → GrowsTo names later → Goes scripts first i names trees said
      → IsTreeHeld later (source_tree t) → more_trees ≡ trees ++ t ∷ []
      → All (λ (t : Compilation). IsTreeHeld later (source_tree t)) more_trees
  all_held t grown goes held is =
      subst (λ (ts : List Compilation). All (λ (t : Compilation). IsTreeHeld later (source_tree t)) ts) (sym is)
      (All-push (λ (t : Compilation). IsTreeHeld later (source_tree t)) trees t
      (trees-held-later names later grown trees goes.held) held)

  all_trees : (t : Compilation) (more : List (Stmts (List ℕ))) → GrowsTo names later
      → Goes scripts first i names trees said → more_trees ≡ trees ++ t ∷ []
      → map (source_text names) trees ++ source_text later t ∷ more ≡ map (source_text later) more_trees ++ more
  all_trees t more grown goes is =
      ap (λ (ts : List (Stmts (List ℕ))). ts
      ++ source_text later t ∷ more) (sym (trees-later names later grown trees goes.held))
      ∙ sym (append_assoc (map (source_text later) trees) (source_text later t ∷ []) more)
      ∙ ap (λ (ts : List (Stmts (List ℕ))). ts ++ more) (sym (map-append (source_text later) trees (t ∷ [])))
      ∙ ap (λ (ts : List Compilation). map (source_text later) ts ++ more) (sym is)

  pub goes-more : i < length scripts → bytes ≡ get_or scripts i bytes → Goes scripts first i names trees said
      → Adds (i + 1) bytes names later trees more_trees said more_said → GrowsTo names later
      → Goes scripts first (i + 1) later more_trees more_said
  goes-more inside is goes (step.Adds.script t accepted held words more_is said_is) grown = record {
    rest = λ more behind c.
        let next : Compiles (suc (i + 1)) (drop (i + 1) scripts) more behind =
        subst (λ (k : ℕ). Compiles k (drop (i + 1) scripts) more behind) (add-one (i + 1)) c in
        let here : Compiles (i + 1) (bytes ∷ drop (i + 1) scripts) (source_text later t ∷ more) behind =
        told.Compiles.accepted accepted next in
        let all = goes.rest (source_text later t ∷ more) behind
        (subst (λ (xs : List (List ℕ)). Compiles (i + 1) xs (source_text later t ∷ more) behind)
        (sym (behind-it inside is)) here) in
        subst (λ (text : List ℕ). Compiles 1 scripts (map (source_text later) more_trees ++ more) (text ++ behind))
        (sym said_is)
        (subst (λ (ts : List (Stmts (List ℕ))). Compiles 1 scripts ts (said ++ behind))
        (all_trees t more grown goes more_is) all);
    held = all_held t grown goes held more_is;
    words = λ none.
        ap (λ (ns : List (List ℕ)). names_behind ns (drop (i + 1) scripts)) words
        ∙ ap (names_behind names) (sym (behind-it inside is)) ∙ goes.words (sym said_is ∙ none);
    grown = GrowsTo-trans first names later goes.grown grown;
  }
  goes-more inside is goes (step.Adds.lines text refuses more_is said_is) grown = record {
    rest = λ more behind c.
        let next : Compiles (suc (i + 1)) (drop (i + 1) scripts) more behind =
        subst (λ (k : ℕ). Compiles k (drop (i + 1) scripts) more behind) (add-one (i + 1)) c in
        let here : Compiles (i + 1) (bytes ∷ drop (i + 1) scripts) more (text ++ behind) =
        told.Compiles.refused refuses next in
        let all = goes.rest more (text ++ behind)
        (subst (λ (xs : List (List ℕ)). Compiles (i + 1) xs more (text ++ behind)) (sym (behind-it inside is)) here) in
        let same : map (source_text names) trees ≡ map (source_text later) more_trees =
        sym (trees-later names later grown trees goes.held) ∙ ap (map (source_text later)) (sym more_is) in
        subst (λ (t : List ℕ). Compiles 1 scripts (map (source_text later) more_trees ++ more) t)
        (sym (append_assoc said text behind) ∙ ap (λ (t : List ℕ). t ++ behind) (sym said_is))
        (subst (λ (ts : List (Stmts (List ℕ))). Compiles 1 scripts (ts ++ more) (said ++ (text ++ behind))) same all);
    held = subst (λ (ts : List Compilation). All (λ (t : Compilation). IsTreeHeld later (source_tree t)) ts)
        (sym more_is) (trees-held-later names later grown trees goes.held);
    words = λ none. absurd (back_some said text (refused_some (script_prefix (i + 1)) bytes text refuses) (sym said_is
        ∙ none));
    grown = GrowsTo-trans first names later goes.grown grown;
  }

-- nothing is left
module _ (scripts first : List (List ℕ)) (i : ℕ) (names : List (List ℕ)) (trees : List Compilation) (said : List ℕ)
    (goes : Goes scripts first i names trees said) (past : length scripts ≤ i) where
  none_left : drop i scripts ≡ []
  none_left = drop_all i scripts past

  pub goes-all : Compiles 1 scripts (map (source_text names) trees) said
  goes-all =
      let end : Compiles (i + 1) (drop i scripts) [] [] =
      subst (λ (xs : List (List ℕ)). Compiles (i + 1) xs [] []) (sym none_left) told.Compiles.no_more in
      subst (λ (t : List ℕ). Compiles 1 scripts (map (source_text names) trees) t) (append-nil said)
      (subst (λ (ts : List (Stmts (List ℕ))). Compiles 1 scripts ts (said ++ []))
      (append-nil (map (source_text names) trees)) (goes.rest [] [] end))

  pub goes-count : said ≡ [] → length trees ≡ length scripts
  goes-count none = sym (length-map trees (source_text names))
      ∙ as-many 1 scripts (map (source_text names) trees) said goes-all none

  pub goes-words : said ≡ [] → names ≡ names_behind first scripts
  goes-words none = ap (names_behind names) (sym none_left) ∙ goes.words none

-- the scripts as they were read

abbrev pub texts : List (Vec ℕ Global) → List (List ℕ)
texts vecs = map (λ (v : Vec ℕ Global). v.items) vecs

pub goes-turn : (vecs : List (Vec ℕ Global)) (first : List (List ℕ)) (i : ℕ) (names later : List (List ℕ))
    (trees more_trees : List Compilation) (said more_said bytes : List ℕ) (v : Vec ℕ Global)
    → i < length vecs → v ≡ get_or vecs i v → bytes ≡ v.items → Goes (texts vecs) first i names trees said
    → Adds (i + 1) bytes names later trees more_trees said more_said → GrowsTo names later
    → Goes (texts vecs) first (i + 1) later more_trees more_said
goes-turn vecs first i names later trees more_trees said more_said bytes v inside is its goes adds grown =
    let items : Vec ℕ Global → List ℕ = λ v. v.items in
    let many : length (texts vecs) ≡ length vecs = length-map vecs items in
    let here : v.items ≡ get_or (texts vecs) i v.items = ap items is ∙ sym (get_or-map items vecs i v v.items inside) in
    goes-more (texts vecs) first i names later trees more_trees said more_said v.items
    (omega (arith, inside, many)) here goes
    (subst (λ (b : List ℕ). Adds (i + 1) b names later trees more_trees said more_said) its adds) grown

module _ (vecs : List (Vec ℕ Global)) (first : List (List ℕ)) (i : ℕ) (names : List (List ℕ)) (trees : List Compilation)
    (said : List ℕ) (goes : Goes (texts vecs) first i names trees said) (past : length vecs ≤ i) where
  past_texts : length (texts vecs) ≤ i
  past_texts = let many : length (texts vecs) ≡ length vecs = length-map vecs (λ v. v.items) in
      omega (arith, past, many)

  pub end-compiled : said ≡ [] → Compiles 1 (texts vecs) (map (source_text names) trees) []
  end-compiled none = subst (λ (t : List ℕ). Compiles 1 (texts vecs) (map (source_text names) trees) t) none
      (goes-all (texts vecs) first i names trees said goes past_texts)

  pub end-count : said ≡ [] → length trees ≡ length vecs
  end-count none = goes-count (texts vecs) first i names trees said goes past_texts none
      ∙ length-map vecs (λ v. v.items)

  pub end-words : said ≡ [] → names ≡ names_behind first (texts vecs)
  end-words none = goes-words (texts vecs) first i names trees said goes past_texts none

  pub end-refused : (a : Answer) → a.text ≡ said → a.status.0 ≡ 4 → said ≢ [] → RefusesScripts (texts vecs) a
  end-refused a is ends some = (
    map (source_text names) trees,
    (
      subst (λ (t : List ℕ). Compiles 1 (texts vecs) (map (source_text names) trees) t) (sym is)
          (goes-all (texts vecs) first i names trees said goes past_texts),
      (λ none. some (sym is ∙ none)),
      ends,
    ),
  )
