-- Reading does not depend on which numbers stand for the names.
use Rattle.std.proofs.Common.{◌≡◌, ℕ, zero, suc, ◌+◌, ◌≤◌, cond, [], ◌∷◌, ◌++◌, length, replicate, count_by, Ok, Err, refl, sym, ap, subst, ◌∙◌, arith}
use Rattle.std.specs.List.{fold}
use Rattle.std.proofs.lemmas.List.{map-append}
use Rattle.rp_base.specs.declared.value.Name.{Name}
use Rattle.rp_token.specs.declared.token.Token.{Token}
use Rattle.rp_token.specs.declared.token.TokenKind.TheVariants as kind
use Rattle.rp_tree.specs.Statements.{Stmts}
use Rattle.rp_grammar.specs.Brackets.{IsShallow, open_behind}
use Rattle.rp_grammar.specs.Kinds.{Tokens, line_at}
use Rattle.rp_grammar.specs.ExpressionReading as reading
use Rattle.rp_grammar.specs.Program.{Spells, IsGood, IsLongestGood, is_indent, token, ending}
use Rattle.rp_grammar.specs.StatementReading as stmt_reading
use Rattle.rp_grammar.specs.StatementReading.{Found}
use Rattle.rp_grammar.proofs.Renamed.{IsInjective, renamed_kind, renamed_token, renamed_tokens, renamed_stmts, renamed_found}
use Rattle.rp_grammar.proofs.Founds.{ok_is}
use Rattle.rp_grammar.proofs.StatementSound.{program_spells}
use Rattle.rp_grammar.proofs.Low.{front_ending}
use Rattle.rp_grammar.proofs.StatementComplete.{program_complete}
use Rattle.rp_grammar.proofs.RenamingBasics.{kept, length_renamed, line_at_renamed}
use Rattle.rp_grammar.proofs.RenamingExpressions.{readers_renamed}
use Rattle.rp_grammar.proofs.RenamingFounds.{told}
use Rattle.rp_grammar.proofs.RenamingStatements.{program_at_renamed}

pub line_renamed : (f : Name → Name) (ts : Tokens) → line_at (renamed_tokens f ts) ≡ line_at ts
line_renamed f ts = line_at_renamed f ts

pub shallow_renamed : (f : Name → Name) (most n : ℕ) (ts : Tokens) → IsShallow most n ts → IsShallow most n (renamed_tokens f ts)
shallow_renamed f most n [] shallow = shallow
shallow_renamed f most n (t ∷ ts) shallow =
    let same : open_behind (renamed_kind f t.kind) n ≡ open_behind t.kind n = kept f (λ k. open_behind k n) (λ a b. refl) t.kind in
    (shallow.0, subst (λ (m : ℕ). IsShallow most m (renamed_tokens f ts)) (sym same) (shallow_renamed f most (open_behind t.kind n) ts shallow.1))

found_same : (f : Name → Name) (found : Found Stmts) → told f (renamed_stmts f) found ≡ renamed_found f found
found_same f (Ok x) = refl
found_same f (Err place) = refl

pub program_renamed : (f : Name → Name) → IsInjective f → (d h : ℕ) (ts : Tokens) → stmt_reading.program_at (reading.readers d) h (renamed_tokens f ts) ≡ renamed_found f (stmt_reading.program_at (reading.readers d) h ts)
program_renamed f injective d h ts = program_at_renamed f injective (reading.readers d) (readers_renamed f injective d) h ts ∙ found_same f (stmt_reading.program_at (reading.readers d) h ts)

pub spells_renamed : (f : Name → Name) → IsInjective f → (tree : Stmts) (ts : Tokens) → IsShallow 450 0 ts → Spells tree ts → Spells (renamed_stmts f tree) (renamed_tokens f ts)
spells_renamed f injective tree ts shallow spelled =
    program_spells 650 (renamed_tokens f ts) (renamed_stmts f tree, renamed_tokens f spelled.rest)
    (program_renamed f injective 650 199 ts ∙ ap (renamed_found f) (program_complete 450 650 (omega arith) spelled shallow))

-- what is read before the renaming of what spells a tree
before_found : (f : Name → Name) (ts : Tokens) (tree : Stmts) (rest : Tokens) (found : Found Stmts) → stmt_reading.program_at (reading.readers 650) 199 ts ≡ found → renamed_found f found ≡ Ok (tree, rest)
    → (before : Stmts) × Spells before ts × (tree ≡ renamed_stmts f before)
before_found f ts tree rest (Ok x) is same = (x.0, program_spells 650 ts x is, sym (ap (λ (y : Stmts × Tokens). y.0) (ok_is same)))
before_found f ts tree rest (Err place) is same = absurd cc

pub spells_back : (f : Name → Name) → IsInjective f → (tree : Stmts) (ts : Tokens) → IsShallow 450 0 ts → Spells tree (renamed_tokens f ts) → (before : Stmts) × Spells before ts × (tree ≡ renamed_stmts f before)
spells_back f injective tree ts shallow spelled =
    before_found f ts tree spelled.rest (stmt_reading.program_at (reading.readers 650) 199 ts) refl
    (sym (program_renamed f injective 650 199 ts) ∙ program_complete 450 650 (omega arith) spelled (shallow_renamed f 450 0 ts shallow))

-- ---- good fronts

indent_renamed : (f : Name → Name) (t : Token) → is_indent (renamed_token f t) ≡ is_indent t
indent_renamed f t = kept f (λ k. is_indent (record t { kind = k })) (λ m n. refl) t.kind

abbrev counted : ℕ → Tokens → ℕ
counted n ts = fold (λ m t. m + cond (is_indent t) 1 0) n ts

counted_renamed : (f : Name → Name) (n : ℕ) (ts : Tokens) → counted n (renamed_tokens f ts) ≡ counted n ts
counted_renamed f n [] = refl
counted_renamed f n (t ∷ ts) =
    ap (λ b. counted (n + cond b 1 0) (renamed_tokens f ts)) (indent_renamed f t) ∙ counted_renamed f (n + cond (is_indent t) 1 0) ts

indents_renamed : (f : Name → Name) (ts : Tokens) → count_by is_indent (renamed_tokens f ts) ≡ count_by is_indent ts
indents_renamed f ts = counted_renamed f 0 ts

dedents_renamed : (f : Name → Name) (n : ℕ) → renamed_tokens f (replicate n (token kind.Dedent) ++ token kind.End ∷ []) ≡ replicate n (token kind.Dedent) ++ token kind.End ∷ []
dedents_renamed f zero = refl
dedents_renamed f (suc n) = ap (λ (ts : Tokens). token kind.Dedent ∷ ts) (dedents_renamed f n)

ended_renamed : (f : Name → Name) (front : Tokens) (n : ℕ) → renamed_tokens f (front ++ ending n) ≡ renamed_tokens f front ++ ending n
ended_renamed f front n = map-append (renamed_token f) front (ending n) ∙ ap (λ (ts : Tokens). renamed_tokens f front ++ token kind.Pass ∷ token kind.Newline ∷ ts) (dedents_renamed f n)

pub good_renamed : (f : Name → Name) → IsInjective f → (front rest : Tokens) → IsShallow 450 0 (front ++ rest) → IsGood front → IsGood (renamed_tokens f front)
good_renamed f injective front rest shallow good = record {
  dedents = good.dedents;
  enough = rw (indents_renamed f front) good.enough;
  tree = renamed_stmts f good.tree;
  spelled = subst (Spells (renamed_stmts f good.tree)) (ended_renamed f front good.dedents) (spells_renamed f injective good.tree (front ++ ending good.dedents) (front_ending 450 good.dedents front rest shallow) good.spelled);
}

pub good_back : (f : Name → Name) → IsInjective f → (front rest : Tokens) → IsShallow 450 0 (front ++ rest) → IsGood (renamed_tokens f front) → IsGood front
good_back f injective front rest shallow good =
    let (before, spelled, same) = spells_back f injective good.tree (front ++ ending good.dedents) (front_ending 450 good.dedents front rest shallow) (subst (Spells good.tree) (sym (ended_renamed f front good.dedents)) good.spelled) in
    record { dedents = good.dedents; enough = subst (λ n. good.dedents ≤ n) (indents_renamed f front) good.enough; tree = before; spelled = spelled }

-- a front of renamed tokens is a renamed front
front_back : (f : Name → Name) (ts more others : Tokens) → renamed_tokens f ts ≡ more ++ others → (front : Tokens) × (rest : Tokens) × (ts ≡ front ++ rest) × (renamed_tokens f front ≡ more)
front_back f ts [] others parts = ([], ts, refl, refl)
front_back f [] (m ∷ more) others parts = absurd cc
front_back f (t ∷ ts) (m ∷ more) others parts =
    let (front, rest, same, is) = front_back f ts more others cc in
    (t ∷ front, rest, ap (λ (us : Tokens). t ∷ us) same, cc)

pub longest_renamed : (f : Name → Name) → IsInjective f → (front rest ts : Tokens) → IsShallow 450 0 ts → IsLongestGood front rest ts → IsLongestGood (renamed_tokens f front) (renamed_tokens f rest) (renamed_tokens f ts)
longest_renamed f injective front rest ts shallow longest = record {
  parts = ap (renamed_tokens f) longest.parts ∙ map-append (renamed_token f) front rest;
  good = good_renamed f injective front rest (subst (IsShallow 450 0) longest.parts shallow) longest.good;
  longest = λ more others parts good.
      let (first, behind, same, is) = front_back f ts more others parts in
      let as_long : length first ≤ length front = longest.longest first behind same (good_back f injective first behind (subst (IsShallow 450 0) same shallow) (subst IsGood (sym is) good)) in
      let long : length more ≡ length first = ap length (sym is) ∙ length_renamed f first in
      omega (arith, long, as_long, length_renamed f front);
}
