-- Statements on lines of their own are read back, and blocks of them.
use Rattle.std.proofs.Common.{◌≡◌, refl, sym, ◌∙◌, ℕ, suc, ◌+◌, ◌≤◌, List, [], codes, arith}
use Rattle.rp_base.specs.declared.value.Line.{Line}
use Rattle.rp_base.specs.declared.value.Name.{Name}
use Rattle.rp_base.specs.Names.{word_of}
use Rattle.rp_grammar.specs.Kinds.{Tokens, first, skip}
use Rattle.rp_grammar.specs.Program.{highest}
use Rattle.rp_grammar.specs.Statements as stmt_grammar
use Rattle.rp_grammar.specs.Statements.{Context, joined, one}
use Rattle.rp_print.specs.Texts.{◌⧺◌, line}
use Rattle.rp_print.specs.Statements.{simple_text, stmt_form_lines, stmt_lines, stmts_lines}
use Rattle.rp_token.specs.declared.token.TokenKind.TheVariants as kind
use Rattle.rp_tree.specs.Heights.{stmt_height, stmts_height}
use Rattle.rp_tree.specs.Maps.{map_stmt, map_stmts, shape}
use Rattle.rp_tree.specs.Statements as stmt_tree
use Rattle.rp_tree.specs.Statements.{Stmt, StmtForm, Stmts}
use Rattle.rp_printed.proofs.Reading.{◌▹◌, Nil, Reads, Same, Seq, Spot, Tok, both, fitted, fresh, inside, mapped, nil}
use Rattle.rp_printed.proofs.Reading.{nothing, reads_as, same, token}
use Rattle.rp_printed.proofs.Lexemes.{EndsNumber, Opens}
use Rattle.rp_printed.proofs.Lines.{Lines, StartsAt, columns_at, dedent_read, indent_read, line_start, lines_deeper}
use Rattle.rp_printed.proofs.Lines.{newline_read, starts_lines}
use Rattle.rp_printed.proofs.Marks.{colon}
use Rattle.rp_printed.proofs.Places.{nil_text}

front_nil : (a : List ℕ) → [] ⧺ a ≡ a
unfolding ◌⧺◌
front_nil a = refl

-- the statements of a block, with the tokens at its ends
pub data IsBody (c : Context) (xs : Stmts) : Tokens → Tokens → Type 0 where
  body : {ys zs : Stmts} {ts us vs : Tokens} → first ts ≡ kind.Indent → stmt_grammar.IsStatement c ys (skip ts) us
      → stmt_grammar.IsStatements c zs us vs → first vs ≡ kind.Dedent
      → map_stmts shape (joined ys zs) ≡ map_stmts shape xs → IsBody c xs ts (skip vs)

abbrev pub Suite : Context → Stmts → Tokens → Tokens → Type 0
Suite c xs = Same (map_stmts shape) (stmt_grammar.IsSuite c) xs

abbrev pub IsOne : Context → Stmt → Tokens → Tokens → Type 0
IsOne c x = stmt_grammar.IsStatement c (one x)

abbrev pub OneOf : Context → Stmt → Tokens → Tokens → Type 0
OneOf c x = Same (map_stmt shape) (IsOne c) x

abbrev pub SimpleOf : Context → Stmt → Tokens → Tokens → Type 0
SimpleOf c x = Same (map_stmt shape) (stmt_grammar.IsSimple c) x

-- some statements
abbrev pub IsSome : Stmts → Type 0
IsSome stmt_tree.no_stmts = ⊥
IsSome (stmt_tree.stmt x xs) = Unit {0}

pub some_joined : (xs ys : Stmts) → IsSome xs → IsSome (joined xs ys)
some_joined stmt_tree.no_stmts ys some = absurd some
some_joined (stmt_tree.stmt x xs) ys some = tt

module _ (words : List (List ℕ)) (size : ℕ) where
  abbrev pub w : Name → List ℕ
  w = word_of words

  infixl 50 ◌⊳◌
  abbrev ◌⊳◌ : {H F G : List ℕ → Type 0} {P Q : Tokens → Tokens → Type 0} {p q r : Spot} {a b : List ℕ}
      → Reads words size H F P p q a → Reads words size F G Q q r b → Reads words size H G (Seq P Q) p r (a ⧺ b)
  x ⊳ y = ◌▹◌ words size x y

  -- whole lines at one level, from one line to another
  pub record ReadsLines (H G : List ℕ → Type 0) (P : Tokens → Tokens → Type 0) (d l : ℕ) (text : List ℕ) : Type 0 where
    pub last : ℕ
    pub reads : Reads words size H G P (fresh (columns_at d) l) (fresh (columns_at d) last) text

  pub lines_then : {H F G : List ℕ → Type 0} {P Q : Tokens → Tokens → Type 0} {d l : ℕ} {a b : List ℕ}
      → ReadsLines H F P d l a → ((m : ℕ) → ReadsLines F G Q d m b) → ReadsLines H G (Seq P Q) d l (a ⧺ b)
  lines_then x y = record { last = (y x.last).last; reads = x.reads ⊳ (y x.last).reads }

  pub lines_mapped : {H G : List ℕ → Type 0} {P Q : Tokens → Tokens → Type 0} {d l : ℕ} {text : List ℕ}
      → ((ts us : Tokens) → P ts us → Q ts us) → ReadsLines H G P d l text → ReadsLines H G Q d l text
  lines_mapped f x = record { last = x.last; reads = mapped words size f x.reads }

  pub lines_fitted : {H G H' G' : List ℕ → Type 0} {P : Tokens → Tokens → Type 0} {d l : ℕ} {text : List ℕ}
      → ((cs : List ℕ) → H cs → H' cs) → ((cs : List ℕ) → G' cs → G cs) → ReadsLines H G P d l text
      → ReadsLines H' G' P d l text
  lines_fitted h k x = record { last = x.last; reads = fitted words size h k x.reads }

  pub lines_as : {H G : List ℕ → Type 0} {P : Tokens → Tokens → Type 0} {d l : ℕ} {a b : List ℕ} → a ≡ b
      → ReadsLines H G P d l a → ReadsLines H G P d l b
  lines_as e x = record { last = x.last; reads = reads_as words size e x.reads }

  pub no_lines : {G : List ℕ → Type 0} {d l : ℕ} → ReadsLines G G Nil d l []
  no_lines {l = l} = record { last = l; reads = nothing words size }

  -- ---- statements

  abbrev pub StmtRead : Context → Stmt → Type 0
  StmtRead c x = (d l : ℕ) → stmt_height x ≤ highest → ReadsLines (StartsAt d) (Lines d) (OneOf c x) d l
      (stmt_lines w d x)

  abbrev pub AllStmts : Context → Stmts → Type 0
  AllStmts c stmt_tree.no_stmts = Unit {0}
  AllStmts c (stmt_tree.stmt x xs) = StmtRead c x × AllStmts c xs

  pub all_joined : (c : Context) (xs ys : Stmts) → AllStmts c xs → AllStmts c ys → AllStmts c (joined xs ys)
  all_joined c stmt_tree.no_stmts ys a b = b
  all_joined c (stmt_tree.stmt x xs) ys a b = (a.0, all_joined c xs ys a.1 b)

  pub stmts_read : (c : Context) (xs : Stmts) → AllStmts c xs → (d l : ℕ) → stmts_height xs ≤ highest
      → ReadsLines (Lines d) (Lines d) (Same (map_stmts shape) (stmt_grammar.IsStatements c) xs) d l (stmts_lines w d xs)
  stmts_read c stmt_tree.no_stmts all d l h = lines_mapped (λ ts us. none) no_lines
    where
      none : {ts us : Tokens} → Nil ts us → Same (map_stmts shape) (stmt_grammar.IsStatements c) stmt_tree.no_stmts ts us
      none nil = same stmt_grammar.no_statement refl
  stmts_read c (stmt_tree.stmt x xs) all d l h =
      lines_mapped (λ ts us. some) (lines_then (lines_fitted (starts_lines d) (λ cs e. e) (all.0 d l (omega arith)))
      (λ m. stmts_read c xs all.1 d m (omega arith)))
    where
      some : {ts us : Tokens} → Seq (OneOf c x) (Same (map_stmts shape) (stmt_grammar.IsStatements c) xs) ts us
          → Same (map_stmts shape) (stmt_grammar.IsStatements c) (stmt_tree.stmt x xs) ts us
      some (both (same p a) (same q b)) = same (stmt_grammar.more_statements p q) (λ k. stmt_tree.stmt (a k) (b k))

  -- a block, one level deeper
  pub record ReadsBody (c : Context) (xs : Stmts) (d l : ℕ) : Type 0 where
    pub last : ℕ
    pub reads : Reads words size (StartsAt (suc d)) (Lines d) (IsBody c xs) (fresh (columns_at d) l)
        (fresh (columns_at d) last) (stmts_lines w (suc d) xs)

  abbrev pub BlockRead : Context → Stmts → Type 0
  BlockRead c xs = (d l : ℕ) → stmts_height xs ≤ highest → ReadsBody c xs d l

  pub block_read : (c : Context) (xs : Stmts) → AllStmts c xs → IsSome xs → BlockRead c xs
  block_read c stmt_tree.no_stmts all some d l h = absurd some
  block_read c (stmt_tree.stmt x xs) all some d l h =
      let front = all.0 (suc d) l (omega arith) in
      let rest = stmts_read c xs all.1 (suc d) front.last (omega arith) in
      record {
        last = rest.last;
        reads = reads_as words size (nil_text ([] ⧺ (stmt_lines w (suc d) x ⧺ stmts_lines w (suc d) xs))
            ∙ front_nil (stmt_lines w (suc d) x ⧺ stmts_lines w (suc d) xs))
            (mapped words size (λ ts us. of) (indent_read words size d l
            ⊳ (front.reads ⊳ fitted words size (λ cs e. e) (lines_deeper d) rest.reads)
            ⊳ dedent_read words size d rest.last));
      }
    where
      of : {ts us : Tokens}
          → Seq (Seq (Tok kind.Indent) (Seq (OneOf c x) (Same (map_stmts shape) (stmt_grammar.IsStatements c) xs)))
          (Tok kind.Dedent) ts us → IsBody c (stmt_tree.stmt x xs) ts us
      of (both (both (token h) (both (same p a) (same q b))) (token i)) = body h p q i (λ k. stmt_tree.stmt (a k) (b k))

  -- the line before a block, and the block
  pub headed : {A : Tokens → Tokens → Type 0} (c : Context) (xs : Stmts) (d l : ℕ) (t : List ℕ)
      → Reads words size Opens EndsNumber A (inside (columns_at d) l 0) (inside (columns_at d) l 0) t → BlockRead c xs
      → stmts_height xs ≤ highest
      → ReadsLines (StartsAt d) (Lines d) (Seq A (Suite c xs)) d l (line d (t ⧺ codes ":") ⧺ stmts_lines w (suc d) xs)
  headed {A = A} c xs d l t x block h =
      let rest = block d (l + 1) h in
      record {
        last = rest.last;
        reads = mapped words size (λ ts us. of) (line_start words size d l ⊳ (x ⊳ colon words size)
            ⊳ newline_read words size d l ⊳ rest.reads);
      }
    where
      of : {ts us : Tokens} → Seq (Seq (Seq Nil (Seq A (Tok kind.Colon))) (Tok kind.Newline)) (IsBody c xs) ts us
          → Seq A (Suite c xs) ts us
      of (both (both (both nil (both a (token h))) (token i)) (body j p q k e)) =
          both a (same (stmt_grammar.suite h (stmt_grammar.indented i j p q k)) e)

  -- a simple statement on a line
  pub simple_read : (c : Context) (l : Line) (x : StmtForm) →
      ((d : ℕ) → stmt_form_lines w d x ≡ line d (simple_text w x))
      → ((d m : ℕ) → stmt_height (stmt_tree.a_stmt l x) ≤ highest → Reads words size Opens EndsNumber
      (SimpleOf c (stmt_tree.a_stmt l x)) (inside (columns_at d) m 0) (inside (columns_at d) m 0) (simple_text w x))
      → StmtRead c (stmt_tree.a_stmt l x)
  simple_read c l x is read d m h = record {
    last = m + 1;
    reads = reads_as words size (sym (is d)) (mapped words size (λ ts us. of)
        (line_start words size d m ⊳ read d m h ⊳ newline_read words size d m));
  }
    where
      of : {ts us : Tokens} → Seq (Seq Nil (SimpleOf c (stmt_tree.a_stmt l x))) (Tok kind.Newline) ts us
          → OneOf c (stmt_tree.a_stmt l x) ts us
      of (both (both nil (same p a)) (token h)) = same (stmt_grammar.a_line (stmt_grammar.line_end p h)) a
