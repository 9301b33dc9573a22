-- Statements that good tokens spell are read back.
use Rattle.std.proofs.Common.{◌≡◌, refl, sym, ap, ◌∙◌, subst, ℕ, suc, ◌≤◌, true, false, ◌&&◌, List, [], codes, Some}
use Rattle.std.proofs.Common.{None, arith}
use Rattle.rp_base.specs.declared.value.Line.{Line}
use Rattle.rp_base.specs.declared.value.Name.{Name}
use Rattle.rp_grammar.specs.Kinds.{Tokens, line_at, skip}
use Rattle.rp_grammar.specs.Expressions as grammar
use Rattle.rp_grammar.specs.Expressions.{any, distinct, named, parameter_names}
use Rattle.rp_grammar.specs.Program.{highest}
use Rattle.rp_grammar.specs.Statements as stmt_grammar
use Rattle.rp_grammar.specs.Statements.{Context, are_members, in_class, in_function, in_handler, in_loop, is_member}
use Rattle.rp_grammar.specs.Statements.{joined, one}
use Rattle.rp_print.specs.Texts.{◌⧺◌, line, listed}
use Rattle.rp_print.specs.Expressions.{expr_text, params_texts, target_text}
use Rattle.rp_print.specs.Statements.{branches_lines, excepts_lines, maybe_block, stmts_lines}
use Rattle.rp_token.specs.declared.token.TokenKind.TheVariants as kind
use Rattle.rp_tree.specs.Expressions as tree
use Rattle.rp_tree.specs.Expressions.{Expr, Named, Params, Target}
use Rattle.rp_tree.specs.Heights.{branches_height, excepts_height, maybe_stmts_height}
use Rattle.rp_tree.specs.Maps.{map_branches, map_excepts, map_maybe_stmts, map_params, map_stmt, map_stmts, shape}
use Rattle.rp_tree.specs.Statements as stmt_tree
use Rattle.rp_tree.specs.Statements.{Branches, Except, Excepts, MaybeStmts, Stmt, StmtForm, Stmts}
use Rattle.rp_printed.proofs.Reading.{◌▹◌, IsGoodName, Nil, Reads, Same, Seq, Spot, Tok, both, fitted, inside, mapped}
use Rattle.rp_printed.proofs.Reading.{nil, nothing, same, token}
use Rattle.rp_printed.proofs.Lexemes.{EndsNumber, EndsWord, Opens, keyword_read, number_word}
use Rattle.rp_printed.proofs.Marks.{left_paren, right_paren}
use Rattle.rp_printed.proofs.Lines.{Lines, columns_at, starts_lines}
use Rattle.rp_printed.proofs.Operands.{SameExpr, blank, name_read}
use Rattle.rp_printed.proofs.Operators.{before_blank, in_between}
use Rattle.rp_printed.proofs.Parameters.{ReadParams, same_parameters}
use Rattle.rp_printed.proofs.Places.{PartOf, ReadPart, SameTarget, assoc_texts, for_before, nil_text, part}
use Rattle.rp_printed.proofs.ExpressionsBack.{Good, behind, name_at, params_back, target_back}
use Rattle.rp_printed.proofs.Blocks.{AllStmts, BlockRead, IsSome, OneOf, ReadsLines, StmtRead, Suite, all_joined}
use Rattle.rp_printed.proofs.Blocks.{block_read, headed, lines_as, lines_fitted, lines_mapped, lines_then, no_lines}
use Rattle.rp_printed.proofs.Blocks.{some_joined, w}
use Rattle.rp_printed.proofs.SimpleBack.{Whole, exprs_back, line_back, whole_back}

-- ---- keywords with their colons

else_colon : codes "else" ⧺ codes ":" ≡ codes "else:"
unfolding ◌⧺◌
else_colon = refl

finally_colon : codes "finally" ⧺ codes ":" ≡ codes "finally:"
unfolding ◌⧺◌
finally_colon = refl

try_colon : codes "try" ⧺ codes ":" ≡ codes "try:"
unfolding ◌⧺◌
try_colon = refl

paren_colon : codes ")" ⧺ codes ":" ≡ codes "):"
unfolding ◌⧺◌
paren_colon = refl

-- ---- members of a class stay such

member_kept : (x : Stmt) → is_member (map_stmt shape x) ≡ is_member x
member_kept (stmt_tree.a_stmt l (stmt_tree.define k n ps b)) = refl
member_kept (stmt_tree.a_stmt l stmt_tree.pass) = refl
member_kept (stmt_tree.a_stmt l (stmt_tree.evaluate (tree.node m (tree.text cs)))) = refl
member_kept (stmt_tree.a_stmt l (stmt_tree.evaluate (tree.node m _))) = refl
member_kept (stmt_tree.a_stmt l _) = refl

members_kept : (xs : Stmts) → are_members (map_stmts shape xs) ≡ are_members xs
members_kept stmt_tree.no_stmts = refl
members_kept (stmt_tree.stmt x xs) = λ i. member_kept x i && members_kept xs i

same_members : (xs ys : Stmts) → map_stmts shape xs ≡ map_stmts shape ys → are_members xs ≡ are_members ys
same_members xs ys e = sym (members_kept xs) ∙ ap are_members e ∙ members_kept ys

abbrev Compound : Context → Line → StmtForm → Tokens → Tokens → Type 0
Compound c l x = OneOf c (stmt_tree.a_stmt l x)

module _ (words : List (List ℕ)) (size : ℕ) where
  abbrev word : Name → List ℕ
  word = w words size

  infixl 50 ◌⊳◌
  abbrev ◌⊳◌ : {H F G : List ℕ → Type 0} {P Q : Tokens → Tokens → Type 0} {p q r : Spot} {a b : List ℕ}
      → Reads words size H F P p q a → Reads words size F G Q q r b → Reads words size H G (Seq P Q) p r (a ⧺ b)
  x ⊳ y = ◌▹◌ words size x y

  abbrev OnLine : (List ℕ → Type 0) → (List ℕ → Type 0) → (Tokens → Tokens → Type 0) → ℕ → ℕ → List ℕ → Type 0
  OnLine H G P d m text = Reads words size H G P (inside (columns_at d) m 0) (inside (columns_at d) m 0) text

  abbrev Lined : (List ℕ → Type 0) → (List ℕ → Type 0) → (Tokens → Tokens → Type 0) → ℕ → ℕ → List ℕ → Type 0
  Lined = ReadsLines words size

  abbrev Blocked : Context → Stmts → Type 0
  Blocked = BlockRead words size

  module _ (d m : ℕ) where
    if_before : OnLine Opens Opens (Tok kind.If) d m (codes "if ")
    unfolding ◌⧺◌
    if_before = before_blank words size (columns_at d) m (keyword_read words size kind.If (codes "if")
        (omega arith) refl refl refl refl tt)

    elif_before : OnLine Opens Opens (Tok kind.Elif) d m (codes "elif ")
    unfolding ◌⧺◌
    elif_before = before_blank words size (columns_at d) m (keyword_read words size kind.Elif (codes "elif")
        (omega arith) refl refl refl refl tt)

    while_before : OnLine Opens Opens (Tok kind.While) d m (codes "while ")
    unfolding ◌⧺◌
    while_before = before_blank words size (columns_at d) m (keyword_read words size kind.While (codes "while")
        (omega arith) refl refl refl refl tt)

    def_before : OnLine Opens Opens (Tok kind.Def) d m (codes "def ")
    unfolding ◌⧺◌
    def_before = before_blank words size (columns_at d) m (keyword_read words size kind.Def (codes "def")
        (omega arith) refl refl refl refl tt)

    class_before : OnLine Opens Opens (Tok kind.Class) d m (codes "class ")
    unfolding ◌⧺◌
    class_before = before_blank words size (columns_at d) m (keyword_read words size kind.Class (codes "class")
        (omega arith) refl refl refl refl tt)

    word_else : OnLine Opens EndsNumber (Tok kind.Else) d m (codes "else")
    word_else = fitted words size (λ cs k. k) number_word (keyword_read words size kind.Else (codes "else")
        (omega arith) refl refl refl refl tt)

    word_finally : OnLine Opens EndsNumber (Tok kind.Finally) d m (codes "finally")
    word_finally = fitted words size (λ cs k. k) number_word
        (keyword_read words size kind.Finally (codes "finally") (omega arith) refl refl refl refl tt)

    word_try : OnLine Opens EndsNumber (Tok kind.Try) d m (codes "try")
    word_try = fitted words size (λ cs k. k) number_word (keyword_read words size kind.Try (codes "try")
        (omega arith) refl refl refl refl tt)

    word_except : OnLine Opens EndsWord (Tok kind.Except) d m (codes "except")
    word_except = keyword_read words size kind.Except (codes "except") (omega arith) refl refl refl refl tt

    as_between : OnLine EndsNumber Opens (Tok kind.As) d m (codes " as ")
    unfolding ◌⧺◌
    as_between = mapped words size (λ ts us. only) (blank words size (columns_at d) m (λ behind. refl)
        ⊳ keyword_read words size kind.As (codes "as") (omega arith) refl refl refl refl tt
        ⊳ blank words size (columns_at d) m (λ behind. refl))
      where
        only : {ts us : Tokens} → Seq (Seq Nil (Tok kind.As)) Nil ts us → Tok kind.As ts us
        only (both (both nil p) nil) = p

    gap_before : OnLine EndsWord Opens Nil d m (codes " ")
    gap_before = blank words size (columns_at d) m (λ behind. refl)

  -- ---- loops

  while_read : (c : Context) (l : Line) (x : Expr) (b : Stmts) → Whole words size x → Blocked (in_loop c) b
      → StmtRead words size c (stmt_tree.a_stmt l (stmt_tree.while x b))
  while_read c l x b a block d m h =
      lines_mapped words size (λ ts us. of) (headed words size (in_loop c) b d m (codes "while " ⧺ expr_text word x)
      (while_before d m ⊳ (a (columns_at d) m).whole 0 (omega arith)) block (omega arith))
    where
      of : {ts us : Tokens} → Seq (Seq (Tok kind.While) (SameExpr grammar.IsExpr x)) (Suite (in_loop c) b) ts us
          → Compound c l (stmt_tree.while x b) ts us
      of (both (both (token h) (same p a)) (same q b)) = same (stmt_grammar.a_compound (stmt_grammar.is_while h p q))
          (λ k. stmt_tree.a_stmt (record { 0 = 0 }) (stmt_tree.while (a k) (b k)))

  for_read : (c : Context) (l : Line) (p : Target) (x : Expr) (b : Stmts)
      → ((columns : List ℕ) (line : ℕ) → ReadPart words size columns line p) → Whole words size x
      → Blocked (in_loop c) b
      → StmtRead words size c (stmt_tree.a_stmt l (stmt_tree.for (tree.a_walk p x None) b))
  for_read c l p x b part_of a block d m h =
      lines_mapped words size (λ ts us. of) (headed words size (in_loop c) b d m
      (codes "for " ⧺ target_text word p ⧺ codes " in " ⧺ expr_text word x)
      (for_before words size (columns_at d) m ⊳ fitted words size (λ cs k. k) number_word
      (part_of (columns_at d) m 0 (omega arith)) ⊳ in_between words size (columns_at d) m
      ⊳ (a (columns_at d) m).whole 0 (omega arith)) block (omega arith))
    where
      of : {ts us : Tokens}
          → Seq (Seq (Seq (Seq (Tok kind.For) (SameTarget PartOf p)) (Tok kind.In)) (SameExpr grammar.IsExpr x))
          (Suite (in_loop c) b) ts us → Compound c l (stmt_tree.for (tree.a_walk p x None) b) ts us
      of (both (both (both (both (token h) (same (part q) u)) (token i)) (same r v)) (same y z)) =
          same (stmt_grammar.a_compound (stmt_grammar.is_for h (grammar.target_part q) i (grammar.an_expr r) y))
          (λ k. stmt_tree.a_stmt (record { 0 = 0 }) (stmt_tree.for (tree.a_walk (u k) (v k) None) (z k)))

  -- ---- definitions

  class_read : (c : Context) (l : Line) (n : Named) (b : Stmts) → IsGoodName words n.name → Blocked (in_class c) b
      → are_members b ≡ true → StmtRead words size c (stmt_tree.a_stmt l (stmt_tree.class n b))
  class_read c l n b good block members d m h =
      lines_mapped words size (λ ts us. of) (headed words size (in_class c) b d m (codes "class " ⧺ word n.name)
      (class_before d m ⊳ fitted words size (λ cs k. k) number_word (name_read words size (columns_at d) m n.name good))
      block (omega arith))
    where
      of : {ts us : Tokens} → Seq (Seq (Tok kind.Class) (Tok (kind.Name n.name))) (Suite (in_class c) b) ts us
          → Compound c l (stmt_tree.class n b) ts us
      of (both (both (token h) (token i)) (same {y = ys} q z)) =
          same (stmt_grammar.a_compound (stmt_grammar.is_class h i stmt_grammar.no_bases q (same_members ys b z ∙ members)))
          (λ k. stmt_tree.a_stmt (record { 0 = 0 }) (stmt_tree.class (record { name = n.name; line = record { 0 = 0 } }) (z k)))

  def_read : (c : Context) (l : Line) (n : Named) (ps : Params) (b : Stmts) → IsGoodName words n.name
      → ((columns : List ℕ) (line : ℕ) → ReadParams words size columns line any ps)
      → distinct (parameter_names ps) ≡ true → Blocked (in_function ps c) b
      → StmtRead words size c (stmt_tree.a_stmt l (stmt_tree.define 0 n ps b))
  def_read c l n ps b good params apart block d m h =
      lines_as words size (ap (λ (x : List ℕ). line d x ⧺ stmts_lines word (suc d) b)
      (ends (codes "def " ⧺ word n.name ⧺ codes "(" ⧺ listed (params_texts word ps))))
      (lines_mapped words size (λ ts us. of) (headed words size (in_function ps c) b d m
      (codes "def " ⧺ word n.name ⧺ codes "(" ⧺ listed (params_texts word ps) ⧺ codes ")")
      (def_before d m ⊳ name_read words size (columns_at d) m n.name good
      ⊳ left_paren words size (omega arith) (λ behind. refl) ⊳ (params (columns_at d) m).whole 1 (omega arith)
      ⊳ right_paren words size) block (omega arith)))
    where
      ends : (x : List ℕ) → x ⧺ codes ")" ⧺ codes ":" ≡ x ⧺ codes "):"
      ends x = assoc_texts x (codes ")") (codes ":") ∙ ap (λ (y : List ℕ). x ⧺ y) paren_colon

      of : {ts us : Tokens}
          → Seq (Seq (Seq (Seq (Seq (Tok kind.Def) (Tok (kind.Name n.name))) (Tok kind.LeftParen))
          (Same (map_params shape) (grammar.IsParams any) ps)) (Tok kind.RightParen)) (Suite (in_function ps c) b) ts us
          → Compound c l (stmt_tree.define 0 n ps b) ts us
      of (both (both (both (both (both (token h) (token i)) (token j)) (same {y = qs} p u)) (token k))
          (same {y = ys} {ts = ts} {us = us} q z)) =
          let same_names = same_parameters qs ps u in
          same (stmt_grammar.a_compound (stmt_grammar.is_def h i j p (ap (λ (ns : List Name). distinct ns) same_names ∙ apart) k
          (subst (λ (ns : List Name). stmt_grammar.IsSuite
          (record { loop = false; handler = false; class = c.class; function = Some ns }) ys ts us)
          (sym same_names) q)))
          (λ r. stmt_tree.a_stmt (record { 0 = 0 }) (stmt_tree.define 0 (record { name = n.name; line = record { 0 = 0 } }) (u r)
          (z r)))

  -- ---- branches

  abbrev ElifsRead : Context → Branches → Type 0
  ElifsRead c bs = (d l : ℕ) → branches_height bs ≤ highest → Lined (Lines d) (Lines d)
      (Same (map_branches shape) (stmt_grammar.IsElifs c) bs) d l (branches_lines word d false bs)

  abbrev ElseRead : Context → MaybeStmts → Type 0
  ElseRead c b = (d l : ℕ) → maybe_stmts_height b ≤ highest → Lined (Lines d) (Lines d)
      (Same (map_maybe_stmts shape) (stmt_grammar.IsElse c) b) d l (maybe_block word d (codes "else:") b)

  abbrev FinallyRead : Context → MaybeStmts → Type 0
  FinallyRead c b = (d l : ℕ) → maybe_stmts_height b ≤ highest
      → Lined (Lines d) (Lines d) (Same (map_maybe_stmts shape) (stmt_grammar.IsFinally c) b) d l
      (maybe_block word d (codes "finally:") b)

  abbrev HandlersRead : Context → Excepts → Type 0
  HandlersRead c hs = (d l : ℕ) → excepts_height hs ≤ highest
      → Lined (Lines d) (Lines d) (Same (map_excepts shape) (stmt_grammar.IsHandlers c) hs) d l (excepts_lines word d hs)

  no_elif_read : (c : Context) → ElifsRead c stmt_tree.no_branches
  no_elif_read c d l h = lines_mapped words size (λ ts us. none) (no_lines words size)
    where
      none : {ts us : Tokens} → Nil ts us → Same (map_branches shape) (stmt_grammar.IsElifs c) stmt_tree.no_branches ts us
      none nil = same stmt_grammar.no_elif refl

  elif_read : (c : Context) (x : Expr) (b : Stmts) (bs : Branches) → Whole words size x → Blocked c b → ElifsRead c bs
      → ElifsRead c (stmt_tree.branch x b bs)
  elif_read c x b bs a block more d l h =
      lines_mapped words size (λ ts us. of) (lines_fitted words size (starts_lines d) (λ cs k. k) (lines_then words size
      (headed words size c b d l (codes "elif " ⧺ expr_text word x)
      (elif_before d l ⊳ (a (columns_at d) l).whole 0 (omega arith)) block (omega arith))
      (λ m. more d m (omega arith))))
    where
      of : {ts us : Tokens} → Seq (Seq (Seq (Tok kind.Elif) (SameExpr grammar.IsExpr x)) (Suite c b))
          (Same (map_branches shape) (stmt_grammar.IsElifs c) bs) ts us
          → Same (map_branches shape) (stmt_grammar.IsElifs c) (stmt_tree.branch x b bs) ts us
      of (both (both (both (token h) (same p u)) (same q v)) (same r z)) =
          same (stmt_grammar.an_elif h p q r) (λ k. stmt_tree.branch (u k) (v k) (z k))

  no_else_read : (c : Context) → ElseRead c stmt_tree.none
  no_else_read c d l h = lines_mapped words size (λ ts us. none) (no_lines words size)
    where
      none : {ts us : Tokens} → Nil ts us → Same (map_maybe_stmts shape) (stmt_grammar.IsElse c) stmt_tree.none ts us
      none nil = same stmt_grammar.no_else refl

  else_read : (c : Context) (b : Stmts) → Blocked c b → ElseRead c (stmt_tree.some b)
  else_read c b block d l h =
      lines_as words size (ap (λ (x : List ℕ). line d x ⧺ stmts_lines word (suc d) b) else_colon)
      (lines_mapped words size (λ ts us. of) (lines_fitted words size (starts_lines d) (λ cs k. k)
      (headed words size c b d l (codes "else") (word_else d l) block h)))
    where
      of : {ts us : Tokens} → Seq (Tok kind.Else) (Suite c b) ts us
          → Same (map_maybe_stmts shape) (stmt_grammar.IsElse c) (stmt_tree.some b) ts us
      of (both (token h) (same q v)) = same (stmt_grammar.an_else h q) (λ k. stmt_tree.some (v k))

  no_finally_read : (c : Context) → FinallyRead c stmt_tree.none
  no_finally_read c d l h = lines_mapped words size (λ ts us. none) (no_lines words size)
    where
      none : {ts us : Tokens} → Nil ts us → Same (map_maybe_stmts shape) (stmt_grammar.IsFinally c) stmt_tree.none ts us
      none nil = same stmt_grammar.no_finally refl

  finally_read : (c : Context) (b : Stmts) → Blocked c b → FinallyRead c (stmt_tree.some b)
  finally_read c b block d l h =
      lines_as words size (ap (λ (x : List ℕ). line d x ⧺ stmts_lines word (suc d) b) finally_colon)
      (lines_mapped words size (λ ts us. of) (lines_fitted words size (starts_lines d) (λ cs k. k)
      (headed words size c b d l (codes "finally") (word_finally d l) block h)))
    where
      of : {ts us : Tokens} → Seq (Tok kind.Finally) (Suite c b) ts us
          → Same (map_maybe_stmts shape) (stmt_grammar.IsFinally c) (stmt_tree.some b) ts us
      of (both (token h) (same q v)) = same (stmt_grammar.a_finally h q) (λ k. stmt_tree.some (v k))

  if_read : (c : Context) (l : Line) (x : Expr) (b : Stmts) (bs : Branches) (o : MaybeStmts) → Whole words size x
      → Blocked c b → ElifsRead c bs → ElseRead c o
      → StmtRead words size c (stmt_tree.a_stmt l (stmt_tree.choose (stmt_tree.branch x b bs) o))
  if_read c l x b bs o a block more other d m h =
      lines_mapped words size (λ ts us. of) (lines_then words size (lines_then words size
      (headed words size c b d m (codes "if " ⧺ expr_text word x)
      (if_before d m ⊳ (a (columns_at d) m).whole 0 (omega arith)) block (omega arith))
      (λ n. more d n (omega arith))) (λ n. other d n (omega arith)))
    where
      of : {ts us : Tokens}
          → Seq (Seq (Seq (Seq (Tok kind.If) (SameExpr grammar.IsExpr x)) (Suite c b))
          (Same (map_branches shape) (stmt_grammar.IsElifs c) bs)) (Same (map_maybe_stmts shape) (stmt_grammar.IsElse c) o) ts us
          → Compound c l (stmt_tree.choose (stmt_tree.branch x b bs) o) ts us
      of (both (both (both (both (token h) (same p u)) (same q v)) (same r z)) (same y f)) =
          same (stmt_grammar.a_compound (stmt_grammar.is_if h p q r y)) (λ k. stmt_tree.a_stmt (record { 0 = 0 })
          (stmt_tree.choose (stmt_tree.branch (u k) (v k) (z k)) (f k)))

  -- ---- `try`

  try_read : (c : Context) (l : Line) (b : Stmts) (x : Except) (hs : Excepts) (o f : MaybeStmts) → Blocked c b
      → HandlersRead c (stmt_tree.except x hs) → ElseRead c o → FinallyRead c f
      → StmtRead words size c (stmt_tree.a_stmt l (stmt_tree.try b (stmt_tree.except x hs) o f))
  try_read c l b x hs o f block handlers other last d m h =
      lines_as words size (ap (λ (y : List ℕ). line d y ⧺ stmts_lines word (suc d) b ⧺ excepts_lines word d
      (stmt_tree.except x hs) ⧺ maybe_block word d (codes "else:") o ⧺ maybe_block word d (codes "finally:") f) try_colon)
      (lines_mapped words size (λ ts us. of) (lines_then words size (lines_then words size (lines_then words size
      (headed words size c b d m (codes "try") (word_try d m) block (omega arith))
      (λ n. handlers d n (omega arith))) (λ n. other d n (omega arith))) (λ n. last d n (omega arith))))
    where
      of : {ts us : Tokens}
          → Seq (Seq (Seq (Seq (Tok kind.Try) (Suite c b)) (Same (map_excepts shape) (stmt_grammar.IsHandlers c) (stmt_tree.except x hs)))
          (Same (map_maybe_stmts shape) (stmt_grammar.IsElse c) o)) (Same (map_maybe_stmts shape) (stmt_grammar.IsFinally c) f) ts us
          → Compound c l (stmt_tree.try b (stmt_tree.except x hs) o f) ts us
      of (both (both (both (both (token h) (same p u)) (same {y = stmt_tree.no_excepts} q v)) (same r z)) (same y k)) =
          absurd (let none = v in cc)
      of (both (both (both (both (token h) (same p u)) (same {y = stmt_tree.except x' hs'} q v)) (same r z)) (same y k)) =
          same (stmt_grammar.a_compound (stmt_grammar.is_try h p q r y)) (λ i. stmt_tree.a_stmt (record { 0 = 0 }) (stmt_tree.try (u i) (v i) (z i) (k i)))

  try_finally_read : (c : Context) (l : Line) (b f : Stmts) → Blocked c b → FinallyRead c (stmt_tree.some f)
      → StmtRead words size c (stmt_tree.a_stmt l (stmt_tree.try b stmt_tree.no_excepts stmt_tree.none (stmt_tree.some f)))
  try_finally_read c l b f block last d m h =
      lines_as words size (ap (λ (y : List ℕ). line d y ⧺ stmts_lines word (suc d) b ⧺ [] ⧺ [] ⧺ maybe_block word d
      (codes "finally:") (stmt_tree.some f)) try_colon)
      (lines_mapped words size (λ ts us. of) (lines_then words size (lines_then words size (lines_then words size
      (headed words size c b d m (codes "try") (word_try d m) block (omega arith))
      (λ n. no_lines words size)) (λ n. no_lines words size)) (λ n. last d n (omega arith))))
    where
      of : {ts us : Tokens} → Seq (Seq (Seq (Seq (Tok kind.Try) (Suite c b)) Nil) Nil)
          (Same (map_maybe_stmts shape) (stmt_grammar.IsFinally c) (stmt_tree.some f)) ts us
          → Compound c l (stmt_tree.try b stmt_tree.no_excepts stmt_tree.none (stmt_tree.some f)) ts us
      of (both (both (both (both (token h) (same p u)) nil) nil) (same {y = stmt_tree.none} q v)) = absurd (let none = v in cc)
      of (both (both (both (both (token h) (same p u)) nil) nil) (same {y = stmt_tree.some f'} q v)) =
          same (stmt_grammar.a_compound (stmt_grammar.is_try_finally h p q)) (λ i. stmt_tree.a_stmt (record { 0 = 0 })
          (stmt_tree.try (u i) stmt_tree.no_excepts stmt_tree.none (v i)))

  no_handlers_read : (c : Context) → HandlersRead c stmt_tree.no_excepts
  no_handlers_read c d l h = lines_mapped words size (λ ts us. none) (no_lines words size)
    where
      none : {ts us : Tokens} → Nil ts us → Same (map_excepts shape) (stmt_grammar.IsHandlers c) stmt_tree.no_excepts ts us
      none nil = same stmt_grammar.no_handler refl

  handles_all_read : (c : Context) (b : Stmts) → Blocked (in_handler c) b
      → HandlersRead c (stmt_tree.except (stmt_tree.an_except None None b) stmt_tree.no_excepts)
  handles_all_read c b block d l h =
      lines_as words size (sym (nil_text (line d (codes "except" ⧺ [] ⧺ [] ⧺ codes ":") ⧺ stmts_lines word (suc d) b)))
      (lines_mapped words size (λ ts us. of) (lines_fitted words size (starts_lines d) (λ cs k. k)
      (headed words size (in_handler c) b d l (codes "except" ⧺ [] ⧺ [])
      (fitted words size (λ cs k. k) number_word (word_except d l) ⊳ nothing words size ⊳ nothing words size) block
      (omega arith))))
    where
      of : {ts us : Tokens} → Seq (Seq (Seq (Tok kind.Except) Nil) Nil) (Suite (in_handler c) b) ts us
          → Same (map_excepts shape) (stmt_grammar.IsHandlers c) (stmt_tree.except (stmt_tree.an_except None None b) stmt_tree.no_excepts) ts us
      of (both (both (both (token h) nil) nil) (same q v)) =
          same (stmt_grammar.handles_all h q) (λ k. stmt_tree.except (stmt_tree.an_except None None (v k)) stmt_tree.no_excepts)

  handles_read : (c : Context) (x : Expr) (b : Stmts) (hs : Excepts) → Whole words size x → Blocked (in_handler c) b
      → HandlersRead c hs → HandlersRead c (stmt_tree.except (stmt_tree.an_except (Some x) None b) hs)
  handles_read c x b hs a block more d l h =
      lines_mapped words size (λ ts us. of) (lines_fitted words size (starts_lines d) (λ cs k. k) (lines_then words size
      (headed words size (in_handler c) b d l (codes "except" ⧺ (codes " " ⧺ expr_text word x) ⧺ [])
      (word_except d l ⊳ (gap_before d l ⊳ (a (columns_at d) l).whole 0 (omega arith)) ⊳ nothing words size) block
      (omega arith))
      (λ m. more d m (omega arith))))
    where
      of : {ts us : Tokens}
          → Seq (Seq (Seq (Seq (Tok kind.Except) (Seq Nil (SameExpr grammar.IsExpr x))) Nil) (Suite (in_handler c) b))
          (Same (map_excepts shape) (stmt_grammar.IsHandlers c) hs) ts us
          → Same (map_excepts shape) (stmt_grammar.IsHandlers c) (stmt_tree.except (stmt_tree.an_except (Some x) None b) hs) ts us
      of (both (both (both (both (token h) (both nil (same p u))) nil) (same q v)) (same r z)) =
          same (stmt_grammar.handles h p q r) (λ k. stmt_tree.except (stmt_tree.an_except (Some (u k)) None (v k)) (z k))

  handles_named_read : (c : Context) (x : Expr) (n : Named) (b : Stmts) (hs : Excepts) → Whole words size x
      → IsGoodName words n.name → Blocked (in_handler c) b → HandlersRead c hs
      → HandlersRead c (stmt_tree.except (stmt_tree.an_except (Some x) (Some n) b) hs)
  handles_named_read c x n b hs a good block more d l h =
      lines_mapped words size (λ ts us. of) (lines_fitted words size (starts_lines d) (λ cs k. k) (lines_then words size
      (headed words size (in_handler c) b d l (codes "except" ⧺ (codes " " ⧺ expr_text word x) ⧺
      (codes " as " ⧺ word n.name))
      (word_except d l ⊳ (gap_before d l ⊳ (a (columns_at d) l).whole 0 (omega arith))
      ⊳ (as_between d l ⊳ fitted words size (λ cs k. k) number_word
      (name_read words size (columns_at d) l n.name good))) block (omega arith))
      (λ m. more d m (omega arith))))
    where
      of : {ts us : Tokens}
          → Seq (Seq (Seq (Seq (Tok kind.Except) (Seq Nil (SameExpr grammar.IsExpr x)))
          (Seq (Tok kind.As) (Tok (kind.Name n.name)))) (Suite (in_handler c) b))
          (Same (map_excepts shape) (stmt_grammar.IsHandlers c) hs) ts us
          → Same (map_excepts shape) (stmt_grammar.IsHandlers c) (stmt_tree.except (stmt_tree.an_except (Some x) (Some n) b) hs) ts us
      of (both (both (both (both (token h) (both nil (same p u))) (both (token i) (token j))) (same q v)) (same r z)) =
          same (stmt_grammar.handles_named h p i j q r)
          (λ k. stmt_tree.except (stmt_tree.an_except (Some (u k)) (Some (record { name = n.name; line = record { 0 = 0 } })) (v k))
          (z k))

  -- ---- all of them

  target_whole : {p : Target} {l : Line} {ts us : Tokens} → grammar.IsTarget p l ts us → Good words ts
      → ((columns : List ℕ) (line : ℕ) → ReadPart words size columns line p) × Good words us
  target_whole q ok = (
    λ columns line. (target_back words size columns line q ok).0,
    (target_back words size [] 0 q ok).1,
  )

  params_whole : {ps : Params} {ts us : Tokens} → grammar.IsParams any ps ts us → Good words ts
      → ((columns : List ℕ) (line : ℕ) → ReadParams words size columns line any ps) × Good words us
  params_whole q ok = (
    λ columns line. (params_back words size columns line q ok).0,
    (params_back words size [] 0 q ok).1,
  )

  bases_back : {ts us : Tokens} → stmt_grammar.IsEmptyBases ts us → Good words ts → Good words us
  bases_back stmt_grammar.no_bases ok = ok
  bases_back (stmt_grammar.empty_bases h i) ok = behind words (behind words ok)

  mutual
    statement_back : {c : Context} {xs : Stmts} {ts us : Tokens} → stmt_grammar.IsStatement c xs ts us → Good words ts
        → AllStmts words size c xs × IsSome xs × Good words us
    statement_back (stmt_grammar.a_line p) ok = line_back words size p ok
    statement_back (stmt_grammar.a_compound {ts = ts} p) ok = let a = compound_back p ok in ((a.0 (line_at ts), tt), tt, a.1)

    compound_back : {c : Context} {x : StmtForm} {ts us : Tokens} → stmt_grammar.IsCompound c x ts us → Good words ts
        → ((l : Line) → StmtRead words size c (stmt_tree.a_stmt l x)) × Good words us
    compound_back {c = c} (stmt_grammar.is_if {e = x} {b = b} {bs = bs} {other = o} h p q r y) ok =
        let a = whole_back words size p (behind words ok) in let f = suite_back q a.1 in let i = elifs_back r f.1 in
        let j = else_back y i.1 in
        (λ l. if_read c l x b bs o a.0 f.0 i.0 j.0, j.1)
    compound_back {c = c} (stmt_grammar.is_while {e = x} {b = b} h p q) ok =
        let a = whole_back words size p (behind words ok) in let f = suite_back q a.1 in
        (λ l. while_read c l x b a.0 f.0, f.1)
    compound_back {c = c} (stmt_grammar.is_for {p = p} {e = x} {b = b} h q i r y) ok =
        let a = target_whole q (behind words ok) in let f = exprs_back words size r (behind words a.1) in let j =
        suite_back y f.1 in (λ l. for_read c l p x b a.0 f.0 j.0, j.1)
    compound_back {c = c} (stmt_grammar.is_try {b = b} {h = x} {hs = hs} {other = o} {last = f} h p q r y) ok =
        let a = suite_back p (behind words ok) in let i = handlers_back q a.1 in let j = else_back r i.1 in let k =
        finally_back y j.1 in
        (λ l. try_read c l b x hs o f a.0 i.0 j.0 k.0, k.1)
    compound_back {c = c} (stmt_grammar.is_try_finally {b = b} {last = f} h p q) ok =
        let a = suite_back p (behind words ok) in let i = finally_back q a.1 in
        (λ l. try_finally_read c l b f a.0 i.0, i.1)
    compound_back {c = c} (stmt_grammar.is_def {n = n} {ps = ps} {b = b} {ts = ts} h i j p apart k q) ok =
        let a = params_whole p (behind words (behind words (behind words ok))) in let f =
        suite_back q (behind words a.1) in
        (λ l. def_read c l (named n (skip ts)) ps b (name_at words i (behind words ok)) a.0 apart f.0, f.1)
    compound_back {c = c} (stmt_grammar.is_class {n = n} {b = b} {ts = ts} h i p q members) ok =
        let f = suite_back q (bases_back p (behind words (behind words ok))) in
        (λ l. class_read c l (named n (skip ts)) b (name_at words i (behind words ok)) f.0 members, f.1)

    elifs_back : {c : Context} {bs : Branches} {ts us : Tokens} → stmt_grammar.IsElifs c bs ts us → Good words ts → ElifsRead c bs
        × Good words us
    elifs_back {c = c} stmt_grammar.no_elif ok = (no_elif_read c, ok)
    elifs_back {c = c} (stmt_grammar.an_elif {e = x} {b = b} {bs = bs} h p q r) ok =
        let a = whole_back words size p (behind words ok) in let f = suite_back q a.1 in let i = elifs_back r f.1 in
        (elif_read c x b bs a.0 f.0 i.0, i.1)

    else_back : {c : Context} {b : MaybeStmts} {ts us : Tokens} → stmt_grammar.IsElse c b ts us → Good words ts → ElseRead c b
        × Good words us
    else_back {c = c} stmt_grammar.no_else ok = (no_else_read c, ok)
    else_back {c = c} (stmt_grammar.an_else {b = b} h q) ok = let f = suite_back q (behind words ok) in (else_read c b f.0, f.1)

    finally_back : {c : Context} {b : MaybeStmts} {ts us : Tokens} → stmt_grammar.IsFinally c b ts us → Good words ts
        → FinallyRead c b × Good words us
    finally_back {c = c} stmt_grammar.no_finally ok = (no_finally_read c, ok)
    finally_back {c = c} (stmt_grammar.a_finally {b = b} h q) ok = let f = suite_back q (behind words ok) in
        (finally_read c b f.0, f.1)

    handlers_back : {c : Context} {hs : Excepts} {ts us : Tokens} → stmt_grammar.IsHandlers c hs ts us → Good words ts
        → HandlersRead c hs × Good words us
    handlers_back {c = c} stmt_grammar.no_handler ok = (no_handlers_read c, ok)
    handlers_back {c = c} (stmt_grammar.handles_all {b = b} h q) ok = let f = suite_back q (behind words ok) in
        (handles_all_read c b f.0, f.1)
    handlers_back {c = c} (stmt_grammar.handles {e = x} {b = b} {hs = hs} h p q r) ok =
        let a = whole_back words size p (behind words ok) in let f = suite_back q a.1 in let i = handlers_back r f.1 in
        (handles_read c x b hs a.0 f.0 i.0, i.1)
    handlers_back {c = c} (stmt_grammar.handles_named {e = x} {n = n} {b = b} {hs = hs} {us = us} h p i j q r) ok =
        let a = whole_back words size p (behind words ok) in let f = suite_back q (behind words (behind words a.1)) in
        let k = handlers_back r f.1 in
        (handles_named_read c x (named n (skip us)) b hs a.0 (name_at words j (behind words a.1)) f.0 k.0, k.1)

    suite_back : {c : Context} {b : Stmts} {ts us : Tokens} → stmt_grammar.IsSuite c b ts us → Good words ts → Blocked c b
        × Good words us
    suite_back (stmt_grammar.suite h p) ok = body_back p (behind words ok)

    body_back : {c : Context} {b : Stmts} {ts us : Tokens} → stmt_grammar.IsBlock c b ts us → Good words ts → Blocked c b
        × Good words us
    body_back {c = c} {b = b} (stmt_grammar.one_line p) ok = let a = line_back words size p ok in
        (block_read words size c b a.0 a.1, a.2)
    body_back {c = c} (stmt_grammar.indented {xs = xs} {ys = ys} h i p q j) ok =
        let a = statement_back p (behind words (behind words ok)) in let f = statements_back q a.2 in (
          block_read words size c (joined xs ys) (all_joined words size c xs ys a.0 f.0)
              (some_joined xs ys a.1),
          behind words f.1,
        )

    pub statements_back : {c : Context} {xs : Stmts} {ts us : Tokens} → stmt_grammar.IsStatements c xs ts us → Good words ts
        → AllStmts words size c xs × Good words us
    statements_back stmt_grammar.no_statement ok = (tt, ok)
    statements_back {c = c} (stmt_grammar.more_statements {xs = xs} {ys = ys} p q) ok =
        let a = statement_back p ok in let f = statements_back q a.2 in (all_joined words size c xs ys a.0 f.0, f.1)
