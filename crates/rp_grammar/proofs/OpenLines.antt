-- The places within lines of simple statements are open.
use Rattle.std.proofs.Common.{◌≡◌, ℕ, zero, suc, ◌≤◌, Bool, true, not, ◌&&◌, [], refl, arith}
use Rattle.rp_token.specs.declared.token.TokenKind.{TokenKind}
use Rattle.rp_token.specs.declared.token.TokenKind.TheVariants as kind
use Rattle.rp_tree.specs.Heights.{stmt_height}
use Rattle.rp_tree.specs.Statements as stmt_tree
use Rattle.rp_tree.specs.Statements.{Stmt, Stmts}
use Rattle.rp_grammar.specs.Kinds.{Tokens, first, skip}
use Rattle.rp_grammar.specs.ExpressionReading.{Readers}
use Rattle.rp_grammar.proofs.ExpressionSound.{AreSound}
use Rattle.rp_grammar.specs.Statements as stmt_grammar
use Rattle.rp_grammar.specs.Statements.{Context, one, is_member, are_members}
use Rattle.rp_grammar.specs.StatementReading as stmt_reading
use Rattle.rp_grammar.specs.StatementReading.{Found}
use Rattle.rp_grammar.proofs.Founds.{from_ok}
use Rattle.rp_grammar.proofs.Parts.{word, simple_again}
use Rattle.rp_grammar.proofs.StatementSound.{IsRead, LineEnd, goes_on, item_sound, joined_members, one_member}
use Rattle.rp_grammar.proofs.Opens.{Until, until_step, Opens, again_opens, closing, Any, pass_line, Tells, reads, silent, tells, bind_tells, map_tells, from_tells, cond_tells, within_tells}

-- some statements of a line
abbrev pub SomeLine : ℕ → Context → Bool → Tokens → Tokens → Type 0
SomeLine h c members = Any (IsRead stmt_grammar.IsLine h c members)

pub line_here : (h : ℕ) (c : Context) (members : Bool) (ts : Tokens) → Opens (SomeLine (suc h) c members) ts ts
line_here h c members ts = record { dedents = 0; front = []; until = record { parts = refl; enough = omega arith }; spelled = λ tail. (one (stmt_tree.a_stmt (record { 0 = 0 }) stmt_tree.pass), pass_line h c members tail) }

more_made : {h : ℕ} {c : Context} {members : Bool} {x : Stmt} {ts us vs : Tokens} → stmt_grammar.IsSimple c x ts us → stmt_height x ≤ h → (members ≡ true → is_member x ≡ true) → first us ≡ kind.Semicolon → SomeLine h c members (skip us) vs
    → SomeLine h c members ts vs
more_made {x = x} q low member is (xs, read) =
    let rest = read.low in
    (stmt_tree.stmt x xs, record { spelled = stmt_grammar.line_more q is read.spelled; low = omega (arith, low, rest); are_members = λ m. joined_members (one x) xs (one_member x (member m)) (read.are_members m) })

-- behind a statement of the line
item_behind : {h : ℕ} {c : Context} {members more : Bool} {x : Stmt} {ts us vs q : Tokens} → stmt_grammar.IsSimple c x ts us → stmt_height x ≤ h → (members ≡ true → is_member x ≡ true) → LineEnd more us vs → more ≡ true
    → Opens (SomeLine h c members) vs q → Opens (SomeLine h c members) ts q
item_behind {us = us} {q = q} p low member (goes_on is) m o =
    let (x, w, is, l) = word (Until q o.dedents) (until_step q o.dedents) us is refl o.until in
    let (f, w, p) = simple_again (Until q o.dedents) (until_step q o.dedents) p w in
    again_opens o f w (λ tail. more_made (p (closing o.dedents tail)) low member is (o.spelled tail))
item_behind p low member _ m o = absurd cc

module _ (rs : Readers) where
  simple_tells : {O : Tokens → Type 0} (h : ℕ) (c : Context) (members : Bool) (ts : Tokens) → Tells O (stmt_reading.simple_at rs h c members ts)
  unfolding stmt_reading.simple_at
  simple_tells h c members ts = bind_tells _ _ (within_tells stmt_height (suc h) (stmt_reading.simple rs c ts)) (λ x found. cond_tells (members && not (is_member x.0)) _ _ (λ no. silent) (λ member. reads))

  separated_tells : {O : Tokens → Type 0} (k : TokenKind) (x : Stmt) (us : Tokens) → Tells O (stmt_reading.separated k x us)
  separated_tells kind.Newline x us = reads
  separated_tells kind.Semicolon x us = cond_tells (stmt_reading.is_newline (first (skip us))) _ _ (λ newline. reads) (λ other. reads)
  separated_tells _ x us = silent

  item_tells : {O : Tokens → Type 0} (h : ℕ) (c : Context) (members : Bool) (ts : Tokens) → Tells O (stmt_reading.item_at rs h c members ts)
  unfolding stmt_reading.item_at
  item_tells h c members ts = bind_tells _ _ (simple_tells h c members ts) (λ x found. separated_tells (first x.1) x.0 x.1)

  pub line_tells : AreSound rs → (n h : ℕ) (c : Context) (members : Bool) (ts : Tokens) → Tells (Opens (SomeLine (suc h) c members) ts) (stmt_reading.line_by n rs h c members ts)
  unfolding stmt_reading.line_by
  line_tells inner zero h c members ts = tells (line_here h c members ts)
  line_tells inner (suc n) h c members ts =
      bind_tells _ _ (from_tells ts _ (item_tells h c members ts) (line_here h c members ts)) (λ x found.
      let item = item_sound rs inner h c members ts x (from_ok ts _ _ found) in
      cond_tells x.0.1 _ _ (λ more. bind_tells _ _ (map_tells (line_tells inner n h c members x.1) (λ q o. item_behind item.spelled item.low item.is_member item.ending more o)) (λ xs found. reads)) (λ last. reads))
