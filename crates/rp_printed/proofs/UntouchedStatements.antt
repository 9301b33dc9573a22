-- Expansion leaves the tokens of statements.
use Rattle.std.proofs.Common.{refl, true, false, List}
use Rattle.rp_base.specs.declared.value.Line.{Line}
use Rattle.rp_tree.specs.Expressions.{Named, Place, Target}
use Rattle.rp_tree.specs.Statements.{Branches, Excepts, MaybeStmts, Stmt, StmtForm, Stmts}
use Rattle.rp_grammar.specs.Kinds.{Tokens, first, skip}
use Rattle.rp_grammar.specs.Statements as grammar
use Rattle.rp_grammar.specs.Statements.{Context}
use Rattle.rp_printed.proofs.Untouched.{◌▹◌, Goes, augmented_plain, back, front, in_parentheses, name_goes, nothing}
use Rattle.rp_printed.proofs.Untouched.{plain_goes, stays, within}
use Rattle.rp_printed.proofs.UntouchedExpressions.{expr_goes, exprs_go, group_goes, params_go, parts_go, place_goes}
use Rattle.rp_printed.proofs.UntouchedExpressions.{target_goes}

names_go : {ns : List Named} {ts us : Tokens} → grammar.IsNames ns ts us → Goes false ts true us
names_go {ts = ts} (grammar.last_name h) = front (name_goes ts h)
names_go {ts = ts} (grammar.more_names h i q) = front (name_goes ts h) ▹ plain_goes (skip ts) i refl ▹ names_go q

places_go : {ps : List Place} {ts us : Tokens} → grammar.IsPlaces ps ts us → Goes false ts true us
places_go (grammar.last_place p) = place_goes p
places_go (grammar.last_comma {us = us} p h) = place_goes p ▹ back (plain_goes us h refl)
places_go (grammar.more_places {us = us} p h q) = place_goes p ▹ plain_goes us h refl ▹ places_go q

assigned_goes : {ps : List Place} {ts us : Tokens} → grammar.Assigned ps ts us → Goes false ts false us
assigned_goes (grammar.last_assigned {us = us} p h) = place_goes p ▹ plain_goes us h refl
assigned_goes (grammar.more_assigned {us = us} p h q) = place_goes p ▹ plain_goes us h refl ▹ assigned_goes q

unpacked_goes : {p : Target} {line : Line} {ts us : Tokens} → grammar.IsUnpacked p line ts us → Goes false ts true us
unpacked_goes (grammar.a_group p) = group_goes p
unpacked_goes (grammar.some_parts p) = parts_go p

simple_goes : {c : Context} {x : Stmt} {ts us : Tokens} → grammar.IsSimple c x ts us → Goes false ts true us
simple_goes {ts = ts} (grammar.is_pass h) = within (plain_goes ts h refl)
simple_goes {ts = ts} (grammar.is_break inside h) = within (plain_goes ts h refl)
simple_goes {ts = ts} (grammar.is_continue inside h) = within (plain_goes ts h refl)
simple_goes {ts = ts} (grammar.is_return inside h) = within (plain_goes ts h refl)
simple_goes {ts = ts} (grammar.returns_value inside h p) = front (plain_goes ts h refl) ▹ exprs_go p
simple_goes {ts = ts} (grammar.raises_again inside h) = within (plain_goes ts h refl)
simple_goes {ts = ts} (grammar.is_raise h p) = front (plain_goes ts h refl) ▹ expr_goes p
simple_goes {ts = ts} (grammar.is_assert h p) = front (plain_goes ts h refl) ▹ expr_goes p
simple_goes {ts = ts} (grammar.asserts_with_text {us = us} h p i q) =
    front (plain_goes ts h refl) ▹ expr_goes p ▹ plain_goes us i refl ▹ expr_goes q
simple_goes {ts = ts} (grammar.is_global outside free h p) = front (plain_goes ts h refl) ▹ names_go p
simple_goes {ts = ts} (grammar.is_del h p) = front (plain_goes ts h refl) ▹ places_go p
simple_goes (grammar.is_value p) = exprs_go p
simple_goes (grammar.is_augmented {o = o} {us = us} p h q) =
    place_goes p ▹ plain_goes {k = first us} us refl (augmented_plain (first us) o h) ▹ exprs_go q
simple_goes (grammar.is_assignment p q) = assigned_goes p ▹ exprs_go q
simple_goes (grammar.is_unpacking {us = us} p h q) = unpacked_goes p ▹ plain_goes us h refl ▹ exprs_go q

line_goes : {c : Context} {xs : Stmts} {ts us : Tokens} → grammar.IsLine c xs ts us → Goes false ts false us
line_goes (grammar.line_end {us = us} x h) = simple_goes x ▹ plain_goes us h refl
line_goes (grammar.line_semicolon {us = us} x h i) =
    simple_goes x ▹ plain_goes us h refl ▹ front (plain_goes (skip us) i refl)
line_goes (grammar.line_more {us = us} x h xs) = simple_goes x ▹ plain_goes us h refl ▹ line_goes xs

bases_go : {ts us : Tokens} → grammar.IsEmptyBases ts us → Goes true ts true us
bases_go {ts = ts} grammar.no_bases = stays true ts
bases_go {ts = ts} (grammar.empty_bases h i) = back (in_parentheses ts (skip ts) h (nothing (skip ts)) i)

mutual
  statement_goes : {c : Context} {xs : Stmts} {ts us : Tokens} → grammar.IsStatement c xs ts us → Goes false ts false us
  statement_goes (grammar.a_line l) = line_goes l
  statement_goes (grammar.a_compound x) = compound_goes x

  compound_goes : {c : Context} {form : StmtForm} {ts us : Tokens} → grammar.IsCompound c form ts us
      → Goes false ts false us
  compound_goes {ts = ts} (grammar.is_if h e b bs o) =
      front (plain_goes ts h refl) ▹ expr_goes e ▹ suite_goes b ▹ elifs_go bs ▹ else_goes o
  compound_goes {ts = ts} (grammar.is_while h e b) = front (plain_goes ts h refl) ▹ expr_goes e ▹ suite_goes b
  compound_goes {ts = ts} (grammar.is_for {us = us} h p i e b) =
      front (plain_goes ts h refl) ▹ target_goes p ▹ plain_goes us i refl ▹ exprs_go e ▹ suite_goes b
  compound_goes {ts = ts} (grammar.is_try h b hs o l) =
      front (plain_goes ts h refl) ▹ front (suite_goes b) ▹ handlers_go hs ▹ else_goes o ▹ finally_goes l
  compound_goes {ts = ts} (grammar.is_try_finally h b l) =
      front (plain_goes ts h refl) ▹ front (suite_goes b) ▹ finally_goes l
  compound_goes {ts = ts} (grammar.is_def {us = us} h n opens ps differ closes b) =
      front (plain_goes ts h refl) ▹ front (name_goes (skip ts) n)
      ▹ in_parentheses (skip (skip ts)) us opens (params_go ps) closes ▹ front (suite_goes b)
  compound_goes {ts = ts} (grammar.is_class h n empty b members) =
      front (plain_goes ts h refl) ▹ front (name_goes (skip ts) n) ▹ bases_go empty ▹ suite_goes b

  elifs_go : {c : Context} {bs : Branches} {ts us : Tokens} → grammar.IsElifs c bs ts us → Goes false ts false us
  elifs_go {ts = ts} grammar.no_elif = stays false ts
  elifs_go {ts = ts} (grammar.an_elif h e b bs) =
      front (plain_goes ts h refl) ▹ expr_goes e ▹ suite_goes b ▹ elifs_go bs

  else_goes : {c : Context} {o : MaybeStmts} {ts us : Tokens} → grammar.IsElse c o ts us → Goes false ts false us
  else_goes {ts = ts} grammar.no_else = stays false ts
  else_goes {ts = ts} (grammar.an_else h b) = front (plain_goes ts h refl) ▹ front (suite_goes b)

  finally_goes : {c : Context} {o : MaybeStmts} {ts us : Tokens} → grammar.IsFinally c o ts us → Goes false ts false us
  finally_goes {ts = ts} grammar.no_finally = stays false ts
  finally_goes {ts = ts} (grammar.a_finally h b) = front (plain_goes ts h refl) ▹ front (suite_goes b)

  handlers_go : {c : Context} {hs : Excepts} {ts us : Tokens} → grammar.IsHandlers c hs ts us → Goes false ts false us
  handlers_go {ts = ts} grammar.no_handler = stays false ts
  handlers_go {ts = ts} (grammar.handles_all h b) = front (plain_goes ts h refl) ▹ front (suite_goes b)
  handlers_go {ts = ts} (grammar.handles h e b hs) =
      front (plain_goes ts h refl) ▹ expr_goes e ▹ suite_goes b ▹ handlers_go hs
  handlers_go {ts = ts} (grammar.handles_named {us = us} h e i n b hs) =
      front (plain_goes ts h refl) ▹ expr_goes e ▹ plain_goes us i refl ▹ front (name_goes (skip us) n) ▹ suite_goes b
      ▹ handlers_go hs

  suite_goes : {c : Context} {xs : Stmts} {ts us : Tokens} → grammar.IsSuite c xs ts us → Goes true ts false us
  suite_goes {ts = ts} (grammar.suite h b) = plain_goes ts h refl ▹ block_goes b

  block_goes : {c : Context} {xs : Stmts} {ts us : Tokens} → grammar.IsBlock c xs ts us → Goes false ts false us
  block_goes (grammar.one_line l) = line_goes l
  block_goes {ts = ts} (grammar.indented {vs = vs} h i x xs j) =
      front (plain_goes ts h refl) ▹ front (plain_goes (skip ts) i refl) ▹ statement_goes x ▹ statements_go xs
      ▹ front (plain_goes vs j refl)

  pub statements_go : {c : Context} {xs : Stmts} {ts us : Tokens} → grammar.IsStatements c xs ts us
      → Goes false ts false us
  statements_go {ts = ts} grammar.no_statement = stays false ts
  statements_go (grammar.more_statements x xs) = statement_goes x ▹ statements_go xs
