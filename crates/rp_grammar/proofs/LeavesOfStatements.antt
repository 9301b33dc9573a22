-- What is spelled as a statement has the names and the numbers of its tokens, code blocks without numbers, and no guard marks.
use Rattle.std.proofs.Common.{◌≡◌, Bool, true, List, None, refl}
use Rattle.std.specs.List.{list_all}
use Rattle.std.proofs.lemmas.Bool.{and_parts}
use Rattle.rp_base.specs.declared.value.Line.{Line}
use Rattle.rp_base.specs.declared.value.Name.{Name}
use Rattle.rp_tree.specs.Expressions.{Named, Expr, Place, Target}
use Rattle.rp_tree.specs.Statements as stmt_tree
use Rattle.rp_tree.specs.Statements.{Stmt, StmtForm, Stmts, MaybeStmts, Branches, Excepts}
use Rattle.rp_grammar.specs.Kinds.{Tokens}
use Rattle.rp_grammar.specs.Expressions as grammar
use Rattle.rp_grammar.specs.Leaves.{LeafTest, tokens_pass, named_passes, expr_passes, place_passes, target_passes, stmt_passes, stmt_form_passes, stmts_pass, maybe_stmts_pass, branches_pass, excepts_pass}
use Rattle.rp_grammar.specs.Program.{Spells}
use Rattle.rp_grammar.specs.Statements as stmt_grammar
use Rattle.rp_grammar.specs.Statements.{Context, joined}
use Rattle.rp_grammar.proofs.LeavesOfExpressions as leaves
use Rattle.rp_grammar.proofs.LeavesOfExpressions.{both}

module _ (l : LeafTest Name) (block : l.block 0 ≡ true) (mark : l.mark None ≡ true) where
  abbrev Pass : Tokens → Type 0
  Pass ts = leaves.Pass l ts

  joined_passes : (xs ys : Stmts) → stmts_pass l xs ≡ true → stmts_pass l ys ≡ true → stmts_pass l (joined xs ys) ≡ true
  joined_passes stmt_tree.no_stmts ys h k = k
  joined_passes (stmt_tree.stmt x xs) ys h k = let (here, rest) = and_parts (stmt_passes l x) (stmts_pass l xs) h in both here (joined_passes xs ys rest k)

  bases_fit : {ts us : Tokens} → stmt_grammar.IsEmptyBases ts us → Pass ts → Pass us
  bases_fit stmt_grammar.no_bases ok = ok
  bases_fit (stmt_grammar.empty_bases opens closes) ok = leaves.behind l (leaves.behind l ok)

  pub names_fit : {ns : List Named} {ts us : Tokens} → stmt_grammar.IsNames ns ts us → Pass ts → (list_all (named_passes l) ns ≡ true) × Pass us
  names_fit (stmt_grammar.last_name h) ok = let n = leaves.name_at l h ok in (both n refl, leaves.behind l ok)
  names_fit (stmt_grammar.more_names h comma q) ok = let n = leaves.name_at l h ok in let a = names_fit q (leaves.behind l (leaves.behind l ok)) in (both n a.0, a.1)

  pub places_fit : {ps : List Place} {ts us : Tokens} → stmt_grammar.IsPlaces ps ts us → Pass ts → (list_all (place_passes l) ps ≡ true) × Pass us
  places_fit (stmt_grammar.last_place p) ok = let a = leaves.place_fits l block mark p ok in (both a.0 refl, a.1)
  places_fit (stmt_grammar.last_comma p comma) ok = let a = leaves.place_fits l block mark p ok in (both a.0 refl, leaves.behind l a.1)
  places_fit (stmt_grammar.more_places p comma q) ok = let a = leaves.place_fits l block mark p ok in let b = places_fit q (leaves.behind l a.1) in (both a.0 b.0, b.1)

  pub assigned_fit : {ps : List Place} {ts us : Tokens} → stmt_grammar.Assigned ps ts us → Pass ts → (list_all (place_passes l) ps ≡ true) × Pass us
  assigned_fit (stmt_grammar.last_assigned p equal) ok = let a = leaves.place_fits l block mark p ok in (both a.0 refl, leaves.behind l a.1)
  assigned_fit (stmt_grammar.more_assigned p equal q) ok = let a = leaves.place_fits l block mark p ok in let b = assigned_fit q (leaves.behind l a.1) in (both a.0 b.0, b.1)

  pub unpacked_fits : {p : Target} {line : Line} {ts us : Tokens} → stmt_grammar.IsUnpacked p line ts us → Pass ts → (target_passes l p ≡ true) × Pass us
  unpacked_fits (stmt_grammar.a_group p) ok = leaves.group_fits l block mark p ok
  unpacked_fits (stmt_grammar.some_parts p) ok = leaves.parts_fit l block mark p ok

  pub exprs_fit : {e : Expr} {ts us : Tokens} → grammar.IsExprs e ts us → Pass ts → (expr_passes l e ≡ true) × Pass us
  exprs_fit (grammar.an_expr p) ok = leaves.expr_fits l block mark p ok
  exprs_fit (grammar.several p h q) ok = let a = leaves.expr_fits l block mark p ok in let b = leaves.listed_fit l block mark q (leaves.behind l a.1) in (both a.0 b.0, b.1)

  pub simple_fits : {c : Context} {x : Stmt} {ts us : Tokens} → stmt_grammar.IsSimple c x ts us → Pass ts → (stmt_passes l x ≡ true) × Pass us
  simple_fits (stmt_grammar.is_pass h) ok = (refl, leaves.behind l ok)
  simple_fits (stmt_grammar.is_break inside h) ok = (refl, leaves.behind l ok)
  simple_fits (stmt_grammar.is_continue inside h) ok = (refl, leaves.behind l ok)
  simple_fits (stmt_grammar.is_return inside h) ok = (refl, leaves.behind l ok)
  simple_fits (stmt_grammar.returns_value inside h p) ok = exprs_fit p (leaves.behind l ok)
  simple_fits (stmt_grammar.raises_again inside h) ok = (refl, leaves.behind l ok)
  simple_fits (stmt_grammar.is_raise h p) ok = leaves.expr_fits l block mark p (leaves.behind l ok)
  simple_fits (stmt_grammar.is_assert h p) ok = let a = leaves.expr_fits l block mark p (leaves.behind l ok) in (both a.0 refl, a.1)
  simple_fits (stmt_grammar.asserts_with_text h p comma q) ok = let a = leaves.expr_fits l block mark p (leaves.behind l ok) in let b = leaves.expr_fits l block mark q (leaves.behind l a.1) in (both a.0 b.0, b.1)
  simple_fits (stmt_grammar.is_global outside free h p) ok = names_fit p (leaves.behind l ok)
  simple_fits (stmt_grammar.is_del h p) ok = places_fit p (leaves.behind l ok)
  simple_fits (stmt_grammar.is_value p) ok = exprs_fit p ok
  simple_fits (stmt_grammar.is_augmented p sign q) ok = let a = leaves.place_fits l block mark p ok in let b = exprs_fit q (leaves.behind l a.1) in (both (both a.0 b.0) mark, b.1)
  simple_fits (stmt_grammar.is_assignment p q) ok = let a = assigned_fit p ok in let b = exprs_fit q a.1 in (both a.0 b.0, b.1)
  simple_fits (stmt_grammar.is_unpacking p equal q) ok = let a = unpacked_fits p ok in let b = exprs_fit q (leaves.behind l a.1) in (both (both a.0 b.0) mark, b.1)

  pub line_fits : {c : Context} {xs : Stmts} {ts us : Tokens} → stmt_grammar.IsLine c xs ts us → Pass ts → (stmts_pass l xs ≡ true) × Pass us
  line_fits (stmt_grammar.line_end x h) ok = let a = simple_fits x ok in (both a.0 refl, leaves.behind l a.1)
  line_fits (stmt_grammar.line_semicolon x h newline) ok = let a = simple_fits x ok in (both a.0 refl, leaves.behind l (leaves.behind l a.1))
  line_fits (stmt_grammar.line_more x h xs) ok = let a = simple_fits x ok in let b = line_fits xs (leaves.behind l a.1) in (both a.0 b.0, b.1)

  mutual
    pub statement_fits : {c : Context} {xs : Stmts} {ts us : Tokens} → stmt_grammar.IsStatement c xs ts us → Pass ts → (stmts_pass l xs ≡ true) × Pass us
    statement_fits (stmt_grammar.a_line x) ok = line_fits x ok
    statement_fits (stmt_grammar.a_compound x) ok = let a = compound_fits x ok in (both a.0 refl, a.1)

    pub compound_fits : {c : Context} {form : StmtForm} {ts us : Tokens} → stmt_grammar.IsCompound c form ts us → Pass ts → (stmt_form_passes l form ≡ true) × Pass us
    compound_fits (stmt_grammar.is_if h e b bs o) ok = let x = leaves.expr_fits l block mark e (leaves.behind l ok) in let y = suite_fits b x.1 in let z = elifs_fit bs y.1 in let w = else_fits o z.1 in (both (both (both x.0 y.0) z.0) w.0, w.1)
    compound_fits (stmt_grammar.is_while h e b) ok = let x = leaves.expr_fits l block mark e (leaves.behind l ok) in let y = suite_fits b x.1 in (both x.0 y.0, y.1)
    compound_fits (stmt_grammar.is_for h p comes e b) ok = let x = leaves.target_fits l block mark p (leaves.behind l ok) in let y = exprs_fit e (leaves.behind l x.1) in let z = suite_fits b y.1 in (both (both (both x.0 y.0) mark) z.0, z.1)
    compound_fits (stmt_grammar.is_try h b hs o last) ok = let x = suite_fits b (leaves.behind l ok) in let y = handlers_fit hs x.1 in let z = else_fits o y.1 in let w = finally_fits last z.1 in (both (both (both x.0 y.0) z.0) w.0, w.1)
    compound_fits (stmt_grammar.is_try_finally h b last) ok = let x = suite_fits b (leaves.behind l ok) in let y = finally_fits last x.1 in (both (both (both x.0 refl) refl) y.0, y.1)
    compound_fits (stmt_grammar.is_def h name opens ps differ closes b) ok = let n = leaves.name_at l name (leaves.behind l ok) in let x = leaves.params_fit l block mark ps (leaves.behind l (leaves.behind l (leaves.behind l ok))) in let y = suite_fits b (leaves.behind l x.1) in (both (both (both block n) x.0) y.0, y.1)
    compound_fits (stmt_grammar.is_class h name empty b members) ok = let n = leaves.name_at l name (leaves.behind l ok) in let r = bases_fit empty (leaves.behind l (leaves.behind l ok)) in let y = suite_fits b r in (both n y.0, y.1)

    pub elifs_fit : {c : Context} {bs : Branches} {ts us : Tokens} → stmt_grammar.IsElifs c bs ts us → Pass ts → (branches_pass l bs ≡ true) × Pass us
    elifs_fit stmt_grammar.no_elif ok = (refl, ok)
    elifs_fit (stmt_grammar.an_elif h e b bs) ok = let x = leaves.expr_fits l block mark e (leaves.behind l ok) in let y = suite_fits b x.1 in let z = elifs_fit bs y.1 in (both (both x.0 y.0) z.0, z.1)

    pub else_fits : {c : Context} {o : MaybeStmts} {ts us : Tokens} → stmt_grammar.IsElse c o ts us → Pass ts → (maybe_stmts_pass l o ≡ true) × Pass us
    else_fits stmt_grammar.no_else ok = (refl, ok)
    else_fits (stmt_grammar.an_else h b) ok = suite_fits b (leaves.behind l ok)

    pub finally_fits : {c : Context} {o : MaybeStmts} {ts us : Tokens} → stmt_grammar.IsFinally c o ts us → Pass ts → (maybe_stmts_pass l o ≡ true) × Pass us
    finally_fits stmt_grammar.no_finally ok = (refl, ok)
    finally_fits (stmt_grammar.a_finally h b) ok = suite_fits b (leaves.behind l ok)

    pub handlers_fit : {c : Context} {hs : Excepts} {ts us : Tokens} → stmt_grammar.IsHandlers c hs ts us → Pass ts → (excepts_pass l hs ≡ true) × Pass us
    handlers_fit stmt_grammar.no_handler ok = (refl, ok)
    handlers_fit (stmt_grammar.handles_all h b) ok = let x = suite_fits b (leaves.behind l ok) in (both (both (both refl refl) x.0) refl, x.1)
    handlers_fit (stmt_grammar.handles h e b hs) ok = let x = leaves.expr_fits l block mark e (leaves.behind l ok) in let y = suite_fits b x.1 in let z = handlers_fit hs y.1 in (both (both (both x.0 refl) y.0) z.0, z.1)
    handlers_fit (stmt_grammar.handles_named h e comes name b hs) ok = let x = leaves.expr_fits l block mark e (leaves.behind l ok) in let n = leaves.name_at l name (leaves.behind l x.1) in let y = suite_fits b (leaves.behind l (leaves.behind l x.1)) in let z = handlers_fit hs y.1 in (both (both (both x.0 n) y.0) z.0, z.1)

    pub suite_fits : {c : Context} {xs : Stmts} {ts us : Tokens} → stmt_grammar.IsSuite c xs ts us → Pass ts → (stmts_pass l xs ≡ true) × Pass us
    suite_fits (stmt_grammar.suite h b) ok = block_fits b (leaves.behind l ok)

    pub block_fits : {c : Context} {xs : Stmts} {ts us : Tokens} → stmt_grammar.IsBlock c xs ts us → Pass ts → (stmts_pass l xs ≡ true) × Pass us
    block_fits (stmt_grammar.one_line x) ok = line_fits x ok
    block_fits (stmt_grammar.indented {xs = xs} {ys = ys} newline indent x more dedent) ok = let a = statement_fits x (leaves.behind l (leaves.behind l ok)) in let b = statements_fit more a.1 in (joined_passes xs ys a.0 b.0, leaves.behind l b.1)

    pub statements_fit : {c : Context} {xs : Stmts} {ts us : Tokens} → stmt_grammar.IsStatements c xs ts us → Pass ts → (stmts_pass l xs ≡ true) × Pass us
    statements_fit stmt_grammar.no_statement ok = (refl, ok)
    statements_fit (stmt_grammar.more_statements {xs = xs} {ys = ys} x more) ok = let a = statement_fits x ok in let b = statements_fit more a.1 in (joined_passes xs ys a.0 b.0, b.1)

  pub tree_passes : (tree : Stmts) (ts : Tokens) → Spells tree ts → tokens_pass l ts ≡ true → stmts_pass l tree ≡ true
  tree_passes tree ts spells all = (statements_fit spells.statements (record { all = all })).0
