-- Simple statements that good tokens spell are read back.
use Rattle.std.proofs.Common.{◌≡◌, refl, sym, ap, subst, ◌∙◌, ℕ, ◌≤◌, true, false, ◌&&◌, List, [], ◌∷◌, map, codes}
use Rattle.std.proofs.Common.{Option, Some, None, arith}
use Rattle.std.specs.List.{list_all}
use Rattle.rp_base.specs.declared.operator.BinOp.{BinOp}
use Rattle.rp_base.specs.declared.operator.BinOp.TheVariants as binary
use Rattle.rp_base.specs.declared.value.Line.{Line}
use Rattle.rp_base.specs.declared.value.Name.{Name}
use Rattle.rp_grammar.specs.Kinds.{Tokens, augmented_of, first, line_at, skip}
use Rattle.rp_grammar.specs.Expressions as grammar
use Rattle.rp_grammar.specs.Expressions.{line_of, named, place_line}
use Rattle.rp_grammar.specs.Statements as stmt_grammar
use Rattle.rp_grammar.specs.Statements.{Context, is_free}
use Rattle.rp_print.specs.Texts.{◌⧺◌, further, joined as joined_texts}
use Rattle.rp_print.specs.Expressions.{expr_text, place_text}
use Rattle.rp_print.specs.Statements.{assigned_text, augmented_text, names_texts, places_texts}
use Rattle.rp_token.specs.declared.token.TokenKind.TheVariants as kind
use Rattle.rp_token.specs.Tokens.{most_brackets}
use Rattle.rp_tree.specs.Expressions.{Expr, Named, Place, Target}
use Rattle.rp_tree.specs.Heights.{places_height}
use Rattle.rp_tree.specs.Maps.{map_named, map_place, shape}
use Rattle.rp_tree.specs.Statements as stmt_tree
use Rattle.rp_tree.specs.Statements.{Stmt, StmtForm, Stmts}
use Rattle.rp_printed.proofs.Reading.{◌▹◌, IsGoodName, Nil, Reads, Same, Seq, Spot, Tok, both, fitted, inside, mapped}
use Rattle.rp_printed.proofs.Reading.{nil, nothing, reads_as, same, token}
use Rattle.rp_printed.proofs.Lexemes.{EndsNumber, EndsWord, Opens, keyword_read, number_word}
use Rattle.rp_printed.proofs.Lines.{columns_at}
use Rattle.rp_printed.proofs.Operands.{IsRead, SameExpr, blank, comma_gap, name_read}
use Rattle.rp_printed.proofs.Operators.{Marked, before_blank, marked, marked_by, spaced}
use Rattle.rp_printed.proofs.Places.{GroupOf, ReadGroup, ReadPlace, SameTarget, a_group, assoc_texts, nil_text}
use Rattle.rp_printed.proofs.ExpressionsBack.{Good, behind, expr_back, group_back, listed_back, name_at, parts_back}
use Rattle.rp_printed.proofs.ExpressionsBack.{place_back, tuple_back}
use Rattle.rp_printed.proofs.Blocks.{AllStmts, IsSome, SimpleOf, StmtRead, simple_read, w}

-- ---- lists of places and of names

data MorePlaces : List Place → Tokens → Tokens → Type 0 where
  no_more_places : {ts : Tokens} → MorePlaces [] ts ts
  one_more_place : {p : Place} {ps : List Place} {ts us vs : Tokens} → first ts ≡ kind.Comma → grammar.IsPlace p (skip ts) us
      → MorePlaces ps us vs → MorePlaces (p ∷ ps) ts vs

places_of : {p : Place} {ps : List Place} {ts us vs : Tokens} → grammar.IsPlace p ts us → MorePlaces ps us vs
    → stmt_grammar.IsPlaces (p ∷ ps) ts vs
places_of p no_more_places = stmt_grammar.last_place p
places_of p (one_more_place h q r) = stmt_grammar.more_places p h (places_of q r)

data MoreNames : List Named → Tokens → Tokens → Type 0 where
  no_more_names : {ts : Tokens} → MoreNames [] ts ts
  one_more_name : {n : Name} {ns : List Named} {ts us : Tokens} → first ts ≡ kind.Comma → first (skip ts) ≡ kind.Name n
      → MoreNames ns (skip (skip ts)) us
      → MoreNames (named n (skip ts) ∷ ns) ts us

names_at : {n : Name} {ns : List Named} {ts vs us : Tokens} → first ts ≡ kind.Name n → skip ts ≡ vs → MoreNames ns vs us
    → stmt_grammar.IsNames (named n ts ∷ ns) ts us
names_at {n = n} {ts = ts} h e no_more_names = subst (λ (v : Tokens). stmt_grammar.IsNames (named n ts ∷ []) ts v) e
    (stmt_grammar.last_name h)
names_at {vs = vs} {us = us} h e (one_more_name {n = m} {ns = ms} i j r) =
    stmt_grammar.more_names h (ap first e ∙ i) (subst (λ (v : Tokens). stmt_grammar.IsNames (named m (skip vs) ∷ ms) (skip v) us) (sym e)
    (names_at j refl r))

names_of : {n : Name} {ns : List Named} {ts us : Tokens} → first ts ≡ kind.Name n → MoreNames ns (skip ts) us
    → stmt_grammar.IsNames (named n ts ∷ ns) ts us
names_of h r = names_at h refl r

-- the names that may be named stay free
free_kept : (c : Option (List Name)) (n : Named) → is_free c (map_named shape n) ≡ is_free c n
free_kept None n = refl
free_kept (Some ns) n = refl

all_free_kept : (c : Option (List Name)) (ns : List Named) → list_all (is_free c) (map (map_named shape) ns)
    ≡ list_all (is_free c) ns
all_free_kept c [] = refl
all_free_kept c (n ∷ ns) = λ i. free_kept c n i && all_free_kept c ns i

same_free : (c : Option (List Name)) (ns ms : List Named) → map (map_named shape) ns ≡ map (map_named shape) ms
    → list_all (is_free c) ns ≡ list_all (is_free c) ms
same_free c ns ms e = sym (all_free_kept c ns) ∙ ap (list_all (is_free c)) e ∙ all_free_kept c ms

module _ (words : List (List ℕ)) (size : ℕ) where
  abbrev word : Name → List ℕ
  word = w words size

  infixl 50 ◌⊳◌
  abbrev ◌⊳◌ : {H F G : List ℕ → Type 0} {P Q : Tokens → Tokens → Type 0} {p q r : Spot} {a b : List ℕ}
      → Reads words size H F P p q a → Reads words size F G Q q r b → Reads words size H G (Seq P Q) p r (a ⧺ b)
  x ⊳ y = ◌▹◌ words size x y

  -- what is read on a line, outside brackets
  abbrev OnLine : (List ℕ → Type 0) → (List ℕ → Type 0) → (Tokens → Tokens → Type 0) → ℕ → ℕ → List ℕ → Type 0
  OnLine H G P d m text = Reads words size H G P (inside (columns_at d) m 0) (inside (columns_at d) m 0) text

  -- an expression, at each place
  abbrev pub Whole : Expr → Type 0
  Whole x = (columns : List ℕ) (line : ℕ) → IsRead words size columns line x

  abbrev Placed : Place → Type 0
  Placed p = (columns : List ℕ) (line : ℕ) → ReadPlace words size columns line p

  abbrev AllPlaces : List Place → Type 0
  AllPlaces [] = Unit {0}
  AllPlaces (p ∷ ps) = Placed p × AllPlaces ps

  abbrev AllNames : List Named → Type 0
  AllNames [] = Unit {0}
  AllNames (n ∷ ns) = IsGoodName words n.name × AllNames ns

  pub whole_back : {x : Expr} {ts us : Tokens} → grammar.IsExpr x ts us → Good words ts → Whole x × Good words us
  whole_back p ok = (λ columns line. (expr_back words size columns line p ok).0, (expr_back words size [] 0 p ok).1)

  pub exprs_back : {x : Expr} {ts us : Tokens} → grammar.IsExprs x ts us → Good words ts → Whole x × Good words us
  exprs_back (grammar.an_expr p) ok = whole_back p ok
  exprs_back (grammar.several {e = x} {es = xs} p h q) ok = (
    λ columns line. let a = expr_back words size columns line p ok in let b =
        listed_back words size columns line q (behind words a.1) in
        tuple_back words size columns line (line_of x) x xs a.0 b.0,
    let a = expr_back words size [] 0 p ok in (listed_back words size [] 0 q (behind words a.1)).1,
  )

  placed_back : {p : Place} {ts us : Tokens} → grammar.IsPlace p ts us → Good words ts → Placed p × Good words us
  placed_back p ok = (λ columns line. (place_back words size columns line p ok).0, (place_back words size [] 0 p ok).1)

  all_places_back : {ps : List Place} {ts us : Tokens} → stmt_grammar.IsPlaces ps ts us → Good words ts → AllPlaces ps
      × Good words us
  all_places_back (stmt_grammar.last_place p) ok = let a = placed_back p ok in ((a.0, tt), a.1)
  all_places_back (stmt_grammar.last_comma p h) ok = let a = placed_back p ok in ((a.0, tt), behind words a.1)
  all_places_back (stmt_grammar.more_places p h q) ok = let a = placed_back p ok in let b = all_places_back q (behind words a.1) in
      ((a.0, b.0), b.1)

  assigned_back : {ps : List Place} {ts us : Tokens} → stmt_grammar.Assigned ps ts us → Good words ts → AllPlaces ps
      × Good words us
  assigned_back (stmt_grammar.last_assigned p h) ok = let a = placed_back p ok in ((a.0, tt), behind words a.1)
  assigned_back (stmt_grammar.more_assigned p h q) ok = let a = placed_back p ok in let b = assigned_back q (behind words a.1) in
      ((a.0, b.0), b.1)

  all_names_back : {ns : List Named} {ts us : Tokens} → stmt_grammar.IsNames ns ts us → Good words ts → AllNames ns × Good words us
  all_names_back (stmt_grammar.last_name h) ok = ((name_at words h ok, tt), behind words ok)
  all_names_back (stmt_grammar.more_names h i q) ok = let b = all_names_back q (behind words (behind words ok)) in
      ((name_at words h ok, b.0), b.1)

  module _ (d m : ℕ) where
    comma_read : OnLine EndsNumber Opens (Tok kind.Comma) d m (codes ", ")
    comma_read = comma_gap words size (columns_at d) m

    further_places : (ps : List Place) → AllPlaces ps → places_height ps ≤ most_brackets
        → OnLine EndsNumber EndsNumber (Same (map (map_place shape)) MorePlaces ps) d m
        (further (codes ", ") (places_texts word ps))
    unfolding further
    further_places [] all h = mapped words size (λ ts us. none) (nothing words size)
      where
        none : {ts us : Tokens} → Nil ts us → Same (map (map_place shape)) MorePlaces [] ts us
        none nil = same no_more_places refl
    further_places (p ∷ ps) all h =
        mapped words size (λ ts us. some) (comma_read ⊳ fitted words size (λ cs k. k) number_word
        (all.0 (columns_at d) m 0 (omega arith)) ⊳ further_places ps all.1 (omega arith))
      where
        some : {ts us : Tokens} → Seq (Seq (Tok kind.Comma) (Same (map_place shape) grammar.IsPlace p))
            (Same (map (map_place shape)) MorePlaces ps) ts us
            → Same (map (map_place shape)) MorePlaces (p ∷ ps) ts us
        some (both (both (token i) (same q a)) (same r b)) = same (one_more_place i q r) (λ k. a k ∷ b k)

    further_names : (ns : List Named) → AllNames ns → OnLine EndsNumber EndsNumber
        (Same (map (map_named shape)) MoreNames ns) d m (further (codes ", ") (names_texts word ns))
    unfolding further
    further_names [] all = mapped words size (λ ts us. none) (nothing words size)
      where
        none : {ts us : Tokens} → Nil ts us → Same (map (map_named shape)) MoreNames [] ts us
        none nil = same no_more_names refl
    further_names (n ∷ ns) all =
        mapped words size (λ ts us. some) (comma_read ⊳ fitted words size (λ cs k. k) number_word
        (name_read words size (columns_at d) m n.name all.0) ⊳ further_names ns all.1)
      where
        some : {ts us : Tokens} → Seq (Seq (Tok kind.Comma) (Tok (kind.Name n.name)))
            (Same (map (map_named shape)) MoreNames ns) ts us → Same (map (map_named shape)) MoreNames (n ∷ ns) ts us
        some (both (both (token i) (token j)) (same r b)) = same (one_more_name i j r)
            (λ k. record { name = n.name; line = record { 0 = 0 } } ∷ b k)

    -- ' = '
    equal_between : OnLine EndsNumber Opens (Tok kind.Equal) d m (codes " = ")
    unfolding ◌⧺◌
    equal_between = spaced words size (columns_at d) m kind.Equal (codes "=") (omega arith) refl refl refl refl refl tt
        (λ behind. refl) (λ rest. refl)

    assigned_read : (p : Place) (ps : List Place) → AllPlaces (p ∷ ps) → places_height (p ∷ ps) ≤ most_brackets
        → OnLine Opens Opens (Same (map (map_place shape)) stmt_grammar.Assigned (p ∷ ps)) d m (assigned_text word (p ∷ ps))
    assigned_read p [] all h =
        reads_as words size (sym (nil_back (place_text word p ⧺ codes " = "))) (mapped words size (λ ts us. of)
        (fitted words size (λ cs k. k) number_word (all.0 (columns_at d) m 0 (omega arith)) ⊳ equal_between))
      where
        nil_back : (a : List ℕ) → a ⧺ [] ≡ a
        nil_back a = nil_text a

        of : {ts us : Tokens} → Seq (Same (map_place shape) grammar.IsPlace p) (Tok kind.Equal) ts us
            → Same (map (map_place shape)) stmt_grammar.Assigned (p ∷ []) ts us
        of (both (same q a) (token h)) = same (stmt_grammar.last_assigned q h) (λ k. a k ∷ [])
    assigned_read p (p' ∷ ps) all h =
        mapped words size (λ ts us. of) (fitted words size (λ cs k. k) number_word
        (all.0 (columns_at d) m 0 (omega arith)) ⊳ equal_between ⊳ assigned_read p' ps all.1 (omega arith))
      where
        of : {ts us : Tokens} → Seq (Seq (Same (map_place shape) grammar.IsPlace p) (Tok kind.Equal))
            (Same (map (map_place shape)) stmt_grammar.Assigned (p' ∷ ps)) ts us
            → Same (map (map_place shape)) stmt_grammar.Assigned (p ∷ p' ∷ ps) ts us
        of (both (both (same q a) (token h)) (same r b)) = same (stmt_grammar.more_assigned q h r) (λ k. a k ∷ b k)

    -- a keyword, alone or before a blank
    word_pass : OnLine Opens EndsNumber (Tok kind.Pass) d m (codes "pass")
    word_pass = fitted words size (λ cs k. k) number_word (keyword_read words size kind.Pass (codes "pass")
        (omega arith) refl refl refl refl tt)

    word_break : OnLine Opens EndsNumber (Tok kind.Break) d m (codes "break")
    word_break = fitted words size (λ cs k. k) number_word (keyword_read words size kind.Break (codes "break")
        (omega arith) refl refl refl refl tt)

    word_continue : OnLine Opens EndsNumber (Tok kind.Continue) d m (codes "continue")
    word_continue = fitted words size (λ cs k. k) number_word
        (keyword_read words size kind.Continue (codes "continue") (omega arith) refl refl refl refl tt)

    word_return : OnLine Opens EndsWord (Tok kind.Return) d m (codes "return")
    word_return = keyword_read words size kind.Return (codes "return") (omega arith) refl refl refl refl tt

    word_raise : OnLine Opens EndsWord (Tok kind.Raise) d m (codes "raise")
    word_raise = keyword_read words size kind.Raise (codes "raise") (omega arith) refl refl refl refl tt

    assert_before : OnLine Opens Opens (Tok kind.Assert) d m (codes "assert ")
    unfolding ◌⧺◌
    assert_before = before_blank words size (columns_at d) m
        (keyword_read words size kind.Assert (codes "assert") (omega arith) refl refl refl refl tt)

    global_before : OnLine Opens Opens (Tok kind.Global) d m (codes "global ")
    unfolding ◌⧺◌
    global_before = before_blank words size (columns_at d) m
        (keyword_read words size kind.Global (codes "global") (omega arith) refl refl refl refl tt)

    del_before : OnLine Opens Opens (Tok kind.Del) d m (codes "del ")
    unfolding ◌⧺◌
    del_before = before_blank words size (columns_at d) m (keyword_read words size kind.Del (codes "del")
        (omega arith) refl refl refl refl tt)

    gap_before : OnLine EndsWord Opens Nil d m (codes " ")
    gap_before = blank words size (columns_at d) m (λ behind. refl)

    augmented_mark : (o : BinOp) → OnLine EndsNumber Opens (Marked augmented_of o) d m
        (codes " " ⧺ augmented_text o ⧺ codes " ")
    unfolding ◌⧺◌
    augmented_mark binary.Add = mapped words size (λ ts us. marked_by augmented_of refl)
        (spaced words size (columns_at d) m kind.PlusEqual (codes "+=") (omega arith) refl refl refl refl refl tt
        (λ behind. refl) (λ rest. refl))
    augmented_mark binary.Sub = mapped words size (λ ts us. marked_by augmented_of refl)
        (spaced words size (columns_at d) m kind.MinusEqual (codes "-=") (omega arith) refl refl refl refl refl tt
        (λ behind. refl) (λ rest. refl))
    augmented_mark binary.Mul = mapped words size (λ ts us. marked_by augmented_of refl)
        (spaced words size (columns_at d) m kind.StarEqual (codes "*=") (omega arith) refl refl refl refl refl tt
        (λ behind. refl) (λ rest. refl))
    augmented_mark binary.FloorDiv = mapped words size (λ ts us. marked_by augmented_of refl)
        (spaced words size (columns_at d) m kind.DoubleSlashEqual (codes "//=")
        (omega arith) refl refl refl refl refl tt (λ behind. refl) (λ rest. refl))
    augmented_mark binary.Mod = mapped words size (λ ts us. marked_by augmented_of refl)
        (spaced words size (columns_at d) m kind.PercentEqual (codes "%=") (omega arith) refl refl refl refl refl tt
        (λ behind. refl) (λ rest. refl))
    augmented_mark binary.Pow = mapped words size (λ ts us. marked_by augmented_of refl)
        (spaced words size (columns_at d) m kind.DoubleStarEqual (codes "**=") (omega arith) refl refl refl refl refl tt
        (λ behind. refl) (λ rest. refl))
    augmented_mark binary.BitAnd = mapped words size (λ ts us. marked_by augmented_of refl)
        (spaced words size (columns_at d) m kind.AmperEqual (codes "&=") (omega arith) refl refl refl refl refl tt
        (λ behind. refl) (λ rest. refl))
    augmented_mark binary.BitOr = mapped words size (λ ts us. marked_by augmented_of refl)
        (spaced words size (columns_at d) m kind.VBarEqual (codes "|=") (omega arith) refl refl refl refl refl tt
        (λ behind. refl) (λ rest. refl))
    augmented_mark binary.BitXor = mapped words size (λ ts us. marked_by augmented_of refl)
        (spaced words size (columns_at d) m kind.CircumflexEqual (codes "^=") (omega arith) refl refl refl refl refl tt
        (λ behind. refl) (λ rest. refl))
    augmented_mark binary.LShift = mapped words size (λ ts us. marked_by augmented_of refl)
        (spaced words size (columns_at d) m kind.LeftShiftEqual (codes "<<=") (omega arith) refl refl refl refl refl tt
        (λ behind. refl) (λ rest. refl))
    augmented_mark binary.RShift = mapped words size (λ ts us. marked_by augmented_of refl)
        (spaced words size (columns_at d) m kind.RightShiftEqual (codes ">>=") (omega arith) refl refl refl refl refl tt
        (λ behind. refl) (λ rest. refl))

  -- ---- each simple statement

  value_read : (c : Context) (l : Line) (x : Expr) → Whole x → StmtRead words size c (stmt_tree.a_stmt l (stmt_tree.evaluate x))
  value_read c l x a = simple_read words size c l (stmt_tree.evaluate x) (λ d. refl)
      (λ d m h. mapped words size (λ ts us. of) ((a (columns_at d) m).whole 0 (omega arith)))
    where
      of : {ts us : Tokens} → SameExpr grammar.IsExpr x ts us → SimpleOf c (stmt_tree.a_stmt l (stmt_tree.evaluate x)) ts us
      of (same p q) = same (stmt_grammar.is_value (grammar.an_expr p)) (λ k. stmt_tree.a_stmt (record { 0 = 0 }) (stmt_tree.evaluate (q k)))

  pass_read : (c : Context) (l : Line) → StmtRead words size c (stmt_tree.a_stmt l stmt_tree.pass)
  pass_read c l = simple_read words size c l stmt_tree.pass (λ d. refl)
      (λ d m h. mapped words size (λ ts us. of) (word_pass d m))
    where
      of : {ts us : Tokens} → Tok kind.Pass ts us → SimpleOf c (stmt_tree.a_stmt l stmt_tree.pass) ts us
      of (token h) = same (stmt_grammar.is_pass h) refl

  break_read : (c : Context) (l : Line) → c.loop ≡ true → StmtRead words size c (stmt_tree.a_stmt l stmt_tree.break)
  break_read c l loop = simple_read words size c l stmt_tree.break (λ d. refl)
      (λ d m h. mapped words size (λ ts us. of) (word_break d m))
    where
      of : {ts us : Tokens} → Tok kind.Break ts us → SimpleOf c (stmt_tree.a_stmt l stmt_tree.break) ts us
      of (token h) = same (stmt_grammar.is_break loop h) refl

  continue_read : (c : Context) (l : Line) → c.loop ≡ true → StmtRead words size c (stmt_tree.a_stmt l stmt_tree.continue)
  continue_read c l loop = simple_read words size c l stmt_tree.continue (λ d. refl)
      (λ d m h. mapped words size (λ ts us. of) (word_continue d m))
    where
      of : {ts us : Tokens} → Tok kind.Continue ts us → SimpleOf c (stmt_tree.a_stmt l stmt_tree.continue) ts us
      of (token h) = same (stmt_grammar.is_continue loop h) refl

  return_read : (c : Context) (l : Line) → stmt_grammar.is_in_function c ≡ true
      → StmtRead words size c (stmt_tree.a_stmt l (stmt_tree.give_back None))
  return_read c l within = simple_read words size c l (stmt_tree.give_back None) (λ d. refl) (λ d m h.
      mapped words size (λ ts us. of) (fitted words size (λ cs k. k) number_word (word_return d m)
      ⊳ nothing words size))
    where
      of : {ts us : Tokens} → Seq (Tok kind.Return) Nil ts us → SimpleOf c (stmt_tree.a_stmt l (stmt_tree.give_back None)) ts us
      of (both (token h) nil) = same (stmt_grammar.is_return within h) refl

  returns_read : (c : Context) (l : Line) (x : Expr) → stmt_grammar.is_in_function c ≡ true → Whole x
      → StmtRead words size c (stmt_tree.a_stmt l (stmt_tree.give_back (Some x)))
  returns_read c l x within a = simple_read words size c l (stmt_tree.give_back (Some x)) (λ d. refl) (λ d m h.
      mapped words size (λ ts us. of) (word_return d m ⊳ (gap_before d m ⊳ (a (columns_at d) m).whole 0 (omega arith))))
    where
      of : {ts us : Tokens} → Seq (Tok kind.Return) (Seq Nil (SameExpr grammar.IsExpr x)) ts us
          → SimpleOf c (stmt_tree.a_stmt l (stmt_tree.give_back (Some x))) ts us
      of (both (token h) (both nil (same p q))) = same (stmt_grammar.returns_value within h (grammar.an_expr p))
          (λ k. stmt_tree.a_stmt (record { 0 = 0 }) (stmt_tree.give_back (Some (q k))))

  raises_read : (c : Context) (l : Line) → c.handler ≡ true → StmtRead words size c (stmt_tree.a_stmt l (stmt_tree.raise None))
  raises_read c l within = simple_read words size c l (stmt_tree.raise None) (λ d. refl) (λ d m h.
      mapped words size (λ ts us. of) (fitted words size (λ cs k. k) number_word (word_raise d m) ⊳ nothing words size))
    where
      of : {ts us : Tokens} → Seq (Tok kind.Raise) Nil ts us → SimpleOf c (stmt_tree.a_stmt l (stmt_tree.raise None)) ts us
      of (both (token h) nil) = same (stmt_grammar.raises_again within h) refl

  raise_read : (c : Context) (l : Line) (x : Expr) → Whole x → StmtRead words size c (stmt_tree.a_stmt l (stmt_tree.raise (Some x)))
  raise_read c l x a = simple_read words size c l (stmt_tree.raise (Some x)) (λ d. refl) (λ d m h.
      mapped words size (λ ts us. of) (word_raise d m ⊳ (gap_before d m ⊳ (a (columns_at d) m).whole 0 (omega arith))))
    where
      of : {ts us : Tokens} → Seq (Tok kind.Raise) (Seq Nil (SameExpr grammar.IsExpr x)) ts us
          → SimpleOf c (stmt_tree.a_stmt l (stmt_tree.raise (Some x))) ts us
      of (both (token h) (both nil (same p q))) = same (stmt_grammar.is_raise h p)
          (λ k. stmt_tree.a_stmt (record { 0 = 0 }) (stmt_tree.raise (Some (q k))))

  assert_read : (c : Context) (l : Line) (x : Expr) → Whole x → StmtRead words size c (stmt_tree.a_stmt l (stmt_tree.assert x None))
  assert_read c l x a = simple_read words size c l (stmt_tree.assert x None) (λ d. refl) (λ d m h.
      mapped words size (λ ts us. of) (assert_before d m ⊳ (a (columns_at d) m).whole 0 (omega arith)
      ⊳ nothing words size))
    where
      of : {ts us : Tokens} → Seq (Seq (Tok kind.Assert) (SameExpr grammar.IsExpr x)) Nil ts us
          → SimpleOf c (stmt_tree.a_stmt l (stmt_tree.assert x None)) ts us
      of (both (both (token h) (same p q)) nil) = same (stmt_grammar.is_assert h p)
          (λ k. stmt_tree.a_stmt (record { 0 = 0 }) (stmt_tree.assert (q k) None))

  asserts_read : (c : Context) (l : Line) (x y : Expr) → Whole x → Whole y
      → StmtRead words size c (stmt_tree.a_stmt l (stmt_tree.assert x (Some y)))
  asserts_read c l x y a b = simple_read words size c l (stmt_tree.assert x (Some y)) (λ d. refl) (λ d m h.
      mapped words size (λ ts us. of) (assert_before d m ⊳ (a (columns_at d) m).whole 0 (omega arith)
      ⊳ (comma_read d m ⊳ (b (columns_at d) m).whole 0 (omega arith))))
    where
      of : {ts us : Tokens} → Seq (Seq (Tok kind.Assert) (SameExpr grammar.IsExpr x))
          (Seq (Tok kind.Comma) (SameExpr grammar.IsExpr y)) ts us → SimpleOf c (stmt_tree.a_stmt l (stmt_tree.assert x (Some y))) ts us
      of (both (both (token h) (same p q)) (both (token i) (same r u))) =
          same (stmt_grammar.asserts_with_text h p i r) (λ k. stmt_tree.a_stmt (record { 0 = 0 }) (stmt_tree.assert (q k) (Some (u k))))

  global_read : (c : Context) (l : Line) (n : Named) (ns : List Named) → c.class ≡ false
      → list_all (is_free c.function) (n ∷ ns) ≡ true → AllNames (n ∷ ns)
      → StmtRead words size c (stmt_tree.a_stmt l (stmt_tree.global (n ∷ ns)))
  unfolding joined_texts
  global_read c l n ns outside free all = simple_read words size c l (stmt_tree.global (n ∷ ns)) (λ d. refl) (λ d m h.
      mapped words size (λ ts us. of)
      (global_before d m ⊳ (fitted words size (λ cs k. k) number_word
      (name_read words size (columns_at d) m n.name all.0) ⊳ further_names d m ns all.1)))
    where
      of : {ts us : Tokens}
          → Seq (Tok kind.Global) (Seq (Tok (kind.Name n.name)) (Same (map (map_named shape)) MoreNames ns)) ts us
          → SimpleOf c (stmt_tree.a_stmt l (stmt_tree.global (n ∷ ns))) ts us
      of {ts = ts} (both (token h) (both (token i) (same {y = ms} r b))) =
          same (stmt_grammar.is_global outside (same_free c.function (named n.name (skip ts) ∷ ms) (n ∷ ns)
          (λ k. record { name = n.name; line = record { 0 = 0 } } ∷ b k) ∙ free) h (names_of i r))
          (λ k. stmt_tree.a_stmt (record { 0 = 0 }) (stmt_tree.global (record { name = n.name; line = record { 0 = 0 } } ∷ b k)))

  del_read : (c : Context) (l : Line) (p : Place) (ps : List Place) → AllPlaces (p ∷ ps)
      → StmtRead words size c (stmt_tree.a_stmt l (stmt_tree.del (p ∷ ps)))
  unfolding joined_texts
  del_read c l p ps all = simple_read words size c l (stmt_tree.del (p ∷ ps)) (λ d. refl) (λ d m h.
      mapped words size (λ ts us. of)
      (del_before d m ⊳ (fitted words size (λ cs k. k) number_word (all.0 (columns_at d) m 0 (omega arith))
      ⊳ further_places d m ps all.1 (omega arith))))
    where
      of : {ts us : Tokens}
          → Seq (Tok kind.Del) (Seq (Same (map_place shape) grammar.IsPlace p) (Same (map (map_place shape)) MorePlaces ps))
          ts us → SimpleOf c (stmt_tree.a_stmt l (stmt_tree.del (p ∷ ps))) ts us
      of (both (token h) (both (same q a) (same r b))) = same (stmt_grammar.is_del h (places_of q r))
          (λ k. stmt_tree.a_stmt (record { 0 = 0 }) (stmt_tree.del (a k ∷ b k)))

  aug_read : (c : Context) (l : Line) (p : Place) (o : BinOp) (at : Line) (x : Expr) → Placed p → Whole x
      → StmtRead words size c (stmt_tree.a_stmt l (stmt_tree.aug p o at x None))
  aug_read c l p o at x a b = simple_read words size c l (stmt_tree.aug p o at x None) (λ d. refl) (λ d m h.
      reads_as words size (assoc_mark (place_text word p) (augmented_text o) (expr_text word x))
      (mapped words size (λ ts us. of) (fitted words size (λ cs k. k) number_word (a (columns_at d) m 0 (omega arith))
      ⊳ augmented_mark d m o ⊳ (b (columns_at d) m).whole 0 (omega arith))))
    where
      assoc_mark : (u v z : List ℕ) → u ⧺ (codes " " ⧺ v ⧺ codes " ") ⧺ z ≡ u ⧺ codes " " ⧺ v ⧺ codes " " ⧺ z
      assoc_mark u v z = simp assoc_texts

      of : {ts us : Tokens} → Seq (Seq (Same (map_place shape) grammar.IsPlace p) (Marked augmented_of o))
          (SameExpr grammar.IsExpr x) ts us → SimpleOf c (stmt_tree.a_stmt l (stmt_tree.aug p o at x None)) ts us
      of (both (both (same q u) (marked i)) (same r v)) = same (stmt_grammar.is_augmented q i (grammar.an_expr r))
          (λ k. stmt_tree.a_stmt (record { 0 = 0 }) (stmt_tree.aug (u k) o (record { 0 = 0 }) (v k) None))

  assign_read : (c : Context) (l : Line) (p : Place) (ps : List Place) (x : Expr) → AllPlaces (p ∷ ps) → Whole x
      → StmtRead words size c (stmt_tree.a_stmt l (stmt_tree.assign (p ∷ ps) x))
  assign_read c l p ps x all b = simple_read words size c l (stmt_tree.assign (p ∷ ps) x) (λ d. refl) (λ d m h.
      mapped words size (λ ts us. of) (assigned_read d m p ps all (omega arith)
      ⊳ (b (columns_at d) m).whole 0 (omega arith)))
    where
      of : {ts us : Tokens} → Seq (Same (map (map_place shape)) stmt_grammar.Assigned (p ∷ ps)) (SameExpr grammar.IsExpr x) ts us
          → SimpleOf c (stmt_tree.a_stmt l (stmt_tree.assign (p ∷ ps) x)) ts us
      of (both (same {y = []} q u) (same r v)) = absurd (let none = u in cc)
      of (both (same {y = y ∷ ys} q u) (same r v)) = same (stmt_grammar.is_assignment q (grammar.an_expr r))
          (λ k. stmt_tree.a_stmt (record { 0 = 0 }) (stmt_tree.assign (u k) (v k)))

  unpack_read : (c : Context) (l : Line) (p : Target) (x : Expr)
      → ((columns : List ℕ) (line : ℕ) → ReadGroup words size columns line p) → Whole x
      → StmtRead words size c (stmt_tree.a_stmt l (stmt_tree.unpack p x None))
  unpack_read c l p x a b = simple_read words size c l (stmt_tree.unpack p x None) (λ d. refl) (λ d m h.
      mapped words size (λ ts us. of) (fitted words size (λ cs k. k) number_word (a (columns_at d) m 0 (omega arith))
      ⊳ equal_between d m ⊳ (b (columns_at d) m).whole 0 (omega arith)))
    where
      of : {ts us : Tokens} → Seq (Seq (SameTarget GroupOf p) (Tok kind.Equal)) (SameExpr grammar.IsExpr x) ts us
          → SimpleOf c (stmt_tree.a_stmt l (stmt_tree.unpack p x None)) ts us
      of (both (both (same (a_group q) u) (token h)) (same r v)) =
          same (stmt_grammar.is_unpacking (stmt_grammar.a_group q) h (grammar.an_expr r))
          (λ k. stmt_tree.a_stmt (record { 0 = 0 }) (stmt_tree.unpack (u k) (v k) None))

  unpacked_back : {p : Target} {l : Line} {ts us : Tokens} → stmt_grammar.IsUnpacked p l ts us → Good words ts
      → ((columns : List ℕ) (line : ℕ) → ReadGroup words size columns line p) × Good words us
  unpacked_back (stmt_grammar.a_group q) ok =
      (λ columns line. (group_back words size columns line q ok).0, (group_back words size [] 0 q ok).1)
  unpacked_back (stmt_grammar.some_parts q) ok =
      (λ columns line. (parts_back words size columns line q ok).0, (parts_back words size [] 0 q ok).1)

  pub simple_back : {c : Context} {x : Stmt} {ts us : Tokens} → stmt_grammar.IsSimple c x ts us → Good words ts
      → StmtRead words size c x × Good words us
  simple_back {c = c} (stmt_grammar.is_pass {ts = ts} h) ok = (pass_read c (line_at ts), behind words ok)
  simple_back {c = c} (stmt_grammar.is_break {ts = ts} loop h) ok = (break_read c (line_at ts) loop, behind words ok)
  simple_back {c = c} (stmt_grammar.is_continue {ts = ts} loop h) ok = (continue_read c (line_at ts) loop, behind words ok)
  simple_back {c = c} (stmt_grammar.is_return {ts = ts} within h) ok = (return_read c (line_at ts) within, behind words ok)
  simple_back {c = c} (stmt_grammar.returns_value {e = x} {ts = ts} within h p) ok = let a = exprs_back p (behind words ok) in
      (returns_read c (line_at ts) x within a.0, a.1)
  simple_back {c = c} (stmt_grammar.raises_again {ts = ts} within h) ok = (raises_read c (line_at ts) within, behind words ok)
  simple_back {c = c} (stmt_grammar.is_raise {e = x} {ts = ts} h p) ok = let a = whole_back p (behind words ok) in
      (raise_read c (line_at ts) x a.0, a.1)
  simple_back {c = c} (stmt_grammar.is_assert {e = x} {ts = ts} h p) ok = let a = whole_back p (behind words ok) in
      (assert_read c (line_at ts) x a.0, a.1)
  simple_back {c = c} (stmt_grammar.asserts_with_text {e = x} {f = y} {ts = ts} h p i q) ok =
      let a = whole_back p (behind words ok) in let b = whole_back q (behind words a.1) in
      (asserts_read c (line_at ts) x y a.0 b.0, b.1)
  simple_back {c = c} (stmt_grammar.is_global {ns = []} {ts = ts} outside free h p) ok = elim p [ ]
  simple_back {c = c} (stmt_grammar.is_global {ns = n ∷ ns} {ts = ts} outside free h p) ok = let a =
      all_names_back p (behind words ok) in (global_read c (line_at ts) n ns outside free a.0, a.1)
  simple_back {c = c} (stmt_grammar.is_del {ps = []} {ts = ts} h p) ok = elim p [ ]
  simple_back {c = c} (stmt_grammar.is_del {ps = p ∷ ps} {ts = ts} h q) ok = let a = all_places_back q (behind words ok) in
      (del_read c (line_at ts) p ps a.0, a.1)
  simple_back {c = c} (stmt_grammar.is_value {e = x} p) ok = let a = exprs_back p ok in (value_read c (line_of x) x a.0, a.1)
  simple_back {c = c} (stmt_grammar.is_augmented {p = p} {o = o} {e = x} {us = us} q h r) ok =
      let a = placed_back q ok in let b = exprs_back r (behind words a.1) in
      (aug_read c (place_line p) p o (line_at us) x a.0 b.0, b.1)
  simple_back {c = c} (stmt_grammar.is_assignment {p = p} {ps = ps} {e = x} q r) ok =
      let a = assigned_back q ok in let b = exprs_back r a.1 in (assign_read c (place_line p) p ps x a.0 b.0, b.1)
  simple_back {c = c} (stmt_grammar.is_unpacking {g = p} {line = l} {e = x} q h r) ok =
      let a = unpacked_back q ok in let b = exprs_back r (behind words a.1) in (unpack_read c l p x a.0 b.0, b.1)

  pub line_back : {c : Context} {xs : Stmts} {ts us : Tokens} → stmt_grammar.IsLine c xs ts us → Good words ts
      → AllStmts words size c xs × IsSome xs × Good words us
  line_back (stmt_grammar.line_end p h) ok = let a = simple_back p ok in ((a.0, tt), tt, behind words a.1)
  line_back (stmt_grammar.line_semicolon p h i) ok = let a = simple_back p ok in ((a.0, tt), tt, behind words (behind words a.1))
  line_back (stmt_grammar.line_more p h q) ok = let a = simple_back p ok in let b = line_back q (behind words a.1) in
      ((a.0, b.0), tt, b.2)
