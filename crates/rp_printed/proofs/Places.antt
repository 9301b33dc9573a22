-- Places, groups of targets, clauses and trailers are read back.
use Rattle.std.proofs.Common.{◌≡◌, refl, sym, ap, ◌∙◌, ℕ, suc, ◌+◌, ◌≤◌, Bool, false, List, [], length, codes, None}
use Rattle.std.proofs.Common.{append_assoc, append-nil, arith}
use Rattle.rp_base.specs.declared.value.Line.{Line}
use Rattle.rp_base.specs.declared.value.Name.{Name}
use Rattle.rp_grammar.specs.Kinds.{Tokens, first, skip}
use Rattle.rp_grammar.specs.Expressions as grammar
use Rattle.rp_print.specs.Texts.{◌⧺◌, further, joined, listed, tuple_end, tuple_text}
use Rattle.rp_print.specs.Expressions.{base_text, bound_text, clause_text, clauses_text, conditions_text, expr_text}
use Rattle.rp_print.specs.Expressions.{is_guarded, place_text, target_text, targets_texts, trailed, with_trailer}
use Rattle.rp_token.specs.declared.token.TokenKind.TheVariants as kind
use Rattle.rp_token.specs.Tokens.{most_brackets}
use Rattle.rp_tree.specs.Expressions as tree
use Rattle.rp_tree.specs.Expressions.{Clause, Clauses, Expr, Exprs, Maybe, Named, Place, Target, Targets, Trailer}
use Rattle.rp_tree.specs.Expressions.{Trailers}
use Rattle.rp_tree.specs.Heights.{clause_height, clauses_height, exprs_height, maybe_height, place_height}
use Rattle.rp_tree.specs.Heights.{target_height, targets_height, trailer_height, trailers_height}
use Rattle.rp_tree.specs.Maps.{map_clause, map_clauses, map_exprs, map_maybe, map_place, map_target, map_targets}
use Rattle.rp_tree.specs.Maps.{map_trailer, map_trailers, shape}
use Rattle.rp_printed.proofs.Reading.{◌▹◌, IsGoodName, Nil, Reads, Same, Seq, Spot, Tok, both, fitted, mapped, nil}
use Rattle.rp_printed.proofs.Reading.{nothing, reads_as, same, token}
use Rattle.rp_printed.proofs.Lexemes.{EndsNumber, EndsWord, Opens, keyword_read, number_word}
use Rattle.rp_printed.proofs.Marks.{Anything, colon, comma, dot, left_bracket, left_paren, right_bracket, right_paren}
use Rattle.rp_printed.proofs.Operands.{AllRead, IsRead, ReadsAt, SameExpr, blank, comma_gap, end_many, middling}
use Rattle.rp_printed.proofs.Operands.{name_read, primary_or, word}
use Rattle.rp_printed.proofs.Operators.{before_blank, if_between, in_between}

pub assoc_texts : (a b c : List ℕ) → a ⧺ b ⧺ c ≡ a ⧺ (b ⧺ c)
unfolding ◌⧺◌
assoc_texts a b c = append_assoc a b c

pub nil_text : (a : List ℕ) → a ⧺ [] ≡ a
unfolding ◌⧺◌
nil_text a = append-nil a

-- a part of a target, at whatever line it begins
pub data PartOf : Target → Tokens → Tokens → Type 0 where
  part : {p : Target} {line : Line} {ts us : Tokens} → grammar.Part p line ts us → PartOf p ts us

pub data GroupOf : Target → Tokens → Tokens → Type 0 where
  a_group : {p : Target} {line : Line} {ts us : Tokens} → grammar.IsGroup p line ts us → GroupOf p ts us

-- targets separated by commas, behind one
data MoreTargets : Targets → Tokens → Tokens → Type 0 where
  no_more_targets : {ts : Tokens} → MoreTargets tree.no_targets ts ts
  one_more_target : {p : Target} {ps : Targets} {ts us vs : Tokens} → first ts ≡ kind.Comma → PartOf p (skip ts) us
      → MoreTargets ps us vs → MoreTargets (tree.target p ps) ts vs

targeted_of : {p : Target} {line : Line} {ps : Targets} {ts us vs : Tokens} → grammar.Part p line ts us → MoreTargets ps us vs
    → grammar.Targeted (tree.target p ps) ts vs
targeted_of p no_more_targets = grammar.last_part p
targeted_of p (one_more_target h (part q) r) = grammar.more_parts p h (targeted_of q r)

abbrev pub SameTarget : (Target → Tokens → Tokens → Type 0) → Target → Tokens → Tokens → Type 0
SameTarget R p = Same (map_target shape) R p

pub group_part : {p : Target} {ts us : Tokens} → SameTarget GroupOf p ts us → SameTarget PartOf p ts us
group_part (same (a_group d) e) = same (part (grammar.part_group d)) e

module _ (words : List (List ℕ)) (size : ℕ) (columns : List ℕ) (line : ℕ) where
  abbrev R : (List ℕ → Type 0) → (List ℕ → Type 0) → (Tokens → Tokens → Type 0) → ℕ → List ℕ → Type 0
  R = ReadsAt words size columns line

  abbrev Operand : Expr → Type 0
  Operand = IsRead words size columns line

  abbrev w : Name → List ℕ
  w = word words size columns line

  infixl 50 ◌⊳◌
  abbrev ◌⊳◌ : {H F G : List ℕ → Type 0} {P Q : Tokens → Tokens → Type 0} {p q r : Spot} {a b : List ℕ}
      → Reads words size H F P p q a → Reads words size F G Q q r b → Reads words size H G (Seq P Q) p r (a ⧺ b)
  x ⊳ y = ◌▹◌ words size x y

  -- ---- places

  abbrev pub ReadPlace : Place → Type 0
  ReadPlace p = (n : ℕ) → n + place_height p ≤ most_brackets
      → R Opens EndsWord (Same (map_place shape) grammar.IsPlace p) n (place_text w p)

  pub name_place : (x : Named) → IsGoodName words x.name → ReadPlace (tree.to_name x)
  name_place x good n h = mapped words size (λ ts us. of) (name_read words size columns line x.name good)
    where
      of : {ts us : Tokens} → Tok (kind.Name x.name) ts us → Same (map_place shape) grammar.IsPlace (tree.to_name x) ts us
      of (token h) = same (grammar.place_name h) refl

  pub attr_place : (e : Expr) (x : Named) → Operand e → IsGoodName words x.name → ReadPlace (tree.to_attr e x None)
  attr_place e x a good n h = mapped words size (λ ts us. of)
      (a.base n (omega arith) ⊳ dot words size ⊳ name_read words size columns line x.name good)
    where
      of : {ts us : Tokens} → Seq (Seq (SameExpr grammar.Atom e) (Tok kind.Dot)) (Tok (kind.Name x.name)) ts us
          → Same (map_place shape) grammar.IsPlace (tree.to_attr e x None) ts us
      of (both (both (same p s) (token h)) (token i)) = same (grammar.place_attr (grammar.bare p) h i)
          (λ k. tree.to_attr (s k) (record { name = x.name; line = record { 0 = 0 } }) None)

  pub item_place : (e i : Expr) → Operand e → Operand i → ReadPlace (tree.to_item e i None)
  item_place e x a b n h =
      mapped words size (λ ts us. of) (a.base n (omega arith) ⊳ left_bracket words size (omega arith) (λ behind. refl)
      ⊳ b.whole (suc n) (omega arith) ⊳ right_bracket words size)
    where
      of : {ts us : Tokens} → Seq (Seq (Seq (SameExpr grammar.Atom e) (Tok kind.LeftBracket)) (SameExpr grammar.IsExpr x))
          (Tok kind.RightBracket) ts us
          → Same (map_place shape) grammar.IsPlace (tree.to_item e x None) ts us
      of (both (both (both (same p s) (token h)) (same q r)) (token i)) =
          same (grammar.place_item (grammar.bare p) h q i) (λ k. tree.to_item (s k) (r k) None)

  -- ---- targets

  abbrev pub ReadPart : Target → Type 0
  ReadPart p = (n : ℕ) → n + target_height p ≤ most_brackets
      → R Opens EndsWord (SameTarget PartOf p) n (target_text w p)

  abbrev pub ReadGroup : Target → Type 0
  ReadGroup p = (n : ℕ) → n + target_height p ≤ most_brackets
      → R Opens EndsWord (SameTarget GroupOf p) n (target_text w p)

  pub place_part : (p : Place) → ReadPlace p → ReadPart (tree.to_place p)
  place_part p a n h = mapped words size (λ ts us. of) (a n h)
    where
      of : {ts us : Tokens} → Same (map_place shape) grammar.IsPlace p ts us → SameTarget PartOf (tree.to_place p) ts us
      of (same d e) = same (part (grammar.part_place d)) (λ k. tree.to_place (e k))

  pub group_read_part : (p : Target) → ReadGroup p → ReadPart p
  group_read_part p a n h = mapped words size (λ ts us. group_part) (a n h)

  abbrev pub AllParts : Targets → Type 0
  AllParts tree.no_targets = Unit {0}
  AllParts (tree.target p ps) = ReadPart p × AllParts ps

  further_targets : (ps : Targets) → AllParts ps → (n : ℕ) → n + targets_height ps ≤ most_brackets
      → R EndsNumber EndsNumber (Same (map_targets shape) MoreTargets ps) n (further (codes ", ") (targets_texts w ps))
  unfolding further
  further_targets tree.no_targets all n h = mapped words size (λ ts us. none) (nothing words size)
    where
      none : {ts us : Tokens} → Nil ts us → Same (map_targets shape) MoreTargets tree.no_targets ts us
      none nil = same no_more_targets refl
  further_targets (tree.target p ps) all n h =
      mapped words size (λ ts us. some) (comma_gap words size columns line
      ⊳ fitted words size (λ cs e. e) number_word (all.0 n (omega arith))
      ⊳ further_targets ps all.1 n (omega arith))
    where
      some : {ts us : Tokens} → Seq (Seq (Tok kind.Comma) (SameTarget PartOf p))
          (Same (map_targets shape) MoreTargets ps) ts us → Same (map_targets shape) MoreTargets (tree.target p ps) ts us
      some (both (both (token h) (same d e)) (same r c)) = same (one_more_target h d r) (λ k. tree.target (e k) (c k))

  pub group_read : (p : Target) (ps : Targets) → AllParts (tree.target p ps) → ReadGroup (tree.group (tree.target p ps))
  unfolding further joined tuple_end ◌⧺◌
  group_read p tree.no_targets all n h = mapped words size (λ ts us. of) (front n h)
    where
      of : {ts us : Tokens} → Seq (Seq (Tok kind.LeftParen) (Seq (SameTarget PartOf p) Nil))
          (Seq (Tok kind.Comma) (Tok kind.RightParen)) ts us
          → SameTarget GroupOf (tree.group (tree.target p tree.no_targets)) ts us
      of (both (both (token h) (both (same (part d) e) nil)) (both (token i) (token j))) =
          same (a_group (grammar.group_parts h (grammar.parts d i grammar.no_part) j)) (λ k. tree.group (tree.target (e k) tree.no_targets))

      front : (n : ℕ) → n + suc (targets_height (tree.target p tree.no_targets)) ≤ most_brackets
          → R Opens EndsWord (Seq (Seq (Tok kind.LeftParen) (Seq (SameTarget PartOf p) Nil))
          (Seq (Tok kind.Comma) (Tok kind.RightParen))) n (tuple_text (targets_texts w (tree.target p tree.no_targets)))
      front n h = left_paren words size (omega arith) (λ behind. refl)
          ⊳ (fitted words size (λ cs e. e) number_word (all.0 (suc n) (omega arith)) ⊳ nothing words size)
          ⊳ (comma words size ⊳ right_paren words size)
  group_read p (tree.target q qs) all n h = mapped words size (λ ts us. of) (front n h)
    where
      of : {ts us : Tokens}
          → Seq (Seq (Tok kind.LeftParen) (Seq (SameTarget PartOf p)
          (Same (map_targets shape) MoreTargets (tree.target q qs)))) (Tok kind.RightParen) ts us
          → SameTarget GroupOf (tree.group (tree.target p (tree.target q qs))) ts us
      of (both (both (token h) (both (same (part d) e) (same (one_more_target i (part u) r) c))) (token j)) =
          same (a_group (grammar.group_parts h (grammar.parts d i (targeted_of u r)) j)) (λ k. tree.group (tree.target (e k) (c k)))
      of (both (both (token h) (both (same (part d) e) (same no_more_targets c))) (token j)) =
          absurd (let none = c in cc)

      front : (n : ℕ) → n + suc (targets_height (tree.target p (tree.target q qs))) ≤ most_brackets
          → R Opens EndsWord (Seq
          (Seq (Tok kind.LeftParen) (Seq (SameTarget PartOf p)
          (Same (map_targets shape) MoreTargets (tree.target q qs)))) (Tok kind.RightParen)) n
          (tuple_text (targets_texts w (tree.target p (tree.target q qs))))
      front n h = reads_as words size
          (ap (λ (x : List ℕ). codes "(" ⧺ listed (targets_texts w (tree.target p (tree.target q qs))) ⧺ x)
          (sym (end_many (length (targets_texts w qs)))))
          (left_paren words size (omega arith) (λ behind. refl)
          ⊳ (fitted words size (λ cs e. e) number_word (all.0 (suc n) (omega arith))
          ⊳ further_targets (tree.target q qs) all.1 (suc n) (omega arith)) ⊳ right_paren words size)

  -- ---- clauses

  abbrev pub ReadClause : Clause → Type 0
  ReadClause c = (n : ℕ) → n + clause_height c ≤ most_brackets
      → R EndsNumber EndsNumber (Same (map_clause shape) grammar.IsClause c) n (clause_text w c)

  abbrev pub ReadClauses : Clauses → Type 0
  ReadClauses cs = (n : ℕ) → n + clauses_height cs ≤ most_brackets
      → R EndsNumber EndsNumber (Same (map_clauses shape) grammar.IsClauses cs) n (clauses_text w cs)

  conditions_read : (es : Exprs) → AllRead words size columns line es → (n : ℕ) → n + exprs_height es ≤ most_brackets
      → R EndsNumber EndsNumber (Same (map_exprs shape) grammar.Ifs es) n (conditions_text w es)
  conditions_read tree.no_exprs all n h = mapped words size (λ ts us. none) (nothing words size)
    where
      none : {ts us : Tokens} → Nil ts us → Same (map_exprs shape) grammar.Ifs tree.no_exprs ts us
      none nil = same grammar.ifs_end refl
  conditions_read (tree.expr e es) all n h =
      mapped words size (λ ts us. some) (if_between words size columns line ⊳ all.0.operand n (omega arith)
      ⊳ conditions_read es all.1 n (omega arith))
    where
      some : {ts us : Tokens} → Seq (Seq (Tok kind.If) (SameExpr grammar.Primary e)) (Same (map_exprs shape) grammar.Ifs es) ts us
          → Same (map_exprs shape) grammar.Ifs (tree.expr e es) ts us
      some (both (both (token h) (same p a)) (same q b)) = same (grammar.ifs_go h (primary_or p) q) (λ k. tree.expr (a k) (b k))

  pub for_before : {n : ℕ} → R Opens Opens (Tok kind.For) n (codes "for ")
  unfolding ◌⧺◌
  for_before = before_blank words size columns line (keyword_read words size kind.For (codes "for")
      (omega arith) refl refl refl refl tt)

  pub clause_read : (p : Target) (e : Expr) (es : Exprs) → ReadPart p → Operand e → AllRead words size columns line es
      → ReadClause (tree.a_clause (tree.a_walk p e None) es)
  clause_read p e es a b all n h =
      mapped words size (λ ts us. of) (blank words size columns line (λ behind. refl)
      ⊳ (for_before ⊳ fitted words size (λ cs e. e) number_word (a n (omega arith))
      ⊳ in_between words size columns line)
      ⊳ b.operand n (omega arith) ⊳ conditions_read es all n (omega arith))
    where
      of : {ts us : Tokens}
          → Seq (Seq (Seq Nil (Seq (Seq (Tok kind.For) (SameTarget PartOf p)) (Tok kind.In))) (SameExpr grammar.Primary e))
          (Same (map_exprs shape) grammar.Ifs es) ts us
          → Same (map_clause shape) grammar.IsClause (tree.a_clause (tree.a_walk p e None) es) ts us
      of (both (both (both nil (both (both (token h) (same (part d) x)) (token i))) (same q y)) (same r z)) =
          same (grammar.a_clause h (grammar.target_part d) i (primary_or q) r) (λ k. tree.a_clause (tree.a_walk (x k) (y k) None) (z k))

  pub no_clauses_read : ReadClauses tree.no_clauses
  no_clauses_read n h = mapped words size (λ ts us. none) (nothing words size)
    where
      none : {ts us : Tokens} → Nil ts us → Same (map_clauses shape) grammar.IsClauses tree.no_clauses ts us
      none nil = same grammar.clauses_end refl

  pub clauses_read : (c : Clause) (cs : Clauses) → ReadClause c → ReadClauses cs → ReadClauses (tree.clause c cs)
  clauses_read c cs a b n h = mapped words size (λ ts us. some) (a n (omega arith) ⊳ b n (omega arith))
    where
      some : {ts us : Tokens} → Seq (Same (map_clause shape) grammar.IsClause c)
          (Same (map_clauses shape) grammar.IsClauses cs) ts us → Same (map_clauses shape) grammar.IsClauses (tree.clause c cs) ts us
      some (both (same p a) (same q b)) = same (grammar.clauses_go p q) (λ k. tree.clause (a k) (b k))

  -- ---- trailers

  abbrev pub SameTrailer : Trailer → Tokens → Tokens → Type 0
  SameTrailer x = Same (map_trailer shape) grammar.IsTrailer x

  pub record ReadTrailer (x : Trailer) : Type 0 where
    pub plain : is_guarded x ≡ false
    pub own : List ℕ
    pub is : (so_far : List ℕ) → with_trailer w so_far x ≡ so_far ⧺ own
    pub reads : (n : ℕ) → n + suc (trailer_height x) ≤ most_brackets → R EndsWord EndsWord (SameTrailer x) n own

  pub attr_trailer : (x : Named) → IsGoodName words x.name → ReadTrailer (tree.attr x None)
  attr_trailer x good = record {
    plain = refl;
    own = codes "." ⧺ w x.name;
    is = λ so_far. simp assoc_texts;
    reads = λ n h. mapped words size (λ ts us. of) (dot words size ⊳ name_read words size columns line x.name good);
  }
    where
      of : {ts us : Tokens} → Seq (Tok kind.Dot) (Tok (kind.Name x.name)) ts us → SameTrailer (tree.attr x None) ts us
      of (both (token h) (token i)) = same (grammar.attr h i) refl

  pub item_trailer : (e : Expr) → Operand e → ReadTrailer (tree.item e None)
  item_trailer e b = record {
    plain = refl;
    own = codes "[" ⧺ expr_text w e ⧺ codes "]";
    is = λ so_far. simp assoc_texts;
    reads = λ n h. mapped words size (λ ts us. of) (left_bracket words size (omega arith) (λ behind. refl)
        ⊳ b.whole (suc n) (omega arith) ⊳ right_bracket words size);
  }
    where
      of : {ts us : Tokens} → Seq (Seq (Tok kind.LeftBracket) (SameExpr grammar.IsExpr e)) (Tok kind.RightBracket) ts us
          → SameTrailer (tree.item e None) ts us
      of (both (both (token h) (same q s)) (token i)) = same (grammar.item h q i) (λ k. tree.item (s k) None)

  abbrev pub MaybeRead : Maybe → Type 0
  MaybeRead tree.none = Unit {0}
  MaybeRead (tree.some e) = Operand e

  bound_read : (x : Maybe) → MaybeRead x → (n : ℕ) → n + maybe_height x ≤ most_brackets
      → R Anything EndsNumber (Same (map_maybe shape) grammar.IsMaybe x) n (bound_text w x)
  bound_read tree.none a n h = mapped words size (λ ts us. none)
      (fitted words size (λ cs e. tt) (λ cs e. e) (nothing words size))
    where
      none : {ts us : Tokens} → Nil ts us → Same (map_maybe shape) grammar.IsMaybe tree.none ts us
      none nil = same grammar.missing refl
  bound_read (tree.some e) a n h = mapped words size (λ ts us. some)
      (fitted words size (λ cs e. tt) (λ cs e. e) (a.whole n h))
    where
      some : {ts us : Tokens} → SameExpr grammar.IsExpr e ts us → Same (map_maybe shape) grammar.IsMaybe (tree.some e) ts us
      some (same p s) = same (grammar.present p) (λ k. tree.some (s k))

  pub slice_trailer : (x y z : Maybe) → MaybeRead x → MaybeRead y → MaybeRead z → ReadTrailer (tree.slice x y z None)
  slice_trailer x y tree.none a b c = record {
    plain = refl;
    own = codes "[" ⧺ bound_text w x ⧺ codes ":" ⧺ bound_text w y ⧺ [] ⧺ codes "]";
    is = λ so_far. simp assoc_texts;
    reads = λ n h. mapped words size (λ ts us. of) (left_bracket words size (omega arith) (λ behind. refl)
        ⊳ bound_read x a (suc n) (omega arith) ⊳ colon words size
        ⊳ bound_read y b (suc n) (omega arith) ⊳ nothing words size ⊳ right_bracket words size);
  }
    where
      of : {ts us : Tokens}
          → Seq (Seq (Seq (Seq (Seq (Tok kind.LeftBracket) (Same (map_maybe shape) grammar.IsMaybe x)) (Tok kind.Colon))
          (Same (map_maybe shape) grammar.IsMaybe y)) Nil) (Tok kind.RightBracket) ts us
          → SameTrailer (tree.slice x y tree.none None) ts us
      of (both (both (both (both (both (token h) (same q u)) (token i)) (same r v)) nil) (token j)) =
          same (grammar.slice h q i r j) (λ k. tree.slice (u k) (v k) tree.none None)
  slice_trailer x y (tree.some e) a b c = record {
    plain = refl;
    own = codes "[" ⧺ bound_text w x ⧺ codes ":" ⧺ bound_text w y ⧺ (codes ":" ⧺ expr_text w e) ⧺ codes "]";
    is = λ so_far. simp assoc_texts;
    reads = λ n h. mapped words size (λ ts us. of) (left_bracket words size (omega arith) (λ behind. refl)
        ⊳ bound_read x a (suc n) (omega arith) ⊳ colon words size
        ⊳ bound_read y b (suc n) (omega arith) ⊳ (colon words size ⊳ c.whole (suc n) (omega arith))
        ⊳ right_bracket words size);
  }
    where
      of : {ts us : Tokens}
          → Seq (Seq (Seq (Seq (Seq (Tok kind.LeftBracket) (Same (map_maybe shape) grammar.IsMaybe x)) (Tok kind.Colon))
          (Same (map_maybe shape) grammar.IsMaybe y)) (Seq (Tok kind.Colon) (SameExpr grammar.IsExpr e)))
          (Tok kind.RightBracket) ts us
          → SameTrailer (tree.slice x y (tree.some e) None) ts us
      of (both (both (both (both (both (token h) (same q u)) (token i)) (same r v)) (both (token m) (same o s)))
          (token j)) =
          same (grammar.stepped h q i r m (grammar.present o) j) (λ k. tree.slice (u k) (v k) (tree.some (s k)) None)

  -- what trails an atom
  pub record ReadTrail (xs : Trailers) : Type 0 where
    pub own : List ℕ
    pub is : (so_far : List ℕ) → trailed w so_far xs ≡ so_far ⧺ own
    pub reads : (n : ℕ) → n + suc (trailers_height xs) ≤ most_brackets
        → R EndsWord EndsWord (Same (map_trailers shape) grammar.Trail xs) n own

  pub no_trail : ReadTrail tree.no_trailers
  no_trail = record {
    own = [];
    is = λ so_far. sym (nil_text so_far);
    reads = λ n h. mapped words size (λ ts us. of) (nothing words size);
  }
    where
      of : {ts us : Tokens} → Nil ts us → Same (map_trailers shape) grammar.Trail tree.no_trailers ts us
      of nil = same grammar.ends refl

  pub more_trail : (x : Trailer) (xs : Trailers) → ReadTrailer x → ReadTrail xs → ReadTrail (tree.trailer x xs)
  more_trail x xs a b = record {
    own = a.own ⧺ b.own;
    is = λ so_far. b.is (with_trailer w so_far x) ∙ ap (λ (l : List ℕ). l ⧺ b.own) (a.is so_far)
        ∙ assoc_texts so_far a.own b.own;
    reads = λ n h. mapped words size (λ ts us. of) (a.reads n (omega arith) ⊳ b.reads n (omega arith));
  }
    where
      of : {ts us : Tokens} → Seq (SameTrailer x) (Same (map_trailers shape) grammar.Trail xs) ts us
          → Same (map_trailers shape) grammar.Trail (tree.trailer x xs) ts us
      of (both (same q s) (same r u)) = same (grammar.goes q r) (λ k. tree.trailer (s k) (u k))

  pub primary_read : (l : Line) (e : Expr) (x : Trailer) (xs : Trailers) → Operand e → ReadTrailer x → ReadTrail xs
      → Operand (tree.node l (tree.primary e (tree.trailer x xs)))
  primary_read l e x xs a b c = middling words size columns line l (tree.primary e (tree.trailer x xs)) refl refl (λ n h.
      mapped words size (λ ts us. of) (fitted words size (λ cs e. e) number_word
      (reads_as words size (sym ((more_trail x xs b c).is (base_text w false e))
      ∙ ap (λ (guarded : Bool). trailed w (base_text w guarded e) (tree.trailer x xs)) (sym b.plain))
      (a.base n (omega arith) ⊳ (more_trail x xs b c).reads n (omega arith)))))
    where
      of : {ts us : Tokens} → Seq (SameExpr grammar.Atom e) (Same (map_trailers shape) grammar.Trail (tree.trailer x xs)) ts us
          → SameExpr grammar.Primary (tree.node l (tree.primary e (tree.trailer x xs))) ts us
      of (both (same p s) (same (grammar.goes q r) u)) = same (grammar.trailed p q r)
          (λ k. tree.node (record { 0 = 0 }) (tree.primary (s k) (u k)))
      of (both (same p s) (same grammar.ends u)) = absurd (let none = u in cc)
