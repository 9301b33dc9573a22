-- Arguments and parameters are read back.
use Rattle.std.proofs.Common.{◌≡◌, refl, sym, ap, ap₂, ◌∙◌, ℕ, suc, ◌+◌, ◌≤◌, Bool, true, false, List, [], ◌∷◌, ◌++◌}
use Rattle.std.proofs.Common.{codes, Option, Some, None, option_map, arith}
use Rattle.rp_base.specs.declared.value.Line.{Line}
use Rattle.rp_base.specs.declared.value.Name.{Name}
use Rattle.rp_grammar.specs.Kinds.{Tokens, first, skip}
use Rattle.rp_grammar.specs.Expressions as grammar
use Rattle.rp_grammar.specs.Expressions.{MayCome, Stage, any, closed, defaults, distinct, key_name, key_names, named}
use Rattle.rp_grammar.specs.Expressions.{named_names, parameter_names, plain_names, star as star_stage}
use Rattle.rp_grammar.specs.Expressions.{stars as stars_stage, with_plain}
use Rattle.rp_print.specs.Texts.{◌⧺◌, further, joined, listed, space_before}
use Rattle.rp_print.specs.Expressions.{arg_text, args_texts, expr_text, params_texts}
use Rattle.rp_token.specs.declared.token.TokenKind.TheVariants as kind
use Rattle.rp_token.specs.Tokens.{most_brackets}
use Rattle.rp_tree.specs.Expressions as tree
use Rattle.rp_tree.specs.Expressions.{Arg, Args, Expr, Maybe, Named, Params, Plain, Trailer}
use Rattle.rp_tree.specs.Heights.{arg_height, args_height, params_height}
use Rattle.rp_tree.specs.Maps.{map_arg, map_args, map_maybe, map_named, map_params, map_plain, shape}
use Rattle.rp_printed.proofs.Reading.{◌▹◌, IsGoodName, Nil, Reads, Same, Seq, Spot, Tok, both, fitted, mapped, nil}
use Rattle.rp_printed.proofs.Reading.{nothing, reads_as, same, token}
use Rattle.rp_printed.proofs.Lexemes.{EndsNumber, EndsWord, keyword_read, number_word}
use Rattle.rp_printed.proofs.Marks.{Anything, Starts, comma, equal, left_paren, no_blank, right_paren, star}
use Rattle.rp_printed.proofs.Marks.{stars}
use Rattle.rp_printed.proofs.Operands.{colon_gap, gap, IsRead, loose, name_read, ReadsAt, SameExpr, word}
use Rattle.rp_printed.proofs.Places.{ReadTrailer, SameTrailer, assoc_texts}

-- ---- arguments separated by commas, behind one

data MoreArgs : Bool → Args → Tokens → Tokens → Type 0 where
  no_more_args : {named : Bool} {ts : Tokens} → MoreArgs named tree.no_args ts ts
  one_more_arg : {named : Bool} {x : Arg} {xs : Args} {ts us vs : Tokens} → first ts ≡ kind.Comma
      → grammar.IsArg named x (skip ts) us → MoreArgs named xs us vs → MoreArgs named (tree.arg x xs) ts vs
  turning : {xs : Args} {ts us : Tokens} → MoreArgs true xs ts us → MoreArgs false xs ts us

named_args : {x : Arg} {xs : Args} {ts us vs : Tokens} → grammar.IsArg true x ts us → MoreArgs true xs us vs
    → grammar.IsArgs true (tree.arg x xs) ts vs
named_args p no_more_args = grammar.last_arg p
named_args p (one_more_arg h q r) = grammar.more_args p h (named_args q r)

plain_args : {x : Arg} {xs : Args} {ts us vs : Tokens} → grammar.IsArg false x ts us → MoreArgs false xs us vs
    → grammar.IsArgs false (tree.arg x xs) ts vs
plain_args p no_more_args = grammar.last_arg p
plain_args p (one_more_arg h q r) = grammar.more_args p h (plain_args q r)
plain_args p (turning no_more_args) = grammar.last_arg p
plain_args p (turning (one_more_arg h q r)) = grammar.more_args p h (grammar.args_with_names (named_args q r))

-- the names of arguments stay
key_kept : (x : Arg) → key_name (map_arg shape x) ≡ key_name x
key_kept (tree.value e) = refl
key_kept (tree.star e) = refl
key_kept (tree.key n e) = refl
key_kept (tree.stars e) = refl

keys_kept : (xs : Args) → key_names (map_args shape xs) ≡ key_names xs
keys_kept tree.no_args = refl
keys_kept (tree.arg x xs) = ap₂ ◌++◌ (key_kept x) (keys_kept xs)

same_keys : (xs ys : Args) → map_args shape xs ≡ map_args shape ys → key_names xs ≡ key_names ys
same_keys xs ys e = sym (keys_kept xs) ∙ ap key_names e ∙ keys_kept ys

-- and those of parameters
plain_kept : (ps : Plain) → plain_names (map_plain shape ps) ≡ plain_names ps
plain_kept tree.no_plain = refl
plain_kept (tree.plain n e ps) = ap (λ (l : List Name). n.name ∷ l) (plain_kept ps)

option_kept : (o : Option Named) → named_names (option_map (map_named shape) o) ≡ named_names o
option_kept None = refl
option_kept (Some n) = refl

params_kept : (ps : Params) → parameter_names (map_params shape ps) ≡ parameter_names ps
params_kept (tree.params ps l d) = λ i. plain_kept ps i ++ option_kept l i ++ option_kept d i

pub same_parameters : (ps qs : Params) → map_params shape ps ≡ map_params shape qs → parameter_names ps
    ≡ parameter_names qs
same_parameters ps qs e = sym (params_kept ps) ∙ ap parameter_names e ∙ params_kept qs

-- parameters with this one behind a star
abbrev with_list : Named → Params → Params
with_list n (tree.params ps l d) = tree.params ps (Some n) d

shape_with_plain : (n : Named) (e : Maybe) (ps : Params) → map_params shape (with_plain n e ps)
    ≡ with_plain (map_named shape n) (map_maybe shape e) (map_params shape ps)
shape_with_plain n e (tree.params ps l d) = refl

module _ (words : List (List ℕ)) (size : ℕ) (columns : List ℕ) (line : ℕ) where
  abbrev R : (List ℕ → Type 0) → (List ℕ → Type 0) → (Tokens → Tokens → Type 0) → ℕ → List ℕ → Type 0
  R = ReadsAt words size columns line

  abbrev Operand : Expr → Type 0
  Operand = IsRead words size columns line

  abbrev w : Name → List ℕ
  w = word words size columns line

  infixl 50 ◌⊳◌
  abbrev ◌⊳◌ : {H F G : List ℕ → Type 0} {P Q : Tokens → Tokens → Type 0} {p q r : Spot} {a b : List ℕ}
      → Reads words size H F P p q a → Reads words size F G Q q r b → Reads words size H G (Seq P Q) p r (a ⧺ b)
  x ⊳ y = ◌▹◌ words size x y

  comma_starts : {n : ℕ} → R EndsNumber Starts (Tok kind.Comma) n (codes ", ")
  unfolding ◌⧺◌
  comma_starts = mapped words size (λ ts us. only) (comma words size
      ⊳ gap words size columns line {H = Anything} (λ behind. tt))
    where
      only : {ts us : Tokens} → Seq (Tok kind.Comma) Nil ts us → Tok kind.Comma ts us
      only (both p nil) = p

  -- ---- arguments

  abbrev pub ReadArg : Bool → Arg → Type 0
  ReadArg named x = (n : ℕ) → n + arg_height x ≤ most_brackets
      → R Starts EndsNumber (Same (map_arg shape) (grammar.IsArg named) x) n (arg_text w x)

  pub value_arg : (e : Expr) → Operand e → ReadArg false (tree.value e)
  value_arg e a n h = mapped words size (λ ts us. of) (fitted words size no_blank (λ cs k. k) (a.whole n h))
    where
      of : {ts us : Tokens} → SameExpr grammar.IsExpr e ts us → Same (map_arg shape) (grammar.IsArg false) (tree.value e) ts us
      of (same p s) = same (grammar.value p) (λ k. tree.value (s k))

  pub star_arg : (e : Expr) → Operand e → ReadArg false (tree.star e)
  star_arg e a n h = mapped words size (λ ts us. of) (star words size (λ behind. refl) ⊳ a.whole n h)
    where
      of : {ts us : Tokens} → Seq (Tok kind.Star) (SameExpr grammar.IsExpr e) ts us
          → Same (map_arg shape) (grammar.IsArg false) (tree.star e) ts us
      of (both (token h) (same p s)) = same (grammar.starred h p) (λ k. tree.star (s k))

  pub stars_arg : (e : Expr) → Operand e → ReadArg true (tree.stars e)
  stars_arg e a n h = mapped words size (λ ts us. of) (stars words size (λ behind. refl) ⊳ a.whole n h)
    where
      of : {ts us : Tokens} → Seq (Tok kind.DoubleStar) (SameExpr grammar.IsExpr e) ts us
          → Same (map_arg shape) (grammar.IsArg true) (tree.stars e) ts us
      of (both (token h) (same p s)) = same (grammar.double_starred h p) (λ k. tree.stars (s k))

  pub key_arg : (x : Name) (e : Expr) → IsGoodName words x → Operand e → ReadArg true (tree.key x e)
  key_arg x e good a n h =
      mapped words size (λ ts us. of) (fitted words size no_blank (λ cs k. k)
      (name_read words size columns line x good ⊳ equal words size ⊳ a.whole n h))
    where
      of : {ts us : Tokens} → Seq (Seq (Tok (kind.Name x)) (Tok kind.Equal)) (SameExpr grammar.IsExpr e) ts us
          → Same (map_arg shape) (grammar.IsArg true) (tree.key x e) ts us
      of (both (both (token h) (token i)) (same p s)) = same (grammar.key h i p) (λ k. tree.key x (s k))

  pub data AllArgs : Bool → Args → Type 0 where
    none_read : {named : Bool} → AllArgs named tree.no_args
    one_read : {named : Bool} {x : Arg} {xs : Args} → ReadArg named x → AllArgs named xs → AllArgs named (tree.arg x xs)
    names_read : {xs : Args} → AllArgs true xs → AllArgs false xs

  further_args : {named : Bool} {xs : Args} → AllArgs named xs → (n : ℕ) → n + args_height xs ≤ most_brackets
      → R EndsNumber EndsNumber (Same (map_args shape) (MoreArgs named) xs) n (further (codes ", ") (args_texts w xs))
  unfolding further
  further_args {named = named} none_read n h = mapped words size (λ ts us. none) (nothing words size)
    where
      none : {ts us : Tokens} → Nil ts us → Same (map_args shape) (MoreArgs named) tree.no_args ts us
      none nil = same no_more_args refl
  further_args {named = named} (one_read {x = x} {xs = xs} a all) n h =
      mapped words size (λ ts us. some) (comma_starts ⊳ a n (omega arith) ⊳ further_args all n (omega arith))
    where
      some : {ts us : Tokens} → Seq (Seq (Tok kind.Comma) (Same (map_arg shape) (grammar.IsArg named) x))
          (Same (map_args shape) (MoreArgs named) xs) ts us → Same (map_args shape) (MoreArgs named) (tree.arg x xs) ts us
      some (both (both (token i) (same p s)) (same q r)) = same (one_more_arg i p q) (λ k. tree.arg (s k) (r k))
  further_args (names_read {xs = xs} all) n h = mapped words size (λ ts us. turn) (further_args all n h)
    where
      turn : {ts us : Tokens} → Same (map_args shape) (MoreArgs true) xs ts us
          → Same (map_args shape) (MoreArgs false) xs ts us
      turn (same p s) = same (turning p) s

  args_read : {named : Bool} {xs : Args} → AllArgs named xs → (n : ℕ) → n + args_height xs ≤ most_brackets
      → R Anything EndsNumber (Same (map_args shape) (grammar.IsArgs named) xs) n (listed (args_texts w xs))
  unfolding joined
  args_read {named = named} none_read n h = mapped words size (λ ts us. none)
      (fitted words size (λ cs e. tt) (λ cs e. e) (nothing words size))
    where
      none : {ts us : Tokens} → Nil ts us → Same (map_args shape) (grammar.IsArgs named) tree.no_args ts us
      none nil = same grammar.no_arg refl
  args_read {named = true} (one_read {x = x} {xs = xs} a all) n h =
      mapped words size (λ ts us. some) (fitted words size (λ cs e. tt) (λ cs e. e)
      (a n (omega arith) ⊳ further_args all n (omega arith)))
    where
      some : {ts us : Tokens} → Seq (Same (map_arg shape) (grammar.IsArg true) x)
          (Same (map_args shape) (MoreArgs true) xs) ts us → Same (map_args shape) (grammar.IsArgs true) (tree.arg x xs) ts us
      some (both (same p s) (same q r)) = same (named_args p q) (λ k. tree.arg (s k) (r k))
  args_read {named = false} (one_read {x = x} {xs = xs} a all) n h =
      mapped words size (λ ts us. some) (fitted words size (λ cs e. tt) (λ cs e. e)
      (a n (omega arith) ⊳ further_args all n (omega arith)))
    where
      some : {ts us : Tokens} → Seq (Same (map_arg shape) (grammar.IsArg false) x)
          (Same (map_args shape) (MoreArgs false) xs) ts us → Same (map_args shape) (grammar.IsArgs false) (tree.arg x xs) ts us
      some (both (same p s) (same q r)) = same (plain_args p q) (λ k. tree.arg (s k) (r k))
  args_read (names_read {xs = xs} all) n h = mapped words size (λ ts us. turn) (args_read all n h)
    where
      of : {xs : Args} {ts us : Tokens} → grammar.IsArgs true xs ts us → grammar.IsArgs false xs ts us
      of grammar.no_arg = grammar.no_arg
      of (grammar.last_arg p) = grammar.args_with_names (grammar.last_arg p)
      of (grammar.more_args p h q) = grammar.args_with_names (grammar.more_args p h q)

      turn : {ts us : Tokens} → Same (map_args shape) (grammar.IsArgs true) xs ts us
          → Same (map_args shape) (grammar.IsArgs false) xs ts us
      turn (same p s) = same (of p) s

  pub call_trailer : (xs : Args) → AllArgs false xs → distinct (key_names xs) ≡ true
      → ReadTrailer words size columns line (tree.call xs None)
  call_trailer xs all apart = record {
    plain = refl;
    own = codes "(" ⧺ listed (args_texts w xs) ⧺ codes ")";
    is = λ so_far. simp assoc_texts;
    reads = λ n h. mapped words size (λ ts us. of) (left_paren words size (omega arith) (λ behind. refl)
        ⊳ args_read all (suc n) (omega arith) ⊳ right_paren words size);
  }
    where
      of : {ts us : Tokens} → Seq (Seq (Tok kind.LeftParen) (Same (map_args shape) (grammar.IsArgs false) xs))
          (Tok kind.RightParen) ts us
          → SameTrailer words size columns line (tree.call xs None) ts us
      of (both (both (token h) (same {y = ys} q s)) (token i)) =
          same (grammar.call h q (ap distinct (same_keys ys xs s) ∙ apart) i) (λ k. tree.call (s k) None)

  -- ---- parameters

  pub record ReadParams (stage : Stage) (ps : Params) : Type 0 where
    pub whole : (n : ℕ) → n + params_height ps ≤ most_brackets
        → R Anything EndsNumber (Same (map_params shape) (grammar.IsParams stage) ps) n (listed (params_texts w ps))
    pub spaced : (n : ℕ) → n + params_height ps ≤ most_brackets
        → R EndsWord EndsNumber (Same (map_params shape) (grammar.IsParams stage) ps) n
        (space_before (params_texts w ps) ⧺ listed (params_texts w ps))
    pub further : (n : ℕ) → n + params_height ps ≤ most_brackets
        → R EndsNumber EndsNumber (Same (map_params shape) (grammar.Following stage) ps) n
        (further (codes ", ") (params_texts w ps))

  abbrev pub ReadFollowing : Stage → Params → Type 0
  ReadFollowing stage ps = (n : ℕ) → n + params_height ps ≤ most_brackets
      → R EndsNumber EndsNumber (Same (map_params shape) (grammar.Following stage) ps) n
      (further (codes ", ") (params_texts w ps))

  pub no_following : (stage : Stage) → ReadFollowing stage (tree.params tree.no_plain None None)
  unfolding further
  no_following stage n h = mapped words size (λ ts us. none) (nothing words size)
    where
      none : {ts us : Tokens} → Nil ts us → Same (map_params shape) (grammar.Following stage)
          (tree.params tree.no_plain None None) ts us
      none nil = same grammar.no_more refl

  pub no_params : (stage : Stage) → ReadParams stage (tree.params tree.no_plain None None)
  unfolding joined space_before
  no_params stage = record {
    whole = λ n h. mapped words size (λ ts us. one) (fitted words size (λ cs e. tt) (λ cs e. e)
        (nothing words size {G = EndsNumber}));
    spaced = λ n h. mapped words size (λ ts us. two) (fitted words size number_word (λ cs e. e)
        (nothing words size ⊳ nothing words size));
    further = no_following stage;
  }
    where
      one : {ts us : Tokens} → Nil ts us → Same (map_params shape) (grammar.IsParams stage)
          (tree.params tree.no_plain None None) ts us
      one nil = same grammar.no_param refl

      two : {ts us : Tokens} → Seq Nil Nil ts us → Same (map_params shape) (grammar.IsParams stage)
          (tree.params tree.no_plain None None) ts us
      two (both nil nil) = same grammar.no_param refl

  -- some parameters, by the text of the first of them
  some_params : (stage : Stage) (ps : Params) (front : List ℕ) (rest : List (List ℕ)) → params_texts w ps ≡ front ∷ rest
      → ((n : ℕ) → n + params_height ps ≤ most_brackets → R Starts EndsNumber
      (Same (map_params shape) (grammar.IsParams stage) ps) n (front ⧺ further (codes ", ") rest))
      → ReadParams stage ps
  unfolding joined space_before further
  some_params stage ps front rest is body = record {
    whole = λ n h. reads_as words size (ap listed (sym is)) (fitted words size (λ cs e. tt) (λ cs e. e) (body n h));
    spaced = λ n h. reads_as words size (ap (λ (l : List (List ℕ)). space_before l ⧺ listed l) (sym is))
        (mapped words size (λ ts us. two) (gap words size columns line (λ behind. refl) ⊳ body n h));
    further = λ n h. reads_as words size (ap (further (codes ", ")) (sym is))
        (reads_as words size (assoc (codes ", ") front (further (codes ", ") rest))
        (mapped words size (λ ts us. three) (comma_starts ⊳ body n h)));
  }
    where
      two : {ts us : Tokens} → Seq Nil (Same (map_params shape) (grammar.IsParams stage) ps) ts us
          → Same (map_params shape) (grammar.IsParams stage) ps ts us
      two (both nil p) = p

      three : {ts us : Tokens} → Seq (Tok kind.Comma) (Same (map_params shape) (grammar.IsParams stage) ps) ts us
          → Same (map_params shape) (grammar.Following stage) ps ts us
      three (both (token h) (same p s)) = same (grammar.comma h p) s

      assoc : (a b c : List ℕ) → a ⧺ (b ⧺ c) ≡ a ⧺ b ⧺ c
      assoc a b c = sym (assoc_texts a b c)

  -- a name, and what follows it
  pub plain_param : (x : Named) (ps : Params) → IsGoodName words x.name → ReadFollowing any ps
      → ReadParams any (with_plain x tree.none ps)
  plain_param x (tree.params pl l d) good after =
      some_params any (tree.params (tree.plain x tree.none pl) l d) (w x.name ⧺ []) (params_texts w (tree.params pl l d)) refl
      (λ n h.
      mapped words size (λ ts us. of) (fitted words size no_blank (λ cs k. k)
      ((fitted words size (λ cs k. k) number_word (name_read words size columns line x.name good)
      ⊳ nothing words size) ⊳ after n (omega arith))))
    where
      of : {ts us : Tokens} → Seq (Seq (Tok (kind.Name x.name)) Nil)
          (Same (map_params shape) (grammar.Following any) (tree.params pl l d)) ts us
          → Same (map_params shape) (grammar.IsParams any) (tree.params (tree.plain x tree.none pl) l d) ts us
      of {ts = ts} (both (both (token h) nil) (same {y = ys} p s)) =
          same (grammar.param h p) (shape_with_plain (named x.name ts) tree.none ys
          ∙ ap (with_plain (record { name = x.name; line = record { 0 = 0 } }) tree.none) s)

  pub default_param : (stage : Stage) (x : Named) (e : Expr) (ps : Params) → MayCome defaults stage
      → IsGoodName words x.name → Operand e → ReadFollowing defaults ps
      → ReadParams stage (with_plain x (tree.some e) ps)
  default_param stage x e (tree.params pl l d) may good a after =
      some_params stage (tree.params (tree.plain x (tree.some e) pl) l d) (w x.name ⧺ (codes "=" ⧺ expr_text w e))
      (params_texts w (tree.params pl l d)) refl (λ n h.
      mapped words size (λ ts us. of) (fitted words size no_blank (λ cs k. k)
      ((name_read words size columns line x.name good ⊳ (equal words size ⊳ a.whole n (omega arith)))
      ⊳ after n (omega arith))))
    where
      of : {ts us : Tokens} → Seq (Seq (Tok (kind.Name x.name)) (Seq (Tok kind.Equal) (SameExpr grammar.IsExpr e)))
          (Same (map_params shape) (grammar.Following defaults) (tree.params pl l d)) ts us
          → Same (map_params shape) (grammar.IsParams stage) (tree.params (tree.plain x (tree.some e) pl) l d) ts us
      of {ts = ts} (both (both (token h) (both (token i) (same {y = f} q r))) (same {y = ys} p s)) =
          same (grammar.default may h i q p) (shape_with_plain (named x.name ts) (tree.some f) ys
          ∙ λ k. with_plain (record { name = x.name; line = record { 0 = 0 } }) (tree.some (r k)) (s k))

  pub list_param : (stage : Stage) (x : Named) (d : Option Named) → MayCome star_stage stage → IsGoodName words x.name
      → ReadFollowing stars_stage (tree.params tree.no_plain None d)
      → ReadParams stage (tree.params tree.no_plain (Some x) d)
  list_param stage x d may good after =
      some_params stage (tree.params tree.no_plain (Some x) d) (codes "*" ⧺ w x.name)
      (params_texts w (tree.params tree.no_plain None d)) refl (λ n h.
      mapped words size (λ ts us. of)
      ((star words size (λ behind. refl) ⊳ fitted words size (λ cs k. k) number_word
      (name_read words size columns line x.name good)) ⊳ after n h))
    where
      of : {ts us : Tokens} → Seq (Seq (Tok kind.Star) (Tok (kind.Name x.name)))
          (Same (map_params shape) (grammar.Following stars_stage) (tree.params tree.no_plain None d)) ts us
          → Same (map_params shape) (grammar.IsParams stage) (tree.params tree.no_plain (Some x) d) ts us
      of (both (both (token h) (token i)) (same {y = tree.params tree.no_plain None e} p s)) =
          same (grammar.list_param may h i p)
          (ap (λ (ps : Params). with_list (record { name = x.name; line = record { 0 = 0 } }) ps) s)
      of (both (both (token h) (token i)) (same {y = tree.params tree.no_plain (Some m) e} p s)) = absurd (cc)
      of (both (both (token h) (token i)) (same {y = tree.params (tree.plain m f pl) l e} p s)) = absurd (cc)

  pub dict_param : (stage : Stage) (x : Named) → MayCome stars_stage stage → IsGoodName words x.name
      → ReadParams stage (tree.params tree.no_plain None (Some x))
  dict_param stage x may good =
      some_params stage (tree.params tree.no_plain None (Some x)) (codes "**" ⧺ w x.name) [] refl (λ n h.
      mapped words size (λ ts us. of)
      ((stars words size (λ behind. refl) ⊳ fitted words size (λ cs k. k) number_word
      (name_read words size columns line x.name good)) ⊳ no_following closed n h))
    where
      of : {ts us : Tokens} → Seq (Seq (Tok kind.DoubleStar) (Tok (kind.Name x.name)))
          (Same (map_params shape) (grammar.Following closed) (tree.params tree.no_plain None None)) ts us
          → Same (map_params shape) (grammar.IsParams stage) (tree.params tree.no_plain None (Some x)) ts us
      of (both (both (token h) (token i)) (same {y = tree.params tree.no_plain None None} p s)) =
          same (grammar.dict_param may h i p) refl
      of (both (both (token h) (token i)) (same {y = tree.params tree.no_plain None (Some m)} p s)) = absurd (cc)
      of (both (both (token h) (token i)) (same {y = tree.params tree.no_plain (Some m) e} p s)) = absurd (cc)
      of (both (both (token h) (token i)) (same {y = tree.params (tree.plain m f pl) l e} p s)) = absurd (cc)

  -- ---- lambdas

  pub lambda_read : (l : Line) (ps : Params) (e : Expr) → ReadParams any ps → distinct (parameter_names ps) ≡ true
      → Operand e → Operand (tree.node l (tree.lambda 0 ps e))
  lambda_read l ps e params apart a = loose words size columns line l (tree.lambda 0 ps e) refl refl (λ n h.
      reads_as words size (ap (λ (x : List ℕ). x ⧺ codes ": " ⧺ expr_text w e)
      (sym (assoc_texts (codes "lambda") (space_before (params_texts w ps)) (listed (params_texts w ps)))))
      (mapped words size (λ ts us. of)
      ((keyword_read words size kind.Lambda (codes "lambda") (omega arith) refl refl refl refl tt
      ⊳ params.spaced n (omega arith)) ⊳ colon_gap words size columns line ⊳ a.whole n (omega arith))))
    where
      of : {ts us : Tokens}
          → Seq (Seq (Seq (Tok kind.Lambda) (Same (map_params shape) (grammar.IsParams any) ps)) (Tok kind.Colon))
          (SameExpr grammar.IsExpr e) ts us
          → SameExpr grammar.IsExpr (tree.node l (tree.lambda 0 ps e)) ts us
      of (both (both (both (token h) (same {y = qs} p s)) (token i)) (same q r)) =
          same (grammar.a_lambda h p (ap (λ (ns : List Name). distinct ns) (same_parameters qs ps s) ∙ apart) i q)
          (λ k. tree.node (record { 0 = 0 }) (tree.lambda 0 (s k) (r k)))
