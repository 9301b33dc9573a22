-- What a loop that reads items keeps: all that is read from its start is what it has found, and then what is read from the rest.
use Rattle.std.proofs.Common.{◌≡◌, ℕ, zero, suc, ◌<◌, Bool, true, false, cond, List, [], ◌∷◌, ◌++◌, length, map, Option, Some, None, refl, sym, ap, ◌∙◌, arith}
use Rattle.std.proofs.lemmas.List.{map_push}
use Rattle.rp_token.specs.declared.token.TokenKind.{TokenKind}
use Rattle.rp_base.specs.declared.operator.BinOp.{BinOp}
use Rattle.rp_tree.specs.declared.parts.Test.{Test}
use Rattle.rp_tree.specs.Expressions as tree
use Rattle.rp_tree.specs.ExpressionViews as views
use Rattle.rp_grammar.specs.Kinds.{Tokens, first, skip}
use Rattle.rp_grammar.specs.Front.{is_comma}
use Rattle.rp_grammar.specs.ExpressionReading as reading
use Rattle.rp_grammar.specs.ExpressionReading.{Read, ◌>>=◌, many, listed, all_many, all_listed, before}
use Rattle.rp_grammar.proofs.ExpressionTakes.{skip_within}

-- the items of a list before those of l
abbrev pub front : {A L : Type 0} → (A → L → L) → List A → L → L
front cons [] l = l
front cons (a ∷ items) l = cons a (front cons items l)

pub front_more : {A L : Type 0} (cons : A → L → L) (items : List A) (x : A) (l : L) → front cons (items ++ x ∷ []) l ≡ front cons items (cons x l)
front_more cons [] x l = refl
front_more cons (y ∷ items) x l = ap (cons y) (front_more cons items x l)

-- the lists of the trees, made in this way
pub front_exprs : (es : List tree.Expr) → front tree.expr es tree.no_exprs ≡ views.exprs_of es
front_exprs [] = refl
front_exprs (e ∷ es) = ap (tree.expr e) (front_exprs es)

pub front_targets : (ps : List tree.Target) → front tree.target ps tree.no_targets ≡ views.targets_of ps
front_targets [] = refl
front_targets (p ∷ ps) = ap (tree.target p) (front_targets ps)

pub front_pairs : (ps : List (tree.Expr × tree.Expr)) → front reading.with_pair ps tree.no_pairs ≡ views.pairs_of ps
front_pairs [] = refl
front_pairs (p ∷ ps) = ap (tree.pair p.0 p.1) (front_pairs ps)

pub front_clauses : (cs : List tree.Clause) → front tree.clause cs tree.no_clauses ≡ views.clauses_of cs
front_clauses [] = refl
front_clauses (c ∷ cs) = ap (tree.clause c) (front_clauses cs)

pub front_trailers : (xs : List tree.Trailer) → front tree.trailer xs tree.no_trailers ≡ views.trailers_of xs
front_trailers [] = refl
front_trailers (x ∷ xs) = ap (tree.trailer x) (front_trailers xs)

pub front_args : (xs : List tree.Arg) → front tree.arg xs tree.no_args ≡ views.args_of xs
front_args [] = refl
front_args (x ∷ xs) = ap (tree.arg x) (front_args xs)

pub front_ops : (os : List (BinOp × tree.Expr)) → front reading.with_op os tree.no_ops ≡ views.ops_of os
front_ops [] = refl
front_ops (o ∷ os) = ap (tree.op o.0 o.1) (front_ops os)

pub front_tests : (xs : List (Test × tree.Expr)) → front reading.with_test xs tree.no_tests ≡ views.tests_of xs
front_tests [] = refl
front_tests (x ∷ xs) = ap (tree.test x.0 x.1) (front_tests xs)

-- what was read
abbrev pub answered : {L : Type 0} → L → Tokens → Read L
answered l us = Some (l, us)

-- nothing found yet
pub before_none : {L : Type 0} (read : Read L) → read ≡ before (λ l. l) read
before_none None = refl
before_none (Some x) = refl

pub begin_none : {R A L : Type 0} (w : R → A) (cons : A → L → L) (read : Read L) (items : List R) → items ≡ [] → read ≡ before (front cons (map w items)) read
begin_none {R} w cons read items none = before_none read ∙ ap (λ (l : List R). before (front cons (map w l)) read) (sym none)

-- one item found
pub begin_one : {R A L : Type 0} (w : R → A) (cons : A → L → L) (read : Read L) (items new : List R) (x : R) → new ≡ items ++ x ∷ [] → items ≡ [] → before (cons (w x)) read ≡ before (front cons (map w new)) read
begin_one {R} w cons read items new x is none = ap (λ (l : List R). before (front cons (map w l)) read) (sym (is ∙ ap (λ (l : List R). l ++ x ∷ []) none))

regroup : {A L : Type 0} (cons : A → L → L) (items : List A) (x : A) (read : Read L) → before (front cons items) (before (cons x) read) ≡ before (front cons (items ++ x ∷ [])) read
regroup cons items x None = refl
regroup {A} {L} cons items x (Some xs) = let answer : (l : L) → Read L = λ l. Some (l, xs.1) in ap answer (sym (front_more cons items x xs.0))

-- each item takes a token
abbrev pub Shortens : {A : Type 0} → (Tokens → Bool) → (Tokens → Read A) → Type 0
Shortens {A} begins read = (ts : Tokens) (x : A × Tokens) → begins ts ≡ true → read ts ≡ Some x → length x.1 < length ts

module _ {A L : Type 0} (nil : L) (cons : A → L → L) (begins : Tokens → Bool) (read : Tokens → Read A) (short : Shortens begins read) where
  same_turns : (m n : ℕ) (b : Bool) (o : Read A) (ts : Tokens) → ((x : A × Tokens) → b ≡ true → o ≡ Some x → many nil cons begins read m x.1 ≡ many nil cons begins read n x.1)
      → cond b (o >>= λ x. before (cons x.0) (many nil cons begins read m x.1)) (Some (nil, ts)) ≡ cond b (o >>= λ x. before (cons x.0) (many nil cons begins read n x.1)) (Some (nil, ts))
  same_turns m n false o ts h = refl
  same_turns m n true None ts h = refl
  same_turns m n true (Some x) ts h = ap (before (cons x.0)) (h x refl refl)

  -- how many turns are allowed doesn't matter where they are enough
  many_enough : (m n : ℕ) (ts : Tokens) → length ts < m → length ts < n → many nil cons begins read m ts ≡ many nil cons begins read n ts
  unfolding many
  many_enough zero n ts h i = absurd (omega arith)
  many_enough (suc m) zero ts h i = absurd (omega arith)
  many_enough (suc m) (suc n) ts h i = same_turns m n (begins ts) (read ts) ts (λ x begun is. let less = short ts x begun is in many_enough m n x.1 (omega arith) (omega arith))

  pub many_step : (ts us : Tokens) (x : A) → begins ts ≡ true → read ts ≡ Some (x, us) → all_many nil cons begins read ts ≡ before (cons x) (all_many nil cons begins read us)
  unfolding many
  many_step ts us x begun is =
      let less = short ts (x, us) begun is in
      rw (begun, is, many_enough (length ts) (suc (length us)) us less (omega arith)) refl

  pub many_stop : (ts : Tokens) → begins ts ≡ false → all_many nil cons begins read ts ≡ Some (nil, ts)
  unfolding many
  many_stop ts over = rw over refl

  pub many_fail : (ts : Tokens) → begins ts ≡ true → read ts ≡ None → all_many nil cons begins read ts ≡ None
  unfolding many
  many_fail ts begun is = rw (begun, is) refl

  -- the loop's invariant after a turn, and its answer at its end
  pub many_keeps : {R : Type 0} (w : R → A) (whole : Read L) (items new : List R) (x : R) (rest us : Tokens) → new ≡ items ++ x ∷ [] → whole ≡ before (front cons (map w items)) (all_many nil cons begins read rest)
      → begins rest ≡ true → read rest ≡ Some (w x, us) → whole ≡ before (front cons (map w new)) (all_many nil cons begins read us)
  many_keeps {R} w whole items new x rest us e so_far begun is =
      so_far ∙ ap (before (front cons (map w items))) (many_step rest us (w x) begun is) ∙ regroup cons (map w items) (w x) (all_many nil cons begins read us)
      ∙ ap (λ (l : List A). before (front cons l) (all_many nil cons begins read us)) (sym (ap (map w) e ∙ map_push w items x))

  pub many_ends : (whole : Read L) (items : List A) (rest : Tokens) → whole ≡ before (front cons items) (all_many nil cons begins read rest) → begins rest ≡ false → whole ≡ Some (front cons items nil, rest)
  many_ends whole items rest so_far over = so_far ∙ ap (before (front cons items)) (many_stop rest over)

abbrev pub ShortensIn : {S A : Type 0} → (S → Tokens → Read (A × S)) → Type 0
ShortensIn {S} {A} read = (s : S) (ts : Tokens) (x : (A × S) × Tokens) → read s ts ≡ Some x → length x.1 < length ts

module _ {S A L : Type 0} (open_end shut_end : L) (cons : A → L → L) (begins : TokenKind → Bool) (read : S → Tokens → Read (A × S)) (short : ShortensIn read) where
  abbrev turn_by : ℕ → Bool → Read (A × S) → Tokens → Read L
  turn_by n b o ts = cond b (o >>= λ x. cond (is_comma (first x.1)) (before (cons x.0.0) (listed open_end shut_end cons begins read n x.0.1 (skip x.1))) (Some (cons x.0.0 shut_end, x.1))) (Some (open_end, ts))

  same_turns_in : (m n : ℕ) (b : Bool) (o : Read (A × S)) (ts : Tokens)
      → ((x : (A × S) × Tokens) → o ≡ Some x → listed open_end shut_end cons begins read m x.0.1 (skip x.1) ≡ listed open_end shut_end cons begins read n x.0.1 (skip x.1)) → turn_by m b o ts ≡ turn_by n b o ts
  same_turns_in m n false o ts h = refl
  same_turns_in m n true None ts h = refl
  same_turns_in m n true (Some x) ts h = ap (λ (rest : Read L). cond (is_comma (first x.1)) (before (cons x.0.0) rest) (Some (cons x.0.0 shut_end, x.1))) (h x refl)

  listed_enough : (m n : ℕ) (s : S) (ts : Tokens) → length ts < m → length ts < n → listed open_end shut_end cons begins read m s ts ≡ listed open_end shut_end cons begins read n s ts
  unfolding listed
  listed_enough zero n s ts h i = absurd (omega arith)
  listed_enough (suc m) zero s ts h i = absurd (omega arith)
  listed_enough (suc m) (suc n) s ts h i =
      same_turns_in m n (begins (first ts)) (read s ts) ts (λ x is. let less = short s ts x is in let within = skip_within x.1 in listed_enough m n x.0.1 (skip x.1) (omega arith) (omega arith))

  listed_step : (s s' : S) (ts us : Tokens) (x : A) → begins (first ts) ≡ true → read s ts ≡ Some ((x, s'), us) → is_comma (first us) ≡ true
      → all_listed open_end shut_end cons begins read s ts ≡ before (cons x) (all_listed open_end shut_end cons begins read s' (skip us))
  unfolding listed
  listed_step s s' ts us x begun is comma =
      let less = short s ts ((x, s'), us) is in
      let within = skip_within us in
      rw (begun, is, comma, listed_enough (length ts) (suc (length (skip us))) s' (skip us) (omega arith) (omega arith)) refl

  listed_last : (s s' : S) (ts us : Tokens) (x : A) → begins (first ts) ≡ true → read s ts ≡ Some ((x, s'), us) → is_comma (first us) ≡ false → all_listed open_end shut_end cons begins read s ts ≡ Some (cons x shut_end, us)
  unfolding listed
  listed_last s s' ts us x begun is over = rw (begun, is, over) refl

  listed_stop : (s : S) (ts : Tokens) → begins (first ts) ≡ false → all_listed open_end shut_end cons begins read s ts ≡ Some (open_end, ts)
  unfolding listed
  listed_stop s ts over = rw over refl

  pub listed_fail : (s : S) (ts : Tokens) → begins (first ts) ≡ true → read s ts ≡ None → all_listed open_end shut_end cons begins read s ts ≡ None
  unfolding listed
  listed_fail s ts begun is = rw (begun, is) refl

  pub listed_keeps : {R : Type 0} (w : R → A) (whole : Read L) (items new : List R) (x : R) (s s' : S) (rest us : Tokens) → new ≡ items ++ x ∷ []
      → whole ≡ before (front cons (map w items)) (all_listed open_end shut_end cons begins read s rest) → begins (first rest) ≡ true → read s rest ≡ Some ((w x, s'), us) → is_comma (first us) ≡ true
      → whole ≡ before (front cons (map w new)) (all_listed open_end shut_end cons begins read s' (skip us))
  listed_keeps {R} w whole items new x s s' rest us e so_far begun is comma =
      so_far ∙ ap (before (front cons (map w items))) (listed_step s s' rest us (w x) begun is comma) ∙ regroup cons (map w items) (w x) (all_listed open_end shut_end cons begins read s' (skip us))
      ∙ ap (λ (l : List A). before (front cons l) (all_listed open_end shut_end cons begins read s' (skip us))) (sym (ap (map w) e ∙ map_push w items x))

  pub listed_shuts : {R : Type 0} (w : R → A) (whole : Read L) (items new : List R) (x : R) (s s' : S) (rest us : Tokens) → new ≡ items ++ x ∷ []
      → whole ≡ before (front cons (map w items)) (all_listed open_end shut_end cons begins read s rest) → begins (first rest) ≡ true → read s rest ≡ Some ((w x, s'), us) → is_comma (first us) ≡ false
      → whole ≡ Some (front cons (map w new) shut_end, us)
  listed_shuts {R} w whole items new x s s' rest us e so_far begun is over =
      let answer : (l : L) → Read L = λ l. Some (l, us) in
      so_far ∙ ap (before (front cons (map w items))) (listed_last s s' rest us (w x) begun is over) ∙ ap answer (sym (front_more cons (map w items) (w x) shut_end))
      ∙ ap (λ (l : List A). answer (front cons l shut_end)) (sym (ap (map w) e ∙ map_push w items x))

  pub listed_ends : (whole : Read L) (items : List A) (s : S) (rest : Tokens) → whole ≡ before (front cons items) (all_listed open_end shut_end cons begins read s rest) → begins (first rest) ≡ false → whole ≡ Some (front cons items open_end, rest)
  listed_ends whole items s rest so_far over = so_far ∙ ap (before (front cons items)) (listed_stop s rest over)
