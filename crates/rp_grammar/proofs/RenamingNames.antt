-- What is told of renamed names and trees: lines, names that differ, and conversions to places and targets.
use Rattle.std.proofs.Common.{◌≡◌, ℕ, Bool, true, false, List, [], ◌∷◌, ◌++◌, map, Option, Some, None, option_map, refl, sym, ap, ◌∙◌}
use Rattle.std.proofs.lemmas.Bool.{eqb-true, eq-eqb}
use Rattle.std.specs.List.{list_any}
use Rattle.std.proofs.lemmas.List.{map-append}
use Rattle.rp_base.specs.declared.value.Name.{Name}
use Rattle.rp_base.specs.declared.value.Line.{Line}
use Rattle.rp_token.specs.declared.token.TokenKind.{TokenKind}
use Rattle.rp_token.specs.declared.token.TokenKind.TheVariants as kind
use Rattle.rp_tree.specs.Expressions as tree
use Rattle.rp_tree.specs.Expressions.{Named, Expr, Form, Exprs, Target, Targets, Place, Params, Plain, Trailer, Trailers, Arg, Args}
use Rattle.rp_grammar.specs.Kinds.{Tokens, first}
use Rattle.rp_grammar.specs.Expressions.{line_of, distinct, same_name, key_name, key_names, named_names, plain_names, parameter_names}
use Rattle.rp_grammar.specs.Conversion as conversion
use Rattle.rp_grammar.specs.ExpressionReading as reading
use Rattle.rp_grammar.proofs.Renamed.{IsInjective, renamed_kind, renamed_tokens, renamed_named, renamed_expr, renamed_form, renamed_exprs, renamed_params, renamed_plain, renamed_trailer, renamed_trailers, renamed_arg, renamed_args, renamed_place, renamed_target, renamed_targets}
use Rattle.rp_grammar.proofs.RenamingBasics.{first_renamed, line_at_renamed, skip_renamed, moved}

module _ (f : Name → Name) where
  pub line_of_renamed : (e : Expr) → line_of (renamed_expr f e) ≡ line_of e
  line_of_renamed (tree.node line form) = refl

  pub name_by_renamed : (k : TokenKind) (ts : Tokens) → reading.name_by (renamed_kind f k) (renamed_tokens f ts) ≡ moved f (renamed_named f) (reading.name_by k ts)
  name_by_renamed (kind.Name n) ts = rw (line_at_renamed f ts, skip_renamed f ts) refl
  name_by_renamed _ ts = refl

  -- a name at the front
  pub name_renamed : (ts : Tokens) → reading.name_by (first (renamed_tokens f ts)) (renamed_tokens f ts) ≡ moved f (renamed_named f) (reading.name_by (first ts) ts)
  name_renamed ts = rw (first_renamed f ts) (name_by_renamed (first ts) ts)

  key_name_renamed : (x : Arg) → key_name (renamed_arg f x) ≡ map f (key_name x)
  key_name_renamed (tree.key n e) = refl
  key_name_renamed _ = refl

  pub key_names_renamed : (xs : Args) → key_names (renamed_args f xs) ≡ map f (key_names xs)
  key_names_renamed tree.no_args = refl
  key_names_renamed (tree.arg x xs) = rw (key_name_renamed x, key_names_renamed xs, map-append f (key_name x) (key_names xs)) refl

  named_names_renamed : (n : Option Named) → named_names (option_map (renamed_named f) n) ≡ map f (named_names n)
  named_names_renamed None = refl
  named_names_renamed (Some n) = refl

  plain_names_renamed : (ps : Plain) → plain_names (renamed_plain f ps) ≡ map f (plain_names ps)
  plain_names_renamed tree.no_plain = refl
  plain_names_renamed (tree.plain n e ps) = ap (λ (ns : List Name). f n.name ∷ ns) (plain_names_renamed ps)

  pub parameter_names_renamed : (ps : Params) → parameter_names (renamed_params f ps) ≡ map f (parameter_names ps)
  parameter_names_renamed (tree.params ps l d) =
      rw (plain_names_renamed ps, named_names_renamed l, named_names_renamed d, map-append f (plain_names ps ++ named_names l) (named_names d), map-append f (plain_names ps) (named_names l)) refl

  with_trailers_renamed : (e : Expr) (xs : Trailers) → conversion.with_trailers (renamed_expr f e) (renamed_trailers f xs) ≡ renamed_expr f (conversion.with_trailers e xs)
  with_trailers_renamed e tree.no_trailers = refl
  with_trailers_renamed e (tree.trailer x xs) = rw (line_of_renamed e) refl

  before_last_renamed : (x : Trailer) (xs : Trailers) → conversion.before_last (renamed_trailer f x) (renamed_trailers f xs) ≡ renamed_trailers f (conversion.before_last x xs)
  before_last_renamed x tree.no_trailers = refl
  before_last_renamed x (tree.trailer y ys) = ap (tree.trailer (renamed_trailer f x)) (before_last_renamed y ys)

  last_of_renamed : (x : Trailer) (xs : Trailers) → conversion.last_of (renamed_trailer f x) (renamed_trailers f xs) ≡ renamed_trailer f (conversion.last_of x xs)
  last_of_renamed x tree.no_trailers = refl
  last_of_renamed x (tree.trailer y ys) = last_of_renamed y ys

  trailed_place_renamed : (e : Expr) (x : Trailer) → conversion.trailed_place (renamed_expr f e) (renamed_trailer f x) ≡ option_map (renamed_place f) (conversion.trailed_place e x)
  trailed_place_renamed e (tree.attr n guard) = refl
  trailed_place_renamed e (tree.item i guard) = refl
  trailed_place_renamed e _ = refl

  place_form_renamed : (line : Line) (form : Form) → conversion.place_form line (renamed_form f form) ≡ option_map (renamed_place f) (conversion.place_form line form)
  place_form_renamed line (tree.name n) = refl
  place_form_renamed line (tree.primary e (tree.trailer x xs)) =
      rw (before_last_renamed x xs, last_of_renamed x xs, with_trailers_renamed e (conversion.before_last x xs)) (trailed_place_renamed (conversion.with_trailers e (conversion.before_last x xs)) (conversion.last_of x xs))
  place_form_renamed line _ = refl

  pub as_place_renamed : (e : Expr) → conversion.as_place (renamed_expr f e) ≡ option_map (renamed_place f) (conversion.as_place e)
  as_place_renamed (tree.node line form) = place_form_renamed line form

  group_of_renamed : (ps : Option Targets) → conversion.group_of (option_map (renamed_targets f) ps) ≡ option_map (renamed_target f) (conversion.group_of ps)
  group_of_renamed None = refl
  group_of_renamed (Some tree.no_targets) = refl
  group_of_renamed (Some (tree.target p ps)) = refl

  one_more_renamed : (p : Option Target) (ps : Option Targets) → conversion.one_more (option_map (renamed_target f) p) (option_map (renamed_targets f) ps) ≡ option_map (renamed_targets f) (conversion.one_more p ps)
  one_more_renamed None ps = refl
  one_more_renamed (Some p) None = refl
  one_more_renamed (Some p) (Some ps) = refl

  placed_renamed : (p : Option Place) → option_map tree.to_place (option_map (renamed_place f) p) ≡ option_map (renamed_target f) (option_map tree.to_place p)
  placed_renamed None = refl
  placed_renamed (Some p) = refl

  mutual
    pub as_target_renamed : (e : Expr) → conversion.as_target (renamed_expr f e) ≡ option_map (renamed_target f) (conversion.as_target e)
    as_target_renamed (tree.node line form) = target_form_renamed line form

    target_form_renamed : (line : Line) (form : Form) → conversion.target_form line (renamed_form f form) ≡ option_map (renamed_target f) (conversion.target_form line form)
    target_form_renamed line (tree.tuple es) = rw (as_targets_renamed es) (group_of_renamed (conversion.as_targets es))
    target_form_renamed line (tree.list es) = rw (as_targets_renamed es) (group_of_renamed (conversion.as_targets es))
    target_form_renamed line (tree.name n) = refl
    target_form_renamed line (tree.primary e xs) = ap (option_map tree.to_place) (place_form_renamed line (tree.primary e xs)) ∙ placed_renamed (conversion.place_form line (tree.primary e xs))
    target_form_renamed line _ = refl

    as_targets_renamed : (es : Exprs) → conversion.as_targets (renamed_exprs f es) ≡ option_map (renamed_targets f) (conversion.as_targets es)
    as_targets_renamed tree.no_exprs = refl
    as_targets_renamed (tree.expr e es) = rw (as_target_renamed e, as_targets_renamed es) (one_more_renamed (conversion.as_target e) (conversion.as_targets es))

abbrev name_at : ℕ → Name
name_at n = record { 0 = n }

true_same : (m n : Name) → same_name m n ≡ true → m ≡ n
true_same m n is = ap name_at (eqb-true m.0 n.0 is)

same_true : (m n : Name) → m ≡ n → same_name m n ≡ true
same_true m n e = eq-eqb m.0 n.0 (ap (λ (z : Name). z.0) e)

module _ (f : Name → Name) (injective : IsInjective f) where
  same_by : (m n : Name) (b c : Bool) → same_name m n ≡ b → same_name (f m) (f n) ≡ c → c ≡ b
  same_by m n true true is are = refl
  same_by m n false false is are = refl
  same_by m n true false is are = sym are ∙ same_true (f m) (f n) (ap f (true_same m n is))
  same_by m n false true is are = sym (same_true m n (injective m n (true_same (f m) (f n) are))) ∙ is

  pub same_name_renamed : (m n : Name) → same_name (f m) (f n) ≡ same_name m n
  same_name_renamed m n = same_by m n (same_name m n) (same_name (f m) (f n)) refl refl

  pub any_same_renamed : (n : Name) (ns : List Name) → list_any (same_name (f n)) (map f ns) ≡ list_any (same_name n) ns
  any_same_renamed n [] = refl
  any_same_renamed n (m ∷ ns) = rw (same_name_renamed n m, any_same_renamed n ns) refl

  pub distinct_renamed : (ns : List Name) → distinct (map f ns) ≡ distinct ns
  distinct_renamed [] = refl
  distinct_renamed (n ∷ ns) = rw (any_same_renamed n ns, distinct_renamed ns) refl
