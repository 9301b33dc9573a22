-- The binding over a pure tree is that of rp_calls over the parameters that the tree stands for.
use Rattle.std.proofs.Common.{◌≡◌, ℕ, List, [], ◌∷◌, map, drop, length, Bool, true, false, Option, Some, None, refl, ap, ◌∙◌}
use Rattle.std.specs.Prelude.{◌||◌, if◌then◌else◌}
use Rattle.std.specs.Option.{option_map_or}
use Rattle.rp_base.specs.Same.{same_text}
use Rattle.rp_base.specs.declared.value.Rock.{Rock}
use Rattle.rp_base.specs.declared.value.Rock.TheVariants as rock
use Rattle.rp_base.specs.declared.value.Side.{Side}
use Rattle.rp_base.specs.declared.value.Value.{Value}
use Rattle.rp_calls.specs.Binding as calls
use Rattle.rp_dict.specs.Dict.{insert_entry}
use Rattle.rp_ops.specs.Outcome.{State, Outcome}
use Rattle.rp_base.specs.Names.{word_of}
use Rattle.rp_store.specs.Key.{same_key}
use Rattle.rp_store.specs.declared.key.Key.{Key}
use Rattle.rp_store.specs.declared.key.Key.TheVariants as key
use Rattle.rp_tree.specs.declared.expr.Expr.{Expr}
use Rattle.rp_tree.specs.declared.expr.Params.{Params}
use Rattle.rp_tree.specs.Expressions.{Named}
use Rattle.rp_tree.specs.ExpressionViews.{view_params, view_plain, plain_of}
use Rattle.rp_tree.proofs.ExpressionEquations.{params_out}
use Rattle.rp_meaning.specs.Binding.{Arguments, bind, offered, plain_names, all_made}

-- the parameters without a star of the program
abbrev Plain : Type 0
Plain = List (Named × Option Expr)

abbrev named_in : Plain → Plain
named_in ps = plain_names (plain_of (map view_plain ps))

offered_same : (names : List (List ℕ)) (ps : Plain) (args defaults : List Value)
    → offered names (plain_of (map view_plain ps)) args defaults ≡ calls.offered names ps args defaults
offered_same names [] args defaults = refl
offered_same names ((n, None) ∷ ps) args defaults =
    ap (λ qs. calls.parameter names n false args defaults ∷ qs) (offered_same names ps (drop 1 args) defaults)
offered_same names ((n, Some x) ∷ ps) args defaults =
    ap (λ qs. calls.parameter names n true args defaults ∷ qs) (offered_same names ps (drop 1 args) (drop 1 defaults))

length_same : (ps : Plain) → length (named_in ps) ≡ length ps
length_same [] = refl
length_same ((n, x) ∷ ps) = rw (length_same ps) refl

is_plain_same : (names : List (List ℕ)) (ps : Plain) (word : List ℕ) → calls.is_plain names (named_in ps) word ≡ calls.is_plain names ps word
is_plain_same names [] word = refl
is_plain_same names ((n, x) ∷ ps) word = ap (λ b. same_text word (word_of names n.name) || b) (is_plain_same names ps word)

are_plain_same : (names : List (List ℕ)) (ps : Plain) (named : List (List ℕ × Value))
    → calls.are_plain names (named_in ps) named ≡ calls.are_plain names ps named
are_plain_same names ps [] = refl
are_plain_same names ps (g ∷ gs) = rw (is_plain_same names ps g.0, are_plain_same names ps gs) refl

other_same : (names : List (List ℕ)) (ps : Plain) (es : List (Key × (Rock × Value))) (named : List (List ℕ × Value))
    → calls.other_entries names (named_in ps) es named ≡ calls.other_entries names ps es named
other_same names ps es [] = refl
other_same names ps es (g ∷ gs) =
    rw (is_plain_same names ps g.0, other_same names ps es gs, other_same names ps (insert_entry same_key es (key.Text g.0) (rock.Text g.0, g.1)) gs) refl

entries_same : (dict : Bool) (names : List (List ℕ)) (ps : Plain) (named : List (List ℕ × Value))
    → calls.entries_for dict names (named_in ps) named ≡ calls.entries_for dict names ps named
entries_same true names ps named = other_same names ps [] named
entries_same false names ps named = ap (λ b. if b then Some [] else None) (are_plain_same names ps named)

-- what is bound, from how many parameters there are, what fills them, and the entries of `**NAME`
abbrev bound_by : Side → Bool → Bool → List Value → State → ℕ → Option (List Value) → Option (List (Key × (Rock × Value))) → Outcome (List (Option Value))
bound_by side list dict args s n values entries =
    option_map_or (λ rest.
    option_map_or (λ values. option_map_or (λ es. all_made side list dict values rest es s) entries (calls.no_binding s))
    values (calls.no_binding s))
    (calls.elements_for list n args) (calls.no_binding s)

pub bind_seen : (side : Side) (names : List (List ℕ)) (ps : Params) (defaults : List Value) (a : Arguments) (s : State)
    → bind side names (view_params ps) defaults a s ≡ calls.bind side names ps defaults a.plain a.named s
bind_seen side names ps defaults a s =
    ap (λ p. bind side names p defaults a s) (params_out ps)
    ∙ ap (λ n. bound n (offered_filled (offered names (plain_of (map view_plain (calls.plain ps))) a.plain defaults)) (entries (named_in (calls.plain ps)))) (length_same (calls.plain ps))
    ∙ ap (λ qs. bound (length (calls.plain ps)) (offered_filled qs) (entries (named_in (calls.plain ps)))) (offered_same names (calls.plain ps) a.plain defaults)
    ∙ ap (bound (length (calls.plain ps)) (offered_filled (calls.offered names (calls.plain ps) a.plain defaults))) (entries_same (calls.has_dict ps) names (calls.plain ps) a.named) where
      bound : ℕ → Option (List Value) → Option (List (Key × (Rock × Value))) → Outcome (List (Option Value))
      bound n values es = bound_by side (calls.has_list ps) (calls.has_dict ps) a.plain s n values es

      offered_filled : List calls.Parameter → Option (List Value)
      offered_filled qs = calls.filled qs a.named

      entries : Plain → Option (List (Key × (Rock × Value)))
      entries qs = calls.entries_for (calls.has_dict ps) names qs a.named
