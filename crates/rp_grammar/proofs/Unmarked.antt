-- What is spelled has no guard marks.
use Rattle.std.proofs.Common.{◌≡◌, Bool, true, false, [], ◌∷◌, Option, Some, None, refl}
use Rattle.rp_base.specs.declared.value.Name.{Name}
use Rattle.rp_token.specs.declared.token.TokenKind.{TokenKind}
use Rattle.rp_token.specs.declared.token.TokenKind.TheVariants as kind
use Rattle.rp_tree.specs.declared.parts.Guard.{Guard}
use Rattle.rp_tree.specs.Marks.{HasNoGuards, no_marks}
use Rattle.rp_tree.specs.Statements.{Stmts}
use Rattle.rp_grammar.specs.Kinds.{Tokens}
use Rattle.rp_grammar.specs.Leaves.{LeafTest, HasLeavesOf, kind_passes, tokens_pass}
use Rattle.rp_grammar.specs.Program.{Spells}
use Rattle.rp_grammar.proofs.Kept.{stmts_kept}
use Rattle.rp_grammar.proofs.LeavesOfStatements.{tree_passes}

abbrev is_none : Option Guard → Bool
is_none None = true
is_none (Some g) = false

-- any name and any number, and no mark
abbrev pub unmarked : LeafTest Name
unmarked = record { name = λ n. true; number = λ n. true; block = λ b. true; mark = is_none }

kind_fits : (k : TokenKind) → kind_passes unmarked k ≡ true
kind_fits (kind.Name n) = refl
kind_fits (kind.Int n) = refl
kind_fits _ = refl

pub all_fit : (ts : Tokens) → tokens_pass unmarked ts ≡ true
all_fit [] = refl
all_fit (t ∷ ts) = rw (kind_fits t.kind, all_fit ts) refl

pub taken_off : (g : Option Guard) → is_none g ≡ true → None ≡ g
taken_off None ok = refl
taken_off (Some g) ok = absurd cc

pub leaves_spelled : (tree : Stmts) (ts : Tokens) → Spells tree ts → HasLeavesOf ts tree
leaves_spelled tree ts spells = λ l block mark all. tree_passes l block mark tree ts spells all

pub no_guards_spelled : (tree : Stmts) (ts : Tokens) → Spells tree ts → HasNoGuards tree
no_guards_spelled tree ts spells =
    stmts_kept unmarked no_marks (λ n ok. refl) (λ k. refl) (λ b ok. refl) (λ x g ok. taken_off g ok) tree (tree_passes unmarked refl refl tree ts spells (all_fit ts))
