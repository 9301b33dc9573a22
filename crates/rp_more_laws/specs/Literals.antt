-- The law of f-literals (Python Language Reference, Formatted string literals, without conversions and format
-- specifications). An f-literal stands for a call of `''.join` on the list of its pieces, and an expression in it for a
-- call of `str`.
use Rattle.std.specs.Prelude.{◌≡◌, ℕ, List, [], ◌∷◌, ◌++◌, codes, Option, Some, None}
use Rattle.rp_base.specs.declared.native.NativeId.TheVariants as native
use Rattle.rp_base.specs.declared.value.Line.{Line}
use Rattle.rp_base.specs.declared.value.Name.{Name}
use Rattle.rp_base.specs.declared.value.Rock.TheVariants as rock
use Rattle.rp_base.specs.declared.value.Value.{Value}
use Rattle.rp_base.specs.declared.value.Value.TheVariants as value
use Rattle.rp_base.specs.declared.word.TheConstants.{STR}
use Rattle.rp_base.specs.Names.{word_of}
use Rattle.rp_ops.specs.Outcome.{gives, on_value}
use Rattle.rp_show.specs.Show.{show}
use Rattle.rp_tree.specs.declared.parts.Guard.{Guard}
use Rattle.rp_tree.specs.Expressions as tree
use Rattle.rp_tree.specs.Expressions.{Named}
use Rattle.rp_meaning.specs.State.{State, Outcome, plainly, stepped}
use Rattle.rp_meaning.specs.Frame.{Frame, Natives, asked_for}
use Rattle.rp_meaning.specs.Expressions.{name}
use Rattle.rp_meaning.specs.Meaning.{eval}
use Rattle.rp_fixed_laws.specs.Fixed.{IsSteady}
use Rattle.rp_more_laws.specs.Deciding.{DecidesProxiesAlone}

-- trees

-- some characters, or an expression
pub data Piece : Type 0 where
  run : List ℕ → Piece
  part : tree.Expr → Piece

-- the line of an f-literal, its names `join` and `str`, and the mark of its attribute, if it is guarded
pub record Spelling : Type 0 where
  pub line : Line
  pub join : Named
  pub str : Name
  pub mark : Option Guard

-- a call with one argument
abbrev pub call_of : tree.Expr → tree.Trailers
call_of x = tree.trailer (tree.call (tree.arg (tree.value x) tree.no_args) None) tree.no_trailers

-- a text, or `str((E))`
abbrev pub piece_tree : Spelling → Piece → tree.Expr
piece_tree p (run cs) = tree.node p.line (tree.text cs)
piece_tree p (part x) = tree.node p.line (tree.primary (tree.node p.line (tree.name p.str)) (call_of x))

abbrev pub piece_trees : Spelling → List Piece → tree.Exprs
piece_trees p [] = tree.no_exprs
piece_trees p (x ∷ xs) = tree.expr (piece_tree p x) (piece_trees p xs)

abbrev pub empty_tree : Spelling → tree.Expr
empty_tree p = tree.node p.line (tree.text [])

-- `''.join`
abbrev pub join_tree : Spelling → tree.Expr
join_tree p = tree.node p.line (tree.primary (empty_tree p) (tree.trailer (tree.attr p.join p.mark) tree.no_trailers))

-- `[P, ...]`
abbrev pub list_tree : Spelling → List Piece → tree.Expr
list_tree p ps = tree.node p.line (tree.list (piece_trees p ps))

-- `''.join([P, ...])`
abbrev pub literal_tree : Spelling → List Piece → tree.Expr
literal_tree p ps =
    tree.node p.line (tree.primary (empty_tree p) (tree.trailer (tree.attr p.join p.mark) (call_of (list_tree p ps))))

-- what they give

-- what `str` is given is decided as its `__str__` would be
abbrev pub DecidesWhatIsShown : Natives → Type 0
DecidesWhatIsShown n = n.needs native.Str 0 1 ≡ Some STR

abbrev pub text_value : List ℕ → Value
text_value cs = value.Rock (rock.Text cs)

abbrev pub str_value : Value
str_value = value.Rock (rock.Native native.Str)

-- `''.join` is evaluated, and the steps of the call and of the list are taken: the pieces come next
abbrev pub begun : Spelling → Frame → State → Outcome Value
begun p frame s = on_value (eval (join_tree p) frame s) (λ f s. stepped s (λ s. stepped s (gives f)))

-- The text of an expression: the name `str` is read, and behind the step of its call the expression is evaluated; that
-- the value may be shown is decided, and it is shown.
abbrev pub part_text : Name → tree.Expr → Frame → State → Outcome (List ℕ)
part_text str x frame s = on_value (name str frame s) (λ f s. stepped s (λ s.
    on_value (eval x frame s) (λ v s. asked_for frame STR v s (λ s. plainly (show s.names v) s))))

-- the texts of the pieces, joined in order
abbrev pub text_of : Name → List Piece → Frame → State → Outcome (List ℕ)
text_of str [] frame s = gives [] s
text_of str (run cs ∷ ps) frame s = stepped s (λ s. on_value (text_of str ps frame s) (λ rest s. gives (cs ++ rest) s))
text_of str (part x ∷ ps) frame s =
    on_value (part_text str x frame s) (λ shown s.
    on_value (text_of str ps frame s) (λ rest s. gives (shown ++ rest) s))

-- wherever a piece reads the name `str` its value is the built-in function
abbrev pub ReadsStr : Spelling → List Piece → Frame → State → Type 0
ReadsStr p [] frame s = Unit {0}
ReadsStr p (run cs ∷ ps) frame s =
    (v : Value) (u : State) → eval (piece_tree p (run cs)) frame s ≡ gives v u → ReadsStr p ps frame u
ReadsStr p (part x ∷ ps) frame s =
    ((v : Value) (u : State) → name p.str frame s ≡ gives v u → v ≡ str_value)
    × ((v : Value) (u : State) → eval (piece_tree p (part x)) frame s ≡ gives v u → ReadsStr p ps frame u)

-- so it is in an f-literal, whose pieces come next
abbrev pub IsPlain : Spelling → List Piece → Frame → State → Type 0
IsPlain p ps frame s = (f : Value) (u : State) → begun p frame s ≡ gives f u → ReadsStr p ps frame u

pub record IsWritten (p : Spelling) (ps : List Piece) (frame : Frame) (s : State) (v : Value) : Type 0 where
  pub bound : Value
  pub before : State
  pub is_begun : begun p frame s ≡ gives bound before
  pub text : List ℕ
  pub behind : State
  pub shown : text_of p.str ps frame before ≡ gives text behind
  pub result : v ≡ text_value text

-- the value of an f-literal is its characters and the shown texts of its parts in order
abbrev pub EachLiteralGivesItsText : Type 0
EachLiteralGivesItsText =
    (p : Spelling) (ps : List Piece) (frame : Frame) (s u : State) (v : Value)
    → DecidesProxiesAlone frame.run → IsSteady frame → DecidesWhatIsShown frame.run.natives
    → word_of s.names p.join.name ≡ codes "join"
    → IsPlain p ps frame s → eval (literal_tree p ps) frame s ≡ gives v u → IsWritten p ps frame s v
