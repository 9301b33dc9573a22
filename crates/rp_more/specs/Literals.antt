-- f-literals: each is written as the call `''.join([P, ...])` of its pieces, and an expression E as `str((E))`.
use Rattle.std.specs.Prelude.{ℕ, ◌-◌, ◌==◌, Bool, true, false, not, ◌&&◌, if◌then◌else◌, List, [], ◌∷◌, ◌++◌, map, codes, Option, Some, Result, Ok, Err}
use Rattle.std.specs.Option.{option_map, option_and_then, option_map_or}
use Rattle.rp_token.specs.Form.{Form, name, literal, mark, Item}
use Rattle.rp_token.specs.Tokens.{at_line}
use Rattle.rp_more.specs.Expression.{expression_of}
use Rattle.rp_more.specs.Forms.{ends_operand, is_literal, same, text_of, placed}
use Rattle.rp_more.specs.Pieces.{Piece, run, part, pieces_of}
use Rattle.rp_more.specs.declared.fault.MoreFault.{MoreFault}
use Rattle.rp_more.specs.declared.fault.MoreFault.TheVariants as fault

abbrev pub str_call : List Form → List Form
str_call forms = name (codes "str") ∷ mark (codes "(") ∷ mark (codes "(") ∷ (forms ++ mark (codes ")") ∷ mark (codes ")") ∷ [])

-- a piece as an element of the list
abbrev pub piece_forms : Piece → Option (List Form)
piece_forms (run cs) = Some (literal cs ∷ [])
piece_forms (part cs) = option_map str_call (expression_of cs)

-- the elements, with a comma before each, or before each but the first
abbrev pub elements : List Form → List Piece → Option (List Form)
elements comma [] = Some []
elements comma (p ∷ ps) =
    option_and_then (λ forms. option_map (λ more. comma ++ (forms ++ more)) (elements (mark (codes ",") ∷ []) ps)) (piece_forms p)

abbrev pub join_call : List Form → List Form
join_call forms =
    literal [] ∷ mark (codes ".") ∷ name (codes "join") ∷ mark (codes "(") ∷ mark (codes "[") ∷ (forms ++ mark (codes "]") ∷ mark (codes ")") ∷ [])

-- the call that an f-literal with this text is, or None where the text is wrong
abbrev pub literal_forms : List ℕ → Option (List Form)
literal_forms text = option_map join_call (option_and_then (elements []) (pieces_of text))

-- the tokens of the call, in the place of the text
abbrev pub literal_items : Item → Result (List Item) MoreFault
literal_items t = option_map_or (λ forms. Ok (map (placed t) forms)) (literal_forms (text_of t.form)) (Err (fault.Format (at_line t.line)))

abbrev pub is_f : Form → Bool
is_f (name n) = same (codes "f") n
is_f form = false

-- the name `f`, spelled by one byte
abbrev pub is_prefix : Item → Bool
is_prefix t = (t.to - t.from == 1) && is_f t.form

-- a text begins there
abbrev pub has_text_at : ℕ → List Item → Bool
has_text_at place [] = false
has_text_at place (t ∷ ts) = is_literal t.form && (t.from == place)

-- an f-literal begins, where an operand may have ended before it
abbrev pub begins : Bool → Item → List Item → Bool
begins operand t ts = not operand && (is_prefix t && has_text_at t.to ts)

abbrev pub with_front : List Item → Result (List Item) MoreFault → Result (List Item) MoreFault
with_front items (Ok more) = Ok (items ++ more)
with_front items (Err f) = Err f

abbrev pub joined : Result (List Item) MoreFault → Result (List Item) MoreFault → Result (List Item) MoreFault
joined (Ok items) more = with_front items more
joined (Err f) more = Err f

-- The tokens with each f-literal as its call. `operand` says that the token before may end an operand, and `inside` that it is the name of
-- an f-literal, whose text comes.
abbrev pub literals : Bool → Bool → List Item → Result (List Item) MoreFault
literals operand inside [] = Ok []
literals operand inside (t ∷ ts) =
    if inside then joined (literal_items t) (literals true false ts)
    else if begins operand t ts then literals true true ts
    else with_front (t ∷ []) (literals (ends_operand t.form) false ts)
