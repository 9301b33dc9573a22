-- Examples: what texts become. An expected list of tokens is that of another text.
use Rattle.std.proofs.Common.{◌≡◌, ℕ, List, [], ◌∷◌, ◌++◌, map, codes, Result, Ok, Err, refl}
use lib.Utf8.{encode}
use Rattle.unicode_ident.proofs.Computing.{unicode_ident}
use Rattle.unicode_normalization.proofs.Computing.{unicode_normalization}
use Rattle.rp_token.specs.Form.{Form, name, literal, mark, keyword, newline, Item}
use Rattle.rp_token.specs.Tokens.{at_line, tokens_of, indented, begun, behind_line_end, joined, behind_word, behind_number, behind_literal, bracketed, behind_mark, behind_token, in_line, step, ending}
use Rattle.rp_token.specs.declared.fault.TokenFault.{TokenFault}
use Rattle.rp_more.specs.Expanded.{expanded}
use Rattle.rp_more.specs.declared.fault.MoreFault.{MoreFault}
use Rattle.rp_more.specs.declared.fault.MoreFault.TheVariants as fault

-- what the expanded tokens of a text are, or the fault
pub data Outcome : Type 0 where
  forms : List Form → Outcome
  format : MoreFault → Outcome
  no_tokens : Outcome

abbrev pub of_expanded : Result (List Item) MoreFault → Outcome
of_expanded (Ok items) = forms (map (λ (t : Item). t.form) items)
of_expanded (Err f) = format f

abbrev pub expansion_of : Result (List Item) TokenFault → Outcome
expansion_of (Ok items) = of_expanded (expanded items)
expansion_of (Err f) = no_tokens

abbrev pub tokens_alone : Result (List Item) TokenFault → Outcome
tokens_alone (Ok items) = forms (map (λ (t : Item). t.form) items)
tokens_alone (Err f) = no_tokens

-- the expanded tokens of the text are the tokens of the other
abbrev pub Becomes : List ℕ → List ℕ → Type 0
Becomes text other = expansion_of (tokens_of text) ≡ tokens_alone (tokens_of other)

-- an f-literal of the text is wrong, in its line
abbrev pub IsWrong : List ℕ → ℕ → Type 0
IsWrong text line = expansion_of (tokens_of text) ≡ format (fault.Format (at_line line))

-- a part between characters
pub becomes-f_literal : Becomes (codes "print(f'a{x}b')") (codes "print(''.join(['a', str((x)), 'b']))")
unfolding encode unicode_ident unicode_normalization indented begun behind_line_end joined behind_word behind_number behind_literal bracketed behind_mark behind_token in_line step ending
becomes-f_literal = refl

-- a set that is tested
pub becomes-set : Becomes (codes "y = x in {1, 2}") (codes "y = x in {1: None, 2: None}")
unfolding encode unicode_ident unicode_normalization indented begun behind_line_end joined behind_word behind_number behind_literal bracketed behind_mark behind_token in_line step ending
becomes-set = refl

-- a set that is tested, and one that is walked
pub becomes-sets_in_a_line : Becomes (codes "print((2 in {1, 2}), [x for x in {3, 3, 1}])") (codes "print((2 in {1: None, 2: None}), [x for x in {3: None, 3: None, 1: None}])")
unfolding encode unicode_ident unicode_normalization indented begun behind_line_end joined behind_word behind_number behind_literal bracketed behind_mark behind_token in_line step ending
becomes-sets_in_a_line = refl

-- no pieces
pub becomes-no_pieces : Becomes (codes "f''") (codes "''.join([])")
unfolding encode unicode_ident unicode_normalization indented begun behind_line_end joined behind_word behind_number behind_literal bracketed behind_mark behind_token in_line step ending
becomes-no_pieces = refl

-- two braces stand for one, and go with the characters beside them
pub becomes-braces : Becomes (codes "f'{{a}}{ 1 }'") (codes "''.join(['{a}', str((1))])")
unfolding encode unicode_ident unicode_normalization indented begun behind_line_end joined behind_word behind_number behind_literal bracketed behind_mark behind_token in_line step ending
becomes-braces = refl

-- two parts without characters between them
pub becomes-operator_within : Becomes (codes "f'{x + 1}{y}'") (codes "''.join([str((x + 1)), str((y))])")
unfolding encode unicode_ident unicode_normalization indented begun behind_line_end joined behind_word behind_number behind_literal bracketed behind_mark behind_token in_line step ending
becomes-operator_within = refl

-- brackets are counted without their kinds
pub becomes-kinds_of_brackets : Becomes (codes "f'{(]}'") (codes "''.join([str(((]))])")
unfolding encode unicode_ident unicode_normalization indented begun behind_line_end joined behind_word behind_number behind_literal bracketed behind_mark behind_token in_line step ending
becomes-kinds_of_brackets = refl

-- the tokens of a part are not expanded again
pub becomes-not_again : Becomes (codes "f'{f\"a\"}'") (codes "''.join([str((f 'a'))])")
unfolding encode unicode_ident unicode_normalization indented begun behind_line_end joined behind_word behind_number behind_literal bracketed behind_mark behind_token in_line step ending
becomes-not_again = refl

-- the text doesn't begin where the name ends
pub becomes-apart : Becomes (codes "f 'a'") (codes "f 'a'")
unfolding encode unicode_ident unicode_normalization indented begun behind_line_end joined behind_word behind_number behind_literal bracketed behind_mark behind_token in_line step ending
becomes-apart = refl

-- behind an operand
pub becomes-behind_operand : Becomes (codes "x f'a'") (codes "x f 'a'")
unfolding encode unicode_ident unicode_normalization indented begun behind_line_end joined behind_word behind_number behind_literal bracketed behind_mark behind_token in_line step ending
becomes-behind_operand = refl

-- a literal is an operand itself
pub becomes-behind_text : Becomes (codes "f'a'f'b'") (codes "''.join(['a'])f 'b'")
unfolding encode unicode_ident unicode_normalization indented begun behind_line_end joined behind_word behind_number behind_literal bracketed behind_mark behind_token in_line step ending
becomes-behind_text = refl

-- a set in a set
pub becomes-nested : Becomes (codes "x in {1, y in {2}}") (codes "x in {1: None, y in {2: None}: None}")
unfolding encode unicode_ident unicode_normalization indented begun behind_line_end joined behind_word behind_number behind_literal bracketed behind_mark behind_token in_line step ending
becomes-nested = refl

-- before the first `for` alone
pub becomes-comprehension : Becomes (codes "x in {a for a in b for c in d}") (codes "x in {a: None for a in b for c in d}")
unfolding encode unicode_ident unicode_normalization indented begun behind_line_end joined behind_word behind_number behind_literal bracketed behind_mark behind_token in_line step ending
becomes-comprehension = refl

-- behind the last comma nothing comes
pub becomes-last_comma : Becomes (codes "x in {1, 2,}") (codes "x in {1: None, 2: None,}")
unfolding encode unicode_ident unicode_normalization indented begun behind_line_end joined behind_word behind_number behind_literal bracketed behind_mark behind_token in_line step ending
becomes-last_comma = refl

-- nor behind any other, nor behind `{`
pub becomes-commas : Becomes (codes "x in {,1,,}") (codes "x in {,1: None,,}")
unfolding encode unicode_ident unicode_normalization indented begun behind_line_end joined behind_word behind_number behind_literal bracketed behind_mark behind_token in_line step ending
becomes-commas = refl

-- commas of inner brackets are theirs
pub becomes-inner_commas : Becomes (codes "x in {(1, 2), f(3, 4)}") (codes "x in {(1, 2): None, f(3, 4): None}")
unfolding encode unicode_ident unicode_normalization indented begun behind_line_end joined behind_word behind_number behind_literal bracketed behind_mark behind_token in_line step ending
becomes-inner_commas = refl

-- a dict
pub becomes-dict : Becomes (codes "x in {1: 2}") (codes "x in {1: 2}")
unfolding encode unicode_ident unicode_normalization indented begun behind_line_end joined behind_word behind_number behind_literal bracketed behind_mark behind_token in_line step ending
becomes-dict = refl

-- an empty dict
pub becomes-empty : Becomes (codes "x in {}") (codes "x in {}")
unfolding encode unicode_ident unicode_normalization indented begun behind_line_end joined behind_word behind_number behind_literal bracketed behind_mark behind_token in_line step ending
becomes-empty = refl

-- not behind `in`
pub becomes-not_behind_in : Becomes (codes "{1, 2}") (codes "{1, 2}")
unfolding encode unicode_ident unicode_normalization indented begun behind_line_end joined behind_word behind_number behind_literal bracketed behind_mark behind_token in_line step ending
becomes-not_behind_in = refl

-- a comma doesn't follow a set
pub becomes-comma_follows : Becomes (codes "print(x in {1}, 2)") (codes "print(x in {1}, 2)")
unfolding encode unicode_ident unicode_normalization indented begun behind_line_end joined behind_word behind_number behind_literal bracketed behind_mark behind_token in_line step ending
becomes-comma_follows = refl

-- nor does an operator
pub becomes-union : Becomes (codes "x in {1} | y") (codes "x in {1} | y")
unfolding encode unicode_ident unicode_normalization indented begun behind_line_end joined behind_word behind_number behind_literal bracketed behind_mark behind_token in_line step ending
becomes-union = refl

-- `}` closes it, and no other bracket
pub becomes-other_bracket : Becomes (codes "(x in {1))") (codes "(x in {1))")
unfolding encode unicode_ident unicode_normalization indented begun behind_line_end joined behind_word behind_number behind_literal bracketed behind_mark behind_token in_line step ending
becomes-other_bracket = refl

pub wrong-single_close : IsWrong (codes "f'}'") 1
unfolding encode unicode_ident unicode_normalization indented begun behind_line_end joined behind_word behind_number behind_literal bracketed behind_mark behind_token in_line step ending
wrong-single_close = refl

pub wrong-single_open : IsWrong (codes "f'{'") 1
unfolding encode unicode_ident unicode_normalization indented begun behind_line_end joined behind_word behind_number behind_literal bracketed behind_mark behind_token in_line step ending
wrong-single_open = refl

pub wrong-blank_part : IsWrong (codes "f'{ }'") 1
unfolding encode unicode_ident unicode_normalization indented begun behind_line_end joined behind_word behind_number behind_literal bracketed behind_mark behind_token in_line step ending
wrong-blank_part = refl

pub wrong-no_part : IsWrong (codes "f'{}'") 1
unfolding encode unicode_ident unicode_normalization indented begun behind_line_end joined behind_word behind_number behind_literal bracketed behind_mark behind_token in_line step ending
wrong-no_part = refl

pub wrong-comment : IsWrong (codes "f'{1#}'") 1
unfolding encode unicode_ident unicode_normalization indented begun behind_line_end joined behind_word behind_number behind_literal bracketed behind_mark behind_token in_line step ending
wrong-comment = refl

pub wrong-closes_other : IsWrong (codes "f'{)}'") 1
unfolding encode unicode_ident unicode_normalization indented begun behind_line_end joined behind_word behind_number behind_literal bracketed behind_mark behind_token in_line step ending
wrong-closes_other = refl

pub wrong-closes_before : IsWrong (codes "f'{1)(}'") 1
unfolding encode unicode_ident unicode_normalization indented begun behind_line_end joined behind_word behind_number behind_literal bracketed behind_mark behind_token in_line step ending
wrong-closes_before = refl

pub wrong-unclosed : IsWrong (codes "f'{(}'") 1
unfolding encode unicode_ident unicode_normalization indented begun behind_line_end joined behind_word behind_number behind_literal bracketed behind_mark behind_token in_line step ending
wrong-unclosed = refl

pub wrong-bad_number : IsWrong (codes "f'{1.5}'") 1
unfolding encode unicode_ident unicode_normalization indented begun behind_line_end joined behind_word behind_number behind_literal bracketed behind_mark behind_token in_line step ending
wrong-bad_number = refl

pub wrong-open_in_part : IsWrong (codes "f'{ {1}'") 1
unfolding encode unicode_ident unicode_normalization indented begun behind_line_end joined behind_word behind_number behind_literal bracketed behind_mark behind_token in_line step ending
wrong-open_in_part = refl

pub wrong-line_end : IsWrong (codes "f'{(\\n)}'") 1
unfolding encode unicode_ident unicode_normalization indented begun behind_line_end joined behind_word behind_number behind_literal bracketed behind_mark behind_token in_line step ending
wrong-line_end = refl

pub wrong-return : IsWrong (codes "f'{(\\r)}'") 1
unfolding encode unicode_ident unicode_normalization indented begun behind_line_end joined behind_word behind_number behind_literal bracketed behind_mark behind_token in_line step ending
wrong-return = refl

pub wrong-open_behind_close : IsWrong (codes "f'{1}}'") 1
unfolding encode unicode_ident unicode_normalization indented begun behind_line_end joined behind_word behind_number behind_literal bracketed behind_mark behind_token in_line step ending
wrong-open_behind_close = refl

-- The line is that of the text, in the first literal that is wrong.
pub wrong-line : IsWrong (codes "x = f'a'" ++ 10 ∷ codes "y = f'{'" ++ 10 ∷ codes "z = f'}'") 2
unfolding encode unicode_ident unicode_normalization indented begun behind_line_end joined behind_word behind_number behind_literal bracketed behind_mark behind_token in_line step ending
wrong-line = refl

abbrev pub item : Form → ℕ → ℕ → ℕ → Item
item form from to line = record { form = form; from = from; to = to; line = line }

-- New tokens stand where the text, or the next token, begins.
pub placed-literal : expanded (item (name (codes "f")) 4 5 2 ∷ item (literal (codes "a")) 5 8 2 ∷ item newline 8 9 2 ∷ [])
    ≡ Ok (item (literal []) 5 5 2 ∷ item (mark (codes ".")) 5 5 2 ∷ item (name (codes "join")) 5 5 2 ∷ item (mark (codes "(")) 5 5 2
    ∷ item (mark (codes "[")) 5 5 2 ∷ item (literal (codes "a")) 5 5 2 ∷ item (mark (codes "]")) 5 5 2 ∷ item (mark (codes ")")) 5 5 2 ∷ item newline 8 9 2 ∷ [])
placed-literal = refl

pub placed-set : expanded (item (keyword (codes "in")) 2 4 1 ∷ item (mark (codes "{")) 5 6 1 ∷ item (name (codes "a")) 6 7 2 ∷ item (mark (codes "}")) 9 10 3 ∷ item newline 10 11 3 ∷ [])
    ≡ Ok (item (keyword (codes "in")) 2 4 1 ∷ item (mark (codes "{")) 5 6 1 ∷ item (name (codes "a")) 6 7 2
    ∷ item (mark (codes ":")) 9 9 3 ∷ item (keyword (codes "None")) 9 9 3 ∷ item (mark (codes "}")) 9 10 3 ∷ item newline 10 11 3 ∷ [])
placed-set = refl

-- The name is spelled by one byte: a wide `f`, of three bytes, is the same name, and begins no f-literal.
pub placed-wide : expanded (item (name (codes "f")) 0 3 1 ∷ item (literal (codes "a")) 3 6 1 ∷ [])
    ≡ Ok (item (name (codes "f")) 0 3 1 ∷ item (literal (codes "a")) 3 6 1 ∷ [])
placed-wide = refl
