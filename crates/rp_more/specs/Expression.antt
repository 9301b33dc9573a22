-- The tokens of an expression that stands in an f-literal.
use Rattle.std.specs.Prelude.{ℕ, ◌+◌, ◌-◌, ◌&&◌, ◌||◌, not, nat_lt, Bool, true, if◌then◌else◌, List, [], ◌∷◌, map, reverse, filter, Option, Some, None, Result, Ok, Err}
use Rattle.rp_token.specs.Characters.{behind_run, is_blank}
use Rattle.rp_token.specs.Form.{Form, Item}
use Rattle.rp_token.specs.Tokens.{tokens_of}
use Rattle.rp_token.specs.declared.fault.TokenFault.{TokenFault}
use Rattle.rp_more.specs.Forms.{opens, closes, is_newline, is_end}

-- the text without the blanks at both its ends
abbrev pub trimmed : List ℕ → List ℕ
trimmed cs = reverse (behind_run is_blank (reverse (behind_run is_blank cs)))

-- where so many brackets were opened before, each closing bracket closes one that was opened, of whatever kind
abbrev pub closes_own : ℕ → List Form → Bool
closes_own n [] = true
closes_own n (f ∷ fs) = if closes f then nat_lt 0 n && closes_own (n - 1) fs else closes_own (if opens f then n + 1 else n) fs

-- all but the end of the line and of the text
abbrev pub kept : List Item → List Form
kept items = filter (λ f. not (is_newline f || is_end f)) (map (λ (t : Item). t.form) items)

abbrev pub own_forms : Result (List Item) TokenFault → Option (List Form)
own_forms (Ok items) = if closes_own 0 (kept items) then Some (kept items) else None
own_forms (Err f) = None

-- the tokens of the text, where it has some, and they close no bracket but their own
abbrev pub expression_of : List ℕ → Option (List Form)
expression_of cs = own_forms (tokens_of (trimmed cs))
