-- The offences of a tree against the policy (RestrictedPython, name and attribute policy).
-- Other way: one test for each spot, over the list of all spots of the tree. The code collects while it walks.
use Rattle.std.specs.Prelude.{ℕ, Bool, if◌then◌else◌, List, [], ◌++◌, codes}
use Rattle.std.specs.Prelude.{Option, Some, None, option_map}
use Rattle.std.specs.Fmt.{decimal}
use Rattle.std.specs.List.{filter_map}
use Rattle.rp_base.specs.declared.value.Line.{Line}
use Rattle.rp_base.specs.declared.value.Name.{Name}
use Rattle.rp_tree.specs.StatementTrees.{Stmts}
use Rattle.rp_policy.specs.Forbidden.{is_forbidden_attribute, is_forbidden_name}
use Rattle.rp_policy.specs.Forbidden.{is_initializer, is_reserved, is_uncallable}
use Rattle.rp_policy.specs.Spots.{spots}
use Rattle.rp_policy.specs.declared.offence.Offence.{Offence}
use Rattle.rp_policy.specs.declared.offence.What.{What}
use Rattle.rp_policy.specs.declared.offence.What.TheVariants as what
use Rattle.rp_policy.specs.declared.spot.Spot.{Spot}
use Rattle.rp_policy.specs.declared.spot.Spot.TheVariants.{Reads, Binds, Method, Calls, Attribute, Augments}

-- a first reason where it holds, and else a second one, if there is one
abbrev pub or_else : {B : Type 0} → Bool → B → Option B → Option B
or_else holds first second = if holds then Some first else second

-- what is wrong with a name that is read, bound, defined in a class, called, and with that of an attribute
abbrev pub wrong_reading : {A : Type 0} → List ℕ → A → Option (What A)
wrong_reading word n = or_else (is_forbidden_name word) (what.Name n) None

abbrev pub wrong_binding : {A : Type 0} → List ℕ → A → Option (What A)
wrong_binding word n =
    or_else (is_forbidden_name word) (what.Name n) (or_else (is_reserved word) (what.Reserved n) None)

abbrev pub wrong_method : {A : Type 0} → List ℕ → A → Option (What A)
wrong_method word n = if is_initializer word then None else wrong_binding word n

abbrev pub wrong_call : {A : Type 0} → List ℕ → A → Option (What A)
wrong_call word n = or_else (is_uncallable word) (what.ExecEval n) (wrong_reading word n)

abbrev pub wrong_attribute : {A : Type 0} → List ℕ → A → Option (What A)
wrong_attribute word n = or_else (is_forbidden_attribute word) (what.Attr n) None

-- what is wrong with a spot, by the words that names stand for
abbrev pub wrong : {A : Type 0} → (A → List ℕ) → Spot A → Option (What A)
wrong word (Reads n) = wrong_reading (word n.name) n.name
wrong word (Binds n) = wrong_binding (word n.name) n.name
wrong word (Method n) = wrong_method (word n.name) n.name
wrong word (Calls n) = wrong_call (word n.name) n.name
wrong word (Attribute n) = wrong_attribute (word n.name) n.name
wrong word (Augments line) = Some what.AugTarget

abbrev pub line_of : {A : Type 0} → Spot A → Line
line_of (Reads n) = n.line
line_of (Binds n) = n.line
line_of (Method n) = n.line
line_of (Calls n) = n.line
line_of (Attribute n) = n.line
line_of (Augments line) = line

abbrev pub at_line : {A : Type 0} → Line → What A → Offence A
at_line line w = record { line = line; what = w }

unfoldable pub offence : {A : Type 0} → (A → List ℕ) → Spot A → Option (Offence A)
offence word spot = option_map (at_line (line_of spot)) (wrong word spot)

-- the offences of a tree, by the words that its names stand for, in the order of the tokens
unfoldable pub offences_by : {A : Type 0} → (A → List ℕ) → Stmts A → List (Offence A)
offences_by word tree = filter_map (offence word) (spots tree)

-- the offences of a tree whose names are texts
abbrev pub offences : Stmts (List ℕ) → List (Offence (List ℕ))
offences = offences_by (λ word. word)

-- an offence with its names changed
abbrev pub what_named : {A B : Type 0} → (A → B) → What A → What B
what_named f (what.Name n) = what.Name (f n)
what_named f (what.Attr n) = what.Attr (f n)
what_named f (what.Reserved n) = what.Reserved (f n)
what_named f (what.ExecEval n) = what.ExecEval (f n)
what_named f what.AugTarget = what.AugTarget

abbrev pub offence_named : {A B : Type 0} → (A → B) → Offence A → Offence B
offence_named f o = record { line = o.line; what = what_named f o.what }

-- the characters that tell what is wrong
abbrev pub what_text : What (List ℕ) → List ℕ
what_text (what.Name word) = codes "name \"" ++ word ++ codes "\" is forbidden"
what_text (what.Attr word) = codes "attribute \"" ++ word ++ codes "\" is forbidden"
what_text (what.Reserved word) = codes "name \"" ++ word ++ codes "\" is reserved"
what_text (what.ExecEval word) = codes "call of \"" ++ word ++ codes "\" is forbidden"
what_text what.AugTarget = codes "augmented assignment to an attribute or item is forbidden"

abbrev pub offence_text : Offence (List ℕ) → List ℕ
offence_text o = codes "line " ++ decimal o.line.0 ++ codes ": " ++ what_text o.what
