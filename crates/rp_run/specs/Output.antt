-- What a command writes, and its status.
use Rattle.std.specs.Prelude.{ℕ, suc, ◌-◌, nat_eq, Bool, List, [], ◌∷◌, ◌++◌, length, codes, flat_map, slice_get}
use Rattle.std.specs.Prelude.{if◌then◌else◌, Option, Some}
use Rattle.std.specs.Fmt.{decimal}
use Rattle.std.specs.List.{list_any}
use Rattle.std.specs.Option.{option_map_or}
use Rattle.rp_base.specs.Kind.{kind_name}
use Rattle.rp_decl.specs.Declares.{Refusal, version, shape, permission, class, group, role}
use Rattle.rp_decl.specs.Faults.{line_of}
use Rattle.rp_decl.specs.Records.{Declarations}
use Rattle.rp_interact.specs.Why.{Reason, public, own, role as by_role, group as by_group, group_role, nothing, has_all}
use Rattle.rp_interact.specs.Why.{is_yes, why_of}
use Rattle.rp_meaning.specs.Load.{Refused, module_ended, not_bound}
use Rattle.rp_meaning.specs.Sessions.{SessionEnd, well, cut_off}
use Rattle.rp_ops.specs.Outcome.{raised, no_step, no_cell}
use Rattle.rp_trail.specs.Entry.{Entry}
use Rattle.rp_trail.specs.Line.{line_of as entry_line}
use Rattle.rp_words.specs.Command.{Pair, Run}

-- ---- sessions

-- the text of an exception, where it has one
abbrev pub detail : List ℕ → List ℕ
detail [] = []
detail (c ∷ cs) = codes ": " ++ c ∷ cs

-- how a session ended
abbrev pub end_line : SessionEnd → List ℕ
end_line well = codes "end ok\n"
end_line (cut_off (raised r)) = codes "end " ++ kind_name r.kind ++ detail r.text ++ codes "\n"
end_line (cut_off no_step) = codes "end stopped steps\n"
end_line (cut_off no_cell) = codes "end stopped cells\n"

-- the block of a session: its number and principals, what it printed, and how it ended
abbrev pub session_block : ℕ → List ℕ → List ℕ → SessionEnd → List ℕ
session_block number who printed end = codes "session " ++ decimal number ++ codes " " ++ who ++ codes "\n" ++ printed
    ++ end_line end

-- 0 where the session ended well, 1 where an exception ended it, 5 where it was stopped
abbrev pub end_status : SessionEnd → ℕ
end_status well = 0
end_status (cut_off (raised r)) = 1
end_status (cut_off no_step) = 5
end_status (cut_off no_cell) = 5

-- what a session that has ended came to: its end, and what it printed
abbrev pub Finished : Type 0
Finished = SessionEnd × List ℕ

abbrev pub as_told : Finished → Option SessionEnd × List ℕ
as_told f = (Some f.0, f.1)

-- the blocks of the sessions of some pairs, of which the first has this number
abbrev pub session_blocks : ℕ → List Pair → List Finished → List ℕ
session_blocks k (p ∷ ps) (f ∷ fs) = session_block k p.who f.1 f.0 ++ session_blocks (suc k) ps fs
session_blocks k _ _ = []

-- the principals of the session of a number, as in the words
abbrev pub who_in : List Pair → ℕ → List ℕ
who_in pairs session = option_map_or (λ (p : Pair). p.who) (slice_get pairs (session - 1)) []

-- the lines of some decisions, of which the first stands at this place in the trail
abbrev pub entry_lines : List Pair → ℕ → List Entry → List ℕ
entry_lines pairs i [] = []
entry_lines pairs i (e ∷ es) = entry_line i (who_in pairs e.session) e ++ entry_lines pairs (suc i) es

-- the trail: how many decisions there were, and a line for each
abbrev pub trail_text : List Pair → List Entry → List ℕ
trail_text pairs log = codes "trail " ++ decimal (length log) ++ codes "\n" ++ entry_lines pairs 0 log

-- the block of each session in order, and then the trail, where it is asked for
abbrev pub run_text : Run → List Finished → List Entry → List ℕ
run_text r sessions log = session_blocks 1 r.pairs sessions ++ (if r.trail then trail_text r.pairs log else [])

abbrev pub some_ends : ℕ → List Finished → Bool
some_ends status sessions = list_any (λ (f : Finished). nat_eq (end_status f.0) status) sessions

-- 5 where some session was stopped, else 1 where an exception ended some, else 0
abbrev pub run_status : List Finished → ℕ
run_status sessions = if some_ends 5 sessions then 5 else (if some_ends 1 sessions then 1 else 0)

-- ---- the large input

-- a line for a number
abbrev pub number_line : List ℕ → ℕ → List ℕ
number_line label n = label ++ decimal n ++ codes "\n"

-- the size of the large input, and how many bytes its declarations and its script have
abbrev pub input_lines : ℕ → ℕ → ℕ → List ℕ
input_lines n declarations script =
    number_line (codes "large ") n ++ (codes "bytes " ++ decimal declarations ++ number_line (codes " ") script)

-- the steps and the cells that were used, and how many decisions there were
abbrev pub used_lines : ℕ → ℕ → ℕ → List ℕ
used_lines steps cells entries = number_line (codes "steps ") steps ++ number_line (codes "cells ") cells
    ++ number_line (codes "entries ") entries

-- ---- declarations

abbrev pub cause : Refusal → List ℕ
cause version = codes "version"
cause (shape path) = codes "shape " ++ path
cause (permission id) = codes "permission " ++ id
cause (class name) = codes "class " ++ name
cause (group id) = codes "group " ++ id
cause (role id) = codes "role " ++ id

-- why declarations are refused
abbrev pub refusal_line : Refusal → List ℕ
refusal_line r = line_of (cause r)

-- why declarations that are read have no world
abbrev pub world_cause : Refused → List ℕ
world_cause (module_ended (raised r)) = codes "module ended " ++ kind_name r.kind ++ detail r.text
world_cause (module_ended no_step) = codes "module stopped steps"
world_cause (module_ended no_cell) = codes "module stopped cells"
world_cause (not_bound word) = codes "expose " ++ word

abbrev pub no_world_line : Refused → List ℕ
no_world_line why = line_of (world_cause why)

-- ---- permissions

abbrev pub yes_or_no : Bool → List ℕ
yes_or_no b = if b then codes "yes" else codes "no"

-- the rule that decides
abbrev pub reason_words : Reason → List ℕ
reason_words public = codes "public"
reason_words (own allowed) = codes "principal"
reason_words (by_role r) = codes "role " ++ r
reason_words (by_group g allowed) = codes "group " ++ g
reason_words (group_role g r) = codes "group " ++ g ++ codes " role " ++ r
reason_words nothing = codes "none"

-- whether a principal has a permission, and why
abbrev pub reason_line : List ℕ → Reason → List ℕ
reason_line id reason = id ++ codes " " ++ yes_or_no (is_yes reason) ++ codes " " ++ reason_words reason ++ codes "\n"

abbrev pub principal_line : Declarations → List ℕ → List ℕ → List ℕ
principal_line d asked id = option_map_or (reason_line id) (why_of d id asked) []

-- a line for each principal, and whether they have the permission together
abbrev pub may_text : Declarations → List (List ℕ) → List ℕ → List ℕ
may_text d ids asked = flat_map (principal_line d asked) ids ++ codes "may " ++ yes_or_no (has_all d ids asked)
    ++ codes "\n"

abbrev pub may_status : Declarations → List (List ℕ) → List ℕ → ℕ
may_status d ids asked = if has_all d ids asked then 0 else 1
