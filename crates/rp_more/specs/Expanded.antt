-- The tokens of a script with f-literals and sets, written out for the grammar.
use Rattle.std.specs.Prelude.{false, List, [], Result, Ok, Err}
use Rattle.rp_token.specs.Form.{newline, Item}
use Rattle.rp_more.specs.Literals.{literals}
use Rattle.rp_more.specs.Sets.{sets}
use Rattle.rp_more.specs.declared.fault.MoreFault.{MoreFault}

abbrev pub set_items : Result (List Item) MoreFault → Result (List Item) MoreFault
set_items (Ok items) = Ok (sets [] newline items)
set_items (Err f) = Err f

-- The expanded tokens, or the fault of the first f-literal that is wrong. What an f-literal becomes has no braces, so no set begins or ends
-- in it, and none of its commas stands at a set's own depth: the order of both rules makes no difference.
abbrev pub expanded : List Item → Result (List Item) MoreFault
expanded items = set_items (literals false false items)
