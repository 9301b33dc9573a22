-- What the writer of sets does, by kinds, reading the tokens once from the right and once from the left. Other way: Sets looks from each bracket on.
use Rattle.std.specs.Prelude.{Bool, false, not, ◌||◌, ◌&&◌, if◌then◌else◌, List, [], ◌∷◌, ◌++◌, drop, Option, Some, None}
use Rattle.rp_token.specs.Laws.{opens, closes}
use Rattle.rp_token.specs.declared.token.Token.{Token}
use Rattle.rp_token.specs.declared.token.TokenKind.{TokenKind}
use Rattle.rp_token.specs.declared.token.TokenKind.TheVariants as kind
use Rattle.rp_more.specs.declared.ahead.Ahead.{Ahead}
use Rattle.rp_more.specs.declared.groups.Group.{Group}
use Rattle.rp_more.specs.declared.groups.Group.TheVariants as group
use Rattle.rp_more.specs.declared.place.Place.{Place}
use Rattle.rp_more.specs.KindSteps.{is_colon, is_comma, is_for, is_in, is_left_brace, is_right_brace, may_follow}
use Rattle.rp_more.specs.Sets as of

abbrev pub group_seen : Group → of.Group
group_seen group.Display = of.display
group_seen group.Comprehension = of.comprehension
group_seen group.Other = of.other

abbrev pub innermost : List Group → Group
innermost [] = group.Other
innermost (g ∷ gs) = g

-- behind the first `for` of a comprehension
abbrev pub past : Group → List Group → List Group
past group.Comprehension gs = group.Other ∷ drop 1 gs
past g gs = gs

abbrev pub past_for : List Group → List Group
past_for gs = past (innermost gs) gs

abbrev pub is_closed : List Token → Bool
is_closed [] = false
is_closed (t ∷ ts) = closes t.kind

abbrev pub is_followed : List Token → Bool
is_followed [] = false
is_followed (t ∷ ts) = may_follow t.kind

-- a bracket that closes before these tokens
abbrev pub fresh : TokenKind → List Token → Ahead
fresh k ts = record { closes_set = is_right_brace k && is_followed ts; has_colon = false; has_for = false }

abbrev pub with_kind : Ahead → TokenKind → Ahead
with_kind a k = record { closes_set = a.closes_set; has_colon = is_colon k || a.has_colon; has_for = is_for k || a.has_for }

abbrev pub first_known : List Ahead → Option Ahead
first_known [] = None
first_known (a ∷ known) = Some a

abbrev pub seen_by : Option Ahead → TokenKind → List Ahead → List Ahead
seen_by (Some a) k known = with_kind a k ∷ drop 1 known
seen_by None k known = known

abbrev pub seen_before : TokenKind → List Ahead → List Ahead
seen_before k known = seen_by (first_known known) k known

-- what is known of the brackets that close, the next one first, with a token more before
abbrev pub aheads_before : TokenKind → List Token → List Ahead → List Ahead
aheads_before k ts known = if closes k then fresh k ts ∷ known else if opens k then drop 1 known else seen_before k known

abbrev pub aheads : List Token → List Ahead
aheads [] = []
aheads (t ∷ ts) = aheads_before t.kind ts (aheads ts)

abbrev pub group_ahead : Ahead → Group
group_ahead a = if not a.closes_set || a.has_colon then group.Other else if a.has_for then group.Comprehension else group.Display

abbrev pub group_by : Option Ahead → Group
group_by (Some a) = group_ahead a
group_by None = group.Other

abbrev pub group_of_first : List Ahead → Group
group_of_first known = group_by (first_known known)

-- what `{` opens behind `in` and before these tokens
abbrev pub group_behind : List Token → List Ahead → Group
group_behind ts known = if is_closed ts then group.Other else group_of_first known

abbrev pub groups_before : TokenKind → List Token → List Ahead → List Group → List Group
groups_before k ts known gs = if opens k then group_behind ts known ∷ gs else gs

-- the same for each opening bracket
abbrev pub groups_ahead : List Token → List Group
groups_ahead [] = []
groups_ahead (t ∷ ts) = groups_before t.kind ts (aheads ts) (groups_ahead ts)

-- `: None` comes before a token
abbrev pub asked : Group → Bool → TokenKind → Bool
asked group.Comprehension separated k = is_for k
asked group.Display separated k = (is_comma k || closes k) && not separated
asked group.Other separated k = false

abbrev pub asks : List Group → Bool → TokenKind → Bool
asks opened separated k = asked (innermost opened) separated k

abbrev pub none_tokens : Place → List Token
none_tokens p =
    record { kind = kind.Colon; from = p.from; to = p.from; line = p.line } ∷ record { kind = kind.None; from = p.from; to = p.from; line = p.line } ∷ []

abbrev pub none_before : List Group → Bool → Token → List Token
none_before opened separated t = if asks opened separated t.kind then none_tokens (record { from = t.from; line = t.line }) else []

-- what a bracket opens, and the brackets to come behind it
abbrev pub group_here : Bool → TokenKind → List Group → Group
group_here behind_in k coming = if behind_in && is_left_brace k then innermost coming else group.Other

abbrev pub groups_behind : TokenKind → List Group → List Group
groups_behind k coming = if opens k then drop 1 coming else coming

abbrev pub opened_behind : List Group → List Group → Bool → TokenKind → List Group
opened_behind coming opened behind_in k =
    if opens k then group_here behind_in k coming ∷ opened else if closes k then drop 1 opened else if is_for k then past_for opened else opened

-- the tokens with each set as a dict, behind open brackets, where `,` or `{`, or `in`, is the token before
abbrev pub set_tokens : List Group → List Group → Bool → Bool → List Token → List Token
set_tokens coming opened separated behind_in [] = []
set_tokens coming opened separated behind_in (t ∷ ts) =
    (none_before opened separated t ++ t ∷ [])
    ++ set_tokens (groups_behind t.kind coming) (opened_behind coming opened behind_in t.kind) (is_comma t.kind || is_left_brace t.kind) (is_in t.kind) ts
