-- A script is read by turns: what is read from a place on is what the turn there takes, and then what is read behind it.
use Rattle.std.proofs.Common.{◌≡◌, ℕ, zero, suc, ◌-◌, ◌<◌, ◌≤◌, Bool, true, false, cond, not, ◌&&◌, [], ◌∷◌, ◌++◌, length, drop, Some, None, Ok, Err, option_map, refl, sym, ap, subst, ◌∙◌, inl, inr, arith, append_assoc, length-append}
use Rattle.std.proofs.Math.Seq.{drop-append_seam}
use Rattle.rp_token.specs.declared.token.TokenKind.{TokenKind}
use Rattle.rp_token.specs.declared.token.TokenKind.TheVariants as kind
use Rattle.rp_tree.specs.Statements as stmt_tree
use Rattle.rp_tree.specs.Statements.{Stmt, Stmts}
use Rattle.rp_grammar.specs.Kinds.{Tokens, first, skip}
use Rattle.rp_grammar.specs.Statements as stmt_grammar
use Rattle.rp_grammar.specs.Statements.{Context, joined, one, top}
use Rattle.rp_grammar.specs.StatementReading as stmt_reading
use Rattle.rp_grammar.specs.StatementReading.{Found, ◌>>>◌, block_at, ends, from}
use Rattle.rp_grammar.proofs.Basics.{chosen, some_is}
use Rattle.rp_grammar.proofs.ExpressionSound.{readers_sound}
use Rattle.rp_grammar.proofs.ExpressionTakes.{skip_within}
use Rattle.rp_grammar.proofs.Founds.{bind_ok, from_ok, got_ok}
use Rattle.rp_grammar.proofs.Opens.{Until, until_step}
use Rattle.rp_grammar.proofs.Parts.{simple_again, statement_again}
use Rattle.rp_grammar.proofs.StatementSound as sound
use Rattle.rp_grammar.proofs.StatementTakes.{simple_takes, line_takes, statement_takes}
use Rattle.rp_parse.specs.Gives.{Fails, ahead, deep, told, placed}
use Rattle.rp_parse.specs.ScriptSteps.{is_compound, comes, statements_from, from_here, compound_turn, turn, turned, Passes, place_line, line_told, IsToldOf}
use Rattle.rp_parse.specs.declared.fault.ParseFault.{ParseFault}
use Rattle.rp_parse.specs.declared.fault.ParseFault.TheVariants as fault
use Rattle.rp_parse.specs.declared.fault.Stop.{Stop}
use Rattle.rp_parse.specs.declared.fault.Stop.TheVariants as stop
use Rattle.rp_parse.proofs.Stops.{bind_fails, whole_fails, from_fails}
use Rattle.rp_parse.proofs.Turns.{joined_none, joined_joined}

abbrev Item : Type 0
Item = Stmt × Bool

abbrev Turn : Type 0
Turn = Stmts × Bool

-- ---- what a turn takes is a front of the tokens

abbrev pub IsBehind : Tokens → Tokens → Type 0
IsBehind ts us = (f : Tokens) × (ts ≡ f ++ us)

skip_behind : (ts : Tokens) → IsBehind ts (skip ts)
skip_behind [] = ([], refl)
skip_behind (x ∷ ts) = (x ∷ [], refl)

behind_then : (ts us vs : Tokens) → IsBehind ts us → IsBehind us vs → IsBehind ts vs
behind_then ts us vs p q = (p.0 ++ q.0, p.1 ∙ ap (λ (z : Tokens). p.0 ++ z) q.1 ∙ sym (append_assoc p.0 q.0 vs))

until_none : (us : Tokens) → Until us 0 us []
until_none us = record { parts = refl; enough = omega arith }

simple_behind : {c : Context} {x : Stmt} {ts us : Tokens} → stmt_grammar.IsSimple c x ts us → IsBehind ts us
simple_behind {us = us} p = let (f, w, again) = simple_again (Until us 0) (until_step us 0) p (until_none us) in (f, w.parts)

statement_behind : {c : Context} {xs : Stmts} {ts us : Tokens} → stmt_grammar.IsStatement c xs ts us → IsBehind ts us
statement_behind {us = us} p = let (f, w, again) = statement_again (Until us 0) (until_step us 0) p (until_none us) in (f, w.parts)

ending_behind : {b : Bool} {us vs : Tokens} → sound.LineEnd b us vs → IsBehind us vs
ending_behind (sound.at_newline {us = us} h) = skip_behind us
ending_behind (sound.at_semicolon {us = us} h i) = behind_then us (skip us) (skip (skip us)) (skip_behind us) (skip_behind (skip us))
ending_behind (sound.goes_on {us = us} h) = skip_behind us

ending_within : {b : Bool} {us vs : Tokens} → sound.LineEnd b us vs → length vs ≤ length us
ending_within (sound.at_newline {us = us} h) = skip_within us
ending_within (sound.at_semicolon {us = us} h i) = omega (arith, skip_within us, skip_within (skip us))
ending_within (sound.goes_on {us = us} h) = skip_within us

-- the tokens behind what is taken
abbrev pub IsTaken : Tokens → Tokens → Type 0
IsTaken ts us = IsBehind ts us × (length us < length ts)

item_taken : (h : ℕ) (ts : Tokens) (x : Item × Tokens) → stmt_reading.item_at deep h top false ts ≡ Ok x → IsTaken ts x.1
item_taken h ts x is =
    let item = sound.item_sound deep (readers_sound 650) h top false ts x is in
    let spelled = item.spelled in
    let ending = item.ending in
    (behind_then ts item.middle x.1 (simple_behind spelled) (ending_behind ending), omega (arith, simple_takes spelled, ending_within ending))

statement_taken : (h : ℕ) (ts : Tokens) (x : Stmts × Tokens) → stmt_reading.statement_at deep h top false (block_at deep h) ts ≡ Ok x → IsTaken ts x.1
statement_taken h ts x is =
    let read = sound.statement_sound deep (readers_sound 650) h (block_at deep h) (sound.block_sound deep (readers_sound 650) h) top false ts x is in
    let spelled = read.spelled in
    (statement_behind spelled, statement_takes spelled)

line_shorter : (n h : ℕ) (ts : Tokens) (x : Stmts × Tokens) → stmt_reading.line_by n deep h top false ts ≡ Ok x → length x.1 < length ts
line_shorter n h ts x is = let read = sound.line_sound deep (readers_sound 650) n h top false ts x is in line_takes read.spelled

turn_taken : (h : ℕ) (b : Bool) (ts : Tokens) (x : Turn × Tokens) → turn h b ts ≡ Ok x → IsTaken ts x.1
turn_taken h b ts x is =
    elim (chosen (not b && is_compound (first ts)) _ _ _ is) [
      | inl (begins, e) ↦
          let (y, found, all) = bind_ok _ _ _ e in
          got_ok (λ (z : Turn) ts us. IsTaken ts us) ts all (statement_taken h ts y found)
      | inr (begins, e) ↦
          let (y, found, all) = bind_ok _ _ _ e in
          got_ok (λ (z : Turn) ts us. IsTaken ts us) ts all (item_taken h ts y found)
    ]

-- ---- more turns of a loop than there are tokens change nothing

bind_same : {A B : Type 0} (o : Found A) (f g : A × Tokens → Found B) → ((x : A × Tokens) → o ≡ Ok x → f x ≡ g x) → (o >>> f) ≡ (o >>> g)
bind_same (Ok x) f g same = same x refl
bind_same (Err p) f g same = refl

-- what a line is, behind an item of it
abbrev behind_item : (Tokens → Found Stmts) → Item × Tokens → Found Stmts
behind_item more x = cond x.0.1 (ahead (stmt_tree.stmt x.0.0) (more x.1)) (Ok (one x.0.0, x.1))

line_enough : (n k h : ℕ) (ts : Tokens) → length ts < n → length ts < k → stmt_reading.line_by n deep h top false ts ≡ stmt_reading.line_by k deep h top false ts
unfolding stmt_reading.line_by
line_enough zero k h ts some more = absurd (omega (arith, some))
line_enough (suc n) zero h ts some more = absurd (omega (arith, more))
line_enough (suc n) (suc k) h ts some more =
    bind_same (from ts (stmt_reading.item_at deep h top false ts)) (behind_item (stmt_reading.line_by n deep h top false)) (behind_item (stmt_reading.line_by k deep h top false)) (λ x is.
    let less = (item_taken h ts x (from_ok ts _ x is)).1 in
    ap (λ (o : Found Stmts). cond x.0.1 (ahead (stmt_tree.stmt x.0.0) o) (Ok (one x.0.0, x.1))) (line_enough n k h x.1 (omega (arith, some, less)) (omega (arith, more, less))))

statements_enough : (n k h : ℕ) (ts : Tokens) → length ts < n → length ts < k → stmt_reading.statements_by n deep h top false (block_at deep h) ts ≡ stmt_reading.statements_by k deep h top false (block_at deep h) ts
unfolding stmt_reading.statements_by
statements_enough zero k h ts some more = absurd (omega (arith, some))
statements_enough (suc n) zero h ts some more = absurd (omega (arith, more))
statements_enough (suc n) (suc k) h ts some more =
    ap (λ (o : Found Stmts). cond (ends (first ts)) (Ok (stmt_tree.no_stmts, ts)) o)
    (bind_same (from ts (stmt_reading.statement_at deep h top false (block_at deep h) ts)) (λ xs. ahead (joined xs.0) (stmt_reading.statements_by n deep h top false (block_at deep h) xs.1))
    (λ xs. ahead (joined xs.0) (stmt_reading.statements_by k deep h top false (block_at deep h) xs.1)) (λ xs is.
    let less = (statement_taken h ts xs (from_ok ts _ xs is)).1 in
    ap (ahead (joined xs.0)) (statements_enough n k h xs.1 (omega (arith, some, less)) (omega (arith, more, less)))))

-- ---- a line always tells a place

ahead_silent : (items : Stmts → Stmts) (o : Found Stmts) → ahead items o ≡ Err None → o ≡ Err None
ahead_silent items (Ok x) e = absurd cc
ahead_silent items (Err p) e = e

item_silent : (more : Tokens → Found Stmts) → ((us : Tokens) → more us ≡ Err None → ⊥) → (ts : Tokens) (o : Found Item) → (from ts o >>> behind_item more) ≡ Err None → ⊥
item_silent more told ts (Err None) e = absurd cc
item_silent more told ts (Err (Some p)) e = absurd cc
item_silent more told ts (Ok ((x, false), us)) e = absurd cc
item_silent more told ts (Ok ((x, true), us)) e = told us (ahead_silent (stmt_tree.stmt x) (more us) e)

line_silent : (n h : ℕ) (ts : Tokens) → stmt_reading.line_by n deep h top false ts ≡ Err None → ⊥
unfolding stmt_reading.line_by
line_silent zero h ts e = absurd cc
line_silent (suc n) h ts e = item_silent (stmt_reading.line_by n deep h top false) (line_silent n h) ts (stmt_reading.item_at deep h top false ts) e

from_told : (ts : Tokens) (o : Found Stmts) → (o ≡ Err None → ⊥) → from ts o ≡ o
from_told ts (Ok x) told = refl
from_told ts (Err None) told = absurd (told refl)
from_told ts (Err (Some p)) told = refl

-- ---- a turn, and what is read behind it

abbrev pub behind_turn : ℕ → Tokens → Found Turn → Found Stmts
behind_turn h ts o = from ts o >>> λ x. ahead (joined x.0.0) (from_here h x.0.1 x.1)

first_ahead : (x : Stmt) (xs : Stmts) (o : Found Stmts) → ahead (joined (stmt_tree.stmt x xs)) o ≡ ahead (joined (one x)) (ahead (joined xs) o)
first_ahead x xs (Ok ys) = refl
first_ahead x xs (Err p) = refl

first_of_line : (h : ℕ) (x : Stmt) (o : Found Stmts) → (ahead (stmt_tree.stmt x) o >>> λ xs. ahead (joined xs.0) (statements_from h xs.1)) ≡ ahead (joined (one x)) (o >>> λ xs. ahead (joined xs.0) (statements_from h xs.1))
first_of_line h x (Ok xs) = first_ahead x xs.0 (statements_from h xs.1)
first_of_line h x (Err p) = refl

item_turn : (h : ℕ) (ts : Tokens) (o : Found Item) → ((x : Item × Tokens) → o ≡ Ok x → length x.1 < length ts)
    → ((from ts o >>> behind_item (stmt_reading.line_by (length ts) deep h top false)) >>> λ xs. ahead (joined xs.0) (statements_from h xs.1)) ≡ behind_turn h ts (o >>> λ x. Ok ((one x.0.0, x.0.1), x.1))
item_turn h ts (Err None) less = refl
item_turn h ts (Err (Some p)) less = refl
item_turn h ts (Ok ((x, false), us)) less = refl
item_turn h ts (Ok ((x, true), us)) less =
    let shorter = less ((x, true), us) refl in
    ap (λ (o : Found Stmts). ahead (stmt_tree.stmt x) o >>> λ xs. ahead (joined xs.0) (statements_from h xs.1)) (line_enough (length ts) (suc (length us)) h us (omega (arith, shorter)) (omega arith))
    ∙ first_of_line h x (stmt_reading.line deep h top false us)

line_step : (h : ℕ) (ts : Tokens) → from_here h true ts ≡ behind_turn h ts (turn h true ts)
unfolding stmt_reading.line_by
line_step h ts = item_turn h ts (stmt_reading.item_at deep h top false ts) (λ x is. (item_taken h ts x is).1)

-- where no line has begun

compound_step : (h : ℕ) (ts : Tokens) (o : Found Stmts) → ((x : Stmts × Tokens) → o ≡ Ok x → length x.1 < length ts)
    → (from ts o >>> λ xs. ahead (joined xs.0) (stmt_reading.statements_by (length ts) deep h top false (block_at deep h) xs.1)) ≡ behind_turn h ts (o >>> λ xs. Ok ((xs.0, false), xs.1))
compound_step h ts (Err None) less = refl
compound_step h ts (Err (Some p)) less = refl
compound_step h ts (Ok xs) less =
    let shorter = less xs refl in
    ap (ahead (joined xs.0)) (statements_enough (length ts) (suc (length xs.1)) h xs.1 (omega (arith, shorter)) (omega arith))

statement_first : (h : ℕ) (ts : Tokens) → ends (first ts) ≡ false
    → from_here h false ts ≡ (from ts (stmt_reading.statement_at deep h top false (block_at deep h) ts) >>> λ xs. ahead (joined xs.0) (stmt_reading.statements_by (length ts) deep h top false (block_at deep h) xs.1))
unfolding stmt_reading.statements_by
statement_first h ts goes = rw goes refl

line_by_kind : (h : ℕ) (ts : Tokens) (k : TokenKind) → is_compound k ≡ false → stmt_reading.statement_by k deep h top false (block_at deep h) ts ≡ stmt_reading.line deep h top false ts
line_by_kind h ts kind.Def e = absurd cc
line_by_kind h ts kind.If e = absurd cc
line_by_kind h ts kind.While e = absurd cc
line_by_kind h ts kind.For e = absurd cc
line_by_kind h ts kind.Try e = absurd cc
line_by_kind h ts kind.Class e = absurd cc
line_by_kind h ts _ e = refl

line_at_first : (h : ℕ) (ts : Tokens) → is_compound (first ts) ≡ false → from ts (stmt_reading.statement_at deep h top false (block_at deep h) ts) ≡ stmt_reading.line deep h top false ts
unfolding stmt_reading.statement_at
line_at_first h ts none =
    ap (from ts) (line_by_kind h ts (first ts) none) ∙ from_told ts (stmt_reading.line deep h top false ts) (line_silent (suc (length ts)) h ts)

line_first : (h : ℕ) (ts : Tokens) → is_compound (first ts) ≡ false
    → (from ts (stmt_reading.statement_at deep h top false (block_at deep h) ts) >>> λ xs. ahead (joined xs.0) (stmt_reading.statements_by (length ts) deep h top false (block_at deep h) xs.1)) ≡ from_here h true ts
line_first h ts none =
    ap (λ (o : Found Stmts). o >>> λ xs. ahead (joined xs.0) (stmt_reading.statements_by (length ts) deep h top false (block_at deep h) xs.1)) (line_at_first h ts none)
    ∙ bind_same (stmt_reading.line deep h top false ts) (λ xs. ahead (joined xs.0) (stmt_reading.statements_by (length ts) deep h top false (block_at deep h) xs.1)) (λ xs. ahead (joined xs.0) (statements_from h xs.1)) (λ xs is.
    let shorter = line_shorter (suc (length ts)) h ts xs is in
    ap (ahead (joined xs.0)) (statements_enough (length ts) (suc (length xs.1)) h xs.1 (omega (arith, shorter)) (omega arith)))

turn_begins : (h : ℕ) (ts : Tokens) (b : Bool) → is_compound (first ts) ≡ b → ends (first ts) ≡ false → from_here h false ts ≡ behind_turn h ts (turn h false ts)
turn_begins h ts true begins goes =
    let block = block_at deep h in
    let same : turn h false ts ≡ compound_turn h ts = rw begins refl in
    statement_first h ts goes ∙ compound_step h ts (stmt_reading.statement_at deep h top false block ts) (λ x is. (statement_taken h ts x is).1) ∙ ap (behind_turn h ts) (sym same)
turn_begins h ts false begins goes =
    let same : turn h false ts ≡ turn h true ts = rw begins refl in
    statement_first h ts goes ∙ line_first h ts begins ∙ line_step h ts ∙ ap (behind_turn h ts) (sym same)

goes_on : (b : Bool) → not b ≡ true → b ≡ false
goes_on true e = absurd cc
goes_on false e = refl

over : (b : Bool) → not b ≡ false → b ≡ true
over true e = refl
over false e = absurd cc

pub turn_read : (h : ℕ) (b : Bool) (ts : Tokens) → comes b ts ≡ true → from_here h b ts ≡ behind_turn h ts (turn h b ts)
turn_read h true ts more = line_step h ts
turn_read h false ts more = turn_begins h ts (is_compound (first ts)) refl (goes_on (ends (first ts)) more)

-- where no turn comes
pub none_read : (h : ℕ) (b : Bool) (ts : Tokens) → comes b ts ≡ false → from_here h b ts ≡ Ok (stmt_tree.no_stmts, ts)
unfolding stmt_reading.statements_by
none_read h true ts none = absurd cc
none_read h false ts none = rw (over (ends (first ts)) none) refl

-- ---- turns, behind what was read before

pub none_ahead : (o : Found Stmts) → ahead (joined stmt_tree.no_stmts) o ≡ o
none_ahead (Ok x) = refl
none_ahead (Err p) = refl

ahead_ahead : (xs ys : Stmts) (o : Found Stmts) → ahead (joined xs) (ahead (joined ys) o) ≡ ahead (joined (joined xs ys)) o
ahead_ahead xs ys (Ok zs) = let answer : Stmts → Found Stmts = λ l. Ok (l, zs.1) in ap answer (sym (joined_joined xs ys zs.0))
ahead_ahead xs ys (Err p) = refl

abbrev read_or : Turn × Tokens → Found Turn → Turn × Tokens
read_or y (Ok x) = x
read_or y (Err p) = y

turned_ok : (xs : Stmts) (o : Found Turn) (y : Turn × Tokens) → turned xs o ≡ Ok y → (x : Turn × Tokens) × (o ≡ Ok x) × (joined xs x.0.0 ≡ y.0.0) × (x.0.1 ≡ y.0.1) × (x.1 ≡ y.1)
turned_ok xs (Ok x) y h =
    let is : ((joined xs x.0.0, x.0.1), x.1) ≡ y = ap (read_or y) h in
    (x, refl, ap (λ (z : Turn × Tokens). z.0.0) is, ap (λ (z : Turn × Tokens). z.0.1) is, ap (λ (z : Turn × Tokens). z.1) is)
turned_ok xs (Err p) y h = absurd cc

turned_fails : (e : Stop) (xs : Stmts) (o : Found Turn) → Fails e (turned xs o) → Fails e o
turned_fails stop.Memory xs o bad = tt
turned_fails (stop.Syntax p) xs (Ok x) bad = absurd cc
turned_fails (stop.Syntax p) xs (Err q) bad = bad

-- what was put behind the statements before is a turn
pub statement_turned : (xs new : Stmts) (o : Found Stmts) (us : Tokens) → ahead (joined xs) o ≡ Ok (new, us) → turned xs (o >>> λ ys. Ok ((ys.0, false), ys.1)) ≡ Ok ((new, false), us)
statement_turned xs new (Ok ys) us h =
    let turn_of : Found Stmts → Found Turn = λ o. o >>> λ ys. Ok ((ys.0, false), ys.1) in ap turn_of h
statement_turned xs new (Err p) us h = absurd cc

pub statement_fails : (e : Stop) (xs : Stmts) (o : Found Stmts) → Fails e (ahead (joined xs) o) → Fails e (turned xs (o >>> λ ys. Ok ((ys.0, false), ys.1)))
statement_fails stop.Memory xs o bad = tt
statement_fails (stop.Syntax p) xs (Ok ys) bad = absurd cc
statement_fails (stop.Syntax p) xs (Err q) bad = cc

pub item_turned : (xs new : Stmts) (o : Found Item) (x : Item) (us : Tokens) → o ≡ Ok (x, us) → new ≡ joined xs (one x.0) → turned xs (o >>> λ x. Ok ((one x.0.0, x.0.1), x.1)) ≡ Ok ((new, x.1), us)
item_turned xs new o x us is made = rw (is, made) refl

pub item_fails : (e : Stop) (xs : Stmts) (o : Found Item) → Fails e o → Fails e (turned xs (o >>> λ x. Ok ((one x.0.0, x.0.1), x.1)))
item_fails e xs o bad = bind_fails e _ _ (bind_fails e _ _ bad)

pub passes_none : (xs : Stmts) (b : Bool) (ts : Tokens) → Passes xs b ts xs b ts
passes_none xs b ts = record { same = refl; front = []; parts = refl }

pub passes_then : {xs ys zs : Stmts} {b d e : Bool} {ts us vs : Tokens} → Passes xs b ts ys d us → Passes ys d us zs e vs → Passes xs b ts zs e vs
passes_then {ts = ts} {us = us} {vs = vs} p q =
    let both = behind_then ts us vs (p.front, p.parts) (q.front, q.parts) in
    record { same = p.same ∙ q.same; front = both.0; parts = both.1 }

-- the same turns behind what was read before
pub passes_behind : (xs : Stmts) {ys : Stmts} {b d : Bool} {ts us : Tokens} → Passes stmt_tree.no_stmts b ts ys d us → Passes xs b ts (joined xs ys) d us
passes_behind xs {ys} {b} {d} {ts} {us} p = record {
  same = ap (ahead (joined xs)) (sym (none_ahead (from_here 199 b ts)) ∙ p.same) ∙ ahead_ahead xs ys (from_here 199 d us);
  front = p.front;
  parts = p.parts;
}

pub turn_passes : (b : Bool) (xs : Stmts) (ts : Tokens) (y : Turn × Tokens) → comes b ts ≡ true → turned xs (turn 199 b ts) ≡ Ok y → Passes xs b ts y.0.0 y.0.1 y.1
turn_passes b xs ts y more is =
    let (x, read, made, goes, rest) = turned_ok xs (turn 199 b ts) y is in
    let taken = (turn_taken 199 b ts x read).0 in
    record {
      same =
          ap (ahead (joined xs)) (turn_read 199 b ts more ∙ ap (behind_turn 199 ts) read) ∙ ahead_ahead xs x.0.0 (from_here 199 x.0.1 x.1)
          ∙ ap (λ (l : Stmts). ahead (joined l) (from_here 199 x.0.1 x.1)) made ∙ ap (λ (d : Bool). ahead (joined y.0.0) (from_here 199 d x.1)) goes
          ∙ ap (λ (us : Tokens). ahead (joined y.0.0) (from_here 199 y.0.1 us)) rest;
      front = taken.0;
      parts = taken.1 ∙ ap (λ (us : Tokens). taken.0 ++ us) rest;
    }

pub turn_shorter : (b : Bool) (xs : Stmts) (ts : Tokens) (y : Turn × Tokens) → turned xs (turn 199 b ts) ≡ Ok y → length y.1 < length ts
turn_shorter b xs ts y is =
    let (x, read, made, goes, rest) = turned_ok xs (turn 199 b ts) y is in
    subst (λ (us : Tokens). length us < length ts) rest (turn_taken 199 b ts x read).1

pub turn_fails : (e e' : Stop) (b : Bool) (xs : Stmts) (ts : Tokens) → comes b ts ≡ true → told e' ≡ placed ts (told e) → Fails e (turned xs (turn 199 b ts)) → Fails e' (ahead (joined xs) (from_here 199 b ts))
turn_fails e e' b xs ts more at bad =
    let placed_bad = from_fails e e' ts (turn 199 b ts) at (turned_fails e xs (turn 199 b ts) bad) in
    let here : Fails e' (from_here 199 b ts) = whole_fails e' _ _ (turn_read 199 b ts more) (bind_fails e' _ _ placed_bad) in
    bind_fails e' _ _ here

-- the tokens that are left, by how many were taken
pub passes_dropped : {xs ys : Stmts} {b d : Bool} {ts us : Tokens} → Passes xs b ts ys d us → (n : ℕ) → n ≡ length ts - length us → Passes xs b ts ys d (drop n ts)
passes_dropped {xs} {ys} {b} {d} {ts} {us} p n is =
    let front = p.front in
    let parts : ts ≡ front ++ us = p.parts in
    let count : n ≡ length front = omega (arith, is, ap length parts, length-append front us) in
    let left : drop n ts ≡ us = ap (λ (k : ℕ). drop k ts) count ∙ ap (drop (length front)) parts ∙ drop-append_seam front us in
    subst (Passes xs b ts ys d) (sym left) p

-- ---- what is told of a script

pub fault_is : (e : Stop) (f : ParseFault) (o : Found Stmts) → line_told f ≡ option_map place_line (told e) → Fails e o → IsToldOf f o
fault_is e fault.Memory o same bad = tt
fault_is stop.Memory (fault.Syntax line) o same bad = absurd cc
fault_is (stop.Syntax p) (fault.Syntax line) o same bad = (option_map (λ ts. ts.now) p, bad, some_is same)

told_bind : (f : ParseFault) (o : Found Stmts) (g : Stmts × Tokens → Found Stmts) → IsToldOf f o → IsToldOf f (o >>> g)
told_bind fault.Memory o g t = tt
told_bind (fault.Syntax line) o g t = (t.0, rw t.1 refl, t.2)

-- what is told of turns is told of them behind what was read before
pub told_ahead : (f : ParseFault) (xs : Stmts) (o : Found Stmts) → IsToldOf f o → IsToldOf f (ahead (joined xs) o)
told_ahead f xs o t = told_bind f o (λ ys. Ok (joined xs ys.0, ys.1)) t

pub told_same : (f : ParseFault) (o p : Found Stmts) → o ≡ p → IsToldOf f p → IsToldOf f o
told_same f o p same t = subst (IsToldOf f) (sym same) t

-- the whole script, where no turn comes any more
pub script_ends : {xs : Stmts} {b : Bool} {ts us : Tokens} → Passes stmt_tree.no_stmts false ts xs b us → comes b us ≡ false → stmt_reading.program_at deep 199 ts ≡ stmt_reading.ended (first us) xs us
unfolding stmt_reading.program_at
script_ends {xs} {b} {ts} {us} p none =
    let answer : Stmts → Found Stmts = λ l. Ok (l, us) in
    let read : from_here 199 false ts ≡ Ok (xs, us) = sym (none_ahead (from_here 199 false ts)) ∙ p.same ∙ ap (ahead (joined xs)) (none_read 199 b us none) ∙ ap answer (joined_none xs) in
    ap (λ (o : Found Stmts). o >>> λ ys. stmt_reading.ended (first ys.1) ys.0 ys.1) read

pub script_refused : {xs : Stmts} {b : Bool} {ts us : Tokens} (f : ParseFault) → Passes stmt_tree.no_stmts false ts xs b us → IsToldOf f (ahead (joined xs) (from_here 199 b us)) → IsToldOf f (stmt_reading.program_at deep 199 ts)
unfolding stmt_reading.program_at
script_refused {xs} {b} {ts} {us} f p t =
    let begun : IsToldOf f (from_here 199 false ts) = told_same f (from_here 199 false ts) (ahead (joined xs) (from_here 199 b us)) (sym (none_ahead (from_here 199 false ts)) ∙ p.same) t in
    told_bind f (from_here 199 false ts) (λ ys. stmt_reading.ended (first ys.1) ys.0 ys.1) begun
