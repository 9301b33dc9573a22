-- A fault within what is read is a fault of the whole.
use Rattle.std.proofs.Common.{◌≡◌, Option, Some, None, Ok, Err, option_map, refl, ap, ◌∙◌}
use Rattle.rp_grammar.proofs.Basics.{some_is}
use Rattle.rp_grammar.specs.Kinds.{Tokens}
use Rattle.rp_grammar.specs.StatementReading.{Found, ◌>>>◌, from, hidden}
use Rattle.rp_parse.specs.Gives.{Fails, ahead, told, placed, unplaced}
use Rattle.rp_parse.specs.declared.fault.Stop.{Stop}
use Rattle.rp_parse.specs.declared.fault.Stop.TheVariants as stop

pub bind_fails : {A B : Type 0} (e : Stop) (o : Found A) (f : A × Tokens → Found B) → Fails e o → Fails e (o >>> f)
bind_fails stop.Memory o f bad = tt
bind_fails (stop.Syntax p) o f bad = rw bad refl

pub whole_fails : {A : Type 0} (e : Stop) (whole o : Found A) → whole ≡ o → Fails e o → Fails e whole
whole_fails e whole o same bad = rw same bad

pub ahead_fails : {L : Type 0} (e : Stop) (items : L → L) (o : Found L) → Fails e (ahead items o) → Fails e o
ahead_fails stop.Memory items o bad = tt
ahead_fails (stop.Syntax p) items (Ok x) bad = absurd cc
ahead_fails (stop.Syntax p) items (Err q) bad = bad

placed_is : {A : Type 0} (q q' : Option Tokens) (ts : Tokens) → Some q' ≡ placed ts (Some q) → from {A = A} ts (Err q) ≡ Err q'
placed_is None q' ts same = cc
placed_is (Some q) q' ts same = cc

pub from_fails : {A : Type 0} (e e' : Stop) (ts : Tokens) (o : Found A) → told e' ≡ placed ts (told e) → Fails e o → Fails e' (from ts o)
from_fails e stop.Memory ts o same bad = tt
from_fails stop.Memory (stop.Syntax p') ts o same bad = absurd cc
from_fails (stop.Syntax p) (stop.Syntax p') ts o same bad = rw bad (placed_is (option_map (λ ts. ts.now) p) (option_map (λ ts. ts.now) p') ts same)

pub hidden_fails : {A : Type 0} (e e' : Stop) (o : Found A) → told e' ≡ unplaced (told e) → Fails e o → Fails e' (hidden o)
hidden_fails e stop.Memory o same bad = tt
hidden_fails stop.Memory (stop.Syntax p') o same bad = absurd cc
hidden_fails {A} (stop.Syntax p) (stop.Syntax p') o same bad = rw bad (unplaced_is (option_map (λ ts. ts.now) p) (option_map (λ ts. ts.now) p') same)
  where
    unplaced_is : (q q' : Option Tokens) → Some q' ≡ unplaced (Some q) → hidden {A = A} (Err q) ≡ Err q'
    unplaced_is q q' same = cc

-- what was read behind some items
pub ahead_ok : {L : Type 0} (items : L → L) (o : Found L) (y : L × Tokens) → ahead items o ≡ Ok y → (x : L × Tokens) × (o ≡ Ok x) × (items x.0 ≡ y.0) × (x.1 ≡ y.1)
ahead_ok items (Ok x) y h = (x, refl, cc, cc)
ahead_ok items (Err q) y h = absurd cc

-- nothing was read, and this is the place that was told
pub told_is : {A : Type 0} (e : Stop) (q : Option Tokens) (o : Found A) → told e ≡ Some q → Fails e o → o ≡ Err q
told_is stop.Memory q o same bad = absurd cc
told_is {A} (stop.Syntax p) q o same bad = let answer : Option Tokens → Found A = λ q. Err q in bad ∙ ap answer (some_is same)
