-- Numbers: `len`, `abs`, and `int` of a text (Python Standard Library, Built-in Functions). The definitions are over whole numbers of any size, of which
-- the result is tested in the end; the code counts in 64 bits.
use Rattle.std.specs.Prelude.{ℕ, ℤ, pos, ◌+◌, ◌-◌, ◌*◌, ◌==◌, neg_ℤ, unsigned_abs, nat_le, ◌&&◌, List, [], ◌∷◌, Option, Some, None, encode_utf8_all, if◌then◌else◌}
use Rattle.std.specs.Option.{option_map, option_map_or}
use Rattle.rp_base.specs.declared.value.Rock.TheVariants as rock
use Rattle.rp_base.specs.declared.value.Value.{Value}
use Rattle.rp_base.specs.declared.value.Value.TheVariants as value
use Rattle.rp_ops.specs.Binary.{number_value}
use Rattle.rp_ops.specs.Keys.{index_number}
use Rattle.rp_ops.specs.Numbers.{fitted}
pub use Rattle.rp_ops.specs.Operand.{length_of}
use Rattle.rp_ops.specs.Outcome.{State, Outcome}
use Rattle.rp_native.specs.Faults.{fails}
use Rattle.rp_native.specs.declared.fault.Fault.{Fault}
use Rattle.rp_native.specs.declared.fault.Fault.TheVariants as fault

-- a number as a value, where it has 64 bits
abbrev pub number_given : ℤ → State → Outcome Value
number_given z s = number_value (fitted z) s

-- the number, where there is one, or the exception
abbrev pub number_found : Fault → Option ℤ → State → Outcome Value
number_found fault (Some z) s = number_given z s
number_found fault None s = fails fault s

-- `len(v)`, where v is no instance whose class has `__len__`
abbrev pub len : Value → State → Outcome Value
len v s = number_found fault.Length (option_map (λ n. pos n) (length_of s.store.heap v)) s

-- `abs(v)`
abbrev pub abs : Value → State → Outcome Value
abs v s = number_found fault.Argument (option_map (λ z. pos (unsigned_abs z)) (index_number v)) s

-- the number of an ASCII digit
abbrev pub digit : ℕ → Option ℕ
digit c = if nat_le 48 c && nat_le c 57 then Some (c - 48) else None

-- the number that digits spell behind those of another; none where one is no digit
abbrev pub digits_behind : ℕ → List ℕ → Option ℕ
digits_behind n [] = Some n
digits_behind n (c ∷ cs) = option_map_or (λ d. digits_behind (n * 10 + d) cs) (digit c) None

-- one digit or more
abbrev pub digits : List ℕ → Option ℕ
digits [] = None
digits (c ∷ cs) = digits_behind 0 (c ∷ cs)

-- digits behind a sign: 45 is `-`, 43 is `+`
abbrev pub signed : ℕ → List ℕ → Option ℤ
signed c cs =
    if c == 45 then option_map (λ n. neg_ℤ (pos n)) (digits cs)
    else if c == 43 then option_map (λ n. pos n) (digits cs)
    else option_map (λ n. pos n) (digits (c ∷ cs))

-- the number that the bytes of a text spell: ASCII digits, with a sign before them or none
abbrev pub spelled : List ℕ → Option ℤ
spelled [] = None
spelled (c ∷ cs) = signed c cs

-- `int(v)`
abbrev pub int : Value → State → Outcome Value
int (value.Rock (rock.Text t)) s = number_found fault.Digits (spelled (encode_utf8_all t)) s
int v s = number_found fault.Argument (index_number v) s
