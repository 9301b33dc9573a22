-- `getattr` and `setattr`, as the code has functions for them; each is a part of a call of rp_meaning (Python Standard Library, Built-in Functions;
-- RestrictedPython, attribute policy).
use Rattle.std.specs.Prelude.{◌≡◌, ℕ, List, Option, Some, None, Result}
use Rattle.rp_base.specs.declared.kind.Kind.TheVariants.{ForbiddenAttribute}
use Rattle.rp_base.specs.declared.native.NativeId.{NativeId}
use Rattle.rp_base.specs.declared.value.Name.{Name}
use Rattle.rp_base.specs.declared.value.OpEnd.{OpEnd}
use Rattle.rp_base.specs.declared.value.Rock.TheVariants as rock
use Rattle.rp_base.specs.declared.value.Side.{Side}
use Rattle.rp_base.specs.declared.value.Value.{Value}
use Rattle.rp_base.specs.declared.value.Value.TheVariants as value
use Rattle.rp_meaning.specs.BuiltIn.{function, getattr, name_of, setattr, with_name, wrong_argument}
use Rattle.rp_meaning.specs.Frame.{Frame}
use Rattle.rp_meaning.specs.State.{State, Outcome, choose, heap_of}
use Rattle.rp_ops.specs.Outcome.{gives, on_value, raises}
use Rattle.rp_policy.specs.Forbidden.{is_forbidden_attribute}
use Rattle.rp_proxy.specs.Taken.{taken}
use Rattle.rp_proxy.specs.declared.world.World.{World}
use Rattle.rp_access.specs.Comes.{Comes}
use Rattle.rp_access.specs.Moment.{decided_frame, state_of}
use Rattle.rp_access.specs.Natives.{is_attribute_word}

-- the name of a word, which is put among the names; none of a word that is no identifier
abbrev pub word_named : List ℕ → State → Outcome (Option Name)
word_named word s = choose (is_attribute_word word)
    (λ s. choose (is_forbidden_attribute word) (raises ForbiddenAttribute word) (λ s. gives (Some (name_of s.names word)) s) (with_name word s))
    (gives None) s

-- the same of a value, which has to be a text

abbrev pub text_in : Value → Option (List ℕ)
text_in (value.Rock (rock.Text word)) = Some word
text_in _ = None

abbrev pub text_named : Option (List ℕ) → State → Outcome (Option Name)
text_named (Some word) s = word_named word s
text_named None s = wrong_argument s

abbrev pub value_named : Value → State → Outcome (Option Name)
value_named v s = text_named (text_in v) s

-- the read and the store by a word, as code of a side has them

abbrev pub ReadComes : Side → Value → Value → Option Value → Result Value OpEnd → World → World → Type 0
ReadComes side o word default r old new = (frame : Frame) → frame.side ≡ side
    → Comes r (state_of new) (getattr o word default (decided_frame frame) (state_of old))

abbrev pub StoreComes : Value → Value → Value → Result Value OpEnd → World → World → Type 0
StoreComes o word v r old new = (frame : Frame) → Comes r (state_of new) (setattr o word v (decided_frame frame) (state_of old))

-- a function that stands for a form of the language, before its value is taken and then
abbrev pub FormComes : Side → NativeId → List Value → Result Value OpEnd → World → World → Type 0
FormComes side id vs r old new = (frame : Frame) → frame.side ≡ side → Comes r (state_of new) (function id vs (decided_frame frame) (state_of old))

abbrev pub FormTaken : Side → NativeId → List Value → Result Value OpEnd → World → World → Type 0
FormTaken side id vs r old new = (frame : Frame) → frame.side ≡ side
    → Comes r (state_of new) (on_value (function id vs (decided_frame frame) (state_of old)) (λ v s. gives (taken (heap_of s) side v) s))
