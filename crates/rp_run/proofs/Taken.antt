-- How far a file is read.
use Rattle.std.proofs.Common.{◌≡◌, ℕ, List, [], ◌++◌, arith, length, take, drop, Option, Some, None, option_map, IfSome}
use Rattle.std.proofs.Common.{Result, Ok, Err, IfOk, Vec, Global, ap, subst, sym, ◌∙◌, refl, append_assoc, append-nil}
use Rattle.std.proofs.Common.{length-append}
use Rattle.std.proofs.lemmas.List.{take-append-drop}
use Rattle.std.proofs.lemmas.Option.{MatchOption-at_some}
use Rattle.rp_base.specs.Reading.{ReadsFront}
use Rattle.rp_run.specs.declared.reading.Contents.{Contents}
use Rattle.rp_run.specs.declared.reading.Contents.TheVariants.{Whole, TooLong}
use Rattle.rp_run.specs.declared.stop.Stop.{Stop}
use Rattle.rp_run.specs.Contents.{Holds}
use Rattle.rp_run.specs.Told.{IsShort, IsTooLong}

-- a front of the file is taken, and the rest of it is left
abbrev pub HasTaken : List ℕ → Option (List ℕ) → List ℕ → Type 0
HasTaken taken rest file = (left : List ℕ) × ((rest ≡ Some left) × (taken ++ left ≡ file))

-- before the first read
pub taken_none : (rest : Option (List ℕ)) → IfSome rest (HasTaken [] rest)
taken_none None = tt
taken_none (Some left) = (left, (refl, refl))

-- a read takes the front of what was left
pub taken_front : (n : ℕ) (taken buffer : List ℕ) (file rest after : Option (List ℕ))
    → IfSome file (HasTaken taken rest)
    → IfSome rest (λ bytes. ReadsFront n bytes buffer after) → IfSome file (HasTaken (taken ++ take n buffer) after)
taken_front n taken buffer None rest after told reads = tt
taken_front n taken buffer (Some file) rest after (left, parts) reads =
    let front : ReadsFront n left buffer after = MatchOption-at_some _ _ left parts.0 reads in (
      drop n left,
      (
        front.rest,
        append_assoc taken (take n buffer) (drop n left)
            ∙ (ap (λ piece. taken ++ (piece ++ drop n left)) front.front
            ∙ (ap (λ whole. taken ++ whole) (take-append-drop n left) ∙ parts.1)),
      ),
    )

-- where a read answers that nothing is left, the file is held whole
pub taken_whole : (n : ℕ) (bytes : Vec ℕ Global) (buffer : List ℕ) (file rest after : Option (List ℕ)) → n ≡ 0
    → IsShort bytes.items
    → IfSome file (HasTaken bytes.items rest) → IfSome rest (λ left. ReadsFront n left buffer after)
    → IfSome file (Holds (Whole bytes))
taken_whole n bytes buffer None rest after none short told reads = tt
taken_whole n bytes buffer (Some file) rest after none short (left, parts) reads =
    let front : ReadsFront n left buffer after = MatchOption-at_some _ _ left parts.0 reads in
    let all : bytes.items ≡ file = sym (append-nil bytes.items)
    ∙ (ap (λ piece. bytes.items ++ piece) (sym (front.ended none)) ∙ parts.1) in
    (all, subst IsShort all short)

-- no more is taken than there is
pub taken_too_long : (taken : List ℕ) (file rest : Option (List ℕ)) → IsTooLong taken
    → IfSome file (HasTaken taken rest) → IfSome file (Holds TooLong)
taken_too_long taken None rest long told = tt
taken_too_long taken (Some file) rest long (left, parts) = omega (arith, length-append taken left, ap length parts.1)

-- what is left of a file that was just begun is its contents
pub told_at_path : (r : Result Contents Stop) (contents : Option (List ℕ → List ℕ)) (rest : Option (List ℕ))
    (path : List ℕ)
    → rest ≡ option_map (λ of. of path) contents → IfOk r (λ held. IfSome rest (Holds held))
    → IfOk r (λ held. IfSome contents (λ of. Holds held (of path)))
told_at_path (Err stop) contents rest path at_path told = tt
told_at_path (Ok held) None rest path at_path told = tt
told_at_path (Ok held) (Some of) rest path at_path told = MatchOption-at_some _ (Holds held) (of path) at_path told
