-- What is said of the permissions of principals.
use Rattle.std.proofs.Common.{◌≡◌, ◌<◌, ◌≤◌, ◌+◌, ℕ, Bool, true, false, List, [], ◌∷◌, ◌++◌, length, take, codes}
use Rattle.std.proofs.Common.{flat_map, Option, Some, None, option_map, option_and_then, slice_get, position, nat_lt}
use Rattle.std.proofs.Common.{ap, sym, ◌∙◌, refl, arith, append-nil, append_assoc, take_all, if◌then◌else◌, ⊎_elim}
use Rattle.std.proofs.lemmas.Bool.{cases_Bool, ltb-false}
use Rattle.std.proofs.lemmas.Grind.{flat_map-append}
use Rattle.std.proofs.lemmas.List.{take_more}
use Rattle.std.proofs.lemmas.List.Folds.{list_any_at}
use Rattle.std.proofs.lemmas.List.Quantifiers.{position-Some}
use Rattle.std.proofs.lemmas.Option.{none-some, get_or_from_slice_get, slice_get_within}
use Rattle.std.specs.List.{list_any, position_or_len}
use Rattle.std.specs.Option.{option_map_or}
use Rattle.rp_base.specs.Same.{same_text}
use Rattle.rp_base.proofs.CallerLemmas.{same_text-equal}
use Rattle.rp_decl.specs.Records.{Declarations}
use Rattle.rp_decl.specs.View.{Placed, declarations_view, perm_text, text_at}
use Rattle.rp_decl.specs.Word.{is_among}
use Rattle.rp_decl.specs.declared.records.Perm.{Perm}
use Rattle.rp_interact.specs.Answers.{AnswersAs, reason_view, why_at}
use Rattle.rp_interact.specs.Interacting.{Interacting, has_in, is_yes as is_yes_placed}
use Rattle.rp_interact.specs.Why.{has_all, is_yes, why_of}
use Rattle.rp_interact.specs.declared.reason.Reason.{Reason}
use Rattle.rp_interact.specs.declared.reason.Reason.TheVariants.{Public, Own, Role, Group, GroupRole, Nothing}
use Rattle.rp_run.specs.Output.{may_status, may_text, principal_line, reason_line, yes_or_no}

-- ---- the place of a permission

passes_none : (p : List ℕ → Bool) (xs : List (List ℕ)) → length xs ≤ position_or_len p xs → list_any p xs ≡ false
passes_none p [] past = refl
passes_none p (x ∷ xs) past =
    ⊎_elim (λ t. absurd (let none = rw t at past in omega (arith, none)))
    (λ f. let rest = rw f at past in rw f (passes_none p xs (omega (arith, rest)))) (cases_Bool (p x))

-- a text that has no place is not among these
pub among-None : (texts : List (List ℕ)) (text : List ℕ) → position (same_text text) texts ≡ None
    → is_among texts text ≡ false
among-None texts text none =
    ⊎_elim (λ t. absurd (none-some (position_or_len (same_text text) texts) (sym none ∙ rw t refl)))
    (λ f. passes_none (same_text text) texts (ltb-false _ _ f))
    (cases_Bool (nat_lt (position_or_len (same_text text) texts) (length texts)))

-- a text that has one is, and is the text there
pub record HasPlace (texts : List (List ℕ)) (text : List ℕ) (k : ℕ) : Type 0 where
  pub among : is_among texts text ≡ true
  pub within : k < length texts
  pub there : text_at texts k ≡ text

pub among-Some : (texts : List (List ℕ)) (text : List ℕ) (k : ℕ) → position (same_text text) texts ≡ Some k
    → HasPlace texts text k
among-Some texts text k some =
    let found = position-Some (same_text text) texts k [] some in
    record {
      among = list_any_at (same_text text) texts k [] found.0 found.1;
      within = found.0;
      there = sym (same_text-equal text (text_at texts k) found.1);
    }

-- ---- reasons

pub is_yes-view : (d : Placed) (r : Reason) → is_yes (reason_view d r) ≡ is_yes_placed r
is_yes-view d Public = refl
is_yes-view d (Own allowed) = refl
is_yes-view d (Role r) = refl
is_yes-view d (Group g allowed) = refl
is_yes-view d (GroupRole g r) = refl
is_yes-view d Nothing = refl

-- the line of the principal at a place
pub line_at : (names : List (List ℕ)) (d : Placed) (i : Interacting) (k : ℕ) (permission : Perm) (reason : Reason)
    (id : List ℕ)
    → AnswersAs names d i → permission.0 < length d.permissions → why_at i k permission ≡ Some reason
    → slice_get i.ids k ≡ Some id
    → principal_line (declarations_view names d) (perm_text d.permissions permission) id ≡ reason_line id
    (reason_view d reason)
line_at names d i k permission reason id answers below why here =
    let said : Some (reason_view d reason) ≡ why_of (declarations_view names d) id
    (perm_text d.permissions permission) =
    ap (option_map (reason_view d)) (sym why)
    ∙ (answers.why k permission below
    ∙ ap (option_and_then (λ id. why_of (declarations_view names d) id (perm_text d.permissions permission))) here)
    in
    ap (λ r. option_map_or (reason_line id) r []) (sym said)

-- the lines of one more principal
pub lines_more : (f : List ℕ → List ℕ) (ids : List (List ℕ)) (k : ℕ) (id old line new : List ℕ)
    → slice_get ids k ≡ Some id → old ≡ flat_map f (take k ids) → f id ≡ line
    → new ≡ old ++ line → new ≡ flat_map f (take (k + 1) ids)
lines_more f ids k id old line new here so is_line more =
    let more_ids : take (k + 1) ids ≡ take k ids ++ id ∷ [] =
    take_more ids k [] (slice_get_within ids k id here)
    ∙ ap (λ x. take k ids ++ x ∷ []) (get_or_from_slice_get ids k id [] here) in
    more ∙ ((λ i. so i ++ sym is_line i)
    ∙ (ap (λ tail. flat_map f (take k ids) ++ tail) (sym (append-nil (f id)))
    ∙ (sym (flat_map-append f (take k ids) (id ∷ [])) ∙ ap (flat_map f) (sym more_ids))))

last_line : (a b c d : List ℕ) → a ++ (b ++ c ++ d) ≡ a ++ b ++ c ++ d
last_line a b c d = simp append_assoc

-- the whole text, with the last line
pub whole_text : (d : Declarations) (ids : List (List ℕ)) (permission : List ℕ) (k : ℕ) (grant : Bool)
    (old new : List ℕ)
    → length ids ≤ k → old ≡ flat_map (principal_line d permission) (take k ids) → has_all d ids permission ≡ grant
    → new ≡ old ++ (codes "may " ++ yes_or_no grant ++ codes "\n") → new ≡ may_text d ids permission
whole_text d ids permission k grant old new past so has more =
    more ∙ ((λ i. (so ∙ ap (flat_map (principal_line d permission)) (take_all k ids past)) i
    ++ (codes "may " ++ yes_or_no (sym has i) ++ codes "\n"))
    ∙ last_line (flat_map (principal_line d permission) ids) (codes "may ") (yes_or_no (has_all d ids permission))
    (codes "\n"))

pub whole_status : (d : Declarations) (ids : List (List ℕ)) (permission : List ℕ) (grant : Bool) (status : ℕ)
    → has_all d ids permission ≡ grant → status ≡ (if grant then 0 else 1) → status ≡ may_status d ids permission
whole_status d ids permission grant status has ends = ends ∙ ap (λ b. if b then 0 else 1) (sym has)
