-- What the matches of `run` and `may` give, part by part, and the first part that is missing.
use Rattle.std.proofs.Common.{◌≡◌, ◌&&◌, Bool, true, false, ℕ, List, [], length, chars, codes, if◌then◌else◌}
use Rattle.std.proofs.Common.{Option, Some, None, Bor, option_and_then, option_map, unwrap_or, ap, sym, refl, ◌∙◌}
use Rattle.clap.specs.Walk.{Row, all_of, first_of}
use Rattle.rp_decl.specs.Word.{is_id}
use Rattle.rp_words.specs.Command.{Pair, Run, May, ids_of, is_on, is_who, limit_of, pairs_of, turns_of}

-- what a reader answers, as the definition has it
pub found : {A B : Type 0} (view : A → B) (o : Option A) (p : Option B) (x : A)
    → option_map view o ≡ p → o ≡ Some x → p ≡ Some (view x)
found view o p x same some = sym same ∙ ap (option_map view) some

pub missing : {A B : Type 0} (view : A → B) (o : Option A) (p : Option B) → option_map view o ≡ p → o ≡ None → p ≡ None
missing view o p same none = sym same ∙ ap (option_map view) none

abbrev pub text : Bor (List ℕ) → List ℕ
text v = v.now

abbrev pub run_with : List ℕ → List Pair → ℕ → ℕ → List ℕ → Bool → Run
run_with declarations pairs steps cells turns trail = record {
  declarations = declarations;
  pairs = pairs;
  steps = steps;
  cells = cells;
  turns = turns;
  trail = trail;
}

-- what each part of `run` is read to
pub record RunParts : Type 0 where
  pub declarations : Option (List ℕ)
  pub pairs : Option (List Pair)
  pub steps : Option ℕ
  pub cells : Option ℕ
  pub turns : ℕ → Option (List ℕ)
  pub trail : Bool

abbrev pub run_parts : List Row → RunParts
run_parts rows = record {
  declarations = first_of (codes "declarations") rows;
  pairs = pairs_of (unwrap_or (all_of (codes "pairs") rows) []);
  steps = limit_of 100000000 (first_of (codes "steps") rows);
  cells = limit_of 8000000 (first_of (codes "cells") rows);
  turns = λ pairs. turns_of pairs (first_of (codes "turns") rows);
  trail = is_on (first_of (codes "trail") rows);
}

abbrev pub run_from : RunParts → Option Run
run_from parts =
    option_and_then (λ d. option_and_then (λ p. option_and_then (λ s. option_and_then (λ c.
    option_and_then (λ t. Some (run_with (chars d) p s c t parts.trail)) (parts.turns (length p)))
    parts.cells) parts.steps) parts.pairs) parts.declarations

module _ (parts : RunParts) where
  abbrev Missing : Type 0
  Missing = None ≡ run_from parts

  pub no_declarations : parts.declarations ≡ None → Missing
  no_declarations none = rw none refl

  module _ (d : List ℕ) (is_d : parts.declarations ≡ Some d) where
    pub no_pairs : parts.pairs ≡ None → Missing
    no_pairs none = rw (is_d, none) refl

    module _ (p : List Pair) (is_p : parts.pairs ≡ Some p) where
      pub no_steps : parts.steps ≡ None → Missing
      no_steps none = rw (is_d, is_p, none) refl

      module _ (s : ℕ) (is_s : parts.steps ≡ Some s) where
        pub no_cells : parts.cells ≡ None → Missing
        no_cells none = rw (is_d, is_p, is_s, none) refl

        module _ (c : ℕ) (is_c : parts.cells ≡ Some c) where
          pub no_turns : parts.turns (length p) ≡ None → Missing
          no_turns none = rw (is_d, is_p, is_s, is_c) (rw none refl)

          pub whole_run : (t : List ℕ) → parts.turns (length p) ≡ Some t
              → Some (run_with (chars d) p s c t parts.trail) ≡ run_from parts
          whole_run t is_t = rw (is_d, is_p, is_s, is_c) (rw is_t refl)

abbrev pub may_with : List ℕ → List (List ℕ) → List ℕ → May
may_with declarations ids permission = record { declarations = declarations; ids = ids; permission = permission }

-- what each part of `may` is read to
pub record MayParts : Type 0 where
  pub declarations : Option (List ℕ)
  pub who : Option (List ℕ)
  pub permission : Option (List ℕ)

abbrev pub may_parts : List Row → MayParts
may_parts rows = record {
  declarations = first_of (codes "declarations") rows;
  who = first_of (codes "who") rows;
  permission = first_of (codes "permission") rows;
}

abbrev pub may_of_words : List ℕ → List ℕ → List ℕ → Bool → Option May
may_of_words d w p are_ids = if are_ids then Some (may_with (chars d) (ids_of w) (chars p)) else None

abbrev pub may_from : MayParts → Option May
may_from parts =
    option_and_then (λ d. option_and_then (λ w. option_and_then (λ p. may_of_words d w p (is_who w && is_id (chars p)))
    parts.permission) parts.who) parts.declarations

-- ids that were read, where a word joins ids
ids_read : (joins : Bool) (ids : List (List ℕ)) (read : List (List ℕ))
    → Some read ≡ (if joins then Some ids else None) → (joins ≡ true) × (read ≡ ids)
ids_read true ids read same = (refl, cc)
ids_read false ids read same = absurd (cc)

ids_refused : (joins : Bool) (ids : List (List ℕ)) → None ≡ (if joins then Some ids else None) → joins ≡ false
ids_refused true ids same = absurd (cc)
ids_refused false ids same = refl

pub joined : {A : Type 0} (view : A → List (List ℕ)) (o : Option A) (x : A) (joins : Bool) (ids : List (List ℕ))
    → option_map view o ≡ (if joins then Some ids else None) → o ≡ Some x → (joins ≡ true) × (view x ≡ ids)
joined view o x joins ids same some =
    ids_read joins ids (view x) (sym (found view o (if joins then Some ids else None) x same some))

pub not_joined : {A : Type 0} (view : A → List (List ℕ)) (o : Option A) (joins : Bool) (ids : List (List ℕ))
    → option_map view o ≡ (if joins then Some ids else None) → o ≡ None → joins ≡ false
not_joined view o joins ids same none =
    ids_refused joins ids (sym (missing view o (if joins then Some ids else None) same none))

module _ (parts : MayParts) where
  abbrev MayMissing : Type 0
  MayMissing = None ≡ may_from parts

  pub may-no_declarations : parts.declarations ≡ None → MayMissing
  may-no_declarations none = rw none refl

  module _ (d : List ℕ) (is_d : parts.declarations ≡ Some d) where
    pub may-no_who : parts.who ≡ None → MayMissing
    may-no_who none = rw (is_d, none) refl

    module _ (w : List ℕ) (is_w : parts.who ≡ Some w) where
      pub may-no_permission : parts.permission ≡ None → MayMissing
      may-no_permission none = rw (is_d, is_w, none) refl

      module _ (p : List ℕ) (is_p : parts.permission ≡ Some p) where
        pub may-no_ids : is_who w ≡ false → MayMissing
        may-no_ids none =
            rw (is_d, is_w, is_p) (ap (λ b. may_of_words d w p (b && is_id (chars p))) (sym none))

        pub may-no_id : is_who w ≡ true → is_id (chars p) ≡ false → MayMissing
        may-no_id joins none =
            let both : (is_who w && is_id (chars p)) ≡ false = ap (λ b. b && is_id (chars p)) joins ∙ none in
            rw (is_d, is_w, is_p) (ap (may_of_words d w p) (sym both))

        pub whole_may : is_who w ≡ true → is_id (chars p) ≡ true
            → Some (may_with (chars d) (ids_of w) (chars p)) ≡ may_from parts
        whole_may joins one =
            let both : (is_who w && is_id (chars p)) ≡ true = ap (λ b. b && is_id (chars p)) joins ∙ one in
            rw (is_d, is_w, is_p) (ap (may_of_words d w p) (sym both))
