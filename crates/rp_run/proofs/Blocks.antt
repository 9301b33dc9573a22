-- How sessions that have ended are told.
use Rattle.std.proofs.Common.{◌≡◌, ◌+◌, ◌<◌, ◌≤◌, ℕ, suc, nat_eq, Bool, true, false, List, [], ◌∷◌, ◌++◌, length}
use Rattle.std.proofs.Common.{get_or, map, drop, if◌then◌else◌, Option, Some, None, refl, sym, ap, subst, ◌∙◌, arith}
use Rattle.std.proofs.Common.{append-nil, append_assoc, ◌||◌, option_map, Result, Ok, Err, OnOk}
use Rattle.std.specs.List.{All, list_any}
use Rattle.std.specs.Option.{IsSome}
use Rattle.std.proofs.lemmas.List.{drop-map, drop_all, drop_more, length-map}
use Rattle.std.proofs.lemmas.List.Elements.{All-head, All-tail}
use Rattle.std.proofs.Math.Numerals.{add-one}
use Rattle.rp_base.specs.declared.memory.Memory.{Memory as MemoryFault}
use Rattle.rp_meaning.specs.Sessions as meant
use Rattle.rp_meaning.specs.Sessions.{well}
use Rattle.rp_meaning.specs.Unmonitored.{told_of}
use Rattle.rp_session.specs.View.{end_view, session_view}
use Rattle.rp_session.specs.declared.session.Session.{Session}
use Rattle.rp_session.specs.declared.session_end.SessionEnd.{SessionEnd as PlacedEnd}
use Rattle.rp_run.specs.Output.{Finished, as_told, end_status, run_status, run_text, session_block, session_blocks}
use Rattle.rp_run.specs.Output.{some_ends, trail_text}
use Rattle.rp_run.specs.Steps.{ends_so}
use Rattle.rp_trail.specs.Entry.{Entry}
use Rattle.rp_words.specs.Command.{Pair, Run}
use Rattle.rp_words.specs.View.{pair_view}
use Rattle.rp_words.specs.declared.command.Pair.{Pair as PlacedPair}

-- what is told of sessions is what they came to
abbrev pub AreToldSo : List Finished → List Session → Type 0
AreToldSo all sessions = map as_told all ≡ map told_of (map session_view sessions)

as_many : (all : List Finished) (sessions : List Session) → AreToldSo all sessions → length all ≡ length sessions
as_many all sessions told =
    sym (length-map all as_told) ∙ ap length told ∙ length-map (map session_view sessions) told_of
    ∙ length-map sessions session_view

-- what is told of the first
pub told_first : (f : Finished) (fs : List Finished) (s : Session) (ss : List Session) → AreToldSo (f ∷ fs) (s ∷ ss)
    → as_told f ≡ told_of (session_view s)
told_first f fs s ss told = head told where
  head : {A : Type 0} {x y : A} {xs ys : List A} → x ∷ xs ≡ y ∷ ys → x ≡ y
  head e = cc

-- what is left of both
told_drop : (i : ℕ) (all : List Finished) (sessions : List Session) → AreToldSo all sessions
    → AreToldSo (drop i all) (drop i sessions)
told_drop i all sessions told =
    sym (drop-map as_told i all) ∙ ap (drop i) told ∙ drop-map told_of i (map session_view sessions)
    ∙ ap (map told_of) (drop-map session_view i sessions)

-- ---- blocks

nobody : Finished
nobody = (well, [])

block_step : (old new : List ℕ) (k : ℕ) (p : Pair) (ps : List Pair) (f : Finished) (fs : List Finished) (whole : List ℕ)
    → new ≡ old ++ session_block k p.who f.1 f.0 → old ++ session_blocks k (p ∷ ps) (f ∷ fs) ≡ whole → new
    ++ session_blocks (k + 1) ps fs ≡ whole
block_step old new k p ps f fs whole more before =
    ap (λ (n : ℕ). new ++ session_blocks n ps fs) (add-one k)
    ∙ ap (λ (t : List ℕ). t ++ session_blocks (suc k) ps fs) more
    ∙ append_assoc old (session_block k p.who f.1 f.0) (session_blocks (suc k) ps fs) ∙ before

module _ (pairs : List PlacedPair) (sessions : List Session) (all : List Finished) (i : ℕ) where
  pub block-turn : (p : PlacedPair) (s : Session) (old new whole : List ℕ) → i < length pairs
      → length pairs ≡ length sessions → p ≡ get_or pairs i p → s ≡ get_or sessions i s → AreToldSo all sessions
      → ((f : Finished) → as_told f ≡ told_of (session_view s) → new ≡ old ++ session_block (i + 1) p.who f.1 f.0)
      → old ++ session_blocks (i + 1) (map pair_view (drop i pairs)) (drop i all) ≡ whole
      → new ++ session_blocks ((i + 1) + 1) (map pair_view (drop (i + 1) pairs)) (drop (i + 1) all) ≡ whole
  block-turn p s old new whole inside same p_is s_is told more before =
      let f : Finished = get_or all i nobody in
      let many : length all ≡ length sessions = as_many all sessions told in
      let in_all : i < length all = omega (arith, inside, same, many) in
      let in_sessions : i < length sessions = omega (arith, inside, same) in
      let here : drop i all ≡ f ∷ drop (i + 1) all = drop_more all i nobody in_all in
      let there : drop i sessions ≡ s ∷ drop (i + 1) sessions = drop_more sessions i s in_sessions
      ∙ ap (λ (x : Session). x ∷ drop (i + 1) sessions) (sym s_is) in
      let left : drop i pairs ≡ p ∷ drop (i + 1) pairs = drop_more pairs i p inside
      ∙ ap (λ (x : PlacedPair). x ∷ drop (i + 1) pairs) (sym p_is) in
      let its : as_told f ≡ told_of (session_view s) =
      told_first f (drop (i + 1) all) s (drop (i + 1) sessions)
      (rest_told f s (drop i all) (drop i sessions) here there (told_drop i all sessions told)) in
      let cut : session_blocks (i + 1) (map pair_view (drop i pairs)) (drop i all)
      ≡ session_blocks (i + 1) (pair_view p ∷ map pair_view (drop (i + 1) pairs)) (f ∷ drop (i + 1) all) =
      λ k. session_blocks (i + 1) (map pair_view (left k)) (here k) in
      block_step old new (i + 1) (pair_view p) (map pair_view (drop (i + 1) pairs)) f (drop (i + 1) all) whole
      (more f its) (ap (λ (t : List ℕ). old ++ t) (sym cut) ∙ before)
    where
      rest_told : (f : Finished) (s : Session) (fs : List Finished) (ss : List Session) → fs ≡ f ∷ drop (i + 1) all
          → ss ≡ s ∷ drop (i + 1) sessions → AreToldSo fs ss
          → AreToldSo (f ∷ drop (i + 1) all) (s ∷ drop (i + 1) sessions)
      rest_told f s fs ss a b told =
          subst (λ (fs : List Finished). AreToldSo fs (s ∷ drop (i + 1) sessions)) a
          (subst (λ (ss : List Session). AreToldSo fs ss) b told)

  pub block-end : (text whole : List ℕ) → length pairs ≤ i → text
      ++ session_blocks (i + 1) (map pair_view (drop i pairs)) (drop i all) ≡ whole → text ≡ whole
  block-end text whole past before =
      sym (append-nil text)
      ∙ ap (λ (t : List ℕ). text
      ++ t)
      (sym (ap (λ (ps : List PlacedPair). session_blocks (i + 1) (map pair_view ps) (drop i all))
      (drop_all i pairs past))) ∙ before

-- the block of a session, piece by piece
pub block-written : (result : Result (Unit {0}) MemoryFault) (old a b c d e f g t u v w x y new : List ℕ)
    → t ≡ old ++ a → u ≡ t ++ b → v ≡ u ++ c → w ≡ v ++ d → x ≡ w ++ e → y ≡ x ++ f → OnOk result (new ≡ y ++ g)
    → OnOk result (new ≡ old ++ (a ++ b ++ c ++ d ++ e ++ f ++ g))
block-written (Err stop) old a b c d e f g t u v w x y new h i j k l m more = tt
block-written (Ok r) old a b c d e f g t u v w x y new h i j k l m more =
    let to_b : u ≡ (old ++ a) ++ b = i ∙ ap (λ (z : List ℕ). z ++ b) h in
    let to_c : v ≡ ((old ++ a) ++ b) ++ c = j ∙ ap (λ (z : List ℕ). z ++ c) to_b in
    let to_d : w ≡ (((old ++ a) ++ b) ++ c) ++ d = k ∙ ap (λ (z : List ℕ). z ++ d) to_c in
    let to_e : x ≡ ((((old ++ a) ++ b) ++ c) ++ d) ++ e = l ∙ ap (λ (z : List ℕ). z ++ e) to_d in
    let to_f : y ≡ (((((old ++ a) ++ b) ++ c) ++ d) ++ e) ++ f = m ∙ ap (λ (z : List ℕ). z ++ f) to_e in
    more ∙ ap (λ (z : List ℕ). z ++ g) to_f ∙ regroup
  where
    regroup : (((((((old ++ a) ++ b) ++ c) ++ d) ++ e) ++ f) ++ g) ≡ old ++ (a ++ b ++ c ++ d ++ e ++ f ++ g)
    regroup = simp append_assoc

-- the trail, piece by piece
pub trail-written : (result : Result (Unit {0}) MemoryFault) (old a b c d t u v new : List ℕ) → t ≡ old ++ a
    → u ≡ t ++ b → v ≡ u ++ c → OnOk result (new ≡ v ++ d) → OnOk result (new ≡ old ++ (a ++ b ++ c ++ d))
trail-written (Err stop) old a b c d t u v new h i j more = tt
trail-written (Ok r) old a b c d t u v new h i j more =
    let to_b : u ≡ (old ++ a) ++ b = i ∙ ap (λ (z : List ℕ). z ++ b) h in
    let to_c : v ≡ ((old ++ a) ++ b) ++ c = j ∙ ap (λ (z : List ℕ). z ++ c) to_b in
    more ∙ ap (λ (z : List ℕ). z ++ d) to_c ∙ regroup
  where
    regroup : ((((old ++ a) ++ b) ++ c) ++ d) ≡ old ++ (a ++ b ++ c ++ d)
    regroup = simp append_assoc

-- the trail, where it is asked for
pub trail-told : (result : Result (Unit {0}) MemoryFault) (old new lines : List ℕ) (asked : Bool) → asked ≡ true
    → OnOk result (new ≡ old ++ lines) → OnOk result (new ≡ old ++ (if asked then lines else []))
trail-told (Err stop) old new lines asked is more = tt
trail-told (Ok r) old new lines asked is more = more ∙ ap (λ (b : Bool). old ++ (if b then lines else [])) (sym is)

pub trail-left : (text lines : List ℕ) (asked : Bool) → asked ≡ false → text ≡ text ++ (if asked then lines else [])
trail-left text lines asked is =
    sym (append-nil text) ∙ ap (λ (b : Bool). text ++ (if b then lines else [])) (sym is)

-- the block of a session that has ended
pub block-told : (result : Result (Unit {0}) MemoryFault) (s : Session) (end : PlacedEnd) (old new who printed : List ℕ)
    (k : ℕ) → s.end ≡ Some end → printed ≡ s.running.printed
    → OnOk result (new ≡ old ++ session_block k who printed (end_view end))
    → OnOk result ((f : Finished) → as_told f ≡ told_of (session_view s) → new ≡ old ++ session_block k who f.1 f.0)
block-told (Err e) s end old new who printed k ended is more = tt
block-told (Ok x) s end old new who printed k ended is more = λ f told.
    let its_end : f.0 ≡ end_view end = inside (ap (λ (t : Option meant.SessionEnd × List ℕ). t.0) told
    ∙ ap (option_map end_view) ended) in
    let its_text : printed ≡ f.1 = is ∙ sym (ap (λ (t : Option meant.SessionEnd × List ℕ). t.1) told) in
    more ∙ (λ i. old ++ session_block k who (its_text i) (sym its_end i))
  where
    inside : {x y : meant.SessionEnd} → ◌≡◌ {A = Option meant.SessionEnd} (Some x) (Some y) → x ≡ y
    inside e = cc

-- all that is told
pub whole-text : (r : Run) (all : List Finished) (log : List Entry) (empty blocks text : List ℕ) → empty ≡ []
    → blocks ≡ empty ++ session_blocks 1 r.pairs all
    → text ≡ blocks ++ (if r.trail then trail_text r.pairs log else []) → text ≡ run_text r all log
whole-text r all log empty blocks text none first rest =
    rest ∙ ap (λ (t : List ℕ). t ++ (if r.trail then trail_text r.pairs log else [])) (first
    ∙ ap (λ (t : List ℕ). t ++ session_blocks 1 r.pairs all) none)

-- ---- statuses

some_told : (status : ℕ) (all : List Finished) → some_ends status all ≡ list_any (ends_so status) (map as_told all)
some_told status [] = refl
some_told status (f ∷ fs) = ap (λ (b : Bool). nat_eq (end_status f.0) status || b) (some_told status fs)

any_map : {A B : Type 0} (p : B → Bool) (f : A → B) (xs : List A) → list_any p (map f xs) ≡ list_any (λ x. p (f x)) xs
any_map p f [] = refl
any_map p f (x ∷ xs) = ap (λ (b : Bool). p (f x) || b) (any_map p f xs)

pub some-ends : (status : ℕ) (sessions : List Session) (all : List Finished) → AreToldSo all sessions
    → list_any (λ s. ends_so status (told_of (session_view s))) sessions ≡ some_ends status all
some-ends status sessions all told =
    sym (any_map (λ k. ends_so status (told_of k)) session_view sessions)
    ∙ sym (any_map (ends_so status) told_of (map session_view sessions))
    ∙ ap (list_any (ends_so status)) (sym told) ∙ sym (some_told status all)

-- whether one ended so
pub ends-there : (status got : ℕ) (s : Session) (end : PlacedEnd) → s.end ≡ Some end → got ≡ end_status (end_view end)
    → nat_eq got status ≡ ends_so status (told_of (session_view s))
ends-there status got s end is got_is =
    ap (λ (n : ℕ). nat_eq n status) got_is
    ∙ ap (λ (o : Option PlacedEnd). ends_so status (option_map end_view o, s.running.printed)) (sym is)

pub ends-nowhere : (status : ℕ) (s : Session) → s.end ≡ None → false ≡ ends_so status (told_of (session_view s))
ends-nowhere status s is =
    ap (λ (o : Option PlacedEnd). ends_so status (option_map end_view o, s.running.printed)) (sym is)

-- the status of all, where it was asked for 5 and then for 1
pub status-stopped : (sessions : List Session) (all : List Finished) (status : ℕ) → AreToldSo all sessions
    → list_any (λ s. ends_so 5 (told_of (session_view s))) sessions ≡ true → status ≡ 5
    → status ≡ run_status all
status-stopped sessions all status told some is =
    is ∙ ap (λ (b : Bool). if b then 5 else (if some_ends 1 all then 1 else 0))
    (sym (sym (some-ends 5 sessions all told) ∙ some))

pub status-other : (sessions : List Session) (all : List Finished) (status : ℕ) (raised : Bool) → AreToldSo all sessions
    → list_any (λ s. ends_so 5 (told_of (session_view s))) sessions ≡ false
    → list_any (λ s. ends_so 1 (told_of (session_view s))) sessions ≡ raised → status ≡ (if raised then 1 else 0)
    → status ≡ run_status all
status-other sessions all status raised told none some is =
    is ∙ ap (λ (b : Bool). if b then 1 else 0) (sym (sym (some-ends 1 sessions all told) ∙ some))
    ∙ ap (λ (b : Bool). if b then 5 else (if some_ends 1 all then 1 else 0)) (sym (sym (some-ends 5 sessions all told)
    ∙ none))

-- where sessions have ended, they came to something
pub all-told : (sessions : List Session) → All (λ s. IsSome s.end) sessions → (all : List Finished)
    × AreToldSo all sessions
all-told [] ended = ([], refl)
all-told (s ∷ ss) ended =
    of s.end refl (All-head (λ (s : Session). IsSome s.end) s ss ended)
    (all-told ss (All-tail (λ (s : Session). IsSome s.end) s ss ended)) where
      of : (o : Option PlacedEnd) → s.end ≡ o → IsSome o → (all : List Finished) × AreToldSo all ss
          → (all : List Finished) × AreToldSo all (s ∷ ss)
      of None is some rest = absurd (cc)
      of (Some end) is some rest = (
        (end_view end, s.running.printed) ∷ rest.0,
        λ k. (option_map end_view (sym is k), s.running.printed) ∷ rest.1 k,
      )
