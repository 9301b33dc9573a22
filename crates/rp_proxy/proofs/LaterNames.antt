-- A world whose names have grown answers as its declarations say, and its decisions read the same but for the names.
use Rattle.std.proofs.Common.{◌≡◌, ℕ, Bool, true, false, List, get_or, option_and_then, slice_get, refl, sym, ap, subst, ◌∙◌}
use Rattle.std.specs.List.{All}
use Rattle.rp_base.specs.Names.{HoldsEachOnce, first_words}
use Rattle.rp_base.specs.declared.value.ClassTag.{ClassTag}
use Rattle.rp_base.specs.declared.value.ClassTag.TheVariants as tag
use Rattle.rp_base.specs.declared.value.Name.{Name}
use Rattle.rp_checker.specs.Answers.{AnswersAs as AnswerRows, HasWords, IsReadWith}
use Rattle.rp_checker.specs.Tables.{Tables}
use Rattle.rp_decl.proofs.Growth.{GrowsTo-refl, GrowsTo-trans}
use Rattle.rp_decl.specs.Consistency.{IsConsistent}
use Rattle.rp_decl.specs.InOrder.{AreInOrder}
use Rattle.rp_decl.specs.Places.{GrowsTo}
use Rattle.rp_decl.specs.Records.{Declarations}
use Rattle.rp_decl.specs.View.{Placed, perm_text}
use Rattle.rp_interact.specs.Answers.{AnswersAs as AnswerGrants}
use Rattle.rp_interact.specs.Interacting.{Interacting}
use Rattle.rp_interact.specs.Why as text
use Rattle.rp_store.specs.Heap.{Owned}
use Rattle.rp_store.specs.Object.{Content, list, tuple, dict, instance, class, function, method, scope}
use Rattle.rp_trail.specs.View.{IsClassHeld, IsEntryHeld, IsToldHeld, class_text, entry_view, op_name, op_word, told_name, trail_view, verdict_view}
use Rattle.rp_trail.specs.declared.entry.Entry.{Entry as PlacedEntry}
use Rattle.rp_proxy.proofs.LaterRecords.{declarations-later, held-later, map-agree, name-held-later, name-later}
use Rattle.rp_proxy.specs.Faithful.{IsFaithful, MayGrowTo}
use Rattle.rp_proxy.specs.Held.{AreNamed, IsNamed}
use Rattle.rp_proxy.specs.View.{monitor_of}
use Rattle.rp_proxy.specs.declared.world.World.{World}

-- names may stay as they are, and what they may grow to may grow on
pub MayGrowTo-refl : (names : List (List ℕ)) → HoldsEachOnce names → MayGrowTo names names
MayGrowTo-refl names distinct = record { grown = GrowsTo-refl names; distinct = distinct }

pub MayGrowTo-trans : (names later last : List (List ℕ)) → MayGrowTo names later → MayGrowTo later last → MayGrowTo names last
MayGrowTo-trans names later last first second = record { grown = GrowsTo-trans names later last first.grown second.grown; distinct = second.distinct }

-- the declarations stay those that were read
pub read-later : (names later : List (List ℕ)) (d : Placed) → MayGrowTo names later → IsReadWith names d → IsReadWith later d
read-later names later d grows read =
    let same = declarations-later names later grows.grown d read.held in
    record {
      first = GrowsTo-trans first_words names later read.first grows.grown;
      distinct = grows.distinct;
      held = held-later names later grows.grown d read.held;
      consistent = subst IsConsistent (sym same) read.consistent;
      words = subst (λ (ds : Declarations). All HasWords ds.classes) (sym same) read.words;
    }

-- checkers that answer with all names that declarations are read with do so with all that come later
pub rows-later : (names : List (List ℕ)) (d : Placed) (t : Tables) → IsReadWith names d → ((any : List (List ℕ)) → IsReadWith any d → AnswerRows any d t)
    → (later : List (List ℕ)) → MayGrowTo names later → AnswerRows later d t
rows-later names d t read answers later grows = answers later (read-later names later d grows read)

-- so do grants
pub grants-later : (names : List (List ℕ)) (d : Placed) (i : Interacting) → IsReadWith names d → AnswerGrants names d i → (later : List (List ℕ)) → MayGrowTo names later → AnswerGrants later d i
grants-later names d i read answers later grows =
    let same = declarations-later names later grows.grown d read.held in
    record {
      has = λ permission here. answers.has permission here ∙ ap (λ ds. text.has_all ds i.ids (perm_text d.permissions permission)) (sym same);
      why = λ k permission here. answers.why k permission here ∙ ap (λ ds. option_and_then (λ id. text.why_of ds id (perm_text d.permissions permission)) (slice_get i.ids k)) (sym same);
    }

module _ (names later : List (List ℕ)) (grown : GrowsTo names later) where
  named-later : (c : Content) → IsNamed names c → IsNamed later c
  named-later (list elements) named = tt
  named-later (tuple elements) named = tt
  named-later (dict entries) named = tt
  named-later (instance of fields) named = tt
  named-later (class name true methods) named = name-held-later names later grown name named
  named-later (class name false methods) named = tt
  named-later (function name unit block within defaults) named = tt
  named-later (method receiver callee) named = tt
  named-later (scope block parent slots) named = tt

  pub classes-later : (heap : List Owned) → AreNamed names heap → AreNamed later heap
  classes-later heap named k o inside = named-later (get_or heap k o).content (named k o inside)

  class-held : (t : ClassTag) → IsClassHeld names t → IsClassHeld later t
  class-held tag.List held = tt
  class-held tag.Tuple held = tt
  class-held tag.Dict held = tt
  class-held tag.Function held = tt
  class-held tag.Method held = tt
  class-held tag.Class held = tt
  class-held (tag.Declared name) held = name-held-later names later grown name held
  class-held tag.Other held = tt

  class-same : (t : ClassTag) → IsClassHeld names t → class_text later t ≡ class_text names t
  class-same tag.List held = refl
  class-same tag.Tuple held = refl
  class-same tag.Dict held = refl
  class-same tag.Function held = refl
  class-same tag.Method held = refl
  class-same tag.Class held = refl
  class-same (tag.Declared name) held = name-later names later grown name held
  class-same tag.Other held = refl

  told-held : (named : Bool) (name : Name) → IsToldHeld names named name → IsToldHeld later named name
  told-held true name held = name-held-later names later grown name held
  told-held false name held = tt

  told-same : (named : Bool) (name : Name) → IsToldHeld names named name → told_name later named name ≡ told_name names named name
  told-same true name held = name-later names later grown name held
  told-same false name held = refl

  entry-held : (permissions : List (List ℕ)) (e : PlacedEntry) → IsEntryHeld names permissions e → IsEntryHeld later permissions e
  entry-held permissions e held = record { name = told-held e.named (op_name e.op) held.name; class = class-held e.class held.class; permission = held.permission }

  pub entries-later : (permissions : List (List ℕ)) (trail : List PlacedEntry) → All (IsEntryHeld names permissions) trail → All (IsEntryHeld later permissions) trail
  entries-later permissions trail held k e inside = entry-held permissions (get_or trail k e) (held k e inside)

  entry-same : (permissions : List (List ℕ)) (e : PlacedEntry) → IsEntryHeld names permissions e → entry_view later permissions e ≡ entry_view names permissions e
  entry-same permissions e held =
      let name = told-same e.named (op_name e.op) held.name in
      let class = class-same e.class held.class in
      λ k. record { session = e.session; op = op_word e.op; class = class k; name = name k; verdict = verdict_view permissions e.verdict }

  pub trail-later : (permissions : List (List ℕ)) (trail : List PlacedEntry) → All (IsEntryHeld names permissions) trail → trail_view later permissions trail ≡ trail_view names permissions trail
  trail-later permissions trail held = map-agree (entry_view later permissions) (entry_view names permissions) (IsEntryHeld names permissions) trail (entry-same permissions) held

-- the world with names that came later
abbrev pub with_names : World → List (List ℕ) → World
with_names w later = record w { names = later }

-- it still answers as its declarations say
pub IsFaithful-later : (w : World) (later : List (List ℕ)) → MayGrowTo w.names later → IsFaithful w → IsFaithful (with_names w later)
IsFaithful-later w later grows faithful =
    let same = declarations-later w.names later grows.grown w.decl faithful.read.held in
    record {
      read = read-later w.names later w.decl grows faithful.read;
      ordered = subst AreInOrder (sym same) faithful.ordered;
      rows = λ last more. faithful.rows last (MayGrowTo-trans w.names later last grows more);
      rows_within = faithful.rows_within;
      grants = λ last more. faithful.grants last (MayGrowTo-trans w.names later last grows more);
      classes = classes-later w.names later grows.grown w.store.heap faithful.classes;
      entries = entries-later w.names later grows.grown w.decl.permissions w.trail faithful.entries;
    }

-- decisions read the same declarations and entries
pub monitor-later : (w : World) (later : List (List ℕ)) → GrowsTo w.names later → IsFaithful w → monitor_of (with_names w later) ≡ record (monitor_of w) { names = later }
monitor-later w later grown faithful =
    let declared = declarations-later w.names later grown w.decl faithful.read.held in
    let log = trail-later w.names later grown w.decl.permissions w.trail faithful.entries in
    λ k. record (monitor_of w) { declarations = declared k; names = later; log = log k }
