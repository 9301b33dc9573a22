-- A decision that is logged, as the program makes it, is the one that is meant.
use Rattle.std.proofs.Common.{◌≡◌, ◌+◌, ◌≤◌, ℕ, Bool, List, [], ◌∷◌, ◌++◌, Option, Some, refl, sym, ap, ◌∙◌, unwrap_or}
use Rattle.std.proofs.lemmas.Bool.{le-ltb}
use Rattle.std.proofs.lemmas.List.{map-append}
use Rattle.std.specs.Option.{option_map_or}
use Rattle.rp_base.specs.declared.value.ClassTag.{ClassTag}
use Rattle.rp_base.specs.declared.value.ClassTag.TheVariants.{Other}
use Rattle.rp_base.specs.declared.value.Oid.{Oid}
use Rattle.rp_base.specs.declared.value.Op.{Op}
use Rattle.rp_base.specs.declared.value.Raised.{Raised}
use Rattle.rp_checker.specs.Answers.{operation_view, tag_view}
use Rattle.rp_decl.specs.View.{declarations_view, name_text}
use Rattle.rp_interact.specs.Interacting.{Interacting}
use Rattle.rp_store.specs.Heap.{tag_at}
use Rattle.rp_trail.specs.Entry.{Entry}
use Rattle.rp_trail.specs.View.{class_text, entry_view, is_named, op_name, op_word, told_name, verdict_view}
use Rattle.rp_trail.specs.declared.entry.Entry.{Entry as Placed}
use Rattle.rp_trail.specs.declared.entry.Verdict.{Verdict}
use Rattle.rp_proxy.proofs.Verdicts.{name_same, told_same, word_same}
use Rattle.rp_proxy.proofs.Worlds.{after}
use Rattle.rp_proxy.specs.Decide.{Monitor, class_at, decide_entry, entry_of, go, logged, outcome, refusal, refuses, verdict_of}
use Rattle.rp_proxy.specs.View.{monitor_of}
use Rattle.rp_proxy.specs.declared.world.World.{World}

-- what is kept changes nothing that decisions read
pub monitor-keeping : (w : World) (i : Interacting) → i ≡ record w.running.interaction { kept = i.kept } → monitor_of (after w w.store.used w.trail i) ≡ monitor_of w
monitor-keeping w i e = ap (λ (j : Interacting). monitor_of (after w w.store.used w.trail j)) e

within_limit : (m : Monitor) (e : Entry) → m.store.used + 1 ≤ m.store.limit → decide_entry m e ≡ (outcome e.name e.verdict, logged m e)
within_limit m e few = rw (le-ltb m.store.limit (m.store.used + 1) few) refl

module _ (w : World) (op : Op) (named : Bool) (class : ClassTag) (v : Verdict) (i : Interacting)
    (told : named ≡ is_named w.names op)
    (keeps : i ≡ record w.running.interaction { kept = i.kept })
    (verdict_is : verdict_view w.decl.permissions v ≡ verdict_of (declarations_view w.names w.decl) w.running.interaction.ids (tag_view w.names class) (operation_view w.names op)) where
  abbrev pub placed : Placed
  placed = record { session = w.running.session; named = named; op = op; class = class; verdict = v }

  abbrev pub entry : Entry
  entry = record {
    session = w.running.session;
    op = op_word op;
    class = class_text w.names class;
    name = told_name w.names named (op_name op);
    verdict = verdict_view w.decl.permissions v;
  }

  entry_is : entry ≡ entry_of (monitor_of w) (operation_view w.names op) class
  entry_is = λ j. record {
    session = w.running.session;
    op = word_same w.names op j;
    class = class_text w.names class;
    name = (told_same w.names op named told ∙ name_same w.names op) j;
    verdict = verdict_is j;
  }

  logged_is : logged (monitor_of w) entry ≡ monitor_of (after w (w.store.used + 1) (w.trail ++ placed ∷ []) i)
  logged_is = λ j. record {
    declarations = declarations_view w.names w.decl;
    names = w.names;
    store = record w.store { used = w.store.used + 1 };
    log = sym (map-append (entry_view w.names w.decl.permissions) w.trail (placed ∷ [])) j;
    session = w.running.session;
    who = sym (ap (λ (k : Interacting). k.ids) keeps) j;
  }

  pub decided : (at : Oid) (r : Option Raised) → w.store.used + 1 ≤ w.store.limit → tag_at w.store.heap at ≡ Some class
      → r ≡ refusal (name_text w.names (op_name op)) (verdict_view w.decl.permissions v)
      → decide_entry (monitor_of w) (entry_of (monitor_of w) (operation_view w.names op) (class_at w.store.heap at))
      ≡ (option_map_or refuses r go, monitor_of (after w (w.store.used + 1) (w.trail ++ placed ∷ []) i))
  decided at r few found refused =
      let refused_told : r ≡ refusal (told_name w.names named (op_name op)) (verdict_view w.decl.permissions v) =
      refused ∙ ap (λ (name : List ℕ). refusal name (verdict_view w.decl.permissions v)) (sym (told_same w.names op named told)) in
      ap (λ (t : Option ClassTag). decide_entry (monitor_of w) (entry_of (monitor_of w) (operation_view w.names op) (unwrap_or t Other))) found
      ∙ ap (decide_entry (monitor_of w)) (sym entry_is)
      ∙ within_limit (monitor_of w) entry few
      ∙ (λ j. (option_map_or refuses (sym refused_told j) go, logged_is j))
