-- Arguments and calls leave an object to which nothing refers.
use Rattle.std.proofs.Common.{◌≡◌, refl, subst, ℕ, List, [], ◌∷◌, map, slice_get, Option, Some, None}
use Rattle.std.specs.Prelude.{option_map}
use Rattle.std.specs.Option.{option_and_then}
use Rattle.rp_base.specs.Names.{word_of}
use Rattle.rp_base.specs.declared.kind.Kind.{Kind}
use Rattle.rp_base.specs.declared.value.Name.{Name}
use Rattle.rp_base.specs.declared.value.Oid.{Oid}
use Rattle.rp_base.specs.declared.value.Side.{Side}
use Rattle.rp_base.specs.declared.value.Rock.{Rock}
use Rattle.rp_base.specs.declared.value.Rock.TheVariants as rock
use Rattle.rp_base.specs.declared.value.Value.{Value}
use Rattle.rp_base.specs.declared.value.Value.TheVariants as value
use Rattle.rp_base.specs.declared.word.TheConstants.{ITER, ITEMS, STR, CALL, INIT}
use Rattle.rp_ops.specs.Outcome.{gives}
use Rattle.rp_proxy.specs.Taken.{taken}
use Rattle.rp_store.specs.declared.object.Callee.{Callee}
use Rattle.rp_store.specs.declared.object.Callee.TheVariants as callee
use Rattle.rp_store.specs.Heap.{Owned, content_at, method_at}
use Rattle.rp_store.specs.Object as object
use Rattle.rp_store.specs.Object.{Content}
use Rattle.rp_meaning.specs.Binding.{Arguments, behind}
use Rattle.rp_meaning.specs.BuiltIn.{not_called}
use Rattle.rp_meaning.specs.Calls as calls
use Rattle.rp_meaning.specs.Calls.{Argument, arguments, entries_named, got_named}
use Rattle.rp_meaning.specs.Frame.{Meaning}
use Rattle.rp_meaning.specs.Special.{special}
use Rattle.rp_meaning.specs.State.{heap_of}
use Rattle.rp_fixed_laws.specs.Fixed.{Placed}
use Rattle.rp_apart_laws.specs.Apart.{ArgumentsAvoid, Avoids, ContentAvoids, Each, HeapAvoids, IsOther}
use Rattle.rp_apart_laws.specs.Apart.{OnSome, Staying, ValueAvoids}
use Rattle.rp_apart_laws.proofs.Forms.{function_called, method_called}
use Rattle.rp_apart_laws.proofs.Going.{StaysAt, ask_for, bind, by_option, gets_value, on_method, op, same, special_avoids}
use Rattle.rp_apart_laws.proofs.Going.{takes_value}
use Rattle.rp_apart_laws.proofs.Lists.{each_append, each_map}
use Rattle.rp_apart_laws.proofs.Operations.{Entry, elements, taken_avoids}
use Rattle.rp_apart_laws.proofs.Plainly.{content_avoids, makes, read_avoids}
use Rattle.rp_apart_laws.proofs.Tests.{show_leaves}

abbrev pub ArgumentKeeps : Argument → Type 0
ArgumentKeeps a =
    (k : Placed) (before : Arguments) → ArgumentsAvoid k.at before → StaysAt k (ArgumentsAvoid k.at) (a before)

abbrev pub ArgumentsKeep : List Argument → Type 0
ArgumentsKeep as' = Each ArgumentKeeps as'

abbrev pub NamedAvoid : Oid → List (List ℕ × Value) → Type 0
NamedAvoid a ns = Each (λ (n : List ℕ × Value). Avoids a n.1) ns

-- arguments behind others

plain_behind : (a : Oid) (before : Arguments) (vs : List Value) → ArgumentsAvoid a before → Each (Avoids a) vs
    → ArgumentsAvoid a (calls.with_plain before vs)
plain_behind a before vs p q = record { plain = each_append (Avoids a) before.plain vs p.plain q; named = p.named }

named_behind : (a : Oid) (before : Arguments) (ns : List (List ℕ × Value)) → ArgumentsAvoid a before
    → NamedAvoid a ns → ArgumentsAvoid a (calls.with_named before ns)
named_behind a before ns p q = record {
  plain = p.plain;
  named = each_append (λ (n : List ℕ × Value). Avoids a n.1) before.named ns p.named q;
}

-- a value before others
pub behind_value : (a : Oid) (v : Value) (given : Arguments) → Avoids a v → ArgumentsAvoid a given
    → ArgumentsAvoid a (behind v given)
behind_value a v given p q = record { plain = (p, q.plain); named = q.named }

pub plain_argument : (m : Meaning) → Staying ValueAvoids m → ArgumentKeeps (calls.plain_argument m)
plain_argument m i k before p f c s h =
    bind (i k f c s h) (λ v q s h. same h (plain_behind k.at before (v ∷ []) p (q, tt)))

pub named_argument : (n : Name) (m : Meaning) → Staying ValueAvoids m → ArgumentKeeps (calls.named_argument n m)
named_argument n m i k before p f c s h =
    bind (i k f c s h) (λ v q s h. same h (named_behind k.at before ((word_of s.names n, v) ∷ []) p (q, tt)))

pub star_argument : (m : Meaning) → Staying ValueAvoids m → ArgumentKeeps (calls.star_argument m)
star_argument m i k before p f c s h =
    bind (i k f c s h) (λ v q s h. ask_for f c ITER v s h (λ s h. bind (op s h (elements v s.plain h.heap)) (λ vs r s h.
    same h (plain_behind k.at before (map (taken (heap_of s) f.side) vs) p
    (each_map (Avoids k.at) (Avoids k.at) (taken (heap_of s) f.side) (taken_avoids k.at (heap_of s) f.side) vs r)))))

-- the entries of a dict, as named arguments

entry_named_avoids : (a : Oid) (e : Entry) → Avoids a e.1.1
    → OnSome (λ (n : List ℕ × Value). Avoids a n.1) (calls.entry_named e)
entry_named_avoids a e p = by e.1.0 where
  by : (r : Rock) → OnSome (λ (n : List ℕ × Value). Avoids a n.1) (calls.entry_named (e.0, (r, e.1.1)))
  by (rock.Text t) = p
  by _ = tt

all_named_avoid : (a : Oid) (es : List Entry) → Each (λ (e : Entry). Avoids a e.1.1) es
    → OnSome (NamedAvoid a) (calls.all_named es)
all_named_avoid a [] p = tt
all_named_avoid a (e ∷ es) p =
    by (calls.entry_named e) (entry_named_avoids a e p.0) (calls.all_named es) (all_named_avoid a es p.1)
  where
    by : (n : Option (List ℕ × Value)) → OnSome (λ (n : List ℕ × Value). Avoids a n.1) n
        → (ns : Option (List (List ℕ × Value))) → OnSome (NamedAvoid a) ns
        → OnSome (NamedAvoid a) (option_and_then (λ (n : List ℕ × Value). option_map
        (λ (ns : List (List ℕ × Value)). n ∷ ns) ns) n)
    by None p ns q = tt
    by (Some n) p None q = tt
    by (Some n) p (Some ns) q = (p, q)

content_named_avoids : (a : Oid) (c : Content) → ContentAvoids a c → OnSome (NamedAvoid a) (calls.content_named c)
content_named_avoids a (object.dict es) p = all_named_avoid a es p
content_named_avoids a c p = tt

entries_named_avoid : (a : Oid) (heap : List Owned) (v : Value) → HeapAvoids a heap
    → OnSome (NamedAvoid a) (entries_named heap v)
entries_named_avoid a heap v h = of v where
  by : (o : Option Content) → OnSome (ContentAvoids a) o
      → OnSome (NamedAvoid a) (option_and_then calls.content_named o)
  by None p = tt
  by (Some c) p = content_named_avoids a c p

  of : (v : Value) → OnSome (NamedAvoid a) (entries_named heap v)
  of (value.Rock r) = tt
  of (value.Ref at) = by (content_at heap at) (read_avoids a heap at h)
  of (value.Prox at) = by (content_at heap at) (read_avoids a heap at h)

got_each : {k : Placed} (from : Value) (ns : List (List ℕ × Value)) → NamedAvoid k.at ns
    → StaysAt k (NamedAvoid k.at) (got_named from ns)
got_each from [] p f c s h = same h tt
got_each from (n ∷ ns) p f c s h =
    bind (gets_value from n.1 f p.0 s h) (λ v q s h. bind (got_each from ns p.1 f c s h)
    (λ vs r s h. same {o = gives ((n.0, v) ∷ vs) s} h (q, r)))

pub stars_argument : (m : Meaning) → Staying ValueAvoids m → ArgumentKeeps (calls.stars_argument m)
stars_argument m i k before p f c s h = bind (i k f c s h) (λ v q s h. ask_for f c ITEMS v s h (λ s h.
    by_option (entries_named (heap_of s) v) (λ e. rw e (same h tt))
    (λ ns e. rw e (bind (got_each v ns
    (subst (OnSome (NamedAvoid k.at)) e (entries_named_avoid k.at (heap_of s) v h.heap.others)) f c s h)
    (λ vs r s h. same h (named_behind k.at before vs p r))))))

pub arguments_keep : (as' : List Argument) → ArgumentsKeep as' → ArgumentKeeps (arguments as')
arguments_keep [] i k before p f c s h = same h p
arguments_keep (a ∷ as') i k before p f c s h =
    bind (i.0 k before p f c s h) (λ before q s h. arguments_keep as' i.1 k before q f c s h)

-- calls

kind_called : {k : Placed} (kind : Kind) (vs : List Value) (ns : List (List ℕ × Value))
    → StaysAt k (Avoids k.at) (calls.kind_call kind (record { plain = vs; named = ns }))
kind_called kind [] [] f c s h = same h tt
kind_called kind (v ∷ []) [] f c s h = ask_for f c STR v s h
    (λ s h. bind (op s h (show_leaves s.names v s.plain h.heap)) (λ t p s h. same h tt))
kind_called kind (v ∷ w ∷ vs) [] f c s h = same h tt
kind_called kind vs (n ∷ ns) f c s h = same h tt

-- what `__init__` may give
by_given : {P : Type 0} (v : Value) → ((r : Rock) → v ≡ value.Rock r → P) → ((at : Oid) → v ≡ value.Ref at → P)
    → ((at : Oid) → v ≡ value.Prox at → P) → P
by_given (value.Rock r) p q t = p r refl
by_given (value.Ref at) p q t = q at refl
by_given (value.Prox at) p q t = t at refl

by_rock : {P : Type 0} (r : Rock) → (r ≡ rock.Nil → P) → ((b : _) → r ≡ rock.Truth b → P)
    → ((z : _) → r ≡ rock.Int z → P)
    → ((t : _) → r ≡ rock.Text t → P) → ((k : _) (t : _) → r ≡ rock.Exc k t → P) → ((k : _) → r ≡ rock.Kind k → P)
    → ((n : _) → r ≡ rock.Native n → P) → P
by_rock rock.Nil nil truth int text exc kind native = nil refl
by_rock (rock.Truth b) nil truth int text exc kind native = truth b refl
by_rock (rock.Int z) nil truth int text exc kind native = int z refl
by_rock (rock.Text t) nil truth int text exc kind native = text t refl
by_rock (rock.Exc k t) nil truth int text exc kind native = exc k t refl
by_rock (rock.Kind k) nil truth int text exc kind native = kind k refl
by_rock (rock.Native n) nil truth int text exc kind native = native n refl

made_keeps : {k : Placed} (owner : Side) (of : Oid) (function : Option Oid) (vs : List Value)
    (ns : List (List ℕ × Value)) → IsOther k.at of → ArgumentsAvoid k.at (record { plain = vs; named = ns })
    → StaysAt k (Avoids k.at) (calls.made_instance owner of function (record { plain = vs; named = ns }))
made_keeps owner of None [] [] p q f c s h =
    bind (op s h (makes owner (object.instance of []) (p, tt) s.plain h.heap)) (λ at other s h. same h other)
made_keeps owner of None (v ∷ vs) [] p q f c s h = same h tt
made_keeps owner of None vs (n ∷ ns) p q f c s h = same h tt
made_keeps {k} owner of (Some function) vs ns p q f c s h =
    bind (op s h (makes owner (object.instance of []) (p, tt) s.plain h.heap)) (λ at other s h.
    bind (c.calls function (behind (value.Ref at) (record { plain = vs; named = ns })) s
    (behind_value k.at (value.Ref at) (record { plain = vs; named = ns }) other q) h) (λ v r s h.
    by_given v (λ r e. rw e (by_rock r (λ e. rw e (same h other)) (λ b e. rw e (same h tt)) (λ z e. rw e (same h tt))
    (λ t e. rw e (same h tt)) (λ x t e. rw e (same h tt)) (λ x e. rw e (same h tt)) (λ n e. rw e (same h tt))))
    (λ at e. rw e (same h tt)) (λ at e. rw e (same h tt))))

bound_keeps : {k : Placed} (owner : Side) (receiver : Value) (called : Callee) (a : Arguments) → Avoids k.at receiver
    → ArgumentsAvoid k.at a → StaysAt k (Avoids k.at) (calls.bound_call owner receiver called a)
bound_keeps {k} owner receiver (callee.Function function) a p q f c s h =
    c.calls function (behind receiver a) s (behind_value k.at receiver a p q) h
bound_keeps owner receiver (callee.Native id) a p q f c s h = method_called owner receiver id a p q f c s h

object_keeps : {k : Placed} (at : Oid) (owner : Side) (content : Content) (a : Arguments) → IsOther k.at at
    → ContentAvoids k.at content → ArgumentsAvoid k.at a
    → StaysAt k (Avoids k.at) (calls.object_call at owner content a)
object_keeps at owner (object.function name unit block within defaults) a other p q f c s h = c.calls at a s q h
object_keeps at owner (object.method receiver called) a other p q f c s h =
    bound_keeps owner receiver called a p.0 q f c s h
object_keeps at owner (object.class name declared methods) a other p q f c s h =
    made_keeps owner at (method_at (heap_of s) at INIT) a.plain a.named other q f c s h
object_keeps {k} at owner (object.instance of fields) a other p q f c s h =
    on_method (special (heap_of s) (value.Ref at) CALL) (λ m. f.calls m.function (behind m.of a)) not_called s
    (special_avoids k (heap_of s) (value.Ref at) CALL other)
    (λ m r. c.calls m.function (behind m.of a) s (behind_value k.at m.of a r q) h) (same h tt)
object_keeps at owner _ a other p q f c s h = same h tt

found_keeps : {k : Placed} (at : Oid) (o : Option Owned) (a : Arguments) → IsOther k.at at
    → OnSome (λ (o : Owned). ContentAvoids k.at o.content) o → ArgumentsAvoid k.at a
    → StaysAt k (Avoids k.at) (calls.found_call at o a)
found_keeps at None a other p q f c s h = same h tt
found_keeps at (Some o) a other p q f c s h = object_keeps at o.owner o.content a other p q f c s h

reference_keeps : {k : Placed} (v : Value) (at : Oid) (a : Arguments) → IsOther k.at at → ArgumentsAvoid k.at a
    → StaysAt k (Avoids k.at) (calls.reference_call v at a)
reference_keeps {k} v at a other q f c s h = ask_for f c CALL v s h (λ s h.
    bind (found_keeps at (slice_get (heap_of s) at.0) a other (content_avoids k.at (heap_of s) at.0 h.heap.others) q
    f c s h) (λ r p s h. gets_value v r f p s h))

pub call_keeps : {k : Placed} (v : Value) (a : Arguments) → Avoids k.at v → ArgumentsAvoid k.at a
    → StaysAt k (Avoids k.at) (calls.call v a)
call_keeps (value.Rock (rock.Native id)) a p q f c s h =
    bind (function_called id a q f c s h) (λ v r s h. takes_value v f r s h)
call_keeps (value.Rock (rock.Kind kind)) a p q f c s h = kind_called kind a.plain a.named f c s h
call_keeps (value.Rock _) a p q f c s h = same h tt
call_keeps (value.Ref at) a p q f c s h = reference_keeps (value.Ref at) at a p q f c s h
call_keeps (value.Prox at) a p q f c s h = reference_keeps (value.Prox at) at a p q f c s h
