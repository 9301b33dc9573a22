-- When nothing but what is put into the result of a comprehension changes it: where what is evaluated meanwhile changes
-- no object but scopes, as what only reads does and what binds names (Python Language Reference, Naming and binding).
use Rattle.std.specs.Prelude.{◌≡◌, ℕ, List, [], ◌∷◌, Some}
use Rattle.rp_base.specs.declared.value.Oid.{Oid}
use Rattle.rp_base.specs.declared.value.Value.{Value}
use Rattle.rp_ops.specs.Outcome.{gives}
use Rattle.rp_store.specs.Heap.{content_at}
use Rattle.rp_store.specs.Object as object
use Rattle.rp_store.specs.Object.{Content}
use Rattle.rp_tree.specs.Expressions as tree
use Rattle.rp_tree.specs.declared.parts.Test.{Test}
use Rattle.rp_tree.specs.declared.parts.Test.TheVariants as test
use Rattle.rp_meaning.specs.State.{State, Outcome, heap_of}
use Rattle.rp_meaning.specs.Frame.{Frame, Meaning}
use Rattle.rp_meaning.specs.Expressions.{Clause}
use Rattle.rp_meaning.specs.Meaning.{clause, clauses, eval}
use Rattle.rp_fixed_laws.specs.Fixed.{DecidesQuietly}
use Rattle.rp_comprehension_laws.specs.Comprehensions.{ListGathers, SetGathers}
use Rattle.rp_comprehension_laws.specs.Elements.{KeepsFrom, inner_frame}

-- what changes no object but scopes

abbrev pub IsNoScope : Content → Type 0
IsNoScope (object.scope block parent slots) = ⊥
IsNoScope c = Unit {0}

abbrev pub ObjectsStay : State → State → Type 0
ObjectsStay s u =
    (at : Oid) (c : Content) → IsNoScope c → content_at (heap_of s) at ≡ Some c → content_at (heap_of u) at ≡ Some c

-- in a frame, where it gives a value
abbrev pub IsQuiet : {A : Type 0} → Frame → (Frame → State → Outcome A) → Type 0
IsQuiet {A = A} frame does = (s u : State) (a : A) → does frame s ≡ gives a u → ObjectsStay s u

abbrev pub AllQuiet : Frame → List Meaning → Type 0
AllQuiet frame [] = Unit {0}
AllQuiet frame (m ∷ ms) = IsQuiet frame m × AllQuiet frame ms

-- the turns of a clause, and the later clauses

abbrev pub TurnsQuiet : Frame → Clause → Type 0
TurnsQuiet frame c = ((v : Value) → IsQuiet frame (c.bind v)) × AllQuiet frame c.tests

abbrev pub ClausesQuiet : Frame → List Clause → Type 0
ClausesQuiet frame [] = Unit {0}
ClausesQuiet frame (c ∷ cs) = IsQuiet frame c.of × TurnsQuiet frame c × ClausesQuiet frame cs

-- what is evaluated in the scope of a comprehension
pub record IsQuietInside (frame : Frame) (block : ℕ) (scope : Oid) (x : tree.Expr) (c : tree.Clause)
    (cs : tree.Clauses) : Type 0 where
  pub decides : DecidesQuietly frame.run
  pub expression : IsQuiet (inner_frame block scope frame) (eval x)
  pub turns : TurnsQuiet (inner_frame block scope frame) (clause c)
  pub later : ClausesQuiet (inner_frame block scope frame) (clauses cs)

-- the laws

abbrev pub EachQuietListIsLeft : Type 0
EachQuietListIsLeft =
    (block : ℕ) (x : tree.Expr) (c : tree.Clause) (cs : tree.Clauses) (frame : Frame) (s u : State) (vs : List Value)
    (at : Oid) (g : ListGathers block x c cs frame s vs at u) → IsQuietInside frame block g.scope x c cs
    → KeepsFrom at g.given

abbrev pub EachQuietSetIsLeft : Type 0
EachQuietSetIsLeft =
    (block : ℕ) (x : tree.Expr) (c : tree.Clause) (cs : tree.Clauses) (frame : Frame) (s u : State) (vs : List Value)
    (at : Oid) (g : SetGathers block x c cs frame s vs at u) → IsQuietInside frame block g.scope x c cs
    → KeepsFrom at g.given

-- what only reads, and makes new objects: names, literals, displays, conditional and Boolean expressions, arithmetic,
-- comparisons other than membership tests, attributes, slices, and functions that are made; no special method is called
-- for any of these

abbrev pub IsNoMembership : Test → Type 0
IsNoMembership test.Within = ⊥
IsNoMembership test.NotWithin = ⊥
IsNoMembership o = Unit {0}

abbrev mutual
  pub Reads : tree.Expr → Type 0
  Reads (tree.node line x) = FormReads x

  pub FormReads : tree.Form → Type 0
  FormReads (tree.name n) = Unit {0}
  FormReads (tree.int z) = Unit {0}
  FormReads (tree.text t) = Unit {0}
  FormReads (tree.const c) = Unit {0}
  FormReads (tree.tuple es) = AllRead es
  FormReads (tree.list es) = AllRead es
  FormReads (tree.dict ps) = PairsRead ps
  FormReads (tree.lambda n ps x) = DefaultsRead ps
  FormReads (tree.cond x a b) = Reads x × Reads a × Reads b
  FormReads (tree.or es) = AllRead es
  FormReads (tree.and es) = AllRead es
  FormReads (tree.not x) = Reads x
  FormReads (tree.compare x ts) = Reads x × TestsRead ts
  FormReads (tree.chain x os) = Reads x × OpsRead os
  FormReads (tree.unary u x) = Reads x
  FormReads (tree.power a b) = Reads a × Reads b
  FormReads (tree.primary x ts) = Reads x × TrailersRead ts
  FormReads x = ⊥

  pub AllRead : tree.Exprs → Type 0
  AllRead tree.no_exprs = Unit {0}
  AllRead (tree.expr x xs) = Reads x × AllRead xs

  pub TestsRead : tree.Tests → Type 0
  TestsRead tree.no_tests = Unit {0}
  TestsRead (tree.test o x ts) = IsNoMembership o × Reads x × TestsRead ts

  pub PairsRead : tree.Pairs → Type 0
  PairsRead tree.no_pairs = Unit {0}
  PairsRead (tree.pair k x ps) = Reads k × Reads x × PairsRead ps

  pub OpsRead : tree.Ops → Type 0
  OpsRead tree.no_ops = Unit {0}
  OpsRead (tree.op o x os) = Reads x × OpsRead os

  pub MaybeReads : tree.Maybe → Type 0
  MaybeReads tree.none = Unit {0}
  MaybeReads (tree.some x) = Reads x

  pub DefaultsRead : tree.Params → Type 0
  DefaultsRead (tree.params ps list dict) = PlainRead ps

  pub PlainRead : tree.Plain → Type 0
  PlainRead tree.no_plain = Unit {0}
  PlainRead (tree.plain n x ps) = MaybeReads x × PlainRead ps

  pub TrailersRead : tree.Trailers → Type 0
  TrailersRead tree.no_trailers = Unit {0}
  TrailersRead (tree.trailer x ts) = TrailerReads x × TrailersRead ts

  -- items and calls are left out, which may call what a class defines
  pub TrailerReads : tree.Trailer → Type 0
  TrailerReads (tree.attr n g) = Unit {0}
  TrailerReads (tree.item x g) = ⊥
  TrailerReads (tree.slice a b c g) = MaybeReads a × MaybeReads b × MaybeReads c
  TrailerReads (tree.call as' g) = ⊥

-- a name, or a group of such targets
abbrev mutual
  pub IsOfNames : tree.Target → Type 0
  IsOfNames (tree.to_place p) = IsOfName p
  IsOfNames (tree.group ps) = AreOfNames ps

  pub AreOfNames : tree.Targets → Type 0
  AreOfNames tree.no_targets = Unit {0}
  AreOfNames (tree.target p ps) = IsOfNames p × AreOfNames ps

  pub IsOfName : tree.Place → Type 0
  IsOfName (tree.to_name n) = Unit {0}
  IsOfName p = ⊥

-- the turns of a clause, and the later clauses

abbrev pub TurnsRead : tree.Clause → Type 0
TurnsRead (tree.a_clause (tree.a_walk p x g) es) = IsOfNames p × AllRead es

abbrev pub ClauseReads : tree.Clause → Type 0
ClauseReads (tree.a_clause (tree.a_walk p x g) es) = Reads x × IsOfNames p × AllRead es

abbrev pub ClausesRead : tree.Clauses → Type 0
ClausesRead tree.no_clauses = Unit {0}
ClausesRead (tree.clause c cs) = ClauseReads c × ClausesRead cs

-- such comprehensions change no object but scopes, whatever they walk first
abbrev pub EachReadingComprehensionIsQuiet : Type 0
EachReadingComprehensionIsQuiet =
    (frame : Frame) (block : ℕ) (scope : Oid) (x : tree.Expr) (c : tree.Clause) (cs : tree.Clauses)
    → DecidesQuietly frame.run → Reads x → TurnsRead c → ClausesRead cs → IsQuietInside frame block scope x c cs
