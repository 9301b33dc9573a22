-- What is told to words and contents is one text, with one status.
use Rattle.std.proofs.Common.{◌≡◌, refl, sym, ap, subst, ◌∙◌, ℕ, suc, true, false, List, [], ◌++◌, ◌∷◌, ◌-◌}
use Rattle.std.proofs.Common.{length, map, unwrap_or, Option, Some, None, Result, Ok, Err, arith}
use Rattle.std.specs.Prelude.{MatchOption}
use Rattle.std.specs.List.{flat_map}
use Rattle.rp_session.specs.Played.{Plays, Reaches, placed}
use Rattle.rp_session.specs.Runs.{run_of}
use Rattle.toml.specs.Data.{Members}
use Rattle.toml.specs.Parse.{parse_document}
use Rattle.rp_decl.specs.Declares.{Declares, IsDocument, IsNoDocument, IsRefused, Refusal, declares, newest}
use Rattle.rp_decl.specs.Records.{Declarations}
use Rattle.rp_decl.specs.Word.{is_among}
use Rattle.rp_interact.specs.Why.{first_unknown}
use Rattle.rp_meaning.specs.Load.{Refused as NoWorld, load}
use Rattle.rp_run_laws.proofs.Numbering.{one_numbering}
use Rattle.rp_run_laws.proofs.Once.{plays-once, reaches-once}
use Rattle.rp_policy.specs.Offences.{offences, offence_text}
use Rattle.rp_program.specs.Fault.{IsFault, fault_text}
use Rattle.rp_program.specs.Program.{IsProgram}
use Rattle.rp_program.specs.declared.fault.ProgramFault.{ProgramFault}
use Rattle.rp_program.proofs.Programs.{one_program}
use Rattle.rp_script.specs.Refusal.{line}
use Rattle.rp_meaning.specs.Sessions.{Session, SessionEnd, World, well}
use Rattle.rp_meaning.specs.Unmonitored.{told_of}
use Rattle.rp_scope.specs.Numbers.{IsNumbered}
use Rattle.rp_trail.specs.Entry.{Entry}
use Rattle.rp_run.specs.Output.{Finished, as_told, may_status, may_text, no_world_line, refusal_line, run_status}
use Rattle.rp_run.specs.Output.{run_text, used_lines}
use Rattle.rp_run.specs.Told as telling
use Rattle.rp_run.specs.Told.{Compiles, IsLoaded, IsRead, IsReady, IsShort, IsTooLong, Told, ToldCommand, ToldLarge}
use Rattle.rp_run.specs.Told.{ToldMay, ToldPlayed, ToldRefused, ToldRefusedRun, ToldRun, ToldScript, ToldUnread}
use Rattle.rp_run.specs.Told.{ToldUsed, all_ids, first_too_long, large_contents, large_lines, large_run, module_bytes}
use Rattle.rp_run.specs.Told.{module_names, read_into, said_to, script_prefix, scripts_of, too_long_line, unknown_line}
use Rattle.rp_words.specs.Command.{Command, Pair, Run, May, run, script, may, large, command_of, usage}
use Rattle.rp_tree.specs.Statements as stmt_tree
use Rattle.rp_tree.specs.StatementTrees.{Stmts}
use Rattle.rp_run_laws.proofs.OneFault.{no_faulty_program, one_fault}

some_one : {A : Type 0} (o : Option A) (a b : A) → o ≡ Some a → o ≡ Some b → a ≡ b
some_one {A = A} o a b e f = let same : ◌≡◌ {A = Option A} (Some a) (Some b) = sym e ∙ f in cc

some_none : {A : Type 0} (o : Option A) (a : A) → o ≡ Some a → o ≡ None → ⊥
some_none {A = A} o a e f = let same : ◌≡◌ {A = Option A} (Some a) None = sym e ∙ f in cc

-- ---- declarations

one_document : (bytes : List ℕ) (m n : Members) → IsDocument bytes m → IsDocument bytes n → m ≡ n
one_document bytes m n a b = some_one (parse_document bytes) m n a.1 b.1

one_result : (r : Result Declarations Refusal) (d e : Declarations) → r ≡ Ok d → r ≡ Ok e → d ≡ e
one_result r d e x y = let same : ◌≡◌ {A = Result Declarations Refusal} (Ok d) (Ok e) = sym x ∙ y in cc

one_error : (r : Result Declarations Refusal) (d e : Refusal) → r ≡ Err d → r ≡ Err e → d ≡ e
one_error r d e x y = let same : ◌≡◌ {A = Result Declarations Refusal} (Err d) (Err e) = sym x ∙ y in cc

not_both : (r : Result Declarations Refusal) (d : Declarations) (e : Refusal) → r ≡ Ok d → r ≡ Err e → ⊥
not_both r d e x y = let same : ◌≡◌ {A = Result Declarations Refusal} (Ok d) (Err e) = sym x ∙ y in cc

-- bytes declare one thing
one_reading : (bytes : List ℕ) (d e : Declarations) → Declares bytes d → Declares bytes e → d ≡ e
one_reading bytes d e x y =
    one_result (declares newest y.0) d e (ap (declares newest) (sym (one_document bytes x.0 y.0 x.1.0 y.1.0))
    ∙ x.1.1) y.1.1

one_refusal : (bytes : List ℕ) (d e : Refusal) → IsRefused bytes d → IsRefused bytes e → d ≡ e
one_refusal bytes d e x y =
    one_error (declares newest y.0) d e (ap (declares newest) (sym (one_document bytes x.0 y.0 x.1.0 y.1.0))
    ∙ x.1.1) y.1.1

read_or_refused : (bytes : List ℕ) (d : Declarations) (e : Refusal) → Declares bytes d → IsRefused bytes e → ⊥
read_or_refused bytes d e x y =
    not_both (declares newest y.0) d e (ap (declares newest) (sym (one_document bytes x.0 y.0 x.1.0 y.1.0))
    ∙ x.1.1) y.1.1

no_document : (bytes : List ℕ) (m : Members) → IsNoDocument bytes → IsDocument bytes m → ⊥
no_document bytes m none is = some_none (parse_document bytes) m is.1 (none is.0)

short_or_long : (bytes : List ℕ) → IsTooLong bytes → IsShort bytes → ⊥
short_or_long bytes long short = omega arith

-- the same text and the same status
abbrev pub Same : List ℕ → ℕ → List ℕ → ℕ → Type 0
Same a s b t = (a ≡ b) × (s ≡ t)

unread-once : (path bytes : List ℕ) (a : List ℕ) (s : ℕ) (b : List ℕ) (t : ℕ) → ToldUnread path bytes a s
    → ToldUnread path bytes b t → Same a s b t
unread-once path bytes a s b t (telling.ToldUnread.long l x y) (telling.ToldUnread.long m z w) = (x ∙ sym z, y ∙ sym w)
unread-once path bytes a s b t (telling.ToldUnread.long l x y) (telling.ToldUnread.not_toml h n z w) =
    absurd (short_or_long bytes l h)
unread-once path bytes a s b t (telling.ToldUnread.long l x y) (telling.ToldUnread.refused h r i z w) =
    absurd (short_or_long bytes l h)
unread-once path bytes a s b t (telling.ToldUnread.not_toml h n x y) (telling.ToldUnread.long l z w) =
    absurd (short_or_long bytes l h)
unread-once path bytes a s b t (telling.ToldUnread.not_toml h n x y) (telling.ToldUnread.not_toml k m z w) =
    (x ∙ sym z, y ∙ sym w)
unread-once path bytes a s b t (telling.ToldUnread.not_toml h n x y) (telling.ToldUnread.refused k r i z w) =
    absurd (no_document bytes i.0 n i.1.0)
unread-once path bytes a s b t (telling.ToldUnread.refused h r i x y) (telling.ToldUnread.long l z w) =
    absurd (short_or_long bytes l h)
unread-once path bytes a s b t (telling.ToldUnread.refused h r i x y) (telling.ToldUnread.not_toml k n z w) =
    absurd (no_document bytes i.0 n i.1.0)
unread-once path bytes a s b t (telling.ToldUnread.refused h r i x y) (telling.ToldUnread.refused k q j z w) =
    (x ∙ ap refusal_line (one_refusal bytes r q i j) ∙ sym z, y ∙ sym w)

unread-or-read : (path bytes : List ℕ) (a : List ℕ) (s : ℕ) (d : Declarations) → ToldUnread path bytes a s
    → IsRead bytes d → ⊥
unread-or-read path bytes a s d (telling.ToldUnread.long l x y) read = short_or_long bytes l read.short
unread-or-read path bytes a s d (telling.ToldUnread.not_toml h n x y) read =
    no_document bytes read.declares.0 n read.declares.1.0
unread-or-read path bytes a s d (telling.ToldUnread.refused h r i x y) read = read_or_refused bytes d r read.declares i

one_read : (bytes : List ℕ) (d e : Declarations) → IsRead bytes d → IsRead bytes e → d ≡ e
one_read bytes d e x y = one_reading bytes d e x.declares y.declares

-- ---- permissions

may-once : (m : May) (of : List ℕ → List ℕ) (a : List ℕ) (s : ℕ) (b : List ℕ) (t : ℕ) → ToldMay m of a s
    → ToldMay m of b t → Same a s b t
may-once m of a s b t (telling.ToldMay.unread u) (telling.ToldMay.unread v) =
    unread-once m.declarations (of m.declarations) a s b t u v
may-once m of a s b t (telling.ToldMay.unread u) (telling.ToldMay.unknown_principal e q j g z w) =
    absurd (unread-or-read m.declarations (of m.declarations) a s e u q)
may-once m of a s b t (telling.ToldMay.unread u) (telling.ToldMay.undeclared e q g k z w) =
    absurd (unread-or-read m.declarations (of m.declarations) a s e u q)
may-once m of a s b t (telling.ToldMay.unread u) (telling.ToldMay.told e q g k z w) =
    absurd (unread-or-read m.declarations (of m.declarations) a s e u q)
may-once m of a s b t (telling.ToldMay.unknown_principal d r i f x y) (telling.ToldMay.unread v) =
    absurd (unread-or-read m.declarations (of m.declarations) b t d v r)
may-once m of a s b t (telling.ToldMay.unknown_principal d r i f x y) (telling.ToldMay.unknown_principal e q j g z w) =
    let same = one_read (of m.declarations) d e r q in
    let id = some_one (first_unknown e m.ids) i j (ap (λ d. first_unknown d m.ids) (sym same) ∙ f) g in
    (x ∙ ap unknown_line id ∙ sym z, y ∙ sym w)
may-once m of a s b t (telling.ToldMay.unknown_principal d r i f x y) (telling.ToldMay.undeclared e q g k z w) =
    absurd (some_none (first_unknown e m.ids) i
    (ap (λ d. first_unknown d m.ids) (sym (one_read (of m.declarations) d e r q)) ∙ f) g)
may-once m of a s b t (telling.ToldMay.unknown_principal d r i f x y) (telling.ToldMay.told e q g k z w) =
    absurd (some_none (first_unknown e m.ids) i
    (ap (λ d. first_unknown d m.ids) (sym (one_read (of m.declarations) d e r q)) ∙ f) g)
may-once m of a s b t (telling.ToldMay.undeclared d r f h x y) (telling.ToldMay.unread v) =
    absurd (unread-or-read m.declarations (of m.declarations) b t d v r)
may-once m of a s b t (telling.ToldMay.undeclared d r f h x y) (telling.ToldMay.unknown_principal e q j g z w) =
    absurd (some_none (first_unknown d m.ids) j (ap (λ d. first_unknown d m.ids) (one_read (of m.declarations) d e r q)
    ∙ g) f)
may-once m of a s b t (telling.ToldMay.undeclared d r f h x y) (telling.ToldMay.undeclared e q g k z w) =
    (x ∙ sym z, y ∙ sym w)
may-once m of a s b t (telling.ToldMay.undeclared d r f h x y) (telling.ToldMay.told e q g k z w) =
    absurd (let both : false ≡ true = sym h
    ∙ ap (λ d. is_among d.permissions m.permission) (one_read (of m.declarations) d e r q) ∙ k in cc)
may-once m of a s b t (telling.ToldMay.told d r f h x y) (telling.ToldMay.unread v) =
    absurd (unread-or-read m.declarations (of m.declarations) b t d v r)
may-once m of a s b t (telling.ToldMay.told d r f h x y) (telling.ToldMay.unknown_principal e q j g z w) =
    absurd (some_none (first_unknown d m.ids) j (ap (λ d. first_unknown d m.ids) (one_read (of m.declarations) d e r q)
    ∙ g) f)
may-once m of a s b t (telling.ToldMay.told d r f h x y) (telling.ToldMay.undeclared e q g k z w) =
    absurd (let both : true ≡ false = sym h
    ∙ ap (λ d. is_among d.permissions m.permission) (one_read (of m.declarations) d e r q) ∙ k in cc)
may-once m of a s b t (telling.ToldMay.told d r f h x y) (telling.ToldMay.told e q g k z w) =
    let same = one_read (of m.declarations) d e r q in (
      x ∙ ap (λ d. may_text d m.ids m.permission) same ∙ sym z,
      y ∙ ap (λ d. may_status d m.ids m.permission) same
          ∙ sym w,
    )

-- ---- a script that is checked or shown

refused-once : (prefix bytes a b : List ℕ) → ToldRefused prefix bytes a → ToldRefused prefix bytes b → a ≡ b
refused-once prefix bytes a b (telling.ToldRefused.no_program f i x) (telling.ToldRefused.no_program g j z) = x
    ∙ ap (λ f. line prefix (fault_text f)) (one_fault bytes f g i j) ∙ sym z
refused-once prefix bytes a b (telling.ToldRefused.no_program f i x) (telling.ToldRefused.offends u p o z) =
    absurd (no_faulty_program bytes u f p i)
refused-once prefix bytes a b (telling.ToldRefused.offends v q n x) (telling.ToldRefused.no_program g j z) =
    absurd (no_faulty_program bytes v g q j)
refused-once prefix bytes a b (telling.ToldRefused.offends v q n x) (telling.ToldRefused.offends u p o z) =
    x ∙ ap (λ tree. flat_map (λ o. line prefix (offence_text o)) (offences tree)) (one_program bytes v u q p) ∙ sym z

refused-or-lawful : (prefix bytes a : List ℕ) (tree : Stmts (List ℕ)) → ToldRefused prefix bytes a
    → IsProgram bytes tree → offences tree ≡ [] → ⊥
refused-or-lawful prefix bytes a tree (telling.ToldRefused.no_program f i x) p o = no_faulty_program bytes tree f p i
refused-or-lawful prefix bytes a tree (telling.ToldRefused.offends v q n x) p o =
    n (ap offences (one_program bytes v tree q p) ∙ o)

script-once : (says : Stmts (List ℕ) → List ℕ) (path bytes : List ℕ) (a : List ℕ) (s : ℕ) (b : List ℕ) (t : ℕ)
    → ToldScript says path bytes a s → ToldScript says path bytes b t → Same a s b t
script-once says path bytes a s b t (telling.ToldScript.long l x y) (telling.ToldScript.long m z w) =
    (x ∙ sym z, y ∙ sym w)
script-once says path bytes a s b t (telling.ToldScript.long l x y) (telling.ToldScript.unaccepted h f w) =
    absurd (short_or_long bytes l h)
script-once says path bytes a s b t (telling.ToldScript.long l x y) (telling.ToldScript.accepted h u p o z w) =
    absurd (short_or_long bytes l h)
script-once says path bytes a s b t (telling.ToldScript.unaccepted h f y) (telling.ToldScript.long l z w) =
    absurd (short_or_long bytes l h)
script-once says path bytes a s b t (telling.ToldScript.unaccepted h f y) (telling.ToldScript.unaccepted k g w) =
    (refused-once [] bytes a b f g, y ∙ sym w)
script-once says path bytes a s b t (telling.ToldScript.unaccepted h f y) (telling.ToldScript.accepted k u p o z w) =
    absurd (refused-or-lawful [] bytes a u f p o)
script-once says path bytes a s b t (telling.ToldScript.accepted h v q n x y) (telling.ToldScript.long l z w) =
    absurd (short_or_long bytes l h)
script-once says path bytes a s b t (telling.ToldScript.accepted h v q n x y) (telling.ToldScript.unaccepted k g w) =
    absurd (refused-or-lawful [] bytes b v g q n)
script-once says path bytes a s b t (telling.ToldScript.accepted h v q n x y)
    (telling.ToldScript.accepted k u p o z w) = (x ∙ ap says (one_program bytes v u q p) ∙ sym z, y ∙ sym w)

-- ---- scripts

compiles-once : (k : ℕ) (scripts : List (List ℕ)) (ts us : List (Stmts (List ℕ))) (a b : List ℕ)
    → Compiles k scripts ts a → Compiles k scripts us b → (ts ≡ us) × (a ≡ b)
compiles-once k [] ts us a b telling.Compiles.no_more telling.Compiles.no_more = (refl, refl)
compiles-once k (bytes ∷ scripts) (t ∷ ts) (u ∷ us) a b (telling.Compiles.accepted x more)
    (telling.Compiles.accepted y rest) =
    let one = one_program bytes t u x.program y.program in
    let both = compiles-once (suc k) scripts ts us a b more rest in
    (λ i. one i ∷ both.0 i, both.1)
compiles-once k (bytes ∷ scripts) (t ∷ ts) us a b (telling.Compiles.accepted x more)
    (telling.Compiles.refused {text = text} y rest) =
    absurd (refused-or-lawful (script_prefix k) bytes text t y x.program x.lawful)
compiles-once k (bytes ∷ scripts) ts (u ∷ us) a b (telling.Compiles.refused {text = text} x more)
    (telling.Compiles.accepted y rest) =
    absurd (refused-or-lawful (script_prefix k) bytes text u x y.program y.lawful)
compiles-once k (bytes ∷ scripts) ts us a b (telling.Compiles.refused {text = t} {said = f} x more)
    (telling.Compiles.refused {text = u} {said = g} y rest) =
    let one = refused-once (script_prefix k) bytes t u x y in
    let both = compiles-once (suc k) scripts ts us f g more rest in
    (both.0, λ i. one i ++ both.1 i)

-- ---- a run

-- what the module of declarations comes to is one thing

module _ (d : Declarations) (cells : ℕ) where
  one_tree : (body others : stmt_tree.Stmts) (x y : Result World NoWorld) → (l : IsLoaded d cells body x)
      → (m : IsLoaded d cells others y) → l.tree ≡ m.tree
  one_tree body others x y l m = one_program (module_bytes d) l.tree m.tree l.program m.program

  one_body : (body others : stmt_tree.Stmts) (x y : Result World NoWorld) → IsLoaded d cells body x
      → IsLoaded d cells others y → body ≡ others
  one_body body others x y l m =
      one_numbering (placed (module_names d) m.tree) body others
      (subst (λ (tree : Stmts (List ℕ)). IsNumbered (placed (module_names d) tree) body) (one_tree body others x y l m)
      l.numbered) m.numbered

  one_loading : (body others : stmt_tree.Stmts) (x y : Result World NoWorld) → IsLoaded d cells body x
      → IsLoaded d cells others y → x ≡ y
  one_loading body others x y l m =
      sym l.comes
      ∙ ap (λ (b : stmt_tree.Stmts). load (run_of (module_names d) d b []) (module_names d) d cells)
      (one_body body others x y l m) ∙ m.comes

  one_world : (body others : stmt_tree.Stmts) (w v : World) → IsLoaded d cells body (Ok w)
      → IsLoaded d cells others (Ok v) → w ≡ v
  one_world body others w v l m =
      let same : ◌≡◌ {A = Result World NoWorld} (Ok w) (Ok v) = one_loading body others (Ok w) (Ok v) l m in cc

  one_cause : (body others : stmt_tree.Stmts) (f g : NoWorld) → IsLoaded d cells body (Err f)
      → IsLoaded d cells others (Err g) → f ≡ g
  one_cause body others f g l m =
      let same : ◌≡◌ {A = Result World NoWorld} (Err f) (Err g) = one_loading body others (Err f) (Err g) l m in cc

  world_or_not : (body others : stmt_tree.Stmts) (w : World) (f : NoWorld) → IsLoaded d cells body (Ok w)
      → IsLoaded d cells others (Err f) → ⊥
  world_or_not body others w f l m =
      let same : ◌≡◌ {A = Result World NoWorld} (Ok w) (Err f) = one_loading body others (Ok w) (Err f) l m in cc

-- the declarations of a run are one thing, and what follows from them too
module _ (r : Run) (of : List ℕ → List ℕ) where
  one : (d e : Declarations) → IsRead (of r.declarations) d → IsRead (of r.declarations) e → d ≡ e
  one d e x y = one_read (of r.declarations) d e x y

  -- what was loaded of one is loaded of the other
  there : (d e : Declarations) → IsRead (of r.declarations) d → IsRead (of r.declarations) e
      → (body : stmt_tree.Stmts) (x : Result World NoWorld) → IsLoaded d r.cells body x → IsLoaded e r.cells body x
  there d e p q body x l = subst (λ (d : Declarations). IsLoaded d r.cells body x) (one d e p q) l

  program_or_not : (d e : Declarations) → IsRead (of r.declarations) d → IsRead (of r.declarations) e
      → (fault : ProgramFault) → IsFault (module_bytes d) fault → (body : stmt_tree.Stmts) (x : Result World NoWorld)
      → IsLoaded e r.cells body x → ⊥
  program_or_not d e p q fault faulty body x l =
      no_faulty_program (module_bytes e) l.tree fault l.program
      (subst (λ (d : Declarations). IsFault (module_bytes d) fault) (one d e p q) faulty)

  loaded_or_not : (d e : Declarations) → IsRead (of r.declarations) d → IsRead (of r.declarations) e
      → (body others : stmt_tree.Stmts) (f : NoWorld) (w : World) → IsLoaded d r.cells body (Err f)
      → IsLoaded e r.cells others (Ok w) → ⊥
  loaded_or_not d e p q body others f w l m =
      world_or_not e r.cells others body w f m (there d e p q body (Err f) l)

  known_or_not : (d e : Declarations) → IsRead (of r.declarations) d → IsRead (of r.declarations) e → (id : List ℕ)
      → first_unknown d (all_ids r.pairs) ≡ Some id → first_unknown e (all_ids r.pairs) ≡ None → ⊥
  known_or_not d e x y id some none =
      some_none (first_unknown d (all_ids r.pairs)) id some (ap (λ d. first_unknown d (all_ids r.pairs)) (one d e x y)
      ∙ none)

  unread_or : (a : List ℕ) (s : ℕ) (d : Declarations) → ToldUnread r.declarations (of r.declarations) a s
      → IsRead (of r.declarations) d → ⊥
  unread_or a s d u read = unread-or-read r.declarations (of r.declarations) a s d u read

  long_or_not : (path : List ℕ) → first_too_long of r.pairs ≡ Some path → first_too_long of r.pairs ≡ None → ⊥
  long_or_not path some none = some_none (first_too_long of r.pairs) path some none

  -- scripts compile in one way
  compiled : (ts us : List (Stmts (List ℕ))) (a b : List ℕ) → Compiles 1 (scripts_of r of) ts a
      → Compiles 1 (scripts_of r of) us b → (ts ≡ us) × (a ≡ b)
  compiled ts us a b x y = compiles-once 1 (scripts_of r of) ts us a b x y

  -- what there is before the scripts is one thing
  pub ready-once : (d e : Declarations) (body others : stmt_tree.Stmts) (w v : World) (ts us : List (Stmts (List ℕ)))
      → IsReady r of d body w ts → IsReady r of e others v us → (d ≡ e) × (body ≡ others) × (w ≡ v) × (ts ≡ us)
  ready-once d e body others w v ts us x y =
      let l = there d e x.admitted.read y.admitted.read body (Ok w) x.admitted.loaded in
      let m = y.admitted.loaded in (
        one d e x.admitted.read y.admitted.read,
        one_body e r.cells body others (Ok w) (Ok v) l m,
        one_world e r.cells body others w v l m,
        (compiled ts us [] [] x.compiled y.compiled).0,
      )

  -- so what holds of what one ready run is made of holds of what another is
  pub ready-as : (P : stmt_tree.Stmts → World → List (Stmts (List ℕ)) → Type 0) (d e : Declarations)
      (body others : stmt_tree.Stmts) (w v : World) (ts us : List (Stmts (List ℕ))) → IsReady r of d body w ts
      → IsReady r of e others v us → P body w ts → P others v us
  ready-as P d e body others w v ts us x y p =
      let same = ready-once d e body others w v ts us x y in
      subst (λ (b : stmt_tree.Stmts). P b v us) same.1 (subst (λ (u : World). P body u us) same.2
      (subst (λ (ts : List (Stmts (List ℕ))). P body w ts) same.3 p))

  module _ (a : List ℕ) (s : ℕ) where
    -- a run that a step refuses is not ready
    pub refused-or-ready : (e : Declarations) (body : stmt_tree.Stmts) (w : World) (trees : List (Stmts (List ℕ)))
        → ToldRefusedRun r of a s → IsReady r of e body w trees → ⊥
    refused-or-ready e body w trees (telling.ToldRefusedRun.unread u) ready = unread_or a s e u ready.admitted.read
    refused-or-ready e body w trees (telling.ToldRefusedRun.no_module d p f i x y) ready =
        program_or_not d e p ready.admitted.read f i body (Ok w) ready.admitted.loaded
    refused-or-ready e body w trees (telling.ToldRefusedRun.no_world d p c f l x y) ready =
        loaded_or_not d e p ready.admitted.read c body f w l ready.admitted.loaded
    refused-or-ready e body w trees (telling.ToldRefusedRun.unknown_principal d p c v l i f x y) ready =
        known_or_not d e p ready.admitted.read i f ready.admitted.known
    refused-or-ready e body w trees (telling.ToldRefusedRun.long_script d c v p path l x y) ready =
        long_or_not path l ready.short
    refused-or-ready e body w trees (telling.ToldRefusedRun.scripts_refused d c v p l ts k some y) ready =
        some (compiled ts trees a [] k ready.compiled).1

    module _ (b : List ℕ) (t : ℕ) where
      refused-run-once : ToldRefusedRun r of a s → ToldRefusedRun r of b t → Same a s b t
      refused-run-once (telling.ToldRefusedRun.unread u)
          (telling.ToldRefusedRun.unread v) =
          unread-once r.declarations (of r.declarations) a s b t u v
      refused-run-once (telling.ToldRefusedRun.unread u)
          (telling.ToldRefusedRun.no_module e q g j z w) =
          absurd (unread_or a s e u q)
      refused-run-once (telling.ToldRefusedRun.unread u)
          (telling.ToldRefusedRun.no_world e q o g m z w) =
          absurd (unread_or a s e u q)
      refused-run-once (telling.ToldRefusedRun.unread u)
          (telling.ToldRefusedRun.unknown_principal e q o k m j g z w) =
          absurd (unread_or a s e u q)
      refused-run-once (telling.ToldRefusedRun.unread u)
          (telling.ToldRefusedRun.long_script e o k q other m z w) =
          absurd (unread_or a s e u q.read)
      refused-run-once (telling.ToldRefusedRun.unread u)
          (telling.ToldRefusedRun.scripts_refused e o k q m ts made much w) =
          absurd (unread_or a s e u q.read)
      refused-run-once (telling.ToldRefusedRun.no_module d p f i x y)
          (telling.ToldRefusedRun.unread v) =
          absurd (unread_or b t d v p)
      refused-run-once (telling.ToldRefusedRun.no_module d p f i x y)
          (telling.ToldRefusedRun.no_module e q g j z w) = (
            x ∙ ap (λ (fault : ProgramFault). line telling.module_prefix (fault_text fault))
                (one_fault (module_bytes e) f g
                (subst (λ (d : Declarations). IsFault (module_bytes d) f) (one d e p q) i) j)
                ∙ sym z,
            y ∙ sym w,
          )
      refused-run-once (telling.ToldRefusedRun.no_module d p f i x y)
          (telling.ToldRefusedRun.no_world e q o g m z w) =
          absurd (program_or_not d e p q f i o (Err g) m)
      refused-run-once (telling.ToldRefusedRun.no_module d p f i x y)
          (telling.ToldRefusedRun.unknown_principal e q o k m j g z w) =
          absurd (program_or_not d e p q f i o (Ok k) m)
      refused-run-once (telling.ToldRefusedRun.no_module d p f i x y)
          (telling.ToldRefusedRun.long_script e o k q other m z w) =
          absurd (program_or_not d e p q.read f i o (Ok k) q.loaded)
      refused-run-once (telling.ToldRefusedRun.no_module d p f i x y)
          (telling.ToldRefusedRun.scripts_refused e o k q m ts made much w) =
          absurd (program_or_not d e p q.read f i o (Ok k) q.loaded)
      refused-run-once (telling.ToldRefusedRun.no_world d p c f l x y)
          (telling.ToldRefusedRun.unread v) =
          absurd (unread_or b t d v p)
      refused-run-once (telling.ToldRefusedRun.no_world d p c f l x y)
          (telling.ToldRefusedRun.no_module e q g j z w) =
          absurd (program_or_not e d q p g j c (Err f) l)
      refused-run-once (telling.ToldRefusedRun.no_world d p c f l x y)
          (telling.ToldRefusedRun.no_world e q o g m z w) = (
            x ∙ ap no_world_line (one_cause e r.cells c o f g (there d e p q c (Err f) l) m) ∙ sym z,
            y ∙ sym w,
          )
      refused-run-once (telling.ToldRefusedRun.no_world d p c f l x y)
          (telling.ToldRefusedRun.unknown_principal e q o k m j g z w) =
          absurd (loaded_or_not d e p q c o f k l m)
      refused-run-once (telling.ToldRefusedRun.no_world d p c f l x y)
          (telling.ToldRefusedRun.long_script e o k q other m z w) =
          absurd (loaded_or_not d e p q.read c o f k l q.loaded)
      refused-run-once (telling.ToldRefusedRun.no_world d p c f l x y)
          (telling.ToldRefusedRun.scripts_refused e o k q m ts made much w) =
          absurd (loaded_or_not d e p q.read c o f k l q.loaded)
      refused-run-once (telling.ToldRefusedRun.unknown_principal d p c n l i f x y)
          (telling.ToldRefusedRun.unread v) =
          absurd (unread_or b t d v p)
      refused-run-once (telling.ToldRefusedRun.unknown_principal d p c n l i f x y)
          (telling.ToldRefusedRun.no_module e q g j z w) =
          absurd (program_or_not e d q p g j c (Ok n) l)
      refused-run-once (telling.ToldRefusedRun.unknown_principal d p c n l i f x y)
          (telling.ToldRefusedRun.no_world e q o g m z w) =
          absurd (loaded_or_not e d q p o c g n m l)
      refused-run-once (telling.ToldRefusedRun.unknown_principal d p c n l i f x y)
          (telling.ToldRefusedRun.unknown_principal e q o k m j g z w) = (
            x ∙ ap unknown_line
                (some_one (first_unknown e (all_ids r.pairs)) i j
                (ap (λ d. first_unknown d (all_ids r.pairs)) (sym (one d e p q)) ∙ f) g) ∙ sym z,
            y ∙ sym w,
          )
      refused-run-once (telling.ToldRefusedRun.unknown_principal d p c n l i f x y)
          (telling.ToldRefusedRun.long_script e o k q other m z w) =
          absurd (known_or_not d e p q.read i f q.known)
      refused-run-once (telling.ToldRefusedRun.unknown_principal d p c n l i f x y)
          (telling.ToldRefusedRun.scripts_refused e o k q m ts made much w) =
          absurd (known_or_not d e p q.read i f q.known)
      refused-run-once (telling.ToldRefusedRun.long_script d c n p path l x y)
          (telling.ToldRefusedRun.unread v) =
          absurd (unread_or b t d v p.read)
      refused-run-once (telling.ToldRefusedRun.long_script d c n p path l x y)
          (telling.ToldRefusedRun.no_module e q g j z w) =
          absurd (program_or_not e d q p.read g j c (Ok n) p.loaded)
      refused-run-once (telling.ToldRefusedRun.long_script d c n p path l x y)
          (telling.ToldRefusedRun.no_world e q o g m z w) =
          absurd (loaded_or_not e d q p.read o c g n m p.loaded)
      refused-run-once (telling.ToldRefusedRun.long_script d c n p path l x y)
          (telling.ToldRefusedRun.unknown_principal e q o k m j g z w) =
          absurd (known_or_not e d q p.read j g p.known)
      refused-run-once (telling.ToldRefusedRun.long_script d c n p path l x y)
          (telling.ToldRefusedRun.long_script e o k q other m z w) =
          (x ∙ ap too_long_line (some_one (first_too_long of r.pairs) path other l m) ∙ sym z, y ∙ sym w)
      refused-run-once (telling.ToldRefusedRun.long_script d c n p path l x y)
          (telling.ToldRefusedRun.scripts_refused e o k q m ts made much w) =
          absurd (long_or_not path l m)
      refused-run-once (telling.ToldRefusedRun.scripts_refused d c n p l us h some y)
          (telling.ToldRefusedRun.unread v) =
          absurd (unread_or b t d v p.read)
      refused-run-once (telling.ToldRefusedRun.scripts_refused d c n p l us h some y)
          (telling.ToldRefusedRun.no_module e q g j z w) =
          absurd (program_or_not e d q p.read g j c (Ok n) p.loaded)
      refused-run-once (telling.ToldRefusedRun.scripts_refused d c n p l us h some y)
          (telling.ToldRefusedRun.no_world e q o g m z w) =
          absurd (loaded_or_not e d q p.read o c g n m p.loaded)
      refused-run-once (telling.ToldRefusedRun.scripts_refused d c n p l us h some y)
          (telling.ToldRefusedRun.unknown_principal e q o k m j g z w) =
          absurd (known_or_not e d q p.read j g p.known)
      refused-run-once (telling.ToldRefusedRun.scripts_refused d c n p l us h some y)
          (telling.ToldRefusedRun.long_script e o k q other m z w) =
          absurd (long_or_not other m l)
      refused-run-once (telling.ToldRefusedRun.scripts_refused d c n p l us h some y)
          (telling.ToldRefusedRun.scripts_refused e o k q m ts made much w) =
          ((compiled us ts a b h made).1, y ∙ sym w)

-- ---- what scripts come to

head_of : {A : Type 0} {x y : A} → x ∷ [] ≡ y ∷ [] → x ≡ y
head_of e = cc

-- what was told of sessions tells what they came to
back : Option SessionEnd × List ℕ → Finished
back t = (unwrap_or t.0 well, t.1)

told-back : (fs : List Finished) → map back (map as_told fs) ≡ fs
unfolding back
told-back [] = refl
told-back (f ∷ fs) = ap (λ (more : List Finished). f ∷ more) (told-back fs)

one_telling : (fs gs : List Finished) → map as_told fs ≡ map as_told gs → fs ≡ gs
one_telling fs gs e = sym (told-back fs) ∙ ap (map back) e ∙ told-back gs

-- what the same scripts come to
played-as : (r : Run) (body : stmt_tree.Stmts) (w : World) (trees : List (Stmts (List ℕ))) (a : List ℕ) (s : ℕ)
    (sessions : List Finished) (log : List Entry)
    → Plays w body trees (map (λ (p : Pair). p.ids) r.pairs) r.turns r.steps (map as_told sessions) log
    → ToldPlayed r body w trees a s → Same a s (run_text r sessions log) (run_status sessions)
played-as r body w trees a s sessions log plays x =
    let once = plays-once w body trees (map (λ (p : Pair). p.ids) r.pairs) r.turns r.steps (map as_told x.sessions)
    (map as_told sessions) x.log log x.plays plays in
    let same = one_telling x.sessions sessions once.0 in
    (x.said ∙ (λ i. run_text r (same i) (once.1 i)), x.ends ∙ ap run_status same)

module _ (r : Run) (of : List ℕ → List ℕ) (a : List ℕ) (s : ℕ) where
  -- what is told where a step refuses
  told-refused : (b : List ℕ) (t : ℕ) → ToldRun r of a s → ToldRefusedRun r of b t → Same a s b t
  told-refused b t (telling.ToldRun.refused x) y = refused-run-once r of a s b t x y
  told-refused b t (telling.ToldRun.played d body w ts x u) y = absurd (refused-or-ready r of b t d body w ts y x)

  module _ (d : Declarations) (body : stmt_tree.Stmts) (w : World) (trees : List (Stmts (List ℕ)))
      (ready : IsReady r of d body w trees) where
    -- where none does, these scripts come to it
    pub told-played : ToldRun r of a s → ToldPlayed r body (read_into (scripts_of r of) w) trees a s
    told-played (telling.ToldRun.refused x) = absurd (refused-or-ready r of a s d body w trees x ready)
    told-played (telling.ToldRun.played e others v us y told) =
        ready-as r of (λ b u ts. ToldPlayed r b (read_into (scripts_of r of) u) ts a s) e d others body v w us trees y
        ready told

    told-ran : (sessions : List Finished) (log : List Entry)
        → Plays (read_into (scripts_of r of) w) body trees (map (λ (p : Pair). p.ids) r.pairs) r.turns r.steps
        (map as_told sessions) log → ToldRun r of a s → Same a s (run_text r sessions log) (run_status sessions)
    told-ran sessions log plays told =
        played-as r body (read_into (scripts_of r of) w) trees a s sessions log plays (told-played told)

module _ (r : Run) (of : List ℕ → List ℕ) (a : List ℕ) (s : ℕ) (b : List ℕ) (t : ℕ) where
  run-once : ToldRun r of a s → ToldRun r of b t → Same a s b t
  run-once (telling.ToldRun.refused x) y =
      let same = told-refused r of b t a s y x in
      (sym same.0, sym same.1)
  run-once (telling.ToldRun.played d body w ts ready x) y =
      let same = told-ran r of b t d body w ts ready x.sessions x.log x.plays y in
      (x.said ∙ sym same.0, x.ends ∙ sym same.1)

-- ---- the large input

-- the only session, as its script came to these worlds
one_only : (v w : World) (j k : Session) → v ≡ w → v.sessions ≡ j ∷ [] → w.sessions ≡ k ∷ [] → j ≡ k
one_only v w j k same only_j only_k = head_of (sym only_j ∙ ap (λ (u : World). u.sessions) same ∙ only_k)

-- what the same script comes to
used-as : (r : Run) (n : ℕ) (body : stmt_tree.Stmts) (w : World) (trees : List (Stmts (List ℕ))) (a : List ℕ) (s : ℕ)
    (last : World) → Reaches w body trees (map (λ (p : Pair). p.ids) r.pairs) r.turns r.steps last
    → (session : Session) → last.sessions ≡ session ∷ []
    → (fs : List Finished) → map as_told fs ≡ map told_of last.sessions → ToldUsed r n body w trees a s
    → Same a s (large_lines n ++ used_lines (r.steps - session.steps) last.store.used (length last.log)
    ++ run_text r fs last.log) (run_status fs)
used-as r n body w trees a s last reaches session only fs are x =
    let same : x.last ≡ last = reaches-once w body trees (map (λ (p : Pair). p.ids) r.pairs) r.turns r.steps x.last last
    x.reaches reaches in
    let it : x.session ≡ session = one_only x.last last x.session session same x.only only in
    let each : x.finished ≡ fs = one_telling x.finished fs (x.told
    ∙ ap (λ (v : World). map told_of v.sessions) same ∙ sym are) in (
      x.said
          ∙ (λ i. large_lines n ++ used_lines (r.steps - (it i).steps) (same i).store.used (length (same i).log)
          ++ run_text r (each i) (same i).log),
      x.ends ∙ ap run_status each,
    )

module _ (r : Run) (of : List ℕ → List ℕ) (n : ℕ) (a : List ℕ) (s : ℕ) where
  -- what is told where a step refuses
  large-refused : (b : List ℕ) (t : ℕ) → ToldLarge r of n a s → ToldRefusedRun r of b t → Same a s b t
  large-refused b t (telling.ToldLarge.refused x) y = refused-run-once r of a s b t x y
  large-refused b t (telling.ToldLarge.played d body w ts x u) y = absurd (refused-or-ready r of b t d body w ts y x)

  -- and what it comes to where none does
  large-ran : (d : Declarations) (body : stmt_tree.Stmts) (w : World) (trees : List (Stmts (List ℕ)))
      → IsReady r of d body w trees → (last : World)
      → Reaches (read_into (scripts_of r of) w) body trees (map (λ (p : Pair). p.ids) r.pairs) r.turns r.steps last
      → (session : Session) → last.sessions ≡ session ∷ []
      → (fs : List Finished) → map as_told fs ≡ map told_of last.sessions → ToldLarge r of n a s
      → Same a s (large_lines n ++ used_lines (r.steps - session.steps) last.store.used (length last.log)
      ++ run_text r fs last.log) (run_status fs)
  large-ran d body w trees ready last reaches session only fs are (telling.ToldLarge.refused x) =
      absurd (refused-or-ready r of a s d body w trees x ready)
  large-ran d body w trees ready last reaches session only fs are (telling.ToldLarge.played e others v us y u) =
      let used = ready-as r of (λ b u ts. ToldUsed r n b (read_into (scripts_of r of) u) ts a s) e d others body v w us
      trees y ready u in
      used-as r n body (read_into (scripts_of r of) w) trees a s last reaches session only fs are used

module _ (r : Run) (of : List ℕ → List ℕ) (n : ℕ) (a : List ℕ) (s : ℕ) (b : List ℕ) (t : ℕ) where
  large-once : ToldLarge r of n a s → ToldLarge r of n b t → Same a s b t
  large-once (telling.ToldLarge.refused x) y =
      let same = large-refused r of n b t a s y x in
      (sym same.0, sym same.1)
  large-once (telling.ToldLarge.played d body w ts ready x) y =
      let same = large-ran r of n b t d body w ts ready x.last x.reaches x.session x.only x.finished x.told y in
      (x.said ∙ sym same.0, x.ends ∙ sym same.1)

-- ---- the program

module _ (of : List ℕ → List ℕ) (a : List ℕ) (s : ℕ) (b : List ℕ) (t : ℕ) where
  command-once : (command : Command) → ToldCommand command of a s → ToldCommand command of b t → Same a s b t
  command-once (run r) x y = run-once r of a s b t x y
  command-once (script q path) x y = script-once (said_to q) path (of path) a s b t x y
  command-once (may m) x y = may-once m of a s b t x y
  command-once (large n) x y = large-once large_run (large_contents n) n a s b t x y

-- Whatever is told to the same words and contents is the same text, with the same status.
pub told-once : (words : List (List ℕ)) (contents : List ℕ → List ℕ) (a : List ℕ) (s : ℕ) (b : List ℕ) (t : ℕ)
    → Told words contents a s → Told words contents b t → (a ≡ b) × (s ≡ t)
told-once words contents a s b t x y = by (command_of words) x y
  where
    by : (o : Option Command)
        → MatchOption o ((a ≡ usage) × (s ≡ 2)) (λ command. ToldCommand command contents a s)
        → MatchOption o ((b ≡ usage) × (t ≡ 2)) (λ command. ToldCommand command contents b t)
        → (a ≡ b) × (s ≡ t)
    by None x y = (x.0 ∙ sym y.0, x.1 ∙ sym y.1)
    by (Some command) x y = command-once contents a s b t command x y
