-- What stands against a script whose statements were looked at one after another.
use Rattle.std.proofs.Common.{◌≡◌, ◌≢◌, refl, sym, ap, ◌∙◌, subst, ℕ, List, [], ◌∷◌, ◌++◌, map}
use Rattle.std.proofs.Common.{append-nil, append_assoc}
use Rattle.std.specs.List.{filter_map}
use Rattle.std.proofs.lemmas.List.Elements.{filter_map-append}
use Rattle.rp_base.specs.Names.{word_of}
use Rattle.rp_base.specs.declared.value.Name.{Name}
use Rattle.rp_grammar.specs.Kinds.{Tokens}
use Rattle.rp_grammar.specs.Statements.{joined}
use Rattle.rp_parse.specs.Visits.{TakesTree, no_stmts}
use Rattle.rp_policy.specs.Offences.{offence, offence_named, offences, offences_by}
use Rattle.rp_policy.specs.Spots.{spots, stmt_spots, stmts_spots}
use Rattle.rp_policy.specs.declared.offence.Offence.{Offence}
use Rattle.rp_policy.specs.declared.spot.Suite.{Suite}
use Rattle.rp_policy.specs.declared.spot.Suite.TheVariants.{Other}
use Rattle.rp_policy.proofs.Renamed.{offences-named}
use Rattle.rp_program.specs.Fault.{IsFault}
use Rattle.rp_program.specs.Program.{IsProgram, IsRead}
use Rattle.rp_program.specs.declared.fault.ProgramFault.{ProgramFault}
use Rattle.rp_program.specs.declared.fault.ProgramFault.TheVariants as fault
use Rattle.rp_program.proofs.Programs.{one_program, read_program}
use Rattle.rp_tree.specs.Maps.{named}
use Rattle.rp_tree.specs.StatementTrees as stmt_trees
use Rattle.rp_tree.specs.Statements.{Stmts}
use Rattle.rp_script.specs.Refusal.{HasOffences, IsLawful, IsRefused, from_program}
use Rattle.rp_script.specs.Reviews.{Reviewed, Reviews}
use Rattle.rp_script.specs.declared.refusal.Refusal.{Refusal}
use Rattle.rp_script.specs.declared.refusal.Refusal.TheVariants as refusal

-- the spots of statements behind others stand behind those of the others
spots-joined : (suite : Suite) (xs ys : Stmts)
    → stmts_spots suite (joined xs ys) ≡ stmts_spots suite xs ++ stmts_spots suite ys
spots-joined suite stmt_trees.no_stmts ys = refl
spots-joined suite (stmt_trees.stmt x xs) ys =
    ap (λ found. stmt_spots suite x ++ found) (spots-joined suite xs ys)
    ∙ sym (append_assoc (stmt_spots suite x) _ _)

-- and so do their offences
pub offences-joined : (word : Name → List ℕ) (xs ys : Stmts)
    → offences_by word (joined xs ys) ≡ offences_by word xs ++ offences_by word ys
unfolding offences_by
offences-joined word xs ys =
    ap (filter_map (offence word)) (spots-joined Other xs ys)
    ∙ filter_map-append (offence word) (spots xs) (spots ys)

-- before the first statement
pub reviews_none : (start : Reviewed) → Reviews start no_stmts start
unfolding offences_by
reviews_none start = record { words = refl; found = sym (append-nil start.found) }

-- further statements
pub reviews_further : (start before : Reviewed) (taken next : Stmts) (words : List (List ℕ))
    (old more new : List (Offence Name)) → Reviews start taken before → record { words = words; found = old } ≡ before
    → more ≡ offences_by (word_of words) next → new ≡ old ++ more
    → Reviews start (joined taken next) (record { words = words; found = new })
reviews_further start before taken next words old more new reviews is found added =
    let same : words ≡ start.words = ap (λ r. r.words) is ∙ reviews.words in
    record {
      words = same;
      found =
          added
          ∙ (λ i. (ap (λ r. r.found) is ∙ reviews.found) i ++ (found ∙ (λ k. offences_by (word_of (same k)) next)) i)
          ∙ append_assoc start.found _ _
          ∙ ap (λ xs. start.found ++ xs) (sym (offences-joined (word_of start.words) taken next));
    }

-- ---- a script of which all statements were looked at

-- The bytes are a program, and these are all offences of its tree.
pub record HasAll (words : List (List ℕ)) (bytes : List ℕ) (found : List (Offence Name)) : Type 0 where
  pub tree : stmt_trees.Stmts (List ℕ)
  pub program : IsProgram bytes tree
  pub all : map (offence_named (word_of words)) found ≡ offences tree

pub has_all : (words : List (List ℕ)) (bytes : List ℕ) (ts : Tokens) (start end : Reviewed)
    (found : List (Offence Name)) → IsRead bytes words ts → start ≡ record { words = words; found = [] }
    → TakesTree Reviews start ts end → found ≡ end.found → HasAll words bytes found
has_all words bytes ts start end found read begins takes is =
    let word : Name → List ℕ = word_of words in
    let same : found ≡ offences_by word takes.tree =
    is ∙ takes.taken.found ∙ (λ i. (begins i).found ++ offences_by (word_of (begins i).words) takes.tree) in
    record {
      tree = named word takes.tree;
      program = read_program bytes words ts read takes.tree takes.spelled;
      all = ap (map (offence_named word)) same ∙ sym (offences-named word takes.tree);
    }

pub is_lawful : (words : List (List ℕ)) (bytes : List ℕ) (found : List (Offence Name)) → HasAll words bytes found
    → found ≡ [] → IsLawful bytes
is_lawful words bytes found has none = record {
  tree = has.tree;
  program = has.program;
  none = sym has.all ∙ ap (map (offence_named (word_of words))) none;
}

pub has_offences : (words : List (List ℕ)) (bytes : List ℕ) (found : List (Offence Name)) → HasAll words bytes found
    → found ≢ [] → HasOffences words bytes found
has_offences words bytes found has some = record {
  tree = has.tree;
  program = has.program;
  all = has.all;
  some = some;
}

-- where nothing stands against the program, nothing was found
pub none_found : (words : List (List ℕ)) (bytes : List ℕ) (found : List (Offence Name)) → HasAll words bytes found
    → (tree : stmt_trees.Stmts (List ℕ)) → IsProgram bytes tree → offences tree ≡ [] → found ≡ []
none_found words bytes found has tree is lawful =
    none found (has.all ∙ ap offences (one_program bytes has.tree tree has.program is) ∙ lawful)
  where
    none : (found : List (Offence Name)) → map (offence_named (word_of words)) found ≡ [] → found ≡ []
    none [] e = refl
    none (x ∷ xs) e = absurd cc

-- ---- bytes that are no program

-- their refusal
pub is_refused : (words : List (List ℕ)) (bytes : List ℕ) (f : ProgramFault) → (f ≢ fault.Memory → IsFault bytes f)
    → (r : Refusal) → r ≡ from_program f → r ≢ refusal.Memory → IsRefused words bytes r
is_refused words bytes f wrong r is other =
    subst (IsRefused words bytes) (sym is) (by f wrong (λ e. other (is ∙ ap from_program e)))
  where
    by : (f : ProgramFault) → (f ≢ fault.Memory → IsFault bytes f) → f ≢ fault.Memory
        → IsRefused words bytes (from_program f)
    by (fault.NotUtf8 n) wrong some = wrong some
    by (fault.Token f) wrong some = wrong some
    by (fault.Format line) wrong some = wrong some
    by (fault.Syntax line) wrong some = wrong some
    by fault.Memory wrong some = wrong some
