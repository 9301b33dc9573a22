-- What is told of a script to what is asked about it.
use Rattle.std.proofs.Common.{◌≡◌, ◌≢◌, ◌++◌, ◌∙◌, ℕ, List, [], ◌∷◌, map, chars, codes, Option, Some, None, Result, Ok}
use Rattle.std.proofs.Common.{Err, IfOk, OnOk, IfSome, ap, sym, subst, refl}
use Rattle.std.specs.List.{flat_map}
use Rattle.rp_base.specs.Names.{word_of}
use Rattle.rp_base.specs.declared.memory.Memory.{Memory as MemoryFault}
use Rattle.rp_base.specs.declared.value.Name.{Name}
use Rattle.rp_script.specs.Refusal.{IsRefused, line, offence_line, refusal_lines}
use Rattle.rp_script.specs.declared.refusal.Refusal.{Refusal}
use Rattle.rp_script.specs.declared.refusal.Refusal.TheVariants as refusal
use Rattle.rp_policy.specs.Offences.{offence_named, offence_text, offences}
use Rattle.rp_policy.proofs.Renamed.{offences-unnumbered}
use Rattle.rp_policy.specs.declared.offence.Offence.{Offence}
use Rattle.rp_program.specs.declared.fault.ProgramFault.TheVariants as fault
use Rattle.rp_run.specs.Refusals.{IsLong, IsWhole, OnRefusal, RefusesLong}
use Rattle.rp_run.specs.declared.stop.Stop.{Stop}
use Rattle.rp_run.proofs.Sayings.{refused_as}
use Rattle.rp_program.specs.Program.{IsProgram}
use Rattle.rp_run.specs.declared.answer.Answer.{Answer}
use Rattle.rp_compile.specs.Compiled.{Compilation, IsCompiled, source_tree}
use Rattle.rp_print.proofs.Renamed.{printed_unnumbered}
use Rattle.rp_print.specs.Statements.{printed}
use Rattle.rp_words.specs.declared.command.Question.TheVariants.{Show}
use Rattle.rp_tree.specs.StatementViews.{view_tree}
use Rattle.rp_tree.specs.declared.stmt.Tree.{Tree}
use Rattle.rp_tree.specs.Maps.{after, named, names_by, no_blocks, without_blocks}
use Rattle.rp_tree.specs.Marks.{Rewrites, guard, table}
use Rattle.rp_tree.specs.StatementTrees.{Stmts}
use Rattle.rp_tree.proofs.MapLaws.{stmts_after}
use Rattle.rp_tree.proofs.MarkLaws.{rewritten}
use Rattle.rp_run.specs.Told as told
use Rattle.rp_run.specs.Told.{IsShort, ToldRefused, ToldScript, too_long_line}

-- what is said to a question about a script
abbrev pub TellsAsked : (Stmts (List ℕ) → List ℕ) → List ℕ → Option (List ℕ → List ℕ) → List ℕ → ℕ → Type 0
TellsAsked says path contents text status = IfSome contents (λ of. ToldScript says path (of path) text status)

pub tells_long : (says : Stmts (List ℕ) → List ℕ) (path : List ℕ) (contents : Option (List ℕ → List ℕ)) (text : List ℕ)
    (status : ℕ)
    → IsLong contents path → text ≡ too_long_line path → status ≡ 9 → TellsAsked says path contents text status
tells_long says path None text status long said ended = tt
tells_long says path (Some of) text status long said ended = told.ToldScript.long long said ended

pub long_script : (says : Stmts (List ℕ) → List ℕ) (path : List ℕ) (contents : Option (List ℕ → List ℕ)) (stop : Stop)
    → OnRefusal (RefusesLong contents path) stop → OnRefusal (λ a. TellsAsked says path contents a.text a.status.0) stop
long_script says path contents stop refused =
    refused_as (RefusesLong contents path) (λ a. TellsAsked says path contents a.text a.status.0) stop (λ a long.
    tells_long says path contents a.text a.status.0 long.0 long.1 long.2) refused

pub tells_whole : (says : Stmts (List ℕ) → List ℕ) (path bytes : List ℕ) (contents : Option (List ℕ → List ℕ))
    (text : List ℕ) (status : ℕ)
    → IsWhole contents bytes path → ((path : List ℕ) → IsShort bytes → ToldScript says path bytes text status)
    → TellsAsked says path contents text status
tells_whole says path bytes None text status whole tells = tt
tells_whole says path bytes (Some of) text status whole tells =
    subst (λ file. ToldScript says path file text status) whole.0 (tells path (subst IsShort (sym whole.0) whole.1))

-- the line of an offence whose name is a text
abbrev offence_told : List ℕ → Offence (List ℕ) → List ℕ
offence_told prefix o = line prefix (offence_text o)

lines : (words : List (List ℕ)) (prefix : List ℕ) (found : List (Offence Name))
    → flat_map (offence_line words prefix) found ≡ flat_map (offence_told prefix)
    (map (offence_named (word_of words)) found)
lines words prefix [] = refl
lines words prefix (o ∷ os) = ap (λ (rest : List ℕ). offence_line words prefix o ++ rest) (lines words prefix os)

mapped : {A B : Type 0} (f : A → B) (xs : List A) (ys : List B) → map f xs ≡ ys → xs ≢ [] → ys ≢ []
mapped f [] ys same some none = some refl
mapped f (x ∷ xs) ys same some none = absurd (cc)

pub told_refused : (prefix bytes text : List ℕ) (words : List (List ℕ)) (r : Refusal) → IsRefused words bytes r
    → text ≡ refusal_lines words prefix r → ToldRefused prefix bytes text
told_refused prefix bytes text words (refusal.NotUtf8 n) is said = told.no_program (fault.NotUtf8 n) is said
told_refused prefix bytes text words (refusal.Token f) is said = told.no_program (fault.Token f) is said
told_refused prefix bytes text words (refusal.Format at) is said = told.no_program (fault.Format at) is said
told_refused prefix bytes text words (refusal.Syntax at) is said = told.no_program (fault.Syntax at) is said
told_refused prefix bytes text words (refusal.Offences found) is said =
    told.offends is.tree is.program (mapped _ found.items _ is.all is.some) (said ∙ lines words prefix found.items
    ∙ ap (flat_map (offence_told prefix)) is.all)
told_refused prefix bytes text words refusal.Memory is said = absurd is

-- what is told of a script that is read
abbrev TellsScript : (Stmts (List ℕ) → List ℕ) → List ℕ → Result Answer MemoryFault → Type 0
TellsScript says bytes r = IfOk r (λ a. (path : List ℕ) → IsShort bytes → ToldScript says path bytes a.text a.status.0)

pub tells_accepted : (says : Stmts (List ℕ)
    → List ℕ) (bytes : List ℕ) (tree : Stmts (List ℕ)) (r : Result Answer MemoryFault)
    → IfOk r (λ a. (a.text ≡ says tree) × (a.status.0 ≡ 0)) → IsProgram bytes tree → offences tree ≡ []
    → TellsScript says bytes r
tells_accepted says bytes tree (Ok a) said program lawful = λ path short.
    told.ToldScript.accepted short tree program lawful said.0 said.1
tells_accepted says bytes tree (Err e) said program lawful = tt

pub tells_unaccepted : (says : Stmts (List ℕ) → List ℕ) (bytes : List ℕ) (words : List (List ℕ)) (why : Refusal)
    (r : Result Answer MemoryFault) → (why ≢ refusal.Memory → IsRefused words bytes why)
    → IfOk r (λ a. (a.text ≡ refusal_lines words [] why) × (a.status.0 ≡ 4)) → OnOk r (why ≢ refusal.Memory)
    → TellsScript says bytes r
tells_unaccepted says bytes words why (Ok a) refused said other = λ path short.
    told.unaccepted short (told_refused [] bytes a.text words why (refused other) said.0) said.1
tells_unaccepted says bytes words why (Err e) refused said other = tt

-- guards, words for names and taking off the numbers of code blocks may come in any order
guarded_words : (word : Name → List ℕ) (source : Stmts Name)
    → without_blocks (named word (guard source)) ≡ guard (without_blocks (named word source))
guarded_words word source =
    stmts_after (names_by word) no_blocks (guard source) ∙ stmts_after table (after (names_by word) no_blocks) source
    ∙ sym (stmts_after no_blocks table (named word source) ∙ stmts_after (names_by word) (after no_blocks table) source)

-- the tree that runs is printed as the source with its guards
pub printed_guarded : (words : List (List ℕ)) (source result : Stmts Name) → Rewrites source result
    → printed (named (word_of words) result) ≡ printed (guard (without_blocks (named (word_of words) source)))
printed_guarded words source result rewrites =
    ap (λ (tree : Stmts Name). printed (named (word_of words) tree)) (sym (rewritten source result rewrites).1)
    ∙ sym (printed_unnumbered (λ word. word) (named (word_of words) (guard source)))
    ∙ ap printed (guarded_words (word_of words) source)

-- what is told of a script that is shown
pub tells_shown : (bytes : List ℕ) (words : List (List ℕ)) (c : Compilation) (tree : Tree) (line : List ℕ)
    (r : Result Answer MemoryFault)
    → IsProgram bytes (without_blocks (named (word_of words) (source_tree c)))
    → offences (named (word_of words) (source_tree c)) ≡ []
    → IsCompiled c → tree ≡ c.rewritten → chars line ≡ printed (named (word_of words) (view_tree tree))
    → IfOk r (λ a. (a.text ≡ chars line) × (a.status.0 ≡ 0)) → TellsScript (told.said_to Show) bytes r
tells_shown bytes words c tree line (Ok a) program lawful kept is text said = λ path short.
    let source : Stmts (List ℕ) = named (word_of words) (source_tree c) in
    told.ToldScript.accepted short (without_blocks source) program (offences-unnumbered (λ word. word) source ∙ lawful)
    (said.0 ∙ text ∙ ap (λ (t : Tree). printed (named (word_of words) (view_tree t))) is
    ∙ printed_guarded words (source_tree c) (view_tree c.rewritten) kept.rewrites) said.1
tells_shown bytes words c tree line (Err e) program lawful kept is text said = tt
