-- Programs have one tree, and bytes that are at fault have none.
use Rattle.std.proofs.Common.{◌≡◌, ◌≢◌, refl, sym, ap, ◌∙◌, subst, ℕ, List, ◌++◌, map, chars, IsUtf8, Result, Ok, Err}
use Rattle.std.specs.List.{All}
use Rattle.rp_base.specs.Names.{HoldsEachOnce, word_of}
use Rattle.rp_base.specs.declared.value.Name.{Name}
use Rattle.rp_grammar.specs.Kinds.{Tokens, line_at}
use Rattle.rp_grammar.specs.Program.{IsLongestGood, Spells}
use Rattle.rp_grammar.proofs.Renamed.{IsInjective, renamed_stmts, renamed_tokens}
use Rattle.rp_grammar.proofs.StatementComplete.{one_tree}
use Rattle.rp_more.specs.declared.fault.MoreFault.{MoreFault}
use Rattle.rp_more.specs.declared.fault.MoreFault.TheVariants as more
use Rattle.rp_more.specs.Expanded.{expanded}
use Rattle.rp_parse.specs.declared.fault.ParseFault.{ParseFault}
use Rattle.rp_parse.specs.declared.fault.ParseFault.TheVariants as parse
use Rattle.rp_token.specs.declared.fault.TokenFault.{TokenFault}
use Rattle.rp_token.specs.declared.fault.TokenFault.TheVariants as token
use Rattle.rp_token.specs.Form.{Item}
use Rattle.rp_token.specs.Tokens.{tokens_of}
use Rattle.rp_token.specs.View.{IsHeld, item_view}
use Rattle.rp_tree.specs.Maps.{named, names_by}
use Rattle.rp_tree.specs.StatementTrees.{Stmts}
use Rattle.rp_tree.proofs.MapLaws.{stmts_after}
use Rattle.rp_program.specs.Fault.{IsFault, from_parse}
use Rattle.rp_program.specs.Program.{HasItems, HasTokens, IsProgram, IsRead, SpellTree}
use Rattle.rp_program.specs.declared.fault.ProgramFault.{ProgramFault}
use Rattle.rp_program.specs.declared.fault.ProgramFault.TheVariants as fault
use Rattle.rp_program.proofs.Numbered.{injective, renumbered, word_kept}
use Rattle.rp_program.proofs.Renaming.{spells_before, spells_there}
use Rattle.rp_program.proofs.Spelled.{spelled_expanded}
use Rattle.rp_program.proofs.Unique.{tokens_told}
use Rattle.rp_program.proofs.Words.{end_stands, front_stands}

-- by the tokens of the text, and what they were expanded to
pub is_read : (bytes : List ℕ) (first names : List (List ℕ)) (given ts : Tokens) → IsUtf8 bytes → HoldsEachOnce names → All (IsHeld names) ts
    → tokens_of (chars bytes) ≡ Ok (map (item_view first) given) → expanded (map (item_view first) given) ≡ Ok (map (item_view names) ts) → IsRead bytes names ts
is_read bytes first names given ts text distinct held read expansion = record {
  has = record { text = text; given = map (item_view first) given; read = read; expansion = expansion };
  are = record {
    distinct = distinct;
    held = held;
    spelled = spelled_expanded (chars bytes) (map (item_view first) given) names ts read expansion;
    are = refl;
  };
}

-- a tree that such tokens spell, by the words of its names
pub read_program : (bytes : List ℕ) (names : List (List ℕ)) (ts : Tokens) → IsRead bytes names ts → (tree : Stmts Name) → Spells tree ts → IsProgram bytes (named (word_of names) tree)
read_program bytes names ts read tree spells = record {
  items = map (item_view names) ts;
  has = read.has;
  spell = record { words = names; tokens = ts; has = read.are; numbered = tree; spells = spells; is = refl };
}

-- a tree with its names renumbered has the same words
pub tree_kept : (f : Name → Name) (names words : List (List ℕ)) → ((n : Name) → word_of words (f n) ≡ word_of names n) → (tree : Stmts Name)
    → named (word_of words) (renamed_stmts f tree) ≡ named (word_of names) tree
tree_kept f names words kept tree = stmts_after (names_by f) (names_by (word_of words)) tree ∙ λ i. named (λ n. kept n i) tree

-- ---- two numberings of the same items

module _ (items : List Item) (names : List (List ℕ)) (ts : Tokens) (has : HasTokens items names ts) (others : List (List ℕ)) (us : Tokens) (other : HasTokens items others us) where
  abbrev all : List (List ℕ)
  all = names ++ others

  abbrev left : Name → Name
  left = renumbered names all

  abbrev right : Name → Name
  right = renumbered others all

  left_each : IsInjective left
  left_each = injective names all has.distinct

  right_each : IsInjective right
  right_each = injective others all other.distinct

  tokens_same : renamed_tokens left ts ≡ renamed_tokens right us
  tokens_same =
      tokens_told names all (front_stands names others) ts has.held has.spelled ∙ ap (map _) (sym has.are ∙ other.are)
      ∙ sym (tokens_told others all (end_stands names others) us other.held other.spelled)

  -- what spells a tree by one numbering spells it by the other
  pub trees_same : (x y : Stmts Name) → Spells x ts → Spells y us → named (word_of names) x ≡ named (word_of others) y
  trees_same x y spells another =
      let there = spells_there left left_each x ts spells in
      let back = subst (Spells (renamed_stmts right y)) (sym tokens_same) (spells_there right right_each y us another) in
      sym (tree_kept left names all (word_kept names all (front_stands names others)) x) ∙ ap (named (word_of all)) (one_tree there back)
      ∙ tree_kept right others all (word_kept others all (end_stands names others)) y

  pub spelled_too : (y : Stmts Name) → Spells y us → (x : Stmts Name) × Spells x ts
  spelled_too y another =
      let there = subst (Spells (renamed_stmts right y)) (sym tokens_same) (spells_there right right_each y us another) in
      let back = spells_before left left_each (renamed_stmts right y) ts there in
      (back.0, back.1)

-- items spell one tree
pub one_spelled : (items : List Item) (a b : Stmts (List ℕ)) → SpellTree items a → SpellTree items b → a ≡ b
one_spelled items a b x y = x.is ∙ trees_same items x.words x.tokens x.has y.words y.tokens y.has x.numbered y.numbered x.spells y.spells ∙ sym y.is

-- ---- the items of bytes

-- a text has one list of tokens
pub one_read : (text : List ℕ) (xs ys : List Item) → tokens_of text ≡ Ok xs → tokens_of text ≡ Ok ys → xs ≡ ys
one_read text xs ys e f = let oks : ◌≡◌ {A = Result (List Item) TokenFault} (Ok xs) (Ok ys) = sym e ∙ f in cc

-- bytes have one expanded list
pub one_items : (bytes : List ℕ) (xs ys : List Item) → HasItems bytes xs → HasItems bytes ys → xs ≡ ys
one_items bytes xs ys x y =
    let oks : ◌≡◌ {A = Result (List Item) MoreFault} (Ok xs) (Ok ys) = sym x.expansion ∙ ap expanded (one_read (chars bytes) x.given y.given x.read y.read) ∙ y.expansion in cc

-- a program has one tree
pub one_program : (bytes : List ℕ) (a b : Stmts (List ℕ)) → IsProgram bytes a → IsProgram bytes b → a ≡ b
one_program bytes a b x y =
    one_spelled y.items a b (subst (λ items. SpellTree items a) (one_items bytes x.items y.items x.has y.has) x.spell) y.spell

-- tokens that spell nothing are those of no program
pub no_program : (bytes : List ℕ) (names : List (List ℕ)) (ts : Tokens) → IsRead bytes names ts → ((tree : Stmts Name) → ¬ Spells tree ts) → (tree : Stmts (List ℕ)) → ¬ IsProgram bytes tree
no_program bytes names ts read none tree is =
    let spell = subst (λ items. SpellTree items tree) (one_items bytes is.items (map (item_view names) ts) is.has read.has) is.spell in
    let spelled = spelled_too (map (item_view names) ts) names ts read.are spell.words spell.tokens spell.has spell.numbered spell.spells in
    none spelled.0 spelled.1

-- bytes at fault are no program
pub no_fault : (bytes : List ℕ) (tree : Stmts (List ℕ)) → IsProgram bytes tree → (f : ProgramFault) → (f ≢ fault.Memory → IsFault bytes f) → f ≡ fault.Memory
no_fault bytes tree is (fault.NotUtf8 n) wrong = absurd ((wrong (λ e. cc)).0 is.has.text)
no_fault bytes tree is (fault.Token token.Memory) wrong = absurd (wrong (λ e. cc))
no_fault bytes tree is (fault.Token f) wrong = absurd (let none = wrong (λ e. cc) in let both = sym is.has.read ∙ none.1 in cc)
no_fault bytes tree is (fault.Format line) wrong = absurd (
    let none = wrong (λ e. cc) in
    let both : ◌≡◌ {A = Result (List Item) MoreFault} (Ok is.items) (Err (more.Format line)) =
    sym is.has.expansion ∙ ap expanded (one_read (chars bytes) is.has.given none.given is.has.read none.read) ∙ none.wrong in
    cc
    )
no_fault bytes tree is (fault.Syntax line) wrong = absurd ((wrong (λ e. cc)).none tree is)
no_fault bytes tree is fault.Memory wrong = refl

-- what the parser refuses
pub refused_by_parse : (bytes : List ℕ) (names : List (List ℕ)) (ts : Tokens) → IsRead bytes names ts → (e : ParseFault)
    → ((tree : Stmts Name) → Spells tree ts → e ≡ parse.Memory)
    → (e ≢ parse.Memory → (front : Tokens) × (rest : Tokens) × (e ≡ parse.Syntax (line_at rest)) × IsLongestGood front rest ts)
    → (f : ProgramFault) → f ≡ from_parse e → f ≢ fault.Memory → IsFault bytes f
refused_by_parse bytes names ts read (parse.Syntax line) none syntax f is other =
    let found = syntax (λ e. cc) in
    let at : line ≡ line_at found.1 = let same = found.2 in cc in
    subst (IsFault bytes) (sym is) (record {
      items = map (item_view names) ts;
      has = read.has;
      words = names;
      tokens = ts;
      are = read.are;
      none = no_program bytes names ts read (λ tree spelled. let e = none tree spelled in cc);
      front = found.0;
      rest = found.1;
      longest = found.3;
      at = at;
    })
refused_by_parse bytes names ts read parse.Memory none syntax f is other = absurd (other is)
