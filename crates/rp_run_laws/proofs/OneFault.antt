-- Bytes that are no program are at one fault.
use Rattle.std.proofs.Common.{◌≡◌, refl, sym, ap, ◌∙◌, subst, ℕ, zero, suc, ◌+◌, ◌≤◌, cond, List, [], ◌∷◌, ◌++◌, length}
use Rattle.std.proofs.Common.{map, chars, take, drop, replicate, Result, Ok, Err, arith, IsUtf8}
use Rattle.std.specs.List.{count_by}
use Rattle.std.proofs.lemmas.List.{length-append, length-map, length-take-le, map-append, take-append-drop, take-map}
use Rattle.std.proofs.Math.Seq.{drop-append_seam, take-append_seam}
use Rattle.std.proofs.lemmas.List.Sums.{sum_by-cons}
use Rattle.std.proofs.lemmas.Str.{utf8_valid_len-IsValidUpTo}
use Rattle.rp_base.specs.declared.value.Line.{Line}
use Rattle.rp_base.specs.declared.value.Name.{Name}
use Rattle.rp_grammar.specs.Kinds.{Tokens, line_at}
use Rattle.rp_grammar.specs.Program.{IsGood, IsLongestGood, Spells, ending, is_indent, token as plain}
use Rattle.rp_grammar.proofs.Renamed.{IsInjective, renamed_kind, renamed_stmts, renamed_token, renamed_tokens}
use Rattle.rp_more.specs.declared.fault.MoreFault.{MoreFault}
use Rattle.rp_more.specs.declared.fault.MoreFault.TheVariants as more
use Rattle.rp_more.specs.Expanded.{expanded}
use Rattle.rp_program.specs.Fault.{IsFault, IsFormatFault, IsSyntaxFault}
use Rattle.rp_program.specs.Program.{HasItems, IsProgram}
use Rattle.rp_program.specs.declared.fault.ProgramFault.{ProgramFault}
use Rattle.rp_program.specs.declared.fault.ProgramFault.TheVariants as fault
use Rattle.rp_program.proofs.Numbered.{injective, renumbered}
use Rattle.rp_program.proofs.Programs.{no_fault, one_items, one_read}
use Rattle.rp_program.proofs.Renaming.{spells_before, spells_there}
use Rattle.rp_program.proofs.Unique.{tokens_told}
use Rattle.rp_program.proofs.Words.{end_stands, front_stands}
use Rattle.rp_token.specs.declared.fault.TokenFault.{TokenFault}
use Rattle.rp_token.specs.declared.fault.TokenFault.TheVariants as token
use Rattle.rp_token.specs.declared.token.Token.{Token}
use Rattle.rp_token.specs.declared.token.TokenKind.{TokenKind}
use Rattle.rp_token.specs.declared.token.TokenKind.TheVariants as kind
use Rattle.rp_token.specs.Form.{Item}
use Rattle.rp_token.specs.Tokens.{tokens_of}
use Rattle.rp_token.specs.View.{item_view}
use Rattle.rp_tree.specs.StatementTrees.{Stmts}

-- ---- fronts that are good, under another numbering of the names

module _ (f : Name → Name) where
  rest_kept : (n : ℕ)
      → renamed_tokens f (replicate n (plain kind.Dedent) ++ plain kind.End ∷ []) ≡ replicate n (plain kind.Dedent)
      ++ plain kind.End ∷ []
  rest_kept zero = refl
  rest_kept (suc n) = λ i. plain kind.Dedent ∷ rest_kept n i

  ending_kept : (n : ℕ) → renamed_tokens f (ending n) ≡ ending n
  ending_kept n = λ i. plain kind.Pass ∷ plain kind.Newline ∷ rest_kept n i

  indent_kept : (t : Token) → is_indent (renamed_token f t) ≡ is_indent t
  indent_kept t = by t.kind
    where
      by : (k : TokenKind) → is_indent (record t { kind = renamed_kind f k }) ≡ is_indent (record t { kind = k })
      by (kind.Name n) = refl
      by _ = refl

  indents_kept : (ts : Tokens) → count_by is_indent (renamed_tokens f ts) ≡ count_by is_indent ts
  indents_kept [] = refl
  indents_kept (t ∷ ts) =
      sum_by-cons (λ z. cond (is_indent z) 1 0) (renamed_token f t) (renamed_tokens f ts)
      ∙ (λ i. cond (indent_kept t i) 1 0 + indents_kept ts i)
      ∙ sym (sum_by-cons (λ z. cond (is_indent z) 1 0) t ts)

  line_kept : (n : ℕ) (ts : Tokens) → line_at (drop n (renamed_tokens f ts)) ≡ line_at (drop n ts)
  line_kept zero [] = refl
  line_kept (suc n) [] = refl
  line_kept zero (t ∷ ts) = refl
  line_kept (suc n) (t ∷ ts) = line_kept n ts

  closed_kept : (front : Tokens) (n : ℕ) → renamed_tokens f (front ++ ending n) ≡ renamed_tokens f front ++ ending n
  closed_kept front n = map-append (renamed_token f) front (ending n)
      ∙ ap (λ ts. renamed_tokens f front ++ ts) (ending_kept n)

  module _ (apart : IsInjective f) where
    good_there : (front : Tokens) → IsGood front → IsGood (renamed_tokens f front)
    good_there front g = record {
      dedents = g.dedents;
      enough = subst (λ n. g.dedents ≤ n) (sym (indents_kept front)) g.enough;
      tree = renamed_stmts f g.tree;
      spelled =
          subst (Spells (renamed_stmts f g.tree)) (closed_kept front g.dedents) (spells_there f apart g.tree (front
          ++ ending g.dedents) g.spelled);
    }

    good_before : (front : Tokens) → IsGood (renamed_tokens f front) → IsGood front
    good_before front g =
        let back = spells_before f apart g.tree (front
        ++ ending g.dedents) (subst (Spells g.tree) (sym (closed_kept front g.dedents)) g.spelled) in
        record {
          dedents = g.dedents;
          enough = subst (λ n. g.dedents ≤ n) (indents_kept front) g.enough;
          tree =
              back.0;
          spelled = back.1;
        }

-- two numberings of the same tokens: the longest good front of one is no longer than that of the other
module _ (f g : Name → Name) (apart : IsInjective f) (other_apart : IsInjective g) (ts us : Tokens)
    (same : renamed_tokens f ts ≡ renamed_tokens g us) where
  as_long : length ts ≡ length us
  as_long = sym (length-map ts (renamed_token f)) ∙ ap length same ∙ length-map us (renamed_token g)

  no_longer : (front rest other_front other_rest : Tokens) → IsLongestGood front rest ts
      → IsLongestGood other_front other_rest us → length front ≤ length other_front
  no_longer front rest other_front other_rest x y =
      let n = length front in
      let parts : length ts ≡ n + length rest = ap length x.parts ∙ length-append front rest in
      let within : n ≤ length us = (let l = as_long in omega (arith, l, parts)) in
      let front_is : renamed_tokens f front ≡ renamed_tokens g (take n us) =
      ap (renamed_tokens f) (sym (take-append_seam front rest) ∙ ap (take n) (sym x.parts))
      ∙ sym (take-map (renamed_token f) n ts) ∙ ap (take n) same ∙ take-map (renamed_token g) n us in
      let good : IsGood (take n us) =
      good_before g other_apart (take n us) (subst IsGood front_is (good_there f apart front x.good)) in
      let most = y.longest (take n us) (drop n us) (sym (take-append-drop n us)) good in
      let counted = length-take-le n us within in
      omega (arith, most, counted)

-- behind it stands a token of one line
one_place : (f g : Name → Name) → IsInjective f → IsInjective g → (ts us : Tokens)
    → renamed_tokens f ts ≡ renamed_tokens g us
    → (front rest other_front other_rest : Tokens) → IsLongestGood front rest ts
    → IsLongestGood other_front other_rest us → line_at rest ≡ line_at other_rest
one_place f g apart other_apart ts us same front rest other_front other_rest x y =
    let here = no_longer f g apart other_apart ts us same front rest other_front other_rest x y in
    let there = no_longer g f other_apart apart us ts (sym same) other_front other_rest front rest y x in
    let long : length front ≡ length other_front = omega (arith, here, there) in
    ap line_at (sym (drop-append_seam front rest) ∙ ap (drop (length front)) (sym x.parts))
    ∙ sym (line_kept f (length front) ts)
    ∙ (λ i. line_at (drop (long i) (same i)))
    ∙ line_kept g (length other_front) us
    ∙ ap line_at (ap (drop (length other_front)) y.parts ∙ drop-append_seam other_front other_rest)

one_line : (bytes : List ℕ) (m n : Line) → IsSyntaxFault bytes m → IsSyntaxFault bytes n → m ≡ n
one_line bytes m n x y =
    let all = x.words ++ y.words in
    let items : map (item_view x.words) x.tokens ≡ map (item_view y.words) y.tokens =
    sym x.are.are ∙ one_items bytes x.items y.items x.has y.has ∙ y.are.are in
    let same : renamed_tokens (renumbered x.words all) x.tokens ≡ renamed_tokens (renumbered y.words all) y.tokens =
    tokens_told x.words all (front_stands x.words y.words) x.tokens x.are.held x.are.spelled ∙ ap (map _) items
    ∙ sym (tokens_told y.words all (end_stands x.words y.words) y.tokens y.are.held y.are.spelled) in
    x.at
    ∙ one_place (renumbered x.words all) (renumbered y.words all) (injective x.words all x.are.distinct)
    (injective y.words all y.are.distinct) x.tokens y.tokens same
    x.front x.rest y.front y.rest x.longest y.longest
    ∙ sym y.at

-- ---- faults of programs

pub no_faulty_program : (bytes : List ℕ) (tree : Stmts (List ℕ)) (f : ProgramFault) → IsProgram bytes tree
    → IsFault bytes f → ⊥
no_faulty_program bytes tree f is wrong = subst (IsFault bytes) (no_fault bytes tree is f (λ _. wrong)) wrong

token_fault : (bytes : List ℕ) (f : TokenFault) → IsFault bytes (fault.Token f) → IsUtf8 bytes
    × (tokens_of (chars bytes) ≡ Err f)
token_fault bytes token.Memory x = absurd x
token_fault bytes f x = x

one_token_fault : (r : Result (List Item) TokenFault) (f g : TokenFault) → r ≡ Err f → r ≡ Err g → f ≡ g
one_token_fault r f g x y = let same : ◌≡◌ {A = Result (List Item) TokenFault} (Err f) (Err g) = sym x ∙ y in cc

tokens_or_fault : (r : Result (List Item) TokenFault) (is : List Item) (f : TokenFault) → r ≡ Ok is → r ≡ Err f → ⊥
tokens_or_fault r is f x y = let same : ◌≡◌ {A = Result (List Item) TokenFault} (Ok is) (Err f) = sym x ∙ y in cc

one_format_fault : (r : Result (List Item) MoreFault) (m n : Line) → r ≡ Err (more.Format m) → r ≡ Err (more.Format n)
    → m ≡ n
one_format_fault r m n x y =
    let same : ◌≡◌ {A = Result (List Item) MoreFault} (Err (more.Format m)) (Err (more.Format n)) = sym x ∙ y in cc

one_format : (bytes : List ℕ) (m n : Line) → IsFormatFault bytes m → IsFormatFault bytes n → m ≡ n
one_format bytes m n x y =
    one_format_fault (expanded y.given) m n (ap expanded (sym (one_read (chars bytes) x.given y.given x.read y.read))
    ∙ x.wrong) y.wrong

items_or_fault : (bytes : List ℕ) (line : Line) (items : List Item) → IsFormatFault bytes line → HasItems bytes items
    → ⊥
items_or_fault bytes line items x has =
    let same : ◌≡◌ {A = Result (List Item) MoreFault} (Err (more.Format line)) (Ok items) =
    sym x.wrong ∙ ap expanded (one_read (chars bytes) x.given has.given x.read has.read) ∙ has.expansion in
    cc

pub one_fault : (bytes : List ℕ) (f g : ProgramFault) → IsFault bytes f → IsFault bytes g → f ≡ g
one_fault bytes (fault.NotUtf8 m) (fault.NotUtf8 n) x y = λ i.
    fault.NotUtf8 ((sym (utf8_valid_len-IsValidUpTo bytes m x.1) ∙ utf8_valid_len-IsValidUpTo bytes n y.1) i)
one_fault bytes (fault.NotUtf8 m) (fault.Token g) x y = absurd (x.0 (token_fault bytes g y).0)
one_fault bytes (fault.NotUtf8 m) (fault.Format n) x y = absurd (x.0 y.text)
one_fault bytes (fault.NotUtf8 m) (fault.Syntax n) x y = absurd (x.0 y.has.text)
one_fault bytes (fault.NotUtf8 m) fault.Memory x y = absurd y
one_fault bytes (fault.Token f) (fault.NotUtf8 n) x y = absurd (y.0 (token_fault bytes f x).0)
one_fault bytes (fault.Token f) (fault.Token g) x y = λ i.
    fault.Token (one_token_fault (tokens_of (chars bytes)) f g (token_fault bytes f x).1 (token_fault bytes g y).1 i)
one_fault bytes (fault.Token f) (fault.Format n) x y =
    absurd (tokens_or_fault (tokens_of (chars bytes)) _ f y.read (token_fault bytes f x).1)
one_fault bytes (fault.Token f) (fault.Syntax n) x y =
    absurd (tokens_or_fault (tokens_of (chars bytes)) _ f y.has.read (token_fault bytes f x).1)
one_fault bytes (fault.Token f) fault.Memory x y = absurd y
one_fault bytes (fault.Format m) (fault.NotUtf8 n) x y = absurd (y.0 x.text)
one_fault bytes (fault.Format m) (fault.Token g) x y =
    absurd (tokens_or_fault (tokens_of (chars bytes)) _ g x.read (token_fault bytes g y).1)
one_fault bytes (fault.Format m) (fault.Format n) x y = λ i. fault.Format (one_format bytes m n x y i)
one_fault bytes (fault.Format m) (fault.Syntax n) x y = absurd (items_or_fault bytes m y.items x y.has)
one_fault bytes (fault.Format m) fault.Memory x y = absurd y
one_fault bytes (fault.Syntax m) (fault.NotUtf8 n) x y = absurd (y.0 x.has.text)
one_fault bytes (fault.Syntax m) (fault.Token g) x y =
    absurd (tokens_or_fault (tokens_of (chars bytes)) _ g x.has.read (token_fault bytes g y).1)
one_fault bytes (fault.Syntax m) (fault.Format n) x y = absurd (items_or_fault bytes n x.items y x.has)
one_fault bytes (fault.Syntax m) (fault.Syntax n) x y = λ i. fault.Syntax (one_line bytes m n x y i)
one_fault bytes (fault.Syntax m) fault.Memory x y = absurd y
one_fault bytes fault.Memory g x y = absurd x
