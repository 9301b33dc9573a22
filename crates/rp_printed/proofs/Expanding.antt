-- Expansion leaves tokens that spell a tree; so the text of a program's tree is a program too.
use Rattle.std.proofs.Common.{◌≡◌, refl, sym, ap, ◌∙◌, subst, ℕ, zero, suc, ◌+◌, ◌-◌, ◌==◌, Bool, true, false, ◌&&◌}
use Rattle.std.proofs.Common.{◌||◌, not, if◌then◌else◌, true≢false, List, [], ◌∷◌, ◌++◌, length, drop, codes, Ok}
use Rattle.std.proofs.Common.{pos, negsuc, arith}
use Rattle.std.specs.List.{list_any}
use Rattle.std.proofs.lemmas.Str.{chars-encodes}
use Rattle.rp_grammar.specs.Kinds.{Tokens, first}
use Rattle.rp_grammar.specs.Program.{Spells}
use Rattle.rp_more.specs.Expanded.{expanded, set_items}
use Rattle.rp_more.specs.Forms as form
use Rattle.rp_more.specs.Forms.{ends_operand, is_keyword, is_literal, is_mark}
use Rattle.rp_more.specs.KindSteps.{is_colon, is_left_brace}
use Rattle.rp_more.specs.LiteralSteps.{items_of}
use Rattle.rp_more.specs.Literals.{begins, has_text_at, is_f, is_prefix, literals, with_front}
use Rattle.rp_more.specs.Sets.{Group, first_form, from_closing, group_of, innermost, is_asked, is_followed, is_set}
use Rattle.rp_more.specs.Sets.{none_at, opened_behind, other, own, past, sets}
use Rattle.rp_more.proofs.Fronts.{literals-other}
use Rattle.rp_more.proofs.KindForms.{form-closes, form-colon, form-left_brace, form-opens}
use Rattle.rp_more.proofs.Untouched.{AreOther}
use Rattle.rp_print.specs.Statements.{printed}
use Rattle.rp_token.specs.Form.{Form, Item, newline}
use Rattle.rp_token.specs.Laws.{closes, opens}
use Rattle.rp_token.specs.Tokens.{tokens_of}
use Rattle.rp_token.specs.View.{form_view, item_view}
use Rattle.rp_token.specs.declared.token.Token.{Token}
use Rattle.rp_token.specs.declared.token.TokenKind.{TokenKind}
use Rattle.rp_token.specs.declared.token.TokenKind.TheVariants as kind
use Rattle.rp_tree.specs.Statements.{Stmts}
use Rattle.rp_printed.specs.Printed.{EachPrintedTextIsAProgram, EachSpelledListStays}
use Rattle.rp_printed.proofs.Lexemes.{not_empty}
use Rattle.rp_printed.proofs.Printed.{each_program_reads_back}
use Rattle.rp_printed.proofs.Untouched.{AreUntouched, IsNoSet, closed, has_colon, here, is_name, is_text}
use Rattle.rp_printed.proofs.UntouchedStatements.{statements_go}

-- ---- tokens that spell a tree

last_untouched : (rest : Tokens) → first rest ≡ kind.End → length rest ≡ 1 → AreUntouched false rest
last_untouched [] e alone = tt
last_untouched (t ∷ []) e alone = (refl, λ h. absurd (true≢false (sym h ∙ ap is_left_brace e)), tt)
last_untouched (t ∷ u ∷ ts) e alone = absurd (omega arith)

tree_untouched : (tree : Stmts) (ts : Tokens) → Spells tree ts → AreUntouched false ts
tree_untouched tree ts spells =
    (statements_go spells.statements).untouched (last_untouched spells.rest spells.ends spells.alone)

module _ (words : List (List ℕ)) where
  -- ---- no f-literal begins

  no_f : (k : TokenKind) → is_name k ≡ false → is_f (form_view words k) ≡ false
  no_f (kind.Name n) e = absurd (true≢false e)
  no_f (kind.Int (pos n)) e = refl
  no_f (kind.Int (negsuc n)) e = refl
  no_f k e = refl

  literal_is : (k : TokenKind) → is_literal (form_view words k) ≡ is_text k
  literal_is (kind.Int (pos n)) = refl
  literal_is (kind.Int (negsuc n)) = refl
  literal_is k = refl

  no_text_at : (place : ℕ) (ts : Tokens) → AreUntouched true ts → has_text_at place (items_of words ts) ≡ false
  no_text_at place [] all = refl
  no_text_at place (t ∷ ts) all = λ i. (literal_is t.kind ∙ all.0) i && (t.from == place)

  none_begins : (operand : Bool) (t : Token) (ts : Tokens) → AreUntouched (is_name t.kind) ts
      → begins operand (item_view words t) (items_of words ts) ≡ false
  none_begins operand t ts all = by (is_name t.kind) refl all
    where
      no_text : (a b : Bool) → (not a && (b && false)) ≡ false
      no_text true b = refl
      no_text false true = refl
      no_text false false = refl

      no_name : (a b c : Bool) → (not a && ((b && false) && c)) ≡ false
      no_name true b c = refl
      no_name false true c = refl
      no_name false false c = refl

      by : (b : Bool) → is_name t.kind ≡ b → AreUntouched b ts
          → begins operand (item_view words t) (items_of words ts) ≡ false
      by true e all =
          (λ i. not operand && (is_prefix (item_view words t) && no_text_at t.to ts all i))
          ∙ no_text operand (is_prefix (item_view words t))
      by false e all =
          (λ i. not operand && (((t.to - t.from == 1) && no_f t.kind e i) && has_text_at t.to (items_of words ts)))
          ∙ no_name operand (t.to - t.from == 1) (has_text_at t.to (items_of words ts))

  literals_stay : (operand before : Bool) (ts : Tokens) → AreUntouched before ts
      → literals operand false (items_of words ts) ≡ Ok (items_of words ts)
  literals_stay operand before [] all = refl
  literals_stay operand before (t ∷ ts) all =
      literals-other operand (item_view words t) (items_of words ts) (none_begins operand t ts all.2)
      ∙ ap (with_front (item_view words t ∷ []))
      (literals_stay (ends_operand (form_view words t.kind)) (is_name t.kind) ts all.2)

  -- ---- no set begins

  abbrev colon_in : List Form → Bool
  colon_in fs = list_any (is_mark (codes ":")) fs

  own_colon : (n : ℕ) (ts : Tokens) → colon_in (own n (items_of words ts)) ≡ has_colon n ts
  own_colon n [] = refl
  own_colon n (t ∷ ts) =
      (λ i. colon_in (if form-closes words t.kind i then (if n == 0 then [] else own (n - 1) (items_of words ts))
      else if form-opens words t.kind i then own (n + 1) (items_of words ts)
      else (if n == 0 then form_view words t.kind ∷ own n (items_of words ts) else own n (items_of words ts))))
      ∙ by n (closes t.kind) (opens t.kind) (λ m. own_colon m ts)
    where
      by : (n : ℕ) (c o : Bool) → ((m : ℕ) → colon_in (own m (items_of words ts)) ≡ has_colon m ts)
          → colon_in (if c then (if n == 0 then [] else own (n - 1) (items_of words ts))
          else if o then own (n + 1) (items_of words ts)
          else (if n == 0 then form_view words t.kind ∷ own n (items_of words ts) else own n (items_of words ts)))
          ≡ (if c then closed n (λ m. has_colon m ts) else if o then has_colon (suc n) ts
          else (here n (is_colon t.kind) || has_colon n ts))
      by zero true o rest = refl
      by (suc n) true o rest =
          let same : suc n - 1 ≡ n = omega arith in
          (λ i. colon_in (if not_empty n i then [] else own (suc n - 1) (items_of words ts)))
          ∙ ap (λ (m : ℕ). colon_in (own m (items_of words ts))) same ∙ rest n
      by n false true rest =
          let same : n + 1 ≡ suc n = omega arith in
          ap (λ (m : ℕ). colon_in (own m (items_of words ts))) same ∙ rest (suc n)
      by zero false false rest = λ i. form-colon words t.kind i || rest zero i
      by (suc n) false false rest =
          (λ i. colon_in (if not_empty n i then form_view words t.kind ∷ own (suc n) (items_of words ts)
          else own (suc n) (items_of words ts)))
          ∙ rest (suc n)

  first_closes : (ts : Tokens) → form.closes (first_form (items_of words ts)) ≡ closes (first ts)
  first_closes [] = refl
  first_closes (t ∷ ts) = form-closes words t.kind

  no_set : (ts : Tokens) → IsNoSet ts → is_set (items_of words ts) ≡ false
  no_set ts none =
      (λ i. (not (first_closes ts i) && not (own_colon 0 ts i))
      && (is_mark (codes "}") (first_form (from_closing 0 (items_of words ts)))
      && is_followed (drop 1 (from_closing 0 (items_of words ts)))))
      ∙ by (closes (first ts)) (has_colon 0 ts) none
      (is_mark (codes "}") (first_form (from_closing 0 (items_of words ts)))
      && is_followed (drop 1 (from_closing 0 (items_of words ts))))
    where
      by : (a b : Bool) → (a || b) ≡ true → (c : Bool) → ((not a && not b) && c) ≡ false
      by true b e c = refl
      by false true e c = refl
      by false false e c = absurd (true≢false (sym e))

  innermost_other : (opened : List Group) → AreOther opened → innermost opened ≡ other
  innermost_other [] all = refl
  innermost_other (g ∷ gs) all = all.0

  drop_other : (opened : List Group) → AreOther opened → AreOther (drop 1 opened)
  drop_other [] all = all
  drop_other (g ∷ gs) all = all.1

  no_group : (before : Form) (t : Token) (ts : Tokens) → (is_left_brace t.kind ≡ true → IsNoSet ts)
      → group_of before (form_view words t.kind) (items_of words ts) ≡ other
  no_group before t ts brace =
      none (is_keyword (codes "in") before) (is_mark (codes "{") (form_view words t.kind) && is_set (items_of words ts))
      (list_any (is_keyword (codes "for")) (own 0 (items_of words ts)))
      ((λ i. form-left_brace words t.kind i && is_set (items_of words ts)) ∙ by (is_left_brace t.kind) refl)
    where
      none : (a b c : Bool) → b ≡ false
          → (if a && b then (if c then Group.comprehension else Group.display) else other) ≡ other
      none true b c e = λ i. if e i then (if c then Group.comprehension else Group.display) else other
      none false b c e = refl

      by : (b : Bool) → is_left_brace t.kind ≡ b → (b && is_set (items_of words ts)) ≡ false
      by true e = no_set ts (brace e)
      by false e = refl

  opened_other : (opened : List Group) (before : Form) (t : Token) (ts : Tokens) → AreOther opened
      → (is_left_brace t.kind ≡ true → IsNoSet ts)
      → AreOther (opened_behind opened before (form_view words t.kind) (items_of words ts))
  opened_other opened before t ts all brace =
      by (form.opens (form_view words t.kind)) (form.closes (form_view words t.kind))
    where
      asked : is_asked (innermost opened) before (form_view words t.kind) ≡ false
      asked = ap (λ (g : Group). is_asked g before (form_view words t.kind)) (innermost_other opened all)

      by : (opening closing : Bool)
          → AreOther (if opening then group_of before (form_view words t.kind) (items_of words ts) ∷ opened
          else if closing then drop 1 opened
          else if is_asked (innermost opened) before (form_view words t.kind) then past (innermost opened) opened
          else opened)
      by true closing = (no_group before t ts brace, all)
      by false true = drop_other opened all
      by false false = rw asked all

  sets_stay : (opened : List Group) (before : Form) (b : Bool) (ts : Tokens) → AreOther opened → AreUntouched b ts
      → sets opened before (items_of words ts) ≡ items_of words ts
  sets_stay opened before b [] others all = refl
  sets_stay opened before b (t ∷ ts) others all =
      (λ i. (if is_asked (innermost_other opened others i) before (form_view words t.kind) then none_at
      (item_view words t)
      else []) ++ item_view words t ∷ sets (opened_behind opened before (form_view words t.kind) (items_of words ts))
      (form_view words t.kind) (items_of words ts))
      ∙ ap (λ (more : List Item). item_view words t ∷ more)
      (sets_stay (opened_behind opened before (form_view words t.kind) (items_of words ts)) (form_view words t.kind)
      (is_name t.kind) ts (opened_other opened before t ts others all.1) all.2)

  tokens_stay : (tree : Stmts) (ts : Tokens) → Spells tree ts
      → expanded (items_of words ts) ≡ Ok (items_of words ts)
  tokens_stay tree ts spells =
      let all = tree_untouched tree ts spells in
      ap set_items (literals_stay false false ts all) ∙ ap Ok (sets_stay [] newline false ts tt all)

-- ---- the laws

pub each_spelled_list_stays : EachSpelledListStays
each_spelled_list_stays items tree spell =
    subst (λ (xs : List Item). expanded xs ≡ Ok xs) (sym spell.has.are)
    (tokens_stay spell.words spell.numbered spell.tokens spell.spells)

pub each_printed_text_is_a_program : EachPrintedTextIsAProgram
each_printed_text_is_a_program bytes tree program =
    let back = each_program_reads_back bytes tree program in
    record {
      again = back.again;
      program = record {
        items = back.spell.items;
        has = record {
          text = (printed tree, (back.characters, refl));
          given = back.spell.items;
          read = ap tokens_of (chars-encodes (printed tree) back.characters) ∙ back.spell.read;
          expansion = each_spelled_list_stays back.spell.items back.again back.spell.spell;
        };
        spell = back.spell.spell;
      };
      same = back.alike;
    }
