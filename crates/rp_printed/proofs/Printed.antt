-- The tokens of the printed text of a tree that good tokens spell spell the same tree, but for lines.
use Rattle.std.proofs.Common.{◌≡◌, inl, inr, refl, sym, ap, ◌∙◌, subst, ℕ, zero, suc, ◌<◌, ◌≤◌, ◌==◌, true, false, not}
use Rattle.std.proofs.Common.{List, [], ◌∷◌, ◌++◌, length, drop, map, encode_utf8_all, pos, negsuc, get_or, Ok}
use Rattle.std.proofs.Common.{append-nil, if◌then◌else◌, arith}
use Rattle.std.specs.List.{All, list_all}
use Rattle.std.proofs.lemmas.Bool.{and_parts}
use Rattle.std.proofs.lemmas.List.{map-append}
use lib.Utf8.{scalars}
use Rattle.rp_base.specs.Names.{HoldsEachOnce, word_of}
use Rattle.rp_grammar.specs.Kinds.{Tokens}
use Rattle.rp_grammar.specs.Program.{Spells, highest}
use Rattle.rp_grammar.specs.Statements as stmt_grammar
use Rattle.rp_grammar.proofs.MapHeights.{stmts_height_mapped}
use Rattle.rp_print.specs.Statements.{printed, printed_by}
use Rattle.rp_print.specs.Texts.{indentation}
use Rattle.rp_print.proofs.Renamed.{printed_named}
use Rattle.rp_program.proofs.Programs.{one_read, one_spelled}
use Rattle.rp_program.specs.Program.{SpellTree, is_spelled}
use Rattle.rp_token.specs.declared.token.Token.{Token}
use Rattle.rp_token.specs.declared.token.TokenKind.{TokenKind}
use Rattle.rp_token.specs.declared.token.TokenKind.TheVariants as kind
use Rattle.rp_token.specs.Characters.{first as first_of}
use Rattle.rp_token.specs.Form.{Item}
use Rattle.rp_token.specs.Tokens.{place, start, tokens_from, tokens_of, without_mark}
use Rattle.rp_token.specs.View.{IsHeld, IsHeldKind, item_view}
use Rattle.rp_tree.specs.Heights.{stmts_height}
use Rattle.rp_tree.specs.Maps.{map_stmts, named, names_by, shape, shape_of}
use Rattle.rp_tree.specs.Statements.{Stmts}
use Rattle.rp_tree.specs.StatementTrees as trees
use Rattle.rp_tree.proofs.MapLaws.{stmts_after}
use Rattle.rp_printed.specs.Printed.{EachProgramReadsBack, EachSpelledTreeReadsBack, MayStand, ReadsBack, TokensSpell}
use Rattle.rp_printed.proofs.Reading.{AreGood, IsGoodKind, Same, fresh, good-append, read_from, same}
use Rattle.rp_printed.proofs.Lexemes.{Opens, not-true}
use Rattle.rp_printed.proofs.Lines.{Lines, text_ended}
use Rattle.rp_printed.proofs.Blocks.{stmts_read}
use Rattle.rp_printed.proofs.GoodForms.{good_tokens, letters_scalars}
use Rattle.rp_printed.proofs.Operands.{begins, identifier_parts}
use Rattle.rp_printed.proofs.StatementsBack.{statements_back}

-- ---- the text begins with no byte order mark

opens_first : (cs : List ℕ) → Opens cs → (first_of cs == 0xFEFF) ≡ false
opens_first cs e = not-true _ (and_parts _ (not (first_of cs == 65279)) e).1

no_mark : (n : ℕ) (rest : List ℕ) → Opens rest → n ≤ 0 → (first_of (indentation n ++ rest) == 0xFEFF) ≡ false
unfolding indentation
no_mark zero rest opens low = opens_first rest opens
no_mark (suc n) rest opens low = absurd (omega arith)

begins_plain : (cs : List ℕ) → Lines 0 cs → (first_of cs == 0xFEFF) ≡ false
begins_plain cs (inl e) = ap (λ (l : List ℕ). first_of l == 0xFEFF) e
begins_plain cs (inr (n, low, (rest, opens, e))) = ap (λ (l : List ℕ). first_of l == 0xFEFF) e
    ∙ no_mark n rest opens low

unmarked : (cs : List ℕ) → (first_of cs == 0xFEFF) ≡ false → without_mark cs ≡ cs
unmarked cs e = λ i. if e i then drop 1 cs else cs

-- ---- good tokens are held and spelled

held_kind : (words : List (List ℕ)) (k : TokenKind) → IsGoodKind words k → IsHeldKind words k
held_kind words (kind.Name n) good = good.held
held_kind words (kind.Int n) good = tt
held_kind words _ good = tt

held_at : (words : List (List ℕ)) (ts : Tokens) → AreGood words ts → (k : ℕ) (d : Token) → k < length ts
    → IsHeld words (get_or ts k d)
held_at words [] good k d within = absurd (omega arith)
held_at words (t ∷ ts) good zero d within = held_kind words t.kind good.0
held_at words (t ∷ ts) good (suc k) d within = held_at words ts good.1 k d (omega arith)

spelled_kind : (words : List (List ℕ)) (k : TokenKind) → IsGoodKind words k → is_spelled k ≡ true
spelled_kind words (kind.Int (pos n)) good = refl
spelled_kind words (kind.Int (negsuc n)) good = absurd good
spelled_kind words _ good = refl

all_spelled : (words : List (List ℕ)) (ts : Tokens) → AreGood words ts → list_all (λ (t : Token). is_spelled t.kind) ts
    ≡ true
all_spelled words [] good = refl
all_spelled words (t ∷ ts) good = rw (spelled_kind words t.kind good.0, all_spelled words ts good.1) refl

-- ---- the program

-- a program that is read again
record Again (words : List (List ℕ)) (x : Stmts) : Type 0 where
  tree : Stmts
  tokens : Tokens
  spells : Spells tree tokens
  read : tokens_of (printed_by (word_of words) x) ≡ Ok (map (item_view words) tokens)
  good : AreGood words tokens
  letters : scalars (printed_by (word_of words) x) ≡ true
  alike : map_stmts shape tree ≡ map_stmts shape x

abbrev end_at : ℕ → ℕ → Token
end_at size last = record { kind = kind.End; from = place size []; to = place size []; line = record { 0 = last } }

read_again : (words : List (List ℕ)) (x : Stmts) (last : ℕ) (more : Tokens)
    → read_from (length (encode_utf8_all (printed_by (word_of words) x))) (fresh [] 1) []
    (printed_by (word_of words) x ++ [])
    ≡ read_from (length (encode_utf8_all (printed_by (word_of words) x))) (fresh [] last)
    (map (item_view words) more) []
    → AreGood words more → scalars (printed_by (word_of words) x) ≡ true → Lines 0 (printed_by (word_of words) x ++ [])
    → stmts_height x ≤ highest
    → Same (map_stmts shape) (stmt_grammar.IsStatements stmt_grammar.top) x (more ++ end_at
    (length (encode_utf8_all (printed_by (word_of words) x))) last ∷ [])
    (end_at (length (encode_utf8_all (printed_by (word_of words) x))) last ∷ [])
    → Again words x
read_again words x last more goes good letters begins low (same {y = y} p alike) =
    let text = printed_by (word_of words) x in
    let size = length (encode_utf8_all text) in
    let plain = ap (λ (l : List ℕ). first_of l == 0xFEFF) (sym (append-nil text)) ∙ begins_plain (text ++ []) begins in
    let u = unmarked text plain in
    record {
      tree = y;
      tokens = more ++ end_at size last ∷ [];
      spells = record {
        rest = end_at size last ∷ [];
        statements = p;
        ends = refl;
        alone = refl;
        low = subst (λ (n : ℕ). n ≤ highest) (sym (stmts_height_mapped shape x) ∙ ap stmts_height (sym alike)
            ∙ stmts_height_mapped shape y) low;
      };
      read = (λ i. tokens_from 0 (record (start text) { left = u i }) (u i))
          ∙ ap (read_from size (fresh [] 1) []) (sym (append-nil text)) ∙ goes
          ∙ text_ended size last (map (item_view words) more)
          ∙ ap Ok (sym (map-append (item_view words) more (end_at size last ∷ [])));
      good = good-append words more (end_at size last ∷ []) good (tt, tt);
      letters = letters;
      alike = alike;
    }

-- what good tokens spell is read again from its printed text
again : (words : List (List ℕ)) (x : Stmts) (ts : Tokens) → AreGood words ts → Spells x ts → Again words x
again words x ts good spells =
    let size = length (encode_utf8_all (printed_by (word_of words) x)) in
    let all = (statements_back words size spells.statements (record { all = good })).0 in
    let lines = stmts_read words size stmt_grammar.top x all 0 1 spells.low in
    let found = lines.reads.reads [] [] (inl refl) in
    read_again words x lines.last found.more found.goes found.good lines.reads.letters
    (lines.reads.begins [] (inl refl)) spells.low (found.spelled (end_at size lines.last ∷ []))

-- names by their words, and no lines
shapes : (words : List (List ℕ)) (x : Stmts) → shape_of (named (word_of words) x)
    ≡ named (word_of words) (map_stmts shape x)
shapes words x = stmts_after (names_by (word_of words)) shape x ∙ sym (stmts_after shape (names_by (word_of words)) x)

-- a tree that good tokens spell, by the words of its names
pub spelled_reads_back : (words : List (List ℕ)) (x : Stmts) (ts : Tokens) → HoldsEachOnce words → AreGood words ts
    → Spells x ts → ReadsBack (named (word_of words) x)
spelled_reads_back words x ts once good spells =
    let a = again words x ts good spells in
    let text = printed_by (word_of words) x in
    let same_text : printed (named (word_of words) x) ≡ text = sym (printed_named (word_of words) x) in
    record {
      again = named (word_of words) a.tree;
      characters = ap scalars same_text ∙ a.letters;
      spell = record {
        items = map (item_view words) a.tokens;
        read = ap tokens_of same_text ∙ a.read;
        spell = record {
          words = words;
          tokens = a.tokens;
          has = record {
            distinct = once;
            held = held_at words a.tokens a.good;
            spelled = all_spelled words a.tokens a.good;
            are = refl;
          };
          numbered = a.tree;
          spells = a.spells;
          is = refl;
        };
      };
      alike = shapes words a.tree ∙ ap (named (word_of words)) a.alike ∙ sym (shapes words x);
    }

-- ---- the laws

good_kind : (words : List (List ℕ)) (k : TokenKind) → MayStand words k → IsGoodKind words k
good_kind words (kind.Name n) (held, good) = record {
  held = held;
  good = record {
    identifier = good.identifier;
    plain = good.plain;
    letters = letters_scalars (word_of words n) (begins (word_of words n)
        (identifier_parts (word_of words n) good.identifier)).2;
  };
}
good_kind words (kind.Int (pos n)) good = good
good_kind words (kind.Int (negsuc n)) good = good
good_kind words (kind.Text t) good = good
good_kind words _ good = tt

all_good : (words : List (List ℕ)) (ts : Tokens) → All (λ (t : Token). MayStand words t.kind) ts → AreGood words ts
all_good words [] all = tt
all_good words (t ∷ ts) all =
    (good_kind words t.kind (all 0 t (omega arith)), all_good words ts (λ k d within. all (suc k) d (omega arith)))

pub each_spelled_tree_reads_back : EachSpelledTreeReadsBack
each_spelled_tree_reads_back words tokens tree once all spells =
    spelled_reads_back words tree tokens once (all_good words tokens all) spells

pub each_program_reads_back : EachProgramReadsBack
each_program_reads_back bytes tree program =
    let spell = program.spell in
    subst (λ (x : trees.Stmts (List ℕ)). ReadsBack x) (sym spell.is)
    (spelled_reads_back spell.words spell.numbered spell.tokens spell.has.distinct
    (good_tokens bytes program.items spell.words spell.tokens program.has spell.has) spell.spells)

-- and the tokens of the text spell no other tree
pub only_again : (tree other : trees.Stmts (List ℕ)) → ReadsBack tree → TokensSpell (printed tree) other
    → shape_of other ≡ shape_of tree
only_again tree other back spell =
    let items = one_read (printed tree) spell.items back.spell.items spell.read back.spell.read in
    let there = subst (λ (xs : List Item). SpellTree xs other) items spell.spell in
    ap shape_of (one_spelled back.spell.items other back.again there back.spell.spell) ∙ back.alike
