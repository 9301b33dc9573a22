-- What holds of each token of a text, and of what is written for f-literals and sets, holds of each token of what the
-- text is expanded to.
use Rattle.std.proofs.Common.{◌≡◌, refl, ap, ◌∙◌, cond, ℕ, zero, suc, ◌+◌, ◌==◌, ◌&&◌, ◌||◌, not, Bool, true, false, nat_lt, if◌then◌else◌, List, [], ◌∷◌, ◌++◌, length, drop, take_while, map, codes, reverse, Option, Some, None, Result, Ok, Err}
use Rattle.std.specs.List.{list_all}
use Rattle.std.specs.Option.{option_and_then, option_map, option_map_or}
use Rattle.std.proofs.lemmas.Bool.{and_parts}
use Rattle.std.proofs.lemmas.List.{reverse-append}
use Rattle.std.proofs.lemmas.List.Folds.{list_all-append}
use Rattle.std.proofs.lemmas.List.Sums.{take_while-cons}
use Rattle.rp_more.specs.declared.fault.MoreFault.{MoreFault}
use Rattle.rp_more.specs.declared.fault.MoreFault.TheVariants as fault
use Rattle.rp_more.specs.Expanded.{expanded, set_items}
use Rattle.rp_more.specs.Expression.{closes_own, kept, own_forms, trimmed}
use Rattle.rp_more.specs.Forms.{ends_operand, is_end, is_newline, placed, text_of}
use Rattle.rp_more.specs.Literals.{begins, elements, join_call, joined, literal_forms, literal_items, literals, piece_forms, str_call, with_front}
use Rattle.rp_more.specs.Pieces.{Piece, run, part, enclosed, is_brace, is_part, pieces_from, pieces_of, with_character}
use Rattle.rp_more.specs.Sets.{Group, innermost, is_asked, none_at, opened_behind, sets}
use Rattle.rp_token.specs.declared.fault.TokenFault.{TokenFault}
use Rattle.rp_token.specs.Characters.{behind_run, first, is_blank}
use Rattle.rp_token.specs.Form.{Form, Item, name, number, literal, keyword, mark, newline, indent, dedent, end_of_text}
use Rattle.rp_token.specs.Tokens.{at_line, tokens_of}

-- ---- each of them

module _ (Holds : Form → Type 0) where
  abbrev EachForm : List Form → Type 0
  EachForm [] = Unit {0}
  EachForm (f ∷ fs) = Holds f × EachForm fs

  abbrev pub Each : List Item → Type 0
  Each [] = Unit {0}
  Each (i ∷ is) = Holds i.form × Each is

  -- of the tokens, where there are some
  abbrev pub EachOf : {E : Type 0} → Result (List Item) E → Type 0
  EachOf (Ok items) = Each items
  EachOf (Err f) = Unit {0}

-- It holds of the tokens of each text whose letters pass a test, as those of each literal do, and of all that expanding adds.
pub record IsKept (letter : ℕ → Bool) (Holds : Form → Type 0) : Type 0 where
  pub letters : (t : List ℕ) → Holds (literal t) → list_all letter t ≡ true
  pub literals : (t : List ℕ) → list_all letter t ≡ true → Holds (literal t)
  pub marks : (m : List ℕ) → nat_lt 0 (length m) ≡ true → Holds (mark m)
  pub none : Holds (keyword (codes "None"))
  pub str : Holds (name (codes "str"))
  pub join : Holds (name (codes "join"))
  pub texts : (text : List ℕ) → list_all letter text ≡ true → EachOf Holds (tokens_of text)

-- ---- letters of a part of a text

module _ (letter : ℕ → Bool) where
  pass-drop : (n : ℕ) (cs : List ℕ) → list_all letter cs ≡ true → list_all letter (drop n cs) ≡ true
  pass-drop zero cs e = e
  pass-drop (suc n) [] e = refl
  pass-drop (suc n) (c ∷ cs) e = pass-drop n cs (and_parts (letter c) (list_all letter cs) e).1

  pass-front : (p : ℕ → Bool) (cs : List ℕ) → list_all letter cs ≡ true → list_all letter (take_while p cs) ≡ true
  pass-front p [] e = refl
  pass-front p (c ∷ cs) e =
      let parts = and_parts (letter c) (list_all letter cs) e in
      ap (list_all letter) (take_while-cons p c cs) ∙ by parts.0 (pass-front p cs parts.1) (p c)
    where
      by : letter c ≡ true → list_all letter (take_while p cs) ≡ true → (b : Bool) → list_all letter (if b then c ∷ take_while p cs else []) ≡ true
      by one more true = rw (one, more) refl
      by one more false = refl

  pass-reverse : (cs : List ℕ) → list_all letter cs ≡ true → list_all letter (reverse cs) ≡ true
  pass-reverse [] e = refl
  pass-reverse (c ∷ cs) e =
      let parts = and_parts (letter c) (list_all letter cs) e in
      ap (list_all letter) (reverse-append (c ∷ []) cs) ∙ list_all-append letter (reverse cs) (c ∷ []) ∙ rw (pass-reverse cs parts.1, parts.0) refl

  pass-behind : (p : ℕ → Bool) (cs : List ℕ) → list_all letter cs ≡ true → list_all letter (behind_run p cs) ≡ true
  pass-behind p cs e = pass-drop (length (take_while p cs)) cs e

  pass-trimmed : (cs : List ℕ) → list_all letter cs ≡ true → list_all letter (trimmed cs) ≡ true
  pass-trimmed cs e =
      pass-reverse (behind_run is_blank (reverse (behind_run is_blank cs)))
      (pass-behind is_blank (reverse (behind_run is_blank cs)) (pass-reverse (behind_run is_blank cs) (pass-behind is_blank cs e)))

  -- ---- pieces

  abbrev Passes : Piece → Type 0
  Passes (run cs) = list_all letter cs ≡ true
  Passes (part cs) = list_all letter cs ≡ true

  abbrev AllPass : List Piece → Type 0
  AllPass [] = Unit {0}
  AllPass (p ∷ ps) = Passes p × AllPass ps

  abbrev SomePass : Option (List Piece) → Type 0
  SomePass (Some ps) = AllPass ps
  SomePass None = Unit {0}

  SomePass-if : (b : Bool) (x y : Option (List Piece)) → SomePass x → SomePass y → SomePass (if b then x else y)
  SomePass-if true x y one other = one
  SomePass-if false x y one other = other

  character-passes : (c : ℕ) (ps : List Piece) → letter c ≡ true → AllPass ps → AllPass (with_character c ps)
  character-passes c [] e all = (rw e refl, tt)
  character-passes c (run cs ∷ ps) e all = (rw (e, all.0) refl, all.1)
  character-passes c (part cs ∷ ps) e all = (rw e refl, all)

  character-some : (c : ℕ) (o : Option (List Piece)) → letter c ≡ true → SomePass o → SomePass (option_map (with_character c) o)
  character-some c None e all = tt
  character-some c (Some ps) e all = character-passes c ps e all

  part-some : (cs : List ℕ) (o : Option (List Piece)) → list_all letter cs ≡ true → SomePass o → SomePass (option_map (λ ps. part cs ∷ ps) o)
  part-some cs None e all = tt
  part-some cs (Some ps) e all = (e, all)

  pieces-pass : (n : ℕ) (cs : List ℕ) → list_all letter cs ≡ true → SomePass (pieces_from n cs)
  pieces-pass n [] e = tt
  pieces-pass (suc n) (c ∷ cs) e = pieces-pass n cs (and_parts (letter c) (list_all letter cs) e).1
  pieces-pass zero (c ∷ cs) e =
      let parts = and_parts (letter c) (list_all letter cs) e in
      let inside = enclosed cs in
      SomePass-if (is_brace c && (first cs == c)) _ _ (character-some c (pieces_from 1 cs) parts.0 (pieces-pass 1 cs parts.1))
      (SomePass-if ((c == 123) && (is_part inside && (first (drop (length inside) cs) == 125))) _ _
      (part-some inside (pieces_from (length inside + 1) cs) (pass-front (λ d. not (d == 125)) cs parts.1) (pieces-pass (length inside + 1) cs parts.1))
      (SomePass-if (is_brace c) _ _ tt (character-some c (pieces_from 0 cs) parts.0 (pieces-pass 0 cs parts.1))))

-- ---- the forms of an f-literal

module _ (letter : ℕ → Bool) (Holds : Form → Type 0) (is : IsKept letter Holds) where
  abbrev SomeForms : Option (List Form) → Type 0
  SomeForms (Some fs) = EachForm Holds fs
  SomeForms None = Unit {0}

  forms-append : (fs gs : List Form) → EachForm Holds fs → EachForm Holds gs → EachForm Holds (fs ++ gs)
  forms-append [] gs all others = others
  forms-append (f ∷ fs) gs all others = (all.0, forms-append fs gs all.1 others)

  kept-forms : (items : List Item) → Each Holds items → EachForm Holds (kept items)
  kept-forms [] all = tt
  kept-forms (t ∷ ts) all = by (not (is_newline t.form || is_end t.form)) (kept-forms ts all.1)
    where
      by : (b : Bool) → EachForm Holds (kept ts) → EachForm Holds (cond b (t.form ∷ kept ts) (kept ts))
      by true more = (all.0, more)
      by false more = more

  call-forms : (fs : List Form) → EachForm Holds fs → EachForm Holds (str_call fs)
  call-forms fs all = (is.str, (is.marks (codes "(") refl, (is.marks (codes "(") refl, forms-append fs _ all (is.marks (codes ")") refl, (is.marks (codes ")") refl, tt)))))

  own-some : (r : Result (List Item) TokenFault) → EachOf Holds r → SomeForms (option_map str_call (own_forms r))
  own-some (Err f) all = tt
  own-some (Ok items) all = by (closes_own 0 (kept items))
    where
      by : (b : Bool) → SomeForms (option_map str_call (if b then Some (kept items) else None))
      by true = call-forms (kept items) (kept-forms items all)
      by false = tt

  piece-some : (p : Piece) → Passes letter p → SomeForms (piece_forms p)
  piece-some (run cs) passes = (is.literals cs passes, tt)
  piece-some (part cs) passes = own-some (tokens_of (trimmed cs)) (is.texts (trimmed cs) (pass-trimmed letter cs passes))

  elements-some : (comma : List Form) (ps : List Piece) → EachForm Holds comma → AllPass letter ps → SomeForms (elements comma ps)
  elements-some comma [] first all = tt
  elements-some comma (p ∷ ps) first all =
      by (piece_forms p) (elements (mark (codes ",") ∷ []) ps) (piece-some p all.0) (elements-some (mark (codes ",") ∷ []) ps (is.marks (codes ",") refl, tt) all.1)
    where
      by : (o more : Option (List Form)) → SomeForms o → SomeForms more → SomeForms (option_and_then (λ forms. option_map (λ more. comma ++ (forms ++ more)) more) o)
      by None more one other = tt
      by (Some forms) None one other = tt
      by (Some forms) (Some more) one other = forms-append comma (forms ++ more) first (forms-append forms more one other)

  literal-some : (text : List ℕ) → list_all letter text ≡ true → SomeForms (literal_forms text)
  literal-some text e = by (pieces_of text) (pieces-pass letter 0 text e)
    where
      call : (o : Option (List Form)) → SomeForms o → SomeForms (option_map join_call o)
      call None all = tt
      call (Some fs) all =
          let last : EachForm Holds (mark (codes "]") ∷ mark (codes ")") ∷ []) = (is.marks (codes "]") refl, (is.marks (codes ")") refl, tt)) in
          (is.literals [] refl, (is.marks (codes ".") refl, (is.join, (is.marks (codes "(") refl, (is.marks (codes "[") refl, forms-append fs _ all last)))))

      by : (o : Option (List Piece)) → SomePass letter o → SomeForms (option_map join_call (option_and_then (elements []) o))
      by None all = tt
      by (Some ps) all = call (elements [] ps) (elements-some [] ps tt all)

  -- ---- the tokens

  text-passes : (f : Form) → Holds f → list_all letter (text_of f) ≡ true
  text-passes (literal t) holds = is.letters t holds
  text-passes (name n) holds = refl
  text-passes (number n) holds = refl
  text-passes (keyword k) holds = refl
  text-passes (mark m) holds = refl
  text-passes newline holds = refl
  text-passes indent holds = refl
  text-passes dedent holds = refl
  text-passes end_of_text holds = refl

  placed-each : (t : Item) (fs : List Form) (more : List Item) → EachForm Holds fs → Each Holds more → Each Holds (map (placed t) fs ++ more)
  placed-each t [] more all others = others
  placed-each t (f ∷ fs) more all others = (all.0, placed-each t fs more all.1 others)

  joined-each : (t : Item) (o : Option (List Form)) (more : Result (List Item) MoreFault) → SomeForms o → EachOf Holds more
      → EachOf Holds (joined (option_map_or (λ forms. Ok (map (placed t) forms)) o (Err (fault.Format (at_line t.line)))) more)
  joined-each t None more all others = tt
  joined-each t (Some fs) (Err f) all others = tt
  joined-each t (Some fs) (Ok items) all others = placed-each t fs items all others

  front-each : (t : Item) (more : Result (List Item) MoreFault) → Holds t.form → EachOf Holds more → EachOf Holds (with_front (t ∷ []) more)
  front-each t (Err f) one others = tt
  front-each t (Ok items) one others = (one, others)

  literals-each : (operand inside : Bool) (items : List Item) → Each Holds items → EachOf Holds (literals operand inside items)
  literals-each operand inside [] all = tt
  literals-each operand inside (t ∷ ts) all = by inside (begins operand t ts) (λ operand inside. literals-each operand inside ts all.1)
    where
      by : (b c : Bool) → ((operand inside : Bool) → EachOf Holds (literals operand inside ts))
          → EachOf Holds (if b then joined (literal_items t) (literals true false ts) else if c then literals true true ts else with_front (t ∷ []) (literals (ends_operand t.form) false ts))
      by true c further = joined-each t (literal_forms (text_of t.form)) (literals true false ts) (literal-some (text_of t.form) (text-passes t.form all.0)) (further true false)
      by false true further = further true true
      by false false further = front-each t (literals (ends_operand t.form) false ts) all.0 (further (ends_operand t.form) false)

  sets-each : (opened : List Group) (before : Form) (items : List Item) → Each Holds items → Each Holds (sets opened before items)
  sets-each opened before [] all = tt
  sets-each opened before (t ∷ ts) all = by (is_asked (innermost opened) before t.form) (sets-each (opened_behind opened before t.form ts) t.form ts all.1)
    where
      by : (b : Bool) → Each Holds (sets (opened_behind opened before t.form ts) t.form ts)
          → Each Holds ((if b then none_at t else []) ++ t ∷ sets (opened_behind opened before t.form ts) t.form ts)
      by true more = (is.marks (codes ":") refl, (is.none, (all.0, more)))
      by false more = (all.0, more)

  -- of what a text's tokens are expanded to
  pub expanded-each : (items : List Item) → Each Holds items → EachOf Holds (expanded items)
  expanded-each items all = by (literals false false items) (literals-each false false items all)
    where
      by : (r : Result (List Item) MoreFault) → EachOf Holds r → EachOf Holds (set_items r)
      by (Ok written) each = sets-each [] newline written each
      by (Err f) each = tt
