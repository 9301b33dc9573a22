-- The tokens of a text close each bracket that they open, and have no more than the most open at once.
use Rattle.std.proofs.Common.{◌≡◌, refl, sym, ap, ◌∙◌, subst, ℕ, zero, suc, ◌-◌, Bool, true, false, nat_lt, if◌then◌else◌, List, [], ◌∷◌, length, drop, Result, Ok, Err, arith}
use Rattle.std.proofs.lemmas.Bool.{ltb-false}
use Rattle.std.proofs.Math.Seq.{drop-length}
use Rattle.rp_token.specs.declared.fault.TokenFault.{TokenFault}
use Rattle.rp_token.specs.declared.fault.TokenFault.TheVariants as fault
use Rattle.rp_token.specs.Characters.{first, behind_run, is_blank}
use Rattle.rp_token.specs.Form.{Item, newline, dedent, end_of_text}
use Rattle.rp_token.specs.Tokens.{State, and_then, at_line, closed_to, ending, is_inside, start, step, tokens_from, tokens_of, with_token, without_mark}
use Rattle.rp_token.proofs.LawsItems.{Lawful, Lawful-few, Within, open_after}
use Rattle.rp_token.proofs.LawsRules.{After, Obeys, Ready, Ready-from_Here, Obeys-on, closed_to-keeps, plain-newline, step-keeps, with_token-lawful, with_token-plain}
use Rattle.rp_token.proofs.Steps.{IsBehind, behind, drop-behind, drop-difference, step-left}
use Rattle.rp_token.proofs.Laws.{without_mark-behind}

pub record AreBalanced (items : List Item) : Type 0 where
  pub within : Within 200 0 items
  pub closed : open_after 0 items ≡ 0

abbrev pub AllBalanced : Result (List Item) TokenFault → Type 0
AllBalanced (Ok items) = AreBalanced items
AllBalanced (Err f) = Unit {0}

closed_to-brackets : (n : ℕ) (rest : List ℕ) (line : ℕ) (columns : List ℕ) (s : State) → (closed_to n rest line columns s).brackets ≡ s.brackets
closed_to-brackets n rest line [] s = refl
closed_to-brackets n rest line (c ∷ cs) s = by (closed_to-brackets n rest line cs (with_token dedent rest rest line s)) (nat_lt n c)
  where
    by : (closed_to n rest line cs (with_token dedent rest rest line s)).brackets ≡ s.brackets → (b : Bool)
        → (if b then closed_to n rest line cs (with_token dedent rest rest line s) else record s { columns = c ∷ cs }).brackets ≡ s.brackets
    by further true = further
    by further false = refl

-- END behind the other tokens, where no bracket is open
last-balanced : (text : List ℕ) (s : State) (line : ℕ) → Obeys text [] s → length s.brackets ≡ 0 → AreBalanced (with_token end_of_text [] [] line s).items
last-balanced text s line so_far none_open =
    let none = behind 0 0 [] (omega arith) in
    let whole = with_token-lawful text [] [] [] s end_of_text line s.columns so_far none none refl (Lawful-few text [] s.items (length s.columns) (length s.brackets) so_far.3) in
    record { within = whole.within; closed = whole.opened ∙ none_open }

ending-balanced : (text : List ℕ) (s : State) → Ready text s → AllBalanced (ending s)
unfolding ending
ending-balanced text s so_far =
    let rest = behind_run is_blank s.left in
    let over : IsBehind 0 rest [] = record { count = length rest; some = omega arith; is = sym (drop-length rest) } in
    let none = behind 0 0 [] (omega arith) in
    let now = Obeys-on text rest [] s over so_far in
    open_or (nat_lt 0 (length s.brackets)) refl now (with_token-plain text [] [] [] s newline s.line now plain-newline none none)
  where
    by : length s.brackets ≡ 0 → (b : Bool) → Obeys text [] s → Obeys text [] (with_token newline [] [] s.line s)
        → AreBalanced (with_token end_of_text [] [] s.line (closed_to 0 [] s.line s.columns (if b then with_token newline [] [] s.line s else s))).items
    by none_open true here ended =
        let t = with_token newline [] [] s.line s in
        last-balanced text (closed_to 0 [] s.line s.columns t) s.line (closed_to-keeps text 0 [] s.line s.columns t ended) (ap length (closed_to-brackets 0 [] s.line s.columns t) ∙ none_open)
    by none_open false here ended =
        last-balanced text (closed_to 0 [] s.line s.columns s) s.line (closed_to-keeps text 0 [] s.line s.columns s here) (ap length (closed_to-brackets 0 [] s.line s.columns s) ∙ none_open)

    open_or : (b : Bool) → nat_lt 0 (length s.brackets) ≡ b → Obeys text [] s → Obeys text [] (with_token newline [] [] s.line s)
        → AllBalanced (if b then Err (fault.Unclosed (at_line (first s.brackets))) else Ok (with_token end_of_text [] [] s.line (closed_to 0 [] s.line s.columns (if is_inside s.stage then with_token newline [] [] s.line s else s))).items)
    open_or true e here ended = tt
    open_or false e here ended = let few = ltb-false 0 (length s.brackets) e in by (omega arith) (is_inside s.stage) here ended

tokens_from-balanced : (text : List ℕ) (n : ℕ) (s : State) (cs : List ℕ) → s.left ≡ drop n cs → Ready text s → AllBalanced (tokens_from n s cs)
tokens_from-balanced text n s [] left so_far = ending-balanced text s so_far
tokens_from-balanced text (suc n) s (c ∷ cs) left so_far = tokens_from-balanced text n s cs left so_far
tokens_from-balanced text zero s (c ∷ cs) left so_far =
    by (λ n t. tokens_from-balanced text n t cs) (step (record s { left = c ∷ cs })) refl
    (step-keeps text (record s { left = c ∷ cs }) (subst (λ ds. Ready text (record s { left = ds })) left so_far))
  where
    by : ((n : ℕ) (t : State) → t.left ≡ drop n cs → Ready text t → AllBalanced (tokens_from n t cs)) → (r : Result State TokenFault) → step (record s { left = c ∷ cs }) ≡ r → After text r
        → AllBalanced (and_then r (λ t. tokens_from (length cs - length t.left) t cs))
    by further (Err f) is here = tt
    by further (Ok t) is here =
        let less = step-left (record s { left = c ∷ cs }) t (omega arith) is in
        let rest : t.left ≡ drop (less.count - 1) cs = less.is ∙ drop-behind less.count c cs less.some in
        further (length cs - length t.left) t (rest ∙ sym ((λ k. drop (length cs - length (rest k)) cs) ∙ drop-difference (less.count - 1) cs)) (Ready-from_Here text t here)

-- the tokens of a text
pub of_text : (text : List ℕ) → AllBalanced (tokens_of text)
of_text text =
    let some : Lawful text (without_mark text) [] 0 0 = record {
      behind = without_mark-behind text;
      lie = omega arith;
      blocks = refl;
      opened = refl;
      within = omega arith;
    } in
    tokens_from-balanced text 0 (start text) (without_mark text) refl (Ready-from_Here text (start text) (refl, refl, refl, some))
