-- Tokens before what further ones give.
use Rattle.std.proofs.Common.{◌≡◌, ◌∙◌, refl, sym, ap, Bool, false, List, [], ◌∷◌, ◌++◌, append_assoc, Result, Ok, Err}
use Rattle.rp_token.specs.Form.{Item}
use Rattle.rp_more.specs.declared.fault.MoreFault.{MoreFault}
use Rattle.rp_more.specs.Forms.{ends_operand}
use Rattle.rp_more.specs.Literals.{begins, joined, literals, with_front}

pub with_front-more : (xs ys : List Item) (r : Result (List Item) MoreFault) → with_front xs (with_front ys r) ≡ with_front (xs ++ ys) r
with_front-more xs ys (Ok items) = ap Ok (sym (append_assoc xs ys items))
with_front-more xs ys (Err f) = refl

pub with_front-joined : (xs : List Item) (r more : Result (List Item) MoreFault) → with_front xs (joined r more) ≡ joined (with_front xs r) more
with_front-joined xs (Ok ys) more = with_front-more xs ys more
with_front-joined xs (Err f) more = refl

-- what comes at a token of its own, at the name of an f-literal, and at its text
pub literals-other : (operand : Bool) (t : Item) (ts : List Item) → begins operand t ts ≡ false
    → literals operand false (t ∷ ts) ≡ with_front (t ∷ []) (literals (ends_operand t.form) false ts)
literals-other operand t ts e = rw e refl

-- a step that is followed by what stays the same
pub Leads-joined : (xs ys : List Item) (r more : Result (List Item) MoreFault) → with_front xs r ≡ Ok ys → with_front xs (joined r more) ≡ with_front ys more
Leads-joined xs ys r more e = with_front-joined xs r more ∙ ap (λ (a : Result (List Item) MoreFault). joined a more) e

pub Leads-failed : (xs : List Item) (r more : Result (List Item) MoreFault) (f : MoreFault) → with_front xs r ≡ Err f → with_front xs (joined r more) ≡ Err f
Leads-failed xs r more f e = with_front-joined xs r more ∙ ap (λ (a : Result (List Item) MoreFault). joined a more) e

-- tokens one behind another
pub pushed-two : (w v x : List Item) (a b : Item) → v ≡ w ++ a ∷ [] → x ≡ v ++ b ∷ [] → x ≡ w ++ a ∷ b ∷ []
pushed-two w v x a b e f = f ∙ ap (λ items. items ++ b ∷ []) e ∙ append_assoc w (a ∷ []) (b ∷ [])

pub pushed-more : (w v x more : List Item) (b : Item) → v ≡ w ++ more → x ≡ v ++ b ∷ [] → x ≡ w ++ (more ++ b ∷ [])
pushed-more w v x more b e f = f ∙ ap (λ items. items ++ b ∷ []) e ∙ append_assoc w more (b ∷ [])

-- a token that is taken over as it is
pub kept-left : (w v : List Item) (operand inside operand2 inside2 : Bool) (t : Item) (ts : List Item) → inside ≡ false → begins operand t ts ≡ false → v ≡ w ++ t ∷ []
    → operand2 ≡ ends_operand t.form → inside2 ≡ false → with_front w (literals operand inside (t ∷ ts)) ≡ with_front v (literals operand2 inside2 ts)
kept-left w v operand inside operand2 inside2 t ts e none f g h =
    (λ k. with_front w (literals operand (e k) (t ∷ ts))) ∙ ap (with_front w) (literals-other operand t ts none)
    ∙ with_front-more w (t ∷ []) (literals (ends_operand t.form) false ts) ∙ (λ k. with_front (sym f k) (literals (sym g k) (sym h k) ts))

pub pushed-three : (w a b c : List Item) (i j k : Item) → a ≡ w ++ i ∷ [] → b ≡ a ++ j ∷ [] → c ≡ b ++ k ∷ [] → c ≡ w ++ i ∷ j ∷ k ∷ []
pushed-three w a b c i j k e f g = pushed-more w b c (i ∷ j ∷ []) k (pushed-two w a b i j e f) g

pub pushed-five : (w a b c d e : List Item) (i j k l m : Item) → a ≡ w ++ i ∷ [] → b ≡ a ++ j ∷ [] → c ≡ b ++ k ∷ [] → d ≡ c ++ l ∷ [] → e ≡ d ++ m ∷ []
    → e ≡ w ++ i ∷ j ∷ k ∷ l ∷ m ∷ []
pushed-five w a b c d e i j k l m p q r s t =
    pushed-more w d e (i ∷ j ∷ k ∷ l ∷ []) m (pushed-more w c d (i ∷ j ∷ k ∷ []) l (pushed-three w a b c i j k p q r) s) t
