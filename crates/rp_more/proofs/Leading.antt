-- What the steps of writing an f-literal out lead to.
use Rattle.std.proofs.Common.{◌≡◌, ◌∙◌, refl, sym, ap, ℕ, Bool, false, List, [], ◌∷◌, ◌++◌, append_assoc, map, codes, Option, Some, None, Result, Ok, Err}
use Rattle.std.proofs.lemmas.List.{map-append}
use Rattle.std.specs.Option.{option_map, option_and_then}
use Rattle.std.specs.Result.{IsErrAnd}
use Rattle.rp_token.specs.Form.{Form, mark, Item}
use Rattle.rp_more.specs.declared.fault.MoreFault.{MoreFault}
use Rattle.rp_more.specs.declared.fault.MoreFault.TheVariants as fault
use Rattle.rp_more.specs.declared.place.Place.{Place}
use Rattle.rp_more.specs.Forms.{placed}
use Rattle.rp_more.specs.LiteralSteps.{Leads, comma_before, in_place, join_front, place_item, str_front}
use Rattle.rp_more.specs.Literals.{elements, join_call, joined, literal_forms, piece_forms, str_call, with_front}
use Rattle.rp_more.specs.Pieces.{Piece, pieces_of}
use Rattle.rp_more.specs.View.{Gives}
use Rattle.rp_more.proofs.Fronts.{with_front-joined, with_front-more}
use Rattle.rp_more.proofs.Places.{in_place-pair}

abbrev pub at_place : Place → List Form → List Item
at_place p fs = map (placed (place_item p)) fs

-- a fault that was handed on
pub Leads-fault : (a b c d : Result (List Item) MoreFault) (f : MoreFault) → ((g : MoreFault) → b ≡ Err g → a ≡ Err g) → Leads b d (Err f) → Leads a c (Err f)
Leads-fault a b c d fault.Memory first leads = tt
Leads-fault a b c d (fault.Format line) first leads = first (fault.Format line) leads

-- an element, behind its comma, before others
element-from : (p : Place) (w c : List Item) (first : Bool) (piece : Piece) (ps : List Piece) → c ≡ w ++ at_place p (comma_before first)
    → with_front w (in_place p (elements (comma_before first) (piece ∷ ps))) ≡ joined (with_front c (in_place p (piece_forms piece))) (in_place p (elements (comma_before false) ps))
element-from p w c first piece ps e =
    let more = in_place p (elements (comma_before false) ps) in
    ap (with_front w) (in_place-pair p (comma_before first) (piece_forms piece) (elements (mark (codes ",") ∷ []) ps))
    ∙ with_front-more w (at_place p (comma_before first)) (joined (in_place p (piece_forms piece)) more)
    ∙ ap (λ front. with_front front (joined (in_place p (piece_forms piece)) more)) (sym e)
    ∙ with_front-joined c (in_place p (piece_forms piece)) more

pub Leads-element : (p : Place) (w c v : List Item) (first : Bool) (piece : Piece) (ps : List Piece) (r : Result (Unit {0}) MoreFault) → c ≡ w ++ at_place p (comma_before first)
    → Leads (with_front c (in_place p (piece_forms piece))) (Ok v) r
    → Leads (with_front w (in_place p (elements (comma_before first) (piece ∷ ps)))) (with_front v (in_place p (elements (comma_before false) ps))) r
Leads-element p w c v first piece ps (Ok done) e leads = element-from p w c first piece ps e ∙ ap (λ r. joined r (in_place p (elements (comma_before false) ps))) leads
Leads-element p w c v first piece ps (Err fault.Memory) e leads = tt
Leads-element p w c v first piece ps (Err (fault.Format line)) e leads = element-from p w c first piece ps e ∙ ap (λ r. joined r (in_place p (elements (comma_before false) ps))) leads

-- forms between a front and an end
between : (p : Place) (w a b c : List Item) (front fs end : List Form) → a ≡ w ++ at_place p front → with_front a (Ok (at_place p fs)) ≡ Ok b → c ≡ b ++ at_place p end
    → with_front w (Ok (at_place p (front ++ (fs ++ end)))) ≡ Ok c
between p w a b c front fs end e leads f =
    let inner : a ++ at_place p fs ≡ b = ok_same (with_front a (Ok (at_place p fs))) (a ++ at_place p fs) b refl leads in
    ap Ok (ap (λ items. w ++ items) (map-append (placed (place_item p)) front (fs ++ end) ∙ ap (λ items. at_place p front ++ items) (map-append (placed (place_item p)) fs end))
    ∙ sym (append_assoc w (at_place p front) (at_place p fs ++ at_place p end)) ∙ ap (λ items. items ++ (at_place p fs ++ at_place p end)) (sym e)
    ∙ sym (append_assoc a (at_place p fs) (at_place p end)) ∙ ap (λ items. items ++ at_place p end) inner ∙ sym f)
  where
    ok_same : (r : Result (List Item) MoreFault) (xs ys : List Item) → r ≡ Ok xs → r ≡ Ok ys → xs ≡ ys
    ok_same r xs ys e f = cc

-- the call of an f-literal
pub join-done : (p : Place) (w a b c : List Item) (text : List ℕ) (ps : List Piece) → pieces_of text ≡ Some ps → a ≡ w ++ at_place p join_front
    → with_front a (in_place p (elements [] ps)) ≡ Ok b → c ≡ b ++ at_place p (mark (codes "]") ∷ mark (codes ")") ∷ []) → with_front w (in_place p (literal_forms text)) ≡ Ok c
join-done p w a b c text ps e f leads g =
    (λ k. with_front w (in_place p (option_map join_call (option_and_then (elements []) (e k))))) ∙ by (elements [] ps) leads
  where
    by : (o : Option (List Form)) → with_front a (in_place p o) ≡ Ok b → with_front w (in_place p (option_map join_call o)) ≡ Ok c
    by None leads = cc
    by (Some fs) leads = between p w a b c join_front fs (mark (codes "]") ∷ mark (codes ")") ∷ []) f leads g

pub join-failed : (p : Place) (w a : List Item) (text : List ℕ) (ps : List Piece) (g : MoreFault) → pieces_of text ≡ Some ps → with_front a (in_place p (elements [] ps)) ≡ Err g
    → with_front w (in_place p (literal_forms text)) ≡ Err g
join-failed p w a text ps g e leads =
    (λ k. with_front w (in_place p (option_map join_call (option_and_then (elements []) (e k))))) ∙ by (elements [] ps) leads
  where
    by : (o : Option (List Form)) → with_front a (in_place p o) ≡ Err g → with_front w (in_place p (option_map join_call o)) ≡ Err g
    by None leads = leads
    by (Some fs) leads = cc

-- the call of an expression
pub str-done : (p : Place) (w a b c : List Item) (o : Option (List Form)) (fs : List Form) → o ≡ Some fs → a ≡ w ++ at_place p str_front → b ≡ a ++ at_place p fs
    → c ≡ b ++ at_place p (mark (codes ")") ∷ mark (codes ")") ∷ []) → with_front w (in_place p (option_map str_call o)) ≡ Ok c
str-done p w a b c o fs e f g h =
    (λ k. with_front w (in_place p (option_map str_call (e k)))) ∙ between p w a b c str_front fs (mark (codes ")") ∷ mark (codes ")") ∷ []) f (ap Ok (sym g)) h

pub fault_handed : {A : Type 0} (r : Result A MoreFault) (f : MoreFault) → IsErrAnd r (λ e. e ≡ f) → r ≡ Err f
fault_handed (Ok x) f is = absurd is
fault_handed (Err e) f is = ap Err is

-- the same of the answer as a whole
pub Gives-fault : (names : List (List ℕ)) (a b d : Result (List Item) MoreFault) (f : MoreFault) → a ≡ b → Leads b d (Err f) → Gives names a (Err f)
Gives-fault names a b d fault.Memory e leads = tt
Gives-fault names a b d (fault.Format line) e leads = e ∙ leads
