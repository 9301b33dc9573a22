-- What is known of the brackets that close is what the definition finds behind a bracket.
use Rattle.std.proofs.Common.{◌≡◌, ◌∙◌, refl, sym, ap, subst, ℕ, zero, suc, ◌+◌, ◌-◌, Bool, true, false, ◌==◌, ◌&&◌, ◌||◌, not, if◌then◌else◌, List, [], ◌∷◌, ◌<◌, length, get_or, drop, codes, arith}
use Rattle.std.proofs.lemmas.Bool.{ne_eqb}
use Rattle.std.proofs.lemmas.List.{drop_more}
use Rattle.std.specs.List.{list_any}
use Rattle.rp_token.specs.Form.{Form, Item}
use Rattle.rp_token.specs.Laws.{opens, closes}
use Rattle.rp_token.specs.View.{form_view, item_view}
use Rattle.rp_token.specs.declared.token.Token.{Token}
use Rattle.rp_token.specs.declared.token.TokenKind.{TokenKind}
use Rattle.rp_more.specs.declared.ahead.Ahead.{Ahead}
use Rattle.rp_more.specs.declared.groups.Group.{Group}
use Rattle.rp_more.specs.declared.groups.Group.TheVariants as group
use Rattle.rp_more.specs.Forms as form
use Rattle.rp_more.specs.KindSteps.{is_left_brace}
use Rattle.rp_more.specs.LiteralSteps.{items_of}
use Rattle.rp_more.specs.Sets as of
use Rattle.rp_more.specs.SetSteps.{aheads, aheads_before, fresh, group_behind, group_seen, groups_ahead, groups_before, is_closed, is_followed, seen_before}
use Rattle.rp_more.proofs.KindForms.{form-closes, form-colon, form-is_for, form-left_brace, form-may_follow, form-opens, form-right_brace}

-- the definition's two walks, in each of their cases
closing-here : (t : Item) (ts : List Item) → form.closes t.form ≡ true → of.from_closing 0 (t ∷ ts) ≡ t ∷ ts
closing-here t ts e = rw e refl

not_zero : (n : ℕ) → (suc n == 0) ≡ false
not_zero n = ne_eqb (suc n) 0 (λ (e : suc n ≡ 0). omega arith)

one_less : (n : ℕ) → suc n - 1 ≡ n
one_less n = omega arith

one_more : (n : ℕ) → n + 1 ≡ suc n
one_more n = omega arith

closing-less : (n : ℕ) (t : Item) (ts : List Item) → form.closes t.form ≡ true → of.from_closing (suc n) (t ∷ ts) ≡ of.from_closing n ts
closing-less n t ts e = rw (e, not_zero n) (ap (λ k. of.from_closing k ts) (one_less n))

closing-more : (n : ℕ) (t : Item) (ts : List Item) → form.closes t.form ≡ false → form.opens t.form ≡ true → of.from_closing n (t ∷ ts) ≡ of.from_closing (suc n) ts
closing-more n t ts e f = rw (e, f) (ap (λ k. of.from_closing k ts) (one_more n))

closing-other : (n : ℕ) (t : Item) (ts : List Item) → form.closes t.form ≡ false → form.opens t.form ≡ false → of.from_closing n (t ∷ ts) ≡ of.from_closing n ts
closing-other n t ts e f = rw (e, f) refl

own-here : (t : Item) (ts : List Item) → form.closes t.form ≡ true → of.own 0 (t ∷ ts) ≡ []
own-here t ts e = rw e refl

own-less : (n : ℕ) (t : Item) (ts : List Item) → form.closes t.form ≡ true → of.own (suc n) (t ∷ ts) ≡ of.own n ts
own-less n t ts e = rw (e, not_zero n) (ap (λ k. of.own k ts) (one_less n))

own-more : (n : ℕ) (t : Item) (ts : List Item) → form.closes t.form ≡ false → form.opens t.form ≡ true → of.own n (t ∷ ts) ≡ of.own (suc n) ts
own-more n t ts e f = rw (e, f) (ap (λ k. of.own k ts) (one_more n))

own-first : (t : Item) (ts : List Item) → form.closes t.form ≡ false → form.opens t.form ≡ false → of.own 0 (t ∷ ts) ≡ t.form ∷ of.own 0 ts
own-first t ts e f = rw (e, f) refl

own-other : (n : ℕ) (t : Item) (ts : List Item) → form.closes t.form ≡ false → form.opens t.form ≡ false → of.own (suc n) (t ∷ ts) ≡ of.own (suc n) ts
own-other n t ts e f = rw (e, f, not_zero n) refl

-- what is known of a bracket is so of the tokens from the one that closes on, and of those before it
record Told (a : Ahead) (closing : List Item) (own : List Form) : Type 0 where
  pub closes_set : a.closes_set ≡ (form.is_mark (codes "}") (of.first_form closing) && of.is_followed (drop 1 closing))
  pub has_colon : a.has_colon ≡ list_any (form.is_mark (codes ":")) own
  pub has_for : a.has_for ≡ list_any (form.is_keyword (codes "for")) own

abbrev Tells : List Ahead → List Item → List Form → Type 0
Tells [] closing own = closing ≡ []
Tells (a ∷ known) closing own = Told a closing own

Tells-same : (known : List Ahead) (closing others : List Item) (own more : List Form) → others ≡ closing → more ≡ own → Tells known closing own → Tells known others more
Tells-same known closing others own more e f told = subst (λ o. Tells known others o) (sym f) (subst (λ c. Tells known c own) (sym e) told)

followed-same : (names : List (List ℕ)) (ts : List Token) → of.is_followed (items_of names ts) ≡ is_followed ts
followed-same names [] = refl
followed-same names (t ∷ ts) = form-may_follow names t.kind

closed-same : (names : List (List ℕ)) (ts : List Token) → form.closes (of.first_form (items_of names ts)) ≡ is_closed ts
closed-same names [] = refl
closed-same names (t ∷ ts) = form-closes names t.kind

told-fresh : (names : List (List ℕ)) (t : Token) (ts : List Token) → Told (fresh t.kind ts) (item_view names t ∷ items_of names ts) []
told-fresh names t ts = record {
  closes_set = λ k. sym (form-right_brace names t.kind) k && sym (followed-same names ts) k;
  has_colon = refl;
  has_for = refl;
}

tells-seen : (names : List (List ℕ)) (k : TokenKind) (known : List Ahead) (closing : List Item) (own : List Form) → Tells known closing own → Tells (seen_before k known) closing (form_view names k ∷ own)
tells-seen names k [] closing own told = told
tells-seen names k (a ∷ known) closing own told = record {
  closes_set = told.closes_set;
  has_colon = λ j. sym (form-colon names k) j || told.has_colon j;
  has_for = λ j. sym (form-is_for names k) j || told.has_for j;
}

drop-more : (n : ℕ) (known : List Ahead) → drop n (drop 1 known) ≡ drop (suc n) known
drop-more zero [] = refl
drop-more (suc n) [] = refl
drop-more n (a ∷ known) = refl

drop-seen : (n : ℕ) (k : TokenKind) (known : List Ahead) → drop (suc n) (seen_before k known) ≡ drop (suc n) known
drop-seen n k [] = refl
drop-seen n k (a ∷ known) = refl

-- one token more before
tells-more : (names : List (List ℕ)) (n : ℕ) (t : Token) (ts : List Token) (known : List Ahead) → ((m : ℕ) → Tells (drop m known) (of.from_closing m (items_of names ts)) (of.own m (items_of names ts)))
    → Tells (drop n (aheads_before t.kind ts known)) (of.from_closing n (item_view names t ∷ items_of names ts)) (of.own n (item_view names t ∷ items_of names ts))
tells-more names n t ts known further = by n (closes t.kind) (opens t.kind) (form-closes names t.kind) (form-opens names t.kind)
  where
    i : Item
    i = item_view names t

    is : List Item
    is = items_of names ts

    by : (n : ℕ) (c o : Bool) → form.closes i.form ≡ c → form.opens i.form ≡ o
        → Tells (drop n (if c then fresh t.kind ts ∷ known else if o then drop 1 known else seen_before t.kind known)) (of.from_closing n (i ∷ is)) (of.own n (i ∷ is))
    by zero true o e f = Tells-same (fresh t.kind ts ∷ known) (i ∷ is) _ [] _ (closing-here i is e) (own-here i is e) (told-fresh names t ts)
    by (suc m) true o e f = Tells-same (drop m known) _ _ _ _ (closing-less m i is e) (own-less m i is e) (further m)
    by n false true e f =
        subst (λ bs. Tells bs (of.from_closing n (i ∷ is)) (of.own n (i ∷ is))) (sym (drop-more n known))
        (Tells-same (drop (suc n) known) _ _ _ _ (closing-more n i is e f) (own-more n i is e f) (further (suc n)))
    by zero false false e f =
        Tells-same (seen_before t.kind known) _ _ _ _ (closing-other 0 i is e f) (own-first i is e f) (tells-seen names t.kind known _ _ (further 0))
    by (suc m) false false e f =
        subst (λ bs. Tells bs (of.from_closing (suc m) (i ∷ is)) (of.own (suc m) (i ∷ is))) (sym (drop-seen m t.kind known))
        (Tells-same (drop (suc m) known) _ _ _ _ (closing-other (suc m) i is e f) (own-other m i is e f) (further (suc m)))

tells : (names : List (List ℕ)) (n : ℕ) (ts : List Token) → Tells (drop n (aheads ts)) (of.from_closing n (items_of names ts)) (of.own n (items_of names ts))
tells names zero [] = refl
tells names (suc n) [] = refl
tells names n (t ∷ ts) = tells-more names n t ts (aheads ts) (λ m. tells names m ts)

-- the tests of a group in both orders
in_both : (b l c s o f : Bool)
    → group_seen (if b && l then (if c then group.Other else if not s || o then group.Other else if f then group.Comprehension else group.Display) else group.Other)
    ≡ (if b && (l && ((not c && not o) && s)) then (if f then of.comprehension else of.display) else of.other)
in_both false l c s o f = refl
in_both true false c s o f = refl
in_both true true true s o f = refl
in_both true true false false false f = refl
in_both true true false false true f = refl
in_both true true false true true f = refl
in_both true true false true false false = refl
in_both true true false true false true = refl

without : (b l c o f : Bool) → group_seen (if b && l then (if c then group.Other else group.Other) else group.Other) ≡ (if b && (l && ((not c && not o) && false)) then (if f then of.comprehension else of.display) else of.other)
without false l c o f = refl
without true false c o f = refl
without true true true o f = refl
without true true false false f = refl
without true true false true f = refl

-- what a bracket opens
pub group-same : (names : List (List ℕ)) (before : Form) (b : Bool) (t : Token) (ts : List Token) → form.is_keyword (codes "in") before ≡ b
    → group_seen (if b && is_left_brace t.kind then group_behind ts (aheads ts) else group.Other) ≡ of.group_of before (form_view names t.kind) (items_of names ts)
group-same names before b t ts e = by (aheads ts) (tells names 0 ts)
  where
    is : List Item
    is = items_of names ts

    closing : List Item
    closing = of.from_closing 0 is

    group_by : Bool → Bool → Bool → Bool → Bool → Bool → of.Group
    group_by b l c s o f = if b && (l && ((not c && not o) && s)) then (if f then of.comprehension else of.display) else of.other

    as_defined : (s : Bool) → s ≡ (form.is_mark (codes "}") (of.first_form closing) && of.is_followed (drop 1 closing))
        → group_by b (is_left_brace t.kind) (is_closed ts) s (list_any (form.is_mark (codes ":")) (of.own 0 is)) (list_any (form.is_keyword (codes "for")) (of.own 0 is))
        ≡ of.group_of before (form_view names t.kind) is
    as_defined s g =
        (λ k. group_by (sym e k) (sym (form-left_brace names t.kind) k) (sym (closed-same names ts) k) (g k) (list_any (form.is_mark (codes ":")) (of.own 0 is)) (list_any (form.is_keyword (codes "for")) (of.own 0 is)))

    by : (known : List Ahead) → Tells known closing (of.own 0 is) → group_seen (if b && is_left_brace t.kind then group_behind ts known else group.Other) ≡ of.group_of before (form_view names t.kind) is
    by [] none =
        without b (is_left_brace t.kind) (is_closed ts) (list_any (form.is_mark (codes ":")) (of.own 0 is)) (list_any (form.is_keyword (codes "for")) (of.own 0 is))
        ∙ as_defined false (sym (λ k. form.is_mark (codes "}") (of.first_form (none k)) && of.is_followed (drop 1 (none k))))
    by (a ∷ known) told =
        in_both b (is_left_brace t.kind) (is_closed ts) a.closes_set a.has_colon a.has_for
        ∙ (λ k. group_by b (is_left_brace t.kind) (is_closed ts) a.closes_set (told.has_colon k) (told.has_for k))
        ∙ as_defined a.closes_set told.closes_set

-- one token more from the right
pub walk-turn : (groups groups2 : List Group) (known known2 : List Ahead) (ts behind : List Token) (p q : ℕ) (t : Token) → q ≡ p + 1 → p < length ts → t ≡ get_or ts p t → behind ≡ drop (p + 1) ts
    → groups ≡ groups_ahead (drop q ts) → known ≡ aheads (drop q ts) → groups2 ≡ groups_before t.kind behind known groups → known2 ≡ aheads_before t.kind behind known
    → (groups2 ≡ groups_ahead (drop p ts)) × (known2 ≡ aheads (drop p ts))
walk-turn groups groups2 known known2 ts behind p q t more within is rest before so_far e f =
    let whole : drop p ts ≡ t ∷ behind = drop_more ts p t within ∙ (λ k. sym is k ∷ sym rest k) in
    let there : drop q ts ≡ behind = ap (λ n. drop n ts) more ∙ sym rest in
    let closing : known ≡ aheads behind = so_far ∙ ap aheads there in (
      e ∙ (λ k. groups_before t.kind behind (closing k) ((before ∙ ap groups_ahead there) k)) ∙ sym (ap groups_ahead whole),
      f ∙ (λ k. aheads_before t.kind behind (closing k)) ∙ sym (ap aheads whole),
    )
