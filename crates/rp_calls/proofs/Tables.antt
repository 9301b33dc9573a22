-- The tables by which arguments and parameters are found by name.
use Rattle.std.proofs.Common.{◌≡◌, ◌∙◌, refl, sym, subst, ap, ℕ, ◌+◌, ◌<◌, Bool, true, false, true≢false, cond, if◌then◌else◌, ◌||◌, List, [], ◌∷◌, ◌++◌, length, drop, get_or, Option, Some, None, is_some, Bor, nat_eq, chars, encode_utf8_all, bytes_eq}
use Rattle.std.specs.Str.{IsUtf8}
use Rattle.std.specs.Option.{IfSome, option_copied, option_map, option_to_list}
use Rattle.std.specs.HashMap as hash
use Rattle.std.specs.HashMap.{HashMap}
use Rattle.std.specs.HashSet as bag
use Rattle.std.specs.HashSet.{HashSet}
use Rattle.std.specs.Cmp.Lexicographic.{pointwise, bytes_decides, nat_list_eq_equiv}
use Rattle.std.proofs.lemmas.Map.Text.{hash_map_updates_str}
use Rattle.std.proofs.lemmas.Str.{encodes-chars}
use Rattle.rp_base.proofs.CallerLemmas.{bytes_from_view, drop_here}
use Rattle.rp_base.specs.Same.{same_text}
use Rattle.rp_base.specs.declared.value.Value.{Value}
use Rattle.rp_base.specs.Names.{word_of}
use Rattle.rp_tree.specs.declared.expr.Expr.{Expr}
use Rattle.rp_tree.specs.Expressions.{Named}
use Rattle.rp_calls.specs.Binding.{given, is_plain, sole}
use Rattle.rp_calls.specs.TableSteps.{HasNames, again, at_word, chosen, has_word, noted}

-- to compare the bytes of a name is to compare its characters
pub name-bytes : (bytes name word : List ℕ) → IsUtf8 bytes → chars bytes ≡ name → bytes_eq bytes (encode_utf8_all word) ≡ same_text name word
name-bytes bytes name word text e = ap (λ bs. bytes_eq bs (encode_utf8_all word)) (sym (bytes_from_view bytes name text e))

pub same_text-swap : (x y : List ℕ) → same_text x y ≡ same_text y x
same_text-swap x y = nat_list_eq_equiv.symm (encode_utf8_all x) (encode_utf8_all y)

again-new : (held : Option (Option (Bor Value))) (v : Value) → is_some held ≡ false → again (option_map option_copied held) v ≡ Some (Some v)
again-new None v new = refl
again-new (Some w) v new = absurd (true≢false new)

again-held : (held : Option (Option (Bor Value))) (v : Value) → is_some held ≡ true → again (option_map option_copied held) v ≡ Some None
again-held None v there = absurd (true≢false (sym there))
again-held (Some w) v there = refl

module _ {S : Type 0} where
  at-put : (m n : HashMap (Bor (List ℕ)) (Option (Bor Value)) S) (name : Bor (List ℕ)) (w : Option (Bor Value))
      → hash.Updates (λ x y. pointwise nat_eq x.now y.now) m n name (Some w)
      → (word : List ℕ) → at_word n word ≡ (if bytes_eq name.now (encode_utf8_all word) then Some (option_copied w) else at_word m word)
  at-put m n name w h word =
      ap (option_map option_copied) (hash_map_updates_str name.now m n (Some w) h (encode_utf8_all word))
      ∙ by (bytes_eq name.now (encode_utf8_all word)) (hash.get_by (λ k. bytes_eq (encode_utf8_all word) k.now) m)
    where
      by : (b : Bool) (o : Option (Option (Bor Value))) → option_map option_copied (cond b (Some w) o) ≡ (if b then Some (option_copied w) else option_map option_copied o)
      by true o = refl
      by false o = refl

  at-name : (m : HashMap (Bor (List ℕ)) (Option (Bor Value)) S) (name : Bor (List ℕ)) (held : Option (Option (Bor Value)))
      → held ≡ hash.get (λ x y. pointwise nat_eq x.now y.now) m name
      → (word : List ℕ) → bytes_eq name.now (encode_utf8_all word) ≡ true → at_word m word ≡ option_map option_copied held
  at-name m name held e word t =
      ap (λ bs. option_map option_copied (hash.get_by (λ k. bytes_eq bs k.now) m)) (sym ((bytes_decides name.now (encode_utf8_all word)).0 t))
      ∙ ap (option_map option_copied) (sym e)

  -- a name that is new has its value
  pub note-first : (m n : HashMap (Bor (List ℕ)) (Option (Bor Value)) S) (name : Bor (List ℕ)) (v : Bor Value) (held : Option (Option (Bor Value)))
      → held ≡ hash.get (λ x y. pointwise nat_eq x.now y.now) m name → is_some held ≡ false
      → hash.Updates (λ x y. pointwise nat_eq x.now y.now) m n name (Some (Some v))
      → (word : List ℕ) → at_word n word ≡ (if bytes_eq name.now (encode_utf8_all word) then again (at_word m word) v.now else at_word m word)
  note-first m n name v held e new h word = at-put m n name (Some v) h word ∙ by (bytes_eq name.now (encode_utf8_all word)) refl
    where
      by : (b : Bool) → bytes_eq name.now (encode_utf8_all word) ≡ b
          → (if b then Some (Some v.now) else at_word m word) ≡ (if b then again (at_word m word) v.now else at_word m word)
      by true t = sym (ap (λ o. again o v.now) (at-name m name held e word t) ∙ again-new held v.now new)
      by false t = refl

  -- one that is there has none
  pub note-again : (m l n : HashMap (Bor (List ℕ)) (Option (Bor Value)) S) (name : Bor (List ℕ)) (v : Bor Value) (held : Option (Option (Bor Value)))
      → held ≡ hash.get (λ x y. pointwise nat_eq x.now y.now) m name → is_some held ≡ true
      → hash.Updates (λ x y. pointwise nat_eq x.now y.now) m l name (Some (Some v))
      → hash.Updates (λ x y. pointwise nat_eq x.now y.now) l n name (Some None)
      → (word : List ℕ) → at_word n word ≡ (if bytes_eq name.now (encode_utf8_all word) then again (at_word m word) v.now else at_word m word)
  note-again m l n name v held e there h g word =
      at-put l n name None g word
      ∙ ap (λ o. if bytes_eq name.now (encode_utf8_all word) then Some None else o) (at-put m l name (Some v) h word)
      ∙ by (bytes_eq name.now (encode_utf8_all word)) refl
    where
      by : (b : Bool) → bytes_eq name.now (encode_utf8_all word) ≡ b
          → (if b then Some None else if b then Some (Some v.now) else at_word m word) ≡ (if b then again (at_word m word) v.now else at_word m word)
      by true t = sym (ap (λ o. again o v.now) (at-name m name held e word t) ∙ again-held held v.now there)
      by false t = refl

  -- a word that is put into a set is there
  pub word-put : (m n : HashSet (Bor (List ℕ)) S) (word : Bor (List ℕ)) → bag.Updates (λ x y. pointwise nat_eq x.now y.now) m n word true
      → (other : List ℕ) → has_word n other ≡ (bytes_eq word.now (encode_utf8_all other) || has_word m other)
  word-put m n word h other =
      h.0 (record { ref_ptr = (0, 0); now = encode_utf8_all other }) ∙ by (bytes_eq word.now (encode_utf8_all other)) (has_word m other)
    where
      by : (b c : Bool) → cond b true c ≡ (b || c)
      by true c = refl
      by false c = refl

-- the words of the parameters, where there are such, tell of each name whether it is one
pub names-told : {S : Type 0} (o : Option (HashSet (Bor (List ℕ)) S)) (words : HashSet (Bor (List ℕ)) S) (names : List (List ℕ)) (ps : List (Named × Option Expr)) (bytes name : List ℕ)
    → IfSome o (λ words. HasNames words names ps) → o ≡ Some words → IsUtf8 bytes → chars bytes ≡ name
    → bag.contains_by (λ k. bytes_eq bytes k.now) words ≡ is_plain names ps name
names-told o words names ps bytes name h e text same =
    ap (λ bs. bag.contains_by (λ k. bytes_eq bs k.now) words) (sym (bytes_from_view bytes name text same))
    ∙ subst (λ o. IfSome o (λ words. HasNames words names ps)) e h name

-- one more argument
pub argument-turn : (named : List (List ℕ × Value)) (i : ℕ) (g : List ℕ × Value) (bytes word : List ℕ) (held new : Option (Option Value))
    → i < length named → g ≡ get_or named i g → IsUtf8 bytes → chars bytes ≡ g.0
    → new ≡ (if bytes_eq bytes (encode_utf8_all word) then again held g.1 else held)
    → noted new (given (drop (i + 1) named) word) ≡ noted held (given (drop i named) word)
argument-turn named i g bytes word held new within e text name put =
    ap (λ o. noted o gs) put ∙ by (bytes_eq bytes (encode_utf8_all word)) ∙ ap (λ b. noted held (if b then g.1 ∷ gs else gs)) (name-bytes bytes g.0 word text name)
    ∙ ap (λ gs. noted held (given gs word)) (sym (drop_here named i g within e))
  where
    gs : List Value
    gs = given (drop (i + 1) named) word

    by : (b : Bool) → noted (if b then again held g.1 else held) gs ≡ noted held (if b then g.1 ∷ gs else gs)
    by true = refl
    by false = refl

-- one more parameter
pub parameter-turn : (names : List (List ℕ)) (ps : List (Named × Option Expr)) (i : ℕ) (p : Named × Option Expr) (bytes word : List ℕ) (held new : Bool)
    → i < length ps → p ≡ get_or ps i p → IsUtf8 bytes → chars bytes ≡ word_of names p.0.name
    → new ≡ (bytes_eq bytes (encode_utf8_all word) || held)
    → (new || is_plain names (drop (i + 1) ps) word) ≡ (held || is_plain names (drop i ps) word)
parameter-turn names ps i p bytes word held new within e text name put =
    ap (λ b. b || rest) put ∙ by (bytes_eq bytes (encode_utf8_all word)) held
    ∙ ap (λ b. held || (b || rest)) (name-bytes bytes (word_of names p.0.name) word text name ∙ same_text-swap (word_of names p.0.name) word)
    ∙ ap (λ ps. held || is_plain names ps word) (sym (drop_here ps i p within e))
  where
    rest : Bool
    rest = is_plain names (drop (i + 1) ps) word

    by : (a h : Bool) → ((a || h) || rest) ≡ (h || (a || rest))
    by true true = refl
    by true false = refl
    by false true = refl
    by false false = refl

noted-more : (vs : List Value) → noted (Some None) vs ≡ Some None
noted-more [] = refl
noted-more (v ∷ vs) = noted-more vs

-- what is noted of the arguments of a name tells which one fills its parameter
pub chosen-sole : (first : Option Value) (vs : List Value) (default : Option Value) → chosen first (noted None vs) default ≡ sole (option_to_list first ++ vs) default
chosen-sole None [] default = refl
chosen-sole (Some w) [] default = refl
chosen-sole None (v ∷ []) default = refl
chosen-sole (Some w) (v ∷ []) default = refl
chosen-sole None (v ∷ u ∷ vs) default = ap (λ o. chosen None o default) (noted-more vs)
chosen-sole (Some w) (v ∷ u ∷ vs) default = ap (λ o. chosen (Some w) o default) (noted-more vs)

-- what a table has for a name tells which argument fills its parameter
pub sole-told : {S : Type 0} (o : Option (HashMap (Bor (List ℕ)) (Option (Bor Value)) S)) (table : HashMap (Bor (List ℕ)) (Option (Bor Value)) S) (named : List (List ℕ × Value)) (bytes : List ℕ)
    (first default : Option Value) → IfSome o (λ table. (word : List ℕ) → at_word table word ≡ noted None (given named word)) → o ≡ Some table → IsUtf8 bytes
    → chosen first (option_map option_copied (hash.get_by (λ k. bytes_eq bytes k.now) table)) default ≡ sole (option_to_list first ++ given named (chars bytes)) default
sole-told o table named bytes first default h e text =
    ap (λ bs. chosen first (option_map option_copied (hash.get_by (λ k. bytes_eq bs k.now) table)) default) (sym (encodes-chars bytes text))
    ∙ ap (λ o. chosen first o default) (subst (λ o. IfSome o (λ table. (word : List ℕ) → at_word table word ≡ noted None (given named word))) e h (chars bytes))
    ∙ chosen-sole first (given named (chars bytes)) default
