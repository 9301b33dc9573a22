-- Which mentions are listed, of lists that are joined and of what stands within.
use Rattle.std.proofs.Common.{◌≡◌, List, [], ◌∷◌, ◌++◌, Option, Some, None, Result, Ok, Err, Vec, Global as Allocator, refl, ap, sym, ◌∙◌, append_assoc}
use Rattle.std.proofs.lemmas.List.{append-nil}
use Rattle.std.specs.Prelude.{OnOk}
use Rattle.rp_scope.specs.declared.mentions.Mention.{Mention}
use Rattle.rp_scope.specs.declared.mentions.Mention.TheVariants.{Bound, Global, GlobalWithin}
use Rattle.rp_scope.specs.declared.mentions.Listing.{Listing}
use Rattle.rp_scope.specs.declared.mentions.Listing.TheVariants.{Program, Function, Within}
use Rattle.rp_tree.specs.Expressions as tree
use Rattle.rp_tree.specs.ExpressionViews as views
use Rattle.rp_scope.specs.Bindings.{within, all_bound, target_names, targets_names, stmts_mentions, maybe_mentions}
use Rattle.rp_tree.specs.declared.stmt.Stmt.{Stmt}
use Rattle.rp_tree.specs.StatementViews.{view_stmts, view_maybe_stmts, block_items}
use Rattle.rp_scope.specs.MentionSteps.{own, listed}

own-append : {A : Type 0} (xs ys : List (Mention A)) → own (xs ++ ys) ≡ own xs ++ own ys
own-append [] ys = refl
own-append (Bound n ∷ xs) ys = ap (λ zs. Bound n ∷ zs) (own-append xs ys)
own-append (Global n ∷ xs) ys = ap (λ zs. Global n ∷ zs) (own-append xs ys)
own-append (GlobalWithin n ∷ xs) ys = own-append xs ys

pub within-append : {A : Type 0} (xs ys : List (Mention A)) → within (xs ++ ys) ≡ within xs ++ within ys
within-append [] ys = refl
within-append (Bound n ∷ xs) ys = within-append xs ys
within-append (Global n ∷ xs) ys = ap (λ zs. GlobalWithin n ∷ zs) (within-append xs ys)
within-append (GlobalWithin n ∷ xs) ys = ap (λ zs. GlobalWithin n ∷ zs) (within-append xs ys)

pub listed-append : {A : Type 0} (w : Listing) (xs ys : List (Mention A)) → listed w (xs ++ ys) ≡ listed w xs ++ listed w ys
listed-append Program xs ys = refl
listed-append Function xs ys = own-append xs ys
listed-append Within xs ys = within-append xs ys

pub listed-cons : {A : Type 0} (w : Listing) (x : Mention A) (y : Mention A) (ys : List (Mention A)) → listed w (x ∷ y ∷ ys) ≡ listed w (x ∷ []) ++ listed w (y ∷ ys)
listed-cons w x y ys = listed-append w (x ∷ []) (y ∷ ys)

pub listed-nil : {A : Type 0} (w : Listing) → listed {A = A} w [] ≡ []
listed-nil Program = refl
listed-nil Function = refl
listed-nil Within = refl

pub all_bound-append : {A : Type 0} (xs ys : List A) → all_bound (xs ++ ys) ≡ all_bound xs ++ all_bound ys
all_bound-append [] ys = refl
all_bound-append (x ∷ xs) ys = ap (λ zs. Bound x ∷ zs) (all_bound-append xs ys)

pub own-within : {A : Type 0} (xs : List (Mention A)) → own (within xs) ≡ []
own-within [] = refl
own-within (Bound n ∷ xs) = own-within xs
own-within (Global n ∷ xs) = own-within xs
own-within (GlobalWithin n ∷ xs) = own-within xs

pub within-within : {A : Type 0} (xs : List (Mention A)) → within (within xs) ≡ within xs
within-within [] = refl
within-within (Bound n ∷ xs) = within-within xs
within-within (Global n ∷ xs) = ap (λ zs. GlobalWithin n ∷ zs) (within-within xs)
within-within (GlobalWithin n ∷ xs) = ap (λ zs. GlobalWithin n ∷ zs) (within-within xs)

pub ruleset listings = (listed-append, listed-nil, all_bound-append, own-within, within-within, append_assoc)

-- a target and those after it
pub targets_part : (w : Listing) (p : tree.Target) (ps : List tree.Target) → listed w (all_bound (targets_names (views.targets_of (p ∷ ps)))) ≡ listed w (all_bound (target_names p)) ++ listed w (all_bound (targets_names (views.targets_of ps)))
targets_part w p ps = ap (listed w) (all_bound-append (target_names p) (targets_names (views.targets_of ps))) ∙ listed-append w (all_bound (target_names p)) (all_bound (targets_names (views.targets_of ps)))

pub inner_none : {A : Type 0} (w : Listing) (xs ys : List (Mention A)) → w ≡ Function → ys ≡ ys ++ listed w (within xs)
inner_none w xs ys is = sym (ap (λ v. ys ++ listed v (within xs)) is ∙ (ap (λ zs. ys ++ zs) (own-within xs) ∙ append-nil ys))

-- a block that may be missing
pub maybe_part : (o : Option (Vec Stmt Allocator)) → maybe_mentions (view_maybe_stmts o) ≡ stmts_mentions (view_stmts (block_items o))
maybe_part None = refl
maybe_part (Some v) = refl

-- an answer that is there keeps what is said of it
pub on_ok : {A E : Type 0} (r : Result A E) {P Q : Type 0} → OnOk r P → (P → Q) → OnOk r Q
on_ok (Ok x) h f = f h
on_ok (Err e) h f = tt

pub on_ok_always : {A E : Type 0} (r : Result A E) {P : Type 0} → P → OnOk r P
on_ok_always (Ok x) h = h
on_ok_always (Err e) h = tt

pub listed_four : {A : Type 0} (w : Listing) (xs ys zs ws : List (Mention A)) → listed w (xs ++ ys ++ zs ++ ws) ≡ listed w xs ++ listed w ys ++ listed w zs ++ listed w ws
listed_four w xs ys zs ws =
    listed-append w (xs ++ ys ++ zs) ws ∙ ap (λ v. v ++ listed w ws) (listed-append w (xs ++ ys) zs ∙ ap (λ v. v ++ listed w zs) (listed-append w xs ys))
