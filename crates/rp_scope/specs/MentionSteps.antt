-- The mentions of names that one walk over statements lists.
use Rattle.std.specs.Prelude.{List, [], ◌∷◌, Bool, not}
use Rattle.std.specs.List.{filter, filter_map, list_any}
use Rattle.rp_scope.specs.declared.mentions.Mention.{Mention}
use Rattle.rp_scope.specs.declared.mentions.Mention.TheVariants.{Bound, Global, GlobalWithin}
use Rattle.rp_scope.specs.declared.mentions.Listing.{Listing}
use Rattle.rp_scope.specs.declared.mentions.Listing.TheVariants.{Program, Function, Within}
use Rattle.rp_scope.specs.Bindings.{within, Block, bound_name, global_name}

-- what the statements of a block say themselves
abbrev pub own : {A : Type 0} → List (Mention A) → List (Mention A)
own [] = []
own (Bound n ∷ xs) = Bound n ∷ own xs
own (Global n ∷ xs) = Global n ∷ own xs
own (GlobalWithin n ∷ xs) = own xs

-- of the mentions of statements, those that are listed
abbrev pub listed : {A : Type 0} → Listing → List (Mention A) → List (Mention A)
listed Program xs = xs
listed Function xs = own xs
listed Within xs = within xs

-- the block of which these are the mentions
abbrev pub block_of : {A : Type 0} → List (Mention A) → Block A
block_of xs = record { names = filter_map bound_name xs; globals = filter_map global_name xs }

-- the names that are not among the given ones
abbrev pub unlisted : {A : Type 0} → (A → A → Bool) → List A → List A → List A
unlisted same globals names = filter (λ x. not (list_any (same x) globals)) names
