-- What a monitor refuses is done without one: nothing is logged, and the operation costs its cell all the same.
use Rattle.std.proofs.Common.{◌≡◌, [], ◌∷◌, codes, Some, refl}
use lib.Utf8.{encode}
use Rattle.rp_base.specs.declared.kind.Kind.TheVariants.{Unauthorized}
use Rattle.rp_compare.specs.Equality.{within}
use Rattle.rp_meaning.specs.Sessions.{well, cut_off}
use Rattle.rp_meaning_examples.proofs.Building.{var, attribute, prints}
use Rattle.rp_meaning_examples.proofs.Playing.{Seen, seen, not_read, played, played_unmonitored, program, raises_with}
use Rattle.rp_meaning_examples.proofs.Shop.{shop_module}
use Rattle.rp_meaning_examples.proofs.Words.{n', o'}

-- print(o.n), as the principal `q`, who may not
abbrev monitored_read : Seen
monitored_read = played (shop_module ∷ program (prints (attribute (var o') n' ∷ []) ∷ []) (([], []) ∷ []) ∷ []) (codes "q" ∷ []) 100000 1000000 []

monitored_read-seen : monitored_read
    ≡ seen 1 (not_read 1 (codes "Item") (codes "n") ∷ []) ((Some (cut_off (raises_with Unauthorized (codes "zope.View"))), 999995, []) ∷ [])
unfolding encode within
monitored_read-seen = refl

-- the same
abbrev unmonitored_read : Seen
unmonitored_read = played_unmonitored (shop_module ∷ program (prints (attribute (var o') n' ∷ []) ∷ []) (([], []) ∷ []) ∷ []) (codes "q" ∷ []) 100000 1000000 []

unmonitored_read-seen : unmonitored_read ≡ seen 7 [] ((Some well, 999995, codes "seven\n") ∷ [])
unfolding encode within
unmonitored_read-seen = refl
