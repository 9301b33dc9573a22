-- A look-up of a value as a key.
use Rattle.std.proofs.Common.{◌≡◌, Some, Ok, codes, is_some, sym, ap, ◌∙◌}
use Rattle.std.specs.Map.{lookup}
use Rattle.std.specs.Option.{option_and_then, option_map_or}
use Rattle.rp_base.specs.declared.kind.Kind.TheVariants.{TypeError}
use Rattle.rp_base.specs.declared.value.Rock.{Rock}
use Rattle.rp_base.specs.declared.value.Value.{Value}
use Rattle.rp_base.specs.declared.value.Value.TheVariants as value
use Rattle.rp_store.specs.Key.{key_form, same_key}
use Rattle.rp_store.specs.Object.{Entries}
use Rattle.rp_store.specs.declared.key.Key.{Key}
use Rattle.rp_ops.specs.Keys.{entry_in, key_named}
use Rattle.rp_ops.specs.Numbers.{refused}
use Rattle.rp_ops.specs.Outcome.{State, gives, on_found}

-- a value that can be a key is looked up
pub key-sought : (v : Value) (r : Rock) (k : Key) (es : Entries) (s : State) → v ≡ value.Rock r → Some k ≡ key_form r
    → on_found (key_named v) s (λ q s. gives (is_some (entry_in es q)) s) ≡ gives (is_some (lookup (same_key k) es)) s
key-sought v r k es s is form =
    ap (λ w. on_found (key_named w) s (λ q s. gives (is_some (entry_in es q)) s)) is
    ∙ ap (λ f. on_found (option_map_or (λ _. Ok r) f (refused TypeError (codes "key"))) s (λ q s. gives (is_some (entry_in es q)) s)) (sym form)
    ∙ ap (λ f. gives (is_some (option_and_then (λ key. lookup (same_key key) es) f)) s) (sym form)
