-- What is no key is neither put into a set nor sought in one.
use Rattle.std.proofs.Common.{◌≡◌, refl, ap, ◌∙◌, true≢false, ℕ, zero, suc, true, false, Result}
use Rattle.std.proofs.Common.{codes}
use Rattle.std.specs.Prelude.{is_some}
use Rattle.std.specs.Option.{option_map_or}
use Rattle.rp_base.specs.Names.{word_of}
use Rattle.rp_base.specs.declared.kind.Kind.TheVariants.{TypeError}
use Rattle.rp_base.specs.declared.value.Raised.{Raised}
use Rattle.rp_base.specs.declared.value.Rock.{Rock}
use Rattle.rp_base.specs.declared.value.Rock.TheVariants as rock
use Rattle.rp_base.specs.declared.value.Value.{Value}
use Rattle.rp_base.specs.declared.value.Value.TheVariants as value
use Rattle.rp_base.specs.declared.word.TheConstants.{CONTAINS}
use Rattle.rp_checker.specs.RowOf.{reading}
use Rattle.rp_items.specs.Items.{content_set, entry_put, no_items, set_item}
use Rattle.rp_ops.specs.Keys.{entry_in, key_named}
use Rattle.rp_ops.specs.Numbers.{refused}
use Rattle.rp_ops.specs.Outcome as plain
use Rattle.rp_ops.specs.Outcome.{gives, on_found}
use Rattle.rp_meaning.specs.Expressions.{nil}
use Rattle.rp_meaning.specs.State.{State, Outcome, Flow, done, lifted, monitor_of, next, plainly_done}
use Rattle.rp_meaning.specs.State.{stepped}
use Rattle.rp_more_laws.specs.Sets.{is_key}
use Rattle.rp_more_laws.proofs.Going.{held_at}
use Rattle.rp_comprehension_laws.specs.Comprehensions.{EachOtherElementIsRefused, EachOtherValueIsRefused}

no_key : (v : Value) → is_key v ≡ false → key_named v ≡ refused TypeError (codes "key")
no_key (value.Ref at) h = refl
no_key (value.Prox at) h = refl
no_key (value.Rock (rock.Exc k t)) h = refl
no_key (value.Rock (rock.Kind k)) h = refl
no_key (value.Rock (rock.Native f)) h = refl
no_key (value.Rock rock.Nil) h = absurd (true≢false h)
no_key (value.Rock (rock.Truth true)) h = absurd (true≢false h)
no_key (value.Rock (rock.Truth false)) h = absurd (true≢false h)
no_key (value.Rock (rock.Int n)) h = absurd (true≢false h)
no_key (value.Rock (rock.Text t)) h = absurd (true≢false h)

-- behind a step that was there
stepped_to : {A : Type 0} (n : ℕ) (s u : State) (more : State → Outcome A)
    → stepped (record s { plain = record s.plain { steps = n } }) done ≡ done u
    → stepped (record s { plain = record s.plain { steps = n } }) more ≡ more u
stepped_to zero s u more e =
    absurd (held_at (stepped (record s { plain = record s.plain { steps = 0 } }) done) (λ flow s. ⊥) next u tt e)
stepped_to (suc n) s u more e = ap (λ (o : Outcome Flow). more o.state) e

pub element_refused : EachOtherElementIsRefused
element_refused at es v frame s u h there e =
    stepped_to s.plain.steps s u (plainly_done (set_item (value.Ref at) v nil)) e
    ∙ ap (λ c. refused_by (option_map_or (λ c. content_set at c v nil u.plain) c (no_items u.plain))) there
    ∙ ap (λ (r : Result Rock Raised). refused_by (on_found r u.plain put_at)) (no_key v h) where
      refused_by : plain.Outcome (Unit {0}) → Outcome Flow
      refused_by o = plainly_done (λ p. o) u

      put_at : Rock → plain.State → plain.Outcome (Unit {0})
      put_at r p = entry_put at r nil p

pub value_refused : EachOtherValueIsRefused
value_refused at es v frame s free h there =
    rw (free.own at (reading (word_of s.names CONTAINS)) (monitor_of s), there)
    (rw there
    (ap (λ (r : Result Rock Raised). lifted (on_found r s.plain (λ r p. gives (is_some (entry_in es r)) p)) s)
    (no_key v h)))
