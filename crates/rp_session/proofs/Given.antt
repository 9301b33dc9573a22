-- The steps that the sessions of a run were given.
use Rattle.std.proofs.Common.{◌≡◌, ◌<◌, ◌≤◌, ℕ, List, [], ◌∷◌, ◌++◌, length, get_or, map, refl, sym, subst, ◌∙◌, arith}
use Rattle.std.specs.List.{All}
use Rattle.std.proofs.lemmas.List.{get_or-map, length-map}
use Rattle.std.proofs.lemmas.List.Elements.{All-append, All-cons, All-nil}
use Rattle.rp_session.specs.Ready.{AreReady}
use Rattle.rp_session.specs.View.{AddsUp, given_to}
use Rattle.rp_session.specs.declared.session.Session.{Session}
use Rattle.rp_session.specs.declared.sessions.Sessions.{Sessions}

abbrev pub So : ℕ → List ℕ → Type 0
So steps given = All (λ (n : ℕ). n ≡ steps) given

pub none-given : (steps : ℕ) (x : Sessions) → x.list.items ≡ [] → So steps (given_to x)
none-given steps x none =
    subst (λ (ks : List Session). So steps (map (λ (k : Session). k.given) ks)) (sym none) (All-nil (λ (n : ℕ). n ≡ steps))

-- one more that is given as many
pub given-more : (steps : ℕ) (x y : Sessions) → given_to y ≡ given_to x ++ steps ∷ [] → So steps (given_to x) → So steps (given_to y)
given-more steps x y more before =
    let P : ℕ → Type 0 = λ n. n ≡ steps in
    subst (So steps) (sym more)
    (All-append P (given_to x) (steps ∷ []) before (All-cons P steps [] refl (All-nil P)))

-- each has used what is not left to it
pub add-up : (steps : ℕ) (x y : Sessions) → AreReady y → given_to y ≡ given_to x → So steps (given_to x) → All (AddsUp steps) y.list.items
add-up steps x y ready same given i d inside =
    let k = get_or y.list.items i d in
    let many : length (given_to y) ≡ length y.list.items = length-map y.list.items (λ (k : Session). k.given) in
    let there : i < length (given_to y) = omega (arith, many, inside) in
    let its : get_or (given_to y) i d.given ≡ k.given = get_or-map (λ (k : Session). k.given) y.list.items i d d.given inside in
    let so : get_or (given_to y) i d.given ≡ steps = subst (So steps) (sym same) given i d.given there in
    let is : k.given ≡ steps = sym its ∙ so in
    let left : k.running.meter.left ≤ k.given = (ready.home i d inside).steps in
    record { given = is; sum = omega (arith, is, left) }
