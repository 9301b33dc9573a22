-- Laws of what a document declares.
use Rattle.std.proofs.Common.{◌≡◌, ℕ, pos, negsuc, codes, List, [], ◌∷◌, Option, Some, None, Result, Ok, Err, Ordering, Less, Equal, Greater, refl, sym, subst, arith}
use Rattle.std.specs.List.{AllByRecursion}
use Rattle.std.specs.Option.{option_map_or}
use Rattle.std.proofs.lemmas.Bool.Decides.{nat_tests}
use Rattle.toml.specs.Data.{Data, string, integer, float, boolean, datetime, array, table, Members, get_member}
use Rattle.rp_decl.specs.Consistency.{IsConsistent, permission_faults, class_faults, group_faults, role_faults}
use Rattle.rp_decl.specs.Declares.{Refusal, permission, class, group, role, shape, Declares, KeepsVersion1, declares, refuse, consistent, version_in, version_of, newest}
use Rattle.rp_decl.specs.Document.{records_of}
use Rattle.rp_decl.specs.Order.{least, lesser, lesser_by, lesser_of, text_cmp}
use Rattle.rp_decl.specs.Records.{Declarations}
use Rattle.rp_decl.specs.Shape.{faults_of}

-- where nothing is refused there is no fault, and what follows was asked
refuse-Ok : (cause : List ℕ → Refusal) (faults : List (List ℕ)) (next : Result Declarations Refusal) (d : Declarations)
    → refuse cause faults next ≡ Ok d → (faults ≡ []) × (next ≡ Ok d)
refuse-Ok cause [] next d h = (refl, h)
refuse-Ok cause (x ∷ xs) next d h = cc

consistent-Ok : (e d : Declarations) → consistent e ≡ Ok d → (e ≡ d) × IsConsistent e
consistent-Ok e d h =
    let (permissions, p) = refuse-Ok permission (permission_faults e) (refuse class (class_faults e) (refuse group (group_faults e) (refuse role (role_faults e) (Ok e)))) d h in
    let (classes, c) = refuse-Ok class (class_faults e) (refuse group (group_faults e) (refuse role (role_faults e) (Ok e))) d p in
    let (groups, g) = refuse-Ok group (group_faults e) (refuse role (role_faults e) (Ok e)) d c in
    let (roles, r) = refuse-Ok role (role_faults e) (Ok e) d g in
    (cc, record { permissions_declared = permissions; classes_declared = classes; groups_declared = groups; roles_declared = roles })

by_version-Ok : (v : Option ℕ) (ms : Members) (d : Declarations)
    → option_map_or (λ version. refuse shape (faults_of version ms) (consistent (records_of ms))) v (Err Refusal.version) ≡ Ok d → IsConsistent d
by_version-Ok None ms d h = cc
by_version-Ok (Some v) ms d h =
    let (none, rest) = refuse-Ok shape (faults_of v ms) (consistent (records_of ms)) d h in
    let (same, fine) = consistent-Ok (records_of ms) d rest in
    rw (← same) fine

-- what a document of a version declares is consistent
pub refused-IsConsistent : (version : ℕ) (ms : Members) (d : Declarations) → refuse shape (faults_of version ms) (consistent (records_of ms)) ≡ Ok d → IsConsistent d
refused-IsConsistent version ms d h = by_version-Ok (Some version) ms d h

-- it has no shape fault, and its records are those of the document
pub refused-parts : (version : ℕ) (ms : Members) (d : Declarations) → refuse shape (faults_of version ms) (consistent (records_of ms)) ≡ Ok d
    → (faults_of version ms ≡ []) × (records_of ms ≡ d)
refused-parts version ms d h =
    let (none, rest) = refuse-Ok shape (faults_of version ms) (consistent (records_of ms)) d h in
    (none, (consistent-Ok (records_of ms) d rest).0)

pub declares-IsConsistent : (n : ℕ) (ms : Members) (d : Declarations) → declares n ms ≡ Ok d → IsConsistent d
declares-IsConsistent n ms d h = by_version-Ok (version_of n ms) ms d h

pub Declares-IsConsistent : (bytes : List ℕ) (d : Declarations) → Declares bytes d → IsConsistent d
Declares-IsConsistent bytes d h = declares-IsConsistent newest h.0 d h.1.1

version_in-1 : (o : Option Data) → version_in newest o ≡ Some 1 → version_in 1 o ≡ Some 1
version_in-1 None h = h
version_in-1 (Some (integer (pos n))) h = grind (arith, nat_tests)
version_in-1 (Some (integer (negsuc n))) h = h
version_in-1 (Some (string s)) h = h
version_in-1 (Some (float x)) h = h
version_in-1 (Some (boolean b)) h = h
version_in-1 (Some (datetime dt)) h = h
version_in-1 (Some (array ds)) h = h
version_in-1 (Some (table ms)) h = h

pub KeepsVersion1-holds : (bytes : List ℕ) → KeepsVersion1 bytes
KeepsVersion1-holds bytes document is_document first =
    let older : version_of 1 document ≡ Some 1 = version_in-1 (get_member (codes "version") document) first in
    rw (older, first)

-- where there is no least fault there is none
pub least-none : (faults : List (List ℕ)) → None ≡ least faults → faults ≡ []
least-none [] h = refl
least-none (x ∷ xs) h = cc

-- the least fault is refused
pub refuse-least : (cause : List ℕ → Refusal) (faults : List (List ℕ)) (next : Result Declarations Refusal) (fault : List ℕ) → Some fault ≡ least faults → refuse cause faults next ≡ Err (cause fault)
refuse-least cause faults next fault h = rw (← h) refl

lesser-has : (P : List ℕ → Type 0) (o : Ordering) (x y : List ℕ) → P x → P y → P (lesser_by o x y)
lesser-has P Less x y p q = p
lesser-has P Equal x y p q = p
lesser-has P Greater x y p q = q

-- what each text has, the least one has
pub least-has : (P : List ℕ → Type 0) (xs : List (List ℕ)) → AllByRecursion P xs → (y : List ℕ) → Some y ≡ least xs → P y
least-has P [] all y h = cc
least-has P (x ∷ xs) all y h = by (least xs) (least-has P xs all.1) h
  where
    by : (o : Option (List ℕ)) → ((z : List ℕ) → Some z ≡ o → P z) → Some y ≡ lesser_of (Some x) o → P y
    by None rest h = let same : y ≡ x = cc in subst P (sym same) all.0
    by (Some z) rest h =
        let same : y ≡ lesser x z = cc in subst P (sym same) (lesser-has P (text_cmp x z) x z all.0 (rest z refl))
