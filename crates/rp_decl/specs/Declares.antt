-- What the bytes of a declaration file mean: the records, or the first refusal.
use Rattle.std.specs.Prelude.{◌≡◌, ℕ, pos, ◌&&◌, nat_lt, nat_le, if◌then◌else◌, List, codes, Option, Some, None, Result, Ok, Err, IsUtf8}
use Rattle.std.specs.Option.{option_map_or}
use Rattle.toml.specs.Data.{Data, integer, Members, get_member}
use Rattle.toml.specs.Parse.{parse_document}
use Rattle.rp_decl.specs.Consistency.{permission_faults, class_faults, group_faults, role_faults}
use Rattle.rp_decl.specs.Document.{records_of}
use Rattle.rp_decl.specs.Order.{least}
use Rattle.rp_decl.specs.Records.{Declarations}
use Rattle.rp_decl.specs.Shape.{faults_of}

-- why a document declares nothing
pub data Refusal : Type 0 where
  version : Refusal
  shape : List ℕ → Refusal
  permission : List ℕ → Refusal
  class : List ℕ → Refusal
  group : List ℕ → Refusal
  role : List ℕ → Refusal

abbrev pub version_in : ℕ → Option Data → Option ℕ
version_in newest (Some (integer (pos n))) = if nat_lt 0 n && nat_le n newest then Some n else None
version_in newest _ = None

-- the version of a document, where versions go up to this one
abbrev pub version_of : ℕ → Members → Option ℕ
version_of newest ms = version_in newest (get_member (codes "version") ms)

-- among several faults of one cause the least is told; where there is none, what follows is asked
abbrev pub refuse : (List ℕ → Refusal) → List (List ℕ) → Result Declarations Refusal → Result Declarations Refusal
refuse cause faults next = option_map_or (λ fault. Err (cause fault)) (least faults) next

-- the records, unless they name what is not declared
abbrev pub consistent : Declarations → Result Declarations Refusal
consistent d =
    refuse permission (permission_faults d) (refuse class (class_faults d) (refuse group (group_faults d) (refuse role (role_faults d) (Ok d))))

-- what a document declares, where versions go up to this one
abbrev pub declares : ℕ → Members → Result Declarations Refusal
declares newest ms =
    option_map_or (λ version. refuse shape (faults_of version ms) (consistent (records_of ms))) (version_of newest ms) (Err version)

-- the newest version
abbrev pub newest : ℕ
newest = 2

-- the bytes are text, and the text is this TOML document
abbrev pub IsDocument : List ℕ → Members → Type 0
IsDocument bytes document = IsUtf8 bytes × (parse_document bytes ≡ Some document)

abbrev pub IsNoDocument : List ℕ → Type 0
IsNoDocument bytes = IsUtf8 bytes → parse_document bytes ≡ None

-- the bytes are a TOML document that declares these records
abbrev pub Declares : List ℕ → Declarations → Type 0
Declares bytes d = (document : Members) × (IsDocument bytes document × (declares newest document ≡ Ok d))

-- the bytes are a TOML document that is refused so
abbrev pub IsRefused : List ℕ → Refusal → Type 0
IsRefused bytes r = (document : Members) × (IsDocument bytes document × (declares newest document ≡ Err r))

-- What a document of version 1 declares, it declares as well where there is no version 2.
abbrev pub KeepsVersion1 : List ℕ → Type 0
KeepsVersion1 bytes =
    (document : Members) → IsDocument bytes document → version_of newest document ≡ Some 1
    → declares 1 document ≡ declares newest document
