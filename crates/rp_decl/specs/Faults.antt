-- Why a declaration file has no records, as the program says it.
use Rattle.std.specs.Prelude.{◌≡◌, ℕ, Result, Err, List, [], ◌∷◌, ◌++◌, codes}
use Rattle.rp_decl.specs.Declares.{IsNoDocument, IsRefused, Refusal, version, shape, permission, class, group, role}
use Rattle.rp_decl.specs.Places.{IsHeld}
use Rattle.rp_decl.specs.Records.{Declarations}
use Rattle.rp_decl.specs.View.{name_text}
use Rattle.rp_decl.specs.declared.fault.DeclFault.{DeclFault}
use Rattle.rp_decl.specs.declared.fault.DeclFault.TheVariants.{NotToml, Version, Shape, Permission, Class, Group, Role, Memory}

-- the name of a class that is told is one of these
abbrev pub IsFaultHeld : List (List ℕ) → DeclFault → Type 0
IsFaultHeld names NotToml = Unit {0}
IsFaultHeld names Version = Unit {0}
IsFaultHeld names (Shape path) = Unit {0}
IsFaultHeld names (Permission id) = Unit {0}
IsFaultHeld names (Class name) = IsHeld names name
IsFaultHeld names (Group id) = Unit {0}
IsFaultHeld names (Role id) = Unit {0}
IsFaultHeld names Memory = Unit {0}

-- the fault is why there are no records; want of memory needs no cause
abbrev pub Tells : List (List ℕ) → DeclFault → Result Declarations Refusal → Type 0
Tells names NotToml outcome = ⊥
Tells names Version outcome = outcome ≡ Err version
Tells names (Shape path) outcome = outcome ≡ Err (shape path)
Tells names (Permission id) outcome = outcome ≡ Err (permission id)
Tells names (Class name) outcome = outcome ≡ Err (class (name_text names name))
Tells names (Group id) outcome = outcome ≡ Err (group id)
Tells names (Role id) outcome = outcome ≡ Err (role id)
Tells names Memory outcome = Unit {0}

-- the bytes have the fault
abbrev pub HasFault : List ℕ → List (List ℕ) → DeclFault → Type 0
HasFault bytes names NotToml = IsNoDocument bytes
HasFault bytes names Version = IsRefused bytes version
HasFault bytes names (Shape path) = IsRefused bytes (shape path)
HasFault bytes names (Permission id) = IsRefused bytes (permission id)
HasFault bytes names (Class name) = IsRefused bytes (class (name_text names name))
HasFault bytes names (Group id) = IsRefused bytes (group id)
HasFault bytes names (Role id) = IsRefused bytes (role id)
HasFault bytes names Memory = Unit {0}

abbrev pub cause : List (List ℕ) → DeclFault → List ℕ
cause names NotToml = codes "not TOML"
cause names Version = codes "version"
cause names (Shape path) = codes "shape " ++ path
cause names (Permission id) = codes "permission " ++ id
cause names (Class name) = codes "class " ++ name_text names name
cause names (Group id) = codes "group " ++ id
cause names (Role id) = codes "role " ++ id
cause names Memory = []

-- the characters of the line that tells a cause
abbrev pub line_of : List ℕ → List ℕ
line_of cause = codes "declarations: " ++ cause ++ 10 ∷ []

abbrev pub fault_line : List (List ℕ) → DeclFault → List ℕ
fault_line names fault = line_of (cause names fault)
