-- The words of the names of declared classes and objects.
use Rattle.std.proofs.Common.{◌≡◌, ℕ, List, [], ◌∷◌, ◌++◌, map, refl, sym, ap, ◌∙◌}
use Rattle.std.specs.List.{All}
use Rattle.std.proofs.lemmas.List.{map-append}
use Rattle.std.proofs.lemmas.List.Elements.{All-append, All-map, All-weaker}
use Rattle.rp_decl.specs.declared.records.ClassDecl.{ClassDecl}
use Rattle.rp_decl.specs.declared.records.ObjectDecl.{ObjectDecl}
use Rattle.rp_decl.specs.Places.{IsClassHeld, IsHeld, IsHeldBy, IsObjectHeld}
use Rattle.rp_decl.specs.Records as text
use Rattle.rp_decl.specs.View.{Placed, class_view, declarations_view, name_text, object_view}
use Rattle.rp_world.specs.Globals.{global_names, placed_names}

class_names : (names permissions : List (List ℕ)) (cs : List ClassDecl) → map (λ (c : text.Class). c.name) (map (class_view names permissions) cs) ≡ map (name_text names) (map (λ (c : ClassDecl). c.name) cs)
class_names names permissions [] = refl
class_names names permissions (c ∷ cs) = ap (λ ns. name_text names c.name ∷ ns) (class_names names permissions cs)

object_names : (names : List (List ℕ)) (os : List ObjectDecl) → map (λ (o : text.Object). o.name) (map (object_view names) os) ≡ map (name_text names) (map (λ (o : ObjectDecl). o.name) os)
object_names names [] = refl
object_names names (o ∷ os) = ap (λ ns. name_text names o.name ∷ ns) (object_names names os)

-- the names of what is declared
pub names-view : (names : List (List ℕ)) (d : Placed) → global_names (declarations_view names d) ≡ map (name_text names) (placed_names d)
names-view names d =
    (λ k. class_names names d.permissions d.classes k ++ object_names names d.objects k)
    ∙ sym (map-append (name_text names) (map (λ (c : ClassDecl). c.name) d.classes) (map (λ (o : ObjectDecl). o.name) d.objects))

pub names-held : (names : List (List ℕ)) (d : Placed) → IsHeldBy names d → All (IsHeld names) (placed_names d)
names-held names d held =
    All-append (IsHeld names) _ _
    (All-map (IsHeld names) (λ (c : ClassDecl). c.name) d.classes (All-weaker (IsClassHeld names) (λ (c : ClassDecl). IsHeld names c.name) (λ c h. h.name) d.classes held.classes))
    (All-map (IsHeld names) (λ (o : ObjectDecl). o.name) d.objects (All-weaker (IsObjectHeld names) (λ (o : ObjectDecl). IsHeld names o.name) (λ o h. h.name) d.objects held.objects))
