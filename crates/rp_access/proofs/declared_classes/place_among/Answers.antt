use Rattle.std.proofs.Common.{◌≡◌, ◌<◌, ◌∙◌, [], ap, sym, List, ℕ, length}
use Rattle.std.specs.Prelude.{position}
use Rattle.std.proofs.lemmas.Bool.{ltb-true}
use Rattle.std.proofs.lemmas.Str.{chars-nil}
use Rattle.rp_base.specs.Names.{word_of}
use Rattle.rp_base.specs.Same.{same_text}
use Rattle.rp_decl.specs.declared.records.ClassDecl.{ClassDecl}
use Rattle.rp_access.proofs.HeldNames.{no_word, place_by_word}
use Rattle.rp_access.proofs.declared_classes.place_among.Goals as goal

pub returns-then-is_held : goal.returns-then-is_held
returns-then-is_held c =
    let w = c.args.world.now in
    let name = c.args.name in
    let here : name.0 < length w.names = ltb-true name.0 (length w.names) (sym c.is_held.ensures ∙ c.if-is_held.true) in
    c.class_place.ensures
    ∙ sym (place_by_word (λ (class : ClassDecl). class.name) w.names name w.decl.classes c.requires.read.distinct here
    (λ i class within. (c.requires.read.held.classes i class within).name))

pub returns : goal.returns
returns c =
    let names = c.args.world.now.names in
    let none : word_of names c.args.name ≡ [] = no_word names c.args.name (sym c.is_held.ensures ∙ c.if-is_held.false) in
    c.place_in.ensures
    ∙ (λ i. position (λ (class : ClassDecl). same_text (chars-nil i) (word_of names class.name)) (c.classes.ensures.value i))
    ∙ ap (λ (word : List ℕ). position (λ (class : ClassDecl). same_text word (word_of names class.name)) c.args.world.now.decl.classes) (sym none)
