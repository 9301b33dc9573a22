use Rattle.std.proofs.Common.{◌≡◌, ◌<◌, ◌∙◌, [], ap, sym, List, ℕ, length, map}
use Rattle.std.specs.Prelude.{position}
use Rattle.std.proofs.lemmas.Bool.{ltb-true}
use Rattle.std.proofs.lemmas.Str.{chars-nil}
use Rattle.rp_base.specs.Names.{word_of}
use Rattle.rp_base.specs.Same.{same_text}
use Rattle.rp_base.specs.declared.value.Name.{Name}
use Rattle.rp_decl.specs.View.{name_text}
use Rattle.rp_decl.proofs.Positions.{position-map}
use Rattle.rp_access.proofs.HeldNames.{no_word, place_by_word}
use Rattle.rp_access.proofs.global_names.place_among.Goals as goal

pub returns-then-is_held : goal.returns-then-is_held
returns-then-is_held c =
    let w = c.args.world.now in
    let name = c.args.name in
    let here : name.0 < length w.names = ltb-true name.0 (length w.names) (sym c.is_held.ensures ∙ c.if-is_held.true) in
    c.exposed_place.ensures
    ∙ sym (position-map (same_text (word_of w.names name)) (name_text w.names) w.decl.expose
    ∙ place_by_word (λ other. other) w.names name w.decl.expose c.requires.read.distinct here c.requires.read.held.expose)

pub returns : goal.returns
returns c =
    let names = c.args.world.now.names in
    let expose = c.args.world.now.decl.expose in
    let none : word_of names c.args.name ≡ [] = no_word names c.args.name (sym c.is_held.ensures ∙ c.if-is_held.false) in
    c.place_in.ensures
    ∙ (λ i. position (λ (other : Name). same_text (chars-nil i) (word_of names other)) (c.expose.ensures i))
    ∙ sym (position-map (same_text []) (name_text names) expose)
    ∙ ap (λ (word : List ℕ). position (same_text word) (map (name_text names) expose)) (sym none)
