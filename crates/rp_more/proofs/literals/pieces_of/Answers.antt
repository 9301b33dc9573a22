use Rattle.std.proofs.Common.{◌≡◌, ◌∙◌, [], List, ℕ, sym, subst, map, IfOk, Vec, option_map}
use Rattle.std.proofs.lemmas.Str.{chars-nil}
use Rattle.std.specs.declared.alloc.Global.{Global}
use Rattle.rp_token.specs.View.{form_view}
use Rattle.rp_more.specs.declared.pieces.Piece.{Piece}
use Rattle.rp_more.specs.Forms.{text_of}
use Rattle.rp_more.specs.Pieces.{pieces_of}
use Rattle.rp_more.specs.PieceSteps.{piece_seen}
use Rattle.rp_more.proofs.KindForms.{text_of-none}
use Rattle.rp_more.proofs.literals.pieces_of.Goals as goal

pub returns-in_default : goal.returns-in_default
returns-in_default c = λ names.
    let none : text_of (form_view names c.args.kind.now) ≡ [] = text_of-none names c.args.kind.now c.in_default.not-Text in
    subst (λ (t : List ℕ). IfOk c.read_pieces-in_default.result (λ found. option_map (λ (v : Vec Piece Global). map piece_seen v.items) found ≡ pieces_of t)) (chars-nil ∙ sym none)
    c.read_pieces-in_default.ensures
