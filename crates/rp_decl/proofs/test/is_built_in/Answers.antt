use Rattle.std.proofs.Common.{◌≡◌, rules, refl, ◌∙◌}
use Rattle.rp_decl.specs.Shape.{built_in_classes}
use Rattle.rp_decl.specs.Word.{is_word_of}
use Rattle.rp_decl.proofs.Words.{is_word_of-chars}
use Rattle.rp_decl.proofs.test.is_built_in.Goals as goal

pub returns : goal.returns
returns c =
    let bytes : c.contains.result ≡ is_word_of built_in_classes c.args.name.now = search rules in
    bytes ∙ is_word_of-chars built_in_classes c.args.name.now refl c.utf8.name
