use Rattle.std.proofs.Common.{List, ℕ, ◌++◌, append_assoc, encode_utf8_all, string_bytes, ap, sym, ◌∙◌}
use Rattle.std.proofs.lemmas.Str.{encodes-append}
use Rattle.rp_methods.specs.Texts.{letters_of}
use Rattle.rp_methods.proofs.text_makers.push_next.Goals as goal

pub returns : goal.returns
returns c =
    let old = string_bytes c.args.all.now in
    let between = encode_utf8_all c.args.between.now in
    let letters = encode_utf8_all (letters_of c.args.value.now) in
    c.in_ok-push_str-2.ensures.bytes ∙ ap (λ (l : List ℕ). string_bytes c.push_str.new.self ++ l) c.bytes_of.ensures
    ∙ ap (λ (m : List ℕ). m ++ letters) (c.in_ok-push_str.ensures.bytes ∙ ap (λ (l : List ℕ). old ++ l) c.bytes.ensures)
    ∙ append_assoc old between letters ∙ ap (λ (l : List ℕ). old ++ l) (sym (encodes-append c.args.between.now (letters_of c.args.value.now)))
