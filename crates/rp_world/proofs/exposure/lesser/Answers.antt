use Rattle.std.proofs.Common.{◌≡◌, [], Some, option_map, chars, rules, sym, ap, ◌∙◌}
use Rattle.std.proofs.lemmas.Option.{get_or_from_slice_get}
use Rattle.rp_decl.specs.Order.{lesser_of, text_cmp}
use Rattle.rp_decl.specs.View.{name_text}
use Rattle.rp_world.proofs.TextOrder.{first-lesser, second-lesser, text_cmp-bytes}
use Rattle.rp_world.proofs.exposure.lesser.Goals as goal

pub returns-in-Greater-clause-lesser : goal.returns-in-Greater-clause-lesser
returns-in-Greater-clause-lesser c =
    let names = c.args.names.now in
    let least = c.in-Some.least in
    let name = c.args.name in
    let first : name_text names least ≡ chars c.text.result.now = get_or_from_slice_get names least.0 _ [] c.text.ensures.word in
    let second : name_text names name ≡ chars c.text-2.result.now = get_or_from_slice_get names name.0 _ [] c.text-2.ensures.word in
    let order = (λ k. text_cmp (first k) (second k)) ∙ text_cmp-bytes c.text.result.now c.text-2.result.now c.text.utf8 c.text-2.utf8 ∙ sym c.cmp.ensures ∙ c.in-Greater.is in
    second-lesser (name_text names least) (name_text names name) order ∙ ap (λ o. lesser_of (option_map (name_text names) o) (Some (name_text names name))) (sym c.in-Some.is)

pub returns-in_default-cmp : goal.returns-in_default-cmp
returns-in_default-cmp c =
    let names = c.args.names.now in
    let least = c.in-Some.least in
    let name = c.args.name in
    let first : name_text names least ≡ chars c.text.result.now = get_or_from_slice_get names least.0 _ [] c.text.ensures.word in
    let second : name_text names name ≡ chars c.text-2.result.now = get_or_from_slice_get names name.0 _ [] c.text-2.ensures.word in
    let order = (λ k. text_cmp (first k) (second k)) ∙ text_cmp-bytes c.text.result.now c.text-2.result.now c.text.utf8 c.text-2.utf8 ∙ sym c.cmp.ensures in
    record {
      lesser = first-lesser (name_text names least) (name_text names name) (λ h. c.in_default-cmp.not-Greater (sym order ∙ h)) ∙ ap (λ o. lesser_of (option_map (name_text names) o) (Some (name_text names name))) (sym c.in-Some.is);
      held = search rules;
    }
