use Rattle.std.proofs.Common.{◌≡◌, ◌∙◌, ◌-◌, ◌++◌, ◌∷◌, [], List, sym, ap, map, chars}
use Rattle.std.proofs.lemmas.List.{map_push}
use Rattle.rp_token.specs.Form.{Item}
use Rattle.rp_token.specs.Lexer.{state}
use Rattle.rp_token.specs.Tokens.{place}
use Rattle.rp_token.specs.View.{form_view, item_view}
use Rattle.rp_token.proofs.Texts.{bytes-chars}
use Rattle.rp_token.proofs.lexer.Lexer.push.Goals as goal

pub returns : goal.returns
returns c =
    let size = c.args.self.now.size in
    let from : c.saturating_sub-from.result ≡ place size (chars c.args.from.now) = c.saturating_sub-from.ensures ∙ ap (λ n. size - n) (sym (bytes-chars c.args.from.now c.utf8.from)) in
    let to : c.saturating_sub-to.result ≡ place size (chars c.args.to.now) = c.saturating_sub-to.ensures ∙ ap (λ n. size - n) (sym (bytes-chars c.args.to.now c.utf8.to)) in
    λ names.
    let before = map (item_view names) c.args.self.now.tokens.items in
    let items = ap (map (item_view names)) c.in_ok-push.ensures.items ∙ map_push (item_view names) c.args.self.now.tokens.items _
    ∙ (λ k. before ++ record { form = form_view names c.args.kind; from = from k; to = to k; line = c.args.line } ∷ []) in
    ap (λ (more : List Item). record (state names c.args.self.now) { items = more }) items
