use Rattle.std.proofs.Common.{◌≡◌, ◌∙◌, ◌∷◌, ◌++◌, ℕ, [], List, Vec, Global, ap, string_bytes}
use Rattle.rp_run.proofs.LargeSteps.{texts-held}
use Rattle.rp_run.proofs.large.large_files.Goals as goal

pub returns-clause-contents : goal.returns-clause-contents
returns-clause-contents c =
    let first = c.in_ok-first.first in
    let second = c.in_ok-second.second in
    let a = c.into_bytes.result in
    let b = c.into_bytes-2.result in
    let one : c.push.new.self.items ≡ (first, a) ∷ [] =
    c.in_ok-push.ensures.items
    ∙ ap (λ (files : List (List ℕ × Vec ℕ Global)). files ++ (first, a) ∷ []) c.new-list.ensures.items in
    let two : c.push-2.new.self.items ≡ (first, a) ∷ (second, b) ∷ [] =
    c.in_ok-push-2.ensures.items
    ∙ ap (λ (files : List (List ℕ × Vec ℕ Global)). files ++ (second, b) ∷ []) one in
    texts-held first second (string_bytes c.args.texts.0) (string_bytes c.args.texts.1) a b c.in_ok-first.ensures
    c.in_ok-second.ensures (ap (λ (v : Vec ℕ Global). v.items) c.into_bytes.ensures.value)
    (ap (λ (v : Vec ℕ Global). v.items) c.into_bytes-2.ensures.value) c.new.result.listed (c.new.ensures.listed ∙ two)

pub returns-clause-unread : goal.returns-clause-unread
returns-clause-unread c = c.new.ensures.none_begun
