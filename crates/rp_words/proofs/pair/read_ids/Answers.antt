use Rattle.std.proofs.Common.{◌≡◌, ◌==◌, ◌++◌, ◌∷◌, ◌∙◌, ℕ, List, [], Some, None, if◌then◌else◌, ap, sym, arith}
use Rattle.std.proofs.Common.{chars, length}
use Rattle.std.proofs.lemmas.Iterator.Consumers.{YieldsList-turn, YieldsList-end}
use Rattle.std.proofs.lemmas.Iterator.Splits.{YieldsList-from_str_split}
use Rattle.std.proofs.lemmas.List.{length_push}
use Rattle.std.specs.List.{slice_split}
use Rattle.rp_words.proofs.Found.{AreFound-start, AreFound-next, AreFound-missing, AreFound-end}
use Rattle.rp_words.proofs.Ids.{id_of, ids_found}
use Rattle.rp_words.proofs.pair.read_ids.Goals as goal

pub ids-init : goal.ids-init
ids-init c = rw c.new-ids.ensures.items (AreFound-start id_of (slice_split (λ b. b == 43) c.args.who.now))

pub returns-then-not-is_id : goal.returns-then-not-is_id
returns-then-not-is_id c =
    let id = c.in-Some.id.now in
    let pieces = slice_split (λ b. b == 43) c.args.who.now in
    let turn = YieldsList-turn (YieldsList-from_str_split 43 c.args.who.now (omega arith) (cc) (cc) (cc))
    c.ids.yielded _ c.ids.yielded_by _ c.next.new.self c.in-Some.id c.in-Some.is c.next.ensures.steps in
    let none = ap (λ b. if b then Some (chars id) else None) (sym c.is_id.ensures ∙ c.if-not-is_id.true) in
    sym (AreFound-missing id_of pieces (length c.ids.yielded) c.ids.ids.items id turn.0 turn.1 none c.ids.invariant)
    ∙ ids_found pieces

pub ids-preserved : goal.ids-preserved
ids-preserved c =
    let id = c.in-Some.id.now in
    let pieces = slice_split (λ b. b == 43) c.args.who.now in
    let turn = YieldsList-turn (YieldsList-from_str_split 43 c.args.who.now (omega arith) (cc) (cc) (cc))
    c.ids.yielded _ c.ids.yielded_by _ c.next.new.self c.in-Some.id c.in-Some.is c.next.ensures.steps in
    let some = ap (λ b. if b then Some (chars id) else None) (sym c.is_id.ensures ∙ c.if-not-is_id.false) in
    let more : c.push.new.self.items ≡ c.ids.ids.items ++ chars id ∷ [] =
    c.in_ok-push.ensures.items ∙ ap (λ (one : List ℕ). c.ids.ids.items ++ one ∷ []) c.in_ok-new.ensures in
    rw (more, length_push c.ids.yielded c.in-Some.id)
    (AreFound-next id_of pieces (length c.ids.yielded) c.ids.ids.items id (chars id) turn.0 turn.1 some c.ids.invariant)

pub returns : goal.returns
returns c =
    let pieces = slice_split (λ b. b == 43) c.args.who.now in
    let end = YieldsList-end (YieldsList-from_str_split 43 c.args.who.now (omega arith) (cc) (cc) (cc))
    c.ids.yielded _ c.ids.yielded_by _ c.next.new.self c.in-None.is c.next.ensures.steps in
    sym (AreFound-end id_of pieces (length c.ids.yielded) c.ids.ids.items (omega (arith, end.1)) c.ids.invariant)
    ∙ ids_found pieces
