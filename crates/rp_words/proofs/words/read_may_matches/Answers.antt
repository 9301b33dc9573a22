use Rattle.std.proofs.Common.{◌∙◌, ℕ, List, Some, chars, sym, ap}
use Rattle.clap.specs.Words.{found_of, rows_of}
use Rattle.rp_words.specs.Command.{ids_of, is_who}
use Rattle.rp_words.proofs.Given.{found, missing, text, may_with, may_parts, joined, not_joined}
use Rattle.rp_words.proofs.Given.{may-no_declarations, may-no_who, may-no_permission, may-no_ids, may-no_id, whole_may}
use Rattle.rp_words.proofs.words.read_may_matches.Goals as goal

pub returns-in_default : goal.returns-in_default
returns-in_default c =
    let parts = may_parts (rows_of (found_of c.args.matches.now)) in
    may-no_declarations parts (missing text c.value_of.result parts.declarations c.value_of.ensures c.in_default.is)

pub returns-in_default-value_of : goal.returns-in_default-value_of
returns-in_default-value_of c =
    let parts = may_parts (rows_of (found_of c.args.matches.now)) in
    let is_d = found text c.value_of.result parts.declarations c.in-Some.declarations c.value_of.ensures c.in-Some.is in
    may-no_who parts
    c.in-Some.declarations.now is_d
    (missing text c.value_of-2.result parts.who c.value_of-2.ensures c.in_default-value_of.is)

pub returns-in_default-value_of-2 : goal.returns-in_default-value_of-2
returns-in_default-value_of-2 c =
    let parts = may_parts (rows_of (found_of c.args.matches.now)) in
    let is_d = found text c.value_of.result parts.declarations c.in-Some.declarations c.value_of.ensures c.in-Some.is in
    let is_w =
    found text c.value_of-2.result parts.who c.in-Some-value_of.who
    c.value_of-2.ensures c.in-Some-value_of.is in
    may-no_permission parts
    c.in-Some.declarations.now is_d c.in-Some-value_of.who.now is_w
    (missing text c.value_of-3.result parts.permission c.value_of-3.ensures c.in_default-value_of-2.is)

pub returns-in_default-2 : goal.returns-in_default-2
returns-in_default-2 c =
    let parts = may_parts (rows_of (found_of c.args.matches.now)) in
    let is_d = found text c.value_of.result parts.declarations c.in-Some.declarations c.value_of.ensures c.in-Some.is in
    let is_w =
    found text c.value_of-2.result parts.who c.in-Some-value_of.who
    c.value_of-2.ensures c.in-Some-value_of.is in
    let is_p =
    found text c.value_of-3.result parts.permission c.in-Some-value_of-2.permission
    c.value_of-3.ensures c.in-Some-value_of-2.is in
    may-no_ids parts
    c.in-Some.declarations.now is_d c.in-Some-value_of.who.now is_w
    c.in-Some-value_of-2.permission.now is_p
    (not_joined (λ v. v.items) c.in_ok-ids.field-0 (is_who c.in-Some-value_of.who.now)
    (ids_of c.in-Some-value_of.who.now) c.in_ok-ids.ensures c.in_default-2.is)

pub returns-then-not-is_id : goal.returns-then-not-is_id
returns-then-not-is_id c =
    let parts = may_parts (rows_of (found_of c.args.matches.now)) in
    let is_d = found text c.value_of.result parts.declarations c.in-Some.declarations c.value_of.ensures c.in-Some.is in
    let is_w =
    found text c.value_of-2.result parts.who c.in-Some-value_of.who
    c.value_of-2.ensures c.in-Some-value_of.is in
    let is_p =
    found text c.value_of-3.result parts.permission c.in-Some-value_of-2.permission
    c.value_of-3.ensures c.in-Some-value_of-2.is in
    let read =
    joined (λ v. v.items) c.in_ok-ids.field-0 c.in-Some-2.ids (is_who c.in-Some-value_of.who.now)
    (ids_of c.in-Some-value_of.who.now) c.in_ok-ids.ensures c.in-Some-2.is in
    may-no_id parts
    c.in-Some.declarations.now is_d c.in-Some-value_of.who.now is_w
    c.in-Some-value_of-2.permission.now is_p read.0 (sym c.is_id.ensures ∙ c.if-not-is_id.true)

pub returns : goal.returns
returns c =
    let parts = may_parts (rows_of (found_of c.args.matches.now)) in
    let is_d = found text c.value_of.result parts.declarations c.in-Some.declarations c.value_of.ensures c.in-Some.is in
    let is_w =
    found text c.value_of-2.result parts.who c.in-Some-value_of.who
    c.value_of-2.ensures c.in-Some-value_of.is in
    let is_p =
    found text c.value_of-3.result parts.permission c.in-Some-value_of-2.permission
    c.value_of-3.ensures c.in-Some-value_of-2.is in
    let read =
    joined (λ v. v.items) c.in_ok-ids.field-0 c.in-Some-2.ids (is_who c.in-Some-value_of.who.now)
    (ids_of c.in-Some-value_of.who.now) c.in_ok-ids.ensures c.in-Some-2.is in
    let d = c.in-Some.declarations.now in
    ap (λ (x : List ℕ). Some (may_with x c.in-Some-2.ids.items c.in_ok-new-2.field-0)) c.in_ok-new.ensures
    ∙ ap (λ (x : List ℕ). Some (may_with (chars d) c.in-Some-2.ids.items x)) c.in_ok-new-2.ensures
    ∙ ap (λ (x : List (List ℕ)). Some (may_with (chars d) x (chars c.in-Some-value_of-2.permission.now))) read.1
    ∙ whole_may parts
    c.in-Some.declarations.now is_d c.in-Some-value_of.who.now is_w
    c.in-Some-value_of-2.permission.now is_p read.0 (sym c.is_id.ensures ∙ c.if-not-is_id.false)
