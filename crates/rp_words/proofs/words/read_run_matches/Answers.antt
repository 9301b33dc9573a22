use Rattle.std.proofs.Common.{◌∙◌, Bool, ap₂, [], ℕ, List, Some, codes, map, unwrap_or, sym, ap}
use Rattle.std.proofs.lemmas.List.{length-map}
use Rattle.clap.specs.Words.{all_of, first_of, found_of, rows_of}
use Rattle.rp_words.specs.Command.{is_on, limit_of, pairs_of, turns_of}
use Rattle.rp_words.specs.View.{pair_view}
use Rattle.rp_words.proofs.Given.{found, missing, text, run_parts, run_with, whole_run}
use Rattle.rp_words.proofs.Given.{no_declarations, no_pairs, no_steps, no_cells, no_turns}
use Rattle.rp_words.proofs.words.read_run_matches.Goals as goal

pub returns-in_default : goal.returns-in_default
returns-in_default c =
    let parts = run_parts (rows_of (found_of c.args.matches.now)) in
    no_declarations parts (missing text c.value_of.result parts.declarations c.value_of.ensures c.in_default.is)

pub returns-in_default-values_of : goal.returns-in_default-values_of
returns-in_default-values_of c =
    let rows = rows_of (found_of c.args.matches.now) in
    let parts = run_parts rows in
    let is_d = found text c.value_of.result parts.declarations c.in-Some.declarations c.value_of.ensures c.in-Some.is in
    let no_words =
    missing (λ s. map text s.now) c.values_of.result (all_of (codes "pairs") rows) c.values_of.ensures
    c.in_default-values_of.is in
    no_pairs parts c.in-Some.declarations.now is_d (ap (λ o. pairs_of (unwrap_or o [])) no_words)

pub returns-in_default-2 : goal.returns-in_default-2
returns-in_default-2 c =
    let rows = rows_of (found_of c.args.matches.now) in
    let parts = run_parts rows in
    let is_d = found text c.value_of.result parts.declarations c.in-Some.declarations c.value_of.ensures c.in-Some.is in
    let is_words =
    found (λ s. map text s.now) c.values_of.result (all_of (codes "pairs") rows) c.in-Some-values_of.words
    c.values_of.ensures c.in-Some-values_of.is in
    let same_pairs = c.in_ok-pairs.ensures ∙ ap (λ o. pairs_of (unwrap_or o [])) (sym is_words) in
    no_pairs parts c.in-Some.declarations.now is_d
    (missing (λ v. map pair_view v.items) c.in_ok-pairs.field-0 parts.pairs same_pairs c.in_default-2.is)

pub returns-in_default-read_limit : goal.returns-in_default-read_limit
returns-in_default-read_limit c =
    let rows = rows_of (found_of c.args.matches.now) in
    let parts = run_parts rows in
    let is_d = found text c.value_of.result parts.declarations c.in-Some.declarations c.value_of.ensures c.in-Some.is in
    let is_words =
    found (λ s. map text s.now) c.values_of.result (all_of (codes "pairs") rows) c.in-Some-values_of.words
    c.values_of.ensures c.in-Some-values_of.is in
    let same_pairs = c.in_ok-pairs.ensures ∙ ap (λ o. pairs_of (unwrap_or o [])) (sym is_words) in
    let pairs = map pair_view c.in-Some-2.pairs.items in
    let is_p =
    found (λ v. map pair_view v.items) c.in_ok-pairs.field-0 parts.pairs c.in-Some-2.pairs same_pairs c.in-Some-2.is in
    let read_steps = sym (c.read_limit.ensures ∙ ap (limit_of 100000000) c.value_of-2.ensures) in
    no_steps parts c.in-Some.declarations.now is_d pairs is_p (read_steps ∙ c.in_default-read_limit.is)

pub returns-in_default-read_limit-2 : goal.returns-in_default-read_limit-2
returns-in_default-read_limit-2 c =
    let rows = rows_of (found_of c.args.matches.now) in
    let parts = run_parts rows in
    let is_d = found text c.value_of.result parts.declarations c.in-Some.declarations c.value_of.ensures c.in-Some.is in
    let is_words =
    found (λ s. map text s.now) c.values_of.result (all_of (codes "pairs") rows) c.in-Some-values_of.words
    c.values_of.ensures c.in-Some-values_of.is in
    let same_pairs = c.in_ok-pairs.ensures ∙ ap (λ o. pairs_of (unwrap_or o [])) (sym is_words) in
    let pairs = map pair_view c.in-Some-2.pairs.items in
    let is_p =
    found (λ v. map pair_view v.items) c.in_ok-pairs.field-0 parts.pairs c.in-Some-2.pairs same_pairs c.in-Some-2.is in
    let read_steps = sym (c.read_limit.ensures ∙ ap (limit_of 100000000) c.value_of-2.ensures) in
    let is_s = read_steps ∙ c.in-Some-read_limit.is in
    let read_cells = sym (c.read_limit-2.ensures ∙ ap (limit_of 8000000) c.value_of-3.ensures) in
    no_cells parts c.in-Some.declarations.now is_d pairs is_p c.in-Some-read_limit.steps is_s
    (read_cells ∙ c.in_default-read_limit-2.is)

pub returns-in_default-3 : goal.returns-in_default-3
returns-in_default-3 c =
    let rows = rows_of (found_of c.args.matches.now) in
    let parts = run_parts rows in
    let is_d = found text c.value_of.result parts.declarations c.in-Some.declarations c.value_of.ensures c.in-Some.is in
    let is_words =
    found (λ s. map text s.now) c.values_of.result (all_of (codes "pairs") rows) c.in-Some-values_of.words
    c.values_of.ensures c.in-Some-values_of.is in
    let same_pairs = c.in_ok-pairs.ensures ∙ ap (λ o. pairs_of (unwrap_or o [])) (sym is_words) in
    let pairs = map pair_view c.in-Some-2.pairs.items in
    let is_p =
    found (λ v. map pair_view v.items) c.in_ok-pairs.field-0 parts.pairs c.in-Some-2.pairs same_pairs c.in-Some-2.is in
    let read_steps = sym (c.read_limit.ensures ∙ ap (limit_of 100000000) c.value_of-2.ensures) in
    let is_s = read_steps ∙ c.in-Some-read_limit.is in
    let read_cells = sym (c.read_limit-2.ensures ∙ ap (limit_of 8000000) c.value_of-3.ensures) in
    let is_c = read_cells ∙ c.in-Some-read_limit-2.is in
    let count = c.len.ensures ∙ (c.in-Some-2.pairs.ok.0 ∙ sym (length-map c.in-Some-2.pairs.items pair_view)) in
    let same_turns =
    c.in_ok-turns.ensures ∙ (ap (turns_of c.len.result) c.value_of-4.ensures
    ∙ ap (λ n. turns_of n (first_of (codes "turns") rows)) count) in
    no_turns parts c.in-Some.declarations.now is_d pairs is_p c.in-Some-read_limit.steps is_s
    c.in-Some-read_limit-2.cells is_c (missing (λ v. v.items) c.in_ok-turns.field-0 _ same_turns c.in_default-3.is)

pub returns : goal.returns
returns c =
    let rows = rows_of (found_of c.args.matches.now) in
    let parts = run_parts rows in
    let is_d = found text c.value_of.result parts.declarations c.in-Some.declarations c.value_of.ensures c.in-Some.is in
    let is_words =
    found (λ s. map text s.now) c.values_of.result (all_of (codes "pairs") rows) c.in-Some-values_of.words
    c.values_of.ensures c.in-Some-values_of.is in
    let same_pairs = c.in_ok-pairs.ensures ∙ ap (λ o. pairs_of (unwrap_or o [])) (sym is_words) in
    let pairs = map pair_view c.in-Some-2.pairs.items in
    let is_p =
    found (λ v. map pair_view v.items) c.in_ok-pairs.field-0 parts.pairs c.in-Some-2.pairs same_pairs c.in-Some-2.is in
    let read_steps = sym (c.read_limit.ensures ∙ ap (limit_of 100000000) c.value_of-2.ensures) in
    let is_s = read_steps ∙ c.in-Some-read_limit.is in
    let read_cells = sym (c.read_limit-2.ensures ∙ ap (limit_of 8000000) c.value_of-3.ensures) in
    let is_c = read_cells ∙ c.in-Some-read_limit-2.is in
    let count = c.len.ensures ∙ (c.in-Some-2.pairs.ok.0 ∙ sym (length-map c.in-Some-2.pairs.items pair_view)) in
    let same_turns =
    c.in_ok-turns.ensures ∙ (ap (turns_of c.len.result) c.value_of-4.ensures
    ∙ ap (λ n. turns_of n (first_of (codes "turns") rows)) count) in
    let is_t = found (λ v. v.items) c.in_ok-turns.field-0 _ c.in-Some-3.turns same_turns c.in-Some-3.is in
    let on = c.is_on.ensures ∙ ap is_on c.value_of-5.ensures in
    let steps = c.in-Some-read_limit.steps in
    let cells = c.in-Some-read_limit-2.cells in
    let turns = c.in-Some-3.turns.items in
    ap₂ (λ (d : List ℕ) (b : Bool). Some (run_with d pairs steps cells turns b)) c.in_ok-new.ensures on
    ∙ whole_run parts c.in-Some.declarations.now is_d pairs is_p steps is_s cells is_c turns is_t
