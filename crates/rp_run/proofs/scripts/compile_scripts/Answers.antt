use Rattle.std.proofs.Common.{◌≡◌, ◌∙◌, refl, sym}
use Rattle.rp_run.proofs.Bytes.{empty_chars, some_chars}
use Rattle.rp_run.proofs.Compiling.{end-compiled, end-count, end-refused, end-words, goes-start, goes-turn}
use Rattle.rp_run.proofs.scripts.compile_scripts.Goals as goal

pub loop-place-init : goal.loop-place-init
loop-place-init c = rw (c.new-all.ensures.items, c.new-said.ensures) (goes-start _ c.args.names.now)

pub loop-place-preserved : goal.loop-place-preserved
loop-place-preserved c =
    let added = c.in_ok-add_script.ensures in
    goes-turn c.args.scripts.now _ c.loop-place.place _ _ _ _ _ _ _ c.index-scripts-place.result c.loop-place-test.true
    c.index-scripts-place.is c.as_slice.ensures.value
    c.loop-place.invariant added.added added.names

pub returns-clause-compiled : goal.returns-clause-compiled
returns-clause-compiled c =
    end-compiled c.args.scripts.now _ c.loop-place.place _ _ _ c.loop-place.invariant c.loop-place-test.false
    (empty_chars _ _ c.as_str.ensures (sym c.is_empty.ensures ∙ c.if-not-is_empty.false))

pub returns-clause-count : goal.returns-clause-count
returns-clause-count c =
    end-count c.args.scripts.now _ c.loop-place.place _ _ _ c.loop-place.invariant c.loop-place-test.false
    (empty_chars _ _ c.as_str.ensures (sym c.is_empty.ensures ∙ c.if-not-is_empty.false))

pub returns-clause-words : goal.returns-clause-words
returns-clause-words c =
    end-words c.args.scripts.now _ c.loop-place.place _ _ _ c.loop-place.invariant c.loop-place-test.false
    (empty_chars _ _ c.as_str.ensures (sym c.is_empty.ensures ∙ c.if-not-is_empty.false))

pub returns-then-not-is_empty-clause-refused : goal.returns-then-not-is_empty-clause-refused
returns-then-not-is_empty-clause-refused c =
    end-refused c.args.scripts.now _ c.loop-place.place _ _ _ c.loop-place.invariant c.loop-place-test.false _ refl refl
    (some_chars _ _ c.as_str.utf8 c.as_str.ensures (sym c.is_empty.ensures ∙ c.if-not-is_empty.true))
