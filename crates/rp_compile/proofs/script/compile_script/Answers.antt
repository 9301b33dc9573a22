use Rattle.std.proofs.Common.{◌∙◌}
use Rattle.rp_base.specs.Names.{word_of}
use Rattle.rp_tree.specs.Marks.{erase}
use Rattle.rp_tree.specs.StatementViews.{view_tree}
use Rattle.rp_policy.proofs.Augmented.{augments_names}
use Rattle.rp_compile.proofs.Numbered as numbered
use Rattle.rp_compile.proofs.script.compile_script.Goals as goal

pub transform-requires : goal.transform-requires
transform-requires c =
    numbered.plain (view_tree c.in_ok-source.source) (view_tree c.number.new.tree) c.in_ok-source.ensures.low.0 c.in_ok-source.ensures.low.1 c.number.ensures.kept

pub returns-clause-program : goal.returns-clause-program
returns-clause-program c =
    let read = view_tree c.in_ok-source.source in
    let kept = numbered.unguarded read (view_tree c.number.new.tree) (view_tree c.in_ok-tree.tree) c.number.ensures.kept c.in_ok-tree.ensures.rewritten in
    numbered.program read (erase (view_tree c.in_ok-tree.tree)) c.in_ok-source.ensures.low.0 c.in_ok-source.ensures.low.1 kept
    c.args.bytes.now (word_of c.read_script.new.names) c.in_ok-source.ensures.program

pub returns-clause-lawful : goal.returns-clause-lawful
returns-clause-lawful c =
    let read = view_tree c.in_ok-source.source in
    let kept = numbered.unguarded read (view_tree c.number.new.tree) (view_tree c.in_ok-tree.tree) c.number.ensures.kept c.in_ok-tree.ensures.rewritten in
    numbered.lawful read (erase (view_tree c.in_ok-tree.tree)) c.in_ok-source.ensures.low.0 c.in_ok-source.ensures.low.1 kept
    (word_of c.read_script.new.names) c.in_ok-source.ensures.lawful

pub returns-clause-only : goal.returns-clause-only
returns-clause-only c = λ tree is lawful.
    let read = view_tree c.in_ok-source.source in
    let kept = numbered.unguarded read (view_tree c.number.new.tree) (view_tree c.in_ok-tree.tree) c.number.ensures.kept c.in_ok-tree.ensures.rewritten in
    numbered.named_source read (erase (view_tree c.in_ok-tree.tree)) c.in_ok-source.ensures.low.0 c.in_ok-source.ensures.low.1 kept
    (word_of c.read_script.new.names) ∙ c.in_ok-source.ensures.only tree is lawful

pub returns-clause-held : goal.returns-clause-held
returns-clause-held c =
    let read = view_tree c.in_ok-source.source in
    let kept = numbered.unguarded read (view_tree c.number.new.tree) (view_tree c.in_ok-tree.tree) c.number.ensures.kept c.in_ok-tree.ensures.rewritten in
    numbered.held read (erase (view_tree c.in_ok-tree.tree)) c.in_ok-source.ensures.low.0 c.in_ok-source.ensures.low.1 kept
    c.read_script.new.names c.in_ok-source.ensures.held

pub invariant_of-result : goal.invariant_of-result
invariant_of-result c =
    let read = view_tree c.in_ok-source.source in
    let result = view_tree c.number.new.tree in
    let word = word_of c.read_script.new.names in
    let unaugmented = augments_names word result
    (numbered.unoffending read result c.in_ok-source.ensures.low.0 c.in_ok-source.ensures.low.1 c.number.ensures.kept word c.in_ok-source.ensures.unoffending) in
    numbered.compiled c.read_script.new.names c.in_ok-source.source c.number.new.tree c.in_ok-tree.tree c.in_ok-layouts.layouts
    c.in_ok-source.ensures.low.0 c.in_ok-source.ensures.low.1 c.number.ensures.kept c.number.ensures.numbers c.in_ok-source.ensures.unoffending
    c.in_ok-tree.ensures.rewritten (c.in_ok-tree.ensures.guarded unaugmented) c.in_ok-layouts.ensures.few c.in_ok-layouts.ensures.by_number c.in_ok-layouts.ensures.scopes
