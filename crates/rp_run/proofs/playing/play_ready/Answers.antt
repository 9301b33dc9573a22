use Rattle.std.proofs.Common.{◌≡◌, ◌∙◌, ◌-◌, length, map, refl, sym, arith}
use Rattle.std.proofs.lemmas.List.{length-map}
use Rattle.std.proofs.lemmas.Result.{IfOk-weaker}
use Rattle.rp_interact.specs.Interacting.{Interacting}
use Rattle.rp_run.proofs.Reached.{reached_so}
use Rattle.rp_run.proofs.Whos.{as_many_whos}
use Rattle.rp_run.specs.SetUp.{programs_in}
use Rattle.rp_session.specs.declared.sessions.Sessions.{Sessions}
use Rattle.rp_tree.specs.StatementViews.{view_tree}
use Rattle.rp_words.specs.Command.{Pair}
use Rattle.rp_words.specs.View.{pair_view, run_view}
use Rattle.rp_world.specs.Worlds.{world_view}
use Rattle.rp_run.proofs.playing.play_ready.Goals as goal

pub play-requires : goal.play-requires
play-requires c =
    let ready = c.args.ready in
    let set_up = c.requires.ready in
    let pairs = c.args.command.now.pairs.items in
    let many : length ready.scripts.items ≡ length pairs = set_up.as_many ∙ length-map pairs pair_view in
    record {
      faithful = set_up.faithful;
      whole = set_up.whole;
      few = (let few = c.requires.few in omega (arith, many, few));
      as_many = as_many_whos ready.whos.items pairs set_up.ids ∙ sym many;
      grants = set_up.grants;
      held = set_up.held;
    }

pub returns-clause-reaches : goal.returns-clause-reaches
returns-clause-reaches c =
    let r = run_view c.args.command.now in
    let x = c.args.ready in
    let scripts = programs_in x.loaded.world x.scripts.items in
    let whos = map (λ (who : Interacting). who.ids) x.whos.items in
    reached_so (world_view x.loaded.world) (view_tree x.loaded.module) scripts scripts whos
    (map (λ (p : Pair). p.ids) r.pairs) c.as_slice-turns.result.now r.turns r.steps c.play.result refl
    c.requires.ready.ids c.as_slice-turns.ensures.value c.play.ensures.reaches

pub returns-clause-count : goal.returns-clause-count
returns-clause-count c =
    let scripts = c.args.ready.scripts.items in
    let pairs = c.args.command.now.pairs.items in
    let many : length scripts ≡ length pairs = c.requires.ready.as_many ∙ length-map pairs pair_view in
    IfOk-weaker c.play.result (λ (s : Sessions). length s.list.items ≡ length scripts)
    (λ (s : Sessions). length s.list.items ≡ length pairs) (λ s same. same ∙ many) c.play.ensures.count
