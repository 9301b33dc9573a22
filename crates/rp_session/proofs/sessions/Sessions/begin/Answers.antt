-- The scope is put into the store, and then the session behind the others.
use Rattle.std.proofs.Common.{◌≡◌, ◌<◌, ◌+◌, ◌++◌, ◌∷◌, [], ◌∙◌, ap, sym, subst, length, arith}
use Rattle.rp_engine.specs.declared.units.Program.{Program}
use Rattle.rp_session.specs.declared.sessions.Sessions.{Sessions}
use Rattle.rp_session.proofs.Beginning.{begun, first_running, given-more, ready-more}
use Rattle.rp_session.proofs.sessions.Sessions.begin.Goals as goal

pub add_globals-requires : goal.add_globals-requires
add_globals-requires c = record { block = subst (λ (p : Program). 0 < length p.layouts) (sym c.program-program.ensures) (c.requires.laid _).block }

abbrev items_of : (c : goal.After-push_reserved) → c.push_reserved.new.self.items ≡ c.args.self.now.list.items ++ c.first-session.result ∷ []
items_of c =
    c.push_reserved.ensures.items ∙ ap (λ (s : Sessions). s.list.items ++ c.first-session.result ∷ []) c.in_ok-globals.ensures.added
    ∙ ap (λ ks. ks ++ c.first-session.result ∷ []) c.reserve.ensures.items

abbrev running_of : (c : goal.After-push_reserved) → c.first-session.result.running ≡ first_running (c.len.result + 1) c.args.who c.args.steps
running_of c =
    c.first-session.ensures.running
    ∙ ap (λ printed. record { session = c.len.result + 1; interaction = c.args.who; meter = record { left = c.args.steps }; printed = printed }) c.new.ensures

abbrev number_of : (c : goal.After-push_reserved) → c.len.result + 1 ≡ length c.args.self.now.list.items + 1
number_of c =
    let total = c.reserve.new.self.ok.0 in
    let same : length c.reserve.new.self.items ≡ length c.args.self.now.list.items = ap length c.reserve.ensures.items in
    omega arith

pub returns-clause-begun : goal.returns-clause-begun
returns-clause-begun c base =
    begun base c.args.units.now c.args.self.now.world c.args.self.now.list.items c.args.who c.args.steps (c.len.result + 1) c.program-program.result.now
    c.in_ok-globals.globals c.first-session.result c.add_globals.new.self.world c.push_reserved.new.self.items
    (number_of c) c.program-program.ensures (ap (λ (s : Sessions). s.world) c.in_ok-globals.ensures.added) c.in_ok-globals.ensures.place (items_of c)
    (running_of c) c.first-session.ensures.globals c.first-session.ensures.next c.first-session.ensures.end

pub returns-clause-ready : goal.returns-clause-ready
returns-clause-ready c =
    ready-more c.args.self.now (c.len.result + 1) c.program-program.result.now c.in_ok-globals.globals c.first-session.result c.args.who c.args.steps
    c.add_globals.new.self.world c.add_globals.new.self.alloc c.push_reserved.new.self c.requires.ready c.requires.few
    (number_of c) (ap (λ (s : Sessions). s.world) c.in_ok-globals.ensures.added) c.in_ok-globals.ensures.place (items_of c)
    (running_of c) c.first-session.ensures.globals c.first-session.ensures.given c.requires.grants c.in_ok-globals.ensures.shape

pub returns-clause-given : goal.returns-clause-given
returns-clause-given c =
    given-more c.args.self.now.list.items c.push_reserved.new.self.items c.first-session.result c.args.steps (items_of c) c.first-session.ensures.given

pub returns-clause-names : goal.returns-clause-names
returns-clause-names c = ap (λ (s : Sessions). s.world.names) c.in_ok-globals.ensures.added

pub returns-clause-decl : goal.returns-clause-decl
returns-clause-decl c = ap (λ (s : Sessions). s.world.decl) c.in_ok-globals.ensures.added
