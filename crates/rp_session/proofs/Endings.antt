-- The sessions of a run have ended.
use Rattle.std.proofs.Common.{◌≡◌, ℕ, ◌+◌, ◌<◌, List, length, map, find, get_or, Option, Some, None, option_map, IfSome, refl, sym, ap, subst, ◌∙◌, arith}
use Rattle.std.specs.List.{All}
use Rattle.std.specs.Option.{IsSome}
use Rattle.std.proofs.lemmas.List.{get_or-map, length-map}
use Rattle.rp_meaning.specs.Frame.{Run}
use Rattle.rp_meaning.specs.Sessions as meant
use Rattle.rp_meaning.specs.Sessions.{run_all}
use Rattle.rp_session.specs.Ready.{AreNumberedFrom}
use Rattle.rp_session.specs.View.{end_view, session_view}
use Rattle.rp_session.specs.declared.session.Session.{Session}
use Rattle.rp_session.specs.declared.session_end.SessionEnd.{SessionEnd}
use Rattle.rp_session.proofs.Numbered.{found-at, number-at}
use Rattle.rp_session.proofs.Finished.{AllStand, HasEnded, Where, each-ends, has}

some-end : (end : Option SessionEnd) → IsSome (option_map end_view end) → IsSome end
some-end (Some e) some = some
some-end None some = some

-- sessions that are numbered from 1 have ended where those are numbered so with which all began
pub all-ended : (run : Run) (listed : List ℕ) (begun last : meant.World) (js ks : List Session) → begun.sessions ≡ map session_view js → last.sessions ≡ map session_view ks
    → AreNumberedFrom 1 js → AreNumberedFrom 1 ks → length ks ≡ length js → AllStand run begun.sessions → last ≡ run_all run listed begun
    → All (λ k. IsSome k.end) ks
all-ended run listed begun last js ks before after first numbered count stand runs i d inside =
    let j = get_or js i d in
    let k = get_or ks i d in
    let low : i < length js = omega arith in
    let many : length begun.sessions ≡ length js = ap length before ∙ length-map js session_view in
    let there : i < length begun.sessions = omega arith in
    let is : get_or begun.sessions i (session_view d) ≡ session_view j = ap (λ (l : List meant.Session). get_or l i (session_view d)) before ∙ get_or-map session_view js i d (session_view d) low in
    let number : (get_or begun.sessions i (session_view d)).side.0 ≡ 1 + i = ap (λ (s : meant.Session). s.side.0) is ∙ number-at 1 js i d first low in
    let ends : Where HasEnded (1 + i) (run_all run listed begun) =
    subst (λ n. Where HasEnded n (run_all run listed begun)) number (each-ends run listed begun i (session_view d) there stand) in
    let found : find (has (1 + i)) last.sessions ≡ Some (session_view k) = ap (find (has (1 + i))) after ∙ found-at 1 (1 + i) ks i d numbered inside refl in
    let ended : IfSome (find (has (1 + i)) last.sessions) HasEnded = subst (λ (w : meant.World). Where HasEnded (1 + i) w) (sym runs) ends in
    some-end k.end (subst (λ (o : Option meant.Session). IfSome o HasEnded) found ended)
