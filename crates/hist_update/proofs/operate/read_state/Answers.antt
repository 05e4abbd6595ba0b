use Rattle.std.proofs.Common.{rules, ◌≡◌, Err, subst, sym}
use Rattle.archive.specs.Store.{Asks}
use Rattle.archive.proofs.Calls.{asks-second}
use Rattle.hist_update.specs.Operating.{IsChangePlace}
use Rattle.hist_update.proofs.Surveys.{surveyed}
use Rattle.hist_update.proofs.operate.read_state.Goals as goal

pub returns-in_err-top-clause-asks : goal.returns-in_err-top-clause-asks
returns-in_err-top-clause-asks g c =
    let told : c.from_residual-in_err-top.result ≡ Err c.in_err-top.field-0.0 = search rules in
    subst (λ r. Asks (g.A.Archive.state c.args.archive.now) (g.A.Archive.state c.top.new.self) r
    (IsChangePlace (g.A.Archive.state c.args.archive.now) c.args.request.now c.args.time))
    (sym told)
    (asks-second _ _ _ _ _ _ _ _ (c.in_ok-all.ensures.asks)
    (asks-second _ _ _ _ _ _ _ (λ p.
    IsChangePlace (g.A.Archive.state c.args.archive.now) c.args.request.now c.args.time p)
    (c.in_ok-live.ensures.asks) (c.in_err-top.ensures.asks)))

pub returns-clause-asks : goal.returns-clause-asks
returns-clause-asks g c = surveyed _ _ _ _ _ _ c.in_ok-all.all c.in_ok-live.live
    c.in_ok-top.field-0 _ (c.in_ok-all.ensures.asks) (c.in_ok-live.ensures.asks)
    (c.in_ok-top.ensures.asks) (search rules) c.number-origin.ensures.own (search rules)
    (search rules)
