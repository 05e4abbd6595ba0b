use Rattle.std.proofs.Common.{◌≡◌, ◌++◌, ap, sym, subst, ◌∙◌}
use Rattle.history_text.specs.Times.{IsTimeText}
use Rattle.history_text.proofs.AsciiLemmas.{moment_ascii}
use Rattle.history_text.proofs.TimesLemmas.{time_again}
use Rattle.history_text.proofs.times.time_text.Goals as goal

pub returns-clause-written : goal.returns-clause-written
returns-clause-written c =
    let put = c.in_ok-put_time.ensures.written in
    let text : put.0 ≡ c.put_time.new.out.items =
    sym (put.1 ∙ ap (λ l. l ++ put.0) c.new-out.ensures.items) in
    subst (IsTimeText c.args.time) text put.2

pub returns-clause-read : goal.returns-clause-read
returns-clause-read c =
    time_again c.args.time c.put_time.new.out.items c.put_time.ensures.fits c.requires
    (returns-clause-written c)

pub returns-clause-ascii : goal.returns-clause-ascii
returns-clause-ascii c =
    moment_ascii c.args.time c.put_time.new.out.items c.put_time.ensures.fits
    (returns-clause-written c)
