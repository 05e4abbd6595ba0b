use Rattle.std.proofs.Common.{◌≡◌, ◌++◌, List, ℕ, OnOk, subst}
use Rattle.settings_check.specs.Texts.{text_of}
use Rattle.settings_check.specs.Facts.{plain_facts, web_facts, events_facts, logins_facts}
use Rattle.settings_check.proofs.TextLemmas.{next, next-last}
use Rattle.settings_check.proofs.facts.put_facts.Goals as goal

pub returns : goal.returns
returns c =
    let s = c.args.settings.now in
    let result = c.put_logins.result in
    let old = c.args.out.now.items in
    let first = c.put_plain.new.out.items in
    let second = c.put_web.new.out.items in
    let third = c.put_events.new.out.items in
    let new = c.put_logins.new.out.items in
    let two_parts : List (List ℕ) = plain_facts s ++ web_facts s.web in
    next-last result old third new (two_parts ++ events_facts s.events) (logins_facts s.logins)
    (next old second third two_parts (events_facts s.events)
    (next old first second (plain_facts s) (web_facts s.web) c.in_ok-put_plain.ensures
    (subst (λ w. second ≡ first ++ text_of (web_facts w)) c.web.ensures
    c.in_ok-put_web.ensures))
    (subst (λ e. third ≡ second ++ text_of (events_facts e)) c.tells_events.ensures
    c.in_ok-put_events.ensures))
    (subst (λ l. OnOk result (new ≡ third ++ text_of (logins_facts l))) c.logins.ensures
    c.put_logins.ensures)
