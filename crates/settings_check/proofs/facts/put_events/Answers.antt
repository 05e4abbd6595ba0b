use Rattle.std.proofs.Common.{◌≡◌, ◌++◌, ◌∷◌, [], codes, sym, subst}
use Rattle.settings_check.specs.Texts.{text_of}
use Rattle.settings_check.specs.Facts.{events_facts}
use Rattle.settings_check.proofs.TextLemmas.{join}
use Rattle.settings_check.proofs.facts.put_events.Goals as goal

pub returns-in_ok-push : goal.returns-in_ok-push
returns-in_ok-push c =
    let old = c.args.out.now.items in
    let between = c.extend_from_slice.new.self.items in
    let new = c.push.new.self.items in
    subst (λ e. new ≡ old ++ text_of (events_facts e)) (sym c.if-events.true)
    (join old between new (codes "what happens is told on standard error, a line each") (10 ∷ [])
    c.in_ok-extend_from_slice.ensures.items c.in_ok-push.ensures.items)
