use Rattle.std.proofs.Common.{◌++◌, ℕ, codes, ap, ◌∙◌}
use Rattle.settings_check.specs.Facts.{counted_noun}
use Rattle.settings_check.proofs.TextLemmas.{join, two, put}
use Rattle.settings_check.proofs.facts.put_most_logins.Goals as goal

pub returns : goal.returns
returns c =
    let result = c.extend_from_slice-2.result in
    let old = c.args.out.now.items in
    let first = c.extend_from_slice.new.self.items in
    let second = c.put_counted.new.out.items in
    let new = c.extend_from_slice-2.new.self.items in
    let count = counted_noun c.args.most (codes " refused login") (codes " refused logins") in
    two result old second new (codes "after " ++ count)
    (codes " from one address within a minute its next ones are answered a second later each")
    (join old first second (codes "after ") count c.in_ok-extend_from_slice.ensures.items
    (c.in_ok-put_counted.ensures
    ∙ ap (λ n. first ++ counted_noun n (codes " refused login") (codes " refused logins"))
    c.from.ensures))
    (put result new _ _ c.extend_from_slice-2.ensures.items)
