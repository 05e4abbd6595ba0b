use Rattle.std.proofs.Common.{◌≡◌, ◌++◌, List, ℕ, OnOk, codes, ap, ◌∙◌, subst}
use Rattle.history_report.specs.Tables.{legible}
use Rattle.settings_check.proofs.TextLemmas.{join, two}
use Rattle.settings_check.proofs.facts.put_listen.Goals as goal

pub returns : goal.returns
returns c =
    let s = c.args.settings.now in
    let result = c.put_shown-2.result in
    let old = c.args.out.now.items in
    let first = c.extend_from_slice.new.self.items in
    let second = c.put_shown.new.out.items in
    let third = c.extend_from_slice-2.new.self.items in
    let new = c.put_shown-2.new.out.items in
    let listens = codes "listens at " ++ legible s.listen in
    two result old third new (listens ++ codes "; clients are told ") (legible s.url)
    (join old second third listens (codes "; clients are told ")
    (join old first second (codes "listens at ") (legible s.listen)
    c.in_ok-extend_from_slice.ensures.items
    (c.in_ok-put_shown.ensures ∙ ap (λ (t : List ℕ). first ++ legible t) c.listen.ensures))
    c.in_ok-extend_from_slice-2.ensures.items)
    (subst (λ (t : List ℕ). OnOk result (new ≡ third ++ legible t)) c.url.ensures.same
    c.put_shown-2.ensures)
