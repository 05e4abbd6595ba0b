use Rattle.std.proofs.Common.{◌≡◌, ◌++◌, List, ℕ, OnOk, codes, sym, subst}
use Rattle.std.specs.Option.{option_copied}
use Rattle.history_report.specs.Tables.{legible}
use Rattle.settings_check.specs.Facts.{door_words}
use Rattle.settings_check.proofs.TextLemmas.{two}
use Rattle.settings_check.proofs.facts.put_door.Goals as goal

pub returns-in_ok-extend_from_slice-in-Some : goal.returns-in_ok-extend_from_slice-in-Some
returns-in_ok-extend_from_slice-in-Some c =
    let result = c.put_shown.result in
    let old = c.args.out.now.items in
    let between = c.extend_from_slice-in-Some.new.self.items in
    let new = c.put_shown.new.out.items in
    subst (λ d. OnOk result (new ≡ old ++ door_words (option_copied d))) (sym c.in-Some.is)
    (two result old between new (codes "the door listens at ") (legible c.in-Some.own.now.listen)
    c.in_ok-extend_from_slice-in-Some.ensures.items
    (subst (λ (t : List ℕ). OnOk result (new ≡ between ++ legible t)) c.as_str.ensures.same
    c.put_shown.ensures))
