use Rattle.std.proofs.Common.{◌≡◌, ◌++◌, List, ℕ, Bool, OnOk, codes, ap, ◌∙◌, subst, nat_eq}
use Rattle.std.specs.List.{list_any}
use Rattle.std.specs.Cmp.Lexicographic.{pointwise}
use Rattle.history_report.specs.Tables.{legible}
use Rattle.settings_check.specs.Texts.{text_of}
use Rattle.settings_check.specs.Warnings.{warned}
use Rattle.settings_check.proofs.warnings.put_repeated_of.Goals as goal

pub returns : goal.returns
returns c =
    let result = c.put_warned_of.result in
    let old = c.args.out.now.items in
    let new = c.put_warned_of.new.out.items in
    let words = codes "two peers have the address " in
    let same = c.as_str-address.ensures.same in
    subst (λ (b : Bool). OnOk result
    (new ≡ old ++ text_of (warned b (words ++ legible c.args.peer.now.address))))
    (c.have_address-again.ensures
    ∙ ap (λ (t : List ℕ). list_any (λ other. pointwise nat_eq other.address t) c.args.behind.now)
    same)
    (subst (λ (t : List ℕ). OnOk result
    (new ≡ old ++ text_of (warned c.have_address-again.result (words ++ legible t)))) same
    c.put_warned_of.ensures)
