use Rattle.std.proofs.Common.{◌≡◌, ◌++◌, List, ℕ, Bool, OnOk, codes, ap, ◌∙◌, subst}
use Rattle.history_report.specs.Tables.{legible}
use Rattle.settings_check.specs.Texts.{text_of}
use Rattle.settings_check.specs.Warnings.{warned, is_own}
use Rattle.settings_check.proofs.warnings.put_own_of.Goals as goal

pub returns : goal.returns
returns c =
    let s = c.args.settings.now in
    let result = c.put_warned_of.result in
    let old = c.args.out.now.items in
    let new = c.put_warned_of.new.out.items in
    let words = codes "a peer has this server's own address " in
    let same = c.as_str-address.ensures.same in
    subst (λ (b : Bool). OnOk result
    (new ≡ old ++ text_of (warned b (words ++ legible c.args.peer.now.address))))
    (c.is_own-own.ensures ∙ ap (is_own s) same)
    (subst (λ (t : List ℕ). OnOk result
    (new ≡ old ++ text_of (warned c.is_own-own.result (words ++ legible t)))) same
    c.put_warned_of.ensures)
