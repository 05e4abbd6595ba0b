use Rattle.std.proofs.Common.{◌≡◌, ◌∙◌, Bool, true, Some, None, sym, ap, subst, arith}
use Rattle.std.specs.Prelude.{◌&&◌, not, nat_le, if◌then◌else◌}
use Rattle.ua_binary.specs.declared.codes.Status.{Status}
use Rattle.ua_binary.specs.declared.codes.TheConstants.Status.{GOOD}
use Rattle.ua_services.specs.declared.history.HistoryReadResult.{HistoryReadResult}
use Rattle.hist_read.specs.Carrying.{TellsWithin}
use Rattle.hist_read.specs.Node.{refused_read}
use Rattle.hist_read.proofs.Carried.{refused_within}
use Rattle.historian.specs.Answers.{longest_response}
use Rattle.historian.specs.Reading.{released}
use Rattle.historian.proofs.histories.too_long.Goals as goal

-- of a good read nothing is shown
shows-nothing : (read : HistoryReadResult) → read.status ≡ GOOD
    → refused_read GOOD ≡ released true read
shows-nothing read good =
    sym (ap (λ (status : Status).
    if true && not (nat_le 2147483648 status.0) then refused_read GOOD else read) good)

pub returns-then-release-clause-told : goal.returns-then-release-clause-told
returns-then-release-clause-told c = λ read large.
    subst (λ (release : Bool). TellsWithin (Some longest_response) (Some c.nothing.result)
    (released release read)) (sym c.if-release.true)
    (subst (λ (shown : HistoryReadResult). TellsWithin (Some longest_response) (Some c.nothing.result) shown)
    (c.nothing.ensures.told ∙ shows-nothing read large.1)
    (refused_within longest_response GOOD c.nothing.result c.nothing.ensures.told (omega arith)))

pub returns-else-release-clause-told : goal.returns-else-release-clause-told
returns-else-release-clause-told c = λ read large.
    subst (λ (release : Bool). TellsWithin (Some longest_response) None (released release read))
    (sym c.if-release.false) large
