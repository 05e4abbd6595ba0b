use Rattle.std.proofs.Common.{◌≡◌, map, take}
use Rattle.ua_services.specs.Updates.{details_of}
use Rattle.historian.specs.Auditing.{asked_audit}
use Rattle.historian.proofs.auditing.audits_of.Given as goal

abbrev pub invariant-loop-details : goal.invariant-loop-details
invariant-loop-details l =
    l.audits.items ≡ map (λ d. asked_audit l.space (details_of d)) (take l.details-index l.asked)
