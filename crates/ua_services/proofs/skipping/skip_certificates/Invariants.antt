use Rattle.std.proofs.Common.{◌≡◌, ◌-◌}
use Rattle.ua_services.specs.Sessions.{signed_software_certificate}
use Rattle.ua_services.specs.Unkept.{unkept_array}
use Rattle.ua_services.proofs.Skipped.{skipped_at}
use Rattle.ua_services.proofs.skipping.skip_certificates.Given as goal

abbrev pub invariant-loop : goal.invariant-loop
invariant-loop l = skipped_at signed_software_certificate.read (l.count - l.counter) l.next
    ≡ (unkept_array signed_software_certificate).read l.fn.cursor
