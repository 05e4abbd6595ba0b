use Rattle.std.proofs.Common.{◌≡◌, ◌-◌}
use Rattle.ua_binary.specs.Binary.{text}
use Rattle.ua_services.specs.Unkept.{unkept_array}
use Rattle.ua_services.proofs.Skipped.{skipped_at}
use Rattle.ua_services.proofs.skipping.skip_texts.Given as goal

abbrev pub invariant-loop : goal.invariant-loop
invariant-loop l = skipped_at text.read (l.count - l.counter) l.next
    ≡ (unkept_array text).read l.fn.cursor
