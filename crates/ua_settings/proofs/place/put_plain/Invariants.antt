use Rattle.std.proofs.Common.{◌≡◌, ◌++◌, map, take, string_bytes}
use Rattle.ua_settings.specs.Place.{plain}
use Rattle.ua_settings.proofs.place.put_plain.Given as goal

abbrev pub invariant-loop-byte : goal.invariant-loop-byte
invariant-loop-byte l = string_bytes l.text
    ≡ string_bytes l.initial.text ++ map plain (take l.byte-index l.bytes)
