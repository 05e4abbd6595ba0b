use Rattle.std.proofs.Common.{◌≡◌, ◌+◌, ◌++◌, map, take, drop}
use Rattle.ua_settings.specs.Place.{repeated_from}
use Rattle.ua_settings.proofs.place.repeated.Given as goal

abbrev pub invariant-loop-i : goal.invariant-loop-i
invariant-loop-i l =
    repeated_from 1 (map (λ id. id.now) l.others) (map (λ id. id.now) l.ids)
    ≡ repeated_from (l.i + 1) (map (λ id. id.now) l.others ++ take l.i (map (λ id. id.now) l.ids))
    (drop l.i (map (λ id. id.now) l.ids))
