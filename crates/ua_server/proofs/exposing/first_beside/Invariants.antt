use Rattle.std.proofs.Common.{take, false}
use Rattle.std.specs.List.{AllByRecursion}
use Rattle.ua_server.specs.Exposing.{ExposesBeside}
use Rattle.ua_server.proofs.exposing.first_beside.Given as goal

abbrev pub invariant-loop-path : goal.invariant-loop-path
invariant-loop-path g l =
    AllByRecursion (ExposesBeside g.H.Host.means l.host l.settings false)
    (take l.path-index l.paths)
