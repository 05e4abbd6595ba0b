use Rattle.std.proofs.Common.{take, Ok, Some}
use Rattle.ua_server.specs.Passwords.{ReadsPasswords}
use Rattle.ua_server.proofs.files.read_passwords.Given as goal

abbrev pub invariant-loop-path : goal.invariant-loop-path
invariant-loop-path g l = ReadsPasswords {E = Unit {0}} g.H.Host.means l.settings
    (take l.path-index l.paths) (Ok (Some l.lines.items)) l.fn.host l.host
