use Rattle.std.proofs.Common.{◌≡◌, ◌++◌, drop}
use Rattle.settings_check.specs.Texts.{text_of}
use Rattle.settings_check.specs.Warnings.{own_warnings}
use Rattle.settings_check.proofs.warnings.put_own.Given as goal

abbrev pub invariant-loop-peer : goal.invariant-loop-peer
invariant-loop-peer l = record {
  warns : l.out.items ++ text_of (own_warnings l.settings (drop l.peer-index l.peers))
      ≡ l.initial.out.items ++ text_of (own_warnings l.settings l.peers);
}
