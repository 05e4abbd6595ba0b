use Rattle.std.proofs.Common.{◌≡◌, ◌++◌, drop}
use Rattle.settings_check.specs.Texts.{text_of}
use Rattle.settings_check.specs.Warnings.{repeated_warnings}
use Rattle.settings_check.proofs.warnings.put_repeated.Given as goal

abbrev pub invariant-loop-i : goal.invariant-loop-i
invariant-loop-i l = record {
  warns : l.out.items ++ text_of (repeated_warnings (drop l.i l.peers))
      ≡ l.initial.out.items ++ text_of (repeated_warnings l.peers);
}
