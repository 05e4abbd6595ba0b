use Rattle.std.proofs.Common.{◌≡◌, drop}
use Rattle.toml.specs.View.{table_view}
use Rattle.ua_settings.specs.Judging.{wrong_at, first_some}
use Rattle.ua_settings.proofs.FileParts.{wrong_in}
use Rattle.ua_settings.specs.declared.judging.TheConstants.{SECTIONS}
use Rattle.ua_settings.proofs.judging.wrong_at.Given as goal

abbrev pub invariant-loop-section : goal.invariant-loop-section
invariant-loop-section l = wrong_at l.known.passwords.now (table_view l.document) l.wrong
    ≡ first_some (wrong_in l.known.passwords.now (table_view l.document) l.wrong)
    (drop l.section-index SECTIONS)
