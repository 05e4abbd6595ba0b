use Rattle.std.proofs.Common.{◌≡◌, List, Some, None, ◌∙◌, sym, codes}
use Rattle.clap.specs.Matches.{first_value}
use Rattle.clap.specs.Words.{Row, first_of, one_of, found_of, rows_of}
use Rattle.command_line.specs.Line.{IsCheck, IsFlag, NoLine}
use Rattle.command_line.specs.declared.line.Line.TheVariants.{Check}
use Rattle.clap.proofs.WalkLemmas.{first_value-rows, one_text-rows}
use Rattle.command_line.proofs.Lines.{mapped}
use Rattle.command_line.proofs.reading.read_check.Goals as goal

not_set : (rows : List Row) → first_of (codes "settings") rows ≡ None → NoLine (IsCheck rows)
not_set rows none (Check path flag) h = let wrong = sym none ∙ h.0 in cc
not_set rows none _ h = absurd h

pub returns-in-Some-clause-ok : goal.returns-in-Some-clause-ok
returns-in-Some-clause-ok c =
    let found = found_of c.args.check.now in
    let flag : IsFlag (one_of (codes "store") (rows_of found)) c.get_flag-store.result = (
      λ e. c.get_flag-store.ensures.value (one_text-rows found (codes "store") ∙ e),
      λ e. c.get_flag-store.ensures.other (one_text-rows found (codes "store") ∙ e),
      λ e. c.get_flag-store.ensures.none (one_text-rows found (codes "store") ∙ e),
    ) in (
      sym (first_value-rows found (codes "settings"))
          ∙ mapped _ c.get_str.result (Some c.in-Some.settings)
          (first_value found (codes "settings")) c.get_str.ensures c.in-Some.is,
      flag,
    )

pub returns-in-None-clause-words : goal.returns-in-None-clause-words
returns-in-None-clause-words c =
    let found = found_of c.args.check.now in
    not_set (rows_of found) (sym (first_value-rows found (codes "settings"))
    ∙ mapped _ c.get_str.result None
    (first_value found (codes "settings")) c.get_str.ensures c.in-None.is)
