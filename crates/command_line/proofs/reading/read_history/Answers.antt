use Rattle.std.proofs.Common.{◌≡◌, List, Some, None, ◌∙◌, sym, codes}
use Rattle.clap.specs.Matches.{first_value}
use Rattle.clap.specs.Words.{Row, first_of, found_of, rows_of}
use Rattle.command_line.specs.Line.{IsHistoryCommand, NoLine}
use Rattle.command_line.specs.declared.line.Line.TheVariants.{History}
use Rattle.clap.proofs.WalkLemmas.{first_value-rows}
use Rattle.command_line.proofs.Lines.{mapped}
use Rattle.command_line.proofs.reading.read_history.Goals as goal

not_set : (rows : List Row) → first_of (codes "settings") rows ≡ None → NoLine (IsHistoryCommand rows)
not_set rows none (History path asked) h = let wrong = sym none ∙ h.0 in cc
not_set rows none _ h = absurd h

not_told : (rows : List Row) → first_of (codes "node") rows ≡ None → NoLine (IsHistoryCommand rows)
not_told rows none (History path asked) h = let wrong = sym none ∙ h.1.node in cc
not_told rows none _ h = absurd h

pub returns-in_default-clause-words : goal.returns-in_default-clause-words
returns-in_default-clause-words c =
    let found = found_of c.args.history.now in
    not_set (rows_of found) (sym (first_value-rows found (codes "settings"))
    ∙ mapped _ c.get_str.result None
    (first_value found (codes "settings")) c.get_str.ensures c.in_default.is)

pub returns-in-Some-get_str-clause-ok : goal.returns-in-Some-get_str-clause-ok
returns-in-Some-get_str-clause-ok c =
    let found = found_of c.args.history.now in (
      sym (first_value-rows found (codes "settings"))
          ∙ mapped _ c.get_str.result (Some c.in-Some.settings)
          (first_value found (codes "settings")) c.get_str.ensures c.in-Some.is,
      c.read_words.ensures (sym (first_value-rows found (codes "node"))
          ∙ mapped _ c.get_str-2.result (Some c.in-Some-get_str.node)
          (first_value found (codes "node")) c.get_str-2.ensures c.in-Some-get_str.is),
    )

pub returns-in-None-clause-words : goal.returns-in-None-clause-words
returns-in-None-clause-words c =
    let found = found_of c.args.history.now in
    not_told (rows_of found) (sym (first_value-rows found (codes "node"))
    ∙ mapped _ c.get_str-2.result None
    (first_value found (codes "node")) c.get_str-2.ensures c.in-None.is)
