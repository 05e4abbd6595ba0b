use Rattle.std.proofs.Common.{◌≡◌, List, Some, None, ◌∙◌, sym, codes}
use Rattle.clap.specs.Matches.{first_value}
use Rattle.clap.specs.Words.{Row, first_of, found_of, rows_of}
use Rattle.command_line.specs.Line.{IsDump, NoLine}
use Rattle.command_line.specs.declared.line.Line.TheVariants.{Dump}
use Rattle.clap.proofs.WalkLemmas.{first_value-rows}
use Rattle.command_line.proofs.Lines.{mapped}
use Rattle.command_line.proofs.reading.read_dump.Goals as goal

not_set : (rows : List Row) → first_of (codes "settings") rows ≡ None → NoLine (IsDump rows)
not_set rows none (Dump path) h = let wrong = sym none ∙ h in cc
not_set rows none _ h = absurd h

pub returns-in-Some-clause-ok : goal.returns-in-Some-clause-ok
returns-in-Some-clause-ok c =
    let found = found_of c.args.dump.now in
    sym (first_value-rows found (codes "settings"))
    ∙ mapped _ c.get_str.result (Some c.in-Some.settings)
    (first_value found (codes "settings")) c.get_str.ensures c.in-Some.is

pub returns-in-None-clause-words : goal.returns-in-None-clause-words
returns-in-None-clause-words c =
    let found = found_of c.args.dump.now in
    not_set (rows_of found) (sym (first_value-rows found (codes "settings"))
    ∙ mapped _ c.get_str.result None
    (first_value found (codes "settings")) c.get_str.ensures c.in-None.is)
