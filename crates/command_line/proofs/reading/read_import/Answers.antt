use Rattle.std.proofs.Common.{◌≡◌, List, Some, None, ◌∙◌, ap, sym, codes}
use Rattle.std.specs.Prelude.{Option, option_copied}
use Rattle.clap.specs.Matches.{first_value}
use Rattle.clap.specs.Words.{Row, Text, first_of, found_of, rows_of}
use Rattle.command_line.specs.Line.{IsImportCommand, NoLine, file_in, perform_in}
use Rattle.command_line.specs.declared.line.Line.TheVariants.{Import}
use Rattle.clap.proofs.WalkLemmas.{first_value-rows}
use Rattle.command_line.proofs.Lines.{mapped}
use Rattle.command_line.proofs.reading.read_import.Goals as goal

not_set : (rows : List Row) → first_of (codes "settings") rows ≡ None → NoLine (IsImportCommand rows)
not_set rows none (Import path asked) h = let wrong = sym none ∙ h.0 in cc
not_set rows none _ h = absurd h

not_told : (rows : List Row) → first_of (codes "user") rows ≡ None → NoLine (IsImportCommand rows)
not_told rows none (Import path asked) h = let wrong = sym none ∙ h.1.user in cc
not_told rows none _ h = absurd h

not_meant : (rows : List Row) → perform_in (first_of (codes "perform") rows) ≡ None
    → NoLine (IsImportCommand rows)
not_meant rows none (Import path asked) h = let wrong = sym none ∙ h.1.perform in cc
not_meant rows none _ h = absurd h

pub returns-in_default-clause-words : goal.returns-in_default-clause-words
returns-in_default-clause-words c =
    let found = found_of c.args.import.now in
    not_set (rows_of found) (sym (first_value-rows found (codes "settings"))
    ∙ mapped _ c.get_str.result None
    (first_value found (codes "settings")) c.get_str.ensures c.in_default.is)

pub returns-in_default-get_str-clause-words : goal.returns-in_default-get_str-clause-words
returns-in_default-get_str-clause-words c =
    let found = found_of c.args.import.now in
    not_told (rows_of found) (sym (first_value-rows found (codes "user"))
    ∙ mapped _ c.get_str-2.result None
    (first_value found (codes "user")) c.get_str-2.ensures c.in_default-get_str.is)

pub returns-in-Some-perform_in-clause-ok : goal.returns-in-Some-perform_in-clause-ok
returns-in-Some-perform_in-clause-ok c =
    let found = found_of c.args.import.now in
    let word : option_copied c.get_str-3.result ≡ first_of (codes "perform") (rows_of found) =
    c.get_str-3.ensures ∙ first_value-rows found (codes "perform") in (
      sym (first_value-rows found (codes "settings"))
          ∙ mapped _ c.get_str.result (Some c.in-Some.settings)
          (first_value found (codes "settings")) c.get_str.ensures c.in-Some.is,
      record {
        user = sym (first_value-rows found (codes "user"))
            ∙ mapped _ c.get_str-2.result (Some c.in-Some-get_str.user)
            (first_value found (codes "user")) c.get_str-2.ensures c.in-Some-get_str.is;
        perform = sym (ap (λ (o : Option Text). perform_in o) word)
            ∙ sym c.perform_in.ensures ∙ c.in-Some-perform_in.is;
        server = c.get_str-server.ensures ∙ first_value-rows found (codes "server");
        file = c.file_in.ensures ∙ ap (λ (o : Option Text). file_in o)
            (c.get_str-file.ensures ∙ first_value-rows found (codes "file"));
      },
    )

pub returns-in-None-clause-words : goal.returns-in-None-clause-words
returns-in-None-clause-words c =
    let found = found_of c.args.import.now in
    let word : option_copied c.get_str-3.result ≡ first_of (codes "perform") (rows_of found) =
    c.get_str-3.ensures ∙ first_value-rows found (codes "perform") in
    not_meant (rows_of found) (sym (ap (λ (o : Option Text). perform_in o) word)
    ∙ sym c.perform_in.ensures ∙ c.in-None.is)
