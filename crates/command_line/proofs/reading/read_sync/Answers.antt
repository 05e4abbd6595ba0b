use Rattle.std.proofs.Common.{◌≡◌, List, Some, None, ◌∙◌, sym, codes}
use Rattle.clap.specs.Matches.{first_value}
use Rattle.clap.specs.Words.{Row, first_of, one_of, found_of, rows_of}
use Rattle.command_line.specs.Line.{IsSync, IsFlag, NoLine}
use Rattle.command_line.specs.declared.line.Line.TheVariants.{Sync}
use Rattle.clap.proofs.WalkLemmas.{first_value-rows, one_text-rows}
use Rattle.command_line.proofs.Lines.{mapped}
use Rattle.command_line.proofs.reading.read_sync.Goals as goal

not_set : (rows : List Row) → first_of (codes "settings") rows ≡ None → NoLine (IsSync rows)
not_set rows none (Sync path asked) h = let wrong = sym none ∙ h.0 in cc
not_set rows none _ h = absurd h

not_told : (rows : List Row) → first_of (codes "peer") rows ≡ None → NoLine (IsSync rows)
not_told rows none (Sync path asked) h = let wrong = sym none ∙ h.1.peer in cc
not_told rows none _ h = absurd h

pub returns-in_default-clause-words : goal.returns-in_default-clause-words
returns-in_default-clause-words c =
    let found = found_of c.args.sync.now in
    not_set (rows_of found) (sym (first_value-rows found (codes "settings"))
    ∙ mapped _ c.get_str.result None
    (first_value found (codes "settings")) c.get_str.ensures c.in_default.is)

pub returns-in-Some-get_str-clause-ok : goal.returns-in-Some-get_str-clause-ok
returns-in-Some-get_str-clause-ok c =
    let found = found_of c.args.sync.now in
    let check : IsFlag (one_of (codes "check") (rows_of found)) c.get_flag-check.result = (
      λ e. c.get_flag-check.ensures.value (one_text-rows found (codes "check") ∙ e),
      λ e. c.get_flag-check.ensures.other (one_text-rows found (codes "check") ∙ e),
      λ e. c.get_flag-check.ensures.none (one_text-rows found (codes "check") ∙ e),
    ) in
    let verify : IsFlag (one_of (codes "verify") (rows_of found)) c.get_flag-verify.result = (
      λ e. c.get_flag-verify.ensures.value (one_text-rows found (codes "verify") ∙ e),
      λ e. c.get_flag-verify.ensures.other (one_text-rows found (codes "verify") ∙ e),
      λ e. c.get_flag-verify.ensures.none (one_text-rows found (codes "verify") ∙ e),
    ) in (
      sym (first_value-rows found (codes "settings"))
          ∙ mapped _ c.get_str.result (Some c.in-Some.settings)
          (first_value found (codes "settings")) c.get_str.ensures c.in-Some.is,
      record {
        peer = sym (first_value-rows found (codes "peer"))
            ∙ mapped _ c.get_str-2.result (Some c.in-Some-get_str.peer)
            (first_value found (codes "peer")) c.get_str-2.ensures c.in-Some-get_str.is;
        check = check;
        verify = verify;
      },
    )

pub returns-in-None-clause-words : goal.returns-in-None-clause-words
returns-in-None-clause-words c =
    let found = found_of c.args.sync.now in
    not_told (rows_of found) (sym (first_value-rows found (codes "peer"))
    ∙ mapped _ c.get_str-2.result None
    (first_value found (codes "peer")) c.get_str-2.ensures c.in-None.is)
