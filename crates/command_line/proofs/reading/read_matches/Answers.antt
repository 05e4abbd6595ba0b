use Rattle.std.proofs.Common.{rules}
use Rattle.clap.specs.Words.{rows_of, found_of, subcommand_rows_of}
use Rattle.command_line.proofs.Lines.{refused-so, no-answer, no-serve, no-dump, no-sync, no-history, no-import, no-check}
use Rattle.command_line.proofs.reading.read_matches.Goals as goal

pub returns-in-Some-clause-words : goal.returns-in-Some-clause-words
returns-in-Some-clause-words c =
    refused-so c.read_answer.result (no-answer (subcommand_rows_of c.args.matches.now)
    (rows_of (found_of c.in-Some.answer.now)) (search rules)) c.read_answer.ensures.words

pub returns-in-Some-subcommand_matches-clause-words :
    goal.returns-in-Some-subcommand_matches-clause-words
returns-in-Some-subcommand_matches-clause-words c =
    refused-so c.read_serve.result (no-serve (subcommand_rows_of c.args.matches.now)
    (rows_of (found_of c.in-Some-subcommand_matches.serve.now)) (search rules))
    c.read_serve.ensures.words

pub returns-in-Some-subcommand_matches-2-clause-words :
    goal.returns-in-Some-subcommand_matches-2-clause-words
returns-in-Some-subcommand_matches-2-clause-words c =
    refused-so c.read_dump.result (no-dump (subcommand_rows_of c.args.matches.now)
    (rows_of (found_of c.in-Some-subcommand_matches-2.dump.now)) (search rules))
    c.read_dump.ensures.words

pub returns-in-Some-subcommand_matches-3-clause-words :
    goal.returns-in-Some-subcommand_matches-3-clause-words
returns-in-Some-subcommand_matches-3-clause-words c =
    refused-so c.read_sync.result (no-sync (subcommand_rows_of c.args.matches.now)
    (rows_of (found_of c.in-Some-subcommand_matches-3.sync.now)) (search rules))
    c.read_sync.ensures.words

pub returns-in-Some-subcommand_matches-4-clause-words :
    goal.returns-in-Some-subcommand_matches-4-clause-words
returns-in-Some-subcommand_matches-4-clause-words c =
    refused-so c.read_history.result (no-history (subcommand_rows_of c.args.matches.now)
    (rows_of (found_of c.in-Some-subcommand_matches-4.history.now)) (search rules))
    c.read_history.ensures.words

pub returns-in-Some-subcommand_matches-5-clause-words :
    goal.returns-in-Some-subcommand_matches-5-clause-words
returns-in-Some-subcommand_matches-5-clause-words c =
    refused-so c.read_import.result (no-import (subcommand_rows_of c.args.matches.now)
    (rows_of (found_of c.in-Some-subcommand_matches-5.import.now)) (search rules))
    c.read_import.ensures.words

pub returns-in-Some-subcommand_matches-6-clause-words :
    goal.returns-in-Some-subcommand_matches-6-clause-words
returns-in-Some-subcommand_matches-6-clause-words c =
    refused-so c.read_check.result (no-check (subcommand_rows_of c.args.matches.now)
    (rows_of (found_of c.in-Some-subcommand_matches-6.check.now)) (search rules))
    c.read_check.ensures.words
