-- Bytes that aren't the one spelling of a value.
use Rattle.std.proofs.Common.{rules, inr}
use Rattle.sql_tables.proofs.UnreadLemmas.{no_value_written}
use Rattle.sql_tables.proofs.decoding.value_at.Goals as goal

pub returns-then-not-branch-clause-unread : goal.returns-then-not-branch-clause-unread
returns-then-not-branch-clause-unread c =
    inr (no_value_written c.args.row.now c.in_ok-bytes.bytes.now c.new.result
    c.read_data_value.new.cursor c.in_ok-value.value c.in_ok-is_value_so.field-0
    c.in_ok-bytes.ensures.found c.new.ensures c.in_ok-value.ensures.reads
    c.in_ok-is_value_so.ensures.same (search rules))
