-- Bytes that aren't the one spelling of a node.
use Rattle.std.proofs.Common.{rules, inr}
use Rattle.sql_tables.proofs.UnreadLemmas.{unread_err, no_node_read, no_node_written}
use Rattle.sql_tables.proofs.decoding.node_at.Goals as goal

pub returns-in_err-node_id-clause-unread : goal.returns-in_err-node_id-clause-unread
returns-in_err-node_id-clause-unread c =
    unread_err c.from_residual-in_err-node_id.result c.args.row.now
    (no_node_read c.args.row.now c.in_ok-bytes.bytes.now c.new.result c.in_err-node_id.field-0.0
    c.in_ok-bytes.ensures.found c.new.ensures c.in_err-node_id.ensures.0)

pub returns-then-not-branch-clause-unread : goal.returns-then-not-branch-clause-unread
returns-then-not-branch-clause-unread c =
    inr (no_node_written c.args.row.now c.in_ok-bytes.bytes.now c.new.result c.node_id.new.self
    c.in_ok-node_id.field-0 c.in_ok-node.node c.in_ok-is_node_so.field-0
    c.in_ok-bytes.ensures.found c.new.ensures c.in_ok-node_id.ensures c.in_ok-node.ensures
    c.in_ok-is_node_so.ensures.same (search rules))
