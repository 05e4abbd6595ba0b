-- Names for parts of the definitions in specs/Same, for the lemmas on these parts.
use base.Stored.{Coded}
use Rattle.ua_binary.specs.declared.values.NodeId.{NodeId}
use Rattle.records.specs.declared.record.Record.{Record}
use Rattle.ua_binary.specs.contracts.values.NodeId as node
use Rattle.records.specs.contracts.record.Record as whole

abbrev pub node_code : Coded NodeId
node_code = node.the_row.coded

abbrev pub record_code : Coded Record
record_code = whole.the_row.coded
