use Rattle.std.proofs.Common.{◌∙◌, sym}
use Rattle.csv.specs.Records.{fields_of}
use Rattle.history_import.proofs.RowLemmas.{first-of-four}
use Rattle.history_import.proofs.rows.node_field.Goals as goal

pub returns : goal.returns
returns c =
    c.get.ensures.value
    ∙ first-of-four (fields_of c.args.row.now) (sym c.len.ensures ∙ c.if-len-ne4.false)
