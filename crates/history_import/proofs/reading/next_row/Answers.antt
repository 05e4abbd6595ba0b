use Rattle.std.proofs.Common.{Bool, subst}
use Rattle.csv.specs.Reading.{ReadRecord}
use Rattle.csv.specs.Records.{fields_of}
use Rattle.history_import.proofs.StandingLemmas.{stands-more}
use Rattle.history_import.proofs.reading.next_row.Goals as goal

pub returns-in-Ok-true-clause-reads : goal.returns-in-Ok-true-clause-reads
returns-in-Ok-true-clause-reads g c = λ known rows stands.
    let rem = g.R.Read.remaining in
    let old = c.args.reader.now in
    let new = c.read_byte_record.new.self in
    let fields = fields_of c.read_byte_record.new.row in
    let read = c.in-Ok-true.ensures in
    stands-more rem old new known rows fields stands
    (subst (λ (b : Bool). ReadRecord rem old new b fields) c.in-Ok-true.field-0-test
    (read.reads stands.0.3 stands.0.0)) (read.ready stands.0.3) read.goes read.flexible
