use Rattle.std.proofs.Common.{◌≡◌, ◌∙◌, [], ◌∷◌, sym}
use Rattle.std.proofs.lemmas.Bool.{false≢true}
use Rattle.csv.specs.Records.{fields_of}
use Rattle.history_csv.specs.Rows.{value_names}
use Rattle.history_import.proofs.HeaderLemmas.{no-header, no-records}
use Rattle.history_import.proofs.StandingLemmas.{stands-first}
use Rattle.history_import.proofs.reading.read_header.Goals as goal

pub returns-in-Ok-None-clause-reads : goal.returns-in-Ok-None-clause-reads
returns-in-Ok-None-clause-reads g c = λ known stands.
    no-records known (rw c.in-Ok-None.field-0-is at (c.in-Ok-None.ensures.reads known [] stands))

pub returns-clause-reads : goal.returns-clause-reads
returns-clause-reads g c = λ known stands.
    let fields = fields_of c.in-Ok-Some.row in
    let there = rw c.in-Ok-Some.field-0-is at (c.in-Ok-Some.ensures.reads known [] stands) in
    let other : fields ≡ value_names → ⊥ = λ e.
    false≢true (sym c.if-is_header.false ∙ c.is_header.ensures.1 e) in
    no-header known fields other
    (stands-first g.R.Read.remaining c.next_row.new.reader known (fields ∷ []) there)
