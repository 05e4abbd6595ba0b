use Rattle.std.proofs.Common.{◌≡◌, length, sym, arith}
use Rattle.csv.specs.Records.{fields_of}
use Rattle.history_csv.proofs.RowsLemmas.{is_there, four_are}
use Rattle.history_csv.proofs.rows.four.Goals as goal

pub returns-in_default : goal.returns-in_default
returns-in_default c long =
    is_there (fields_of c.args.line.now) 0 (omega arith) (sym c.in_default.ensures.value)

pub returns-in_default-get : goal.returns-in_default-get
returns-in_default-get c long =
    is_there (fields_of c.args.line.now) 1 (omega arith) (sym c.in_default-get.ensures.value)

pub returns-in_default-get-2 : goal.returns-in_default-get-2
returns-in_default-get-2 c long =
    is_there (fields_of c.args.line.now) 2 (omega arith) (sym c.in_default-get-2.ensures.value)

pub returns-in_default-get-3 : goal.returns-in_default-get-3
returns-in_default-get-3 c long =
    is_there (fields_of c.args.line.now) 3 (omega arith) (sym c.in_default-get-3.ensures.value)

pub returns : goal.returns
returns c =
    let long : length (fields_of c.args.line.now) ≡ 4 = omega arith in
    four_are (fields_of c.args.line.now) _ _ _ _ long (sym c.in-Some.ensures.value)
    (sym c.in-Some-get.ensures.value) (sym c.in-Some-get-2.ensures.value)
    (sym c.in-Some-get-3.ensures.value)
