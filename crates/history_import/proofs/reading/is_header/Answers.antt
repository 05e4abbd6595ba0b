use Rattle.std.proofs.Common.{◌≡◌, ◌∙◌, sym, ap, length, arith}
use Rattle.csv.specs.Records.{fields_of, field_at}
use Rattle.history_import.proofs.HeaderLemmas.{header-is, isnt-header, names-are}
use Rattle.history_import.proofs.reading.is_header.Goals as goal

pub returns-then-not-has_field : goal.returns-then-not-has_field
returns-then-not-has_field c = (
  λ e. absurd cc,
  λ e. absurd (isnt-header (fields_of c.args.row.now) 0 _ _ names-are.0
      c.has_field.ensures c.if-not-has_field.true e),
)

pub returns-then-not-has_field-2 : goal.returns-then-not-has_field-2
returns-then-not-has_field-2 c = (
  λ e. absurd cc,
  λ e. absurd (isnt-header (fields_of c.args.row.now) 1 _ _ names-are.1
      c.has_field-2.ensures c.if-not-has_field-2.true e),
)

pub returns-then-not-has_field-3 : goal.returns-then-not-has_field-3
returns-then-not-has_field-3 c = (
  λ e. absurd cc,
  λ e. absurd (isnt-header (fields_of c.args.row.now) 2 _ _ names-are.2
      c.has_field-3.ensures c.if-not-has_field-3.true e),
)

pub returns : goal.returns
returns c =
    let fields = fields_of c.args.row.now in
    let long : length fields ≡ 4 = omega arith in (
      λ e. header-is fields long
          (c.has_field.ensures.0 c.if-not-has_field.false ∙ sym names-are.0)
          (c.has_field-2.ensures.0 c.if-not-has_field-2.false ∙ sym names-are.1)
          (c.has_field-3.ensures.0 c.if-not-has_field-3.false ∙ sym names-are.2)
          (c.has_field-4.ensures.0 e ∙ sym names-are.3),
      λ e. c.has_field-4.ensures.1 (ap (λ f. field_at f 3) e ∙ names-are.3),
    )
