use Rattle.std.proofs.Common.{◌∙◌, sym, subst}
use Rattle.sqlite.specs.Held.{state}
use Rattle.sql_schema.specs.Tables.{HasMeta}
use Rattle.sql_opening.specs.Opening.{IsBegunIn}
use Rattle.sql_schema.proofs.StandingLemmas.{archive_as, archive_has_meta, beside_has_meta, first_has_meta}
use Rattle.sql_archive.proofs.StartLemmas.{any_err, err_then, widened, started_new, started_old, refused_by, opened_quiet, left_quiet, opened_new, left_new, started_renewed, opened_renewed, left_renewed, started_cleared, opened_cleared, left_cleared}
use Rattle.sql_archive.proofs.starting.start.Goals as goal

pub returns-in-Ok-Empty-clause-started : goal.returns-in-Ok-Empty-clause-started
returns-in-Ok-Empty-clause-started g c =
    started_new g.S.Store (state g.S.Store c.args.conn) c.args.id c.args.number c.make.result
    (sym c.schema.ensures.value ∙ c.in-Ok-Empty.ensures.empty.0 c.in-Ok-Empty.field-0-is)
    c.make.ensures.made

pub returns-in-Ok-Empty-clause-wrong : goal.returns-in-Ok-Empty-clause-wrong
returns-in-Ok-Empty-clause-wrong g c =
    err_then c.make.result _ _ (λ e none clean of. absurd (none clean of)) c.make.ensures.wrong

pub returns-in-Ok-Archive-clause-started : goal.returns-in-Ok-Archive-clause-started
returns-in-Ok-Archive-clause-started g c =
    started_old g.S.Store (state g.S.Store c.args.conn) c.args.id c.args.number c.over.result
    (archive_as (sym c.schema.ensures.value)
    (c.in-Ok-Archive.ensures.archive.0 c.in-Ok-Archive.field-0-is)) c.over.ensures.stored
    c.over.ensures.kept c.over.ensures.same

pub returns-in-Ok-Archive-clause-wrong : goal.returns-in-Ok-Archive-clause-wrong
returns-in-Ok-Archive-clause-wrong g c =
    refused_by g.S.Store (state g.S.Store c.args.conn) c.args.id c.args.number c.over.result
    (archive_has_meta _ (archive_as (sym c.schema.ensures.value)
    (c.in-Ok-Archive.ensures.archive.0 c.in-Ok-Archive.field-0-is))) c.over.ensures.wrong

pub returns-in-Ok-Archive-clause-opened : goal.returns-in-Ok-Archive-clause-opened
returns-in-Ok-Archive-clause-opened g c =
    opened_quiet g.S.Store (state g.S.Store c.args.conn)
    (IsBegunIn c.args.id c.args.number (state g.S.Store c.args.conn).now) c.over.result
    c.over.ensures.opened

pub returns-in-Ok-Archive-clause-left : goal.returns-in-Ok-Archive-clause-left
returns-in-Ok-Archive-clause-left g c =
    left_quiet g.S.Store (state g.S.Store c.args.conn)
    (IsBegunIn c.args.id c.args.number (state g.S.Store c.args.conn).now) c.over.result
    c.over.ensures.left

pub returns-in-Ok-Empty-clause-opened : goal.returns-in-Ok-Empty-clause-opened
returns-in-Ok-Empty-clause-opened g c =
    opened_new g.S.Store (state g.S.Store c.args.conn) c.args.id c.args.number c.make.result
    (sym c.schema.ensures.value ∙ c.in-Ok-Empty.ensures.empty.0 c.in-Ok-Empty.field-0-is)
    c.make.ensures.opened

pub returns-in-Ok-Empty-clause-left : goal.returns-in-Ok-Empty-clause-left
returns-in-Ok-Empty-clause-left g c =
    left_new g.S.Store (state g.S.Store c.args.conn) c.args.id c.args.number c.make.result
    (sym c.schema.ensures.value ∙ c.in-Ok-Empty.ensures.empty.0 c.in-Ok-Empty.field-0-is)
    c.make.ensures.left

pub take_over_first-requires-clause-rests : goal.take_over_first-requires-clause-rests
take_over_first-requires-clause-rests g c clean = let o = c.requires.open clean in
    record { is_open = o.is_open; autocommit = o.autocommit; settled = sym o.clean }

pub returns-in-Ok-First-clause-started : goal.returns-in-Ok-First-clause-started
returns-in-Ok-First-clause-started g c =
    started_renewed g.S.Store (state g.S.Store c.args.conn) c.args.id c.args.number
    c.take_over_first.result c.take_over_first.ensures.renewed

pub returns-in-Ok-First-clause-wrong : goal.returns-in-Ok-First-clause-wrong
returns-in-Ok-First-clause-wrong g c =
    refused_by g.S.Store (state g.S.Store c.args.conn) c.args.id c.args.number
    c.take_over_first.result (first_has_meta _
    (sym c.schema.ensures.value ∙ c.in-Ok-First.ensures.first.0 c.in-Ok-First.field-0-is))
    c.take_over_first.ensures.wrong

pub returns-in-Ok-First-clause-opened : goal.returns-in-Ok-First-clause-opened
returns-in-Ok-First-clause-opened g c =
    opened_renewed g.S.Store (state g.S.Store c.args.conn) c.args.id c.args.number
    c.take_over_first.result c.take_over_first.ensures.opened

pub returns-in-Ok-First-clause-left : goal.returns-in-Ok-First-clause-left
returns-in-Ok-First-clause-left g c =
    left_renewed g.S.Store (state g.S.Store c.args.conn) c.args.id c.args.number
    c.take_over_first.result c.take_over_first.ensures.left

pub returns-in-Ok-Begun-clause-wrong : goal.returns-in-Ok-Begun-clause-wrong
returns-in-Ok-Begun-clause-wrong g c clean of =
    record {
      schema = subst HasMeta c.schema.ensures.value
          (c.in-Ok-Begun.ensures.begun c.in-Ok-Begun.field-0-is);
      judged =
          c.refusal_by_meta-fault.ensures.wrong clean of;
    }

pub returns-in-Ok-Begun-clause-left : goal.returns-in-Ok-Begun-clause-left
returns-in-Ok-Begun-clause-left g c =
    widened (state g.S.Store c.args.conn) (state g.S.Store c.refusal_by_meta-fault.new.conn)
    (IsBegunIn c.args.id c.args.number (state g.S.Store c.args.conn).now)
    c.refusal_by_meta-fault.ensures.crash

pub take_out_empty-requires-clause-rests : goal.take_out_empty-requires-clause-rests
take_out_empty-requires-clause-rests g c clean = let o = c.requires.open clean in
    record { is_open = o.is_open; autocommit = o.autocommit; settled = sym o.clean }

pub returns-in-Ok-Beside-clause-started : goal.returns-in-Ok-Beside-clause-started
returns-in-Ok-Beside-clause-started g c =
    started_cleared g.S.Store (state g.S.Store c.args.conn) c.args.id c.args.number
    c.take_out_empty.result c.take_out_empty.ensures.cleared c.take_out_empty.ensures.stored
    c.take_out_empty.ensures.kept

pub returns-in-Ok-Beside-clause-wrong : goal.returns-in-Ok-Beside-clause-wrong
returns-in-Ok-Beside-clause-wrong g c =
    refused_by g.S.Store (state g.S.Store c.args.conn) c.args.id c.args.number
    c.take_out_empty.result (beside_has_meta _
    (sym c.schema.ensures.value ∙ c.in-Ok-Beside.ensures.beside.0 c.in-Ok-Beside.field-0-is))
    c.take_out_empty.ensures.wrong

pub returns-in-Ok-Beside-clause-opened : goal.returns-in-Ok-Beside-clause-opened
returns-in-Ok-Beside-clause-opened g c =
    opened_cleared g.S.Store (state g.S.Store c.args.conn) c.args.id c.args.number
    c.take_out_empty.result c.take_out_empty.ensures.opened

pub returns-in-Ok-Beside-clause-left : goal.returns-in-Ok-Beside-clause-left
returns-in-Ok-Beside-clause-left g c =
    left_cleared g.S.Store (state g.S.Store c.args.conn) c.args.id c.args.number
    c.take_out_empty.result c.take_out_empty.ensures.left

pub returns-in-Ok-Empty-clause-refused : goal.returns-in-Ok-Empty-clause-refused
returns-in-Ok-Empty-clause-refused g c =
    any_err c.make.result _ (λ e clean is has. absurd (let other = sym c.in-Ok-Empty.field-0-is
    ∙ c.in-Ok-Empty.ensures.archive.1 (archive_as c.schema.ensures.value has) in cc))

pub returns-in-Ok-Beside-clause-refused : goal.returns-in-Ok-Beside-clause-refused
returns-in-Ok-Beside-clause-refused g c =
    any_err c.take_out_empty.result _ (λ e clean is has.
    absurd (let other = sym c.in-Ok-Beside.field-0-is
    ∙ c.in-Ok-Beside.ensures.archive.1 (archive_as c.schema.ensures.value has) in cc))

pub returns-in-Ok-First-clause-refused : goal.returns-in-Ok-First-clause-refused
returns-in-Ok-First-clause-refused g c =
    any_err c.take_over_first.result _ (λ e clean is has.
    absurd (let other = sym c.in-Ok-First.field-0-is
    ∙ c.in-Ok-First.ensures.archive.1 (archive_as c.schema.ensures.value has) in cc))

pub returns-in-Ok-Begun-clause-refused : goal.returns-in-Ok-Begun-clause-refused
returns-in-Ok-Begun-clause-refused g c clean is has =
    absurd (let other = sym c.in-Ok-Begun.field-0-is
    ∙ c.in-Ok-Begun.ensures.archive.1 (archive_as c.schema.ensures.value has) in cc)

pub returns-in-Ok-Foreign-clause-refused : goal.returns-in-Ok-Foreign-clause-refused
returns-in-Ok-Foreign-clause-refused g c clean is has =
    absurd (let other = sym c.in-Ok-Foreign.field-0-is
    ∙ c.in-Ok-Foreign.ensures.archive.1 (archive_as c.schema.ensures.value has) in cc)

pub returns-in-Ok-Archive-clause-refused : goal.returns-in-Ok-Archive-clause-refused
returns-in-Ok-Archive-clause-refused g c =
    err_then c.over.result _ _ (λ e h clean is has. h clean is) c.over.ensures.refused
