use Rattle.std.proofs.Common.{◌∙◌, Ok, Err, refl, ap, subst}
use Rattle.std.specs.Prelude.{Result}
use Rattle.ua_binary.specs.declared.codes.Status.{Status}
use Rattle.ua_services.specs.Attributes.{read_fields}
use Rattle.ua_space.specs.declared.attributes.Answered.{Answered}
use Rattle.ua_space.specs.declared.attributes.Answered.TheVariants.{Value, Archived}
use Rattle.historian.specs.UserSpaces.{seen_by}
use Rattle.historian.specs.Reading.{valued, item_at, item_told, FindsItem}
use Rattle.historian.proofs.ReadingParts.{item_value, telling}
use Rattle.historian.proofs.Values.{found-refused, found-there, item-valued, item-archived, item-told}
use Rattle.historian.proofs.reading.put_item.Goals as goal

pub returns-in-Err : goal.returns-in-Err
returns-in-Err g c =
    let s = g.A.Archive.state c.args.archive.now in
    let space = seen_by c.args.space.now c.args.terms.access in
    let now = c.args.terms.now in
    let stamps = c.args.terms.stamps in
    let item = read_fields c.args.item.now in
    let status = c.in-Err.status in
    let value = item_told stamps now (Err status) in
    let found = subst (λ (r : Result Answered Status). FindsItem space item r) c.in-Err.is
    c.find_item-found.ensures.found in
    let acts = found-refused s now space item status found in (
      acts.0,
      value,
      item-told s s stamps now (telling (item_at space item)) (item_value now space item) acts.0
          (Err status) value refl acts.1,
      c.put_refused.ensures.puts stamps now,
      c.put_refused.ensures.spelled stamps now,
    )

pub returns-in-Value : goal.returns-in-Value
returns-in-Value g c =
    let s = g.A.Archive.state c.args.archive.now in
    let space = seen_by c.args.space.now c.args.terms.access in
    let now = c.args.terms.now in
    let stamps = c.args.terms.stamps in
    let item = read_fields c.args.item.now in
    let answered : Answered = Value c.in-Value.value in
    let given = Ok (valued now item.1.0 c.in-Value.value) in
    let value = item_told stamps now given in
    let found = subst (λ (r : Result Answered Status). FindsItem space item r)
    (c.in-Ok.is ∙ ap Ok c.in-Value.is)
    c.find_item-found.ensures.found in
    let there = found-there space item answered found in
    let acts = item-valued s now space item answered given there.0 there.1 (λ R. refl) in (
      acts.0,
      value,
      item-told s s stamps now (telling (item_at space item)) (item_value now space item) acts.0
          given value refl acts.1,
      c.put_valued.ensures.puts,
      c.put_valued.ensures.spelled,
    )

pub returns : goal.returns
returns g c =
    let a = g.A.Archive.state c.args.archive.now in
    let b = g.A.Archive.state c.put_archived.new.archive in
    let space = seen_by c.args.space.now c.args.terms.access in
    let now = c.args.terms.now in
    let stamps = c.args.terms.stamps in
    let item = read_fields c.args.item.now in
    let (mark, given, acts, puts, spelled) = c.put_archived.ensures in
    let value = item_told stamps now given in
    let found = subst (λ (r : Result Answered Status). FindsItem space item r)
    (c.in-Ok.is ∙ ap Ok c.in-Archived.is)
    c.find_item-found.ensures.found in
    let there = found-there space item Archived found in (
      mark,
      value,
      item-told a b stamps now (telling (item_at space item)) (item_value now space item) mark
          given value refl (item-archived a b now space item mark given there.0 there.1 acts),
      puts,
      spelled,
    )
