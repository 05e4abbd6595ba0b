use Rattle.std.proofs.Common.{◌≡◌, ◌∙◌, ◌<◌, inr, ℕ, List, map, length, vec_len, arith, Ok, Err, Some, None, refl, sym, ap, subst}
use Rattle.std.specs.Prelude.{Option, Result}
use Rattle.std.specs.List.{AllByRecursion}
use Rattle.std.proofs.lemmas.List.{length-map}
use Rattle.std.proofs.lemmas.Result.{err_from_is_err_and}
use Rattle.ua_binary.specs.Binary.{array}
use Rattle.ua_binary.specs.declared.codes.Status.{Status}
use Rattle.ua_binary.specs.declared.codes.TheConstants.Status.{GOOD, BAD_TIMESTAMPS_TO_RETURN_INVALID, BAD_RESPONSE_TOO_LARGE}
use Rattle.ua_binary.specs.declared.values.Ticks.{Ticks}
use Rattle.ua_variant.specs.DataValue.{data_value}
use Rattle.ua_variant.specs.declared.data.DataValue.{DataValue}
use Rattle.ua_services.specs.Attributes.{ReadFields, read_fields, read_asked, read_response}
use Rattle.ua_services.specs.declared.attributes.ReadRequest.{ReadRequest}
use Rattle.ua_services.specs.declared.attributes.ReadValueId.{ReadValueId}
use Rattle.ua_services.specs.declared.attributes.TimestampsToReturn.{TimestampsToReturn}
use Rattle.ua_space.specs.declared.layout.Layout.{Layout}
use Rattle.records.specs.Contents.{Content}
use Rattle.archive.specs.Store.{StepResult}
use Rattle.archive.specs.Steps.{Refines, each}
use Rattle.historian.specs.Answers.{Values, head, response, longest_response}
use Rattle.hist_update.specs.Codes.{list_refusal}
use Rattle.historian.specs.Reading.{unless_refused, answer_items, read_item, read}
use Rattle.historian.specs.UserSpaces.{UserSpace, seen_by}
use Rattle.historian.proofs.Items.{few_taken}
use Rattle.historian.proofs.ReadingParts.{read_by}
use Rattle.historian.proofs.Streaming.{bytes_of, is-whole, is-too-large, writes-all, starved, written-refused, written-wanting, written-items}
use Rattle.historian.proofs.reading.put_read.Goals as goal

-- a Read that isn't refused asks for items
asked_items : (space : UserSpace) (now : Ticks) (timestamps : Option TimestampsToReturn)
    (stamps : TimestampsToReturn) (nodes : List ReadFields)
    → list_refusal 1000 (length nodes) ≡ None → timestamps ≡ Some stamps
    → (R : Content) (marks : List StepResult)
    → read space now (timestamps, nodes) R marks
    ≡ answer_items Values (read_item space now stamps) nodes R marks
asked_items space now timestamps stamps nodes taken is R marks =
    ap (λ (o : Option Status). unless_refused o R (read_by space now timestamps nodes R) marks)
    taken
    ∙ ap (λ (o : Option TimestampsToReturn). read_by space now o nodes R marks) is

-- the count of items is that of what they ask
asked_count : (asked : ReadRequest) (n : ℕ) → n ≡ vec_len asked.nodes
    → length (map read_fields asked.nodes.items) ≡ n
asked_count asked n is =
    length-map asked.nodes.items read_fields ∙ omega (arith, is, asked.nodes.ok)

-- the bytes of the response
same : (now : Ticks) (handle : ℕ) (values : List DataValue)
    → bytes_of data_value (head 634 now handle GOOD) values
    ≡ response now handle (Ok (Values values))
unfolding read_response array
same now handle values = refl

-- they are few, so there is a spelling of all
few_spelled : (nodes : List ReadFields) (values : List DataValue)
    → list_refusal 1000 (length nodes) ≡ None → length values ≡ length nodes
    → AllByRecursion data_value.Fits values → read_response.Fits values
unfolding read_response
few_spelled nodes values taken count spelled = let few = few_taken 1000 (length nodes) taken in
    (omega (arith, few, count), spelled)

pub returns-in-Some-clause-comes : goal.returns-in-Some-clause-comes
returns-in-Some-clause-comes g c =
    let s = g.A.Archive.state c.args.server.now.replica.archive in
    let asked = c.args.asked.now in
    let nodes = map read_fields asked.nodes.items in
    let space = seen_by c.args.server.now.settings.space c.args.access in
    let refused : list_refusal 1000 (length nodes) ≡ Some c.in-Some.status =
    ap (list_refusal 1000) (asked_count asked c.len.result c.len.ensures)
    ∙ sym c.list_refusal.ensures ∙ c.in-Some.is in
    written-refused s (read space c.args.context.now (read_asked asked)) c.in-Some.status
    c.args.context.now c.args.context.handle c.args.body.now.items
    (λ R marks. ap (λ (o : Option Status).
    unless_refused o R (read_by space c.args.context.now asked.timestamps nodes R) marks) refused)

pub returns-in_default-timestamps-clause-comes : goal.returns-in_default-timestamps-clause-comes
returns-in_default-timestamps-clause-comes g c =
    let s = g.A.Archive.state c.args.server.now.replica.archive in
    let asked = c.args.asked.now in
    let nodes = map read_fields asked.nodes.items in
    let space = seen_by c.args.server.now.settings.space c.args.access in
    let taken : list_refusal 1000 (length nodes) ≡ None =
    ap (list_refusal 1000) (asked_count asked c.len.result c.len.ensures)
    ∙ sym c.list_refusal.ensures ∙ c.in_default.is in
    written-refused s (read space c.args.context.now (read_asked asked))
    BAD_TIMESTAMPS_TO_RETURN_INVALID c.args.context.now c.args.context.handle c.args.body.now.items
    (λ R marks.
    ap (λ (o : Option Status). unless_refused o R
    (read_by space c.args.context.now asked.timestamps nodes R) marks) taken
    ∙ ap (λ (o : Option TimestampsToReturn).
    read_by space c.args.context.now o nodes R marks) c.in_default-timestamps.is)

pub returns-in_err-put_head-clause-comes : goal.returns-in_err-put_head-clause-comes
returns-in_err-put_head-clause-comes g c =
    let s = g.A.Archive.state c.args.server.now.replica.archive in
    let asked = c.args.asked.now in
    let nodes = map read_fields asked.nodes.items in
    let stamps = c.in-Some-timestamps.stamps in
    let space = seen_by c.args.server.now.settings.space c.args.access in
    let taken : list_refusal 1000 (length nodes) ≡ None =
    ap (list_refusal 1000) (asked_count asked c.len.result c.len.ensures)
    ∙ sym c.list_refusal.ensures ∙ c.in_default.is in
    let p = err_from_is_err_and c.from_residual.result c.from_residual.ensures.1 in
    written-wanting s (read space c.args.context.now (read_asked asked)) Values
    (read_item space c.args.context.now stamps) nodes c.args.context.now c.args.context.handle c.from_residual.result p.0
    c.in_err-put_head.field-0.0 c.put_head.new.out.items
    (asked_items space c.args.context.now asked.timestamps stamps nodes taken c.in-Some-timestamps.is)
    p.1 p.2 c.in_err-put_head.ensures.err

pub returns-in_err-put_count-clause-comes : goal.returns-in_err-put_count-clause-comes
returns-in_err-put_count-clause-comes g c =
    let s = g.A.Archive.state c.args.server.now.replica.archive in
    let asked = c.args.asked.now in
    let nodes = map read_fields asked.nodes.items in
    let stamps = c.in-Some-timestamps.stamps in
    let space = seen_by c.args.server.now.settings.space c.args.access in
    let taken : list_refusal 1000 (length nodes) ≡ None =
    ap (list_refusal 1000) (asked_count asked c.len.result c.len.ensures)
    ∙ sym c.list_refusal.ensures ∙ c.in_default.is in
    let p = err_from_is_err_and c.from_residual-in_err-put_count.result c.from_residual-in_err-put_count.ensures.1 in
    written-wanting s (read space c.args.context.now (read_asked asked)) Values
    (read_item space c.args.context.now stamps) nodes c.args.context.now c.args.context.handle c.from_residual-in_err-put_count.result p.0
    c.in_err-put_count.field-0.0 c.put_count.new.out.items
    (asked_items space c.args.context.now asked.timestamps stamps nodes taken c.in-Some-timestamps.is)
    p.1 p.2 c.in_err-put_count.ensures.0

pub returns-in_err-put_items-clause-comes : goal.returns-in_err-put_items-clause-comes
returns-in_err-put_items-clause-comes g c =
    let a = g.A.Archive.state c.args.server.now.replica.archive in
    let b = g.A.Archive.state c.put_items.new.archive in
    let asked = c.args.asked.now in
    let nodes = map read_fields asked.nodes.items in
    let stamps = c.in-Some-timestamps.stamps in
    let now = c.args.context.now in
    let handle = c.args.context.handle in
    let taken : list_refusal 1000 (length nodes) ≡ None =
    ap (list_refusal 1000) (asked_count asked c.len.result c.len.ensures)
    ∙ sym c.list_refusal.ensures ∙ c.in_default.is in
    let (used, values, count, all, shown) = c.put_items.ensures.told in
    let space = seen_by c.args.server.now.settings.space c.args.access in
    let counted : length values ≡ c.len-2.result = omega (
      arith,
      count,
      ap length c.deref.ensures.value,
      c.len-2.ensures,
      asked.nodes.ok,
    ) in
    let P : Layout → List ReadValueId → Type 0 = λ layout items. (used : List StepResult)
    × Refines a b used (each (read_item (seen_by layout c.args.access) now stamps)
    (map read_fields items)) values in
    written-items a b (read space now (read_asked asked)) Values
    (read_item space now stamps) nodes values now handle c.from_residual-in_err-put_items.result
    c.put_items.new.out.items
    (asked_items space now asked.timestamps stamps nodes taken c.in-Some-timestamps.is)
    (subst (λ s. P s asked.nodes.items) c.space.ensures
    (subst (P c.space.result.now) c.deref.ensures.value (used, all)))
    (let p = err_from_is_err_and c.from_residual-in_err-put_items.result c.from_residual-in_err-put_items.ensures.1 in
    starved now handle (Ok (Values values)) c.from_residual-in_err-put_items.result p.0 c.in_err-put_items.field-0.0
    c.put_items.new.out.items p.1 p.2 c.in_err-put_items.ensures.err)

pub returns-then-len-gt-LONGEST_RESPONSE-clause-comes : goal.returns-then-len-gt-LONGEST_RESPONSE-clause-comes
returns-then-len-gt-LONGEST_RESPONSE-clause-comes g c =
    let a = g.A.Archive.state c.args.server.now.replica.archive in
    let b = g.A.Archive.state c.put_items.new.archive in
    let asked = c.args.asked.now in
    let nodes = map read_fields asked.nodes.items in
    let stamps = c.in-Some-timestamps.stamps in
    let now = c.args.context.now in
    let handle = c.args.context.handle in
    let taken : list_refusal 1000 (length nodes) ≡ None =
    ap (list_refusal 1000) (asked_count asked c.len.result c.len.ensures)
    ∙ sym c.list_refusal.ensures ∙ c.in_default.is in
    let (used, values, count, all, shown) = c.in_ok-put_items.ensures.told in
    let space = seen_by c.args.server.now.settings.space c.args.access in
    let counted : length values ≡ c.len-2.result = omega (
      arith,
      count,
      ap length c.deref.ensures.value,
      c.len-2.ensures,
      asked.nodes.ok,
    ) in
    let P : Layout → List ReadValueId → Type 0 = λ layout items. (used : List StepResult)
    × Refines a b used (each (read_item (seen_by layout c.args.access) now stamps)
    (map read_fields items)) values in
    written-items a b (read space now (read_asked asked)) Values
    (read_item space now stamps) nodes values now handle (Err BAD_RESPONSE_TOO_LARGE)
    c.put_items.new.out.items
    (asked_items space now asked.timestamps stamps nodes taken c.in-Some-timestamps.is)
    (subst (λ s. P s asked.nodes.items) c.space.ensures
    (subst (P c.space.result.now) c.deref.ensures.value (used, all)))
    (inr (inr (
      refl,
      subst (λ (bytes : List ℕ). longest_response < length bytes) (same now handle values)
          (is-too-large data_value (head 634 now handle GOOD) values c.len-2.result
          c.args.body.now.items c.put_head.new.out.items c.put_count.new.out.items
          c.put_items.new.out.items c.requires c.in_ok-put_head.ensures.ok
          c.in_ok-put_count.ensures counted
          (omega (
            arith,
            c.if-len-gt-LONGEST_RESPONSE.true,
            c.len-3.ensures,
            c.put_items.new.out.ok,
          )) shown),
    )))

pub returns-in_err-put_i32-clause-comes : goal.returns-in_err-put_i32-clause-comes
returns-in_err-put_i32-clause-comes g c =
    let a = g.A.Archive.state c.args.server.now.replica.archive in
    let b = g.A.Archive.state c.put_items.new.archive in
    let asked = c.args.asked.now in
    let nodes = map read_fields asked.nodes.items in
    let stamps = c.in-Some-timestamps.stamps in
    let now = c.args.context.now in
    let handle = c.args.context.handle in
    let taken : list_refusal 1000 (length nodes) ≡ None =
    ap (list_refusal 1000) (asked_count asked c.len.result c.len.ensures)
    ∙ sym c.list_refusal.ensures ∙ c.in_default.is in
    let (used, values, count, all, shown) = c.in_ok-put_items.ensures.told in
    let space = seen_by c.args.server.now.settings.space c.args.access in
    let counted : length values ≡ c.len-2.result = omega (
      arith,
      count,
      ap length c.deref.ensures.value,
      c.len-2.ensures,
      asked.nodes.ok,
    ) in
    let P : Layout → List ReadValueId → Type 0 = λ layout items. (used : List StepResult)
    × Refines a b used (each (read_item (seen_by layout c.args.access) now stamps)
    (map read_fields items)) values in
    written-items a b (read space now (read_asked asked)) Values
    (read_item space now stamps) nodes values now handle c.from_residual-in_err-put_i32.result
    c.put_i32.new.out.items
    (asked_items space now asked.timestamps stamps nodes taken c.in-Some-timestamps.is)
    (subst (λ s. P s asked.nodes.items) c.space.ensures
    (subst (P c.space.result.now) c.deref.ensures.value (used, all)))
    (let p = err_from_is_err_and c.from_residual-in_err-put_i32.result c.from_residual-in_err-put_i32.ensures.1 in
    starved now handle (Ok (Values values)) c.from_residual-in_err-put_i32.result p.0 c.in_err-put_i32.field-0.0
    c.put_i32.new.out.items p.1 p.2 c.in_err-put_i32.ensures.0)

pub returns-clause-comes : goal.returns-clause-comes
returns-clause-comes g c =
    let a = g.A.Archive.state c.args.server.now.replica.archive in
    let b = g.A.Archive.state c.put_items.new.archive in
    let asked = c.args.asked.now in
    let nodes = map read_fields asked.nodes.items in
    let stamps = c.in-Some-timestamps.stamps in
    let now = c.args.context.now in
    let handle = c.args.context.handle in
    let taken : list_refusal 1000 (length nodes) ≡ None =
    ap (list_refusal 1000) (asked_count asked c.len.result c.len.ensures)
    ∙ sym c.list_refusal.ensures ∙ c.in_default.is in
    let (used, values, count, all, shown) = c.in_ok-put_items.ensures.told in
    let space = seen_by c.args.server.now.settings.space c.args.access in
    let counted : length values ≡ c.len-2.result = omega (
      arith,
      count,
      ap length c.deref.ensures.value,
      c.len-2.ensures,
      asked.nodes.ok,
    ) in
    let P : Layout → List ReadValueId → Type 0 = λ layout items. (used : List StepResult)
    × Refines a b used (each (read_item (seen_by layout c.args.access) now stamps)
    (map read_fields items)) values in
    written-items a b (read space now (read_asked asked)) Values
    (read_item space now stamps) nodes values now handle (Ok tt)
    c.put_i32.new.out.items
    (asked_items space now asked.timestamps stamps nodes taken c.in-Some-timestamps.is)
    (subst (λ s. P s asked.nodes.items) c.space.ensures
    (subst (P c.space.result.now) c.deref.ensures.value (used, all)))
    (let whole = is-whole data_value values c.put_count.new.out.items c.put_items.new.out.items
    (omega (
      arith,
      c.if-len-gt-LONGEST_RESPONSE.false,
      c.len-3.ensures,
      c.put_items.new.out.ok,
    )) shown in (
      writes-all data_value (head 634 now handle GOOD) values c.len-2.result
          c.args.body.now.items c.put_head.new.out.items c.put_count.new.out.items
          c.put_items.new.out.items c.put_i32.new.out.items c.requires
          c.in_ok-put_head.ensures.ok c.in_ok-put_count.ensures whole.0 c.in_ok-put_i32.ensures
          counted
          ∙ same now handle values,
      few_spelled nodes values taken
          (counted ∙ sym (asked_count asked c.len-2.result c.len-2.ensures)) whole.1,
    ))
