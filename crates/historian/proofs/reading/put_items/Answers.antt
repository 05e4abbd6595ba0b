use Rattle.std.proofs.Common.{◌≡◌, ◌∙◌, ◌+◌, ◌≤◌, ◌<◌, ◌∷◌, ◌++◌, [], ℕ, List, get_or, length, map, take, Ok, Err, refl, sym, ap, subst, append-nil, arith, inl}
use Rattle.std.specs.Prelude.{Result, OnOk, IfOk, IfErr}
use Rattle.std.proofs.lemmas.List.{length-append, take_all}
use Rattle.ua_binary.specs.declared.codes.Status.{Status}
use Rattle.ua_binary.specs.declared.codes.TheConstants.Status.{BAD_OUT_OF_MEMORY}
use Rattle.ua_binary.specs.declared.fault.BinaryFault.TheVariants.{OutOfMemory}
use Rattle.ua_binary.specs.declared.values.Ticks.{Ticks}
use Rattle.ua_variant.specs.DataValue.{data_value, IsDataValue}
use Rattle.ua_variant.specs.declared.data.DataValue.{DataValue}
use Rattle.ua_services.specs.declared.attributes.ReadValueId.{ReadValueId}
use Rattle.ua_services.specs.declared.attributes.TimestampsToReturn.{TimestampsToReturn}
use Rattle.ua_services.specs.Attributes.{ReadFields, read_fields}
use Rattle.ua_space.specs.declared.attributes.Answered.{Answered}
use Rattle.ua_space.specs.declared.attributes.Answered.TheVariants.{Value, Archived}
use Rattle.records.specs.Contents.{Content}
use Rattle.archive.specs.Store.{StepResult, NoMemory}
use Rattle.archive.specs.Steps.{Refines, each, and_then, give}
use Rattle.historian.specs.Answers.{longest_response}
use Rattle.historian.specs.Reading.{read_item, item_at, item_told, unless_met, value_of_item}
use Rattle.historian.specs.Telling.{Appends}
use Rattle.historian.specs.UserSpaces.{UserSpace, seen_by}
use Rattle.historian.proofs.Items.{each-next, acts-none, acts-starved}
use Rattle.historian.proofs.ReadingParts.{telling}
use Rattle.historian.proofs.Streaming.{Put, puts-more, still-starved, skips, some_of}
use Rattle.historian.proofs.reading.put_items.Goals as goal
use Rattle.historian.proofs.reading.put_items.Goals.{then-len-le-LONGEST_RESPONSE, else-len-le-LONGEST_RESPONSE}

-- an item that isn't read is told as one for which memory is wanting
unread : (seen : UserSpace) (now : Ticks) (stamps : TimestampsToReturn) (item : ReadFields)
    (R : Content) (later : List StepResult)
    → read_item seen now stamps item R (NoMemory ∷ later)
    ≡ ((item_told stamps now (Err BAD_OUT_OF_MEMORY), R), later)
unread seen now stamps item R later = by (item_at seen item) (value_of_item seen now item R)
  where
    by : (answered : Result Answered Status) (value : Result DataValue Status)
        → and_then {B = DataValue × Content} (telling answered)
        (λ reason. give (item_told stamps now (unless_met reason value), R)) (NoMemory ∷ later)
        ≡ ((item_told stamps now (Err BAD_OUT_OF_MEMORY), R), later)
    by (Ok Archived) value = refl
    by (Ok (Value v)) value = refl
    by (Err status) value = refl

spelled : (one : Put) (value : DataValue) → IfOk one (λ _. IsDataValue value)
    → IfOk one (λ _. data_value.Fits value)
unfolding data_value
spelled (Ok _) value is = is
spelled (Err fault) value is = tt

pub loop-item-init : goal.loop-item-init
loop-item-init g c =
    let a = g.A.Archive.state c.args.archive.now in
    let none = acts-none a (each (read_item (seen_by c.args.space.now c.args.terms.access)
    c.args.terms.now c.args.terms.stamps) []) [] (λ R marks. refl) in
    record {
      told = (none.0, [], refl, none.1, inl (sym (append-nil c.args.out.now.items), tt));
      err = tt;
    }

pub loop-item-preserved : goal.loop-item-preserved
loop-item-preserved g c =
    let a = g.A.Archive.state c.args.archive.now in
    let b = g.A.Archive.state c.loop-item.archive in
    let old = c.args.out.now.items in
    let seen = seen_by c.args.space.now c.args.terms.access in
    let now = c.args.terms.now in
    let stamps = c.args.terms.stamps in
    let (used, values, count, acts, shown) = c.loop-item.invariant.told in
    elim c.if-len-le-LONGEST_RESPONSE.branch [
      | then-len-le-LONGEST_RESPONSE w ↦
          let e = g.A.Archive.state w.put_item-one.new.archive in
          let (mark, value, act, puts, is) = w.put_item-one.ensures in
          let more = values ++ (value ∷ []) in
          let all = each-next a b e read_fields (read_item seen now stamps) c.args.items.now
          c.loop-item.item-index _ _ values more value (used, acts)
          (mark ∷ [], act) c.loop-item-test.true refl refl in
          let few : length c.loop-item.out.items ≤ longest_response = omega (
            arith,
            w.if-len-le-LONGEST_RESPONSE.true,
            c.len.ensures,
            c.loop-item.out.ok,
          ) in
          let both : Put → Type 0 = λ put.
          OnOk put (Appends data_value more old w.put_item-one.new.out.items) in
          rw (w.archive-is, w.out-is, w.put-is) (record {
            told = (
              all.0,
              more,
              length-append values (value ∷ []) ∙ ap (λ n. n + 1) count,
              all.1,
              subst both (sym w.and-put.ensures)
                  (puts-more data_value c.loop-item.put w.put_item-one.result old
                  c.loop-item.out.items w.put_item-one.new.out.items values value few shown puts
                  (spelled w.put_item-one.result value is)),
            );
            err = subst (λ (put : Put). IfErr put (λ fault. fault ≡ OutOfMemory))
                (sym w.and-put.ensures)
                (still-starved c.loop-item.put w.put_item-one.result c.loop-item.out.items
                w.put_item-one.new.out.items (data_value.canon value) c.loop-item.invariant.err
                puts);
          })
      | else-len-le-LONGEST_RESPONSE w ↦
          let value = item_told stamps now (Err BAD_OUT_OF_MEMORY) in
          let more = values ++ (value ∷ []) in
          let items = c.args.items.now in
          let other = some_of items c.loop-item.item-index c.loop-item-test.true in
          let item = get_or items c.loop-item.item-index other in
          let act = acts-starved b (read_item seen now stamps (read_fields item)) value
          (unread seen now stamps (read_fields item)) in
          let all = each-next a b b read_fields (read_item seen now stamps) items
          c.loop-item.item-index other item values more value (used, acts)
          act c.loop-item-test.true refl refl in
          let many : longest_response < length c.loop-item.out.items = omega (
            arith,
            w.if-len-le-LONGEST_RESPONSE.false,
            c.len.ensures,
            c.loop-item.out.ok,
          ) in
          rw (w.archive-is, w.out-is, w.put-is) (record {
            told = (
              all.0,
              more,
              length-append values (value ∷ []) ∙ ap (λ n. n + 1) count,
              all.1,
              skips data_value c.loop-item.put old c.loop-item.out.items values value many shown,
            );
            err = c.loop-item.invariant.err;
          })
    ]

pub returns-clause-told : goal.returns-clause-told
returns-clause-told g c =
    let a = g.A.Archive.state c.args.archive.now in
    let b = g.A.Archive.state c.loop-item.archive in
    let (used, values, count, acts, shown) = c.loop-item.invariant.told in
    let all : take c.loop-item.item-index c.args.items.now ≡ c.args.items.now =
    take_all _ _ c.loop-item-test.false in
    let whole : c.loop-item.item-index ≡ length c.args.items.now =
    omega (arith, c.loop-item-test.false, c.loop-item.auto.item-index-end) in (
      used,
      values,
      count ∙ whole,
      subst (λ (items : List ReadValueId).
          Refines a b used (each (read_item (seen_by c.args.space.now c.args.terms.access)
          c.args.terms.now c.args.terms.stamps) (map read_fields items)) values) all acts,
      shown,
    )

pub returns-clause-err : goal.returns-clause-err
returns-clause-err g c = c.loop-item.invariant.err
