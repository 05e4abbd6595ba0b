use Rattle.std.proofs.Common.{◌≡◌, ◌∙◌, ◌+◌, ◌≤◌, ◌<◌, ◌∷◌, ◌++◌, [], ℕ, List, get_or, length, map, take, Ok, Err, refl, sym, ap, subst, append-nil, arith, inl}
use Rattle.std.specs.Prelude.{Bool, Result, OnOk}
use Rattle.std.specs.Result.{result_and}
use Rattle.std.proofs.lemmas.List.{length-append, map-append, take_all}
use Rattle.ua_binary.specs.declared.codes.Status.{Status}
use Rattle.ua_binary.specs.declared.codes.TheConstants.Status.{BAD_OUT_OF_MEMORY}
use Rattle.ua_binary.specs.Rules.{checked}
use Rattle.ua_services.specs.History.{HistoryReadFields, HistoryFields, history_read_fields, history_fields, history_read_result}
use Rattle.ua_services.specs.declared.history.HistoryReadResult.{HistoryReadResult}
use Rattle.ua_services.specs.declared.history.HistoryReadValueId.{HistoryReadValueId}
use Rattle.ua_space.specs.declared.layout.Layout.{Layout}
use Rattle.archive.specs.Store.{Store, StepResult, NoMemory}
use Rattle.archive.specs.Steps.{Refines, each}
use Rattle.hist_read.specs.Node.{refused_read}
use Rattle.hist_read.specs.declared.query.Query.{Query}
use Rattle.historian.specs.Answers.{longest_response}
use Rattle.historian.specs.Reading.{history_rules, read_history_of}
use Rattle.historian.specs.Telling.{AppendsAll}
use Rattle.historian.proofs.Items.{each-next-by, acts-none, acts-starved}
use Rattle.historian.proofs.ReadingParts.{history_by}
use Rattle.historian.proofs.Streaming.{appends-more, appends-skips, some_of}
use Rattle.historian.proofs.histories.put_histories.Goals as goal
use Rattle.historian.proofs.histories.put_histories.Goals.{then-may_go_on, else-may_go_on}

-- a history that isn't read is told as one that is refused, or for which memory is wanting
unread : (s : Store) (id : List ℕ) (space : Layout) (query : Query) (release : Bool)
    (item : HistoryReadFields)
    → (value : HistoryReadResult) × ((used : List StepResult)
    × Refines s s used (read_history_of id space query release item) value)
unread s id space query release item = by (checked (history_rules space item)) refl
  where
    by : (result : Result (Unit {0}) Status) → checked (history_rules space item) ≡ result
        → (value : HistoryReadResult) × ((used : List StepResult)
        × Refines s s used (read_history_of id space query release item) value)
    by (Err status) is = (
      refused_read status,
      acts-none s (read_history_of id space query release item) (refused_read status)
          (λ R marks. ap (λ r. history_by id query release item R r marks) is),
    )
    by (Ok u) is = (
      refused_read BAD_OUT_OF_MEMORY,
      acts-starved s (read_history_of id space query release item) (refused_read BAD_OUT_OF_MEMORY)
          (λ R later. ap (λ r. history_by id query release item R r (NoMemory ∷ later)) is),
    )

pub loop-item-init : goal.loop-item-init
loop-item-init g c =
    let a = g.A.Archive.state c.args.archive.now in
    let none = acts-none a (each (read_history_of a.id c.args.space.now c.args.terms.query
    c.args.terms.release) []) [] (λ R marks. refl) in
    record {
      id = refl;
      told = (none.0, [], refl, none.1, inl (sym (append-nil c.args.out.now.items), tt));
    }

pub loop-item-preserved : goal.loop-item-preserved
loop-item-preserved g c =
    let a = g.A.Archive.state c.args.archive.now in
    let b = g.A.Archive.state c.loop-item.archive in
    let old = c.args.out.now.items in
    let read : List ℕ → _ =
    λ id. read_history_of id c.args.space.now c.args.terms.query c.args.terms.release in
    let (used, values, count, acts, shown) = c.loop-item.invariant.told in
    elim c.if-may_go_on.branch [
      | then-may_go_on w ↦
          let e = g.A.Archive.state w.put_history-one.new.archive in
          let (mark, value, act, puts) = w.put_history-one.ensures in
          let more = values ++ (value ∷ []) in
          let all = each-next-by a b e a.id b.id history_read_fields read c.args.items.now
          c.loop-item.item-index _ _ values more value c.loop-item.invariant.id
          (used, acts) (mark, act) c.loop-item-test.true refl refl in
          let few : length c.loop-item.out.items ≤ longest_response = omega (
            arith,
            c.may_go_on.ensures.few w.if-may_go_on.true,
            c.len.ensures,
            c.loop-item.out.ok,
          ) in
          let both : Result (Unit {0}) Status → List HistoryFields → Type 0 = λ put vs.
          AppendsAll history_read_result vs put old w.put_history-one.new.out.items in
          let put = result_and w.put_history-one.result c.loop-item.put in
          let shown' : both put (map history_fields more) =
          subst (both put) (sym (map-append history_fields values (value ∷ [])))
          (appends-more history_read_result c.loop-item.put w.put_history-one.result old
          c.loop-item.out.items w.put_history-one.new.out.items (map history_fields values)
          (history_fields value) few shown puts) in
          rw (w.archive-is, w.out-is, w.put-is) (record {
            id = act.passes.id ∙ c.loop-item.invariant.id;
            told = (
              all.0,
              more,
              length-append values (value ∷ []) ∙ ap (λ n. n + 1) count,
              all.1,
              subst (λ (r : Result (Unit {0}) Status). both r (map history_fields more))
                  {x = put} (sym w.and-put.ensures) shown',
            );
          })
      | else-may_go_on w ↦
          let items = c.args.items.now in
          let other = some_of items c.loop-item.item-index c.loop-item-test.true in
          let item = get_or items c.loop-item.item-index other in
          let (value, act) = unread b b.id c.args.space.now c.args.terms.query
          c.args.terms.release (history_read_fields item) in
          let more = values ++ (value ∷ []) in
          let all = each-next-by a b b a.id b.id history_read_fields read items
          c.loop-item.item-index other item values more value c.loop-item.invariant.id
          (used, acts) act c.loop-item-test.true refl refl in
          let many : OnOk c.loop-item.put (longest_response < length c.loop-item.out.items) =
          subst (λ n. OnOk c.loop-item.put (longest_response < n))
          (omega (arith, c.len.ensures, c.loop-item.out.ok))
          (c.may_go_on.ensures.many w.if-may_go_on.false) in
          let shown' : AppendsAll history_read_result (map history_fields more) c.loop-item.put old
          c.loop-item.out.items =
          subst (λ (vs : List HistoryFields). AppendsAll history_read_result vs c.loop-item.put old
          c.loop-item.out.items)
          (sym (map-append history_fields values (value ∷ [])))
          (appends-skips history_read_result c.loop-item.put old c.loop-item.out.items
          (map history_fields values) (history_fields value) many shown) in
          rw (w.archive-is, w.out-is, w.put-is) (record {
            id = c.loop-item.invariant.id;
            told = (
              all.0,
              more,
              length-append values (value ∷ []) ∙ ap (λ n. n + 1) count,
              all.1,
              shown',
            );
          })
    ]

pub returns : goal.returns
returns g c =
    let a = g.A.Archive.state c.args.archive.now in
    let b = g.A.Archive.state c.loop-item.archive in
    let (used, values, count, acts, shown) = c.loop-item.invariant.told in
    let all : take c.loop-item.item-index c.args.items.now ≡ c.args.items.now =
    take_all _ _ c.loop-item-test.false in
    let whole : c.loop-item.item-index ≡ length c.args.items.now =
    omega (arith, c.loop-item-test.false, c.loop-item.auto.item-index-end) in (
      used,
      values,
      count ∙ whole,
      subst (λ (items : List HistoryReadValueId).
          Refines a b used (each (read_history_of a.id c.args.space.now c.args.terms.query
          c.args.terms.release) (map history_read_fields items)) values) all acts,
      shown,
    )
