use Rattle.std.proofs.Common.{◌≡◌, ◌∙◌, ◌<◌, ◌≤◌, ◌++◌, inr, ℕ, List, map, length, vec_len, arith, Ok, Err, Some, None, refl, sym, ap, subst}
use Rattle.std.specs.Prelude.{Option, Result}
use Rattle.std.specs.List.{AllByRecursion, flat_map}
use Rattle.std.proofs.lemmas.List.{length-map}
use Rattle.std.proofs.lemmas.Result.{err_from_is_err_and}
use Rattle.ua_binary.specs.Binary.{array}
use Rattle.ua_binary.specs.declared.codes.Status.{Status}
use Rattle.ua_binary.specs.declared.codes.TheConstants.Status.{GOOD, BAD_RESPONSE_TOO_LARGE}
use Rattle.ua_binary.specs.declared.values.Ticks.{Ticks}
use Rattle.ua_services.specs.History.{HistoryAsked, HistoryReadFields, history_asked, history_fields, history_read_fields, history_read_result, history_read_response}
use Rattle.ua_services.specs.declared.history.HistoryReadRequest.{HistoryReadRequest}
use Rattle.ua_services.specs.declared.history.HistoryReadResult.{HistoryReadResult}
use Rattle.ua_services.specs.declared.history.HistoryReadValueId.{HistoryReadValueId}
use Rattle.ua_space.specs.declared.layout.Layout.{Layout}
use Rattle.records.specs.Contents.{Content}
use Rattle.archive.specs.Store.{StepResult}
use Rattle.archive.specs.Steps.{Refines, each}
use Rattle.hist_read.specs.declared.query.Query.{Query}
use Rattle.historian.specs.Answers.{Histories, head, response, longest_response}
use Rattle.hist_update.specs.Codes.{list_refusal}
use Rattle.historian.specs.Telling.{ComesWritten}
use Rattle.historian.specs.Reading.{unless_refused, answer_items, read_history_of, query_of, read_history}
use Rattle.historian.proofs.Items.{few_taken}
use Rattle.historian.proofs.ReadingParts.{histories_by}
use Rattle.historian.proofs.Streaming.{bytes_of, is-whole, is-over, is-too-large, left-out, writes-all, starved, written-refused, written-wanting, written-items}
use Rattle.historian.proofs.histories.put_read_history.Goals as goal

-- a HistoryRead that isn't refused asks for items
asked_items : (id : List ℕ) (space : Layout) (asked : HistoryReadRequest) (query : Query)
    → list_refusal 100 (length (map history_read_fields asked.nodes.items)) ≡ None
    → query_of asked.details asked.timestamps ≡ Ok query
    → (R : Content) (marks : List StepResult)
    → read_history id space (history_asked asked) R marks
    ≡ answer_items Histories
    (read_history_of id space query asked.release_continuation_points)
    (map history_read_fields asked.nodes.items) R marks
asked_items id space asked query taken is R marks =
    let nodes = map history_read_fields asked.nodes.items in
    let release = asked.release_continuation_points in
    ap (λ (o : Option Status). unless_refused o R
    (histories_by id space release nodes R (query_of asked.details asked.timestamps)) marks) taken
    ∙ ap (λ (q : Result Query Status). histories_by id space release nodes R q marks) is

-- the count of nodes is that of what they ask
asked_count : (asked : HistoryReadRequest) (n : ℕ) → n ≡ vec_len asked.nodes
    → length (map history_read_fields asked.nodes.items) ≡ n
asked_count asked n is =
    length-map asked.nodes.items history_read_fields ∙ omega (arith, is, asked.nodes.ok)

-- the bytes of the response
same : (now : Ticks) (handle : ℕ) (values : List HistoryReadResult)
    → bytes_of history_read_result (head 667 now handle GOOD) (map history_fields values)
    ≡ response now handle (Ok (Histories values))
unfolding history_read_response array
same now handle values = refl

-- they are few, so there is a spelling of all
few_spelled : (n : ℕ) (values : List HistoryReadResult) → n ≤ 100
    → length values ≡ n → AllByRecursion history_read_result.Fits (map history_fields values)
    → history_read_response.Fits (map history_fields values)
unfolding history_read_response
few_spelled n values few count spelled =
    (omega (arith, few, count, length-map values history_fields), spelled)

pub returns-in-Some-clause-comes : goal.returns-in-Some-clause-comes
returns-in-Some-clause-comes g c =
    let s = g.A.Archive.state c.args.server.now.replica.archive in
    let space = c.args.server.now.settings.space in
    let asked = c.args.asked.now in
    let nodes = map history_read_fields asked.nodes.items in
    let refused : list_refusal 100 (length nodes) ≡ Some c.in-Some.status =
    ap (list_refusal 100) (asked_count asked c.len.result c.len.ensures)
    ∙ sym c.list_refusal.ensures ∙ c.in-Some.is in
    written-refused s (read_history s.id space (history_asked asked)) c.in-Some.status
    c.args.context.now c.args.context.handle c.args.body.now.items
    (λ R marks. ap (λ (o : Option Status). unless_refused o R
    (histories_by s.id space asked.release_continuation_points nodes R
    (query_of asked.details asked.timestamps)) marks) refused)

pub returns-in_err-query-clause-comes : goal.returns-in_err-query-clause-comes
returns-in_err-query-clause-comes g c =
    let s = g.A.Archive.state c.args.server.now.replica.archive in
    let space = c.args.server.now.settings.space in
    let asked = c.args.asked.now in
    let nodes = map history_read_fields asked.nodes.items in
    let taken : list_refusal 100 (length nodes) ≡ None =
    ap (list_refusal 100) (asked_count asked c.len.result c.len.ensures)
    ∙ sym c.list_refusal.ensures ∙ c.in_default.is in
    let p = err_from_is_err_and c.from_residual.result c.from_residual.ensures.1 in
    let refused : query_of asked.details asked.timestamps ≡ Err p.0 =
    sym c.in_err-query.ensures ∙ ap Err (sym p.2) in
    subst (λ (r : Result (Unit {0}) Status). ComesWritten s s
    (read_history s.id space (history_asked asked)) c.args.context.now c.args.context.handle r
    c.args.body.now.items) (sym p.1)
    (written-refused s (read_history s.id space (history_asked asked)) p.0
    c.args.context.now c.args.context.handle c.args.body.now.items
    (λ R marks. ap (λ (o : Option Status). unless_refused o R
    (histories_by s.id space asked.release_continuation_points nodes R
    (query_of asked.details asked.timestamps)) marks) taken
    ∙ ap (λ (q : Result Query Status).
    histories_by s.id space asked.release_continuation_points nodes R q marks) refused))

pub returns-in_err-put_head-clause-comes : goal.returns-in_err-put_head-clause-comes
returns-in_err-put_head-clause-comes g c =
    let s = g.A.Archive.state c.args.server.now.replica.archive in
    let space = c.args.server.now.settings.space in
    let asked = c.args.asked.now in
    let nodes = map history_read_fields asked.nodes.items in
    let query = c.in_ok-query.query in
    let taken : list_refusal 100 (length nodes) ≡ None =
    ap (list_refusal 100) (asked_count asked c.len.result c.len.ensures)
    ∙ sym c.list_refusal.ensures ∙ c.in_default.is in
    let p = err_from_is_err_and c.from_residual-in_err-put_head.result c.from_residual-in_err-put_head.ensures.1 in
    written-wanting s (read_history s.id space (history_asked asked)) Histories
    (read_history_of s.id space query asked.release_continuation_points) nodes c.args.context.now
    c.args.context.handle c.from_residual-in_err-put_head.result p.0 c.in_err-put_head.field-0.0 c.put_head.new.out.items
    (asked_items s.id space asked query taken (sym c.in_ok-query.ensures)) p.1 p.2
    c.in_err-put_head.ensures.err

pub returns-in_err-put_count-clause-comes : goal.returns-in_err-put_count-clause-comes
returns-in_err-put_count-clause-comes g c =
    let s = g.A.Archive.state c.args.server.now.replica.archive in
    let space = c.args.server.now.settings.space in
    let asked = c.args.asked.now in
    let nodes = map history_read_fields asked.nodes.items in
    let query = c.in_ok-query.query in
    let taken : list_refusal 100 (length nodes) ≡ None =
    ap (list_refusal 100) (asked_count asked c.len.result c.len.ensures)
    ∙ sym c.list_refusal.ensures ∙ c.in_default.is in
    let p = err_from_is_err_and c.from_residual-in_err-put_count.result c.from_residual-in_err-put_count.ensures.1 in
    written-wanting s (read_history s.id space (history_asked asked)) Histories
    (read_history_of s.id space query asked.release_continuation_points) nodes c.args.context.now
    c.args.context.handle c.from_residual-in_err-put_count.result p.0 c.in_err-put_count.field-0.0 c.put_count.new.out.items
    (asked_items s.id space asked query taken (sym c.in_ok-query.ensures)) p.1 p.2
    c.in_err-put_count.ensures.0

pub returns-in_err-put_histories-clause-comes :
    goal.returns-in_err-put_histories-clause-comes
returns-in_err-put_histories-clause-comes g c =
    let a = g.A.Archive.state c.args.server.now.replica.archive in
    let b = g.A.Archive.state c.put_histories.new.archive in
    let space = c.args.server.now.settings.space in
    let asked = c.args.asked.now in
    let nodes = map history_read_fields asked.nodes.items in
    let query = c.in_ok-query.query in
    let release = asked.release_continuation_points in
    let now = c.args.context.now in
    let handle = c.args.context.handle in
    let taken : list_refusal 100 (length nodes) ≡ None =
    ap (list_refusal 100) (asked_count asked c.len.result c.len.ensures)
    ∙ sym c.list_refusal.ensures ∙ c.in_default.is in
    let (used, values, count, all, shown) = c.in_err-put_histories.ensures in
    let counted : length values ≡ c.len-2.result = omega (
      arith,
      count,
      ap length c.deref.ensures.value,
      c.len-2.ensures,
      asked.nodes.ok,
    ) in
    let P : Layout → List HistoryReadValueId → Type 0 = λ space items. (used : List StepResult)
    × Refines a b used (each (read_history_of a.id space query release)
    (map history_read_fields items)) values in
    written-items a b (read_history a.id space (history_asked asked)) Histories
    (read_history_of a.id space query release) nodes values now handle c.from_residual-in_err-put_histories.result
    c.put_histories.new.out.items
    (asked_items a.id space asked query taken (sym c.in_ok-query.ensures))
    (subst (λ s. P s asked.nodes.items) c.space.ensures
    (subst (P c.space.result.now) c.deref.ensures.value (used, all)))
    (let p = err_from_is_err_and c.from_residual-in_err-put_histories.result c.from_residual-in_err-put_histories.ensures.1 in
    left-out now handle (Ok (Histories values)) c.from_residual-in_err-put_histories.result p.0 c.in_err-put_histories.field-0.0
    c.put_histories.new.out.items
    (c.put_count.new.out.items ++ flat_map history_read_result.canon (map history_fields values))
    p.1 p.2 shown (λ many.
    subst (λ (bytes : List ℕ). longest_response < length bytes) (same now handle values)
    (is-over history_read_result (head 667 now handle GOOD) (map history_fields values)
    c.len-2.result c.args.body.now.items c.put_head.new.out.items c.put_count.new.out.items
    c.requires c.in_ok-put_head.ensures.ok c.in_ok-put_count.ensures
    (length-map values history_fields ∙ counted) many)))

pub returns-then-len-gt-LONGEST_RESPONSE-clause-comes :
    goal.returns-then-len-gt-LONGEST_RESPONSE-clause-comes
returns-then-len-gt-LONGEST_RESPONSE-clause-comes g c =
    let a = g.A.Archive.state c.args.server.now.replica.archive in
    let b = g.A.Archive.state c.put_histories.new.archive in
    let space = c.args.server.now.settings.space in
    let asked = c.args.asked.now in
    let nodes = map history_read_fields asked.nodes.items in
    let query = c.in_ok-query.query in
    let release = asked.release_continuation_points in
    let now = c.args.context.now in
    let handle = c.args.context.handle in
    let taken : list_refusal 100 (length nodes) ≡ None =
    ap (list_refusal 100) (asked_count asked c.len.result c.len.ensures)
    ∙ sym c.list_refusal.ensures ∙ c.in_default.is in
    let (used, values, count, all, shown) = c.in_ok-put_histories.ensures in
    let counted : length values ≡ c.len-2.result = omega (
      arith,
      count,
      ap length c.deref.ensures.value,
      c.len-2.ensures,
      asked.nodes.ok,
    ) in
    let P : Layout → List HistoryReadValueId → Type 0 = λ space items. (used : List StepResult)
    × Refines a b used (each (read_history_of a.id space query release)
    (map history_read_fields items)) values in
    written-items a b (read_history a.id space (history_asked asked)) Histories
    (read_history_of a.id space query release) nodes values now handle (Err BAD_RESPONSE_TOO_LARGE)
    c.put_histories.new.out.items
    (asked_items a.id space asked query taken (sym c.in_ok-query.ensures))
    (subst (λ s. P s asked.nodes.items) c.space.ensures
    (subst (P c.space.result.now) c.deref.ensures.value (used, all)))
    (inr (inr (
      refl,
      subst (λ (bytes : List ℕ). longest_response < length bytes) (same now handle values)
          (is-too-large history_read_result (head 667 now handle GOOD) (map history_fields values)
          c.len-2.result c.args.body.now.items c.put_head.new.out.items c.put_count.new.out.items
          c.put_histories.new.out.items c.requires c.in_ok-put_head.ensures.ok
          c.in_ok-put_count.ensures (length-map values history_fields ∙ counted)
          (omega (
            arith,
            c.if-len-gt-LONGEST_RESPONSE.true,
            c.len-3.ensures,
            c.put_histories.new.out.ok,
          )) shown),
    )))

pub returns-in_err-put_i32-clause-comes :
    goal.returns-in_err-put_i32-clause-comes
returns-in_err-put_i32-clause-comes g c =
    let a = g.A.Archive.state c.args.server.now.replica.archive in
    let b = g.A.Archive.state c.put_histories.new.archive in
    let space = c.args.server.now.settings.space in
    let asked = c.args.asked.now in
    let nodes = map history_read_fields asked.nodes.items in
    let query = c.in_ok-query.query in
    let release = asked.release_continuation_points in
    let now = c.args.context.now in
    let handle = c.args.context.handle in
    let taken : list_refusal 100 (length nodes) ≡ None =
    ap (list_refusal 100) (asked_count asked c.len.result c.len.ensures)
    ∙ sym c.list_refusal.ensures ∙ c.in_default.is in
    let (used, values, count, all, shown) = c.in_ok-put_histories.ensures in
    let counted : length values ≡ c.len-2.result = omega (
      arith,
      count,
      ap length c.deref.ensures.value,
      c.len-2.ensures,
      asked.nodes.ok,
    ) in
    let P : Layout → List HistoryReadValueId → Type 0 = λ space items. (used : List StepResult)
    × Refines a b used (each (read_history_of a.id space query release)
    (map history_read_fields items)) values in
    written-items a b (read_history a.id space (history_asked asked)) Histories
    (read_history_of a.id space query release) nodes values now handle c.from_residual-in_err-put_i32.result
    c.put_i32.new.out.items
    (asked_items a.id space asked query taken (sym c.in_ok-query.ensures))
    (subst (λ s. P s asked.nodes.items) c.space.ensures
    (subst (P c.space.result.now) c.deref.ensures.value (used, all)))
    (let p = err_from_is_err_and c.from_residual-in_err-put_i32.result c.from_residual-in_err-put_i32.ensures.1 in
    starved now handle (Ok (Histories values)) c.from_residual-in_err-put_i32.result p.0 c.in_err-put_i32.field-0.0
    c.put_i32.new.out.items p.1 p.2 c.in_err-put_i32.ensures.0)

pub returns-clause-comes :
    goal.returns-clause-comes
returns-clause-comes g c =
    let a = g.A.Archive.state c.args.server.now.replica.archive in
    let b = g.A.Archive.state c.put_histories.new.archive in
    let space = c.args.server.now.settings.space in
    let asked = c.args.asked.now in
    let nodes = map history_read_fields asked.nodes.items in
    let query = c.in_ok-query.query in
    let release = asked.release_continuation_points in
    let now = c.args.context.now in
    let handle = c.args.context.handle in
    let taken : list_refusal 100 (length nodes) ≡ None =
    ap (list_refusal 100) (asked_count asked c.len.result c.len.ensures)
    ∙ sym c.list_refusal.ensures ∙ c.in_default.is in
    let (used, values, count, all, shown) = c.in_ok-put_histories.ensures in
    let counted : length values ≡ c.len-2.result = omega (
      arith,
      count,
      ap length c.deref.ensures.value,
      c.len-2.ensures,
      asked.nodes.ok,
    ) in
    let P : Layout → List HistoryReadValueId → Type 0 = λ space items. (used : List StepResult)
    × Refines a b used (each (read_history_of a.id space query release)
    (map history_read_fields items)) values in
    written-items a b (read_history a.id space (history_asked asked)) Histories
    (read_history_of a.id space query release) nodes values now handle (Ok tt)
    c.put_i32.new.out.items
    (asked_items a.id space asked query taken (sym c.in_ok-query.ensures))
    (subst (λ s. P s asked.nodes.items) c.space.ensures
    (subst (P c.space.result.now) c.deref.ensures.value (used, all)))
    (let whole = is-whole history_read_result (map history_fields values)
    c.put_count.new.out.items c.put_histories.new.out.items
    (omega (
      arith,
      c.if-len-gt-LONGEST_RESPONSE.false,
      c.len-3.ensures,
      c.put_histories.new.out.ok,
    )) shown in (
      writes-all history_read_result (head 667 now handle GOOD) (map history_fields values)
          c.len-2.result c.args.body.now.items c.put_head.new.out.items
          c.put_count.new.out.items c.put_histories.new.out.items c.put_i32.new.out.items
          c.requires c.in_ok-put_head.ensures.ok c.in_ok-put_count.ensures whole.0
          c.in_ok-put_i32.ensures (length-map values history_fields ∙ counted)
          ∙ same now handle values,
      few_spelled c.len-2.result values
          (omega (
            arith,
            few_taken 100 (length nodes) taken,
            asked_count asked c.len-2.result c.len-2.ensures,
          )) counted whole.1,
    ))
