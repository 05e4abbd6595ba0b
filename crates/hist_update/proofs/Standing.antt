-- Every update that is answered Good stands, whichever call it was one of.
use Rattle.std.proofs.Common.{ℕ, ℤ, Bool, List, [], ◌∷◌, ◌++◌, map, length, Option, Some, None, refl, sym, subst, inl, inr}
use Rattle.std.proofs.lemmas.List.{append-nil}
use Rattle.std.proofs.lemmas.Option.{none-some}
use Rattle.ua_binary.specs.declared.codes.Status.{Status}
use Rattle.ua_binary.specs.declared.values.Ticks.{Ticks}
use Rattle.ua_services.specs.declared.updates.HistoryUpdateResult.{HistoryUpdateResult}
use Rattle.ua_variant.specs.declared.data.DataValue.{DataValue}
use Rattle.ua_variant.specs.declared.value.ValueType.{ValueType}
use Rattle.records.specs.Contents.{Content, IsWithin}
use Rattle.archive.specs.Fault.{status_told}
use Rattle.archive.specs.Steps.{Fallible, step, memory, Yields}
use Rattle.archive.specs.Store.{StepResult, Done, NoMemory, RecordStands, StoreFailed}
use Rattle.hist_update.specs.declared.request.Request.{Request}
use Rattle.hist_update.specs.Codes.{asked_by, list_refusal, first_other}
use Rattle.hist_update.specs.Outcome.{Operation, DeleteAt}
use Rattle.hist_update.specs.Updates.{Updated, refused_update, unless, past, begin, data_refusal, writes, update_data, deletes_at, delete_at, live_times_in, stretch_refusal, listing_refusal, delete_listed, delete_raw}
use Rattle.hist_update.proofs.UpdatesParts.{all_good, run}
use Rattle.hist_update.specs.Laws.{IsAnsweredGood, HasRecordOf, MayStandBehindBreak, AddsFor}
use Rattle.hist_update.proofs.Answered.{all_within, all_stand, all_add, did}

-- whatever marks are given, what it comes to is so
abbrev Always : (Updated → Type 0) → Fallible Updated → Type 0
Always P more = (marks : List StepResult) → P (more marks).0

always_unless : (P : Updated → Type 0) (reason : Option Status) (R : Content)
    (more : Fallible Updated) → ((code : Status) → P (refused_update code, R)) → Always P more
    → Always P (unless reason R more)
always_unless P (Some code) R more fails goes marks = fails code
always_unless P None R more fails goes marks = goes marks

always_past : (P : Updated → Type 0) (first : Fallible (Option Status)) (R : Content)
    (more : Fallible Updated) → ((code : Status) → P (refused_update code, R)) → Always P more
    → Always P (past first R more)
always_past P first R more fails goes marks = let r = first marks in
    always_unless P r.0 R more fails goes r.1

-- each operation of a Good code has its record
abbrev Stand : Content → ℕ → Request → List Operation → Updated → Type 0
Stand R own request ops u = (k : ℕ) (op : Operation) → IsAnsweredGood ops u.0.operation_results k op
    → HasRecordOf R u.1 request own op

none_stand : (own : ℕ) (request : Request) (ops : List Operation) (R : Content) (code : Status)
    → Stand R own request ops (refused_update code, R)
none_stand own request ops R code k op a = absurd (none-some _ a.told)

begun_stand : (own : ℕ) (request : Request) (status : List Status → Status) (ops : List Operation)
    (R : Content) → Always (Stand R own request ops) (begin own request status ops R)
begun_stand own request status ops R =
    always_past (Stand R own request ops) memory R (run own request status ops R)
    (none_stand own request ops R) (λ marks k op a.
    all_stand own request ops R marks k op
    (record { asked = a.asked; code = a.code; told = a.told; good = a.good }))

begun_within : (own : ℕ) (request : Request) (status : List Status → Status) (ops : List Operation)
    (R : Content) → Always (λ u. IsWithin R u.1) (begin own request status ops R)
begun_within own request status ops R =
    always_past (λ u. IsWithin R u.1) memory R (run own request status ops R) (λ code r h. h)
    (λ marks. all_within own request ops R marks)

-- of what it did
stood : (R : Content) (own : ℕ) (request : Request) (ops : List Operation)
    (marked : Fallible Updated) (used : List StepResult) (result : HistoryUpdateResult)
    (S : Content) (k : ℕ) (op : Operation)
    → Always (Stand R own request ops) marked → Yields marked used (result, S)
    → IsAnsweredGood ops result.operation_results k op → HasRecordOf R S request own op
stood R own request ops marked used result S k op always d a =
    subst (Stand R own request ops) (did marked used (result, S) d) (always (used ++ [])) k op a

kept : (R S : Content) (marked : Fallible Updated) (used : List StepResult)
    (result : HistoryUpdateResult) → Always (λ u. IsWithin R u.1) marked
    → Yields marked used (result, S) → IsWithin R S
kept R S marked used result always d =
    subst (λ (u : Updated). IsWithin R u.1) (did marked used (result, S) d) (always (used ++ []))

-- whatever marks are given among which a record may stand only where this says so
abbrev Given : (may : Bool) → (Updated → Type 0) → Fallible Updated → Type 0
Given may P more = (marks : List StepResult) → MayStandBehindBreak may marks → P (more marks).0

-- what a step leaves of the marks
abbrev Passing : (may : Bool) → Fallible (Option Status) → Type 0
Passing may first = (marks : List StepResult) → MayStandBehindBreak may marks
    → MayStandBehindBreak may (first marks).1

given_unless : (may : Bool) (P : Updated → Type 0) (reason : Option Status) (R : Content)
    (more : Fallible Updated) → ((code : Status) → P (refused_update code, R)) → Given may P more
    → Given may P (unless reason R more)
given_unless may P (Some code) R more fails goes marks allowed = fails code
given_unless may P None R more fails goes marks allowed = goes marks allowed

given_past : (may : Bool) (P : Updated → Type 0) (first : Fallible (Option Status)) (R : Content)
    (more : Fallible Updated) → Passing may first → ((code : Status) → P (refused_update code, R))
    → Given may P more → Given may P (past first R more)
given_past may P first R more passing fails goes marks allowed = let r = first marks in
    given_unless may P r.0 R more fails goes r.1 (passing marks allowed)

passing_memory : (may : Bool) → Passing may memory
passing_memory may [] allowed = tt
passing_memory may (Done ∷ marks) allowed = allowed.1
passing_memory may (NoMemory ∷ marks) allowed = allowed.1
passing_memory may (RecordStands ∷ marks) allowed = allowed
passing_memory may (StoreFailed fault ∷ marks) allowed = allowed

passing_step : (may : Bool) → Passing may (step status_told)
passing_step may [] allowed = tt
passing_step may (mark ∷ marks) allowed = allowed.1

-- each operation of a Good code added its record, and nothing else was added
abbrev Adds : Bool → Content → ℕ → Request → List Operation → Updated → Type 0
Adds may R own request ops u = AddsFor may request own ops u.0 R u.1

none_adds : (may : Bool) (R : Content) (own : ℕ) (request : Request) (ops : List Operation)
    (code : Status) → Adds may R own request ops (refused_update code, R)
none_adds may R own request ops code = inr (refl, refl)

begun_adds : (may : Bool) (own : ℕ) (request : Request) (status : List Status → Status)
    (ops : List Operation) (R : Content)
    → Given may (Adds may R own request ops) (begin own request status ops R)
begun_adds may own request status ops R =
    given_past may (Adds may R own request ops) memory R (run own request status ops R)
    (passing_memory may) (none_adds may R own request ops)
    (λ marks allowed. inl (all_add may own request ops R marks allowed))

added : (may : Bool) (R S : Content) (own : ℕ) (request : Request) (ops : List Operation)
    (marked : Fallible Updated) (used : List StepResult) (result : HistoryUpdateResult)
    → Given may (Adds may R own request ops) marked → MayStandBehindBreak may used
    → Yields marked used (result, S) → AddsFor may request own ops result R S
added may R S own request ops marked used result given allowed d =
    subst (Adds may R own request ops) (did marked used (result, S) d)
    (given (used ++ []) (subst (MayStandBehindBreak may) (sym (append-nil used)) allowed))

-- ---- the three calls

pub writes_stand : (R S : Content) (own : ℕ) (request : Request) (type : ValueType) (perform : ℤ)
    (values : List DataValue) (used : List StepResult) (result : HistoryUpdateResult) (k : ℕ)
    (op : Operation)
    → Yields (update_data own request type perform values R) used (result, S)
    → IsAnsweredGood (writes (asked_by perform) type values) result.operation_results k op
    → HasRecordOf R S request own op
writes_stand R S own request type perform values used result k op d =
    let ops = writes (asked_by perform) type values in
    stood R own request ops (update_data own request type perform values R) used result S k op
    (always_unless (Stand R own request ops) (data_refusal (asked_by perform) (length values)) R
    (begin own request all_good ops R) (none_stand own request ops R)
    (begun_stand own request all_good ops R)) d

pub deletes_stand : (R S : Content) (own : ℕ) (request : Request) (times : List Ticks)
    (used : List StepResult) (result : HistoryUpdateResult) (k : ℕ) (op : Operation)
    → Yields (delete_at own request times R) used (result, S)
    → IsAnsweredGood (deletes_at times) result.operation_results k op
    → HasRecordOf R S request own op
deletes_stand R S own request times used result k op d =
    let ops = deletes_at times in
    stood R own request ops (delete_at own request times R) used result S k op
    (always_unless (Stand R own request ops) (list_refusal 1000 (length times)) R
    (begin own request all_good ops R) (none_stand own request ops R)
    (begun_stand own request all_good ops R)) d

pub stretches_stand : (R S : Content) (own : ℕ) (request : Request) (modified : Bool)
    (start end_ : Ticks) (used : List StepResult) (result : HistoryUpdateResult) (k : ℕ)
    (op : Operation)
    → Yields (delete_raw own request modified start end_ R) used (result, S)
    → IsAnsweredGood (map DeleteAt (live_times_in R request.node start.0 end_.0))
    result.operation_results k op → HasRecordOf R S request own op
stretches_stand R S own request modified start end_ used result k op d =
    let times = live_times_in R request.node start.0 end_.0 in
    let ops = map DeleteAt times in
    let all = always_unless (Stand R own request ops) (listing_refusal times) R
    (begin own request first_other ops R) (none_stand own request ops R)
    (begun_stand own request first_other ops R) in
    stood R own request ops (delete_raw own request modified start end_ R) used result S k op
    (always_unless (Stand R own request ops) (stretch_refusal modified start.0 end_.0) R
    (past (step status_told) R (delete_listed own request times R))
    (none_stand own request ops R)
    (always_past (Stand R own request ops) (step status_told) R (delete_listed own request times R)
    (none_stand own request ops R) all)) d

pub writes_keep : (R S : Content) (own : ℕ) (request : Request) (type : ValueType) (perform : ℤ)
    (values : List DataValue) (used : List StepResult) (result : HistoryUpdateResult)
    → Yields (update_data own request type perform values R) used (result, S) → IsWithin R S
writes_keep R S own request type perform values used result =
    let ops = writes (asked_by perform) type values in
    kept R S (update_data own request type perform values R) used result
    (always_unless (λ u. IsWithin R u.1) (data_refusal (asked_by perform) (length values)) R
    (begin own request all_good ops R) (λ code r h. h)
    (begun_within own request all_good ops R))

pub deletes_keep : (R S : Content) (own : ℕ) (request : Request) (times : List Ticks)
    (used : List StepResult) (result : HistoryUpdateResult)
    → Yields (delete_at own request times R) used (result, S) → IsWithin R S
deletes_keep R S own request times used result =
    let ops = deletes_at times in
    kept R S (delete_at own request times R) used result
    (always_unless (λ u. IsWithin R u.1) (list_refusal 1000 (length times)) R
    (begin own request all_good ops R) (λ code r h. h)
    (begun_within own request all_good ops R))

pub stretches_keep : (R S : Content) (own : ℕ) (request : Request) (modified : Bool)
    (start end_ : Ticks) (used : List StepResult) (result : HistoryUpdateResult)
    → Yields (delete_raw own request modified start end_ R) used (result, S) → IsWithin R S
stretches_keep R S own request modified start end_ used result =
    let times = live_times_in R request.node start.0 end_.0 in
    let ops = map DeleteAt times in
    let all = always_unless (λ u. IsWithin R u.1) (listing_refusal times) R
    (begin own request first_other ops R) (λ code r h. h)
    (begun_within own request first_other ops R) in
    kept R S (delete_raw own request modified start end_ R) used result
    (always_unless (λ u. IsWithin R u.1) (stretch_refusal modified start.0 end_.0) R
    (past (step status_told) R (delete_listed own request times R)) (λ code r h. h)
    (always_past (λ u. IsWithin R u.1) (step status_told) R (delete_listed own request times R)
    (λ code r h. h) all))

pub writes_add : (may : Bool) (R S : Content) (own : ℕ) (request : Request) (type : ValueType)
    (perform : ℤ) (values : List DataValue) (used : List StepResult) (result : HistoryUpdateResult)
    → MayStandBehindBreak may used
    → Yields (update_data own request type perform values R) used (result, S)
    → AddsFor may request own (writes (asked_by perform) type values) result R S
writes_add may R S own request type perform values used result =
    let ops = writes (asked_by perform) type values in
    added may R S own request ops (update_data own request type perform values R) used result
    (given_unless may (Adds may R own request ops)
    (data_refusal (asked_by perform) (length values)) R (begin own request all_good ops R)
    (none_adds may R own request ops) (begun_adds may own request all_good ops R))

pub deletes_add : (may : Bool) (R S : Content) (own : ℕ) (request : Request) (times : List Ticks)
    (used : List StepResult) (result : HistoryUpdateResult) → MayStandBehindBreak may used
    → Yields (delete_at own request times R) used (result, S)
    → AddsFor may request own (deletes_at times) result R S
deletes_add may R S own request times used result =
    let ops = deletes_at times in
    added may R S own request ops (delete_at own request times R) used result
    (given_unless may (Adds may R own request ops) (list_refusal 1000 (length times)) R
    (begin own request all_good ops R) (none_adds may R own request ops)
    (begun_adds may own request all_good ops R))

pub stretches_add : (may : Bool) (R S : Content) (own : ℕ) (request : Request) (modified : Bool)
    (start end_ : Ticks) (used : List StepResult) (result : HistoryUpdateResult)
    → MayStandBehindBreak may used
    → Yields (delete_raw own request modified start end_ R) used (result, S)
    → AddsFor may request own (map DeleteAt (live_times_in R request.node start.0 end_.0)) result R
    S
stretches_add may R S own request modified start end_ used result =
    let times = live_times_in R request.node start.0 end_.0 in
    let ops = map DeleteAt times in
    let all = given_unless may (Adds may R own request ops) (listing_refusal times) R
    (begin own request first_other ops R) (none_adds may R own request ops)
    (begun_adds may own request first_other ops R) in
    added may R S own request ops (delete_raw own request modified start end_ R) used result
    (given_unless may (Adds may R own request ops) (stretch_refusal modified start.0 end_.0) R
    (past (step status_told) R (delete_listed own request times R))
    (none_adds may R own request ops)
    (given_past may (Adds may R own request ops) (step status_told) R
    (delete_listed own request times R) (passing_step may)
    (none_adds may R own request ops) all))
