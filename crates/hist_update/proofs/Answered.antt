-- What the codes of operations tell, and what stands behind them.
use Rattle.std.proofs.Common.{◌≡◌, ℕ, zero, suc, ℤ, Bool, true, false, List, [], ◌∷◌, ◌++◌, Option, Some, None, Result, Ok, Err, refl, sym, ap, subst, inl, inr, ◌⊎◌, arith}
use Rattle.std.specs.Prelude.{if◌then◌else◌, int_lt, pos}
use Rattle.std.proofs.lemmas.Option.{none-some, same_Some}
use Rattle.stamp.specs.Limits.{lift}
use Rattle.records.specs.declared.record.Record.{Record}
use Rattle.ua_variant.specs.declared.update_type.HistoryUpdateType.{HistoryUpdateType}
use Rattle.ua_variant.specs.declared.update_type.HistoryUpdateType.TheVariants.{Insert, Replace, Update, Delete}
use Rattle.records.specs.Lists.{Has}
use Rattle.records.specs.Contents.{Content, top, put, IsClosed, IsWithin}
use Rattle.records.proofs.PutLemmas.{has-put}
use Rattle.records.proofs.LearnLemmas.{closed-next}
use Rattle.archive.specs.declared.fault.StoreFault.{StoreFault}
use Rattle.archive.specs.declared.fault.StoreFault.TheVariants as fault
use Rattle.std.specs.Option.{ok_or}
use Rattle.ua_binary.specs.Format.{◌>>=◌}
use Rattle.ua_binary.specs.declared.codes.Status.{Status}
use Rattle.ua_binary.specs.declared.codes.TheConstants.Status.{BAD_OUT_OF_MEMORY, BAD_RESOURCE_UNAVAILABLE, BAD_ENCODING_LIMITS_EXCEEDED, BAD_INVALID_TIMESTAMP, BAD_TYPE_MISMATCH, BAD_ENTRY_EXISTS, BAD_NO_ENTRY_EXISTS}
use Rattle.hist_update.specs.declared.request.Request.{Request}
use Rattle.archive.specs.Fault.{store_fault_status}
use Rattle.archive.specs.Steps.{Fallible, Yields}
use Rattle.std.proofs.lemmas.List.{append-nil}
use Rattle.archive.specs.Store.{StepResult, Done, NoMemory, RecordStands, StoreFailed}
use Rattle.records.specs.Moments.{ticks_of}
use Rattle.hist_update.specs.Outcome.{Operation, Write, DeleteAt, Change, Outcome, Refused, Added, change_by, checked_size, fits_type, source_time, writing, outcome, content_after, conflict, done, is_live, checked_change}
use Rattle.hist_update.proofs.OutcomeParts.{deletion, stamped, is_too_long, outcome_of}
use Rattle.hist_update.specs.Updates.{code_by, left_by, update_all}
use Rattle.hist_update.specs.Laws.{IsBad, IsGood, MayStandBehindBreak, IsRecordOf, IsNewBehind, IsAnsweredGood, HasRecordOf, AddsEach}
use Rattle.hist_update.proofs.NewRecords.{made, new_next, new_above, new_timed}

-- ---- the codes

same_fault : (a b : Status) → ◌≡◌ {A = Result Change Status} (Err a) (Err b) → a ≡ b
same_fault a b e = cc

not_fault : {X : Type 0} (a : Change) (code : Status)
    → ◌≡◌ {A = Result Change Status} (Ok a) (Err code) → X
not_fault a code e = absurd (cc)

done_good : (asked : HistoryUpdateType) (live : Bool) → IsGood (done asked live)
done_good Insert true = omega arith
done_good Insert false = omega arith
done_good Replace true = omega arith
done_good Replace false = omega arith
done_good Update true = omega arith
done_good Update false = omega arith
done_good Delete true = omega arith
done_good Delete false = omega arith

fault_bad : (f : StoreFault) → IsBad (store_fault_status f)
fault_bad fault.OutOfMemory = omega arith
fault_bad fault.Refused = omega arith
fault_bad fault.WrongReplica = omega arith
fault_bad fault.WrongArchive = omega arith
fault_bad fault.Broken = omega arith

bad_as : (a code : Status) → IsBad a → a ≡ code → IsBad code
bad_as a code h e = subst IsBad e h

change_bad : (request : Request) (own : ℕ) (op : Operation) (code : Status)
    → change_by request own op ≡ Err code → IsBad code
change_bad request own (DeleteAt time) code e = go (int_lt (ticks_of time) (pos 1)) e
  where
    go : (x : Bool) → (if x then Err BAD_INVALID_TIMESTAMP else Ok (deletion time)) ≡ Err code
        → IsBad code
    go true h = bad_as BAD_INVALID_TIMESTAMP code (omega arith) (same_fault _ _ h)
    go false h = not_fault _ _ h
change_bad request own (Write asked type v) code e = by_time (source_time v) e
  where
    by_size : (t : ℤ) (x : Bool) → (if x then Err BAD_ENCODING_LIMITS_EXCEEDED else Ok
        (writing asked v t)) ≡ Err code → IsBad code
    by_size t true h = bad_as BAD_ENCODING_LIMITS_EXCEEDED code (omega arith) (same_fault _ _ h)
    by_size t false h = not_fault _ _ h

    by_type : (t : ℤ) (x : Bool) → ((if x then Ok t else Err BAD_TYPE_MISMATCH) >>= λ time.
        checked_size request own (writing asked v time)) ≡ Err code → IsBad code
    by_type t true h = by_size t (is_too_long request own (writing asked v t)) h
    by_type t false h = bad_as BAD_TYPE_MISMATCH code (omega arith) (same_fault _ _ h)

    by_time : (o : Option ℤ)
        → ((ok_or o BAD_INVALID_TIMESTAMP >>= λ time.
        if fits_type type v.value then Ok time else Err BAD_TYPE_MISMATCH) >>= λ time.
        checked_size request own (writing asked v time)) ≡ Err code → IsBad code
    by_time None h = bad_as BAD_INVALID_TIMESTAMP code (omega arith) (same_fault _ _ h)
    by_time (Some t) h = by_type t (fits_type type v.value) h

conflict_bad : (asked : HistoryUpdateType) (live : Bool) (code : Status)
    → conflict asked live ≡ Some code → IsBad code
conflict_bad Insert true code e = bad_as BAD_ENTRY_EXISTS code (omega arith) (same_Some _ _ e)
conflict_bad Insert false code e = absurd (none-some _ e)
conflict_bad Replace true code e = absurd (none-some _ e)
conflict_bad Replace false code e = bad_as BAD_NO_ENTRY_EXISTS code (omega arith) (same_Some _ _ e)
conflict_bad Update true code e = absurd (none-some _ e)
conflict_bad Update false code e = absurd (none-some _ e)
conflict_bad Delete true code e = absurd (none-some _ e)
conflict_bad Delete false code e = bad_as BAD_NO_ENTRY_EXISTS code (omega arith) (same_Some _ _ e)

same_refused : (a b : Status) → Refused a ≡ Refused b → a ≡ b
same_refused a b e = cc

not_refused : {X : Type 0} (a b : Status) (r : Record) → Added a r ≡ Refused b → X
not_refused a b r e = absurd (cc)

pub refused_bad : (R : Content) (own : ℕ) (request : Request) (op : Operation) (code : Status)
    → outcome R own request op ≡ Refused code → IsBad code
refused_bad R own request op code e = by_change (change_by request own op) refl e
  where
    by_tick : (change : Change) (o : Option ℤ)
        → stamped R own request change (done change.asked (is_live R request.node change.time)) o
        ≡ Refused code → IsBad code
    by_tick change None h = bad_as BAD_RESOURCE_UNAVAILABLE code (omega arith) (same_refused _ _ h)
    by_tick change (Some t) h = not_refused _ _ _ h

    by_conflict : (change : Change) (o : Option Status)
        → conflict change.asked (is_live R request.node change.time) ≡ o
        → checked_change R own request change (is_live R request.node change.time) o ≡ Refused code
        → IsBad code
    by_conflict change (Some c) f h =
        bad_as c code (conflict_bad change.asked (is_live R request.node change.time) c f)
        (same_refused _ _ h)
    by_conflict change None f h = by_tick change (lift request.reading (top R)) h

    by_change : (x : Result Change Status) → change_by request own op ≡ x
        → outcome_of R own request x ≡ Refused code → IsBad code
    by_change (Err c) p h = bad_as c code (change_bad request own op c p) (same_refused _ _ h)
    by_change (Ok change) p h = by_conflict change
        (conflict change.asked (is_live R request.node change.time)) refl h

pub added_good : (R : Content) (own : ℕ) (request : Request) (op : Operation) (code : Status)
    (r : Record) → outcome R own request op ≡ Added code r → IsGood code
added_good R own request op code r e = let m = made R own request op code r e in
    subst IsGood (sym m.told) (done_good m.change.asked (is_live R request.node m.change.time))

not_both : {X : Type 0} (code : Status) → IsBad code → IsGood code → X
not_both code bad good = absurd (omega (arith, bad, good))

pub record_made : (R : Content) (own : ℕ) (request : Request) (op : Operation) (code : Status)
    (r : Record) → outcome R own request op ≡ Added code r → IsRecordOf request own op r
record_made R own request op code r e =
    let m = made R own request op code r e in
    record {
      origin = ap (λ (z : Record). z.origin) m.is;
      node = ap (λ (z : Record). z.node) m.is;
      user = ap (λ (z : Record). z.user) m.is;
      change = subst (λ (z : Record). change_by request own op
          ≡ Ok (record { time = z.time; asked = z.asked; value = z.value })) (sym m.is) m.asked;
    }

record_new : (R : Content) (own : ℕ) (request : Request) (op : Operation) (code : Status)
    (r : Record) → outcome R own request op ≡ Added code r → IsNewBehind R request r
record_new R own request op code r e = record {
  above =
      λ s h. new_above R own request op code r s e h;
  timed = new_timed R own request op code r e;
}

-- the record of what was asked for stands behind a break
abbrev pub IsStanding : Content → ℕ → Request → Operation → StepResult → Type 0
IsStanding R own request op m = (m ≡ RecordStands) × (r : Record)
    × (left_by R (outcome R own request op) m ≡ put r R) × IsRecordOf request own op r
    × IsNewBehind R request r

standing_by : (R : Content) (own : ℕ) (request : Request) (op : Operation) (o : Outcome)
    → outcome R own request op ≡ o
    → (left_by R (outcome R own request op) RecordStands ≡ R)
    ⊎ IsStanding R own request op RecordStands
standing_by R own request op (Refused c) e = inl (ap (λ o. left_by R o RecordStands) e)
standing_by R own request op (Added c r) e =
    inr (
      refl,
      r,
      ap (λ o. left_by R o RecordStands) e,
      record_made R own request op c r e,
      record_new R own request op c r e,
    )

pub bad_kept : (R : Content) (own : ℕ) (request : Request) (op : Operation) (m : StepResult)
    → IsBad (code_by (outcome R own request op) m)
    → (left_by R (outcome R own request op) m ≡ R) ⊎ IsStanding R own request op m
bad_kept R own request op NoMemory h = inl refl
bad_kept R own request op (StoreFailed f) h = inl refl
bad_kept R own request op RecordStands h =
    standing_by R own request op (outcome R own request op) refl
bad_kept R own request op Done h = inl (go (outcome R own request op) refl h)
  where
    go : (o : Outcome) → outcome R own request op ≡ o → IsBad (code_by o Done)
        → left_by R o Done ≡ R
    go (Refused c) e k = refl
    go (Added c r) e k = not_both c k (added_good R own request op c r e)

abbrev pub IsDone : Content → ℕ → Request → Operation → StepResult → Outcome → Type 0
IsDone R own request op m o = (r : Record) × (o ≡ Added (code_by o m) r) × (left_by R o m ≡ put r R)
    × IsRecordOf request own op r × IsNewBehind R request r

pub good_done : (R : Content) (own : ℕ) (request : Request) (op : Operation) (m : StepResult)
    → IsGood (code_by (outcome R own request op) m)
    → IsDone R own request op m (outcome R own request op)
good_done R own request op NoMemory h = not_both BAD_OUT_OF_MEMORY (omega arith) h
good_done R own request op (StoreFailed f) h = not_both (store_fault_status f) (fault_bad f) h
good_done R own request op RecordStands h =
    not_both (store_fault_status fault.Broken) (fault_bad fault.Broken) h
good_done R own request op Done h = go (outcome R own request op) refl h
  where
    go : (o : Outcome) → outcome R own request op ≡ o → IsGood (code_by o Done)
        → IsDone R own request op Done o
    go (Refused c) e k = not_both c (refused_bad R own request op c e) k
    go (Added c r) e k = (
      r,
      refl,
      refl,
      record_made R own request op c r e,
      record_new R own request op c r e,
    )

pub bad_or_good : (R : Content) (own : ℕ) (request : Request) (op : Operation) (m : StepResult)
    → IsBad (code_by (outcome R own request op) m) ⊎ IsGood (code_by (outcome R own request op) m)
bad_or_good R own request op NoMemory = inl (omega arith)
bad_or_good R own request op (StoreFailed f) = inl (fault_bad f)
bad_or_good R own request op RecordStands = inl (fault_bad fault.Broken)
bad_or_good R own request op Done = go (outcome R own request op) refl
  where
    go : (o : Outcome) → outcome R own request op ≡ o
        → IsBad (code_by o Done) ⊎ IsGood (code_by o Done)
    go (Refused c) e = inl (refused_bad R own request op c e)
    go (Added c r) e = inr (added_good R own request op c r e)

-- ---- several operations

left_within : (R : Content) (o : Outcome) (m : StepResult) → IsWithin R (left_by R o m)
left_within R o NoMemory r h = h
left_within R o (StoreFailed f) r h = h
left_within R (Refused c) Done r h = h
left_within R (Added c s) Done r h = has-put s R r (inr h)
left_within R (Refused c) RecordStands r h = h
left_within R (Added c s) RecordStands r h = has-put s R r (inr h)

-- what they answer and leave, whatever marks are given
abbrev pub came_to : ℕ → Request → List Operation → Content → List StepResult
    → List Status × Content
came_to own request ops R marks = (update_all own request ops R marks).0

pub all_within : (own : ℕ) (request : Request) (ops : List Operation) (R : Content)
    (marks : List StepResult) → IsWithin R (came_to own request ops R marks).1
all_within own request [] R marks r h = h
all_within own request (op ∷ ops) R [] r h =
    all_within own request ops (left_by R (outcome R own request op) Done) [] r
    (left_within R (outcome R own request op) Done r h)
all_within own request (op ∷ ops) R (m ∷ marks) r h =
    all_within own request ops (left_by R (outcome R own request op) m) marks r
    (left_within R (outcome R own request op) m r h)

-- the first of them, where its code is Good
first_stands : (own : ℕ) (request : Request) (op : Operation) (ops : List Operation) (R : Content)
    (m : StepResult) (marks : List StepResult) → IsGood (code_by (outcome R own request op) m)
    → HasRecordOf R (came_to own request ops (left_by R (outcome R own request op) m) marks).1
    request own op
first_stands own request op ops R m marks good =
    let d = good_done R own request op m good in
    let there : Has (left_by R (outcome R own request op) m) d.0 =
    subst (λ S. Has S d.0) (sym d.2) (has-put d.0 R d.0 (inl refl)) in (
      d.0,
      all_within own request ops (left_by R (outcome R own request op) m) marks d.0 there,
      d.3,
      d.4,
    )

-- what is new behind more is new behind what was there before
older : (R S T : Content) (own : ℕ) (request : Request) (op : Operation) → IsWithin R S
    → HasRecordOf S T request own op → HasRecordOf R T request own op
older R S T own request op within h =
    (h.0, h.1, h.2, record { above = λ s k. h.3.above s (within s k); timed = h.3.timed })

pub all_stand : (own : ℕ) (request : Request) (ops : List Operation) (R : Content)
    (marks : List StepResult) (k : ℕ) (op : Operation)
    → IsAnsweredGood ops (came_to own request ops R marks).0 k op
    → HasRecordOf R (came_to own request ops R marks).1 request own op
all_stand own request [] R marks k op a = absurd (none-some _ a.asked)
all_stand own request (o ∷ ops) R [] zero op a =
    let good : IsGood (code_by (outcome R own request o) Done) =
    subst IsGood (sym (same_Some _ _ a.told)) a.good in
    subst (HasRecordOf R (came_to own request ops (left_by R (outcome R own request o) Done) []).1
    request own) (same_Some _ _ a.asked) (first_stands own request o ops R Done [] good)
all_stand own request (o ∷ ops) R (m ∷ marks) zero op a =
    let good : IsGood (code_by (outcome R own request o) m) =
    subst IsGood (sym (same_Some _ _ a.told)) a.good in
    subst (HasRecordOf R (came_to own request ops (left_by R (outcome R own request o) m) marks).1
    request own) (same_Some _ _ a.asked) (first_stands own request o ops R m marks good)
all_stand own request (o ∷ ops) R [] (suc k) op a =
    older R (left_by R (outcome R own request o) Done) _ own request op
    (left_within R (outcome R own request o) Done)
    (all_stand own request ops (left_by R (outcome R own request o) Done) [] k op
    (record { asked = a.asked; code = a.code; told = a.told; good = a.good }))
all_stand own request (o ∷ ops) R (m ∷ marks) (suc k) op a =
    older R (left_by R (outcome R own request o) m) _ own request op
    (left_within R (outcome R own request o) m)
    (all_stand own request ops (left_by R (outcome R own request o) m) marks k op
    (record { asked = a.asked; code = a.code; told = a.told; good = a.good }))

after_closed : (R : Content) (own : ℕ) (request : Request) (op : Operation) → IsClosed R
    → (o : Outcome) → outcome R own request op ≡ o → IsClosed (content_after R o)
after_closed R own request op closed (Refused c) e = closed
after_closed R own request op closed (Added c r) e =
    closed-next R r closed (new_next R own request op c r closed e)

left_closed : (R : Content) (own : ℕ) (request : Request) (op : Operation) (m : StepResult)
    → IsClosed R → IsClosed (left_by R (outcome R own request op) m)
left_closed R own request op NoMemory closed = closed
left_closed R own request op (StoreFailed f) closed = closed
left_closed R own request op Done closed =
    after_closed R own request op closed (outcome R own request op) refl
left_closed R own request op RecordStands closed =
    after_closed R own request op closed (outcome R own request op) refl

all_closed : (own : ℕ) (request : Request) (ops : List Operation) (R : Content)
    (marks : List StepResult) → IsClosed R → IsClosed (came_to own request ops R marks).1
all_closed own request [] R marks closed = closed
all_closed own request (op ∷ ops) R [] closed =
    all_closed own request ops (left_by R (outcome R own request op) Done) []
    (left_closed R own request op Done closed)
all_closed own request (op ∷ ops) R (m ∷ marks) closed =
    all_closed own request ops (left_by R (outcome R own request op) m) marks
    (left_closed R own request op m closed)

-- the first of them adds its record, where its code is Good or the record stands, and no other
one_adds : (may : Bool) (own : ℕ) (request : Request) (op : Operation) (ops : List Operation)
    (R : Content) (m : StepResult) (marks : List StepResult) → (m ≡ RecordStands → may ≡ true)
    → ((T : Content) → AddsEach may request own ops (came_to own request ops T marks).0 T
    (came_to own request ops T marks).1)
    → AddsEach may request own (op ∷ ops) (code_by (outcome R own request op) m
    ∷ (came_to own request ops (left_by R (outcome R own request op) m) marks).0) R
    (came_to own request ops (left_by R (outcome R own request op) m) marks).1
one_adds may own request op ops R m marks allowed more =
    let T = left_by R (outcome R own request op) m in
    let behind : Content → Type 0 =
    λ U. AddsEach may request own ops (came_to own request ops T marks).0 U
    (came_to own request ops T marks).1 in
    elim (bad_or_good R own request op m) [
      | inl bad ↦ elim (bad_kept R own request op m bad) [
        | inl kept ↦ inl (bad, subst behind kept (more T))
        | inr d ↦ inr (
          inr (allowed d.0, ap (code_by (outcome R own request op)) d.0),
          d.1,
          d.3,
          d.4,
          subst behind d.2 (more T),
        )
      ]
      | inr good ↦ let d = good_done R own request op m good in
          inr (inl good, d.0, d.3, d.4, subst behind d.2 (more T))
    ]

fine_stands : {X : Type 0} → Done ≡ RecordStands → X
fine_stands e = absurd (cc)

pub all_add : (may : Bool) (own : ℕ) (request : Request) (ops : List Operation) (R : Content)
    (marks : List StepResult) → MayStandBehindBreak may marks
    → AddsEach may request own ops (came_to own request ops R marks).0 R
    (came_to own request ops R marks).1
all_add may own request [] R marks allowed = (refl, refl)
all_add may own request (op ∷ ops) R [] allowed =
    one_adds may own request op ops R Done [] fine_stands (λ T. all_add may own request ops T [] tt)
all_add may own request (op ∷ ops) R (m ∷ marks) allowed =
    one_adds may own request op ops R m marks allowed.0
    (λ T. all_add may own request ops T marks allowed.1)

-- ---- by what they came to

-- what steps do, without marks behind them
pub did : {A : Type 0} (marked : Fallible A) (used : List StepResult) (a : A) → Yields marked used a
    → (marked (used ++ [])).0 ≡ a
did {A} marked used a d = ap (λ (z : A × List StepResult). z.0) (d.does [])

pub updated_within : (R S : Content) (own : ℕ) (request : Request) (ops : List Operation)
    (used : List StepResult) (codes : List Status)
    → Yields (update_all own request ops R) used (codes, S) → IsWithin R S
updated_within R S own request ops used codes d =
    subst (λ (z : List Status × Content). IsWithin R z.1)
    (did (update_all own request ops R) used (codes, S) d)
    (all_within own request ops R (used ++ []))

pub updated_adds : (may : Bool) (R S : Content) (own : ℕ) (request : Request) (ops : List Operation)
    (used : List StepResult) (codes : List Status) → MayStandBehindBreak may used
    → Yields (update_all own request ops R) used (codes, S)
    → AddsEach may request own ops codes R S
updated_adds may R S own request ops used codes allowed d =
    subst (λ (z : List Status × Content). AddsEach may request own ops z.0 R z.1)
    (did (update_all own request ops R) used (codes, S) d)
    (all_add may own request ops R (used
    ++ []) (subst (MayStandBehindBreak may) (sym (append-nil used)) allowed))

pub good_stands : (R S : Content) (own : ℕ) (request : Request) (ops : List Operation)
    (used : List StepResult) (codes : List Status) (k : ℕ) (op : Operation)
    → Yields (update_all own request ops R) used (codes, S) → IsAnsweredGood ops codes k op
    → HasRecordOf R S request own op
good_stands R S own request ops used codes k op d =
    subst (λ (z : List Status × Content). IsAnsweredGood ops z.0 k op
    → HasRecordOf R z.1 request own op) (did (update_all own request ops R) used (codes, S) d)
    (all_stand own request ops R (used ++ []) k op)

pub updated_closed : (R S : Content) (own : ℕ) (request : Request) (ops : List Operation)
    (used : List StepResult) (codes : List Status)
    → Yields (update_all own request ops R) used (codes, S) → IsClosed R → IsClosed S
updated_closed R S own request ops used codes d closed =
    subst (λ (z : List Status × Content). IsClosed z.1)
    (did (update_all own request ops R) used (codes, S) d)
    (all_closed own request ops R (used ++ []) closed)
