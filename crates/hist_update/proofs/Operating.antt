-- One operation over an archive: a survey, a record, and what the archive makes of it.
use Rattle.std.proofs.Common.{◌≡◌, ℕ, ◌+◌, ◌≤◌, ℤ, pos, ◌≤ℤ◌, ◌<ℤ◌, min, Bool, true, false, Option, Some, None, IfSome, IfNone, unwrap_or, List, [], ◌∷◌, Result, Ok, Err, IsErr, refl, sym, ap, ◌∙◌, subst, inl, inr, arith, nat_lt, int_lt, ◌+ℤ◌, option_to_list}
use Rattle.std.specs.Prelude.{if◌then◌else◌}
use Rattle.std.specs.Int.{int_max, int_min}
use Rattle.std.proofs.lemmas.Bool.{true≢false}
use Rattle.std.proofs.lemmas.Int.{ints, clamps}
use Rattle.std.proofs.lemmas.Option.{none-some, same_Some}
use Rattle.stamp.specs.Limits.{greatest, lift}
use Rattle.records.specs.declared.record.Record.{Record}
use Rattle.records.specs.Spelling.{longest}
use Rattle.records.specs.Records.{is_delete}
use Rattle.ua_variant.specs.declared.update_type.HistoryUpdateType.{HistoryUpdateType}
use Rattle.ua_variant.specs.declared.update_type.HistoryUpdateType.TheVariants.{Insert, Replace, Update, Delete}
use Rattle.ua_binary.specs.Binary.{IsNodeId}
use Rattle.ua_binary.specs.declared.values.Ticks.{Ticks}
use Rattle.ua_variant.specs.declared.data.DataValue.{DataValue}
use Rattle.ua_variant.specs.declared.value.ValueType.{ValueType}
use Rattle.ua_variant.specs.DataValue.{IsShortData, IsPicoseconds}
use Rattle.std.specs.Option.{option_and_then, ok_or}
use Rattle.ua_binary.specs.Format.{◌>>=◌}
use Rattle.records.specs.Contents.{Content, vec, top, last_tick, put, finding, learned, IsClosed}
use Rattle.records.proofs.ContentsParts.{after_finding}
use Rattle.records.proofs.Sizes.{fields_length}
use Rattle.records.proofs.LearnLemmas.{finding_next, lt_from_test, le_from_not}
use Rattle.records.proofs.PutLemmas.{last_tick_within}
use Rattle.records.proofs.GreatestLemmas.{numbers_below}
use Rattle.ua_binary.specs.declared.codes.Status.{Status}
use Rattle.ua_binary.specs.declared.codes.TheConstants.Status.{BAD_OUT_OF_MEMORY, BAD_RESOURCE_UNAVAILABLE, BAD_ENCODING_LIMITS_EXCEEDED, BAD_INVALID_TIMESTAMP, BAD_TYPE_MISMATCH}
use Rattle.records.specs.Moments.{moment, ticks_of, pico_of, whole_again, pico_within, pico_again}
use Rattle.archive.specs.declared.fault.StoreFault.{StoreFault}
use Rattle.archive.specs.declared.fault.LearnFault.{LearnFault}
use Rattle.archive.specs.declared.fault.LearnFault.TheVariants as refused
use Rattle.archive.specs.declared.setback.StepError.TheVariants as setback
use Rattle.archive.specs.Fault.{store_fault_status}
use Rattle.archive.specs.Steps.{Yields}
use Rattle.archive.specs.Store.{Store, StepResult, Done, NoMemory, RecordStands, StoreFailed, CountsFaults, Asks, Learns, store_fault_in, answer_to, MayBeMarksAfterRecovery, IsLeft}
use Rattle.archive.proofs.Results.{err-ok}
use Rattle.archive.proofs.Calls.{in_use, left_in_use, passes-none}
use Rattle.archive.specs.Growth.{is_possible, IsUpdateOf, Grows}
use Rattle.archive.proofs.Growing.{grows-none, grows-one}
use Rattle.archive.proofs.Acting.{does-step, there-behind, moves-none-by, moves-stays, left-alone, found-same, learned-left, unlearned-left, IsWithOrWithout}
use Rattle.hist_update.specs.declared.request.Request.{Request}
use Rattle.hist_update.specs.declared.operate.ChangePlace.{ChangePlace}
use Rattle.hist_update.specs.declared.operate.OperationError.{OperationError}
use Rattle.hist_update.specs.declared.operate.OperationError.TheVariants as undone
use Rattle.hist_update.specs.Outcome.{Operation, Write, DeleteAt, IsRequest, writing, source_time, source_pico, fits_type, time_judged, Change, Outcome, Refused, Added, change_by, checked_size, outcome, is_live, conflict, done, record_by, code_in, content_after, checked_change}
use Rattle.hist_update.proofs.OutcomeParts.{deletion, stamped, is_too_long, outcome_of}
use Rattle.hist_update.specs.Updates.{code_by, left_by, update_one}
use Rattle.hist_update.specs.Operating.{Operates, IsChangePlace, candidate_of, is_long, refusal_by, refusal, told_of, Submits, IsDraft, IsNumber}
use Rattle.hist_update.proofs.Asking.{moves-behind}
use Rattle.hist_update.proofs.Deletions.{deletion_short}

some-none : {A : Type 0} {X : Type 0} (a : A) → Some a ≡ None → X
some-none a e = absurd (none-some _ (sym e))

-- ---- what the rules say by what the archive told

-- the outcome by its tests
abbrev by_tests : (R : Content) (own : ℕ) (request : Request) (change : Change) (live : Bool)
    (long : Bool) (conf : Option Status) (tick : Option ℤ) → Outcome
by_tests R own request change live true conf tick = Refused BAD_ENCODING_LIMITS_EXCEEDED
by_tests R own request change live false (Some code) tick = Refused code
by_tests R own request change live false None tick =
    stamped R own request change (done change.asked live) tick

tested : (R : Content) (own : ℕ) (request : Request) (change : Change) (long : Bool)
    → outcome_of R own request (if long then Err BAD_ENCODING_LIMITS_EXCEEDED else Ok change)
    ≡ by_tests R own request change (is_live R request.node change.time) long
    (conflict change.asked (is_live R request.node change.time)) (lift request.reading (top R))
tested R own request change true = refl
tested R own request change false = go (conflict change.asked (is_live R request.node change.time))
  where
    go : (conf : Option Status) → checked_change R own request change
        (is_live R request.node change.time) conf
        ≡ by_tests R own request change (is_live R request.node change.time) false conf
        (lift request.reading (top R))
    go None = refl
    go (Some code) = refl

refused_by_tests : (R : Content) (own : ℕ) (request : Request) (change : Change) (live long : Bool)
    (conf : Option Status) (tick : Option ℤ) (code : Status)
    → refusal_by long conf tick ≡ Some code
    → by_tests R own request change live long conf tick ≡ Refused code
refused_by_tests R own request change live true conf tick code e = ap Refused (same_Some _ _ e)
refused_by_tests R own request change live false (Some c) tick code e = ap Refused (same_Some _ _ e)
refused_by_tests R own request change live false None None code e = ap Refused (same_Some _ _ e)
refused_by_tests R own request change live false None (Some t) code e = absurd (none-some _ e)

added_by_tests : (R : Content) (own : ℕ) (request : Request) (change : Change) (live long : Bool)
    (conf : Option Status) (tick : Option ℤ)
    → refusal_by long conf tick ≡ None
    → (t : ℤ) × (tick ≡ Some t) × (by_tests R own request change live long conf tick
    ≡ Added (done change.asked live) (record_by request own (vec R own + 1) t change))
added_by_tests R own request change live true conf tick e = some-none _ e
added_by_tests R own request change live false (Some c) tick e = some-none _ e
added_by_tests R own request change live false None None e = some-none _ e
added_by_tests R own request change live false None (Some t) e = (t, refl, refl)

-- the tests of a record and its place are those of the rules
same_refusal : (R : Content) (own : ℕ) (request : Request) (change : Change) (place : ChangePlace)
    → place.live ≡ is_live R request.node change.time → place.tick ≡ lift request.reading (top R)
    → place.origin ≡ own
    → refusal (candidate_of request place change) place
    ≡ refusal_by (is_too_long request own change) (conflict change.asked
    (is_live R request.node change.time)) (lift request.reading (top R))
same_refusal R own request change place live tick origin =
    let long : is_long (candidate_of request place change) ≡ is_too_long request own change =
    ap (λ n. nat_lt longest n) (fields_length (candidate_of request place change)
    ∙ sym (fields_length (record_by request own 1 (pos 1) change))) in
    ap (λ x. refusal_by x (conflict change.asked place.live) place.tick) long
    ∙ (ap (λ x. refusal_by (is_too_long request own change) (conflict change.asked x) place.tick)
    live
    ∙ ap (λ x. refusal_by (is_too_long request own change)
    (conflict change.asked (is_live R request.node change.time)) x) tick)

-- a tick that is given is above all others and within the limits
pub record IsLifted (most t : ℤ) : Type 0 where
  pub above : most <ℤ t
  pub within : t ≤ℤ pos greatest
  pub below : most <ℤ pos greatest

pub lifted : (now most t : ℤ) → lift now most ≡ Some t → IsLifted most t
lifted now most t e = go (int_lt most (pos greatest)) refl e
  where
    go : (x : Bool) → int_lt most (pos greatest) ≡ x
        → (if x then Some (int_max (most +ℤ pos 1) (int_min now (pos greatest))) else None) ≡ Some t
        → IsLifted most t
    go false p h = absurd (none-some _ h)
    go true p h =
        let same : int_max (most +ℤ pos 1) (int_min now (pos greatest)) ≡ t = same_Some _ _ h in
        let low = lt_from_test _ _ p in
        record {
          above = grind (arith, ints, clamps, same, low);
          within =
              grind (arith, ints, clamps, same, low);
          below = low;
        }

-- the tick is that of the moment or a later one, as far as ticks go
pub lifted_timed : (now most t : ℤ) → lift now most ≡ Some t → int_min now (pos greatest) ≤ℤ t
lifted_timed now most t e = go (int_lt most (pos greatest)) e
  where
    go : (x : Bool) → (if x then Some
        (int_max (most +ℤ pos 1) (int_min now (pos greatest))) else None) ≡ Some t
        → int_min now (pos greatest) ≤ℤ t
    go false h = absurd (none-some _ h)
    go true h = let same : int_max (most +ℤ pos 1) (int_min now (pos greatest)) ≡ t =
        same_Some _ _ h in grind (arith, ints, clamps, same)

-- what a change becomes is its origin's next record, above every tick held
pub record IsNew (R : Content) (own : ℕ) (t : ℤ) : Type 0 where
  pub number : vec R own + 1 ≤ greatest
  pub rises : last_tick R own <ℤ t
  pub within : t ≤ℤ pos greatest

pub is_new : (R : Content) (own : ℕ) (now t : ℤ) → IsClosed R → lift now (top R) ≡ Some t
    → IsNew R own t
is_new R own now t closed e =
    let l = lifted now (top R) t e in
    let below = numbers_below R own closed in
    let within = last_tick_within R own in
    record {
      number = omega (arith, ints, l.below, below, within);
      rises =
          omega (arith, ints, l.above, within);
      within = l.within;
    }

-- ---- the four ways in which an operation ends

-- an operation's step, by what it comes to
does-one : (own : ℕ) (request : Request) (op : Operation) (R : Content) (mark : StepResult)
    (code : Status) (S : Content)
    → code_by (outcome R own request op) mark ≡ code → left_by R (outcome R own request op) mark ≡ S
    → Yields (update_one own request op R) (mark ∷ []) (code, S)
does-one own request op R mark code S told left =
    subst (λ (z : Status × Content). Yields (update_one own request op R) (mark ∷ []) z)
    (ap (λ (c : Status). (c, left_by R (outcome R own request op) mark)) told
    ∙ ap (λ (T : Content). (code, T)) left)
    (does-step (λ m. (code_by (outcome R own request op) m, left_by R (outcome R own request op) m))
    mark)

-- the rules refuse it before the archive is asked
pub refused-early : (a : Store) (request : Request) (op : Operation) (code : Status)
    → change_by request a.own op ≡ Err code → Operates a a request op (Err (undone.Refused code))
refused-early a request op code e = record {
  acts = moves-none-by a (Done ∷ []) refl (λ marks R S.
      Yields (update_one a.own request op R) marks (code, S))
      (λ R. does-one a.own request op R Done code R
      (ap (λ x. code_in (outcome_of R a.own request x)) e)
      (ap (λ x. content_after R (outcome_of R a.own request x)) e));
  ended = λ b f. subst IsErr (sym e) refl;
}

fine-met : {X : Type 0} (fault : StoreFault) → StoreFailed fault ≡ Done → X
fine-met fault e = absurd (true≢false (sym (ap (λ m. elim m [ Done ↦ true | _ ↦ false ]) e)))

starved-fine : {X : Type 0} → NoMemory ≡ Done → X
starved-fine e = absurd (true≢false (sym (ap (λ m. elim m [ Done ↦ true | _ ↦ false ]) e)))

-- the survey met a fault
pub survey-failed : (a b : Store) (request : Request) (op : Operation) (fault : StoreFault)
    (P : ChangePlace → Type 0) → Asks {A = ChangePlace} a b (Err fault) P
    → Operates a b request op (Err (undone.Failed (setback.Store fault)))
survey-failed a b request op fault P p = record {
  acts = moves-stays a b (StoreFailed fault
      ∷ []) (λ marks R S. Yields (update_one a.own request op R) marks
      (store_fault_status fault, S)) p.leaves.passes p.stays
      (there-behind a b (Some fault) p.leaves)
      (λ honest R h. does-one a.own request op R (StoreFailed fault)
      (store_fault_status fault) R refl refl);
  ended = λ e f. fine-met fault f;
}

-- what a query that was answered left is what it was answered from
left_by_query : {B : Type 0} (a b : Store) (x : B) (P : B → Type 0) (S : Content)
    → Asks a b (Ok x) P → b.honest → b.content ≡ a.content → IsLeft b S → S ≡ a.content
left_by_query a b x P S p honest same h =
    left-alone b S p.leaves.after honest (left_in_use a b p.leaves) h ∙ same

-- one mark, and the content stays
one_stays : (a : Store) (request : Request) (op : Operation) (mark : StepResult) (code : Status)
    (S : Content) → S ≡ a.content → code_by (outcome a.content a.own request op) mark ≡ code
    → left_by a.content (outcome a.content a.own request op) mark ≡ a.content
    → (marks : List StepResult) × MayBeMarksAfterRecovery false (mark ∷ []) marks
    × Yields (update_one a.own request op a.content) marks (code, S) × Grows a.own a.content S
one_stays a request op mark code S is told left = (
  mark ∷ [],
  found-same false (mark ∷ []),
  does-one a.own request op a.content mark code S told (left ∙ sym is),
  subst (Grows a.own a.content) (sym is) (grows-none a.own a.content),
)

-- there was no memory for the record
pub draft-starved : (a b : Store) (request : Request) (op : Operation) (place : ChangePlace)
    (P : ChangePlace → Type 0) → Asks a b (Ok place) P
    → Operates a b request op (Err (undone.Failed setback.OutOfMemory))
draft-starved a b request op place P p = record {
  acts = moves-behind a b b place P (NoMemory ∷ [])
      (λ marks R S. Yields (update_one a.own request op R) marks (BAD_OUT_OF_MEMORY, S)) p
      (passes-none b) (λ was. was)
      (λ honest is same S h. one_stays a request op NoMemory BAD_OUT_OF_MEMORY S
      (left_by_query a b place P S p honest same h) refl refl);
  ended = λ e f. starved-fine f;
}

-- the rules refuse it at its place
pub settled-refused : (a b : Store) (request : Request) (op : Operation) (change : Change)
    (place : ChangePlace) (code : Status)
    → change_by request a.own op ≡ checked_size request a.own change
    → Asks a b (Ok place) (IsChangePlace a request change.time)
    → refusal (candidate_of request place change) place ≡ Some code
    → Operates a b request op (Err (undone.Refused code))
settled-refused a b request op change place code asked p e = record {
  acts = moves-behind a b b place (IsChangePlace a request change.time) (Done ∷ [])
      (λ marks R S. Yields (update_one a.own request op R) marks (code, S)) p (passes-none b)
      (λ was. was)
      (λ honest at same S h. one_stays a request op Done code S
      (left_by_query a b place (IsChangePlace a request change.time) S p honest same h)
      (ap code_in (refused at)) (ap (content_after a.content) (refused at)));
  ended = λ b f. absurd (none-some _ (p.leaves.ended b));
}
  where
    refused : IsChangePlace a request change.time place
        → outcome a.content a.own request op ≡ Refused code
    refused at =
        ap (outcome_of a.content a.own request) asked
        ∙ (tested a.content a.own request change (is_too_long request a.own change)
        ∙ refused_by_tests a.content a.own request change _ _ _ _ code
        (sym (same_refusal a.content a.own request change place at.live at.tick at.origin) ∙ e))

-- the moment of a change that writes is the one that its value's picoseconds say
abbrev pub IsTimed : Change → Type 0
IsTimed change = is_delete change.asked ≡ false → pico_of change.time ≡ source_pico change.value

possible_by : (asked : HistoryUpdateType) (live : Bool) → conflict asked live ≡ None
    → is_possible asked live ≡ true
possible_by Insert false e = refl
possible_by Insert true e = some-none _ e
possible_by Replace true e = refl
possible_by Replace false e = some-none _ e
possible_by Update live e = refl
possible_by Delete true e = refl
possible_by Delete false e = some-none _ e

free_by : (long : Bool) (conf : Option Status) (tick : Option ℤ) → refusal_by long conf tick ≡ None
    → conf ≡ None
free_by true conf tick e = some-none _ e
free_by false (Some c) tick e = some-none _ e
free_by false None tick e = refl

record Facts (R : Content) (own : ℕ) (request : Request) (op : Operation) (code : Status)
    (r : Record) : Type 0 where
  pub is : outcome R own request op ≡ Added code r
  pub update : IsUpdateOf own R r

facts : (R : Content) (own : ℕ) (request : Request) (op : Operation) (change : Change)
    (place : ChangePlace)
    → IsRequest request → IsTimed change
    → change_by request own op ≡ checked_size request own change → IsClosed R
    → place.live ≡ is_live R request.node change.time → place.origin ≡ own
    → place.number ≡ min (vec R own + 1) greatest → place.tick ≡ lift request.reading (top R)
    → refusal (candidate_of request place change) place ≡ None
    → Facts R own request op (done change.asked place.live) (candidate_of request place change)
facts R own request op change place lawful timed asked closed live origin number tick e =
    let quiet = sym (same_refusal R own request change place live tick origin) ∙ e in
    let made = added_by_tests R own request change
    (is_live R request.node change.time) _ _ _ quiet in
    let t = made.0 in
    let new = is_new R own request.reading t closed made.1 in
    let few : min (vec R own + 1) greatest ≡ vec R own + 1 = omega (arith, new.number) in
    let same : record_by request own (vec R own + 1) t change ≡ candidate_of request place change =
    sym (ap (λ o. record_by request o place.number (unwrap_or place.tick (pos greatest)) change)
    origin
    ∙ (ap (λ n. record_by request own n (unwrap_or place.tick (pos greatest)) change) (number ∙ few)
    ∙ ap (λ o. record_by request own (vec R own + 1) (unwrap_or o (pos greatest)) change)
    (tick ∙ made.1))) in
    record {
      is = ap (outcome_of R own request) asked ∙ (tested R own request change _
          ∙ (made.2 ∙ (ap (λ x. Added (done change.asked x)
          (record_by request own (vec R own + 1) t change)) (sym live)
          ∙ ap (Added (done change.asked place.live)) same)));
      update = subst (IsUpdateOf own R) same (record {
        origin = refl;
        next = finding_next R (record_by request own (vec R own + 1) t change)
            (record { number = refl; rises = new.rises; within = new.within });
        above = (lifted request.reading (top R) t made.1).above;
        possible = possible_by change.asked (is_live R request.node change.time)
            (free_by (is_too_long request own change) _ _ quiet);
        node = lawful.node;
        moment = timed;
      });
    }

-- the archive was given its record
pub settled-submitted : (a b c : Store) (request : Request) (op : Operation) (change : Change)
    (place : ChangePlace) (result : Result Status OperationError)
    → IsRequest request → IsTimed change
    → change_by request a.own op ≡ checked_size request a.own change
    → Asks a b (Ok place) (IsChangePlace a request change.time)
    → refusal (candidate_of request place change) place ≡ None
    → Submits b c (candidate_of request place change) (done change.asked place.live) result
    → Operates a c request op result
settled-submitted a b c request op change place result lawful timed asked p e
    (answer, learns, told_so) =
    subst (λ r. Operates a c request op r) (sym told_so) (go answer learns)
  where
    known : b.honest → IsChangePlace a request change.time place
        → Facts a.content a.own request op (done change.asked place.live)
        (candidate_of request place change)
    known h at =
        let settled = p.leaves.before (p.leaves.passes.honest h) (in_use a b p.leaves) in
        facts a.content a.own request op change place lawful timed asked settled.lawful.closed
        at.live at.origin at.number at.tick e

    -- the archive's honest answer is that the record was added
    added : (x : Result Bool LearnFault) (S : Content)
        → Learns b c (candidate_of request place change) x → store_fault_in x ≡ None → c.honest
        → b.content ≡ a.content → IsChangePlace a request change.time place → IsLeft c S
        → (x ≡ Ok true) × (S ≡ put (candidate_of request place change) a.content)
    added x S l none honest same at h =
        let r = candidate_of request place change in
        let k = known (l.leaves.passes.honest honest) at in
        let (was, told, is) = learned-left b c r x S l none honest h in (
          told ∙ ap (λ T. answer_to (finding T r)) same ∙ ap answer_to k.update.next,
          is ∙ ap (λ T. unwrap_or (learned T r) T) same
              ∙ ap (λ f. unwrap_or (after_finding a.content r f) a.content) k.update.next,
        )

    quiet : (x : Result Bool LearnFault) → store_fault_in x ≡ None
        → Learns b c (candidate_of request place change) x → CountsFaults b c []
    quiet x none l = subst (λ f. CountsFaults b c (option_to_list f)) none l.leaves.passes

    -- with its record
    one_adds : (mark told : StepResult) (code : Status) (S : Content)
        → IsChangePlace a request change.time place → c.honest → b.honest
        → S ≡ put (candidate_of request place change) a.content
        → MayBeMarksAfterRecovery false (told ∷ []) (mark ∷ [])
        → code_by (Added (done change.asked place.live) (candidate_of request place change)) mark
        ≡ code → left_by a.content (Added (done change.asked place.live)
        (candidate_of request place change)) mark
        ≡ put (candidate_of request place change) a.content
        → (marks : List StepResult) × MayBeMarksAfterRecovery false (told ∷ []) marks
        × Yields (update_one a.own request op a.content) marks (code, S) × Grows a.own a.content S
    one_adds mark told code S at honest before is found coded left =
        let k = known before at in (
          mark ∷ [],
          found,
          does-one a.own request op a.content mark code S (ap (λ o. code_by o mark) k.is ∙ coded)
              (ap (λ o. left_by a.content o mark) k.is ∙ left ∙ sym is),
          subst (Grows a.own a.content) (sym is) (grows-one a.own a.content
              (candidate_of request place change) k.update),
        )

    odd : (f : LearnFault) → Learns b c (candidate_of request place change) (Err f)
        → store_fault_in (Err f) ≡ None
        → Operates a c request op (Err (undone.Refused BAD_RESOURCE_UNAVAILABLE))
    odd f l none = record {
      acts = moves-behind a b c place (IsChangePlace a request change.time) (Done ∷ [])
          (λ marks R S. Yields (update_one a.own request op R) marks (BAD_RESOURCE_UNAVAILABLE, S))
          p (quiet (Err f) none l) (there-behind b c (store_fault_in (Err f)) l.leaves)
          (λ honest at same S h. absurd (err-ok (Err f) f true refl
          (added (Err f) S l none honest same at h).0));
      ended = λ y. absurd (none-some _ (p.leaves.ended y));
    }

    -- the store met a fault
    met : (fault : StoreFault) (S R : Content) → IsChangePlace a request change.time place
        → c.honest → b.honest → R ≡ a.content
        → IsWithOrWithout b (candidate_of request place change) fault R S
        → (marks : List StepResult) × MayBeMarksAfterRecovery false (StoreFailed fault ∷ []) marks
        × Yields (update_one a.own request op a.content) marks (store_fault_status fault, S)
        × Grows a.own a.content S
    met fault S R at honest before was (inl without) =
        one_stays a request op (StoreFailed fault) (store_fault_status fault) S
        (without ∙ was) refl refl
    met fault S R at honest before was (inr with) =
        one_adds RecordStands (StoreFailed fault) (store_fault_status fault) S at honest before
        (with.3 ∙ ap (put (candidate_of request place change)) was)
        (inr (refl, ap StoreFailed with.1, refl), refl)
        (sym (ap store_fault_status with.1)) refl

    go : (x : Result Bool LearnFault) → Learns b c (candidate_of request place change) x
        → Operates a c request op (told_of x (done change.asked place.live))
    go (Ok x) l = record {
      acts = moves-behind a b c place (IsChangePlace a request change.time) (Done ∷ [])
          (λ marks R S. Yields (update_one a.own request op R) marks
          (done change.asked place.live, S)) p l.leaves.passes (there-behind b c None l.leaves)
          (λ honest at same S h.
          one_adds Done Done (done change.asked place.live) S at honest
          (l.leaves.passes.honest honest) (added (Ok x) S l refl honest same at h).1
          (found-same false (Done ∷ [])) refl refl);
      ended = λ y. absurd (none-some _ (p.leaves.ended y));
    }
    go (Err (refused.Store fault)) l = record {
      acts = moves-behind a b c place (IsChangePlace a request change.time) (StoreFailed fault ∷ [])
          (λ marks R S. Yields (update_one a.own request op R) marks (store_fault_status fault, S))
          p l.leaves.passes (there-behind b c (Some fault) l.leaves) (λ honest at same S h.
          let before = l.leaves.passes.honest honest in
          let (R, was, so) = unlearned-left b c (candidate_of request place change)
          (Err (refused.Store fault)) fault S l refl honest h in
          met fault S R at honest before (left_by_query a b place
          (IsChangePlace a request change.time) R p before same was) so);
      ended = λ y. absurd (none-some _ (p.leaves.ended y));
    }
    go (Err refused.Clash) l = odd _ l refl
    go (Err (refused.Gap held got)) l = odd _ l refl
    go (Err refused.TickTooFar) l = odd _ l refl
    go (Err refused.TickNotRising) l = odd _ l refl

-- ---- drafts of writes

ok_same : (a b : ℤ) (r : Result ℤ Status) → r ≡ Ok a → r ≡ Ok b → a ≡ b
ok_same a b s d e = sym (ap (λ r. elim r [ Ok x ↦ x | Err f ↦ a ]) d)
    ∙ ap (λ r. elim r [ Ok x ↦ x | Err f ↦ a ]) e

not_below : (s m : ℤ) (p : ℕ) → moment s p ≡ m → pos 1 ≤ℤ s → pos 1 ≤ℤ ticks_of m
not_below s m p e h = omega (arith, ints, e, h, whole_again m, pico_within m)

sourced : (o : Option Ticks) (p : ℕ) (t : ℤ)
    → option_and_then (λ (s : Ticks). if int_lt s.0 (pos 1) then None else Some (moment s.0 p)) o
    ≡ Some t → pos 1 ≤ℤ ticks_of t
sourced None p t e = absurd (none-some _ e)
sourced (Some s) p t e = go (int_lt s.0 (pos 1)) refl e
  where
    go : (x : Bool) → int_lt s.0 (pos 1) ≡ x → (if x then None else Some (moment s.0 p)) ≡ Some t
        → pos 1 ≤ℤ ticks_of t
    go true q h = absurd (none-some _ h)
    go false q h = not_below s.0 t p (same_Some _ _ h) (le_from_not _ _ q)

judged_time : (type : ValueType) (v : DataValue) (time : ℤ) → time_judged type v ≡ Ok time
    → pos 1 ≤ℤ ticks_of time
judged_time type v time e = go (source_time v) refl e
  where
    typed_so : (x : Bool) (t : ℤ) → (if x then Ok t else Err BAD_TYPE_MISMATCH) ≡ Ok time → t ≡ time
    typed_so true t h = ok_same t time (Ok t) refl h
    typed_so false t h = absurd (err-ok _ _ _ refl h)

    go : (o : Option ℤ) → source_time v ≡ o
        → (ok_or o BAD_INVALID_TIMESTAMP >>= λ time.
        if fits_type type v.value then Ok time else Err BAD_TYPE_MISMATCH) ≡ Ok time
        → pos 1 ≤ℤ ticks_of time
    go None p h = absurd (err-ok _ _ _ refl h)
    go (Some t) p h = subst (λ u. pos 1 ≤ℤ ticks_of u) (typed_so (fits_type type v.value) t h)
        (sourced v.source_time (source_pico v) t p)

pub write_draft : (request : Request) (place : ChangePlace) (asked : HistoryUpdateType)
    (type : ValueType) (v : DataValue) (time : ℤ)
    → IsRequest request → IsNumber place → is_delete asked ≡ false → IsShortData v
    → time_judged type v ≡ Ok time → IsDraft (candidate_of request place (writing asked v time))
write_draft request place asked type v time lawful number write value judged = record {
  number = number;
  node = lawful.node;
  time = judged_time type v time judged;
  user = lawful.user;
  value = value;
  suits = rw write refl;
}

pub few_by : (o : Option ℕ) → IfSome o IsPicoseconds → unwrap_or o 0 ≤ 9999
few_by None h = omega arith
few_by (Some n) h = h

-- a write's moment has its value's picoseconds
pub written_timed : (asked : HistoryUpdateType) (type : ValueType) (v : DataValue) (time : ℤ)
    → IsShortData v → time_judged type v ≡ Ok time → IsTimed (writing asked v time)
written_timed asked type v time short judged _ = go (source_time v) refl judged
  where
    by_pico : (o : Option Ticks) (p : ℕ) (t : ℤ) → p ≤ 9999
        → option_and_then (λ (s : Ticks). if int_lt s.0 (pos 1) then None else Some (moment s.0 p))
        o ≡ Some t → pico_of t ≡ p
    by_pico None p t few e = absurd (none-some _ e)
    by_pico (Some s) p t few e = by_test (int_lt s.0 (pos 1)) e
      where
        by_test : (x : Bool) → (if x then None else Some (moment s.0 p)) ≡ Some t → pico_of t ≡ p
        by_test true h = absurd (none-some _ h)
        by_test false h = subst (λ u. pico_of u ≡ p) (same_Some _ _ h) (pico_again s.0 p few)

    typed_so : (x : Bool) (t : ℤ) → (if x then Ok t else Err BAD_TYPE_MISMATCH) ≡ Ok time → t ≡ time
    typed_so true t h = ok_same t time (Ok t) refl h
    typed_so false t h = absurd (err-ok _ _ _ refl h)

    go : (o : Option ℤ) → source_time v ≡ o
        → (ok_or o BAD_INVALID_TIMESTAMP >>= λ time.
        if fits_type type v.value then Ok time else Err BAD_TYPE_MISMATCH) ≡ Ok time
        → pico_of time ≡ source_pico v
    go None p h = absurd (err-ok _ _ _ refl h)
    go (Some t) p h = subst (λ u. pico_of u ≡ source_pico v) (typed_so (fits_type type v.value) t h)
        (by_pico v.source_time (source_pico v) t (few_by v.source_pico short.1) p)

pub deletion_timed : (time : ℤ) → IsTimed (deletion time)
deletion_timed time written = absurd (true≢false written)

pub written_by : (request : Request) (own : ℕ) (asked : HistoryUpdateType) (type : ValueType)
    (v : DataValue) (time : ℤ) → time_judged type v ≡ Ok time
    → change_by request own (Write asked type v) ≡ checked_size request own (writing asked v time)
written_by request own asked type v time e =
    ap (λ judged. judged >>= λ time. checked_size request own (writing asked v time)) e

pub unwritten : (request : Request) (own : ℕ) (asked : HistoryUpdateType) (type : ValueType)
    (v : DataValue) (code : Status) → time_judged type v ≡ Err code
    → change_by request own (Write asked type v) ≡ Err code
unwritten request own asked type v code e =
    ap (λ judged. judged >>= λ time. checked_size request own (writing asked v time)) e

-- either way in which a record was settled
pub settled : {A : Type 0} (state : A → Store) (x y z : A) (request : Request) (op : Operation)
    (change : Change) (place : ChangePlace) (r : Record) (result : Result Status OperationError)
    → IsRequest request → IsTimed change
    → change_by request (state x).own op ≡ checked_size request (state x).own change
    → Asks (state x) (state y) (Ok place) (IsChangePlace (state x) request change.time)
    → r ≡ candidate_of request place change
    → IfSome (refusal r place) (λ code. (result ≡ Err (undone.Refused code)) × (z ≡ y))
    → IfNone (refusal r place) (Submits (state y) (state z) r (done r.asked place.live) result)
    → Operates (state x) (state z) request op result
settled state x y z request op change place r result lawful timed asked p is refused submitted =
    go (refusal r place) refl refused submitted
  where
    go : (o : Option Status) → refusal r place ≡ o
        → IfSome o (λ code. (result ≡ Err (undone.Refused code)) × (z ≡ y))
        → IfNone o (Submits (state y) (state z) r (done r.asked place.live) result)
        → Operates (state x) (state z) request op result
    go (Some code) e f s =
        subst (λ w. Operates (state x) (state w) request op result) (sym f.1)
        (subst (λ w. Operates (state x) (state y) request op w) (sym f.0)
        (settled-refused (state x) (state y) request op change place code asked p
        (ap (λ w. refusal w place) (sym is) ∙ e)))
    go None e f s =
        settled-submitted (state x) (state y)
        (state z) request op change place result lawful timed asked p
        (ap (λ w. refusal w place) (sym is) ∙ e)
        (subst (λ w. Submits (state y) (state z) w (done w.asked place.live) result) is s)

pub deleted_by : (request : Request) (own : ℕ) (time : ℤ) → IsNodeId request.node
    → IsRequest request → int_lt (ticks_of time) (pos 1) ≡ false
    → change_by request own (DeleteAt time) ≡ checked_size request own (deletion time)
deleted_by request own time spelled lawful late =
    ap (λ x. if x then Err BAD_INVALID_TIMESTAMP else Ok (deletion time)) late
    ∙ sym (ap (λ x. if x then Err BAD_ENCODING_LIMITS_EXCEEDED else Ok (deletion time))
    (deletion_short request own time spelled lawful))
