-- What a response tells as Good is held.
use Rattle.std.proofs.Common.{◌≡◌, ℕ, zero, suc, Bool, List, [], ◌∷◌, map, length, Option, Some, None, Result, Ok, Err, refl, sym, ap, ◌∙◌, subst, inl, inr}
use Rattle.std.specs.Prelude.{slice_get}
use Rattle.std.proofs.lemmas.Option.{none-some, same_Some}
use Rattle.ua_binary.specs.declared.codes.Status.{Status}
use Rattle.ua_binary.specs.declared.codes.TheConstants.Status.{BAD_HISTORY_OPERATION_UNSUPPORTED}
use Rattle.ua_binary.specs.declared.values.NodeId.{NodeId}
use Rattle.ua_binary.specs.declared.values.Ticks.{Ticks}
use Rattle.ua_variant.specs.declared.value.ValueType.{ValueType}
use Rattle.ua_services.specs.Updates.{Details, UpdateData, DeleteRawModified, DeleteAtTime, Other}
use Rattle.ua_services.specs.declared.updates.HistoryUpdateResult.{HistoryUpdateResult}
use Rattle.ua_session.specs.Sessions.{SessionsState, user_at}
use Rattle.ua_session.specs.declared.fault.SessionFault.{SessionFault}
use Rattle.records.specs.Contents.{Content, IsWithin}
use Rattle.archive.specs.Fault.{status_told}
use Rattle.archive.specs.Store.{StepResult, Done, NoMemory, RecordStands, StoreFailed}
use Rattle.archive.specs.Steps.{Fallible, give, step, memory, and_then, each}
use Rattle.hist_update.specs.declared.request.Request.{Request}
use Rattle.hist_update.specs.Codes.{asked_by, list_refusal, first_other}
use Rattle.hist_update.specs.Outcome.{Operation, DeleteAt, outcome}
use Rattle.hist_update.specs.Updates.{Updated, refused_update, unless, begin, data_refusal, writes, deletes_at, live_times_in, stretch_refusal, listing_refusal, delete_listed, code_by, left_by, update_one}
use Rattle.hist_update.proofs.UpdatesParts.{all_good, run}
use Rattle.hist_update.specs.Laws.{IsGood, HasRecordOf, MayStandBehindBreak, AddsFor}
use Rattle.hist_update.proofs.Answered.{came_to, all_within, all_stand, all_add}
use Rattle.historian.specs.Answers as answer
use Rattle.historian.specs.Answers.{Response}
use Rattle.historian.specs.Reading as reading
use Rattle.historian.specs.UserSpaces.{UserSpace, space_for}
use Rattle.historian.specs.Updating.{node_asked, type_granted, asked_for, update_of, update_item}
use Rattle.historian.proofs.UpdatingParts.{update_by, updated_unless}
use Rattle.historian.specs.Requests as request
use Rattle.historian.specs.Services.{ServerConfig, answered, answered_request, updates_of}
use Rattle.headline.specs.Told.{operations_of, IsHeldFor, AddsFrom, AddsAll}

within_on : (R S T : Content) → IsWithin R S → IsWithin S T → IsWithin R T
within_on R S T a b r h = b r (a r h)

record_within : (R S T : Content) (q : Request) (own : ℕ) (op : Operation) → IsWithin S T
    → HasRecordOf R S q own op → HasRecordOf R T q own op
record_within R S T q own op within has = (has.0, within has.0 has.1, has.2, has.3)

-- ---- operations

-- what is told of the k-th operation is told of one that was asked
told_asked : (own : ℕ) (q : Request) (ops : List Operation) (R : Content) (marks : List StepResult)
    (k : ℕ) (code : Status) → slice_get (came_to own q ops R marks).0 k ≡ Some code
    → (op : Operation) × (slice_get ops k ≡ Some op)
told_asked own q [] R marks k code e = absurd (none-some code e)
told_asked own q (op ∷ ops) R marks zero code e = (op, refl)
told_asked own q (op ∷ ops) R [] (suc k) code e =
    told_asked own q ops (left_by R (outcome R own q op) Done) [] k code e
told_asked own q (op ∷ ops) R (m ∷ marks) (suc k) code e =
    told_asked own q ops (left_by R (outcome R own q op) m) marks k code e

-- each operation of a Good code has its record
abbrev Stand : Content → ℕ → Request → List Operation → Updated → Type 0
Stand R own q ops u = (k : ℕ) (code : Status) → slice_get u.0.operation_results k ≡ Some code
    → IsGood code → (op : Operation) × (slice_get ops k ≡ Some op) × HasRecordOf R u.1 q own op

-- ---- marks

-- among the marks that steps leave a record stands only where one may
abbrev Leaves : {A : Type 0} → (may : Bool) → Fallible A → Type 0
Leaves may marked = (marks : List StepResult) → MayStandBehindBreak may marks
    → MayStandBehindBreak may (marked marks).1

leaves_give : {A : Type 0} (may : Bool) (a : A) → Leaves may (give a)
leaves_give may a marks allowed = allowed

leaves_step : {A : Type 0} (may : Bool) (f : StepResult → A) → Leaves may (step f)
leaves_step may f [] allowed = tt
leaves_step may f (mark ∷ marks) allowed = allowed.1

leaves_memory : (may : Bool) → Leaves may memory
leaves_memory may [] allowed = tt
leaves_memory may (Done ∷ marks) allowed = allowed.1
leaves_memory may (NoMemory ∷ marks) allowed = allowed.1
leaves_memory may (RecordStands ∷ marks) allowed = allowed
leaves_memory may (StoreFailed fault ∷ marks) allowed = allowed

leaves_then : {A B : Type 0} (may : Bool) (first : Fallible A) (more : A → Fallible B)
    → Leaves may first → ((a : A) → Leaves may (more a)) → Leaves may (and_then first more)
leaves_then may first more one other marks allowed =
    other (first marks).0 (first marks).1 (one marks allowed)

leaves_each : {X Y S : Type 0} (may : Bool) (f : X → S → Fallible (Y × S)) (xs : List X) (s : S)
    → ((x : X) (t : S) → Leaves may (f x t)) → Leaves may (each f xs s)
leaves_each may f [] s all marks allowed = allowed
leaves_each may f (x ∷ xs) s all marks allowed =
    let here = f x s marks in
    leaves_each may f xs here.0.1 all here.1 (all x s marks allowed)

leaves_unless : (may : Bool) (reason : Option Status) (R : Content) (more : Fallible Updated)
    → Leaves may more → Leaves may (unless reason R more)
leaves_unless may (Some code) R more leaves marks allowed = allowed
leaves_unless may None R more leaves marks allowed = leaves marks allowed

leaves_past : (may : Bool) (first : Fallible (Option Status)) (R : Content)
    (more : Fallible Updated) → Leaves may first → Leaves may more
    → Leaves may (Rattle.hist_update.specs.Updates.past first R more)
leaves_past may first R more one other marks allowed =
    leaves_unless may (first marks).0 R more other (first marks).1 (one marks allowed)

leaves_begin : (may : Bool) (own : ℕ) (q : Request) (status : List Status → Status)
    (ops : List Operation) (R : Content) → Leaves may (begin own q status ops R)
leaves_begin may own q status ops R =
    leaves_past may memory R (run own q status ops R) (leaves_memory may)
    (λ marks allowed. leaves_each may (update_one own q) ops R
    (λ op T. leaves_step may (λ mark.
    (code_by (outcome T own q op) mark, left_by T (outcome T own q op) mark))) marks allowed)

leaves_update : (may : Bool) (own : ℕ) (asks : NodeId → Request) (type : ValueType)
    (details : Details) (R : Content) → Leaves may (update_of own asks type details R)
leaves_update may own asks type (UpdateData d) R =
    leaves_unless may (data_refusal (asked_by d.1.0) (length d.1.1)) R
    (begin own (asks d.0) all_good (writes (asked_by d.1.0) type d.1.1) R)
    (leaves_begin may own (asks d.0) all_good (writes (asked_by d.1.0) type d.1.1) R)
leaves_update may own asks type (DeleteRawModified d) R =
    let times = live_times_in R (asks d.0).node d.1.1.0.0 d.1.1.1.0 in
    leaves_unless may (stretch_refusal d.1.0 d.1.1.0.0 d.1.1.1.0) R
    (Rattle.hist_update.specs.Updates.past (step status_told) R
    (delete_listed own (asks d.0) times R))
    (leaves_past may (step status_told) R (delete_listed own (asks d.0) times R)
    (leaves_step may status_told)
    (leaves_unless may (listing_refusal times) R (begin own (asks d.0) first_other
    (map DeleteAt times) R) (leaves_begin may own (asks d.0) first_other
    (map DeleteAt times) R)))
leaves_update may own asks type (DeleteAtTime d) R =
    leaves_unless may (list_refusal 1000 (length d.1)) R
    (begin own (asks d.0) all_good (deletes_at d.1) R)
    (leaves_begin may own (asks d.0) all_good (deletes_at d.1) R)
leaves_update may own asks type Other R =
    let kept : Updated = (refused_update BAD_HISTORY_OPERATION_UNSUPPORTED, R) in
    leaves_give may kept

leaves_item : (may : Bool) (own : ℕ) (space : UserSpace) (user : List ℕ) (now : Ticks)
    (details : Details) (R : Content) → Leaves may (update_item own space user now details R)
leaves_item may own space user now details R = by (type_granted space (node_asked details))
  where
    by : (type : Result ValueType Status)
        → Leaves may (update_by own (asked_for user now) details R type)
    by (Err code) =
        let kept : Updated = (refused_update code, R) in
        leaves_give may kept
    by (Ok type) =
        leaves_past may memory R (update_of own (asked_for user now) type details R)
        (leaves_memory may) (leaves_update may own (asked_for user now) type details R)

-- ---- operations and details

-- whatever marks are given, it is so, and nothing is lost
record Does (may : Bool) (own : ℕ) (q : Request) (ops : List Operation) (R : Content)
    (more : Fallible Updated) : Type 0 where
  stand : (marks : List StepResult) → Stand R own q ops (more marks).0
  within : (marks : List StepResult) → IsWithin R (more marks).0.1
  adds : (marks : List StepResult) → MayStandBehindBreak may marks
      → AddsFor may q own ops (more marks).0.0 R (more marks).0.1

refuses : (own : ℕ) (q : Request) (ops : List Operation) (R : Content) (code : Status)
    → Stand R own q ops (refused_update code, R)
refuses own q ops R code k told e good = absurd (none-some told e)

does_unless : (may : Bool) (own : ℕ) (q : Request) (ops : List Operation) (R : Content)
    (reason : Option Status) (more : Fallible Updated) → Does may own q ops R more
    → Does may own q ops R (unless reason R more)
does_unless may own q ops R (Some code) more does =
    record {
      stand = λ marks. refuses own q ops R code;
      within = λ marks r h. h;
      adds =
          λ marks allowed. inr (refl, refl);
    }
does_unless may own q ops R None more does = does

does_past : (may : Bool) (own : ℕ) (q : Request) (ops : List Operation) (R : Content)
    (first : Fallible (Option Status)) (more : Fallible Updated) → Leaves may first
    → Does may own q ops R more → Does may own q ops R
    (Rattle.hist_update.specs.Updates.past first R more)
does_past may own q ops R first more leaves does = record {
  stand = λ marks. (does_unless may own q ops R (first marks).0 more does).stand (first marks).1;
  within = λ marks. (does_unless may own q ops R (first marks).0 more does).within (first marks).1;
  adds = λ marks allowed. (does_unless may own q ops R (first marks).0 more does).adds
      (first marks).1 (leaves marks allowed);
}

does_run : (may : Bool) (own : ℕ) (q : Request) (status : List Status → Status)
    (ops : List Operation) (R : Content) → Does may own q ops R (run own q status ops R)
does_run may own q status ops R = record {
  stand = λ marks k code e good.
      let op = told_asked own q ops R marks k code e in (
        op.0,
        op.1,
        all_stand own q ops R marks k op.0
            (record { asked = op.1; code = code; told = e; good = good }),
      );
  within = λ marks. all_within own q ops R marks;
  adds = λ marks allowed. inl (all_add may own q ops R marks allowed);
}

does_begin : (may : Bool) (own : ℕ) (q : Request) (status : List Status → Status)
    (ops : List Operation) (R : Content) → Does may own q ops R (begin own q status ops R)
does_begin may own q status ops R =
    does_past may own q ops R memory (run own q status ops R) (leaves_memory may)
    (does_run may own q status ops R)

-- ---- details

-- of a node of this type
does_update : (may : Bool) (own : ℕ) (user : List ℕ) (now : Ticks) (type : ValueType)
    (details : Details) (node : NodeId) (R : Content) → node_asked details ≡ Some node
    → Does may own (asked_for user now node) (operations_of type R details) R
    (update_of own (asked_for user now) type details R)
does_update may own user now type (UpdateData d) node R e =
    let ops = writes (asked_by d.1.0) type d.1.1 in
    subst (λ (n : NodeId). Does may own (asked_for user now n) ops R
    (update_of own (asked_for user now) type (UpdateData d) R)) (same_Some _ _ e)
    (does_unless may own (asked_for user now d.0) ops R
    (data_refusal (asked_by d.1.0) (length d.1.1))
    (begin own (asked_for user now d.0) all_good ops R)
    (does_begin may own (asked_for user now d.0) all_good ops R))
does_update may own user now type (DeleteRawModified d) node R e =
    let times = live_times_in R d.0 d.1.1.0.0 d.1.1.1.0 in
    let ops = map DeleteAt times in
    let q = asked_for user now d.0 in
    let listed : Does may own q ops R (delete_listed own q times R) =
    does_unless may own q ops R (listing_refusal times) (begin own q first_other ops R)
    (does_begin may own q first_other ops R) in
    subst (λ (n : NodeId). Does may own (asked_for user now n) ops R
    (update_of own (asked_for user now) type (DeleteRawModified d) R)) (same_Some _ _ e)
    (does_unless may own q ops R (stretch_refusal d.1.0 d.1.1.0.0 d.1.1.1.0)
    (Rattle.hist_update.specs.Updates.past (step status_told) R (delete_listed own q times R))
    (does_past may own q ops R (step status_told) (delete_listed own q times R)
    (leaves_step may status_told) listed))
does_update may own user now type (DeleteAtTime d) node R e =
    let ops = deletes_at d.1 in
    subst (λ (n : NodeId). Does may own (asked_for user now n) ops R
    (update_of own (asked_for user now) type (DeleteAtTime d) R)) (same_Some _ _ e)
    (does_unless may own (asked_for user now d.0) ops R (list_refusal 1000 (length d.1))
    (begin own (asked_for user now d.0) all_good ops R)
    (does_begin may own (asked_for user now d.0) all_good ops R))
does_update may own user now type Other node R e = absurd (none-some node e)

-- whatever they are
record Holds (may : Bool) (marks : List StepResult) (own : ℕ) (space : UserSpace) (user : List ℕ)
    (now : Ticks) (R : Content) (details : Details) (u : Updated) : Type 0 where
  held : IsHeldFor own space user now R details u.0 u.1
  within : IsWithin R u.1
  adds : MayStandBehindBreak may marks → AddsFrom may own space user now R details u.0 u.1

none_held : (may : Bool) (marks : List StepResult) (own : ℕ) (space : UserSpace) (user : List ℕ)
    (now : Ticks) (R : Content) (details : Details) (code : Status)
    → Holds may marks own space user now R details (refused_update code, R)
none_held may marks own space user now R details code =
    record {
      held = record { held = λ k told e good. absurd (none-some told e) };
      within =
          λ r h. h;
      adds = λ allowed. inr (refl, refl);
    }

module _ (may : Bool) (own : ℕ) (space : UserSpace) (user : List ℕ) (now : Ticks) where
  holds_typed : (details : Details) (node : NodeId) (type : ValueType) (R : Content)
      (reason : Option Status) (marks : List StepResult) → node_asked details ≡ Some node
      → type_granted space (Some node) ≡ Ok type
      → Holds may marks own space user now R details
      (updated_unless own (asked_for user now) type details R reason marks).0
  holds_typed details node type R (Some code) marks asked typed =
      none_held may marks own space user now R details code
  holds_typed details node type R None marks asked typed =
      let does = does_update may own user now type details node R asked in
      record {
        held = record {
          held = λ k code e good. let op = does.stand marks k code e good in
              (node, type, op.0, asked, typed, op.1, op.2);
        };
        within = does.within marks;
        adds = λ allowed. inl (node, type, asked, typed, does.adds marks allowed);
      }

  holds_by : (details : Details) (R : Content) (marks : List StepResult) (asked : Option NodeId)
      (type : Result ValueType Status) → node_asked details ≡ asked
      → type_granted space asked ≡ type
      → Holds may marks own space user now R details
      (update_by own (asked_for user now) details R type marks).0
  holds_by details R marks asked (Err code) e f =
      none_held may marks own space user now R details code
  holds_by details R marks None (Ok type) e f = absurd (cc)
  holds_by details R marks (Some node) (Ok type) e f =
      let typed = holds_typed details node type R (memory marks).0 (memory marks).1 e f in
      record {
        held = typed.held;
        within = typed.within;
        adds =
            λ allowed. typed.adds (leaves_memory may marks allowed);
      }

  holds_item : (details : Details) (R : Content) (marks : List StepResult)
      → Holds may marks own space user now R details
      (update_item own space user now details R marks).0
  holds_item details R marks = holds_by details R marks (node_asked details)
      (type_granted space (node_asked details)) refl refl

  -- ---- lists of details

  each_within : (ds : List Details) (R : Content) (marks : List StepResult)
      → IsWithin R (each (update_item own space user now) ds R marks).0.1
  each_within [] R marks r h = h
  each_within (d ∷ ds) R marks r h =
      let here = update_item own space user now d R marks in
      each_within ds here.0.1 here.1 r ((holds_item d R marks).within r h)

  abbrev HeldAmong : Content → Details → HistoryUpdateResult → Content → Type 0
  HeldAmong R d result T = (S : Content) × IsWithin R S × IsHeldFor own space user now S d result T

  held_later : (S T U : Content) (d : Details) (result : HistoryUpdateResult) → IsWithin T U
      → IsHeldFor own space user now S d result T → IsHeldFor own space user now S d result U
  held_later S T U d result within is = record {
    held = λ k code e good. let x = is.held k code e good in (
      x.0,
      x.1,
      x.2,
      x.3,
      x.4,
      x.5,
      record_within S T U (asked_for user now x.0) own x.2 within x.6,
    );
  }

  each_held : (ds : List Details) (R : Content) (marks : List StepResult) (i : ℕ) (d : Details)
      (result : HistoryUpdateResult) → slice_get ds i ≡ Some d
      → slice_get (each (update_item own space user now) ds R marks).0.0 i ≡ Some result
      → HeldAmong R d result (each (update_item own space user now) ds R marks).0.1
  each_held [] R marks i d result at told = absurd (none-some d at)
  each_held (x ∷ ds) R marks zero d result at told =
      let here = update_item own space user now x R marks in
      let final = (each (update_item own space user now) ds here.0.1 here.1).0.1 in
      let is = held_later R here.0.1 final x here.0.0 (each_within ds here.0.1 here.1)
      (holds_item x R marks).held in (
        R,
        λ r h. h,
        subst (λ (y : Details). IsHeldFor own space user now R y result final)
            (same_Some _ _ at) (subst
            (λ (y : HistoryUpdateResult). IsHeldFor own space user now R x y final)
            (same_Some _ _ told) is),
      )
  each_held (x ∷ ds) R marks (suc i) d result at told =
      let here = update_item own space user now x R marks in
      let more = each_held ds here.0.1 here.1 i d result at told in
      (more.0, within_on R here.0.1 more.0 (holds_item x R marks).within more.1, more.2)

  each_adds : (ds : List Details) (R : Content) (marks : List StepResult)
      → MayStandBehindBreak may marks
      → AddsAll may own space user now ds (each (update_item own space user now) ds R marks).0.0 R
      (each (update_item own space user now) ds R marks).0.1
  each_adds [] R marks allowed = (refl, refl)
  each_adds (d ∷ ds) R marks allowed =
      let here = update_item own space user now d R marks in (
        here.0.1,
        (holds_item d R marks).adds allowed,
        each_adds ds here.0.1 here.1 (leaves_item may own space user now d R marks allowed),
      )

  same_results : (a b : List HistoryUpdateResult)
      → ◌≡◌ {A = Response} (Ok (answer.Updated a)) (Ok (answer.Updated b)) → a ≡ b
  same_results a b e = cc

  items_held : (ds : List Details) (R : Content) (reason : Option Status) (marks : List StepResult)
      (results : List HistoryUpdateResult)
      → (reading.unless_refused reason R (and_then (each (update_item own space user now) ds R)
      (λ p marks. ((Ok (answer.Updated p.0), p.1), marks))) marks).0.0 ≡ Ok (answer.Updated results)
      → (i : ℕ) (d : Details) (result : HistoryUpdateResult) → slice_get ds i ≡ Some d
      → slice_get results i ≡ Some result
      → HeldAmong R d result (reading.unless_refused reason R
      (and_then (each (update_item own space user now) ds R)
      (λ p marks. ((Ok (answer.Updated p.0), p.1), marks))) marks).0.1
  items_held ds R (Some code) marks results e i d result at told = absurd (cc)
  items_held ds R None marks results e i d result at told =
      each_held ds R marks i d result at (ap (λ (l : List HistoryUpdateResult). slice_get l i)
      (same_results _ _ e) ∙ told)

  history_held : (ds : List Details) (R : Content) (reason : Option Status)
      (marks : List StepResult) (results : List HistoryUpdateResult)
      → (reading.unless_refused reason R (reading.answer_items answer.Updated
      (update_item own space user now) ds R) marks).0.0 ≡ Ok (answer.Updated results)
      → (i : ℕ) (d : Details) (result : HistoryUpdateResult) → slice_get ds i ≡ Some d
      → slice_get results i ≡ Some result
      → HeldAmong R d result (reading.unless_refused reason R
      (reading.answer_items answer.Updated (update_item own space user now) ds R) marks).0.1
  history_held ds R (Some code) marks results e i d result at told = absurd (cc)
  history_held ds R None marks results e i d result at told =
      items_held ds R (memory marks).0 (memory marks).1 results e i d result at told

  items_added : (ds : List Details) (R : Content) (reason : Option Status) (marks : List StepResult)
      (results : List HistoryUpdateResult)
      → (reading.unless_refused reason R (and_then (each (update_item own space user now) ds R)
      (λ p marks. ((Ok (answer.Updated p.0), p.1), marks))) marks).0.0 ≡ Ok (answer.Updated results)
      → MayStandBehindBreak may marks
      → AddsAll may own space user now ds results R
      (reading.unless_refused reason R (and_then (each (update_item own space user now) ds R)
      (λ p marks. ((Ok (answer.Updated p.0), p.1), marks))) marks).0.1
  items_added ds R (Some code) marks results e allowed = absurd (cc)
  items_added ds R None marks results e allowed =
      subst (λ (l : List HistoryUpdateResult).
      AddsAll may own space user now ds l R (each
      (update_item own space user now) ds R marks).0.1) (same_results _ _ e)
      (each_adds ds R marks allowed)

  history_added : (ds : List Details) (R : Content) (reason : Option Status)
      (marks : List StepResult) (results : List HistoryUpdateResult)
      → (reading.unless_refused reason R (reading.answer_items answer.Updated
      (update_item own space user now) ds R) marks).0.0 ≡ Ok (answer.Updated results)
      → MayStandBehindBreak may marks
      → AddsAll may own space user now ds results R
      (reading.unless_refused reason R (reading.answer_items answer.Updated
      (update_item own space user now) ds R) marks).0.1
  history_added ds R (Some code) marks results e allowed = absurd (cc)
  history_added ds R None marks results e allowed =
      items_added ds R (memory marks).0 (memory marks).1 results e (leaves_memory may marks allowed)

-- ---- a message

abbrev AllHeld : (may : Bool) → ServerConfig → Ticks → NodeId → List Details → SessionsState
    → Content → List HistoryUpdateResult → Content → Type 0
AllHeld may config now token ds sessions R results S =
    (user : List ℕ) × (user_at sessions token ≡ Ok user)
    × ((i : ℕ) (d : Details) (result : HistoryUpdateResult) → slice_get ds i ≡ Some d
    → slice_get results i ≡ Some result
    → (T : Content) × IsWithin R T
    × IsHeldFor config.own (space_for config.settings user) user now T d result S)
    × AddsAll may config.own (space_for config.settings user) user now ds results R S

session_held : (may : Bool) (config : ServerConfig) (now : Ticks) (token : NodeId)
    (ds : List Details)
    (sessions : SessionsState) (R : Content) (marks : List StepResult)
    (results : List HistoryUpdateResult) (user : Result (List ℕ) SessionFault)
    → user_at sessions token ≡ user
    → (updates_of config now ds sessions user R marks).0.0.0 ≡ Ok (answer.Updated results)
    → MayStandBehindBreak may marks
    → AllHeld may config now token ds sessions R results
    (updates_of config now ds sessions user R marks).0.1
session_held may config now token ds sessions R marks results (Err fault) e f allowed = absurd (cc)
session_held may config now token ds sessions R marks results (Ok user) e f allowed = (
  user,
  e,
  history_held may config.own (space_for config.settings user) user now ds R
      (list_refusal 100 (length ds)) marks results f,
  history_added may config.own (space_for config.settings user) user now ds R
      (list_refusal 100 (length ds)) marks results f allowed,
)

pub good_held : (may : Bool) (config : ServerConfig) (now : Ticks) (message : List ℕ)
    (token : NodeId)
    (ds : List Details) (sessions : SessionsState) (R : Content) (marks : List StepResult)
    (results : List HistoryUpdateResult)
    → request.request_in message ≡ Ok (token, Some (request.HistoryUpdate ds))
    → (answered config now message sessions R marks).0.0.0 ≡ Ok (answer.Updated results)
    → MayStandBehindBreak may marks
    → AllHeld may config now token ds sessions R results
    (answered config now message sessions R marks).0.1
good_held may config now message token ds sessions R marks results e =
    subst (λ (r : Result request.Request Status).
    (answered_request config now r sessions R marks).0.0.0 ≡ Ok (answer.Updated results)
    → MayStandBehindBreak may marks
    → AllHeld may config now token ds sessions R results
    (answered_request config now r sessions R marks).0.1) (sym e)
    (by marks)
  where
    by : (ms : List StepResult) → (answered_request config now
        (Ok (token, Some (request.HistoryUpdate ds))) sessions R ms).0.0.0
        ≡ Ok (answer.Updated results)
        → MayStandBehindBreak may ms
        → AllHeld may config now token ds sessions R results
        (answered_request config now
        (Ok (token, Some (request.HistoryUpdate ds))) sessions R ms).0.1
    by [] f allowed = session_held may config now token ds sessions R [] results
        (user_at sessions token) refl f tt
    by (Done ∷ ms) f allowed = session_held may config now token ds sessions R ms results
        (user_at sessions token) refl f allowed.1
    by (NoMemory ∷ ms) f allowed = absurd (cc)
    by (RecordStands ∷ ms) f allowed =
        session_held may config now token ds sessions R ms results
        (user_at sessions token) refl f allowed.1
    by (StoreFailed fault ∷ ms) f allowed =
        session_held may config now token ds sessions R ms results
        (user_at sessions token) refl f allowed.1
