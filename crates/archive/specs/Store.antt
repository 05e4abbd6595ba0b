-- What an archive keeps, and what its calls leave.
use Rattle.std.specs.Prelude.{◌≡◌, ◌⊎◌, ◌||◌, ℕ, ◌≤◌, ◌+◌, ◌-◌, ◌^◌, min, max, Bool, true, false, List, [], ◌∷◌, Option, Some, None, IfSome, unwrap_or, option_to_list, Result, Ok, Err, IfOk}
use Rattle.std.specs.List.{list_any, flat_map, AllByRecursion}
use Rattle.records.specs.Lists.{Has}
use Rattle.records.specs.Contents.{Content, IsClosed, Finding, Adds, Holds, Clash, Gap, TickTooFar, TickNotRising, finding, learned, put}
use Rattle.records.specs.Spelling.{IsLawfulRecord}
use Rattle.records.specs.declared.record.Record.{Record}
use Rattle.archive.specs.declared.fault.StoreFault.{StoreFault}
use Rattle.archive.specs.declared.fault.StoreFault.TheVariants.{Broken, WrongReplica, WrongArchive}
use Rattle.archive.specs.declared.fault.LearnFault.{LearnFault}
use Rattle.archive.specs.declared.fault.LearnFault.TheVariants as refused

-- an archive's state: what it holds, whose it is, and what its store may do
pub record Store : Type 1 where
  -- the records held; nothing is said of them while it is broken
  pub content : Content
  -- the number of its replica
  pub own : ℕ
  -- the archive's id
  pub id : List ℕ
  -- each call that reads or writes the store answers Broken, until it is opened again
  pub broken : Bool
  -- how many calls answered a fault of the store, at most 2^64 - 1
  pub failed : ℕ
  -- so far the store returned what was written to it
  pub honest : Type 0
  -- what an opening after a crash at this moment may find
  pub may_hold : Content → Type 0
  -- the faults that its calls may answer
  pub meets : StoreFault → Type 0

-- each origin's records are its first ones, with ticks that rise, and each record is lawful
pub record IsLawfulContent (R : Content) : Type 0 where
  pub closed : IsClosed R
  pub records : (r : Record) → Has R r → IsLawfulRecord r

-- its content is lawful, and is what a crash leaves, nothing else
pub record IsSettled (s : Store) : Type 0 where
  pub lawful : IsLawfulContent s.content
  pub stays : s.may_hold s.content
  pub only : (left : Content) → s.may_hold left → left ≡ s.content

-- as long as the store is used, it is settled
abbrev pub IsQuiescent : Store → Type 0
IsQuiescent s = s.honest → s.broken ≡ false → IsSettled s

-- ---- what comes in the way

-- nothing came in the way of a step, or memory was wanting, or the store met a fault; or it broke,
-- and the step's record stands
pub data StepResult : Type 0 where
  Done NoMemory RecordStands : StepResult
  StoreFailed : StoreFault → StepResult

-- the faults of the store that a step's result tells
abbrev pub faults_in : StepResult → List StoreFault
faults_in mark = elim mark [ StoreFailed fault ↦ fault ∷ [] | RecordStands ↦ Broken ∷ [] | _ ↦ [] ]

-- the faults of the store among what came in the way of some steps, in order
abbrev pub faults_of : List StepResult → List StoreFault
faults_of = flat_map faults_in

-- ---- what calls leave

-- so many faults more; the count stops at 2^64 - 1
abbrev pub faults_after : ℕ → ℕ → ℕ
faults_after n failed = min (failed + n) (2 ^ 64 - 1)

-- each fault is counted
abbrev pub failed_by : List StoreFault → ℕ → ℕ
failed_by [] failed = failed
failed_by (fault ∷ faults) failed = failed_by faults (faults_after 1 failed)

-- the fault that breaks a store
abbrev pub is_break : StoreFault → Bool
is_break fault = elim fault [ Broken ↦ true | _ ↦ false ]

-- faults of opening alone
abbrev pub IsOfOpening : StoreFault → Type 0
IsOfOpening fault = (fault ≡ WrongReplica) ⊎ (fault ≡ WrongArchive)

-- some calls, or none, were made, whose faults of the store were these, in order
pub record CountsFaults (old new : Store) (faults : List StoreFault) : Type 0 where
  pub own : new.own ≡ old.own
  pub id : new.id ≡ old.id
  pub honest : new.honest → old.honest
  pub failed : new.failed ≡ failed_by faults old.failed
  pub broken : new.broken ≡ (old.broken || list_any is_break faults)
  pub met : AllByRecursion (λ f. old.meets f × (IsOfOpening f → ⊥)) faults
  pub meets : (f : StoreFault) → new.meets f → old.meets f

-- one call was made, and answered this fault of the store, if any
pub record AfterCall (old new : Store) (fault : Option StoreFault) : Type 0 where
  pub before : IsQuiescent old
  pub after : IsQuiescent new
  pub passes : CountsFaults old new (option_to_list fault)
  pub ended : old.broken ≡ true → fault ≡ Some Broken
  -- behind Broken too an opening finds something
  pub some : new.honest → ((left : Content) → new.may_hold left → ⊥) → ⊥

-- the content stays, and a crash leaves nothing that it couldn't leave before
pub record KeepsContent (old new : Store) : Type 0 where
  pub content : new.honest → new.broken ≡ false → new.content ≡ old.content
  pub crash : new.honest → (left : Content) → new.may_hold left → old.may_hold left

-- ---- queries

-- the fault of the store, where there is one
abbrev pub fault_in : {A : Type 0} → Result A StoreFault → Option StoreFault
fault_in (Ok a) = None
fault_in (Err fault) = Some fault

-- a query's answer is such a one, or a fault of the store came; the content stays
pub record Asks {A : Type 0} (old new : Store) (result : Result A StoreFault)
    (IsAnswer : A → Type 0) : Type 0 where
  pub answer : new.honest → IfOk result IsAnswer
  pub stays : KeepsContent old new
  pub leaves : AfterCall old new (fault_in result)

-- ---- learning

-- the fault of the store in what learning a record answered, where that is one
abbrev pub store_fault_in : Result Bool LearnFault → Option StoreFault
store_fault_in (Err (refused.Store fault)) = Some fault
store_fault_in result = None

-- what a finding is answered: whether the record is added, or why it is refused
abbrev pub answer_to : Finding → Result Bool LearnFault
answer_to finding =
    elim finding [
      | Adds ↦ Ok true
      | Holds ↦ Ok false
      | Clash ↦ Err refused.Clash
      | Gap held got ↦ Err (refused.Gap held got)
      | TickTooFar ↦ Err refused.TickTooFar
      | TickNotRising ↦ Err refused.TickNotRising
    ]

-- a record is learned: what it meets is answered, and the content is the old one, with the record
-- where that is added; a fault of the store leaves the content as it was. Behind Ok the record is
-- durable: a crash leaves the new content alone, as long as the store isn't broken (`leaves`)
pub record Learns (old new : Store) (r : Record) (result : Result Bool LearnFault) : Type 0 where
  pub answered : new.honest → store_fault_in result ≡ None
      → (result ≡ answer_to (finding old.content r))
      × (new.content ≡ unwrap_or (learned old.content r) old.content)
  pub kept : new.honest → new.broken ≡ false
      → IfSome (store_fault_in result) (λ _. new.content ≡ old.content)
  -- at any exit, a crash leaves what it could leave before, or the content with this one record
  pub crash : new.honest → (left : Content) → new.may_hold left
      → old.may_hold left
      ⊎ ((old.broken ≡ false) × (finding old.content r ≡ Adds) × (left ≡ put r old.content))
  pub leaves : AfterCall old new (store_fault_in result)

-- ---- what is held, through any calls

-- what an archive in use holds, or an opening may find, if its store broke or it was stopped there
abbrev pub IsLeft : Store → Content → Type 0
IsLeft s R = ((s.broken ≡ false) × (s.content ≡ R)) ⊎ s.may_hold R

-- something is left; behind a break no call says what
abbrev pub IsThere : Store → Type 0
IsThere s = s.honest → ((R : Content) → IsLeft s R → ⊥) → ⊥

-- behind this result the store is broken
abbrev pub breaks : StepResult → Bool
breaks mark = list_any is_break (faults_in mark)

-- the marks are those of the steps, as an opening after them may find it: of the step that first
-- broke the store the record may stand
abbrev pub MayBeMarksAfterRecovery : (broken : Bool) → (used marks : List StepResult) → Type 0
MayBeMarksAfterRecovery broken [] marks = marks ≡ []
MayBeMarksAfterRecovery broken (told ∷ used) [] = ⊥
MayBeMarksAfterRecovery broken (told ∷ used) (mark ∷ marks) =
    ((mark ≡ told) ⊎ ((broken ≡ false) × (told ≡ StoreFailed Broken) × (mark ≡ RecordStands)))
    × MayBeMarksAfterRecovery (broken || breaks told) used marks

-- ---- how much is asked for

-- of the greatest limit that queries were given so far: no call in between was given a greater one
-- than this
abbrev pub IsAskedWithin : (limit old new : ℕ) → Type 0
IsAskedWithin limit old new = new ≤ max old limit
