-- Steps that something may come in the way of, and steps over an archive.
use Rattle.std.specs.Prelude.{◌≡◌, List, [], ◌∷◌, ◌++◌, Option, Some, None}
use Rattle.ua_binary.specs.declared.codes.Status.{Status}
use Rattle.ua_binary.specs.declared.codes.TheConstants.Status.{BAD_OUT_OF_MEMORY}
use Rattle.records.specs.Contents.{Content}
use Rattle.archive.specs.Store.{Store, StepResult, Done, NoMemory, RecordStands, StoreFailed, faults_of, CountsFaults, IsLeft, IsThere, MayBeMarksAfterRecovery}
use Rattle.archive.specs.Growth.{Grows}

-- what depends on what comes in the way of its steps: by a mark for each of them, its value, and
-- the marks that are left
abbrev pub Fallible : Type 0 → Type 0
Fallible A = List StepResult → (A × List StepResult)

-- a value, which depends on nothing
abbrev pub give : {S A : Type 0} → A → S → A × S
give a state = (a, state)

-- one step, by its mark; where none is left, nothing came in its way
abbrev pub step : {A : Type 0} → (StepResult → A) → Fallible A
step f v = elim v [ [] ↦ (f Done, []) | mark ∷ marks ↦ (f mark, marks) ]

-- a step that takes memory alone, and why there is none; a fault of the store doesn't come in its
-- way, and is left for later steps
abbrev pub memory : Fallible (Option Status)
memory list =
    elim list [
      | NoMemory ∷ marks ↦ (Some BAD_OUT_OF_MEMORY, marks)
      | Done ∷ marks ↦ (None, marks)
      | RecordStands ∷ marks ↦ (None, RecordStands ∷ marks)
      | StoreFailed fault ∷ marks ↦ (None, StoreFailed fault ∷ marks)
      | [] ↦ (None, [])
    ]

-- some steps, and then those that their value leads to
abbrev pub and_then : {S A B : Type 0} → (S → A × S) → (A → S → B × S) → S → B × S
and_then first more state = let a = first state in more a.0 a.1

-- the steps of each item of a list, over what those before it left: the values, and what is left
abbrev pub each : {X Y S : Type 0} → (X → S → Fallible (Y × S)) → List X → S → Fallible (List Y × S)
each f [] s = give ([], s)
each f (x ∷ xs) s =
    and_then (f x s)
    (λ here. and_then (each f xs here.1) (λ later. give (here.0 ∷ later.0, later.1)))

-- by these marks, which are as many as it has steps, the value is a
pub record Yields {A : Type 0} (marked : Fallible A) (used : List StepResult) (a : A) : Type 0 where
  pub does : (later : List StepResult) → marked (used ++ later) ≡ (a, later)

-- calls were made, in whose way this came; whatever they left, To says how it came of what was left
-- before them, by these marks as an opening finds it: it is that content, with the records of some
-- updates of this replica
pub record Transitions (old new : Store) (used : List StepResult)
    (To : List StepResult → Content → Content → Type 0) : Type 0 where
  pub passes : CountsFaults old new (faults_of used)
  pub acts : new.honest → (S : Content) → IsLeft new S
      → (marks : List StepResult) × MayBeMarksAfterRecovery old.broken used marks × (R : Content)
      × IsLeft old R
      × To marks R S × Grows old.own R S
  pub there : IsThere old → IsThere new

-- they answer, and leave, what the steps f say of what was left before
abbrev pub Refines : {X : Type 0} → Store → Store → List StepResult
    → (Content → Fallible (X × Content)) → X → Type 0
Refines old new used f answer =
    Transitions old new used (λ marks R S. Yields (f R) marks (answer, S))
