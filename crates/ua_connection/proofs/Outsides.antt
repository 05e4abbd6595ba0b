-- Steps that get something from outside.
use Rattle.std.proofs.Common.{◌≡◌, ℤ, List, [], ◌∷◌, refl, ap, ◌∙◌, append_assoc}
use Rattle.std.proofs.lemmas.List.{append-nil}
use Rattle.archive.specs.Store.{StepResult, Done, NoMemory}
use Rattle.archive.specs.Steps.{Fallible, Yields as DoesMarked, give, and_then}
pub use Rattle.ua_connection.specs.Environments.{empty_environment}
use Rattle.ua_connection.specs.Environments.{Environment, before, WithEnvironment, by_marks, or_out_of_memory, clock, YieldsWith}

outside_same : (m n : List StepResult) (r s : List ℤ) → m ≡ n → r ≡ s
    → ◌≡◌ {A = Environment} (record { marks = m; readings = r })
    (record { marks = n; readings = s })
outside_same m n r s e f =
    let first : ◌≡◌ {A = Environment} (record { marks = m; readings = r })
    (record { marks = n; readings = r }) = ap (λ (k : List StepResult). let o : Environment =
    record { marks = k; readings = r } in o) e in
    let second : ◌≡◌ {A = Environment} (record { marks = n; readings = r })
    (record { marks = n; readings = s }) = ap (λ (k : List ℤ). let o : Environment =
    record { marks = n; readings = k } in o) f in
    first ∙ second

-- one stretch before another
pub before-before : (a b later : Environment)
    → before (before a b) later ≡ before a (before b later)
before-before a b later = outside_same _ _ _ _ (append_assoc a.marks b.marks later.marks)
    (append_assoc a.readings b.readings later.readings)

pub before-nothing : (a : Environment) → before a empty_environment ≡ a
before-nothing a = outside_same _ _ _ _ (append-nil a.marks) (append-nil a.readings)

pub does-give : {A : Type 0} (a : A) → YieldsWith (give a) empty_environment a
does-give a = record { does = λ later. refl }

pub does-then : {A B : Type 0} (m : WithEnvironment A) (f : A → WithEnvironment B)
    (u v : Environment) (a : A) (b : B) → YieldsWith m u a → YieldsWith (f a) v b
    → YieldsWith (and_then m f) (before u v) b
does-then {A} {B} m f u v a b p q = record {
  does = λ later.
      ap (λ o. and_then m f o) (before-before u v later)
      ∙ ap (λ (r : A × Environment). f r.0 r.1) (p.does (before v later))
      ∙ q.does later;
}

-- these marks, and no reading
abbrev pub marked : List StepResult → Environment
marked marks = record { marks = marks; readings = [] }

abbrev pub read : ℤ → Environment
read now = record { marks = []; readings = now ∷ [] }

pub does-marked : {A : Type 0} (m : Fallible A) (used : List StepResult) (a : A)
    → DoesMarked m used a → YieldsWith (by_marks m) (marked used) a
does-marked {A} m used a p = record {
  does =
      λ later. ap (λ (r : A × List StepResult). let z : A × Environment =
      (r.0, record later { marks = r.1 }) in z) (p.does later.marks);
}

pub does-clock : (now : ℤ) → YieldsWith clock (read now) (record { 0 = now })
does-clock now = record { does = λ later. refl }

pub does-made : {A : Type 0} (went starved : WithEnvironment A) (used : Environment) (a : A)
    → YieldsWith went used a → YieldsWith (or_out_of_memory went starved)
    (before (marked (Done ∷ [])) used) a
does-made went starved used a p = record { does = λ later. p.does later }

pub does-starved : {A : Type 0} (went starved : WithEnvironment A) (used : Environment) (a : A)
    → YieldsWith starved used a → YieldsWith (or_out_of_memory went starved)
    (before (marked (NoMemory ∷ [])) used) a
does-starved went starved used a p = record { does = λ later. p.does later }
