-- An archive that is asked, and what was made by it.
use Rattle.std.proofs.Common.{◌≡◌, ◌≢◌, ℕ, List, [], ◌∷◌, None, Some, Result, Ok, Err, refl, sym, subst}
use Rattle.std.specs.Prelude.{⊤, IfOk, MatchResult}
use Rattle.std.specs.declared.alloc.AllocError.{AllocError}
use Rattle.records.specs.Contents.{Content}
use Rattle.archive.specs.Store.{Store, StoreFailed, Asks, faults_of}
use Rattle.archive.specs.Steps.{Transitions}
use Rattle.archive.specs.declared.fault.StoreFault.{StoreFault}
use Rattle.archive.proofs.Acting.{there-behind, moves-none, moves-stays, moves-as, left-before}
use Rattle.settings_check.specs.Stored.{Reads}
use Rattle.web_connection.specs.Answers.{Makes, OnlyAsks}

-- nothing was asked
pub reads-none : (s : Store) (P : Content → Type 0) → ((R : Content) → P R) → Reads s s [] P
reads-none s P holds =
    ([], moves-none s (λ marks R S. (S ≡ R) × (([] ≡ []) × P R)) (λ R. (refl, (refl, holds R))))

-- what was found says something else
pub reads-as : (s t : Store) (faults : List StoreFault) (P Q : Content → Type 0)
    → ((R : Content) → P R → Q R) → Reads s t faults P → Reads s t faults Q
reads-as s t faults P Q says (used, reads) = (
  used,
  moves-as s t used (λ marks R S. (S ≡ R) × ((faults_of used ≡ faults) × P R))
      (λ marks R S. (S ≡ R) × ((faults_of used ≡ faults) × Q R))
      (λ ms R S p. (p.0, (p.1.0, says R p.1.1))) reads,
)

-- an answer, in terms of what is held
pub reads-answer : {A : Type 0} (t u : Store) (IsAnswer : Content → A → Type 0) (a : A)
    → Asks t u (Ok a) (IsAnswer t.content) → Reads t u [] (λ R. IsAnswer R a)
reads-answer t u IsAnswer a asks = (
  [],
  moves-stays t u [] (λ marks R S. (S ≡ R) × (([] ≡ []) × IsAnswer R a))
      asks.leaves.passes asks.stays (there-behind t u None asks.leaves) (λ honest R h.
      let is : t.content ≡ R = left-before t u R asks.leaves honest h in
      (refl, (refl, subst (λ C. IsAnswer C a) is (asks.answer honest)))),
)

-- a fault of its store
pub reads-fault : {A : Type 0} (t u : Store) (why : StoreFault) (P : A → Type 0)
    → Asks {A = A} t u (Err why) P → Reads t u (why ∷ []) (λ R. ⊤)
reads-fault t u why P asks = (
  StoreFailed why ∷ [],
  moves-stays t u (StoreFailed why ∷ [])
      (λ marks R S. (S ≡ R) × ((faults_of (StoreFailed why ∷ []) ≡ why ∷ []) × ⊤))
      asks.leaves.passes asks.stays (there-behind t u (Some why) asks.leaves)
      (λ honest R h. (refl, (refl, tt))),
)

-- an archive was moved over without a fault
pub reads-of : (s t : Store) (P : Content → Type 0)
    → Transitions s t [] (λ marks R S. (S ≡ R) × P R) → Reads s t [] P
reads-of s t P moves = (
  [],
  moves-as s t [] (λ marks R S. (S ≡ R) × P R)
      (λ marks R S. (S ≡ R) × (([] ≡ []) × P R)) (λ ms R S p. (p.0, (refl, p.1))) moves,
)

-- ---- what is made

-- by what was found
pub made-by : (s t : Store) (faults : List StoreFault) (P : Content → Type 0)
    (Q : Content → List StoreFault → Type 0) → ((R : Content) → P R → Q R faults)
    → Reads s t faults P → Makes s t Q
made-by s t faults P Q says reads = (faults, reads-as s t faults P (λ R. Q R faults) says reads)

-- without a question
pub made-alone : (s : Store) (Q : Content → List StoreFault → Type 0)
    → ((R : Content) → Q R []) → Makes s s Q
made-alone s Q holds = ([], reads-none s (λ R. Q R []) holds)

-- what was made says something else
pub made-as : (s t : Store) (P Q : Content → List StoreFault → Type 0)
    → ((R : Content) (faults : List StoreFault) → P R faults → Q R faults) → Makes s t P
    → Makes s t Q
made-as s t P Q says (faults, reads) =
    made-by s t faults (λ R. P R faults) Q (λ R. says R faults) reads

-- questions alone
pub only-asked : (s t : Store) (faults : List StoreFault) (P : Content → Type 0)
    → Reads s t faults P → OnlyAsks s t
only-asked s t faults P reads =
    made-by s t faults P (λ R faults. ⊤) (λ R p. tt) reads

-- nothing at all
pub nothing-asked : (s : Store) → OnlyAsks s s
nothing-asked s = made-alone s (λ R faults. ⊤) (λ R. tt)

-- a fault of its store isn't none
pub one-fault : (why : StoreFault) → why ∷ [] ≢ []
one-fault why e = absurd cc

-- a text, unless memory ran out
pub text-by : {A : Type 0} (items : A → List ℕ) (result : Result A AllocError) (made : List ℕ)
    (s t : Store) (faults : List StoreFault) (P : Content → Type 0)
    (Q : Content → List StoreFault → List ℕ → Type 0) → ((R : Content) → P R → Q R faults made)
    → IfOk result (λ text. items text ≡ made) → Reads s t faults P
    → MatchResult result (λ text. Makes s t (λ R faults. Q R faults (items text)))
    (λ starved. OnlyAsks s t)
text-by items (Ok text) made s t faults P Q says is reads =
    made-by s t faults P (λ R faults. Q R faults (items text))
    (λ R p. subst (λ (l : List ℕ). Q R faults l) (sym is) (says R p)) reads
text-by items (Err starved) made s t faults P Q says is reads = only-asked s t faults P reads

-- a text of which this holds, unless memory ran out
pub text-of : {A : Type 0} (items : A → List ℕ) (result : Result A AllocError)
    (IsText : List ℕ → Type 0) (s t : Store) (faults : List StoreFault) (P : Content → Type 0)
    (Q : Content → List StoreFault → List ℕ → Type 0)
    → ((R : Content) (text : List ℕ) → P R → IsText text → Q R faults text)
    → IfOk result (λ text. IsText (items text)) → Reads s t faults P
    → MatchResult result (λ text. Makes s t (λ R faults. Q R faults (items text)))
    (λ starved. OnlyAsks s t)
text-of items (Ok text) IsText s t faults P Q says is reads =
    made-by s t faults P (λ R faults. Q R faults (items text))
    (λ R p. says R (items text) p is) reads
text-of items (Err starved) IsText s t faults P Q says is reads = only-asked s t faults P reads
