-- Whole updates: refusals, steps that come before the operations, and the operations.
use Rattle.std.proofs.Common.{◌≡◌, ◌∙◌, ℕ, Bool, List, [], ◌∷◌, ◌++◌, ◌||◌, map, length, Option, Some, None, refl, sym, ap, subst}
use Rattle.std.proofs.Math.Bool.{or-false}
use Rattle.ua_binary.specs.declared.codes.Status.{Status}
use Rattle.ua_binary.specs.declared.codes.TheConstants.Status.{BAD_OUT_OF_MEMORY}
use Rattle.ua_binary.specs.declared.values.Ticks.{Ticks}
use Rattle.ua_variant.specs.declared.data.DataValue.{DataValue}
use Rattle.ua_variant.specs.declared.value.ValueType.{ValueType}
use Rattle.ua_variant.specs.declared.update_type.HistoryUpdateType.{HistoryUpdateType}
use Rattle.ua_services.specs.declared.updates.HistoryUpdateResult.{HistoryUpdateResult}
use Rattle.records.specs.Contents.{Content}
use Rattle.archive.specs.Steps.{Fallible, memory, Yields, Refines}
use Rattle.archive.specs.Store.{Store, StepResult, Done, NoMemory, breaks, faults_of, CountsFaults, KeepsContent, IsThere}
use Rattle.archive.proofs.Calls.{passes-none, stays-none}
use Rattle.archive.proofs.Acting.{moves-none, moves-stays, moves-behind-quiet, moves-as, does-give}
use Rattle.hist_update.specs.declared.request.Request.{Request}
use Rattle.hist_update.specs.Codes.{list_refusal}
use Rattle.hist_update.specs.Outcome.{Operation, Write}
use Rattle.hist_update.specs.Updates.{Updated, refused_update, unless, past, begin, data_refusal, writes, deletes_at, delete_at, update_all, AreEnded, needs_store, needs_of}
use Rattle.hist_update.proofs.UpdatesParts.{all_good, told, run}
use Rattle.hist_update.specs.Operating.{Operations, Begins}

-- it is refused: no step is made
pub acts-refused : (a : Store) (reason : Option Status) (code : Status)
    (f : Content → Fallible Updated) → reason ≡ Some code
    → Refines a a [] (λ R. unless reason R (f R)) (refused_update code)
acts-refused a reason code f e =
    moves-none a (λ marks R S. Yields (unless reason R (f R)) marks (refused_update code, S))
    (λ R. subst (λ o. Yields (unless o R (f R)) [] (refused_update code, R)) (sym e)
    (does-give (refused_update code, R)))

-- it isn't refused
pub acts-free : (a b : Store) (used : List StepResult) (reason : Option Status)
    (f : Content → Fallible Updated) (x : HistoryUpdateResult) → reason ≡ None
    → Refines a b used f x
    → Refines a b used (λ R. unless reason R (f R)) x
acts-free a b used reason f x e p =
    subst (λ o. Refines a b used (λ R. unless o R (f R)) x) (sym e) p

-- something came in the way of a step
pub acts-hindered : (a b : Store) (mark : StepResult) (code : Status)
    (first : Fallible (Option Status)) (f : Content → Fallible Updated)
    → CountsFaults a b (faults_of (mark ∷ [])) → KeepsContent a b
    → (IsThere a → IsThere b) → ((later : List StepResult)
    → first (mark ∷ later) ≡ (Some code, later))
    → Refines a b (mark ∷ []) (λ R. past first R (f R)) (refused_update code)
acts-hindered a b mark code first f passes stays there e =
    moves-stays a b (mark ∷ []) (λ marks R S.
    Yields (past first R (f R)) marks (refused_update code, S)) passes stays there
    (λ honest R h. record {
      does =
          λ later. ap (λ (r : Option Status × List StepResult). unless r.0 R (f R) r.1) (e later);
    })

-- nothing did
pub acts-past : (a b : Store) (used : List StepResult) (first : Fallible (Option Status))
    (f : Content → Fallible Updated) (x : HistoryUpdateResult)
    → ((later : List StepResult) → first (Done ∷ later) ≡ (None, later)) → Refines a b used f x
    → Refines a b (Done ∷ used) (λ R. past first R (f R)) x
acts-past a b used first f x e p =
    moves-behind-quiet a b (Done ∷ []) used (λ marks R S. Yields (f R) marks (x, S))
    (λ marks R S. Yields (past first R (f R)) marks (x, S)) refl
    (λ ms R S d. record {
      does = λ later.
          ap (λ (r : Option Status × List StepResult). unless r.0 R (f R) r.1) (e (ms ++ later))
          ∙ d.does later;
    }) p

-- the operations of an update
pub acts-run : (a b : Store) (used : List StepResult) (own : ℕ) (request : Request)
    (status : List Status → Status) (ops : List Operation) (codes : List Status)
    → Refines a b used (update_all own request ops) codes
    → Refines a b used (run own request status ops) (told status codes)
acts-run a b used own request status ops codes p =
    moves-as a b used (λ marks R S. Yields (update_all own request ops R) marks (codes, S))
    (λ marks R S. Yields (run own request status ops R) marks (told status codes, S))
    (λ ms R S d. record {
      does = λ later.
          ap (λ (r : (List Status × Content) × List StepResult). let z : Updated × List StepResult =
          ((told status r.0.0, r.0.1), r.1) in z) (d.does later);
    }) p

-- ---- with the memory of the codes

-- an update that came to no step
pub none-ended : (broken : Bool) (steps : List Bool) → AreEnded broken steps []
none-ended broken [] = tt
none-ended broken (s ∷ steps) = tt

-- there is none
pub begins-starved : (a : Store) (request : Request) (status : List Status → Status)
    (ops : List Operation) (result : HistoryUpdateResult)
    → result ≡ refused_update BAD_OUT_OF_MEMORY → Begins a a request status ops result
begins-starved a request status ops result is =
    subst (λ r. Begins a a request status ops r) (sym is) (record {
      used = NoMemory ∷ [];
      acts = acts-hindered a a NoMemory BAD_OUT_OF_MEMORY memory (run a.own request status ops)
          (passes-none a) (stays-none a) (λ was. was) (λ later. refl);
      ended = (
        λ e f. refl,
        none-ended (a.broken || breaks NoMemory)
            (map (needs_store a.own request) ops),
      );
    })

-- there is some
pub begins-run : (a b : Store) (request : Request) (status : List Status → Status)
    (ops : List Operation) (codes : List Status) (result : HistoryUpdateResult)
    → Operations a b request ops codes → result ≡ told status codes
    → Begins a b request status ops result
begins-run a b request status ops codes result u is =
    subst (λ r. Begins a b request status ops r) (sym is) (record {
      used = Done ∷ u.used;
      acts = acts-past a b u.used memory (run a.own request status ops) (told status codes)
          (λ later. refl) (acts-run a b u.used a.own request status ops codes u.acts);
      ended = (
        λ e f. refl,
        subst (λ (x : Bool).
            AreEnded x (map (needs_store a.own request) ops) u.used)
            (sym (or-false a.broken)) u.ended,
      );
    })

-- ---- writes of values

abbrev pub AnswersData : Store → Store → Request → ValueType → Option HistoryUpdateType
    → List DataValue → HistoryUpdateResult → Type 0
AnswersData a b request type asked values result =
    (used : List StepResult) × Refines a b used (λ R.
    unless (data_refusal asked (length values)) R
    (begin a.own request all_good (writes asked type values) R)) result
    × AreEnded a.broken (needs_of a.own request (writes asked type values)) used

-- they are refused by what they say themselves
pub data-refused : (a : Store) (request : Request) (type : ValueType)
    (asked : Option HistoryUpdateType) (values : List DataValue) (code : Status)
    (result : HistoryUpdateResult)
    → data_refusal asked (length values) ≡ Some code → result ≡ refused_update code
    → AnswersData a a request type asked values result
data-refused a request type asked values code result e is =
    let f : Content → Fallible Updated = begin a.own request all_good (writes asked type values) in (
      [],
      subst (λ r. Refines a a [] (λ R. unless (data_refusal asked (length values)) R (f R)) r)
          (sym is) (acts-refused a (data_refusal asked (length values)) code f e),
      none-ended a.broken (needs_of a.own request (writes asked type values)),
    )

-- they aren't
pub data-begun : (a b : Store) (request : Request) (type : ValueType) (o : Option HistoryUpdateType)
    (asked : HistoryUpdateType) (values : List DataValue) (result : HistoryUpdateResult)
    → Some asked ≡ o → list_refusal 1000 (length values) ≡ None
    → Begins a b request all_good (map (Write asked type) values) result
    → AnswersData a b request type o values result
data-begun a b request type o asked values result e free u =
    subst (λ x. AnswersData a b request type x values result) e (
      u.used,
      acts-free a b u.used (list_refusal 1000 (length values))
          (begin a.own request all_good (map (Write asked type) values)) result free u.acts,
      u.ended,
    )

-- ---- deletes at source times

abbrev pub AnswersTimes : Store → Store → Request → List Ticks → HistoryUpdateResult → Type 0
AnswersTimes a b request times result =
    (used : List StepResult) × Refines a b used (delete_at a.own request times) result
    × AreEnded a.broken (needs_of a.own request (deletes_at times)) used

pub times-refused : (a : Store) (request : Request) (times : List Ticks) (code : Status)
    (result : HistoryUpdateResult) → list_refusal 1000 (length times) ≡ Some code
    → result ≡ refused_update code → AnswersTimes a a request times result
times-refused a request times code result e is = (
  [],
  subst (λ r. Refines a a [] (delete_at a.own request times) r) (sym is)
      (acts-refused a (list_refusal 1000 (length times)) code
      (begin a.own request all_good (deletes_at times)) e),
  none-ended a.broken (needs_of a.own request (deletes_at times)),
)

pub times-begun : (a b : Store) (request : Request) (times : List Ticks)
    (result : HistoryUpdateResult) → list_refusal 1000 (length times) ≡ None
    → Begins a b request all_good (deletes_at times) result → AnswersTimes a b request times result
times-begun a b request times result free u = (
  u.used,
  acts-free a b u.used (list_refusal 1000 (length times))
      (begin a.own request all_good (deletes_at times)) result free u.acts,
  u.ended,
)
