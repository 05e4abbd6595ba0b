-- What the services do, by what the sessions' calls promise.
use Rattle.std.proofs.Common.{◌≡◌, inl, inr, ◌∙◌, ℕ, List, [], ◌∷◌, ◌++◌, Some, None, Ok, Err, refl, sym, ap, subst}
use Rattle.std.specs.Prelude.{Result, Option}
use Rattle.ua_binary.specs.declared.codes.Status.{Status}
use Rattle.ua_binary.specs.declared.codes.TheConstants.Status.{BAD_OUT_OF_MEMORY, BAD_DECODING_ERROR}
use Rattle.ua_binary.specs.declared.values.NodeId.{NodeId}
use Rattle.ua_binary.specs.declared.values.Ticks.{Ticks}
use Rattle.ua_binary.specs.Format.{IsOrStarved}
use Rattle.ua_session.specs.declared.fault.SessionFault.{SessionFault}
use Rattle.ua_session.specs.declared.fault.SessionFault.TheVariants.{OutOfMemory}
use Rattle.ua_session.specs.Fault.{session_fault_status}
use Rattle.ua_session.specs.Sessions.{SessionsState, activate_answer, user_at, with_audit}
use Rattle.ua_session.specs.Users.{Claim}
use Rattle.ua_services.specs.Updates.{Details}
use Rattle.records.specs.Contents.{Content}
use Rattle.archive.specs.Store.{Store, StepResult, Done, NoMemory, faults_of}
use Rattle.archive.proofs.Acting.{moves-none-by, moves-behind-quiet}
use Rattle.archive.specs.Steps.{Fallible, give, step, Yields, Refines}
use Rattle.historian.specs.declared.service.Service.{Service}
use Rattle.historian.specs.declared.answer.Answer.{Answer as Made}
use Rattle.historian.specs.Answers.{Answer, Response}
use Rattle.historian.specs.Requests.{Call, ActivateSession, HistoryUpdate, call_in}
use Rattle.historian.specs.declared.service.Service.TheVariants as services
use Rattle.historian.specs.Services.{ServerConfig, MessageOutcome, activated, called, in_session, noting_activation, served, update_for, updates_of, answered_call, answered_request}
use Rattle.historian.specs.Auditing.{activation_event, noting, notes_updates, updates_audited}
use Rattle.historian.specs.Telling.{Asks, service_answer, response_made, ReportsAnswer, ComesTo, Performs, PerformsHere, Written, Responds}

-- a call that was read is served
pub does-read : (config : ServerConfig) (now : Ticks) (token : NodeId) (o : Option Call)
    (call : Call)
    (sessions : SessionsState) (R : Content) (used : List StepResult) (outcome : MessageOutcome)
    → o ≡ Some call
    → Yields (served config now token call sessions R) used outcome
    → Yields (answered_call config now token o sessions R) (Done ∷ used) outcome
does-read config now token o call sessions R used outcome is does =
    subst (λ o. Yields (answered_call config now token o sessions R) (Done ∷ used) outcome) (sym is)
    (record { does = λ later. does.does later })

-- none fills the bytes
pub does-unread : (config : ServerConfig) (now : Ticks) (token : NodeId) (o : Option Call)
    (sessions : SessionsState) (R : Content) → o ≡ None
    → Yields (answered_call config now token o sessions R) (Done ∷ [])
    ((Err BAD_DECODING_ERROR, sessions), R)
does-unread config now token o sessions R is =
    subst (λ o. Yields (answered_call config now token o sessions R) (Done ∷ [])
    ((Err BAD_DECODING_ERROR, sessions), R)) (sym is) (record { does = λ later. refl })

-- memory for reading is wanting
pub does-starved : (config : ServerConfig) (now : Ticks) (token : NodeId) (o : Option Call)
    (sessions : SessionsState) (R : Content)
    → Yields (answered_call config now token o sessions R) (NoMemory ∷ [])
    ((Err BAD_OUT_OF_MEMORY, sessions), R)
does-starved config now token o sessions R = record { does = λ later. refl }

-- the call can't be read, or memory for that is wanting
pub performs-unread : {T : Type 0} (config : ServerConfig) (now : Ticks) (token : NodeId)
    (sessions : SessionsState) (service : Service) (call : T → Call) (bytes : List ℕ)
    (status : Status) (result : Result Made Status)
    → Asks service call bytes (Err status) → result ≡ Err status
    → PerformsHere (answered_call config now token (call_in service bytes) sessions) sessions result
performs-unread {T} config now token sessions service call bytes status result asks is =
    let P : Result Made Status → Type 0 =
    PerformsHere (answered_call config now token (call_in service bytes) sessions) sessions in
    subst P (sym is) (elim asks [
      | inl bad ↦ (
        Done ∷ [],
        Err BAD_DECODING_ERROR,
        refl,
        λ R. does-unread config now token (call_in service bytes) sessions R bad.1,
        inl (ap Err (sym bad.0)),
      )
      | inr starved ↦ (
        NoMemory ∷ [],
        Err BAD_OUT_OF_MEMORY,
        refl,
        λ R. does-starved config now token (call_in service bytes) sessions R,
        inr starved,
      )
    ])

-- it is read and served
pub performs-read : (config : ServerConfig) (now : Ticks) (token : NodeId)
    (sessions new : SessionsState) (service : Service) (call : Call) (bytes : List ℕ)
    (used : List StepResult) (told : Response) (result : Result Made Status)
    → call_in service bytes ≡ Some call → faults_of used ≡ []
    → ((R : Content) → Yields (served config now token call sessions R) used ((told, new), R))
    → ReportsAnswer told result
    → PerformsHere (answered_call config now token (call_in service bytes) sessions) new result
performs-read config now token sessions new service call bytes used told result is faultless does
    tells = (
      Done ∷ used,
      told,
      faultless,
      λ R. does-read config now token (call_in service bytes) call sessions R used
          ((told, new), R) is (does R),
      tells,
    )

-- ---- calls of the sessions

abbrev pub stepped : (StepResult → Response × SessionsState) → Content → Fallible MessageOutcome
stepped f R = step (λ mark. (f mark, R))

pub does-stepped : (f : StepResult → Response × SessionsState) (mark : StepResult) (told : Response)
    (new : SessionsState) (R : Content) → f mark ≡ (told, new)
    → Yields (stepped f R) (mark ∷ []) ((told, new), R)
does-stepped f mark told new R is = record {
  does =
      λ later. ap (λ (x : Response × SessionsState). let r : MessageOutcome × List StepResult =
      ((x, R), later) in r) is;
}

pub called-done : {A : Type 0} (sessions : SessionsState) (done : A → Answer × SessionsState)
    (answer : Result A SessionFault) (a : A) → IsOrStarved OutOfMemory answer (Ok a)
    → called sessions done answer Done ≡ (Ok (done a).0, (done a).1)
called-done sessions done (Ok b) a is = ap (λ x. called sessions done (Ok x) Done) (sym is)
called-done sessions done (Err fault) a is = absurd cc

-- a call that is refused, or for which memory is wanting
pub called-refused : {A : Type 0} (sessions : SessionsState) (done : A → Answer × SessionsState)
    (answer : Result A SessionFault) (fault : SessionFault)
    → IsOrStarved OutOfMemory answer (Err fault)
    → (mark : StepResult) × (faults_of (mark ∷ []) ≡ [])
    × (called sessions done answer mark ≡ (Err (session_fault_status fault), sessions))
called-refused sessions done (Ok b) fault is = (
  NoMemory,
  refl,
  ap (λ f. let r : Response × SessionsState =
      (Err (session_fault_status f), sessions) in r) (sym is),
)
called-refused {A} sessions done (Err other) fault is =
    let same : other ≡ fault = cc in (
      Done,
      refl,
      ap (λ f. let r : Response × SessionsState =
          (Err (session_fault_status f), sessions) in r) same,
    )

-- memory was wanting before the call
pub performs-starved : (config : ServerConfig) (now : Ticks) (token : NodeId)
    (sessions : SessionsState) (service : Service) (bytes : List ℕ) (status : Status)
    (result : Result Made Status) → status ≡ BAD_OUT_OF_MEMORY → result ≡ Err status
    → PerformsHere (answered_call config now token (call_in service bytes) sessions) sessions result
performs-starved config now token sessions service bytes status result starved is =
    let P : Result Made Status → Type 0 =
    PerformsHere (answered_call config now token (call_in service bytes) sessions) sessions in
    subst P (sym is) (
      NoMemory ∷ [],
      Err BAD_OUT_OF_MEMORY,
      refl,
      λ R. does-starved config now token (call_in service bytes) sessions R,
      inr starved,
    )

-- a call of the sessions was made
pub performs-called : (config : ServerConfig) (now : Ticks) (token : NodeId)
    (sessions new : SessionsState) (service : Service) (call : Call) (bytes : List ℕ)
    (f : StepResult → Response × SessionsState) (mark : StepResult) (told : Response)
    (result : Result Made Status)
    → call_in service bytes ≡ Some call → ((R : Content) (marks : List StepResult)
    → served config now token call sessions R marks ≡ stepped f R marks)
    → faults_of (mark ∷ []) ≡ []
    → f mark ≡ (told, new) → ReportsAnswer told result
    → PerformsHere (answered_call config now token (call_in service bytes) sessions) new result
performs-called config now token sessions new service call bytes f mark told result is same
    faultless
    does tells =
    performs-read config now token sessions new service call bytes
    (mark ∷ []) told result is faultless
    (λ R. record {
      does = λ later. same R (mark ∷ later)
          ∙ (does-stepped f mark told new R does).does later;
    }) tells

-- a call that takes no memory was made
pub performs-given : (config : ServerConfig) (now : Ticks) (token : NodeId)
    (sessions new : SessionsState) (service : Service) (call : Call) (bytes : List ℕ)
    (given : Response × SessionsState) (told : Response) (result : Result Made Status)
    → call_in service bytes ≡ Some call → ((R : Content) (marks : List StepResult)
    → served config now token call sessions R marks ≡ give (given, R) marks) → given ≡ (told, new)
    → ReportsAnswer told result
    → PerformsHere (answered_call config now token (call_in service bytes) sessions) new result
performs-given config now token sessions new service call bytes given told result is same gives
    tells
    =
    performs-read config now token sessions new service call bytes [] told result is refl
    (λ R. record {
      does = λ later. same R later
          ∙ ap (λ (x : Response × SessionsState). let r : MessageOutcome × List StepResult =
          ((x, R), later) in r) gives;
    }) tells

-- a call that was refused, or for which memory was wanting
pub performs-refused : {A : Type 0} (config : ServerConfig) (now : Ticks) (token : NodeId)
    (sessions new : SessionsState) (service : Service) (call : Call) (bytes : List ℕ)
    (done : A → Answer × SessionsState) (answer : Result A SessionFault)
    (fault : SessionFault) (status : Status) (result : Result Made Status)
    → call_in service bytes ≡ Some call → ((R : Content) (marks : List StepResult)
    → served config now token call sessions R marks ≡ stepped (called sessions done answer) R marks)
    → IsOrStarved OutOfMemory answer (Err fault) → new ≡ sessions
    → status ≡ session_fault_status fault → result ≡ Err status
    → PerformsHere (answered_call config now token (call_in service bytes) sessions) new result
performs-refused {A} config now token sessions new service call bytes done answer fault status
    result
    is same refused stays code err =
    let r = called-refused sessions done answer fault refused in
    let P : SessionsState → Type 0 =
    λ s. PerformsHere (answered_call config now token (call_in service bytes) sessions) s result
    in
    let Q : Result Made Status → Type 0 =
    λ x. PerformsHere (answered_call config now token (call_in service bytes) sessions) sessions x
    in
    subst P (sym stays) (subst Q (sym err)
    (performs-called config now token sessions sessions service call bytes
    (called sessions done answer) r.0 (Err (session_fault_status fault))
    (Err status) is same r.1 r.2 (inl (ap Err (sym code)))))

-- one that was done
pub performs-done : {A : Type 0} (config : ServerConfig) (now : Ticks) (token : NodeId)
    (sessions new : SessionsState) (service : Service) (call : Call) (bytes : List ℕ)
    (done : A → Answer × SessionsState) (answer : Result A SessionFault)
    (a : A) (made : Made)
    → call_in service bytes ≡ Some call → ((R : Content) (marks : List StepResult)
    → served config now token call sessions R marks ≡ stepped (called sessions done answer) R marks)
    → IsOrStarved OutOfMemory answer (Ok a) → new ≡ (done a).1
    → (done a).0 ≡ service_answer made
    → PerformsHere (answered_call config now token (call_in service bytes) sessions) new (Ok made)
performs-done {A} config now token sessions new service call bytes done answer a made is same given
    leaves tells =
    let P : SessionsState → Type 0 =
    λ s. PerformsHere (answered_call config now token (call_in service bytes) sessions) s
    (Ok made) in
    subst P (sym leaves)
    (performs-called config now token sessions (done a).1 service call bytes
    (called sessions done answer) Done (Ok (done a).0) (Ok made) is same refl
    (called-done sessions done answer a given) (ap Ok tells))

-- an activation was answered, which is kept for a log
pub performs-activation : (config : ServerConfig) (now : Ticks) (token : NodeId)
    (sessions new left : SessionsState) (bytes : List ℕ) (claim : Claim) (mark : StepResult)
    (told : Response) (result : Result Made Status)
    → call_in services.ActivateSession bytes ≡ Some (ActivateSession claim)
    → faults_of (mark ∷ []) ≡ []
    → called sessions (activated token sessions)
    (activate_answer sessions token config.settings.users claim) mark ≡ (told, left)
    → new ≡ with_audit (activation_event claim told) left → ReportsAnswer told result
    → PerformsHere (answered_call config now token (call_in services.ActivateSession bytes) sessions)
    new result
performs-activation config now token sessions new left bytes claim mark told result is faultless
    answers kept tells =
    let answer = activate_answer sessions token config.settings.users claim in
    performs-called config now token sessions new services.ActivateSession (ActivateSession claim)
    bytes (λ mark. noting_activation claim (called sessions (activated token sessions) answer mark))
    mark told result is (λ R marks. refl) faultless
    (ap (noting_activation claim) answers
    ∙ ap (λ (s : SessionsState). let r : Response × SessionsState = (told, s) in r) (sym kept)) tells

-- ---- the archive isn't asked

pub performs-here : (s : Store) (service : Content → Fallible MessageOutcome)
    (sessions : SessionsState) (result : Result Made Status) → PerformsHere service sessions result
    → Performs s s service sessions result
performs-here s service sessions result (used, told, faultless, does, tells) = (
  used,
  told,
  moves-none-by s used faultless (λ marks R S. Yields (service R) marks ((told, sessions), S)) does,
  tells,
)

-- ---- messages

-- a message that is no request
pub performs-none : (s : Store) (config : ServerConfig) (now : Ticks) (sessions : SessionsState)
    (status : Status) (result : Result Made Status) → result ≡ Err status
    → Performs s s (answered_request config now (Err status) sessions) sessions result
performs-none s config now sessions status result is =
    let P : Result Made Status → Type 0 =
    Performs s s (answered_request config now (Err status) sessions) sessions in
    subst P (sym is) (performs-here s (answered_request config now (Err status) sessions) sessions
    (Err status) ([], Err status, refl, λ R. record { does = λ later. refl }, inl refl))

-- ---- services of a session

-- the session isn't there, or wasn't activated
pub performs-outside : (config : ServerConfig) (now : Ticks) (token : NodeId)
    (sessions : SessionsState) (asked : Service) (call : Call) (bytes : List ℕ)
    (f : Content → List ℕ → Fallible (Response × Content)) (fault : SessionFault) (status : Status)
    (result : Result Made Status)
    → call_in asked bytes ≡ Some call → ((R : Content) (marks : List StepResult)
    → served config now token call sessions R marks
    ≡ in_session sessions (user_at sessions token) (f R) R marks)
    → user_at sessions token ≡ Err fault
    → status ≡ session_fault_status fault → result ≡ Err status
    → PerformsHere (answered_call config now token (call_in asked bytes) sessions) sessions result
performs-outside config now token sessions asked call bytes f fault status result is same none code
    err =
    performs-read config now token sessions sessions asked call bytes []
    (Err (session_fault_status fault)) result is refl
    (λ R. record {
      does = λ later. same R later
          ∙ ap (λ (u : Result (List ℕ) SessionFault). in_session sessions u (f R) R later) none;
    })
    (subst (ReportsAnswer (Err (session_fault_status fault))) (sym err) (inl (ap Err (sym code))))

does-in : (sessions : SessionsState) (user : List ℕ) (g : List ℕ → Fallible (Response × Content))
    (R S : Content) (used : List StepResult) (told : Response) → Yields (g user) used (told, S)
    → Yields (in_session sessions (Ok user) g R) used ((told, sessions), S)
does-in sessions user g R S used told does =
    record {
      does = λ later. ap (λ (x : (Response × Content) × List StepResult). let r :
          MessageOutcome × List StepResult = (((x.0.0, sessions), x.0.1), x.1) in r)
          (does.does later);
    }

-- one that asks it, where something holds of what it tells
pub performs-with : (T : Response → Type 0) (a b : Store) (config : ServerConfig) (now : Ticks)
    (token : NodeId) (sessions : SessionsState) (asked : Service) (call : Call) (bytes : List ℕ)
    (user : List ℕ) (f : Content → List ℕ → Fallible (Response × Content))
    → call_in asked bytes ≡ Some call → ((R : Content) (marks : List StepResult)
    → served config now token call sessions R marks
    ≡ in_session sessions (user_at sessions token) (f R) R marks) → user_at sessions token ≡ Ok user
    → ((used : List StepResult) × (told : Response) × Refines a b used (λ R. f R user) told
    × T told)
    → (used : List StepResult) × (told : Response)
    × Refines a b used (answered_call config now token (call_in asked bytes) sessions)
    (told, sessions) × T told
performs-with T a b config now token sessions asked call bytes user f is same in_use
    (used, told, acts, tells) = (
      Done ∷ used,
      told,
      moves-behind-quiet a b (Done ∷ []) used (λ marks R S. Yields (f R user) marks (told, S))
          (λ marks R S. Yields (answered_call config now token (call_in asked bytes) sessions R)
          marks
          ((told, sessions), S)) refl
          (λ ms R S d. does-read config now token (call_in asked bytes) call sessions R ms
          ((told, sessions), S) is (record {
            does = λ later.
                same R (ms ++ later)
                ∙ ap (λ (u : Result (List ℕ) SessionFault).
                in_session sessions u (f R) R (ms ++ later))
                in_use
                ∙ (does-in sessions user (f R) R S ms told d).does later;
          })) acts,
      tells,
    )

-- ---- updates, which are kept for a log

-- what was made is told
reports-made : (result : Result Made Status) → ReportsAnswer (response_made result) result
reports-made (Ok made) = refl
reports-made (Err status) = inl refl

-- nobody activated the session
pub performs-unknown : (config : ServerConfig) (now : Ticks) (token : NodeId)
    (sessions : SessionsState) (details : List Details) (bytes : List ℕ) (fault : SessionFault)
    (status : Status) (result : Result Made Status)
    → call_in services.HistoryUpdate bytes ≡ Some (HistoryUpdate details)
    → user_at sessions token ≡ Err fault → status ≡ session_fault_status fault
    → result ≡ Err status
    → PerformsHere (answered_call config now token (call_in services.HistoryUpdate bytes) sessions)
    sessions result
performs-unknown config now token sessions details bytes fault status result is unknown code err =
    let Q : Result Made Status → Type 0 = λ x.
    PerformsHere (answered_call config now token (call_in services.HistoryUpdate bytes) sessions)
    sessions x in
    subst Q (sym err)
    (performs-given config now token sessions sessions services.HistoryUpdate
    (HistoryUpdate details) bytes (Err (session_fault_status fault), sessions)
    (Err (session_fault_status fault)) (Err status) is
    (λ R marks. ap (λ (u : Result (List ℕ) SessionFault).
    updates_of config now details sessions u R marks) unknown) refl (inl (ap Err (sym code))))

-- somebody did
pub performs-updates : (a b : Store) (config : ServerConfig) (now : Ticks) (token : NodeId)
    (sessions new : SessionsState) (details : List Details) (bytes user : List ℕ)
    (result : Result Made Status)
    → call_in services.HistoryUpdate bytes ≡ Some (HistoryUpdate details)
    → user_at sessions token ≡ Ok user
    → ComesTo a b (λ R. update_for config now details R user) result
    → new ≡ noting (updates_audited (notes_updates config.settings) config.settings.space user
    details (response_made result)) sessions
    → Performs a b (answered_call config now token (call_in services.HistoryUpdate bytes) sessions)
    new result
performs-updates a b config now token sessions new details bytes user result is known (used, acts)
    kept =
    let told = response_made result in
    let left : Response → SessionsState = λ answer.
    noting (updates_audited (notes_updates config.settings) config.settings.space user details
    answer)
    sessions in (
      Done ∷ used,
      told,
      moves-behind-quiet a b (Done ∷ []) used
          (λ marks R S. Yields (update_for config now details R user) marks (told, S))
          (λ marks R S. Yields (answered_call config now token
          (call_in services.HistoryUpdate bytes) sessions R) marks ((told, new), S)) refl
          (λ ms R S d. does-read config now token (call_in services.HistoryUpdate bytes)
          (HistoryUpdate details) sessions R ms ((told, new), S) is (record {
            does = λ later.
                ap (λ (u : Result (List ℕ) SessionFault).
                updates_of config now details sessions u R (ms ++ later)) known
                ∙ ap (λ (x : (Response × Content) × List StepResult). let r :
                MessageOutcome × List StepResult = (((x.0.0, left x.0.0), x.0.1), x.1) in r)
                (d.does later)
                ∙ ap (λ (s : SessionsState). let r : MessageOutcome × List StepResult =
                (((told, s), S), later) in r) (sym kept);
          })) acts,
      reports-made result,
    )

-- ---- written responses

-- the answer of a service is written
pub responds-finished : (a b : Store) (service : Content → Fallible MessageOutcome)
    (sessions : SessionsState) (now : Ticks) (handle : ℕ) (answer : Result Made Status)
    (result : Result (Unit {0}) Status) (bytes : List ℕ) → Performs a b service sessions answer
    → ((told : Response) → ReportsAnswer told answer → Written now handle told result bytes)
    → Responds a b service sessions now handle result bytes
responds-finished a b service sessions now handle answer result bytes
    (used, told, acts, tells) finished = (used, told, acts, finished told tells)

-- why there is none is told
unwritten : (now : Ticks) (handle : ℕ) (told : Response) (status : Status) (bytes : List ℕ)
    → ReportsAnswer told (Err status) → Written now handle told (Err status) bytes
unwritten now handle told status bytes (inl refused) = inl refused
unwritten now handle told status bytes (inr starved) = inr (inl starved)

-- a service that is refused, or for which memory was wanting, writes none
pub responds-refused : (a b : Store) (service : Content → Fallible MessageOutcome)
    (sessions : SessionsState) (now : Ticks) (handle : ℕ) (status : Status)
    (result : Result (Unit {0}) Status) (bytes : List ℕ)
    → Performs a b service sessions (Err status)
    → result ≡ Err status → Responds a b service sessions now handle result bytes
responds-refused a b service sessions now handle status result bytes (used, told, acts, tells) is =
    subst (λ (r : Result (Unit {0}) Status). Responds a b service sessions now handle r bytes)
    (sym is) (used, told, acts, unwritten now handle told status bytes tells)
