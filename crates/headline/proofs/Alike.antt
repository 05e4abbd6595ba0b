-- Replicas that have learned the same answer alike.
use Rattle.std.proofs.Common.{◌≡◌, ℕ, true, false, List, [], ◌∷◌, ◌++◌, map, Option, Some, Result, Ok, Err, refl, sym, ap, ◌∙◌, subst, inl, inr}
use Rattle.std.specs.Prelude.{◌||◌}
use Rattle.std.specs.List.{AllByRecursion, list_any}
use Rattle.std.proofs.Math.Bool.{or-false}
use Rattle.std.proofs.lemmas.Bool.{cases_Bool, true≢false}
use Rattle.std.proofs.lemmas.Option.{none-some, same_Some}
use Rattle.ua_binary.specs.declared.values.NodeId.{NodeId}
use Rattle.ua_binary.specs.declared.codes.Status.{Status}
use Rattle.ua_services.specs.declared.history.HistoryReadResult.{HistoryReadResult}
use Rattle.records.specs.Contents.{Content}
use Rattle.archive.specs.declared.fault.StoreFault.{StoreFault}
use Rattle.archive.specs.declared.fault.StoreFault.TheVariants as store
use Rattle.archive.specs.Store.{Store, StepResult, Done, NoMemory, RecordStands, StoreFailed, faults_of, is_break, IsLeft}
use Rattle.archive.specs.Steps.{Yields}
use Rattle.archive.proofs.Acting.{left-alone, found-faults}
use Rattle.hist_read.specs.declared.query.Query.{Query}
use Rattle.hist_read.specs.Node.{Behind, checked_read, page_from, read_node}
use Rattle.hist_read.proofs.NodeParts.{read_from, told}
use Rattle.hist_read.specs.Chains.{Page, IsRead, Chain}
use Rattle.exchange.specs.Worlds.{ReplicaState}
use Rattle.headline.specs.Executions.{Execution, IsExecution, IsReachable, HaveLearnedSameNames}
use Rattle.headline.specs.Answers.{HistoryQuery, replica_answer, results_of, AreFromEither, IsReplicaOf, IsReadAnswered, ReportsNoFailure}
use Rattle.headline.proofs.Times.{same_learned}

-- ---- replicas of a world

pub same_results : (s t : ReplicaState) (asked : HistoryQuery) → s.id ≡ t.id → s.content ≡ t.content
    → results_of asked s ≡ results_of asked t
same_results s t asked id content =
    ap (λ (i : List ℕ). map (λ item. (read_node i item.0 asked.query item.1 s.content []).0.0)
    asked.nodes) id
    ∙ ap (λ (R : Content). map (λ item. (read_node t.id item.0 asked.query item.1 R []).0.0)
    asked.nodes) content

-- what is read of one content from one point
read_one : (id : List ℕ) (node : NodeId) (query : Query) (point : Option (List ℕ)) (R : Content)
    (page : Page) → page.content ≡ R → IsRead id node query point page
    → page.result ≡ (read_node id node query point R (Done ∷ [])).0.0
read_one id node query point R page same read =
    ap (λ (x : (HistoryReadResult × Content) × List StepResult). x.0.0) (sym (read.does []))
    ∙ ap (λ (S : Content). (read_node id node query point S (Done ∷ [])).0.0) same

same_chains : (id : List ℕ) (node : NodeId) (query : Query) (point : Option (List ℕ)) (R : Content)
    (pages others : List Page)
    → AllByRecursion (λ page. page.content ≡ R) pages
    → AllByRecursion (λ page. page.content ≡ R) others
    → Chain id node query point pages → Chain id node query point others
    → map (λ page. page.result) pages ≡ map (λ page. page.result) others
same_chains id node query point R [] others a b c d = absurd c
same_chains id node query point R (p ∷ ps) [] a b c d = absurd d
same_chains id node query point R (p ∷ []) (q ∷ []) a b c d =
    let e = read_one id node query point R p a.0 c.0
    ∙ sym (read_one id node query point R q b.0 d.0) in
    ap (λ (r : HistoryReadResult). r ∷ []) e
same_chains id node query point R (p ∷ []) (q ∷ u ∷ us) a b c d =
    let e = read_one id node query point R p a.0 c.0
    ∙ sym (read_one id node query point R q b.0 d.0) in
    absurd (none-some _ (sym c.1 ∙ (ap (λ (r : HistoryReadResult). r.continuation_point) e ∙ d.2)))
same_chains id node query point R (p ∷ v ∷ vs) (q ∷ []) a b c d =
    let e = read_one id node query point R p a.0 c.0
    ∙ sym (read_one id node query point R q b.0 d.0) in
    absurd (none-some _ (sym d.1 ∙
    (ap (λ (r : HistoryReadResult). r.continuation_point) (sym e) ∙ c.2)))
same_chains id node query point R (p ∷ v ∷ vs) (q ∷ u ∷ us) a b c d =
    let e = read_one id node query point R p a.0 c.0
    ∙ sym (read_one id node query point R q b.0 d.0) in
    let bytes : c.1 ≡ d.1 = same_Some _ _ (sym c.2
    ∙ (ap (λ (r : HistoryReadResult). r.continuation_point) e ∙ d.2)) in
    let rest : Chain id node query (Some c.1) (u ∷ us) =
    subst (λ x. Chain id node query (Some x) (u ∷ us)) (sym bytes) d.3 in
    let behind = same_chains id node query (Some c.1) R (v ∷ vs) (u ∷ us) a.1 b.1 c.3 rest in
    ap (λ (r : HistoryReadResult). r ∷ map (λ page. page.result) (v ∷ vs)) e
    ∙ ap (λ rs. q.result ∷ rs) behind

from_one : (s t : ReplicaState) (pages : List Page) → s.content ≡ t.content
    → AreFromEither s t pages → AllByRecursion (λ page. page.content ≡ t.content) pages
from_one s t [] e all = tt
from_one s t (page ∷ pages) e all =
    (elim all.0 [ inl h ↦ h ∙ e | inr h ↦ h ], from_one s t pages e all.1)

pub same_turns : (s t : ReplicaState) (node : NodeId) (query : Query) (point : Option (List ℕ))
    (pages others : List Page) → s.id ≡ t.id → s.content ≡ t.content → AreFromEither s t pages
    → AreFromEither s t others
    → Chain s.id node query point pages → Chain t.id node query point others
    → map (λ page. page.result) pages ≡ map (λ page. page.result) others
same_turns s t node query point pages others id content a b c d =
    same_chains t.id node query point t.content pages others (from_one s t pages content a)
    (from_one s t others content b) (subst (λ i. Chain i node query point pages) id c) d

-- ---- archives

-- a step more would be left
none_left : (mark : StepResult) (used : List StepResult) → (mark ∷ used) ++ [] ≡ [] → ⊥
none_left mark used e = cc

-- what a fault is told as
hindered : (answer : HistoryReadResult) (fault : StoreFault)
    → ReportsNoFailure (told answer (StoreFailed fault)) → ⊥
hindered answer store.OutOfMemory free = free.memory refl
hindered answer store.Refused free = free.store refl
hindered answer store.WrongReplica free = free.store refl
hindered answer store.WrongArchive free = free.store refl
hindered answer store.Broken free = free.store refl

module _ (id : List ℕ) (node : NodeId) (query : Query) (R S : Content)
    (one : HistoryReadResult) where
  abbrev first_of : (HistoryReadResult × Content) × List StepResult → HistoryReadResult
  first_of x = x.0.0

  abbrev left_of : (HistoryReadResult × Content) × List StepResult → List StepResult
  left_of x = x.1

  by_marks : (j : Result (Option Behind) Status) (used : List StepResult)
      → Yields (read_from id node query R j) used (one, S) → ReportsNoFailure one
      → one ≡ (read_from id node query R j []).0.0
  by_marks (Err status) used does free = ap first_of (sym (does.does []))
  by_marks (Ok behind) [] does free = ap first_of (sym (does.does []))
  by_marks (Ok behind) (Done ∷ used) does free = ap first_of (sym (does.does []))
  by_marks (Ok behind) (NoMemory ∷ used) does free =
      let e : one ≡ told (page_from R id node query behind) NoMemory =
      ap first_of (sym (does.does [])) in
      absurd ((subst ReportsNoFailure e free).memory refl)
  by_marks (Ok behind) (RecordStands ∷ used) does free =
      let e : one ≡ told (page_from R id node query behind) RecordStands =
      ap first_of (sym (does.does [])) in
      absurd ((subst ReportsNoFailure e free).store refl)
  by_marks (Ok behind) (StoreFailed fault ∷ used) does free =
      let e : one ≡ told (page_from R id node query behind) (StoreFailed fault) =
      ap first_of (sym (does.does [])) in
      absurd (hindered (page_from R id node query behind) fault (subst ReportsNoFailure e free))

  -- no fault of the store came in its way
  no_fault : (j : Result (Option Behind) Status) (used : List StepResult)
      → Yields (read_from id node query R j) used (one, S) → ReportsNoFailure one
      → faults_of used ≡ []
  no_fault (Err status) [] does free = refl
  no_fault (Err status) (mark ∷ used) does free =
      absurd (none_left mark used (ap left_of (does.does [])))
  no_fault (Ok behind) [] does free = refl
  no_fault (Ok behind) (Done ∷ []) does free = refl
  no_fault (Ok behind) (Done ∷ mark ∷ used) does free =
      absurd (none_left mark used (ap left_of (does.does [])))
  no_fault (Ok behind) (NoMemory ∷ used) does free =
      let e : one ≡ told (page_from R id node query behind) NoMemory =
      ap first_of (sym (does.does [])) in
      absurd ((subst ReportsNoFailure e free).memory refl)
  no_fault (Ok behind) (RecordStands ∷ used) does free =
      let e : one ≡ told (page_from R id node query behind) RecordStands =
      ap first_of (sym (does.does [])) in
      absurd ((subst ReportsNoFailure e free).store refl)
  no_fault (Ok behind) (StoreFailed fault ∷ used) does free =
      let e : one ≡ told (page_from R id node query behind) (StoreFailed fault) =
      ap first_of (sym (does.does [])) in
      absurd (hindered (page_from R id node query behind) fault (subst ReportsNoFailure e free))

-- what an archive in use is left with is what its replica holds
in_site : (a : Store) (s : ReplicaState) (R : Content) → IsReplicaOf a s → IsLeft a R
    → R ≡ s.content
in_site a s R is left = left-alone a R is.used.durable is.used.honest is.used.unbroken left
    ∙ is.content

-- an answer that reports nothing leaves the store in use
free_in_use : (s : ReplicaState) (a c : Store) (node : NodeId) (query : Query)
    (point : Option (List ℕ)) (one : HistoryReadResult) → IsReplicaOf a s → c.honest
    → IsReadAnswered a c node query point one → ReportsNoFailure one
    → c.broken ≡ false
free_in_use s a c node query point one is honest answered free = elim (cases_Bool c.broken) [
  | inl broken ↦ absurd (answered.1.there
      (λ h none. none a.content (inl (is.used.unbroken, refl))) honest
      (λ S left. unbroken broken S left))
  | inr whole ↦ whole
]
  where
    unbroken : c.broken ≡ true → (S : Content) → IsLeft c S → ⊥
    unbroken broken S left =
        let found = answered.1.acts honest S left in
        let none : faults_of found.0 ≡ [] =
        no_fault a.id node query found.2 S one
        (checked_read a.id node query.details point) found.0 found.4 free in
        let quiet : faults_of answered.0 ≡ [] =
        sym (found-faults a.broken answered.0 found.0 found.1) ∙ none in
        let used : c.broken ≡ false =
        answered.1.passes.broken ∙ (ap
        (λ (fs : List StoreFault). a.broken || list_any is_break fs) quiet
        ∙ (or-false a.broken ∙ is.used.unbroken)) in
        true≢false (sym broken ∙ used)

pub answered_so : (s : ReplicaState) (a c : Store) (node : NodeId) (query : Query)
    (point : Option (List ℕ)) (one : HistoryReadResult) → IsReplicaOf a s → c.honest
    → IsReadAnswered a c node query point one → ReportsNoFailure one
    → one ≡ replica_answer query s node point
answered_so s a c node query point one is honest answered free =
    let found = answered.1.acts honest c.content (inl
    (free_in_use s a c node query point one is honest answered free, refl)) in
    let same : found.2 ≡ s.content = in_site a s found.2 is found.3 in
    let does : Yields (read_node s.id node query point s.content) found.0 (one, c.content) =
    subst (λ i. Yields (read_node i node query point s.content) found.0 (one, c.content)) is.id
    (subst (λ R. Yields (read_node a.id node query point R) found.0 (one, c.content)) same
    found.4) in
    by_marks s.id node query s.content c.content one
    (checked_read s.id node query.details point) found.0 does free

pub answered_alike : (p : Execution) (s t : ReplicaState) (a c b d : Store) (node : NodeId)
    (query : Query) (point : Option (List ℕ)) (one other : HistoryReadResult) → IsExecution p
    → IsReachable p s → IsReachable p t → HaveLearnedSameNames s t
    → IsReplicaOf a s → IsReplicaOf b t → c.honest → d.honest
    → IsReadAnswered a c node query point one → IsReadAnswered b d node query point other
    → ReportsNoFailure one → ReportsNoFailure other → one ≡ other
answered_alike p s t a c b d node query point one other past was was' same is is' honest honest'
    answered answered' free free' =
    let e = same_learned p s t past was was' same in
    answered_so s a c node query point one is honest answered free
    ∙ (ap (λ (i : List ℕ). (read_node i node query point s.content []).0.0) e.0
    ∙ (ap (λ (R : Content). (read_node t.id node query point R []).0.0) e.1
    ∙ sym (answered_so t b d node query point other is' honest' answered' free')))
