-- A page as it is answered.
use Rattle.std.proofs.Common.{◌≡◌, ◌==◌, ◌<◌, ◌≤◌, ◌⊎◌, inl, inr, ℕ, Bool, true, false, cond, nat_le, List, [], ◌∷◌, map, Option, Some, None, Result, Ok, Err, refl, sym, ap, subst, arith, ◌∙◌}
use Rattle.std.proofs.lemmas.Bool.{cases_lt, true≢false}
use Rattle.std.proofs.lemmas.Bool.Decides.{nat_tests}
use Rattle.std.proofs.lemmas.Option.{none-some}
use Rattle.ua_binary.specs.declared.codes.Status.{Status}
use Rattle.ua_binary.specs.declared.codes.TheConstants.Status.{GOOD, BAD_RESOURCE_UNAVAILABLE, BAD_CONTINUATION_POINT_INVALID}
use Rattle.ua_services.specs.declared.history.HistoryData.{HistoryData}
use Rattle.ua_services.specs.declared.history.HistoryReadResult.{HistoryReadResult}
use Rattle.stamp.specs.Numbers.{number_of}
use Rattle.std.specs.Cmp.Lexicographic.{pointwise}
use Rattle.ua_binary.specs.declared.values.NodeId.{NodeId}
use Rattle.records.specs.Contents.{Content, numbers_of, cut}
use Rattle.archive.specs.declared.setback.StepError.{StepError}
use Rattle.archive.specs.declared.setback.StepError.TheVariants as setback
use Rattle.archive.specs.declared.fault.StoreFault.{StoreFault}
use Rattle.archive.specs.declared.fault.StoreFault.TheVariants as store
use Rattle.archive.specs.declared.fault.StoreFault.TheVariants.{Broken}
use Rattle.archive.specs.Fault.{store_fault_status, step_error_status, mark_of}
use Rattle.archive.specs.Store.{Store, StepResult, Done, IsLawfulContent, IsLeft, AfterCall, Asks, faults_of, CountsFaults}
use Rattle.archive.specs.Steps.{give, step, Refines}
use Rattle.archive.proofs.Acting.{left-before, there-behind, acts-stays, acts-give, acts-as}
use Rattle.archive.proofs.Calls.{passes-leaves}
use Rattle.hist_read.specs.declared.fault.PageFault.{PageFault}
use Rattle.hist_read.specs.declared.fault.PageFault.TheVariants as page
use Rattle.hist_read.specs.declared.query.Query.{Query}
use Rattle.hist_read.specs.declared.point.Position.{Position}
use Rattle.hist_read.specs.Finding.{Finds, fault_met}
use Rattle.hist_read.specs.Carrying.{read_length, IsReadTooLong, TellsWithin}
use Rattle.hist_read.specs.Node.{status_for, refused_read, Behind, checked_read, page_result, page_from, read_node}
use Rattle.hist_read.proofs.NodeParts.{read_from, covers, told}
use Rattle.hist_read.proofs.Cutting.{cut_own}
use Rattle.hist_read.proofs.Carried.{long_read}
use Rattle.hist_read.proofs.Askings.{page_behind}

status_map : {X Y : Type 0} (f : X → Y) (xs : List X) → status_for (map f xs) ≡ status_for xs
status_map f [] = refl
status_map f (x ∷ xs) = refl

-- a status, a point and what was read, as they are found, make the result
pub result_is : {X Y : Type 0} (f : X → Y) (page found : List X) (values : List Y) (status : Status)
    (point wanted : Option (List ℕ)) (read right : HistoryData)
    → found ≡ page → values ≡ map f found → status ≡ status_for values → point ≡ wanted
    → read ≡ right
    → ◌≡◌ {A = HistoryReadResult} (record
    { status = status; continuation_point = point; history_data = read })
    (record { status = status_for page; continuation_point = wanted; history_data = right })
result_is f page found values status point wanted read right same shown told at made =
    let good : status ≡ status_for page =
    told ∙ (ap status_for (shown ∙ ap (map f) same) ∙ status_map f page) in
    λ i. record { status = good i; continuation_point = at i; history_data = made i }

-- ---- a page of what a vector covers

module _ (a b c : Store) (own : List ℕ) (r : Result HistoryReadResult PageFault) (node : NodeId)
    (query : Query) (longest : Option ℕ) (asks : Asks a b (Ok own) (λ v. v ≡ numbers_of a.content))
  where
    -- a page of another content, where both are the same
    behind : (right other : HistoryReadResult)
        → Finds b c longest r (λ x. x ≡ other) (IsReadTooLong other)
        → (IsLawfulContent a.content → b.content ≡ a.content → own ≡ numbers_of a.content
        → other ≡ right) → Finds a c longest r (λ x. x ≡ right) (IsReadTooLong right)
    behind right other found same = page_behind a b c asks.leaves asks.stays longest r _ _ _ _ found
        (λ lawful h is y e. e ∙ same lawful is (asks.answer h))
        (λ lawful h is limit long. subst (λ x. IsReadTooLong x limit)
        (same lawful is (asks.answer h)) long)

    abbrev first : HistoryReadResult
    first = page_result (cut b.content (number_of own)) own b.id node query None

    pub first_page : Finds b c longest r (λ x. x ≡ first) (IsReadTooLong first)
        → Finds a c longest r (λ x. x ≡ page_from a.content a.id node query None)
        (IsReadTooLong (page_from a.content a.id node query None))
    first_page p = behind (page_from a.content a.id node query None) first p (λ lawful same is.
        ap (λ R. page_result (cut R (number_of own)) own b.id node query None) same
        ∙ (ap (λ v. page_result (cut a.content (number_of v)) v b.id node query None) is
        ∙ (ap (λ R. page_result R (numbers_of a.content) b.id node query None)
        (cut_own a.content lawful)
        ∙ ap (λ i. page_result a.content (numbers_of a.content) i node query None)
        asks.leaves.passes.id)))

    abbrev later : Position → List ℕ → HistoryReadResult
    later p v = page_result (cut b.content (number_of v)) v b.id node query (Some p)

    pub later_page : (p : Position) (v : List ℕ) → pointwise nat_le v own ≡ true
        → Finds b c longest r (λ x. x ≡ later p v) (IsReadTooLong (later p v))
        → Finds a c longest r (λ x. x ≡ page_from a.content a.id node query (Some (p, v)))
        (IsReadTooLong (page_from a.content a.id node query (Some (p, v))))
    later_page p v fits found = behind (page_from a.content a.id node query (Some (p, v)))
        (later p v) found (λ lawful same is.
        let test : covers a.content v ≡ true = ap (pointwise nat_le v) (sym is) ∙ fits in
        ap (λ R. page_result (cut R (number_of v)) v b.id node query (Some p)) same
        ∙ (ap (λ i. page_result (cut a.content (number_of v)) v i node query (Some p))
        asks.leaves.passes.id
        ∙ sym (ap (λ t. cond t (page_result (cut a.content (number_of v)) v a.id node query (Some p))
        (refused_read BAD_CONTINUATION_POINT_INVALID)) test)))

-- ---- what came in its way

abbrev pub mark_in : Result HistoryReadResult PageFault → StepResult
mark_in (Err (page.Step setback)) = mark_of setback
mark_in result = Done

-- what is told of a page as it was read, of what came in the way of it, and of one that was too long
abbrev pub TellsOf : Option ℕ → Option HistoryReadResult → Result HistoryReadResult PageFault
    → Type 0
TellsOf longest told (Ok x) = TellsWithin longest told x
TellsOf longest told (Err (page.Step setback)) =
    told ≡ Some (refused_read (step_error_status setback))
TellsOf longest told (Err page.TooLong) = told ≡ None

-- what is told of a page, or of one that is too long
abbrev pub shown_of : Result HistoryReadResult PageFault → Option HistoryReadResult
shown_of (Ok x) = Some x
shown_of (Err (page.Step setback)) = Some (refused_read (step_error_status setback))
shown_of (Err page.TooLong) = None

pub unread_told : (longest : Option ℕ) (told : Option HistoryReadResult)
    (r : Result HistoryReadResult PageFault) (fault : PageFault) → r ≡ Err fault
    → told ≡ shown_of r → TellsOf longest told r
unread_told longest told (Ok x) fault is shows = absurd cc
unread_told longest told (Err (page.Step setback)) fault is shows = shows
unread_told longest told (Err page.TooLong) fault is shows = shows

-- a fault's status isn't good
fault_bad : (fault : StoreFault) → ((store_fault_status fault).0 == 0) ≡ false
fault_bad store.OutOfMemory = refl
fault_bad store.Refused = refl
fault_bad store.WrongReplica = refl
fault_bad store.WrongArchive = refl
fault_bad store.Broken = refl

setback_bad : (why : StepError) → ((step_error_status why).0 == 0) ≡ false
setback_bad setback.OutOfMemory = refl
setback_bad (setback.Store fault) = fault_bad fault

-- what isn't good is told, however long it is
pub refused_told : (longest : Option ℕ) (status : Status) (read : HistoryReadResult)
    → (status.0 == 0) ≡ false → read ≡ refused_read status → TellsWithin longest (Some read) read
refused_told None status read bad is = (refl, tt)
refused_told (Some limit) status read bad is = (
  refl,
  λ long. let good : status ≡ GOOD = sym (ap (λ (r : HistoryReadResult). r.status) is) ∙ long.1 in
      absurd (true≢false (sym (ap (λ (s : Status). s.0 == 0) good) ∙ bad)),
)

passes : (a b : Store) (r : Result HistoryReadResult PageFault) → AfterCall a b (fault_met r)
    → CountsFaults a b (faults_of (mark_in r ∷ []))
passes a b (Ok x) p = passes-leaves a b None p
passes a b (Err page.TooLong) p = passes-leaves a b None p
passes a b (Err (page.Step setback.OutOfMemory)) p = passes-leaves a b None p
passes a b (Err (page.Step (setback.Store fault))) p = passes-leaves a b (Some fault) p

-- a result of status 0 is good
good_status : (s : Status) → (s.0 == 0) ≡ true → s ≡ GOOD
good_status s e = let none : s.0 ≡ 0 = grind (arith, nat_tests, e) in
    λ i. record { 0 = none i }

-- a result that is longer than the limit: the right one, if that is
a_long_one : (limit : ℕ) (right : HistoryReadResult) → (read : HistoryReadResult)
    × IsReadTooLong read limit × (IsReadTooLong right limit → read ≡ right)
a_long_one limit right = by (cases_lt limit (read_length right)) (right.status.0 == 0) refl
  where
    by : (limit < read_length right) ⊎ (read_length right ≤ limit) → (good : Bool)
        → (right.status.0 == 0) ≡ good → (read : HistoryReadResult)
        × IsReadTooLong read limit × (IsReadTooLong right limit → read ≡ right)
    by (inl more) true e = (right, (more, good_status right.status e), λ long. refl)
    by (inl more) false e = let (read, many, good) = long_read limit in (
      read,
      (many, good),
      λ long. absurd (true≢false (sym (ap (λ (s : Status). s.0 == 0) long.1) ∙ e)),
    )
    by (inr less) good e = let (read, many, fine) = long_read limit in (
      read,
      (many, fine),
      λ long. absurd (omega (arith, less, long.0)),
    )

-- a page was read, in one step
pub found_acts : (a b : Store) (longest : Option ℕ) (r : Result HistoryReadResult PageFault)
    (f : Content → HistoryReadResult) (result : Option HistoryReadResult)
    → Finds a b longest r (λ x. x ≡ f a.content) (IsReadTooLong (f a.content))
    → TellsOf longest result r
    → (read : HistoryReadResult)
    × Refines a b (mark_in r ∷ []) (λ R. step (λ mark. (told (f R) mark, R))) read
    × TellsWithin longest result read
found_acts a b longest r f result p tells = by r p tells
  where
    acts : (r : Result HistoryReadResult PageFault)
        → Finds a b longest r (λ x. x ≡ f a.content) (IsReadTooLong (f a.content))
        → (read : HistoryReadResult)
        → ((R : Content) → IsLeft a R → b.honest → read ≡ told (f R) (mark_in r))
        → Refines a b (mark_in r ∷ []) (λ R. step (λ mark. (told (f R) mark, R))) read
    acts r p read is = acts-stays a b (mark_in r) (λ R mark. told (f R) mark) read
        (passes a b r p.leaves) p.stays (there-behind a b (fault_met r) p.leaves)
        (λ honest R h. is R h honest)

    refused : (why : StepError) → result ≡ Some (refused_read (step_error_status why))
        → TellsWithin longest result (refused_read (step_error_status why))
    refused why is =
        subst (λ (o : Option HistoryReadResult). TellsWithin longest o (refused_read (step_error_status why)))
        (sym is) (refused_told longest (step_error_status why) (refused_read (step_error_status why))
        (setback_bad why) refl)

    by : (r : Result HistoryReadResult PageFault)
        → Finds a b longest r (λ x. x ≡ f a.content) (IsReadTooLong (f a.content))
        → TellsOf longest result r
        → (read : HistoryReadResult)
        × Refines a b (mark_in r ∷ []) (λ R. step (λ mark. (told (f R) mark, R))) read
        × TellsWithin longest result read
    by (Ok x) p tells = (
      x,
      acts (Ok x) p x (λ R h honest.
          p.answer honest ∙ ap f (left-before a b R p.leaves honest h)),
      tells,
    )
    by (Err (page.Step setback.OutOfMemory)) p tells =
        let told = refused_read (step_error_status setback.OutOfMemory) in (
          told,
          acts (Err (page.Step setback.OutOfMemory)) p told (λ R h honest. refl),
          refused setback.OutOfMemory tells,
        )
    by (Err (page.Step (setback.Store fault))) p tells =
        let told = refused_read (step_error_status (setback.Store fault)) in (
          told,
          acts (Err (page.Step (setback.Store fault))) p told (λ R h honest. refl),
          refused (setback.Store fault) tells,
        )
    by (Err page.TooLong) p tells =
        let (limit, is, long) = p.too_long refl in
        let (read, more, same) = a_long_one limit (f a.content) in (
          read,
          acts (Err page.TooLong) p read (λ R h honest.
              same (long honest) ∙ ap f (left-before a b R p.leaves honest h)),
          subst (λ (o : Option HistoryReadResult). TellsWithin longest o read) (sym tells)
              (subst (λ (o : Option ℕ). TellsWithin o None read) (sym is) more),
        )

module _ (id : List ℕ) (node : NodeId) (query : Query) (continuation : Option (List ℕ)) where
  -- what is refused whatever is held is no step
  pub refused_acts : (s : Store) (status : Status) (result : HistoryReadResult)
      → Err status ≡ checked_read id node query.details continuation → result ≡ refused_read status
      → Refines s s [] (read_node id node query continuation) result
  refused_acts s status result is e =
      acts-as s s [] (λ R. give (result, R)) (read_node id node query continuation) result
      (λ R marks. ap (λ x. let z : (HistoryReadResult × Content) × List StepResult =
      ((x, R), marks) in z) e ∙ ap (λ j. read_from id node query R j marks) is)
      (acts-give s result)

  pub page_acts : (a b : Store) (longest : Option ℕ) (r : Result HistoryReadResult PageFault)
      (behind : Option Behind) (result : Option HistoryReadResult)
      → Ok behind ≡ checked_read id node query.details continuation
      → Finds a b longest r (λ x. x ≡ page_from a.content id node query behind)
      (IsReadTooLong (page_from a.content id node query behind))
      → TellsOf longest result r
      → (used : List StepResult) × (read : HistoryReadResult)
      × Refines a b used (read_node id node query continuation) read
      × TellsWithin longest result read
  page_acts a b longest r behind result is found shown =
      let (read, acts, tells) = found_acts a b longest r
      (λ R. page_from R id node query behind) result found shown in (
        mark_in r ∷ [],
        read,
        acts-as a b (mark_in r ∷ []) (λ R.
            step (λ mark. (told (page_from R id node query behind) mark, R)))
            (read_node id node query continuation) read
            (λ R marks. ap (λ j. read_from id node query R j marks) is) acts,
        tells,
      )

-- a fault of a broken archive is told
pub broken_told : (longest : Option ℕ) (r : Result HistoryReadResult PageFault)
    (result : Option HistoryReadResult) → fault_met r ≡ Some Broken → TellsOf longest result r
    → result ≡ Some (refused_read BAD_RESOURCE_UNAVAILABLE)
broken_told longest (Ok x) result e tells = absurd (none-some _ e)
broken_told longest (Err page.TooLong) result e tells = absurd (none-some _ e)
broken_told longest (Err (page.Step setback.OutOfMemory)) result e tells = absurd (none-some _ e)
broken_told longest (Err (page.Step (setback.Store fault))) result e tells =
    let same : fault ≡ Broken = cc in
    tells ∙ ap (λ f. Some (refused_read (step_error_status (setback.Store f)))) same
