-- Deletes of all values of a stretch of time: a listing, and deletes at what it told.
use Rattle.std.proofs.Common.{◌≡◌, ℕ, ◌≤◌, suc, nat_lt, min, ℤ, Bool, true, false, List, [], ◌∷◌, map, take, length, Option, Some, None, Result, Ok, Err, IfOk, IfSome, ◌||◌, refl, sym, ap, ◌∙◌, subst, inl, arith}
use Rattle.std.specs.Prelude.{if◌then◌else◌}
use Rattle.std.specs.List.{take-map}
use Rattle.std.proofs.Math.Bool.{or-false}
use Rattle.std.proofs.lemmas.Bool.{true≢false, ltb-false}
use Rattle.std.proofs.lemmas.Bool.Decides.{nat_tests}
use Rattle.std.proofs.lemmas.List.{length-take, take_all}
use Rattle.std.proofs.lemmas.Option.{none-some}
use Rattle.stamp.specs.Numbers.{number_of}
use Rattle.ua_binary.specs.declared.codes.Status.{Status}
use Rattle.ua_binary.specs.declared.codes.TheConstants.Status.{BAD_TOO_MANY_OPERATIONS}
use Rattle.ua_binary.specs.declared.values.NodeId.{NodeId}
use Rattle.ua_binary.specs.declared.values.Ticks.{Ticks}
use Rattle.ua_services.specs.declared.updates.HistoryUpdateResult.{HistoryUpdateResult}
use Rattle.records.specs.Contents.{Content, vec, cut}
use Rattle.records.specs.Moments.{moment}
use Rattle.records.specs.declared.shown.Held.{Held}
use Rattle.archive.specs.declared.fault.StoreFault.{StoreFault}
use Rattle.archive.specs.declared.reading.Direction.TheVariants.{Forward}
use Rattle.archive.specs.Fault.{store_fault_status, status_told}
use Rattle.archive.specs.Reading.{range_of}
use Rattle.archive.specs.Steps.{Fallible, step, Refines, Yields}
use Rattle.archive.specs.Growth.{Grows}
use Rattle.archive.specs.Store.{Store, StepResult, Done, StoreFailed, breaks, Asks, MayBeMarksAfterRecovery, IsLeft}
use Rattle.archive.proofs.Calls.{asks-then, in_use, left_in_use}
use Rattle.archive.proofs.Acting.{left-alone, left-before, there-behind}
use Rattle.hist_update.specs.declared.request.Request.{Request}
use Rattle.hist_update.specs.Codes.{first_other}
use Rattle.hist_update.specs.Outcome.{DeleteAt}
use Rattle.hist_update.specs.Operating.{Begins, BeginsListed}
use Rattle.hist_update.specs.Updates.{Updated, refused_update, unless, past, begin, last_moment_of_range, live_times_in, stretch_refusal, listing_refusal, delete_listed, delete_raw, AreEnded, needs_of, needs_of_stretch}
use Rattle.hist_update.proofs.Asking.{moves-behind, covers_all}
use Rattle.hist_update.proofs.Answering.{acts-refused, acts-free, acts-hindered, none-ended}

-- ---- what was listed is enough to judge it

same_test : (n : ℕ) → nat_lt 1000 (suc (min 1000 n)) ≡ nat_lt 1000 (suc n)
same_test n = grind (arith, nat_tests)

-- the first 1,001 tell whether there are none, and whether there are too many
judged_by_first : (xs : List ℤ) → listing_refusal (take 1001 xs) ≡ listing_refusal xs
judged_by_first [] = refl
judged_by_first (x ∷ xs) =
    ap (λ (many : Bool). if many then Some BAD_TOO_MANY_OPERATIONS else None)
    (ap (λ n. nat_lt 1000 (suc n)) (length-take 1000 xs) ∙ same_test (length xs))

few : (x : ℤ) (xs : List ℤ) → listing_refusal (x ∷ xs) ≡ None → length (x ∷ xs) ≤ 1000
few x xs e = go (nat_lt 1000 (length (x ∷ xs))) refl e
  where
    go : (many : Bool) → nat_lt 1000 (length (x ∷ xs)) ≡ many
        → (if many then Some BAD_TOO_MANY_OPERATIONS else None) ≡ None → length (x ∷ xs) ≤ 1000
    go true p h = absurd (none-some _ (sym h))
    go false p h = ltb-false _ _ p

-- and are all, where they aren't too many
all_listed : (xs : List ℤ) → listing_refusal xs ≡ None → take 1001 xs ≡ xs
all_listed [] e = refl
all_listed (x ∷ xs) e = take_all 1001 (x ∷ xs) (omega (arith, few x xs e))

pub listed-by-first : (own : ℕ) (request : Request) (xs : List ℤ) (R : Content)
    → delete_listed own request (take 1001 xs) R ≡ delete_listed own request xs R
listed-by-first own request xs R = go (listing_refusal xs) refl
  where
    go : (o : Option Status) → listing_refusal xs ≡ o
        → delete_listed own request (take 1001 xs) R ≡ delete_listed own request xs R
    go (Some code) e =
        ap (λ (o : Option Status).
        unless o R (begin own request first_other (map DeleteAt (take 1001 xs)) R))
        (judged_by_first xs ∙ e)
        ∙ ap (λ (o : Option Status). unless o R (begin own request first_other (map DeleteAt xs) R))
        (sym e)
    go None e = ap (λ l. delete_listed own request l R) (all_listed xs e)

-- ---- the listing

-- a range over all that the archive told of itself
pub listed : (a b c : Store) (v : List ℕ) (node : NodeId) (from to : ℤ) {B : Type 0}
    (items : B → List Held) (result : Result B StoreFault)
    → Asks a b (Ok v) (λ w. (replica : ℕ) → number_of w replica ≡ vec a.content replica)
    → Asks b c result (λ w. items w
    ≡ take 1001 (range_of (cut b.content (number_of v)) node from to Forward))
    → Asks a c result (λ w. items w ≡ take 1001 (range_of a.content node from to Forward))
listed a b c v node from to {B} items result p q =
    asks-then a b c v result (λ w. (replica : ℕ) → number_of w replica ≡ vec a.content replica)
    (λ w. items w ≡ take 1001 (range_of (cut b.content (number_of v)) node from to Forward))
    (λ w. items w ≡ take 1001 (range_of a.content node from to Forward)) p q
    (λ h same is told. shown result (covers_all a b v p (q.leaves.passes.honest h)) told)
  where
    shown : (r : Result B StoreFault) → cut b.content (number_of v) ≡ a.content
        → IfOk r (λ w. items w ≡ take 1001 (range_of
        (cut b.content (number_of v)) node from to Forward))
        → IfOk r (λ w. items w ≡ take 1001 (range_of a.content node from to Forward))
    shown (Ok w) e told = told ∙ ap (λ S. take 1001 (range_of S node from to Forward)) e
    shown (Err fault) e told = tt

-- ---- the deletes of a listing

both_maps : (lives : List Held) → map (λ (h : Held). DeleteAt h.time) lives
    ≡ map DeleteAt (map (λ (h : Held). h.time) lives)
both_maps [] = refl
both_maps (h ∷ lives) = ap (λ ops. DeleteAt h.time ∷ ops) (both_maps lives)

-- it is refused
pub listed-refused : (a : Store) (request : Request) (times : List ℤ) (code : Status)
    (result : HistoryUpdateResult) → listing_refusal times ≡ Some code
    → result ≡ refused_update code → BeginsListed a a request times result
listed-refused a request times code result e is =
    subst (λ r. BeginsListed a a request times r) (sym is) (record {
      used = [];
      acts = acts-refused a (listing_refusal times) code
          (begin a.own request first_other (map DeleteAt times)) e;
      ended = none-ended a.broken (needs_of a.own request (map DeleteAt times));
      none = subst (λ o. IfSome o (λ c. ◌≡◌ {A = List StepResult} [] [])) (sym e) refl;
    })

-- it isn't
pub listed-begun : (a b : Store) (request : Request) (lives : List Held)
    (result : HistoryUpdateResult) → listing_refusal (map (λ (h : Held). h.time) lives) ≡ None
    → Begins a b request first_other (map (λ (h : Held). DeleteAt h.time) lives) result
    → BeginsListed a b request (map (λ (h : Held). h.time) lives) result
listed-begun a b request lives result e u =
    let times = map (λ (h : Held). h.time) lives in
    let v : Begins a b request first_other
    (map DeleteAt (map (λ (h : Held). h.time) lives)) result =
    subst (λ ops. Begins a b request first_other ops result) (both_maps lives) u in
    record {
      used = v.used;
      acts = acts-free a b v.used (listing_refusal times)
          (begin a.own request first_other (map DeleteAt times)) result e v.acts;
      ended = v.ended;
      none = subst (λ o. IfSome o (λ c. v.used ≡ [])) (sym e) tt;
    }

-- ---- a stretch

abbrev pub AnswersPast : Store → Store → Request → ℤ → ℤ → HistoryUpdateResult → Type 0
AnswersPast a c request start end_ result =
    (used : List StepResult) × Refines a c used (λ R.
    past (step status_told) R (delete_listed a.own request
    (live_times_in R request.node start end_) R)) result
    × (c.honest → (R : Content) → IsLeft a R
    → AreEnded a.broken (true ∷ needs_of a.own request
    (map DeleteAt (live_times_in R request.node start end_))) used)

fine-met : {X : Type 0} (fault : StoreFault) → StoreFailed fault ≡ Done → X
fine-met fault e = absurd (true≢false (sym (ap (λ m. elim m [ Done ↦ true | _ ↦ false ]) e)))

-- the listing met a fault
pub stretch-failed : {B : Type 0} (a c : Store) (fault : StoreFault) (P : B → Type 0)
    (request : Request) (start end_ : ℤ) (result : HistoryUpdateResult)
    → Asks {A = B} a c (Err fault) P → result ≡ refused_update (store_fault_status fault)
    → AnswersPast a c request start end_ result
stretch-failed a c fault P request start end_ result p is =
    let f : Content → Fallible Updated =
    λ R. delete_listed a.own request (live_times_in R request.node start end_) R in (
      StoreFailed fault ∷ [],
      subst (λ r. Refines a c (StoreFailed fault ∷ []) (λ R. past (step status_told) R (f R)) r)
          (sym is) (acts-hindered a c (StoreFailed fault) (store_fault_status fault)
          (step status_told) f p.leaves.passes p.stays (there-behind a c (Some fault) p.leaves)
          (λ later. refl)),
      λ honest R h. (λ e m. fine-met fault m, tt),
    )

-- the listing was answered
pub stretch-listed : {B : Type 0} (a b c : Store) (lives : B) (items : B → List Held)
    (times : List ℤ) (request : Request) (start end_ from to : ℤ) (result : HistoryUpdateResult)
    → Asks a b (Ok lives) (λ w. items w
    ≡ take 1001 (range_of a.content request.node from to Forward)) → from ≡ moment start 0
    → to ≡ last_moment_of_range start end_ → times ≡ map (λ (h : Held). h.time) (items lives)
    → BeginsListed b c request times result → AnswersPast a c request start end_ result
stretch-listed {B} a b c lives items times request start end_ from to result p first final is u = (
  Done ∷ u.used,
  moves-behind a b c lives (λ (w : B). items w
      ≡ take 1001 (range_of a.content request.node from to Forward)) (Done ∷ u.used)
      (λ marks R S. Yields (past (step status_told) R
      (delete_listed a.own request (live_times_in R request.node start end_) R)) marks (result, S))
      p u.acts.passes u.acts.there
      (λ honest told same S h.
      let (marks, so, R, was, does, grows) = u.acts.acts honest S h in
      let from_there : R ≡ a.content =
      left-alone b R p.leaves.after (u.acts.passes.honest honest) (left_in_use a b p.leaves) was
      ∙ same in (
        Done ∷ marks,
        (
          inl refl,
          subst (λ (x : Bool). MayBeMarksAfterRecovery x u.used marks)
              (left_in_use a b p.leaves) so,
        ),
        step_past marks S told (subst
            (λ (Q : Content). Yields {A = Updated} (delete_listed b.own request times Q) marks
            (result, S)) from_there does),
        subst (λ (Q : Content). Grows a.own Q S) from_there
            (subst (λ (own : ℕ). Grows own R S) p.leaves.passes.own grows),
      )),
  λ honest R h.
      let same : a.content ≡ R = left-before a b R p.leaves (u.acts.passes.honest honest) h in
      let told = p.answer (u.acts.passes.honest honest) in
      subst (λ (S : Content). AreEnded a.broken (true
      ∷ needs_of a.own request (map DeleteAt (live_times_in S request.node start end_)))
      (Done ∷ u.used)) same
      (λ e m. absurd (true≢false (sym e ∙ used)), all_ended told),
)
  where
    used : a.broken ≡ false
    used = in_use a b p.leaves

    own : b.own ≡ a.own
    own = p.leaves.passes.own

    found : items lives ≡ take 1001 (range_of a.content request.node from to Forward)
        → times ≡ take 1001 (live_times_in a.content request.node start end_)
    found told = is ∙ (ap (map (λ (h : Held). h.time))
        (told ∙ (ap (λ t. take 1001 (range_of a.content request.node t to Forward)) first
        ∙ ap (λ t. take 1001 (range_of a.content request.node (moment start 0) t Forward)) final))
        ∙ sym (take-map (λ (h : Held). h.time) 1001
        (range_of a.content request.node (moment start 0)
        (last_moment_of_range start end_) Forward)))

    step_past : (marks : List StepResult) (S : Content)
        → items lives ≡ take 1001 (range_of a.content request.node from to Forward)
        → Yields {A = Updated} (delete_listed b.own request times a.content) marks (result, S)
        → Yields {A = Updated} (past (step status_told) a.content
        (delete_listed a.own request (live_times_in a.content request.node start end_) a.content))
        (Done ∷ marks) (result, S)
    step_past marks S told d =
        let e : Yields {A = Updated} (delete_listed a.own request
        (live_times_in a.content request.node start end_) a.content) marks (result, S) =
        subst (λ m. Yields {A = Updated} m marks (result, S))
        (listed-by-first a.own request
        (live_times_in a.content request.node start end_) a.content)
        (subst (λ l. Yields {A = Updated} (delete_listed a.own request l a.content) marks
        (result, S)) (found told)
        (subst (λ n. Yields {A = Updated} (delete_listed n request times a.content) marks
        (result, S)) own d)) in
        record { does = e.does }

    all_ended : items lives ≡ take 1001 (range_of a.content request.node from to Forward)
        → AreEnded (a.broken || breaks Done) (needs_of a.own request
        (map DeleteAt (live_times_in a.content request.node start end_))) u.used
    all_ended told = go (listing_refusal times) refl u.none
      where
        go : (o : Option Status) → listing_refusal times ≡ o → IfSome o (λ code. u.used ≡ [])
            → AreEnded (a.broken || breaks Done) (needs_of a.own request
            (map DeleteAt (live_times_in a.content request.node start end_))) u.used
        go (Some code) e none =
            subst (λ l. AreEnded (a.broken || breaks Done)
            (needs_of a.own request (map DeleteAt
            (live_times_in a.content request.node start end_))) l) (sym none)
            (none-ended (a.broken || breaks Done) (needs_of a.own request
            (map DeleteAt (live_times_in a.content request.node start end_))))
        go None e none =
            let all : times ≡ live_times_in a.content request.node start end_ =
            found told ∙ all_listed (live_times_in a.content request.node start end_)
            (sym (judged_by_first (live_times_in a.content request.node start end_))
            ∙ (sym (ap listing_refusal (found told)) ∙ e)) in
            subst (λ l. AreEnded (a.broken || breaks Done)
            (needs_of a.own request (map DeleteAt l)) u.used) all
            (subst (λ n. AreEnded (a.broken || breaks Done)
            (needs_of n request (map DeleteAt times)) u.used) own
            (subst (λ x. AreEnded x (needs_of b.own request (map DeleteAt times)) u.used)
            (left_in_use a b p.leaves ∙ (sym used ∙ sym (or-false a.broken))) u.ended))

-- it isn't refused by what it says itself
pub stretch-free : (a c : Store) (request : Request) (modified : Bool) (start end_ : Ticks)
    (result : HistoryUpdateResult) → stretch_refusal modified start.0 end_.0 ≡ None
    → AnswersPast a c request start.0 end_.0 result
    → (used : List StepResult) × Refines a c used
    (delete_raw a.own request modified start end_) result
    × (c.honest → (R : Content) → IsLeft a R
    → AreEnded a.broken (needs_of_stretch a.own request start end_ R) used)
stretch-free a c request modified start end_ result e u = (
  u.0,
  acts-free a c u.0 (stretch_refusal modified start.0 end_.0)
      (λ R. past (step status_told) R (delete_listed a.own request
      (live_times_in R request.node start.0 end_.0) R)) result e u.1,
  u.2,
)

pub stretch-refused : (a : Store) (request : Request) (modified : Bool) (start end_ : Ticks)
    (code : Status) (result : HistoryUpdateResult)
    → stretch_refusal modified start.0 end_.0 ≡ Some code → result ≡ refused_update code
    → (used : List StepResult) × Refines a a used
    (delete_raw a.own request modified start end_) result
    × (a.honest → (R : Content) → IsLeft a R
    → AreEnded a.broken (needs_of_stretch a.own request start end_ R) used)
stretch-refused a request modified start end_ code result e is = (
  [],
  subst (λ r. Refines a a [] (delete_raw a.own request modified start end_) r) (sym is)
      (acts-refused a (stretch_refusal modified start.0 end_.0) code
      (λ R. past (step status_told) R (delete_listed a.own request
      (live_times_in R request.node start.0 end_.0) R)) e),
  λ honest R h. none-ended a.broken (needs_of_stretch a.own request start end_ R),
)
