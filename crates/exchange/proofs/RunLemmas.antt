-- One event at one archive.
use Rattle.std.proofs.Common.{◌≡◌, ℕ, ◌+◌, ◌-◌, ◌^◌, ◌<◌, ◌≤◌, ℤ, pos, Bool, true, false, ◌||◌, List, [], ◌∷◌, ◌++◌, take, length, get_or, Option, Some, None, Result, Ok, Err, refl, sym, ap, ◌∙◌, subst, arith, inl, inr, ◌⊎◌, option_to_list, true≢false, length-append}
use Rattle.std.specs.Prelude.{unwrap_or}
use Rattle.std.proofs.lemmas.List.{take_more}
use Rattle.std.proofs.lemmas.Option.{slice_get-get_or}
use Rattle.std.specs.List.{list_any}
use Rattle.std.proofs.lemmas.Bool.{or_right}
use Rattle.records.proofs.ContentsParts.{after_finding}
use Rattle.ua_binary.specs.declared.codes.Status.{Status}
use Rattle.ua_binary.specs.declared.codes.TheConstants.Status.{BAD_OUT_OF_MEMORY, BAD_RESOURCE_UNAVAILABLE}
use Rattle.ua_services.specs.declared.updates.HistoryUpdateResult.{HistoryUpdateResult}
use Rattle.ua_variant.specs.declared.update_type.HistoryUpdateType.{HistoryUpdateType}
use Rattle.ua_variant.specs.declared.update_type.HistoryUpdateType.TheVariants.{Insert, Replace, Update, Delete}
use Rattle.ua_variant.specs.UpdateType.{update_number}
use Rattle.ua_variant.specs.declared.data.DataValue.{DataValue}
use Rattle.ua_variant.specs.declared.value.ValueType.{ValueType}
use Rattle.ua_binary.specs.declared.values.Ticks.{Ticks}
use Rattle.records.specs.Moments.{moment}
use Rattle.records.specs.Contents.{Content, Adds, finding, learned, merged, put}
use Rattle.records.specs.Records.{is_delete}
use Rattle.records.specs.declared.record.Record.{Record}
use Rattle.archive.specs.declared.fault.StoreFault.{StoreFault}
use Rattle.archive.specs.declared.fault.StoreFault.TheVariants as store
use Rattle.archive.specs.declared.fault.LearnFault.{LearnFault}
use Rattle.archive.specs.declared.fault.LearnFault.TheVariants as refused
use Rattle.archive.specs.Store.{Store, StepResult, Done, NoMemory, RecordStands, StoreFailed, faults_in, faults_of, failed_by, fault_in, is_break, faults_after, CountsFaults, Asks, Learns, IsLeft, answer_to, store_fault_in}
use Rattle.archive.specs.Steps.{Yields, Refines}
use Rattle.archive.proofs.Calls.{passes-none, passes-then}
use Rattle.archive.proofs.Acting.{acts-as, found-faults, learned-left, left-stays, unlearned-left}
use Rattle.hist_update.specs.declared.request.Request.{Request}
use Rattle.hist_update.specs.Codes.{asked_by, list_refusal}
use Rattle.hist_update.specs.Outcome.{Operation, Write, DeleteAt, outcome, content_after}
use Rattle.hist_update.specs.Laws.{IsBad}
use Rattle.hist_update.specs.Updates.{code_by, left_by, unless, begin, data_refusal, writes, deletes_at, update_data, delete_at}
use Rattle.hist_update.proofs.UpdatesParts.{all_good}
use Rattle.hist_update.proofs.Answered.{bad_kept}
use Rattle.exchange.specs.declared.world.Halted.{Halted}
use Rattle.exchange.specs.Merging.{AreLearned, Meets, IsRefusal}
use Rattle.exchange.specs.Running.{Turns, IsSame, IsSameOr, HasLearnedFirst, EndsBy, IsClear, update_status}
use Rattle.exchange.proofs.MergeLemmas.{are_learned_push, learned_told, refused_left, merged_stops}

-- ---- an update

pub asked_again : (how : HistoryUpdateType) → is_delete how ≡ false
    → asked_by (pos (update_number how)) ≡ Some how
asked_again Insert e = refl
asked_again Replace e = refl
asked_again Update e = refl
asked_again Delete e = cc

-- an update of one value
pub one_written : (a b : Store) (used : List StepResult) (request : Request) (type : ValueType)
    (how : HistoryUpdateType) (v : DataValue) (n : ℤ) (values : List DataValue)
    (told : HistoryUpdateResult)
    → n ≡ pos (update_number how) → Refines a b used (update_data a.own request type n values) told
    → is_delete how ≡ false → values ≡ v ∷ []
    → Refines a b used (begin a.own request all_good (Write how type v ∷ [])) told
one_written a b used request type how v n values told same acts is one =
    acts-as a b used (update_data a.own request type n values)
    (begin a.own request all_good (Write how type v ∷ [])) told (λ R marks.
    ap (λ (o : Option HistoryUpdateType).
    unless (data_refusal o (length values)) R (begin a.own request all_good
    (writes o type values) R) marks) (ap asked_by same ∙ asked_again how is)
    ∙ ap (λ (vs : List DataValue).
    unless (data_refusal (Some how) (length vs)) R
    (begin a.own request all_good (writes (Some how) type vs) R) marks) one) acts

-- a delete at one time
pub one_deleted : (a b : Store) (used : List StepResult) (request : Request) (time : Ticks)
    (times : List Ticks) (told : HistoryUpdateResult)
    → times ≡ time ∷ [] → Refines a b used (delete_at a.own request times) told
    → Refines a b used (begin a.own request all_good (DeleteAt (moment time.0 0) ∷ [])) told
one_deleted a b used request time times told one acts =
    acts-as a b used (delete_at a.own request times)
    (begin a.own request all_good (DeleteAt (moment time.0 0) ∷ [])) told (λ R marks.
    ap (λ (ts : List Ticks). unless (list_refusal 1000 (length ts)) R
    (begin a.own request all_good (deletes_at ts) R) marks) one) acts

not_below : (faults : List StoreFault) (n : ℕ) → n ≤ 2 ^ 64 - 1 → n ≤ failed_by faults n
not_below [] n le = omega arith
not_below (f ∷ faults) n le = let more = not_below faults (faults_after 1 n) (omega arith) in
    omega (arith, more)

-- a fault shows in the count, as long as that isn't at its end
rises : (faults : List StoreFault) (n : ℕ) → n < 2 ^ 64 - 1 → 0 < length faults
    → n < failed_by faults n
rises [] n lt some = absurd (omega (arith, some))
rises (f ∷ faults) n lt some = let more = not_below faults (faults_after 1 n) (omega arith) in
    omega (arith, more)

-- what an update of one operation came to
record Came (R S : Content) (own : ℕ) (request : Request) (op : Operation) (marks : List StepResult)
    (told : HistoryUpdateResult) (mark : StepResult) : Type 0 where
  code : update_status told ≡ code_by (outcome R own request op) mark
  left : S ≡ left_by R (outcome R own request op) mark
  counted : length (faults_in mark) ≤ length (faults_of marks)
  broke : list_any is_break (faults_in mark) ≡ true → list_any is_break (faults_of marks) ≡ true

any_first : (faults more : List StoreFault) → list_any is_break faults ≡ true
    → list_any is_break (faults ++ more) ≡ true
any_first [] more e = absurd (true≢false (sym e))
any_first (f ∷ faults) more e = go (is_break f) e (any_first faults more)
  where
    go : (y : Bool) → (y || list_any is_break faults) ≡ true
        → (list_any is_break faults ≡ true → list_any is_break (faults ++ more) ≡ true)
        → (y || list_any is_break (faults ++ more)) ≡ true
    go true e rest = refl
    go false e rest = rest e

fine_stands : {X : Type 0} → Done ≡ RecordStands → X
fine_stands e = absurd (cc)

-- the mark is the first of these
first_counted : (mark : StepResult) (marks : List StepResult)
    → length (faults_in mark) ≤ length (faults_of (mark ∷ marks))
first_counted mark marks = let sum = length-append (faults_in mark) (faults_of marks) in
    omega (arith, sum)

module _ (R S : Content) (own : ℕ) (request : Request) (op : Operation)
    (told : HistoryUpdateResult) where
  abbrev told_in : (HistoryUpdateResult × Content) × List StepResult → Status
  told_in x = update_status x.0.0

  abbrev left_in : (HistoryUpdateResult × Content) × List StepResult → Content
  left_in x = x.0.1

  -- by the mark of its one operation
  by_mark : (mark : StepResult) (marks : List StepResult)
      → update_status told ≡ code_by (outcome R own request op) mark
      → S ≡ left_by R (outcome R own request op) mark
      → Came R S own request op (mark ∷ marks) told mark
  by_mark mark marks code left = record {
    code = code;
    left = left;
    counted = first_counted mark marks;
    broke = any_first (faults_in mark) (faults_of marks);
  }

  -- memory for the codes was wanting, or it came to this
  came : (marks : List StepResult) → Yields (begin own request all_good (op ∷ []) R) marks (told, S)
      → ((update_status told ≡ BAD_OUT_OF_MEMORY) × (S ≡ R))
      ⊎ ((mark : StepResult) × Came R S own request op marks told mark)
  came [] d = inr (
    Done,
    record {
      code = ap told_in (sym (d.does []));
      left =
          ap left_in (sym (d.does []));
      counted = omega arith;
      broke = λ e. e;
    },
  )
  came (NoMemory ∷ marks) d = inl (ap told_in (sym (d.does [])), ap left_in (sym (d.does [])))
  came (Done ∷ []) d = inr (
    Done,
    record {
      code = ap told_in (sym (d.does []));
      left = ap left_in (sym (d.does []));
      counted =
          omega arith;
      broke = λ e. e;
    },
  )
  came (Done ∷ mark ∷ marks) d = let c =
      by_mark mark marks (ap told_in (sym (d.does []))) (ap left_in (sym (d.does []))) in
      inr (mark, record { code = c.code; left = c.left; counted = c.counted; broke = c.broke })
  came (RecordStands ∷ marks) d = inr (
    RecordStands,
    by_mark RecordStands marks (ap told_in (sym (d.does []))) (ap left_in (sym (d.does []))),
  )
  came (StoreFailed fault ∷ marks) d =
      inr (
        StoreFailed fault,
        by_mark (StoreFailed fault) marks (ap told_in (sym (d.does [])))
            (ap left_in (sym (d.does []))),
      )

module _ (a b : Store) (request : Request) (op : Operation) (used : List StepResult)
    (told : HistoryUpdateResult) (acts :
    Refines a b used (begin a.own request all_good (op ∷ [])) told) where
  abbrev change : Content → Content
  change R = content_after R (outcome R a.own request op)

  -- neither memory nor a store came in its way
  pub operated : IsClear (update_status told) a.failed b.failed
      → Turns a b change (IsSameOr b.broken change) (Ok tt)
  operated is = record {
    faults = faults_of used;
    passes = acts.passes;
    came = λ honest S h.
        let (marks, found, R, was, does, grows) = acts.acts honest S h in (
          R,
          was,
          elim (came R S a.own request op told marks does) [
            | inl none ↦ absurd (is.memory none.0)
            | inr c ↦ clear R S marks (found-faults a.broken used marks found) c.0 c.1
          ],
        );
  }
    where
      unmet : (R S : Content) (marks : List StepResult) (mark : StepResult)
          → faults_of marks ≡ faults_of used → Came R S a.own request op marks told mark
          → 0 < length (faults_in mark)
          → code_by (outcome R a.own request op) mark ≡ BAD_RESOURCE_UNAVAILABLE → ⊥
      unmet R S marks mark same c some e =
          let quiet = is.store (c.code ∙ e) in
          let count : length (faults_of marks) ≡ length (faults_of used) = ap length same in
          let counted = c.counted in
          let more = rises (faults_of used) a.failed quiet.0
          (omega (arith, count, counted, some)) in
          let failed = acts.passes.failed in
          omega (arith, more, failed, quiet.1)

      clear : (R S : Content) (marks : List StepResult) → faults_of marks ≡ faults_of used
          → (mark : StepResult) → Came R S a.own request op marks told mark → S ≡ change R
      clear R S marks same Done c = c.left
      clear R S marks same NoMemory c = absurd (is.memory c.code)
      clear R S marks same RecordStands c =
          absurd (unmet R S marks RecordStands same c (omega arith) refl)
      clear R S marks same (StoreFailed store.OutOfMemory) c = absurd (is.memory c.code)
      clear R S marks same (StoreFailed store.Refused) c =
          absurd (unmet R S marks (StoreFailed store.Refused) same c (omega arith) refl)
      clear R S marks same (StoreFailed store.WrongReplica) c =
          absurd (unmet R S marks (StoreFailed store.WrongReplica) same c (omega arith) refl)
      clear R S marks same (StoreFailed store.WrongArchive) c =
          absurd (unmet R S marks (StoreFailed store.WrongArchive) same c (omega arith) refl)
      clear R S marks same (StoreFailed store.Broken) c =
          absurd (unmet R S marks (StoreFailed store.Broken) same c (omega arith) refl)

  -- something may have
  pub hindered : IsBad (update_status told) → (end : Halted)
      → Turns a b change (IsSameOr b.broken change) (Err end)
  hindered bad end = record {
    faults = faults_of used;
    passes = acts.passes;
    came = λ honest S h.
        let (marks, found, R, was, does, grows) = acts.acts honest S h in (
          R,
          was,
          elim (came R S a.own request op told marks does) [
            | inl none ↦ inl none.1
            | inr c ↦ stopped R S marks (found-faults a.broken used marks found) c.0 c.1
          ],
        );
  }
    where
      -- the store is broken where the record may stand
      broken_then : (marks : List StepResult) → faults_of marks ≡ faults_of used
          → list_any is_break (faults_of marks) ≡ true → b.broken ≡ true
      broken_then marks same broke =
          acts.passes.broken ∙ (ap
          (λ (faults : List StoreFault). a.broken || list_any is_break faults) (sym same)
          ∙ or_right a.broken (list_any is_break (faults_of marks)) broke)

      stopped : (R S : Content) (marks : List StepResult) → faults_of marks ≡ faults_of used
          → (mark : StepResult) → Came R S a.own request op marks told mark
          → IsSameOr b.broken change R S
      stopped R S marks same Done c =
          elim (bad_kept R a.own request op Done (subst IsBad c.code bad)) [
            | inl kept ↦ inl (c.left ∙ kept)
            | inr standing ↦ fine_stands standing.0
          ]
      stopped R S marks same NoMemory c = inl c.left
      stopped R S marks same RecordStands c = inr (broken_then marks same (c.broke refl), c.left)
      stopped R S marks same (StoreFailed fault) c = inl c.left

-- ---- a restart

pub restarted : (a b : Store) (result : Result (Unit {0}) StoreFault) (P : Unit {0} → Type 0)
    → Asks a b result P → Turns a b (λ R. R) IsSame (Ok tt)
restarted a b result P asks = record {
  faults = option_to_list (fault_in result);
  passes = asks.leaves.passes;
  came = λ honest S h. (
    S,
    left-stays a b
        (option_to_list (fault_in result)) S asks.stays asks.leaves.passes honest h,
    refl,
  );
}

-- ---- a delivery

-- these were learned, all of them
pub record Learned (a b : Store) (rs : List Record) : Type 0 where
  pub faults : List StoreFault
  pub passes : CountsFaults a b faults
  pub all : b.honest → (S : Content) → IsLeft b S
      → (R : Content) × IsLeft a R × AreLearned R rs × (S ≡ merged rs R)

learned_none : (a : Store) → Learned a a []
learned_none a = record {
  faults = [];
  passes = passes-none a;
  all =
      λ honest S h. (S, h, refl, refl);
}

module _ (a b c : Store) (xs : List Record) (i : ℕ) (d r : Record)
    (so_far : Learned a b (take i xs)) (lt : i < length xs) (is : r ≡ get_or xs i d) where
  with_next : take (i + 1) xs ≡ take i xs ++ r ∷ []
  with_next = take_more xs i d lt ∙ ap (λ x. take i xs ++ x ∷ []) (sym is)

  -- and the next one too
  pub learned_more : (x : Bool) → Learns b c r (Ok x) → Learned a c (take (i + 1) xs)
  learned_more x learns = record {
    faults = so_far.faults ++ [];
    passes = passes-then a b c so_far.faults [] so_far.passes learns.leaves.passes;
    all = λ honest S h.
        let (held, answer, left) = learned-left b c r (Ok x) S learns refl honest h in
        let (R, was, each_one, M) =
        so_far.all (learns.leaves.passes.honest honest) b.content held in
        let T = merged (take i xs) R in
        let told : Ok x ≡ answer_to (finding T r) =
        answer ∙ ap (λ (Q : Content). answer_to (finding Q r)) M in
        let next = are_learned_push (take i xs) r R (unwrap_or (learned T r) T) each_one
        (learned_told T r x told).0 in (
          R,
          was,
          subst (AreLearned R) (sym with_next) next.0,
          left ∙ (ap (λ (Q : Content). unwrap_or (learned Q r) Q) M
              ∙ (sym next.1 ∙ ap (λ rs. merged rs R) (sym with_next))),
        );
  }

  -- where it is learned, they are the first ones more
  next_first : (R : Content) → AreLearned R (take i xs) → finding (merged (take i xs) R) r ≡ Adds
      → put r (merged (take i xs) R) ≡ merged (take (i + 1) xs) R
  next_first R each_one adds =
      let T = merged (take i xs) R in
      let next = are_learned_push (take i xs) r R (put r T) each_one
      (ap (after_finding T r) adds) in
      sym next.1 ∙ ap (λ rs. merged rs R) (sym with_next)

  -- the store met a fault; where that broke it, the record may stand
  pub learned_halted : (fault : StoreFault) (end : Halted)
      → Learns b c r (Err (refused.Store fault)) → Turns a c (merged xs) (HasLearnedFirst xs) (Err end)
  learned_halted fault end learns = record {
    faults = so_far.faults ++ option_to_list (Some fault);
    passes = passes-then a b c so_far.faults
        (option_to_list (Some fault)) so_far.passes learns.leaves.passes;
    came = λ honest S h.
        let (M, held, left) = unlearned-left b c r
        (Err (refused.Store fault)) fault S learns refl honest h in
        let (R, was, each_one, is_merged) =
        so_far.all (learns.leaves.passes.honest honest) M held in (
          R,
          was,
          elim left [
            | inl same ↦ (i, same ∙ is_merged)
            | inr more ↦ (
              i + 1,
              more.3 ∙ (ap (put r) is_merged
                  ∙ next_first R each_one (ap (λ (Q : Content). finding Q r) (sym is_merged)
                  ∙ more.2)),
            )
          ],
        );
  }

  -- the record was refused
  pub learned_refused : (cause : LearnFault) → IsRefusal cause → Learns b c r (Err cause)
      → Turns a c (merged xs) (HasLearnedFirst xs) (Ok tt)
  learned_refused cause is_refusal learns =
      let quiet = no_fault cause is_refusal in
      record {
        faults = so_far.faults ++ option_to_list (store_fault_in (Err cause));
        passes = passes-then a b c so_far.faults
            (option_to_list (store_fault_in (Err cause))) so_far.passes learns.leaves.passes;
        came = λ honest S h.
            let (held, answer, left) = learned-left b c r (Err cause) S learns quiet honest h in
            let (R, was, each_one, M) =
            so_far.all (learns.leaves.passes.honest honest) b.content held in
            let T = merged (take i xs) R in
            let told : Err cause ≡ answer_to (finding T r) =
            answer ∙ ap (λ (Q : Content). answer_to (finding Q r)) M in
            let same : unwrap_or (learned T r) T ≡ T = refused_left T r cause told in
            let stops : merged xs R ≡ T =
            merged_stops R xs i cause
            (record {
              held = each_one;
              next = r;
              there =
                  slice_get-get_or xs i d lt ∙ ap Some (sym is);
              met =
                  meets cause is_refusal T (sym told);
            }) is_refusal in (
              R,
              was,
              left ∙ (ap (λ (Q : Content). unwrap_or (learned Q r) Q) M
                  ∙ (same ∙ sym stops)),
            );
      }
    where
      no_fault : (f : LearnFault) → IsRefusal f → store_fault_in (Err f) ≡ None
      no_fault (refused.Gap held got) is = refl
      no_fault refused.Clash is = refl
      no_fault refused.TickNotRising is = refl
      no_fault refused.TickTooFar is = refl
      no_fault (refused.Store fault) is = absurd is

      meets : (f : LearnFault) → IsRefusal f → (M : Content) → answer_to (finding M r) ≡ Err f
          → Meets M r f
      meets (refused.Gap held got) is M e = e
      meets refused.Clash is M e = e
      meets refused.TickNotRising is M e = e
      meets refused.TickTooFar is M e = e
      meets (refused.Store fault) is M e = absurd is

-- the record wasn't learned
pub learned_stopped : (a b c : Store) (xs : List Record) (i : ℕ) (d r : Record)
    → Learned a b (take i xs) → i < length xs → r ≡ get_or xs i d
    → (cause : LearnFault) (result : Result (Unit {0}) Halted) → EndsBy cause result
    → Learns b c r (Err cause)
    → Turns a c (merged xs) (HasLearnedFirst xs) result
learned_stopped a b c xs i d r so lt is (refused.Store fault) (Ok u) ends learns = absurd ends
learned_stopped a b c xs i d r so lt is (refused.Store fault) (Err end) ends learns =
    learned_halted a b c xs i d r so lt is fault end learns
learned_stopped a b c xs i d r so lt is (refused.Gap held got) result ends learns =
    subst (Turns a c (merged xs) (HasLearnedFirst xs)) (sym ends)
    (learned_refused a b c xs i d r so lt is (refused.Gap held got) tt learns)
learned_stopped a b c xs i d r so lt is refused.Clash result ends learns =
    subst (Turns a c (merged xs) (HasLearnedFirst xs)) (sym ends)
    (learned_refused a b c xs i d r so lt is refused.Clash tt learns)
learned_stopped a b c xs i d r so lt is refused.TickNotRising result ends learns =
    subst (Turns a c (merged xs) (HasLearnedFirst xs)) (sym ends)
    (learned_refused a b c xs i d r so lt is refused.TickNotRising tt learns)
learned_stopped a b c xs i d r so lt is refused.TickTooFar result ends learns =
    subst (Turns a c (merged xs) (HasLearnedFirst xs)) (sym ends)
    (learned_refused a b c xs i d r so lt is refused.TickTooFar tt learns)

-- all were learned, and none is left
pub learned_all : (a b : Store) (rs : List Record) → Learned a b rs
    → Turns a b (merged rs) (HasLearnedFirst rs) (Ok tt)
learned_all a b rs learned = record {
  faults = learned.faults;
  passes = learned.passes;
  came = λ honest S h. let (R, was, each_one, is) = learned.all honest S h in (R, was, is);
}

-- or one that isn't lawful came
pub learned_ended : (a b : Store) (rs : List Record) (i : ℕ) (end : Halted)
    → Learned a b (take i rs) → Turns a b (merged rs) (HasLearnedFirst rs) (Err end)
learned_ended a b rs i end learned = record {
  faults = learned.faults;
  passes = learned.passes;
  came = λ honest S h. let (R, was, each_one, is) = learned.all honest S h in (R, was, (i, is));
}
