-- Steps over an archive, by what is held.
use Rattle.std.proofs.Common.{◌≡◌, Bool, true, false, ◌||◌, List, [], ◌∷◌, ◌++◌, Option, Some, None, IfSome, unwrap_or, Result, ◌⊎◌, ℕ, refl, sym, ap, ◌∙◌, subst, inl, inr}
use Rattle.std.proofs.Math.Bool.{or-false}
use Rattle.std.proofs.lemmas.Bool.{true≢false, cases_Bool}
use Rattle.std.proofs.lemmas.List.{append_assoc, append-nil}
use Rattle.std.specs.List.{list_any}
use Rattle.records.specs.Contents.{Content, Adds, finding, learned, put}
use Rattle.records.specs.declared.record.Record.{Record}
use Rattle.archive.specs.declared.fault.StoreFault.{StoreFault}
use Rattle.archive.specs.declared.fault.StoreFault.TheVariants.{OutOfMemory, Refused, WrongReplica, WrongArchive, Broken}
use Rattle.archive.specs.declared.fault.LearnFault.{LearnFault}
use Rattle.archive.specs.Store.{Store, IsQuiescent, StepResult, RecordStands, StoreFailed, faults_in, faults_of, is_break, breaks, CountsFaults, AfterCall, KeepsContent, Learns, store_fault_in, answer_to, MayBeMarksAfterRecovery, IsLeft, IsThere}
use Rattle.archive.specs.Listed.{is_broken}
use Rattle.archive.specs.Steps.{Fallible, give, step, and_then, each, Yields, Transitions, Refines}
use Rattle.archive.specs.Growth.{Grows}
use Rattle.archive.proofs.Calls.{passes-none, passes-then, broken-by, in_use, left_in_use}
use Rattle.archive.proofs.Growing.{grows-none, grows-then}

-- ---- what is left

-- a store that was used before a call that leaves it used
used_before : (a b : Store) (faults : List StoreFault) → CountsFaults a b faults → b.broken ≡ false
    → a.broken ≡ false
used_before a b faults p e = go a.broken refl
  where
    go : (x : Bool) → a.broken ≡ x → a.broken ≡ false
    go false f = f
    go true f = absurd (true≢false
        (sym (ap (λ y. y || list_any is_break faults) f) ∙ (sym p.broken ∙ e)))

-- an archive in use is left with its content alone
pub left-alone : (s : Store) (R : Content) → IsQuiescent s → s.honest → s.broken ≡ false
    → IsLeft s R → R ≡ s.content
left-alone s R rests honest used (inl h) = sym h.1
left-alone s R rests honest used (inr m) = (rests honest used).only R m

-- what a call that was answered found there
pub left-before : (a b : Store) (R : Content) → AfterCall a b None → b.honest → IsLeft a R
    → a.content ≡ R
left-before a b R p honest h = sym (left-alone a R p.before (p.passes.honest honest)
    (in_use a b p) h)

-- what is left where the content stays was left before
pub left-stays : (a b : Store) (faults : List StoreFault) (R : Content) → KeepsContent a b
    → CountsFaults a b faults → b.honest → IsLeft b R → IsLeft a R
left-stays a b faults R s p honest (inl h) =
    inl (used_before a b faults p h.0, sym (s.content honest h.0) ∙ h.1)
left-stays a b faults R s p honest (inr m) = inr (s.crash honest R m)

-- ---- marks as an opening finds them

pub found-same : (broken : Bool) (used : List StepResult) → MayBeMarksAfterRecovery broken used used
found-same broken [] = refl
found-same broken (mark ∷ used) = (inl refl, found-same (broken || breaks mark) used)

any-or : (x : Bool) (faults more : List StoreFault)
    → (x || list_any is_break (faults ++ more))
    ≡ ((x || list_any is_break faults) || list_any is_break more)
any-or true faults more = refl
any-or false [] more = refl
any-or false (f ∷ faults) more = any-or (is_break f) faults more

pub found-then : (broken : Bool) (us ms vs ns : List StepResult)
    → MayBeMarksAfterRecovery broken us ms
    → MayBeMarksAfterRecovery (broken || list_any is_break (faults_of us)) vs ns
    → MayBeMarksAfterRecovery broken (us ++ vs) (ms ++ ns)
found-then broken [] ms vs ns h more =
    subst (λ (l : List StepResult). MayBeMarksAfterRecovery broken vs (l ++ ns)) (sym h)
    (subst (λ (x : Bool). MayBeMarksAfterRecovery x vs ns) (or-false broken) more)
found-then broken (u ∷ us) [] vs ns h more = absurd h
found-then broken (u ∷ us) (m ∷ ms) vs ns h more = (
  h.0,
  found-then (broken || breaks u) us ms vs ns h.1
      (subst (λ (x : Bool). MayBeMarksAfterRecovery x vs ns)
      (any-or broken (faults_in u) (faults_of us)) more),
)

-- their faults are those that were told
pub found-faults : (broken : Bool) (used marks : List StepResult)
    → MayBeMarksAfterRecovery broken used marks → faults_of marks ≡ faults_of used
found-faults broken [] marks h = ap faults_of h
found-faults broken (told ∷ used) [] h = absurd h
found-faults broken (told ∷ used) (mark ∷ marks) h =
    ap (λ fs. fs ++ faults_of marks) (one h.0)
    ∙ ap (λ fs. faults_in told ++ fs) (found-faults (broken || breaks told) used marks h.1)
  where
    one : (mark ≡ told) ⊎ ((broken ≡ false) × (told ≡ StoreFailed Broken) × (mark ≡ RecordStands))
        → faults_in mark ≡ faults_in told
    one (inl e) = ap faults_in e
    one (inr k) = ap faults_in k.2 ∙ sym (ap faults_in k.1)

or_left : (x y : Bool) → (x || y) ≡ false → x ≡ false
or_left true y e = absurd (true≢false e)
or_left false y e = refl

or_right : (x y : Bool) → (x || y) ≡ false → y ≡ false
or_right true y e = absurd (true≢false e)
or_right false y e = e

-- while the store is used they are those that were told
pub found-used : (broken : Bool) (used marks : List StepResult)
    → MayBeMarksAfterRecovery broken used marks
    → (broken || list_any is_break (faults_of used)) ≡ false → marks ≡ used
found-used broken [] marks h e = h
found-used broken (told ∷ used) [] h e = absurd h
found-used broken (told ∷ used) (mark ∷ marks) h e =
    ap (λ m. m ∷ marks) (one h.0) ∙ ap (λ l. told ∷ l)
    (found-used (broken || breaks told) used marks h.1 whole)
  where
    whole : ((broken || breaks told) || list_any is_break (faults_of used)) ≡ false
    whole = sym (any-or broken (faults_in told) (faults_of used)) ∙ e

    one : (mark ≡ told) ⊎ ((broken ≡ false) × (told ≡ StoreFailed Broken) × (mark ≡ RecordStands))
        → mark ≡ told
    one (inl same) = same
    one (inr k) = absurd (true≢false
        (sym (ap breaks k.1) ∙ or_right broken (breaks told)
        (or_left (broken || breaks told) (list_any is_break (faults_of used)) whole)))

-- steps in whose way no fault of the store came, before others and behind them
pub found-behind : (broken : Bool) (quiet us ms : List StepResult) → faults_of quiet ≡ []
    → MayBeMarksAfterRecovery broken us ms
    → MayBeMarksAfterRecovery broken (quiet ++ us) (quiet ++ ms)
found-behind broken quiet us ms none h =
    found-then broken quiet quiet us ms (found-same broken quiet)
    (subst (λ (x : Bool). MayBeMarksAfterRecovery x us ms)
    (sym (ap (λ fs. broken || list_any is_break fs) none ∙ or-false broken)) h)

pub found-before : (broken : Bool) (us ms quiet : List StepResult)
    → MayBeMarksAfterRecovery broken us ms
    → MayBeMarksAfterRecovery broken (us ++ quiet) (ms ++ quiet)
found-before broken us ms quiet h =
    found-then broken us ms quiet quiet h (found-same
    (broken || list_any is_break (faults_of us)) quiet)

-- ---- steps in a row

pub faults-append : (xs ys : List StepResult) → faults_of (xs ++ ys) ≡ faults_of xs ++ faults_of ys
faults-append [] ys = refl
faults-append (x ∷ xs) ys = ap (λ l. faults_in x ++ l) (faults-append xs ys)
    ∙ sym (append_assoc (faults_in x) (faults_of xs) (faults_of ys))

-- no step
pub does-give : {A : Type 0} (a : A) → Yields (give a) [] a
does-give a = record { does = λ later. refl }

pub does-step : {A : Type 0} (f : StepResult → A) (mark : StepResult)
    → Yields (step f) (mark ∷ []) (f mark)
does-step f mark = record { does = λ later. refl }

-- the same steps, told in other words
pub does-as : {A : Type 0} (m n : Fallible A) (used : List StepResult) (a : A)
    → ((marks : List StepResult) → m marks ≡ n marks) → Yields m used a → Yields n used a
does-as m n used a same d = record { does = λ later. sym (same (used ++ later)) ∙ d.does later }

pub does-then : {A B : Type 0} (m : Fallible A) (f : A → Fallible B) (xs ys : List StepResult)
    (a : A) (b : B) → Yields m xs a → Yields (f a) ys b → Yields (and_then m f) (xs ++ ys) b
does-then {A} {B} m f xs ys a b p q = record {
  does = λ later.
      ap (λ marks. and_then m f marks) (append_assoc xs ys later)
      ∙ ap (λ (r : A × List StepResult). f r.0 r.1) (p.does (ys ++ later))
      ∙ q.does later;
}

-- of the items one after the other, the last one comes after the others
each-append : {X Y S : Type 0} (f : X → S → Fallible (Y × S)) (xs : List X) (x : X) (s : S)
    (marks : List StepResult)
    → each f (xs ++ x ∷ []) s marks
    ≡ and_then (each f xs s) (λ here.
    and_then (f x here.1) (λ last. give (here.0 ++ last.0 ∷ [], last.1))) marks
each-append f [] x s marks = refl
each-append {X} {Y} {S} f (first ∷ xs) x s marks =
    let here = f first s marks in
    ap (λ (later : (List Y × S) × List StepResult). let r : (List Y × S) × List StepResult =
    ((here.0.0 ∷ later.0.0, later.0.1), later.1) in r) (each-append f xs x here.0.1 here.1)

pub does-each : {X Y S : Type 0} (f : X → S → Fallible (Y × S)) (xs : List X) (x : X) (s : S)
    (us vs : List StepResult) (ys : List Y) (y : Y) (t u : S)
    → Yields (each f xs s) us (ys, t) → Yields (f x t) vs (y, u)
    → Yields (each f (xs ++ x ∷ []) s) (us ++ vs) (ys ++ y ∷ [], u)
does-each {X} {Y} {S} f xs x s us vs ys y t u p q = record {
  does = λ later.
      each-append f xs x s ((us ++ vs) ++ later)
      ∙ ap (λ marks. and_then (each f xs s) (λ here.
      and_then (f x here.1) (λ last. give (here.0 ++ last.0 ∷ [], last.1))) marks)
      (append_assoc us vs later)
      ∙ ap (λ (r : (List Y × S) × List StepResult).
      and_then (f x r.0.1) (λ last. give (r.0.0 ++ last.0 ∷ [], last.1)) r.1) (p.does (vs ++ later))
      ∙ ap (λ (r : (Y × S) × List StepResult). let z : (List Y × S) × List StepResult =
      ((ys ++ r.0.0 ∷ [], r.0.1), r.1) in z) (q.does later);
}

-- no call: no mark among these is a fault of the store
pub moves-none-by : (s : Store) (used : List StepResult) → faults_of used ≡ []
    → (To : List StepResult → Content → Content → Type 0) → ((R : Content) → To used R R)
    → Transitions s s used To
moves-none-by s used quiet To stays = record {
  passes =
      subst (CountsFaults s s) (sym quiet) (passes-none s);
  acts =
      λ honest S h. (used, found-same s.broken used, S, h, stays S, grows-none s.own S);
  there =
      λ was. was;
}

pub moves-none : (s : Store) (To : List StepResult → Content → Content → Type 0)
    → ((R : Content) → To [] R R) → Transitions s s [] To
moves-none s To stays = moves-none-by s [] refl To stays

-- some calls, and then others
pub moves-then : (a b c : Store) (us vs : List StepResult)
    (P Q To : List StepResult → Content → Content → Type 0)
    → ((ms ns : List StepResult) (R S T : Content) → P ms R S → Q ns S T → To (ms ++ ns) R T)
    → Transitions a b us P → Transitions b c vs Q → Transitions a c (us ++ vs) To
moves-then a b c us vs P Q To both p q = record {
  passes = subst (CountsFaults a c) (sym (faults-append us vs))
      (passes-then a b c (faults_of us) (faults_of vs) p.passes q.passes);
  acts = λ honest T h.
      let (ns, found_later, S, left_between, later, grows_later) = q.acts honest T h in
      let (ms, found_first, R, left_first, first, grows_first) =
      p.acts (q.passes.honest honest) S left_between in (
        ms ++ ns,
        found-then a.broken us ms vs ns found_first
            (subst (λ (x : Bool). MayBeMarksAfterRecovery x vs ns) p.passes.broken found_later),
        R,
        left_first,
        both ms ns R S T first later,
        grows-then a.own R S T grows_first (subst
            (λ (own : ℕ). Grows own S T) p.passes.own grows_later),
      );
  there = λ was. q.there (p.there was);
}

-- behind a call something is left
pub there-behind : (a b : Store) (fault : Option StoreFault) → AfterCall a b fault → IsThere a
    → IsThere b
there-behind a b fault p was honest none = p.some honest (λ left m. none left (inr m))

-- calls that leave the content as it is
pub moves-stays : (a b : Store) (used : List StepResult)
    (To : List StepResult → Content → Content → Type 0) → CountsFaults a b (faults_of used)
    → KeepsContent a b → (IsThere a → IsThere b)
    → (b.honest → (R : Content) → IsLeft a R → To used R R) → Transitions a b used To
moves-stays a b used To passes stays there so = record {
  passes = passes;
  acts = λ honest S h.
      let was : IsLeft a S = left-stays a b (faults_of used) S stays passes honest h in
      (used, found-same a.broken used, S, was, so honest S was, grows-none a.own S);
  there = there;
}

-- the same calls, told in other words and by other marks
pub moves-told : (a b : Store) (us vs : List StepResult)
    (P To : List StepResult → Content → Content → Type 0) → faults_of vs ≡ faults_of us
    → ((ms : List StepResult) → MayBeMarksAfterRecovery a.broken us ms
    → (ns : List StepResult) × MayBeMarksAfterRecovery a.broken vs ns
    × ((R S : Content) → P ms R S → To ns R S)) → Transitions a b us P → Transitions a b vs To
moves-told a b us vs P To same so p = record {
  passes = subst (CountsFaults a b) (sym same) p.passes;
  acts = λ honest S h.
      let (ms, found, R, was, first, grows) = p.acts honest S h in
      let (ns, found_so, told) = so ms found in
      (ns, found_so, R, was, told R S first, grows);
  there = p.there;
}

pub moves-as : (a b : Store) (us : List StepResult)
    (P To : List StepResult → Content → Content → Type 0)
    → ((ms : List StepResult) (R S : Content) → P ms R S → To ms R S) → Transitions a b us P
    → Transitions a b us To
moves-as a b us P To so p = moves-told a b us us P To refl (λ ms found. (ms, found, so ms)) p

-- the same behind steps in whose way no fault of the store came, and before such steps
pub moves-behind-quiet : (a b : Store) (quiet us : List StepResult)
    (P To : List StepResult → Content → Content → Type 0) → faults_of quiet ≡ []
    → ((ms : List StepResult) (R S : Content) → P ms R S → To (quiet ++ ms) R S)
    → Transitions a b us P → Transitions a b (quiet ++ us) To
moves-behind-quiet a b quiet us P To none so p =
    moves-told a b us (quiet ++ us) P To (faults-append quiet us
    ∙ ap (λ fs. fs ++ faults_of us) none) (λ ms found.
    (quiet ++ ms, found-behind a.broken quiet us ms none found, so ms)) p

pub moves-before-quiet : (a b : Store) (us quiet : List StepResult)
    (P To : List StepResult → Content → Content → Type 0) → faults_of quiet ≡ []
    → ((ms : List StepResult) (R S : Content) → P ms R S → To (ms ++ quiet) R S)
    → Transitions a b us P → Transitions a b (us ++ quiet) To
moves-before-quiet a b us quiet P To none so p =
    moves-told a b us (us ++ quiet) P To (faults-append us quiet
    ∙ (ap (λ fs. faults_of us ++ fs) none ∙ append-nil (faults_of us)))
    (λ ms found. (ms ++ quiet, found-before a.broken us ms quiet found, so ms)) p

pub acts-give : {X : Type 0} (s : Store) (x : X) → Refines s s [] (λ R. give (x, R)) x
acts-give s x = moves-none s (λ marks R S. Yields (give (x, R)) marks (x, S))
    (λ R. does-give (x, R))

-- some steps, and then others by what those answered
pub acts-then : {X Y : Type 0} (a b c : Store) (xs ys : List StepResult)
    (f : Content → Fallible (X × Content)) (g : X → Content → Fallible (Y × Content)) (x : X)
    (y : Y)
    → Refines a b xs f x → Refines b c ys (g x) y
    → Refines a c (xs ++ ys) (λ R. and_then (f R) (λ p. g p.0 p.1)) y
acts-then {X} {Y} a b c xs ys f g x y p q =
    moves-then a b c xs ys (λ ms R S. Yields (f R) ms (x, S)) (λ ns S T. Yields (g x S) ns (y, T))
    (λ marks R T. Yields (and_then (f R) (λ p. g p.0 p.1)) marks (y, T))
    (λ ms ns R S T first second. does-then (f R) (λ p. g p.0 p.1) ms ns (x, S) (y, T) first second)
    p q

-- the same steps, told in other words
pub acts-as : {X : Type 0} (a b : Store) (used : List StepResult)
    (f g : Content → Fallible (X × Content)) (x : X)
    → ((R : Content) (marks : List StepResult) → f R marks ≡ g R marks) → Refines a b used f x
    → Refines a b used g x
acts-as a b used f g x same p = moves-as a b used (λ marks R S. Yields (f R) marks (x, S))
    (λ marks R S. Yields (g R) marks (x, S)) (λ ms R S does.
    does-as (f R) (g R) ms (x, S) (same R) does) p

-- one item more
pub acts-each : {X Y : Type 0} (a b c : Store) (us vs : List StepResult)
    (f : X → Content → Fallible (Y × Content)) (xs : List X) (x : X) (ys : List Y) (y : Y)
    → Refines a b us (each f xs) ys → Refines b c vs (f x) y
    → Refines a c (us ++ vs) (each f (xs ++ x ∷ [])) (ys ++ y ∷ [])
acts-each a b c us vs f xs x ys y p q =
    moves-then a b c us vs (λ ms R S. Yields (each f xs R) ms (ys, S))
    (λ ns S T. Yields (f x S) ns (y, T)) (λ marks R T.
    Yields (each f (xs ++ x ∷ []) R) marks (ys ++ y ∷ [], T))
    (λ ms ns R S T first second. does-each f xs x R ms ns ys y S T first second) p q

-- ---- one call

-- a step that the archive wasn't asked in, or that it stays in: what is told is f of what was held
pub acts-stays : {X : Type 0} (a b : Store) (mark : StepResult) (f : Content → StepResult → X)
    (x : X) → CountsFaults a b (faults_of (mark ∷ [])) → KeepsContent a b
    → (IsThere a → IsThere b) → (b.honest → (R : Content) → IsLeft a R → x ≡ f R mark)
    → Refines a b (mark ∷ []) (λ R. step (λ m. (f R m, R))) x
acts-stays {X} a b mark f x passes stays there so =
    moves-stays a b (mark ∷ []) (λ marks R S. Yields (step (λ m. (f R m, R))) marks (x, S)) passes
    stays there
    (λ honest R h. record {
      does =
          λ later. ap (λ (y : X). let z : (X × Content) × List StepResult = ((y, R), later) in z)
          (sym (so honest R h));
    })

-- what a call of learn that met no fault of the store was of
pub learned-left : (a b : Store) (r : Record) (result : Result Bool LearnFault) (S : Content)
    → Learns a b r result → store_fault_in result ≡ None → b.honest → IsLeft b S
    → IsLeft a a.content × (result ≡ answer_to (finding a.content r))
    × (S ≡ unwrap_or (learned a.content r) a.content)
learned-left a b r result S p quiet honest h =
    let leaves : AfterCall a b None = subst (AfterCall a b) quiet p.leaves in
    let told = p.answered honest quiet in (
      inl (in_use a b leaves, refl),
      told.0,
      left-alone b S leaves.after honest (left_in_use a b leaves) h ∙ told.1,
    )

broken-fault : (fault : StoreFault) → is_broken (Some fault) ≡ true → fault ≡ Broken
broken-fault OutOfMemory e = absurd (true≢false (sym e))
broken-fault Refused e = absurd (true≢false (sym e))
broken-fault WrongReplica e = absurd (true≢false (sym e))
broken-fault WrongArchive e = absurd (true≢false (sym e))
broken-fault Broken e = refl

-- with the record, or without it
abbrev pub IsWithOrWithout : Store → Record → StoreFault → Content → Content → Type 0
IsWithOrWithout a r fault R S = (S ≡ R) ⊎ ((a.broken ≡ false) × (fault ≡ Broken)
    × (finding R r ≡ Adds) × (S ≡ put r R))

-- it met one: what was held is held, or, where it broke the store, that with the record
pub unlearned-left : (a b : Store) (r : Record) (result : Result Bool LearnFault)
    (fault : StoreFault) (S : Content) → Learns a b r result → store_fault_in result ≡ Some fault
    → b.honest → IsLeft b S
    → (R : Content) × IsLeft a R × IsWithOrWithout a r fault R S
unlearned-left a b r result fault S p met honest h = go h
  where
    leaves : AfterCall a b (Some fault)
    leaves = subst (AfterCall a b) met p.leaves

    kept : b.broken ≡ false → b.content ≡ a.content
    kept used = subst (λ o. IfSome o (λ _. b.content ≡ a.content)) met (p.kept honest used)

    by_store : (b.broken ≡ true) ⊎ (b.broken ≡ false) → a.broken ≡ false
        → finding a.content r ≡ Adds → S ≡ put r a.content → b.may_hold S
        → IsWithOrWithout a r fault a.content S
    by_store (inl broken) used adds is m =
        inr (used, broken-fault fault (sym (broken-by a b (Some fault) leaves) ∙ broken), adds, is)
    by_store (inr whole) used adds is m = inl ((leaves.after honest whole).only S m ∙ kept whole)

    go : IsLeft b S → (R : Content) × IsLeft a R × IsWithOrWithout a r fault R S
    go (inl held) = (
      a.content,
      inl (used_before a b (fault ∷ []) leaves.passes held.0, refl),
      inl (sym held.1 ∙ kept held.0),
    )
    go (inr m) = elim (p.crash honest S m) [
      | inl before ↦ (S, inr before, inl refl)
      | inr more ↦ (
        a.content,
        inl (more.0, refl),
        by_store (cases_Bool b.broken) more.0 more.1 more.2 m,
      )
    ]
