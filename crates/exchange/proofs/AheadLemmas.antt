-- Records that are learned ahead of their frame's turn: for `learn_ahead`.
use Rattle.std.proofs.Common.{◌≡◌, ◌∙◌, ℕ, zero, suc, ◌+◌, ◌<◌, ◌≤◌, Bool, true, false, cond, nat_lt, count_by, List, [], ◌∷◌, take, length, Option, Some, None, Ok, Err, refl, sym, ap, subst, arith, inl, inr}
use Rattle.std.specs.Prelude.{slice_get}
use Rattle.std.specs.Option.{option_map_or, option_and_then}
use Rattle.std.proofs.Math.Bool.{or-false}
use Rattle.std.proofs.lemmas.Bool.{lt-ltb, le-ltb, cases_eq}
use Rattle.std.proofs.lemmas.List.{take_all, length-take-le}
use Rattle.std.proofs.lemmas.List.Sums.{sum_by-cons, sum_by-take-le}
use Rattle.std.proofs.lemmas.Option.{none-some}
use Rattle.stamp.specs.Numbers.{number_of}
use Rattle.records.specs.Contents.{Content, vec, put, Finding, Adds, Holds, Clash, Gap, TickTooFar, TickNotRising, finding, learned, merged}
use Rattle.records.specs.Records.{name_cmp}
use Rattle.records.specs.declared.record.Record.{Record}
use Rattle.records.proofs.ContentsParts.{after_finding}
use Rattle.records.proofs.ContentLemmas.{vec_bounds}
use Rattle.records.proofs.PutLemmas.{vec_put_same, vec_put_other}
use Rattle.records.proofs.LackLemmas.{length-insert_sorted}
use Rattle.records.proofs.LearnLemmas.{next_found, holds_found}
use Rattle.archive.specs.declared.fault.StoreFault.{StoreFault}
use Rattle.archive.specs.declared.fault.StoreFault.TheVariants.{Broken}
use Rattle.archive.specs.declared.fault.LearnFault.{LearnFault}
use Rattle.archive.specs.Store.{Store, Asks}
use Rattle.archive.proofs.Calls.{passes-none, stays-none, passes-then}
use Rattle.exchange.specs.declared.fault.ExchangeFault.{ExchangeFault}
use Rattle.exchange.specs.declared.fault.ExchangeFault.TheVariants as exchange
use Rattle.exchange.specs.Ahead.{piece, lacking_of, new_among, LearnsAhead}
use Rattle.exchange.specs.Dialogs.{DialogState, capped}
use Rattle.exchange.specs.Merging.{learned_all, AreLearned, Meets, StopsAt, MayBeLeft, Merges}
use Rattle.exchange.proofs.HandleLemmas.{unbroken_before}
use Rattle.exchange.proofs.MergeLemmas.{grown}

-- first ones of first ones
take_within : {X : Type 0} (k n : ℕ) (xs : List X) → k ≤ n → take k (take n xs) ≡ take k xs
take_within zero n xs le = refl
take_within (suc k) zero xs le = absurd (omega (arith, le))
take_within (suc k) (suc n) [] le = refl
take_within (suc k) (suc n) (x ∷ xs) le =
    ap (λ l. x ∷ l) (take_within k n xs (omega (arith, le)))

there_within : {X : Type 0} (xs : List X) (n k : ℕ) (x : X) → slice_get (take n xs) k ≡ Some x
    → slice_get xs k ≡ Some x
there_within xs zero k x e = absurd (none-some x e)
there_within [] (suc n) k x e = e
there_within (y ∷ xs) (suc n) zero x e = e
there_within (y ∷ xs) (suc n) (suc k) x e = there_within xs n k x e

-- ---- how many are new

-- a record is beyond these numbers
abbrev beyond : (ℕ → ℕ) → Record → Bool
beyond v r = nat_lt (v r.origin) r.number

-- and one more is beyond them
beyond_yes : (v : ℕ → ℕ) (r : Record) (rs : List Record) → v r.origin < r.number
    → count_by (beyond v) (r ∷ rs) ≡ 1 + count_by (beyond v) rs
beyond_yes v r rs lt =
    sum_by-cons (λ y. cond (beyond v y) 1 0) r rs
    ∙ ap (λ b. cond b 1 0 + count_by (beyond v) rs) (lt-ltb _ _ lt)

beyond_no : (v : ℕ → ℕ) (r : Record) (rs : List Record) → r.number ≤ v r.origin
    → count_by (beyond v) (r ∷ rs) ≡ count_by (beyond v) rs
beyond_no v r rs le =
    sum_by-cons (λ y. cond (beyond v y) 1 0) r rs
    ∙ (ap (λ b. cond b 1 0 + count_by (beyond v) rs) (le-ltb _ _ le) ∙ omega arith)

beyond_less : (v : ℕ → ℕ) (r : Record) (rs : List Record)
    → count_by (beyond v) rs ≤ count_by (beyond v) (r ∷ rs)
beyond_less v r rs =
    let one = sum_by-cons (λ y. cond (beyond v y) 1 0) r rs in omega (arith, one)

-- by its next record no number gets less
raised_by : (R : Content) (x : Record) → vec R x.origin < x.number → (origin : ℕ)
    → vec R origin ≤ vec (put x R) origin
raised_by R x lt origin = elim (cases_eq x.origin origin) [
  | inl e ↦ subst (λ o. vec R o ≤ vec (put x R) o) e (omega (arith, lt, vec_put_same x R lt))
  | inr other ↦ omega (arith, vec_put_other x R origin other)
]

-- what learning a record makes of what comes behind it, by what is found of it
by_finding : (P : Content → Type 0) (R : Content) (x : Record) (rs : List Record)
    (o : Option Content) → learned R x ≡ o → P (option_map_or (merged rs) o R)
    → P (merged (x ∷ rs) R)
by_finding P R x rs o is h = subst (λ p. P (option_map_or (merged rs) p R)) (sym is) h

-- learning these adds no more than are beyond numbers that are reached
adds_few : (v : ℕ → ℕ) (rs : List Record) (R : Content) → ((origin : ℕ) → v origin ≤ vec R origin)
    → length (merged rs R) ≤ length R + count_by (beyond v) rs
adds_few v [] R reached = omega arith
adds_few v (x ∷ xs) R reached = go (finding R x) refl (λ S more. adds_few v xs S more)
  where
    Few : Content → Type 0
    Few S = length S ≤ length R + count_by (beyond v) (x ∷ xs)

    none : (f : Finding) → finding R x ≡ f → after_finding R x f ≡ None → Few (merged (x ∷ xs) R)
    none f p e = by_finding Few R x xs None (ap (after_finding R x) p ∙ e) (omega arith)

    go : (f : Finding) → finding R x ≡ f
        → ((S : Content) → ((origin : ℕ) → v origin ≤ vec S origin)
        → length (merged xs S) ≤ length S + count_by (beyond v) xs)
        → Few (merged (x ∷ xs) R)
    go Adds p later =
        let above : vec R x.origin < x.number = omega (arith, (next_found R x p).number) in
        let rest = later (put x R)
        (λ origin. omega (arith, reached origin, raised_by R x above origin)) in
        let one : length (put x R) ≡ length R + 1 = length-insert_sorted name_cmp x R in
        let here = beyond_yes v x xs (omega (arith, reached x.origin, above)) in
        by_finding Few R x xs (Some (put x R)) (ap (after_finding R x) p)
        (omega (arith, rest, one, here))
    go Holds p later =
        let rest = later R reached in
        let here = beyond_less v x xs in
        by_finding Few R x xs (Some R) (ap (after_finding R x) p) (omega (arith, rest, here))
    go Clash p later = none Clash p refl
    go (Gap m n) p later = none (Gap m n) p refl
    go TickTooFar p later = none TickTooFar p refl
    go TickNotRising p later = none TickNotRising p refl

-- where some are beyond numbers that aren't exceeded, learning all of them adds one
adds_one : (v : ℕ → ℕ) (rs : List Record) (R : Content)
    → ((origin : ℕ) → vec R origin ≤ v origin) → 0 < count_by (beyond v) rs → AreLearned R rs
    → length R < length (merged rs R)
adds_one v [] R within some all = absurd (omega (arith, some))
adds_one v (x ∷ xs) R within some all =
    go (finding R x) refl (λ more be. adds_one v xs R within more be)
  where
    More : Content → Type 0
    More S = length R < length S

    all_of : (o : Option Content) → learned R x ≡ o
        → option_and_then (learned_all xs) o ≡ Some (option_map_or (merged xs) o R)
    all_of o is = subst (λ p. option_and_then (learned_all xs) p
        ≡ Some (option_map_or (merged xs) p R)) is all

    none : (f : Finding) → finding R x ≡ f → after_finding R x f ≡ None → More (merged (x ∷ xs) R)
    none f p e = absurd (none-some _ (all_of None (ap (after_finding R x) p ∙ e)))

    go : (f : Finding) → finding R x ≡ f
        → (0 < count_by (beyond v) xs → AreLearned R xs → length R < length (merged xs R))
        → More (merged (x ∷ xs) R)
    go Adds p later =
        let rest = grown xs (put x R) in
        let one : length (put x R) ≡ length R + 1 = length-insert_sorted name_cmp x R in
        by_finding More R x xs (Some (put x R)) (ap (after_finding R x) p) (omega (arith, rest, one))
    go Holds p later =
        let held = ap (after_finding R x) p in
        let below = beyond_no v x xs
        (omega (arith, vec_bounds R x (holds_found R x p), within x.origin)) in
        by_finding More R x xs (Some R) held
        (later (omega (arith, some, below)) (all_of (Some R) held))
    go Clash p later = none Clash p refl
    go (Gap m n) p later = none (Gap m n) p refl
    go TickTooFar p later = none TickTooFar p refl
    go TickNotRising p later = none TickNotRising p refl

-- fewer of first ones are beyond
fewer_beyond : (v : ℕ → ℕ) (rs : List Record) (k : ℕ)
    → count_by (beyond v) (take k rs) ≤ count_by (beyond v) rs
fewer_beyond v rs k = sum_by-take-le (λ y. cond (beyond v y) 1 0) rs k

-- what a vector says of a content
abbrev AreNumbers : (vector : List ℕ) → Content → Type 0
AreNumbers vector R = (replica : ℕ) → number_of vector replica ≡ vec R replica

-- of first ones of a piece no more are new than a piece has
pub few_new : (vector : List ℕ) (R : Content) (rs : List Record) (k : ℕ) → AreNumbers vector R
    → lacking_of vector rs ≡ piece → new_among (take k rs) R ≤ piece
few_new vector R rs k are lacking =
    let added = adds_few (number_of vector) (take k rs) R (λ origin. omega (arith, are origin)) in
    let fewer = fewer_beyond (number_of vector) rs k in
    omega (arith, added, fewer, lacking)

-- and of a whole one, where each is learned, one at least
pub one_new : (vector : List ℕ) (R : Content) (rs : List Record) → AreNumbers vector R
    → lacking_of vector rs ≡ piece → AreLearned R rs → 0 < new_among rs R
one_new vector R rs are lacking all =
    let more = adds_one (number_of vector) rs R (λ origin. omega (arith, are origin))
    (omega (arith, lacking)) all in
    omega (arith, more)

-- ---- what was learned ahead

-- of no records none is new
none_new : (rs : List Record) (R : Content) → new_among (take 0 rs) R ≤ piece
none_new rs R = omega arith

-- nothing was done
pub ahead_none : (a : Store) (s : DialogState) (rs : List Record)
    → LearnsAhead a a s s rs (Ok None)
ahead_none a s rs = record {
  learned = 0;
  tells = stays-none a;
  few = λ h. none_new rs a.content;
  stands = refl;
  content = λ h u. refl;
  crash = λ h left m. inl (m, refl);
  passes = passes-none a;
}

module _ (a b : Store) (s : DialogState) (rs : List Record) where
  -- the archive told what it holds, and that was all
  pub ahead_asked : {X : Type 0} (v : X) (P : X → Type 0) → Asks a b (Ok v) P
      → LearnsAhead a b s s rs (Ok None)
  ahead_asked v P asked = record {
    learned = 0;
    tells = asked.stays;
    few = λ h. none_new rs a.content;
    stands = refl;
    content = asked.stays.content;
    crash = λ h left m. inl (asked.stays.crash h left m, refl);
    passes = asked.leaves.passes;
  }

  -- or it couldn't
  pub ahead_fails : {X : Type 0} (fault : StoreFault) (P : X → Type 0) → Asks a b (Err fault) P
      → LearnsAhead a b s s rs (Err (exchange.Store fault))
  ahead_fails fault P asked = record {
    learned = 0;
    tells = refl;
    few = λ h. none_new rs a.content;
    stands = refl;
    content = asked.stays.content;
    crash = λ h left m. inl (asked.stays.crash h left m, refl);
    passes = asked.leaves.passes;
  }

module _ (a b c : Store) (s : DialogState) (rs : List Record) (n : ℕ) (within : n ≤ length rs)
    (v : List ℕ) (asked : Asks a b (Ok v) (λ vector. AreNumbers vector a.content))
    (lacking : lacking_of v (take n rs) ≡ piece) where
  -- who told what it holds is in use
  in_use : b.broken ≡ false
  in_use = asked.leaves.passes.broken ∙ or-false a.broken ∙ go a.broken refl
    where
      go : (x : _) → a.broken ≡ x → a.broken ≡ false
      go false e = e
      go true e = absurd (none-some Broken (asked.leaves.ended e))

  was_in_use : a.broken ≡ false
  was_in_use = unbroken_before a b [] asked.leaves.passes in_use

  same : b.honest → b.content ≡ a.content
  same h = asked.stays.content h in_use

  long : length (take n rs) ≡ n
  long = length-take-le n rs within

  -- of first ones of the piece
  new_of : b.honest → (k : ℕ) → k ≤ n → new_among (take k rs) a.content ≤ piece
  new_of h k le = subst (λ l. new_among l a.content ≤ piece) (take_within k n rs le)
      (few_new v a.content (take n rs) k (asked.answer h) lacking)

  pub ahead_learned : (added : ℕ) → Merges b c (take n rs) (Ok added)
      → LearnsAhead a c s (record s { learned = capped (s.learned + added) }) rs (Ok (Some added))
  ahead_learned added merges = record {
    learned = n;
    tells = λ h.
        let before = same (merges.passes.honest h) in
        let count = (merges.tells h).1 ∙ ap (new_among (take n rs)) before in
        let all = subst (λ R. AreLearned R (take n rs)) before (merges.tells h).0 in (
          count,
          subst (λ m. 0 < m) (sym count)
              (one_new v a.content (take n rs) (asked.answer (merges.passes.honest h)) lacking all),
        );
    few = λ h. new_of (merges.passes.honest h) n (omega arith);
    stands = refl;
    content = λ h u. merges.content h u
        ∙ (ap (λ l. merged l b.content) (take_all (length (take n rs)) (take n rs) (omega arith))
        ∙ ap (merged (take n rs)) (same (merges.passes.honest h)));
    crash = λ h left m. left_learned (merges.passes.honest h) left (merges.crash h left m);
    passes = passes-then a b c [] _ asked.leaves.passes merges.passes;
  }
    where
      left_learned : b.honest → (left : Content)
          → MayBeLeft b (take n rs) (length (take n rs)) left → MayBeLeft a rs n left
      left_learned h left (inl before) =
          inl (asked.stays.crash h left before.0, sym long ∙ before.1)
      left_learned h left (inr more) = inr (
        was_in_use,
        n,
        omega arith,
        omega arith,
        more.4 ∙ (ap (λ l. merged l b.content) (take_all more.1 (take n rs) more.2)
            ∙ ap (merged (take n rs)) (same h)),
      )

  -- a first one wasn't learned
  pub ahead_stopped : (k : ℕ) (cause : LearnFault)
      → Merges b c (take n rs) (Err (exchange.Learn k cause))
      → LearnsAhead a c s s rs (Err (exchange.Learn k cause))
  ahead_stopped k cause merges = record {
    learned = k;
    tells = λ h. stops (same (merges.passes.honest h)) (merges.tells.1 h);
    few = λ h. new_of (merges.passes.honest h) k (omega (arith, less));
    stands = refl;
    content = λ h u. merges.content h u
        ∙ (ap (λ l. merged l b.content) fewer
        ∙ ap (merged (take k rs)) (same (merges.passes.honest h)));
    crash = λ h left m. left_stopped (merges.passes.honest h) left (merges.crash h left m);
    passes = passes-then a b c [] _ asked.leaves.passes merges.passes;
  }
    where
      less : k < n
      less = omega (arith, merges.tells.0, long)

      fewer : take k (take n rs) ≡ take k rs
      fewer = take_within k n rs (omega (arith, less))

      stops : b.content ≡ a.content → StopsAt b.content (take n rs) k cause
          → StopsAt a.content rs k cause
      stops before at = record {
        held = subst (λ (R : Content). AreLearned R (take k rs)) before
            (subst (AreLearned b.content) fewer at.held);
        next = at.next;
        there = there_within rs n k at.next at.there;
        met = subst (λ (R : Content). Meets (merged (take k rs) R) at.next cause) before
            (subst (λ l. Meets (merged l b.content) at.next cause) fewer at.met);
      }

      left_stopped : b.honest → (left : Content) → MayBeLeft b (take n rs) k left
          → MayBeLeft a rs k left
      left_stopped h left (inl before) = inl (asked.stays.crash h left before.0, before.1)
      left_stopped h left (inr more) = inr (
        was_in_use,
        more.1,
        more.2,
        more.3,
        more.4 ∙ (ap (λ l. merged l b.content)
            (take_within more.1 n rs (omega (arith, more.3, less)))
            ∙ ap (merged (take more.1 rs)) (same h)),
      )

  pub ahead_met : (fault : ExchangeFault) → Merges b c (take n rs) (Err fault)
      → LearnsAhead a c s s rs (Err fault)
  ahead_met (exchange.Learn k cause) merges = ahead_stopped k cause merges
  ahead_met exchange.Frame merges = absurd merges.tells
  ahead_met exchange.WrongArchive merges = absurd merges.tells
  ahead_met exchange.OutOfMemory merges = absurd merges.tells
  ahead_met exchange.SelfPeer merges = absurd merges.tells
  ahead_met (exchange.Store fault) merges = absurd merges.tells
  ahead_met exchange.TooLong merges = absurd merges.tells
  ahead_met exchange.PeerFormat merges = absurd merges.tells
  ahead_met exchange.AheadOfClock merges = absurd merges.tells
  ahead_met exchange.NotAdmitted merges = absurd merges.tells
  ahead_met exchange.GivenTwice merges = absurd merges.tells
