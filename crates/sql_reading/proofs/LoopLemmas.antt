-- A loop over the stories of a node.
use Rattle.std.proofs.Common.{◌≡◌, ℕ, ◌+◌, ◌∷◌, ◌≤◌, ℤ, pos, ◌++◌, List, [], take, length, Bool, false, Option, Some, None, Ok, sym, ap, ap₂, subst, ◌∙◌, arith, inl, inr}
use Rattle.std.specs.List.{flat_map}
use Rattle.std.proofs.lemmas.Int.{ints}
use Rattle.sqlite_trees.specs.Tree.{Trees}
use Rattle.sqlite.specs.State.{State, HasCleanDisk}
use Rattle.ua_binary.specs.declared.values.NodeId.{NodeId}
use Rattle.records.specs.Contents.{Content, cut}
use Rattle.records.specs.Records.{versions}
use Rattle.records.specs.Moments.{ticks_of, pico_of, whole_again, pico_within}
use Rattle.records.specs.declared.record.Record.{Record}
use Rattle.archive.specs.Reading.{times}
use Rattle.archive.specs.Store.{IsOfOpening}
use Rattle.archive.specs.declared.fault.StoreFault.{StoreFault}
use Rattle.archive.specs.declared.fault.StoreFault.TheVariants.{OutOfMemory, Refused}
use Rattle.archive.specs.declared.reading.Direction.{Direction}
use Rattle.archive.specs.declared.reading.Direction.TheVariants.{Forward, Backward}
use Rattle.sql_reading.specs.declared.reads.Story.{Story}
use Rattle.sql_tables.specs.Rows.{content_in, IsFilled}
use Rattle.sql_tables.specs.State.{Idles, LeavesUnchanged}
use Rattle.sql_reading.specs.Walking.{moment_at, IsStartPlace, IsStoryRead, IsAhead, is_used_up, records_beyond, stretch}
use Rattle.sql_tables.proofs.AskLemmas.{Passed, passed_none, passed_ok, passed_then, passed_told, early, same_trees}
use Rattle.sql_reading.proofs.AheadLemmas.{nothing_held}
use Rattle.sql_reading.proofs.WalkLemmas.{still, whole, enough}

pub memory_own : (f : StoreFault) → f ≡ OutOfMemory → IsOfOpening f → ⊥
memory_own f e (inl o) = absurd (let p = sym e ∙ o in cc)
memory_own f e (inr o) = absurd (let p = sym e ∙ o in cc)

pub memory_unlike : (f : StoreFault) → f ≡ OutOfMemory → f ≡ Refused → ⊥
memory_unlike f e is = let p = sym e ∙ is in cc

pub refused_own : IsOfOpening Refused → ⊥
refused_own (inl o) = absurd (let p = o in cc)
refused_own (inr o) = absurd (let p = o in cc)

pub moment_of_place : (z ticks pico : ℤ) → ticks ≡ ticks_of z → pico ≡ pos (pico_of z)
    → moment_at ticks pico ≡ z
moment_of_place z ticks pico t p = ap₂ moment_at t p ∙ whole_again z

pub is_place : (d : Direction) (z pico : ℤ) → pico ≡ pos (pico_of z) → IsStartPlace d pico
is_place Forward z pico p = let low = pico_within z in (omega (arith, ints), omega (arith, ints))
is_place Backward z pico p = let low = pico_within z in (omega (arith, ints), omega (arith, ints))

module _ {X : Type 0} (h : List Record → List X) (node : NodeId) (v : ℕ → ℕ) (d : Direction)
    (start far : ℤ) where
  abbrev pub shown : Content → ℤ → List X
  shown R t = h (versions (cut R v) node t)

  abbrev pub beyond : Trees → ℤ → List X
  beyond db place = flat_map (shown (content_in db))
      (stretch d place far (times (content_in db) node))

  -- calls were made, none of which met a fault; what is found, and what stands beyond the place, is
  -- what stood beyond the start; held are the next records beyond the place
  pub record Walked (a b : State) (place : ℤ) (found : List X) (held : List Record) (ends : Bool) :
      Type 0 where
    pub passed : Passed a b
    pub so : HasCleanDisk b → found ++ beyond a.now.trees place ≡ beyond a.now.trees start
    pub ahead : HasCleanDisk b → IsAhead (content_in a.now.trees) node d place held ends

  -- what the next call told
  abbrev pub Told : State → ℤ → List Record → Bool → Option Story → Type 0
  Told b place held ends o = IsStoryRead (content_in b.now.trees) node v d place far o held ends

  pub walked_start : (a : State) (place : ℤ) (found : List X) (held : List Record) (ends : Bool)
      → (HasCleanDisk a → Idles a) → place ≡ start → found ≡ [] → held ≡ [] → ends ≡ false
      → Walked a a place found held ends
  walked_start a place found held ends idles same none nothing goes = record {
    passed = passed_none a idles;
    so = λ clean. ap₂ ◌++◌ none (ap (beyond a.now.trees) same);
    ahead = λ clean. nothing_held (records_beyond (content_in a.now.trees) node d place) held ends
        (ap₂ is_used_up nothing goes);
  }

  -- held are the next records of what the connection then shows
  pub ahead_still : (a b : State) (place : ℤ) (found : List X) (held : List Record) (ends : Bool)
      → Walked a b place found held ends → HasCleanDisk b
      → IsAhead (content_in b.now.trees) node d place held ends
  ahead_still a b place found held ends w clean =
      subst (λ t. IsAhead (content_in t) node d place held ends)
      (sym (same_trees a b w.passed clean)) (w.ahead clean)

  pub walked_on : (a b c : State) (place next : ℤ) (found more : List X) (held left : List Record)
      (ends now : Bool) (s : Story) → Walked a b place found held ends
      → LeavesUnchanged b c (Ok (Some s)) (Told b place left now) → next ≡ s.time
      → more ≡ found ++ h s.records.items
      → Walked a c next more left now
  walked_on a b c place next found more held left ends now s w asked is more_is =
      let passed = passed_ok b c (Some s) (Told b place left now) asked in
      record {
        passed = passed_then a b c w.passed passed;
        so = λ clean.
            let there = (told clean).0 in
            ap (λ t. more ++ beyond a.now.trees t) is
            ∙ still (shown (content_in a.now.trees)) found more (beyond a.now.trees start) s.time
            (stretch d place far (times (content_in a.now.trees) node))
            (stretch d s.time far (times (content_in a.now.trees) node))
            (w.so (early b c passed clean)) there.first
            (more_is ∙ ap (λ rs. found ++ h rs) there.there);
        ahead = λ clean. subst (λ t. IsAhead (content_in a.now.trees) node d t left now) (sym is)
            (told clean).1;
      }
    where
      told : HasCleanDisk c → IsStoryRead (content_in a.now.trees) node v d place far
          (Some s) left now
      told clean = subst (λ t. IsStoryRead (content_in t) node v d place far (Some s) left now)
          (same_trees a b w.passed (early b c
          (passed_ok b c (Some s) (Told b place left now) asked) clean)) (asked.answer clean)

  pub walked_enough : {V : Type 0} (items : V → List X) (a b : State) (place : ℤ) (found : List X)
      (held : List Record) (ends : Bool) (limit : ℕ) (r : V) → Walked a b place found held ends
      → limit ≤ length found → items r ≡ take limit found
      → LeavesUnchanged a b (Ok r) (λ x. items x ≡ take limit (beyond a.now.trees start))
  walked_enough items a b place found held ends limit r w reached is =
      passed_told a b r (λ x. items x ≡ take limit (beyond a.now.trees start)) w.passed
      (λ clean. is ∙ enough (shown (content_in a.now.trees)) limit found
      (beyond a.now.trees start) (stretch d place far (times (content_in a.now.trees) node))
      (w.so clean) reached)

  pub walked_ends : {V : Type 0} (items : V → List X) (a b c : State) (place : ℤ) (found : List X)
      (held left : List Record) (ends now : Bool) (limit : ℕ) (r : V)
      → Walked a b place found held ends → LeavesUnchanged b c (Ok None) (Told b place left now)
      → items r ≡ take limit found
      → LeavesUnchanged a c (Ok r) (λ x. items x ≡ take limit (beyond a.now.trees start))
  walked_ends items a b c place found held left ends now limit r w asked is =
      let passed = passed_ok b c None (Told b place left now) asked in
      passed_told a c r (λ x. items x ≡ take limit (beyond a.now.trees start))
      (passed_then a b c w.passed passed)
      (λ clean.
      let before = early b c passed clean in
      let none = subst (λ t. IsStoryRead (content_in t) node v d place far None left now)
      (same_trees a b w.passed before) (asked.answer clean) in
      is ∙ ap (take limit) (whole (shown (content_in a.now.trees)) found (beyond a.now.trees start)
      (stretch d place far (times (content_in a.now.trees) node)) (w.so before) none.0))

pub still_filled : (a b : State) → Passed a b → (HasCleanDisk a → IsFilled a.now.trees)
    → HasCleanDisk b → IsFilled b.now.trees
still_filled a b p filled clean = subst IsFilled (sym (same_trees a b p clean))
    (filled (early a b p clean))

-- what is told of a time is that it is the first beyond the place
pub story_first : (node : NodeId) (v : ℕ → ℕ) (d : Direction) (far : ℤ) (db now : Trees) (place : ℤ)
    (s : Story) (held : List Record) (ends : Bool) → now ≡ db
    → IsStoryRead (content_in now) node v d place far (Some s) held ends
    → stretch d place far (times (content_in db) node)
    ≡ s.time ∷ stretch d s.time far (times (content_in db) node)
story_first node v d far db now place s held ends same told =
    subst (λ t. stretch d place far (times (content_in t) node)
    ≡ s.time ∷ stretch d s.time far (times (content_in t) node)) same told.0.first

-- so one time less stands beyond it
pub stretch_shorter : (node : NodeId) (d : Direction) (far : ℤ) (db : Trees) (place time next : ℤ)
    → next ≡ time
    → stretch d place far (times (content_in db) node)
    ≡ time ∷ stretch d time far (times (content_in db) node)
    → length (stretch d place far (times (content_in db) node))
    ≡ length (stretch d next far (times (content_in db) node)) + 1
stretch_shorter node d far db place time next is first =
    let shorter = ap length first in
    let same = ap (λ t. length (stretch d t far (times (content_in db) node))) is in
    omega (arith, shorter, same)
