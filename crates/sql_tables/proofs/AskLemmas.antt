-- Calls over a connection that change nothing, one behind the other.
use Rattle.std.proofs.Common.{◌≡◌, ◌≢◌, ◌⊎◌, Result, Ok, Err, IfErr, IsSome, IsTrue, false, refl, sym, ap, subst, ◌∙◌, arith, inl, inr}
use Rattle.sqlite.specs.Effect.{Database}
use Rattle.sqlite_trees.specs.Tree.{Trees}
use Rattle.sqlite.specs.declared.error.Error.{Error}
use Rattle.sqlite.specs.declared.error.Error.TheVariants.{SqliteFailure}
use Rattle.sqlite.specs.declared.error.ErrorCode.TheVariants.{OutOfMemory}
use Rattle.sqlite.specs.State.{State, HasCleanDisk, IsUnchanged, Survives}
use Rattle.sqlite.proofs.StateLemmas.{survives_then}
use Rattle.archive.specs.declared.fault.StoreFault.{StoreFault}
use Rattle.archive.specs.declared.fault.StoreFault.TheVariants.{Refused, Broken}
use Rattle.archive.specs.Store.{IsOfOpening, fault_in}
use Rattle.archive.specs.Listed.{is_broken}
use Rattle.sql_tables.specs.State.{Idles, KeepsState, MayBeStopped, AreWhole, LeavesUnchanged, LeavesUnchangedOr, IsOpenAndIdle, Holds, Found}
use Rattle.sql_schema.proofs.StandingLemmas.{archive_as}
use Rattle.sql_tables.proofs.WriteLemmas.{holds_as}

pub survives_itself : (s : State) → Survives s s (λ _. ⊥)
survives_itself s = record {
  clean = omega arith;
  shield = λ x. x;
  counts = omega arith;
  limit =
      refl;
  closes = λ _ o. inl o;
  crash = λ _ db m. inl m;
}

-- what stopped the later of two calls, or the earlier one, may have stopped both
pub stops_behind : (a b c : State) (P : Trees → Type 0) → Survives a b P → MayBeStopped b c
    → MayBeStopped a c
stops_behind a b c P s (inl more) = inl (omega (arith, s.counts, more))
stops_behind a b c P s (inr some) = inr (subst IsSome s.limit some)

pub stops_before : (a b c : State) (P : Trees → Type 0) → MayBeStopped a b → Survives b c P
    → MayBeStopped a c
stops_before a b c P (inl more) s = inl (omega (arith, s.counts, more))
stops_before a b c P (inr some) s = inr some

pub or_own : {P O Q : Type 0} → (O → Q) → P ⊎ O → P ⊎ Q
or_own f (inl p) = inl p
or_own f (inr o) = inr (f o)

-- an answer that asks nothing of the store
pub asked_nothing : {A : Type 0} (s : State) (v : A) (P : A → Type 0) → (HasCleanDisk s → Idles s)
    → (HasCleanDisk s → P v) → LeavesUnchanged s s (Ok v) P
asked_nothing s v P idles h = record {
  answer = h;
  kept =
      λ clean _. record { idles = idles clean; same = refl };
  met = tt;
  refused = λ clean. tt;
  crash = survives_itself s;
}

-- what is asked of a store, in other words, and refused for another reason of our own
pub asked_for : {A : Type 0} (O O2 : Type 0) (a b : State) (r : Result A StoreFault)
    (P Q : A → Type 0) → (HasCleanDisk b → (v : A) → P v → Q v) → (HasCleanDisk b → O → O2)
    → LeavesUnchangedOr O a b r P → LeavesUnchangedOr O2 a b r Q
asked_for O O2 a b (Ok v) P Q f own h = record {
  answer = λ clean. f clean v (h.answer clean);
  kept =
      h.kept;
  met = tt;
  refused = λ clean. tt;
  crash = h.crash;
}
asked_for O O2 a b (Err e) P Q f own h = record {
  answer = λ clean. tt;
  kept = h.kept;
  met = h.met;
  refused = λ clean is. or_own (own clean) (h.refused clean is);
  crash =
      h.crash;
}

-- what is asked of a store, in other words
pub asked_as : {A : Type 0} (a b : State) (r : Result A StoreFault) (P Q : A → Type 0)
    → (HasCleanDisk b → (v : A) → P v → Q v) → LeavesUnchanged a b r P → LeavesUnchanged a b r Q
asked_as a b r P Q f h = asked_for _ _ a b r P Q f (λ clean o. o) h

-- calls were made, none of which met a fault
pub record Passed (a b : State) : Type 0 where
  pub kept : HasCleanDisk b → KeepsState a b
  pub crash : Survives a b (λ _. ⊥)

pub passed_none : (a : State) → (HasCleanDisk a → Idles a) → Passed a a
passed_none a idles = record {
  kept = λ clean. record { idles = idles clean; same = refl };
  crash =
      survives_itself a;
}

pub passed_ok : {A : Type 0} (a b : State) (v : A) (P : A → Type 0) → LeavesUnchanged a b (Ok v) P
    → Passed a b
passed_ok a b v P h = record { kept = λ clean. h.kept clean refl; crash = h.crash }

pub early : (a b : State) → Passed a b → HasCleanDisk b → HasCleanDisk a
early a b p clean = omega (arith, p.crash.clean, clean)

pub same_trees : (a b : State) → Passed a b → HasCleanDisk b → b.now.trees ≡ a.now.trees
same_trees a b p clean = ap (λ (d : Database). d.trees) (p.kept clean).same

stays_then : (a b c : State) → KeepsState a b → KeepsState b c → KeepsState a c
stays_then a b c p q = record { idles = q.idles; same = q.same ∙ p.same }

pub passed_then : (a b c : State) → Passed a b → Passed b c → Passed a c
passed_then a b c p q = record {
  kept = λ clean. stays_then a b c (p.kept (early b c q clean)) (q.kept clean);
  crash = survives_then a b c _ _ _ (λ clean db none. none) (λ clean db none. none) p.crash q.crash;
}

-- what is asked behind calls that met no fault
pub passed_asked : {A : Type 0} (a b c : State) (r : Result A StoreFault) (Q S : A → Type 0)
    → Passed a b → LeavesUnchanged b c r Q → (HasCleanDisk b → (v : A) → Q v → S v)
    → LeavesUnchanged a c r S
passed_asked {A} a b c r Q S p q f = record {
  answer = (asked_as b c r Q S (λ clean v h. f (before clean) v h) q).answer;
  kept = λ clean ok. stays_then a b c (p.kept (before clean)) (q.kept clean ok);
  met = q.met;
  refused = λ clean. go r (q.refused clean) (same_trees a b p (before clean));
  crash = survives_then a b c _ _ _ (λ clean db none. none) (λ clean db none. none) p.crash q.crash;
}
  where
    before : HasCleanDisk c → HasCleanDisk b
    before clean = omega (arith, q.crash.clean, clean)

    further : b.now.trees ≡ a.now.trees → MayBeStopped b c ⊎ (AreWhole b.now.trees → ⊥)
        → MayBeStopped a c ⊎ (AreWhole a.now.trees → ⊥)
    further same (inl stopped) = inl (stops_behind a b c _ p.crash stopped)
    further same (inr own) = inr (λ whole. own (subst AreWhole (sym same) whole))

    go : (x : Result A StoreFault)
        → IfErr x (λ f. f ≡ Refused → MayBeStopped b c ⊎ (AreWhole b.now.trees → ⊥))
        → b.now.trees ≡ a.now.trees
        → IfErr x (λ f. f ≡ Refused → MayBeStopped a c ⊎ (AreWhole a.now.trees → ⊥))
    go (Ok v) h same = tt
    go (Err e) h same = λ is. further same (h is)

-- a fault met by a call, whatever was asked for
pub passed_err : {A B : Type 0} (a b c : State) (fault : StoreFault) (Q : A → Type 0)
    (S : B → Type 0) → Passed a b → LeavesUnchanged {A = A} b c (Err fault) Q
    → LeavesUnchanged {A = B} a c (Err fault) S
passed_err a b c fault Q S p q = passed_asked a b c (Err fault) S S p
    (record {
      answer = λ clean. tt;
      kept = q.kept;
      met = q.met;
      refused = q.refused;
      crash = q.crash;
    }) (λ clean v h. h)

-- an answer that asks no more
pub passed_told : {A : Type 0} (a b : State) (v : A) (P : A → Type 0) → Passed a b
    → (HasCleanDisk b → P v) → LeavesUnchanged a b (Ok v) P
passed_told a b v P p h = record {
  answer = h;
  kept = λ clean _. p.kept clean;
  met = tt;
  refused = λ clean. tt;
  crash =
      p.crash;
}

-- a fault that isn't the store's
pub passed_fault : {A : Type 0} (a b : State) (fault : StoreFault) (P : A → Type 0) → Passed a b
    → (IsOfOpening fault → ⊥) → (HasCleanDisk b → fault ≡ Refused → AreWhole a.now.trees → ⊥)
    → LeavesUnchanged {A = A} a b (Err fault) P
passed_fault a b fault P p own why = record {
  answer = λ clean. tt;
  kept =
      λ clean _. p.kept clean;
  met = own;
  refused = λ clean is. inr (why clean is);
  crash = p.crash;
}

-- ---- whatever the tables

pub rests_of : (s : State) → Idles s → IsOpenAndIdle s
rests_of s was = record {
  is_open = was.is_open;
  autocommit = was.autocommit;
  settled =
      was.settled;
}

pub stays_of : (a b : State) → Idles a → Holds a b → KeepsState a b
stays_of a b was h = record {
  idles =
      record {
        is_open = h.rests.is_open;
        autocommit = h.rests.autocommit;
        settled =
            h.rests.settled;
        tables = archive_as (ap (λ (d : Database). d.schema) h.same) was.tables;
      };
  same = h.same;
}

-- over the tables of an archive
pub asked_found : {A : Type 0} (O : Type 0) (a b : State) (r : Result A StoreFault)
    (P : A → Type 0) → (HasCleanDisk a → Idles a) → Found a b r P → LeavesUnchangedOr O a b r P
asked_found {A} O a b r P idles h = record {
  answer = h.answer;
  kept =
      λ clean ok. stays_of a b (idles (omega (arith, h.crash.clean, clean))) (h.kept clean ok);
  met =
      h.met;
  refused = λ clean. go r (h.refused clean);
  crash = h.crash;
}
  where
    go : (x : Result A StoreFault) → IfErr x (λ f. f ≡ Refused → MayBeStopped a b ⊎ ⊥)
        → IfErr x (λ f. f ≡ Refused → MayBeStopped a b ⊎ O)
    go (Ok v) t = tt
    go (Err e) t = λ is. or_own (λ n. absurd n) (t is)

pub asked_of : {A : Type 0} (a b : State) (r : Result A StoreFault) (P : A → Type 0)
    → (HasCleanDisk a → Idles a) → Found a b r P → LeavesUnchanged a b r P
asked_of a b r P idles h = asked_found _ a b r P idles h

-- what was found, in other words
pub found_as : {A : Type 0} (a b : State) (r : Result A StoreFault) (P Q : A → Type 0)
    → (HasCleanDisk b → (v : A) → P v → Q v) → Found a b r P → Found a b r Q
found_as a b (Ok v) P Q f h = record {
  answer = λ clean. f clean v (h.answer clean);
  kept =
      h.kept;
  met = tt;
  refused = λ clean. tt;
  crash = h.crash;
}
found_as a b (Err e) P Q f h = record {
  answer = λ clean. tt;
  kept = h.kept;
  met = h.met;
  refused = h.refused;
  crash =
      h.crash;
}

-- a query failed, and it was told what that is told as
pub told_failed : {A : Type 0} (a b c : State) (e : Error) (fault : StoreFault) (P : A → Type 0)
    → (HasCleanDisk b → IsTrue b.is_open → Holds a b)
    → (HasCleanDisk b → (e ≡ SqliteFailure OutOfMemory → ⊥) → MayBeStopped a b)
    → Survives a b (λ _. ⊥) → (HasCleanDisk c → fault ≢ Broken → IsUnchanged b c)
    → (IsOfOpening fault → ⊥) → (fault ≡ Refused → e ≡ SqliteFailure OutOfMemory → ⊥)
    → Survives b c (λ _. ⊥) → Found {A = A} a c (Err fault) P
told_failed a b c e fault P failed stopped first alive met refused second = record {
  answer = λ clean. tt;
  kept = λ clean ok.
      let same = alive clean (λ broken. shut fault broken ok) in
      let mid = failed (before clean) same.0.was_open in
      let last = holds_as b c mid.rests same in
      record { rests = last.rests; same = last.same ∙ mid.same };
  met = met;
  refused = λ clean is.
      inl (stops_before a b c _ (stopped (before clean) (refused is)) second);
  crash = survives_then a b c _ _ _ (λ clean db none. none) (λ clean db none. none) first second;
}
  where
    before : HasCleanDisk c → HasCleanDisk b
    before clean = omega (arith, second.clean, clean)

    shut : (f : StoreFault) → f ≡ Broken → is_broken (fault_in {A = Unit {0}} (Err f)) ≡ false → ⊥
    shut f is ok = let bad = rw is at ok in cc
