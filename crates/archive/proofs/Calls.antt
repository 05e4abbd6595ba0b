-- Calls of an archive, one after the other.
use Rattle.std.proofs.Common.{◌≡◌, ℕ, Bool, true, false, ◌||◌, List, [], ◌∷◌, ◌++◌, Option, Some, None, Result, Ok, Err, IfOk, refl, sym, ap, ◌∙◌, option_to_list}
use Rattle.std.proofs.lemmas.Option.{none-some}
use Rattle.std.proofs.Math.Bool.{or-false}
use Rattle.std.specs.List.{list_any, AllByRecursion}
use Rattle.archive.specs.declared.fault.StoreFault.{StoreFault}
use Rattle.archive.specs.declared.fault.StoreFault.TheVariants.{OutOfMemory, Refused, WrongReplica, WrongArchive, Broken}
use Rattle.archive.specs.Store.{Store, AfterCall, KeepsContent, Asks, fault_in, faults_after, IsOfOpening, is_break, failed_by, CountsFaults}
use Rattle.archive.specs.Listed.{is_broken}

-- ---- any calls in a row

-- no call
pub passes-none : (a : Store) → CountsFaults a a []
passes-none a = record {
  own = refl;
  id = refl;
  honest = λ h. h;
  failed = refl;
  broken =
      sym (or-false a.broken);
  met = tt;
  meets = λ f m. m;
}

pub stays-none : (a : Store) → KeepsContent a a
stays-none a = record { content = λ h u. refl; crash = λ h left m. m }

failed-append : (faults more : List StoreFault) (n : ℕ)
    → failed_by (faults ++ more) n ≡ failed_by more (failed_by faults n)
failed-append [] more n = refl
failed-append (f ∷ faults) more n = failed-append faults more (faults_after 1 n)

breaks-append : (x : Bool) (faults more : List StoreFault)
    → ((x || list_any is_break faults) || list_any is_break more)
    ≡ (x || list_any is_break (faults ++ more))
breaks-append true faults more = refl
breaks-append false [] more = refl
breaks-append false (f ∷ faults) more = breaks-append (is_break f) faults more

met-append : (a b : Store) → ((f : StoreFault) → b.meets f → a.meets f)
    → (faults more : List StoreFault) → AllByRecursion (λ f. a.meets f × (IsOfOpening f → ⊥)) faults
    → AllByRecursion (λ f. b.meets f × (IsOfOpening f → ⊥)) more
    → AllByRecursion (λ f. a.meets f × (IsOfOpening f → ⊥)) (faults ++ more)
met-append a b meets [] [] m n = tt
met-append a b meets [] (f ∷ more) m n =
    ((meets f n.0.0, n.0.1), met-append a b meets [] more m n.1)
met-append a b meets (f ∷ faults) more m n = (m.0, met-append a b meets faults more m.1 n)

-- some calls, and others behind them
pub passes-then : (a b c : Store) (faults more : List StoreFault) → CountsFaults a b faults
    → CountsFaults b c more → CountsFaults a c (faults ++ more)
passes-then a b c faults more p q = record {
  own = q.own ∙ p.own;
  id = q.id ∙ p.id;
  honest = λ h. p.honest (q.honest h);
  failed = q.failed ∙ (ap (failed_by more) p.failed ∙ sym (failed-append faults more a.failed));
  broken = q.broken ∙ (ap (λ y. y || list_any is_break more) p.broken
      ∙ breaks-append a.broken faults more);
  met = met-append a b p.meets faults more p.met q.met;
  meets = λ f m. p.meets f (q.meets f m);
}

pub passes-leaves : (a b : Store) (fault : Option StoreFault) → AfterCall a b fault
    → CountsFaults a b (option_to_list fault)
passes-leaves a b fault p = p.passes

-- ---- a call without a fault, and the next one

-- what the next one leaves, both leave
pub leaves-then : (a b c : Store) (fault : Option StoreFault) → AfterCall a b None
    → AfterCall b c fault → AfterCall a c fault
leaves-then a b c fault p q = record {
  before = p.before;
  after = q.after;
  passes = passes-then a b c [] (option_to_list fault) p.passes q.passes;
  ended = λ e. absurd (none-some _ (p.ended e));
  some = q.some;
}

break_of : (o : Option StoreFault) → list_any is_break (option_to_list o) ≡ is_broken o
break_of None = refl
break_of (Some OutOfMemory) = refl
break_of (Some Refused) = refl
break_of (Some WrongReplica) = refl
break_of (Some WrongArchive) = refl
break_of (Some Broken) = refl

-- the store is broken behind a call where its fault says so
pub broken-by : (a b : Store) (fault : Option StoreFault) → AfterCall a b fault
    → b.broken ≡ is_broken fault
broken-by a b fault p = go a.broken refl
  where
    go : (x : Bool) → a.broken ≡ x → b.broken ≡ is_broken fault
    go true e = p.passes.broken ∙ (ap (λ y. y || list_any is_break (option_to_list fault)) e
        ∙ sym (ap is_broken (p.ended e)))
    go false e = p.passes.broken ∙ (ap (λ y. y || list_any is_break (option_to_list fault)) e
        ∙ break_of fault)

-- an answered call was one of a store in use, and leaves it so
pub in_use : (a b : Store) → AfterCall a b None → a.broken ≡ false
in_use a b p = go a.broken refl
  where
    go : (x : Bool) → a.broken ≡ x → a.broken ≡ false
    go true e = absurd (none-some _ (p.ended e))
    go false e = e

pub left_in_use : (a b : Store) → AfterCall a b None → b.broken ≡ false
left_in_use a b p = broken-by a b None p

-- what both were answered, over the content before them
pub asks-then : {A B : Type 0} (a b c : Store) (x : A) (r : Result B StoreFault) (P : A → Type 0)
    (Q S : B → Type 0)
    → Asks a b (Ok x) P → Asks b c r Q → (c.honest → b.content ≡ a.content → P x → IfOk r Q
    → IfOk r S) → Asks a c r S
asks-then a b c x r P Q S p q go =
    let before : c.honest → b.honest = q.leaves.passes.honest in
    let same : c.honest → b.content ≡ a.content =
    λ h. p.stays.content (before h) (left_in_use a b p.leaves) in
    record {
      answer = λ h. go h (same h) (p.answer (before h)) (q.answer h);
      stays = record {
        content = λ h u. q.stays.content h u ∙ same h;
        crash =
            λ h left m. p.stays.crash (before h) left (q.stays.crash h left m);
      };
      leaves = leaves-then a b c (fault_in r) p.leaves q.leaves;
    }

-- a fault is the same, whatever was asked for
pub asks-failed : {A B : Type 0} (a b : Store) (fault : StoreFault) (P : A → Type 0)
    (Q : B → Type 0) → Asks {A = A} a b (Err fault) P → Asks {A = B} a b (Err fault) Q
asks-failed a b fault P Q p = record { answer = λ h. tt; stays = p.stays; leaves = p.leaves }

-- the second of two gave a fault
pub asks-second : {A B C : Type 0} (a b c : Store) (x : A) (fault : StoreFault) (P : A → Type 0)
    (Q : B → Type 0) (S : C → Type 0)
    → Asks a b (Ok x) P → Asks {A = B} b c (Err fault) Q → Asks {A = C} a c (Err fault) S
asks-second a b c x fault P Q S p q =
    asks-then a b c x (Err fault) P S S p (asks-failed b c fault Q S q) (λ h k px e. e)
