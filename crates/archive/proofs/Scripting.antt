-- An archive that fails where it is told to meets the contract.
use Rattle.std.proofs.Common.{◌≡◌, ℕ, Bool, true, false, ◌||◌, [], ◌∷◌, Option, Some, None, IfSome, unwrap_or, Result, Ok, Err, IfErr, refl, sym, ap, ◌∙◌, subst, inl, inr, option_to_list}
use Rattle.std.proofs.Math.Bool.{or-false}
use Rattle.std.specs.List.{list_any, AllByRecursion}
use Rattle.std.proofs.lemmas.Option.{none-some}
use Rattle.std.proofs.lemmas.Bool.{true≢false}
use Rattle.records.specs.declared.record.Record.{Record}
use Rattle.records.specs.Contents.{Finding, Adds, Holds, Clash, Gap, TickTooFar, TickNotRising, finding}
use Rattle.records.proofs.ContentsParts.{after_finding}
use Rattle.archive.specs.declared.fault.StoreFault.{StoreFault}
use Rattle.archive.specs.declared.fault.StoreFault.TheVariants.{OutOfMemory, Broken}
use Rattle.archive.specs.declared.fault.LearnFault.{LearnFault}
use Rattle.archive.specs.Store.{IsQuiescent, IsLawfulContent, IsOfOpening, is_break, failed_by, AfterCall, fault_in, Asks, store_fault_in, Learns}
use Rattle.archive.specs.Listed.{Listed, store_of, failures, is_broken}
use Rattle.archive.specs.Scripted.{Scripted, scripted_store, IsScripted, IsOldOrWith, Follows}
use Rattle.archive.proofs.Results.{err-ok}

not_opening : (f : StoreFault) → IsScripted f → IsOfOpening f → ⊥
not_opening f s (inl e) = elim s [ inl p ↦ cc | inr q ↦ elim q [ inl p ↦ cc | inr p ↦ cc ] ]
not_opening f s (inr e) = elim s [ inl p ↦ cc | inr q ↦ elim q [ inl p ↦ cc | inr p ↦ cc ] ]

pub rests : (a : Scripted) → IsLawfulContent a.inner.records → IsQuiescent (scripted_store a)
rests a lawful honest used = record { lawful = lawful; stays = refl; only = λ left e. e }

-- a broken store answers Broken
breaks : (f : StoreFault) (x : Bool) → (x ≡ true → f ≡ Broken)
    → (x || list_any is_break (f ∷ [])) ≡ is_broken (Some f)
breaks f true ended = sym (ap (λ g. is_broken (Some g)) (ended refl))
breaks f false ended = or-false (is_break f)

-- the script's own fault
leaves_fault : (a b : Scripted) (f : StoreFault) → IsLawfulContent a.inner.records
    → IsLawfulContent b.inner.records → b.inner.number ≡ a.inner.number → b.inner.id ≡ a.inner.id
    → b.broken ≡ is_broken (Some f) → b.faults ≡ failures a.faults (Some f)
    → (a.broken ≡ true → f ≡ Broken) → IsScripted f
    → AfterCall (scripted_store a) (scripted_store b) (Some f)
leaves_fault a b f was is own id broken count ended scripted = record {
  before = rests a was;
  after = rests b is;
  passes = record {
    own = own;
    id = id;
    honest = λ h. h;
    failed = count;
    broken =
        broken ∙ sym (breaks f a.broken ended);
    met =
        ((scripted, not_opening f scripted), tt);
    meets = λ g e. e;
  };
  ended = λ e. ap (λ g. Some g) (ended e);
  some = λ h none. none b.inner.records refl;
}

-- what the archive inside leaves
leaves_inner : (a b : Scripted) (fault : Option StoreFault) → a.broken ≡ false → b.broken ≡ false
    → b.faults ≡ failures a.faults fault
    → AfterCall (store_of a.inner) (store_of b.inner) fault
    → AfterCall (scripted_store a) (scripted_store b) fault
leaves_inner a b fault used still count l = record {
  before = rests a (l.before tt refl).lawful;
  after = rests b (l.after tt refl).lawful;
  passes = record {
    own = l.passes.own;
    id = l.passes.id;
    honest = λ h. h;
    failed = counted fault count;
    broken = still ∙ (l.passes.broken
        ∙ sym (ap (λ x. x || list_any is_break (option_to_list fault)) used));
    met = met fault l.passes.met;
    meets = λ g e. e;
  };
  ended = λ e. absurd (true≢false (sym e ∙ used));
  some = λ h none. none b.inner.records refl;
}
  where
    counted : (o : Option StoreFault) → b.faults ≡ failures a.faults o
        → b.faults ≡ failed_by (option_to_list o) a.faults
    counted None e = e
    counted (Some f) e = e

    met : (o : Option StoreFault) → AllByRecursion (λ f. (f ≡ OutOfMemory) × (IsOfOpening f → ⊥))
        (option_to_list o) → AllByRecursion (λ f. IsScripted f × (IsOfOpening f → ⊥))
        (option_to_list o)
    met None m = tt
    met (Some f) m = ((inl m.0.0, m.0.1), tt)

same_err : (x y : StoreFault) (r : Result Unit StoreFault) → r ≡ Err x → r ≡ Err y → x ≡ y
same_err x y r p q = cc

-- a query that the script stopped
pub stopped : {A : Type 0} (a b : Scripted) (began : Result Unit StoreFault) (f : StoreFault)
    (result : Result A StoreFault) (IsAnswer : A → Type 0) → IsLawfulContent a.inner.records
    → b.inner ≡ a.inner
    → b.broken ≡ is_broken (fault_in began) → b.faults ≡ failures a.faults (fault_in began)
    → (a.broken ≡ true → began ≡ Err Broken) → IfErr began IsScripted
    → began ≡ Err f → result ≡ Err f → Asks (scripted_store a) (scripted_store b) result IsAnswer
stopped {A} a b began f result P lawful inner broken count ended met e told =
    subst (λ x. Asks (scripted_store a) (scripted_store b) x P) (sym told) asks
  where
    asks : Asks (scripted_store a) (scripted_store b) (Err f) P
    asks = record {
      answer = λ h. tt;
      stays = record {
        content = λ h u. ap (λ (i : Listed). i.records) inner;
        crash =
            λ h left p. p ∙ ap (λ (i : Listed). i.records) inner;
      };
      leaves = leaves_fault a b f lawful (subst (λ (i : Listed). IsLawfulContent i.records)
          (sym inner) lawful) (ap (λ (i : Listed). i.number) inner)
          (ap (λ (i : Listed). i.id) inner)
          (broken ∙ ap (λ o. is_broken (fault_in o)) e)
          (count ∙ ap (λ o. failures a.faults (fault_in o)) e)
          (λ p. same_err f Broken began e (ended p))
          (subst (λ (o : Result Unit StoreFault). IfErr o IsScripted) e met);
    }

unbroken : (a : Scripted) (began : Result Unit StoreFault) → (a.broken ≡ true → began ≡ Err Broken)
    → began ≡ Ok tt → a.broken ≡ false
unbroken a began ended e = go a.broken refl
  where
    go : (b : Bool) → a.broken ≡ b → b ≡ false
    go true p = absurd (err-ok began Broken tt (ended p) e)
    go false p = refl

-- a query that the archive inside answered
pub passed : {A : Type 0} (a b d : Scripted) (i : Listed) (began : Result Unit StoreFault)
    (answer result : Result A StoreFault) (IsAnswer : A → Type 0) → b.inner ≡ a.inner
    → b.broken ≡ is_broken (fault_in began) → b.faults ≡ failures a.faults (fault_in began)
    → (a.broken ≡ true → began ≡ Err Broken) → began ≡ Ok tt
    → Asks (store_of b.inner) (store_of i) answer IsAnswer → result ≡ answer
    → d ≡ record b { inner = i; faults = failures b.faults (fault_in answer) }
    → Asks (scripted_store a) (scripted_store d) result IsAnswer
passed a b d i began answer result P inner broken count ended e asks told after =
    subst (λ x. Asks (scripted_store a) (scripted_store d) x P) (sym told) (record {
      answer = λ h. asks.answer tt;
      stays = record {
        content = λ h u. ap (λ (x : Scripted). x.inner.records) after
            ∙ (asks.stays.content tt refl ∙ ap (λ (x : Listed). x.records) inner);
        crash = λ h left p. asks.stays.crash tt left
            (p ∙ ap (λ (x : Scripted). x.inner.records) after)
            ∙ ap (λ (x : Listed). x.records) inner;
      };
      leaves = leaves_inner a d (fault_in answer) (unbroken a began ended e) still counted within;
    })
  where
    still : d.broken ≡ false
    still = ap (λ (x : Scripted). x.broken) after ∙ (broken ∙ ap (λ o. is_broken (fault_in o)) e)

    counted : d.faults ≡ failures a.faults (fault_in answer)
    counted = ap (λ (x : Scripted). x.faults) after
        ∙ ap (λ n. failures n (fault_in answer)) (count
        ∙ ap (λ o. failures a.faults (fault_in o)) e)

    within : AfterCall (store_of a.inner) (store_of d.inner) (fault_in answer)
    within = subst (λ (x : Listed). AfterCall (store_of x) (store_of d.inner) (fault_in answer))
        inner (subst (λ (x : Listed). AfterCall (store_of b.inner) (store_of x) (fault_in answer))
        (sym (ap (λ (x : Scripted). x.inner) after)) asks.leaves)

-- a record that the archive inside learned or refused
pub learned_inside : (a b : Scripted) (r : Record) (result : Result Bool LearnFault)
    → a.broken ≡ false → b.broken ≡ false → b.faults ≡ failures a.faults (store_fault_in result)
    → Learns (store_of a.inner) (store_of b.inner) r result
    → Learns (scripted_store a) (scripted_store b) r result
learned_inside a b r result used still count learns = record {
  answered = λ h e. learns.answered tt e;
  kept = λ h u. learns.kept tt refl;
  crash = λ h left e. elim (learns.crash tt left e)
      [ inl p ↦ inl p | inr q ↦ inr (used, q.1, q.2) ];
  leaves = leaves_inner a b (store_fault_in result) used still count learns.leaves;
}

-- a record that was learned and not told
pub old_or_with : (a b : Listed) (r : Record) (result : Result Bool LearnFault)
    → Learns (store_of a) (store_of b) r result → IsOldOrWith r a.records b.records
old_or_with a b r result learns = go (store_fault_in result) refl (learns.kept tt refl)
  where
    by : (f : Finding) → finding a.records r ≡ f
        → b.records ≡ unwrap_or (after_finding a.records r f) a.records
        → IsOldOrWith r a.records b.records
    by Adds p e = inr (p, e)
    by Holds p e = inl e
    by Clash p e = inl e
    by (Gap m n) p e = inl e
    by TickTooFar p e = inl e
    by TickNotRising p e = inl e

    go : (o : Option StoreFault) → store_fault_in result ≡ o → IfSome o (λ _. b.records ≡ a.records)
        → IsOldOrWith r a.records b.records
    go None e k = by (finding a.records r) refl (learns.answered tt e).1
    go (Some f) e k = inl k

-- ---- the script

only_memory : (a b : Listed) (fault : Option StoreFault) → AfterCall (store_of a) (store_of b) fault
    → IfSome fault (λ f. f ≡ OutOfMemory)
only_memory a b fault l = go fault l.passes.met
  where
    go : (o : Option StoreFault) → AllByRecursion (λ f. (f ≡ OutOfMemory) × (IsOfOpening f → ⊥))
        (option_to_list o) → IfSome o (λ f. f ≡ OutOfMemory)
    go None m = tt
    go (Some f) m = m.0.0

-- a call that the script let through is answered by the archive inside
let_through : (a b d : Scripted) (i : Listed) (m limit : ℕ) (is_learn : Bool)
    (fault : Option StoreFault) → Follows a b is_learn limit None
    → d ≡ record b { inner = i; faults = m } → IfSome fault (λ f. f ≡ OutOfMemory)
    → Follows a d is_learn limit fault
let_through a b d i m limit is_learn fault p e memory = record {
  noted = ap (λ (x : Scripted). x.greatest_limit) e ∙ p.noted;
  counted = λ u. ap (λ (x : Scripted). x.countdown) e ∙ p.counted u;
  failure = ap (λ (x : Scripted). x.failure) e ∙ p.failure;
  alone = ap (λ (x : Scripted). x.learns_alone) e ∙ p.alone;
  due = λ u h. absurd (none-some _ (p.due u h));
  other = λ u h. memory;
}

-- a query that the archive inside answered follows the script
pub followed : {A : Type 0} (a b d : Scripted) (i : Listed) (limit : ℕ)
    (began : Result Unit StoreFault) (answer result : Result A StoreFault) (IsAnswer : A → Type 0)
    → Follows a b false limit (fault_in began) → began ≡ Ok tt
    → Asks (store_of b.inner) (store_of i) answer IsAnswer → result ≡ answer
    → d ≡ record b { inner = i; faults = failures b.faults (fault_in answer) }
    → Follows a d false limit (fault_in result)
followed a b d i limit began answer result P p e asks told after =
    let_through a b d i _ limit false (fault_in result)
    (subst (λ (o : Result Unit StoreFault). Follows a b false limit (fault_in o)) e p) after
    (subst (λ o. IfSome (fault_in o) (λ f. f ≡ OutOfMemory)) (sym told)
    (only_memory b.inner i (fault_in answer) asks.leaves))

-- a query that the script stopped follows it
pub halted : {A : Type 0} (a b : Scripted) (limit : ℕ) (is_learn : Bool)
    (began : Result Unit StoreFault) (f : StoreFault) (result : Result A StoreFault)
    → Follows a b is_learn limit (fault_in began) → began ≡ Err f → result ≡ Err f
    → Follows a b is_learn limit (fault_in result)
halted a b limit is_learn began f result p e told =
    subst (Follows a b is_learn limit) (ap (λ (o : Result Unit StoreFault). fault_in o) e
    ∙ sym (ap fault_in told)) p

pub ruleset queries = (stopped, passed, followed, halted)

-- a call that the script let through leaves the store as it was
pub begun : (a b c : Scripted) (r : Record) (began : Result Unit StoreFault)
    (result : Result Bool LearnFault) → b.inner ≡ a.inner
    → b.broken ≡ is_broken (fault_in began) → b.faults ≡ failures a.faults (fault_in began)
    → (a.broken ≡ true → began ≡ Err Broken) → began ≡ Ok tt
    → Learns (scripted_store b) (scripted_store c) r result
    → Learns (scripted_store a) (scripted_store c) r result
begun a b c r began result inner broken count ended e learns =
    let still : b.broken ≡ a.broken =
    (broken ∙ ap (λ o. is_broken (fault_in o)) e) ∙ sym (unbroken a began ended e) in
    let same : b.faults ≡ a.faults = count ∙ ap (λ o. failures a.faults (fault_in o)) e in
    subst (λ n. Learns (scripted_store
    (record b { inner = a.inner; broken = a.broken; faults = n })) (scripted_store c) r result)
    same
    (subst (λ t. Learns (scripted_store (record b { inner = a.inner; broken = t }))
    (scripted_store c) r result) still
    (subst (λ i. Learns (scripted_store (record b { inner = i })) (scripted_store c) r result) inner
    learns))
