-- An archive in memory meets the contract.
use Rattle.std.proofs.Common.{◌≡◌, ◌≢◌, Bool, true, false, [], ◌∷◌, Option, Some, None, IfSome, unwrap_or, Result, Ok, Err, IfOk, IfErr, refl, sym, ap, ◌∙◌, subst, inl, inr, option_to_list}
use Rattle.std.specs.List.{list_any, AllByRecursion}
use Rattle.std.proofs.lemmas.Bool.{true≢false}
use Rattle.std.proofs.lemmas.Option.{none-some}
use Rattle.records.specs.Spelling.{IsLawfulRecord}
use Rattle.records.proofs.PutLemmas.{has_from_put}
use Rattle.records.proofs.LearnLemmas.{next_found, closed-next}
use Rattle.records.specs.Contents.{Content, Finding, Adds, Holds, Clash, Gap, TickTooFar, TickNotRising, finding, put}
use Rattle.records.proofs.ContentsParts.{after_finding}
use Rattle.records.specs.declared.record.Record.{Record}
use Rattle.archive.specs.declared.fault.StoreFault.{StoreFault}
use Rattle.archive.specs.declared.fault.StoreFault.TheVariants.{OutOfMemory}
use Rattle.archive.specs.declared.fault.LearnFault.{LearnFault}
use Rattle.archive.specs.declared.fault.LearnFault.TheVariants as refused
use Rattle.archive.specs.Store.{IsQuiescent, IsLawfulContent, faults_after, IsOfOpening, is_break, failed_by, AfterCall, fault_in, Asks, store_fault_in, answer_to, Learns}
use Rattle.archive.specs.Listed.{Listed, store_of, failures}

not_opening : IsOfOpening OutOfMemory → ⊥
not_opening (inl e) = absurd (cc)
not_opening (inr e) = absurd (cc)

pub rests : (a : Listed) → IsLawfulContent a.records → IsQuiescent (store_of a)
rests a lawful honest used = record { lawful = lawful; stays = refl; only = λ left e. e }

leaves : (a b : Listed) (fault : Option StoreFault) → IsLawfulContent a.records
    → IsLawfulContent b.records → b.number ≡ a.number → b.id ≡ a.id
    → IfSome fault (λ f. f ≡ OutOfMemory) → b.faults ≡ failures a.faults fault
    → AfterCall (store_of a) (store_of b) fault
leaves a b fault was is own id memory count = record {
  before = rests a was;
  after = rests b is;
  passes = record {
    own = own;
    id = id;
    honest = λ h. h;
    failed = counted fault count;
    broken =
        unbroken fault memory;
    met = met fault memory;
    meets = λ f e. e;
  };
  ended = λ e. absurd (true≢false (sym e));
  some = λ h none. none b.records refl;
}
  where
    counted : (o : Option StoreFault) → b.faults ≡ failures a.faults o
        → b.faults ≡ failed_by (option_to_list o) a.faults
    counted None e = e
    counted (Some f) e = e

    unbroken : (o : Option StoreFault) → IfSome o (λ f. f ≡ OutOfMemory)
        → false ≡ list_any is_break (option_to_list o)
    unbroken None m = refl
    unbroken (Some f) m = ap (λ g. list_any is_break (g ∷ [])) (sym m)

    met : (o : Option StoreFault) → IfSome o (λ f. f ≡ OutOfMemory)
        → AllByRecursion (λ f. (f ≡ OutOfMemory) × (IsOfOpening f → ⊥)) (option_to_list o)
    met None m = tt
    met (Some f) m = ((m, subst (λ g. IsOfOpening g → ⊥) (sym m) not_opening), tt)

pub lawful_put : (R : Content) (r : Record) → IsLawfulContent R → IsLawfulRecord r
    → finding R r ≡ Adds → IsLawfulContent (put r R)
lawful_put R r lawful spelled adds = record {
  closed = closed-next R r lawful.closed (next_found R r adds);
  records = λ z h. elim (has_from_put r R z h) [
    | inl e ↦ subst IsLawfulRecord e spelled
    | inr k ↦
        lawful.records z k
  ];
}

asked_by : {A : Type 0} (a : Listed) (answer : Result A StoreFault) → IsLawfulContent a.records
    → IfErr answer (λ e. e ≡ OutOfMemory)
    → (IsAnswer : A → Type 0) → IfOk answer IsAnswer
    → Asks (store_of a) (store_of (record a { faults = failures a.faults (fault_in answer) }))
    answer IsAnswer
asked_by a (Ok v) lawful memory P h = record {
  answer = λ _. h;
  stays =
      record { content = λ _ _. refl; crash = λ _ left e. e };
  leaves =
      leaves a a None lawful lawful refl refl tt refl;
}
asked_by a (Err f) lawful memory P h = record {
  answer = λ _. h;
  stays =
      record { content = λ _ _. refl; crash = λ _ left e. e };
  leaves =
      leaves a (record a { faults = failures a.faults (Some f) })
      (Some f) lawful lawful refl refl memory refl;
}

-- a query was answered, and a fault was counted
pub asked : {A : Type 0} (a b : Listed) (answer result : Result A StoreFault)
    → IsLawfulContent a.records → IfErr answer (λ e. e ≡ OutOfMemory)
    → result ≡ answer → b ≡ record a { faults = failures a.faults (fault_in answer) }
    → (IsAnswer : A → Type 0) → IfOk answer IsAnswer
    → Asks (store_of a) (store_of b) result IsAnswer
asked a b answer result lawful memory same left P h =
    subst (λ x. Asks (store_of a) (store_of b) x P) (sym same)
    (subst (λ x. Asks (store_of a) (store_of x) answer P) (sym left)
    (asked_by a answer lawful memory P h))

-- a record was added
pub added : (a : Listed) (r : Record) → IsLawfulContent a.records → IsLawfulRecord r
    → finding a.records r ≡ Adds → Learns (store_of a)
    (store_of (record a { records = put r a.records })) r (Ok true)
added a r lawful spelled adds = record {
  answered = λ h e. (
    sym (ap answer_to adds),
    sym (ap (λ f. unwrap_or (after_finding a.records r f) a.records) adds),
  );
  kept = λ h b. tt;
  crash = λ h left e. inr (refl, adds, e);
  leaves = leaves a (record a { records = put r a.records }) None lawful
      (lawful_put a.records r lawful spelled adds) refl refl tt refl;
}

-- memory was wanting
pub starved : (a : Listed) (r : Record) → IsLawfulContent a.records
    → Learns (store_of a) (store_of (record a { faults = faults_after 1 a.faults })) r
    (Err (refused.Store OutOfMemory))
starved a r lawful = record {
  answered = λ h e. absurd (none-some _ (sym e));
  kept = λ h b. refl;
  crash = λ h left e. inl e;
  leaves = leaves a (record a { faults = faults_after 1 a.faults })
      (Some OutOfMemory) lawful lawful refl refl refl refl;
}

quiet : (f : Finding) → store_fault_in (answer_to f) ≡ None
quiet Adds = refl
quiet Holds = refl
quiet Clash = refl
quiet (Gap m n) = refl
quiet TickTooFar = refl
quiet TickNotRising = refl

stays : (R : Content) (r : Record) (f : Finding) → answer_to f ≢ Ok true
    → R ≡ unwrap_or (after_finding R r f) R
stays R r Adds other = absurd (other refl)
stays R r Holds other = refl
stays R r Clash other = refl
stays R r (Gap m n) other = refl
stays R r TickTooFar other = refl
stays R r TickNotRising other = refl

answered_by : (a : Listed) (r : Record) → IsLawfulContent a.records
    → answer_to (finding a.records r) ≢ Ok true
    → Learns (store_of a) (store_of a) r (answer_to (finding a.records r))
answered_by a r lawful other = record {
  answered = λ h e. (refl, stays a.records r (finding a.records r) other);
  kept = λ h b. subst (λ o. IfSome o (λ _. a.records ≡ a.records))
      (sym (quiet (finding a.records r))) tt;
  crash = λ h left e. inl e;
  leaves = subst (AfterCall (store_of a) (store_of a)) (sym (quiet (finding a.records r)))
      (leaves a a None lawful lawful refl refl tt refl);
}

-- the record is held already, or refused
pub answered : (a : Listed) (r : Record) (result : Result Bool LearnFault)
    → IsLawfulContent a.records → result ≡ answer_to (finding a.records r) → result ≢ Ok true
    → Learns (store_of a) (store_of a) r result
answered a r result lawful e other =
    subst (λ x. Learns (store_of a) (store_of a) r x) (sym e)
    (answered_by a r lawful (λ p. other (e ∙ p)))
