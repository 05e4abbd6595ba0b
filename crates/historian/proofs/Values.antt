-- Values as they are read.
use Rattle.std.proofs.Common.{◌≡◌, ◌∙◌, ◌⊎◌, inl, inr, ℕ, ℤ, List, [], ◌∷◌, take, Option, Some, None, Ok, Err, IfOk, refl, sym, ap}
use Rattle.std.specs.Prelude.{Result}
use Rattle.stamp.specs.Numbers.{number_of}
use Rattle.ua_binary.specs.declared.codes.Status.{Status}
use Rattle.ua_binary.specs.declared.codes.TheConstants.Status.{BAD_OUT_OF_MEMORY}
use Rattle.ua_binary.specs.declared.values.NodeId.{NodeId}
use Rattle.ua_binary.specs.declared.values.Ticks.{Ticks}
use Rattle.ua_binary.specs.Format.{IsOrStarved, ◌>>=◌}
use Rattle.ua_binary.specs.Rules.{checked}
use Rattle.ua_variant.specs.declared.data.DataValue.{DataValue}
use Rattle.ua_services.specs.Attributes.{ReadFields}
use Rattle.ua_services.specs.declared.attributes.TimestampsToReturn.{TimestampsToReturn}
use Rattle.ua_space.specs.declared.attributes.Answered.{Answered}
use Rattle.ua_space.specs.declared.attributes.Answered.TheVariants.{Value, Archived}
use Rattle.historian.specs.UserSpaces.{UserSpace, seen_attribute}
use Rattle.records.specs.Contents.{Content, vec, cut}
use Rattle.records.specs.declared.shown.Held.{Held}
use Rattle.records.proofs.CutLemmas.{cut_whole}
use Rattle.archive.specs.declared.fault.StoreFault.{StoreFault}
use Rattle.archive.specs.declared.reading.Direction.{Direction}
use Rattle.archive.specs.declared.reading.Direction.TheVariants.{Backward}
use Rattle.archive.specs.Fault.{store_fault_status, status_told}
use Rattle.archive.specs.Reading.{range_of}
use Rattle.archive.specs.Store.{Store, StepResult, Done, NoMemory, StoreFailed, faults_of, CountsFaults, KeepsContent, IsLeft, IsThere, Asks}
use Rattle.archive.specs.Steps.{Fallible, give, step, and_then, Yields, Refines}
use Rattle.archive.proofs.Acting.{left-before, there-behind, moves-none-by, moves-as, acts-as, acts-stays}
use Rattle.archive.proofs.Calls.{passes-leaves, in_use, asks-then}
use Rattle.hist_read.specs.Asking.{first_time}
use Rattle.hist_read.specs.Reads.{greatest_time}
use Rattle.historian.specs.Reading.{latest, value_rules, FindsItem, item_at, unless_met, item_told, value_step}
use Rattle.historian.proofs.ReadingParts.{stored, item_value, value_of, telling}

-- ---- a listing over all that is held

pub listed : (a b c : Store) (v : List ℕ) (node : NodeId) (from to : ℤ) (d : Direction)
    (limit : ℕ) {B : Type 0} (items : B → List Held) (result : Result B StoreFault)
    → Asks a b (Ok v) (λ w. (replica : ℕ) → number_of w replica ≡ vec a.content replica)
    → Asks b c result (λ w. items w
    ≡ take limit (range_of (cut b.content (number_of v)) node from to d))
    → Asks a c result (λ w. items w ≡ take limit (range_of a.content node from to d))
listed a b c v node from to d limit {B} items result p q =
    asks-then a b c v result (λ w. (replica : ℕ) → number_of w replica ≡ vec a.content replica)
    (λ w. items w ≡ take limit (range_of (cut b.content (number_of v)) node from to d))
    (λ w. items w ≡ take limit (range_of a.content node from to d)) p q
    (λ h same is told. shown result (whole h same is) told)
  where
    whole : c.honest → b.content ≡ a.content → ((replica : ℕ)
        → number_of v replica ≡ vec a.content replica) → cut b.content (number_of v) ≡ a.content
    whole h same is =
        let settled = p.leaves.before (p.leaves.passes.honest (q.leaves.passes.honest h))
        (in_use a b p.leaves) in
        ap (λ S. cut S (number_of v)) same ∙ (ap (cut a.content) (λ i replica. is replica i)
        ∙ cut_whole a.content settled.lawful.closed)

    shown : (r : Result B StoreFault) → cut b.content (number_of v) ≡ a.content
        → IfOk r (λ w. items w ≡ take limit (range_of (cut b.content (number_of v)) node from to d))
        → IfOk r (λ w. items w ≡ take limit (range_of a.content node from to d))
    shown (Ok w) same told = told ∙ ap (λ S. take limit (range_of S node from to d)) same
    shown (Err fault) same told = tt

-- ---- values in one step

-- the archive isn't asked
pub value-here : (s : Store) (told : Fallible (Option Status))
    (value : Content → Result DataValue Status) (mark : StepResult) (reason : Option Status)
    (x : Result DataValue Status) → faults_of (mark ∷ []) ≡ []
    → ((later : List StepResult) → told (mark ∷ later) ≡ (reason, later))
    → ((R : Content) → x ≡ unless_met reason (value R))
    → Refines s s (mark ∷ []) (value_step told value) x
value-here s told value mark reason x faultless is so =
    moves-none-by s (mark ∷ []) faultless (λ marks R S.
    Yields (value_step told value R) marks (x, S)) (λ R. record {
      does = λ later.
          ap (λ (r : Option Status × List StepResult). let z : (Result DataValue Status × Content)
          × List StepResult = ((unless_met r.0 (value R), R), r.1) in z) (is later)
          ∙ ap (λ (v : Result DataValue Status). let z : (Result DataValue Status × Content)
          × List StepResult = ((v, R), later) in z) (sym (so R));
    })

-- the archive is asked
step-told : (value : Content → Result DataValue Status) (R : Content) (marks : List StepResult)
    → step (λ m. (unless_met (status_told m) (value R), R)) marks
    ≡ value_step (step status_told) value R marks
step-told value R [] = refl
step-told value R (mark ∷ marks) = refl

value-stays : (a b : Store) (value : Content → Result DataValue Status) (mark : StepResult)
    (x : Result DataValue Status) → CountsFaults a b (faults_of (mark ∷ [])) → KeepsContent a b
    → (IsThere a → IsThere b) → (b.honest → (R : Content) → IsLeft a R
    → x ≡ unless_met (status_told mark) (value R))
    → Refines a b (mark ∷ []) (value_step (step status_told) value) x
value-stays a b value mark x passes stays there so =
    acts-as a b (mark ∷ []) (λ R. step (λ m. (unless_met (status_told m) (value R), R)))
    (value_step (step status_told) value) x (step-told value)
    (acts-stays a b mark (λ R m. unless_met (status_told m) (value R)) x passes stays there so)

first-stored : (l : List Held) → stored (take 1 l) ≡ stored l
first-stored [] = refl
first-stored (h ∷ l) = refl

-- the latest value was found, and is told unless memory is wanting
pub value-found : {B : Type 0} (a b : Store) (node : NodeId) (items : B → List Held) (lives : B)
    (x : Result DataValue Status)
    → Asks a b (Ok lives) (λ v. items v
    ≡ take 1 (range_of a.content node first_time greatest_time Backward))
    → (x ≡ stored (items lives)) ⊎ (x ≡ Err BAD_OUT_OF_MEMORY)
    → (mark : StepResult) × Refines a b (mark ∷ []) (value_step (step status_told) (latest node)) x
value-found a b node items lives x p (inl told) = (
  Done,
  value-stays a b (latest node) Done x (passes-leaves a b None p.leaves) p.stays
      (there-behind a b None p.leaves) (λ honest R h.
      told
      ∙ (ap stored (p.answer honest)
      ∙ (first-stored (range_of a.content node first_time greatest_time Backward)
      ∙ ap (λ S. stored (range_of S node first_time greatest_time Backward))
      (left-before a b R p.leaves honest h)))),
)
value-found a b node items lives x p (inr starved) = (
  NoMemory,
  value-stays a b (latest node) NoMemory x (passes-leaves a b None p.leaves) p.stays
      (there-behind a b None p.leaves) (λ honest R h. starved),
)

-- the store met a fault
pub value-failed : {B : Type 0} (a b : Store) (node : NodeId) (P : B → Type 0) (fault : StoreFault)
    (x : Result DataValue Status) → Asks a b (Err fault) P → x ≡ Err (store_fault_status fault)
    → Refines a b (StoreFailed fault ∷ []) (value_step (step status_told) (latest node)) x
value-failed a b node P fault x p is =
    value-stays a b (latest node) (StoreFailed fault) x
    (passes-leaves a b (Some fault) p.leaves) p.stays (there-behind a b (Some fault) p.leaves)
    (λ honest R h. is)

-- ---- items

telling-fine : (answered : Result Answered Status) (later : List StepResult)
    → telling answered (Done ∷ later) ≡ (None, later)
telling-fine (Ok (Value value)) later = refl
telling-fine (Ok Archived) later = refl
telling-fine (Err status) later = refl

telling-starved : (answered : Result Answered Status) (later : List StepResult)
    → telling answered (NoMemory ∷ later) ≡ (Some BAD_OUT_OF_MEMORY, later)
telling-starved (Ok (Value value)) later = refl
telling-starved (Ok Archived) later = refl
telling-starved (Err status) later = refl

-- nothing came in the way of an item, and the archive isn't asked
item-here : (s : Store) (now : Ticks) (space : UserSpace) (item : ReadFields)
    (answered : Result Answered Status) (x : Result DataValue Status)
    → item_at space item ≡ answered → ((R : Content) → x ≡ (answered >>= value_of now item R))
    → Refines s s (Done ∷ []) (value_step (telling (item_at space item))
    (item_value now space item)) x
item-here s now space item answered x there is =
    value-here s (telling (item_at space item)) (item_value now space item) Done None x refl
    (telling-fine (item_at space item)) (λ R.
    is R ∙ sym (ap (λ (r : Result Answered Status). r >>= value_of now item R) there))

-- memory for it is wanting
item-starved : (s : Store) (now : Ticks) (space : UserSpace) (item : ReadFields)
    (x : Result DataValue Status) → x ≡ Err BAD_OUT_OF_MEMORY
    → Refines s s (NoMemory ∷ []) (value_step (telling (item_at space item))
    (item_value now space item)) x
item-starved s now space item x is =
    value-here s (telling (item_at space item)) (item_value now space item) NoMemory
    (Some BAD_OUT_OF_MEMORY) x refl (telling-starved (item_at space item)) (λ R. is)

item-at : (space : UserSpace) (item : ReadFields) (answered : Result Answered Status)
    → seen_attribute space item.0 item.1.0 ≡ answered
    → item_at space item ≡ (answered >>= λ answered.
    checked (value_rules item.1.1.0 item.1.1.1) >>= λ _. Ok answered)
item-at space item answered at = ap (λ (r : Result Answered Status). r >>= λ answered.
    checked (value_rules item.1.1.0 item.1.1.1) >>= λ _. Ok answered) at

-- an item whose node or attribute isn't there, or memory for it is wanting
pub item-refused : (s : Store) (now : Ticks) (space : UserSpace) (item : ReadFields) (status : Status)
    (x : Result DataValue Status) → IsOrStarved BAD_OUT_OF_MEMORY
    (seen_attribute space item.0 item.1.0) (Err status) → x ≡ Err status
    → (mark : StepResult) × Refines s s (mark ∷ [])
    (value_step (telling (item_at space item)) (item_value now space item)) x
item-refused s now space item status x told told_so =
    by (seen_attribute space item.0 item.1.0) refl told
  where
    by : (r : Result Answered Status) → seen_attribute space item.0 item.1.0 ≡ r
        → IsOrStarved BAD_OUT_OF_MEMORY r (Err status)
        → (mark : StepResult) × Refines s s (mark ∷ [])
        (value_step (telling (item_at space item)) (item_value now space item)) x
    by (Ok answered) there starved =
        (NoMemory, item-starved s now space item x (told_so ∙ ap Err starved))
    by (Err why) there same =
        let equal : status ≡ why = cc in (
          Done,
          item-here s now space item (Err why) x (item-at space item (Err why) there)
              (λ R. told_so ∙ ap Err equal),
        )

-- the attribute is there
pub item-there : (space : UserSpace) (item : ReadFields) (answered : Answered)
    → IsOrStarved BAD_OUT_OF_MEMORY (seen_attribute space item.0 item.1.0) (Ok answered)
    → seen_attribute space item.0 item.1.0 ≡ Ok answered
item-there space item answered told = by (seen_attribute space item.0 item.1.0) told
  where
    by : (r : Result Answered Status) → IsOrStarved BAD_OUT_OF_MEMORY r (Ok answered)
        → r ≡ Ok answered
    by (Ok other) same = ap Ok (sym same)
    by (Err why) same = absurd cc

-- the attribute, its range and its encoding are given
pub item-judged : (space : UserSpace) (item : ReadFields) (answered : Answered)
    (judged : Result (Unit {0}) Status) → seen_attribute space item.0 item.1.0 ≡ Ok answered
    → checked (value_rules item.1.1.0 item.1.1.1) ≡ judged
    → item_at space item ≡ (judged >>= λ _. Ok answered)
item-judged space item answered judged at is =
    item-at space item (Ok answered) at
    ∙ ap (λ (r : Result (Unit {0}) Status). r >>= λ _. Ok answered) is

-- a range or an encoding of it isn't given
pub item-unfit : (s : Store) (now : Ticks) (space : UserSpace) (item : ReadFields)
    (answered : Answered) (status : Status) (x : Result DataValue Status)
    → seen_attribute space item.0 item.1.0 ≡ Ok answered
    → checked (value_rules item.1.1.0 item.1.1.1) ≡ Err status → x ≡ Err status
    → Refines s s (Done ∷ []) (value_step (telling (item_at space item))
    (item_value now space item)) x
item-unfit s now space item answered status x at judged is =
    item-here s now space item (Err status) x (item-judged space item answered
    (Err status) at judged) (λ R. is)

-- the value of the attribute
pub item-valued : (s : Store) (now : Ticks) (space : UserSpace) (item : ReadFields)
    (answered : Answered) (x : Result DataValue Status)
    → seen_attribute space item.0 item.1.0 ≡ Ok answered
    → checked (value_rules item.1.1.0 item.1.1.1) ≡ Ok tt
    → ((R : Content) → x ≡ value_of now item R answered)
    → (mark : StepResult) × Refines s s (mark ∷ [])
    (value_step (telling (item_at space item)) (item_value now space item)) x
item-valued s now space item answered x at judged is = (
  Done,
  item-here s now space item (Ok answered) x
      (item-judged space item answered (Ok tt) at judged) is,
)

-- the archive gives it
pub item-archived : (a b : Store) (now : Ticks) (space : UserSpace) (item : ReadFields)
    (mark : StepResult) (x : Result DataValue Status)
    → seen_attribute space item.0 item.1.0 ≡ Ok Archived
    → checked (value_rules item.1.1.0 item.1.1.1) ≡ Ok tt
    → Refines a b (mark ∷ []) (value_step (step status_told) (latest item.0)) x
    → Refines a b (mark ∷ []) (value_step (telling (item_at space item))
    (item_value now space item)) x
item-archived a b now space item mark x at judged acts =
    acts-as a b (mark ∷ []) (value_step (step status_told) (latest item.0))
    (value_step (telling (item_at space item)) (item_value now space item)) x
    (λ R marks. ap (λ (r : Result Answered Status).
    value_step (telling r) (λ S. r >>= value_of now item S) R marks)
    (sym (item-judged space item Archived (Ok tt) at judged))) acts

-- what was found of an item whose value isn't given
pub found-refused : (s : Store) (now : Ticks) (space : UserSpace) (item : ReadFields)
    (status : Status) → FindsItem space item (Err status)
    → (mark : StepResult) × Refines s s (mark ∷ [])
    (value_step (telling (item_at space item)) (item_value now space item)) (Err status)
found-refused s now space item status (Err why, told, e) =
    let same : status ≡ why = cc in
    item-refused s now space item why (Err status) told (ap Err same)
found-refused s now space item status (Ok answered, told, e) =
    by (checked (value_rules item.1.1.0 item.1.1.1)) refl e
  where
    by : (judged : Result (Unit {0}) Status)
        → checked (value_rules item.1.1.0 item.1.1.1) ≡ judged
        → (let refused : Result Answered Status = Err status in refused)
        ≡ (judged >>= λ _. Ok answered)
        → (mark : StepResult) × Refines s s (mark ∷ [])
        (value_step (telling (item_at space item)) (item_value now space item)) (Err status)
    by (Err other) judged so = (
      Done,
      item-unfit s now space item answered other (Err status)
          (item-there space item answered told) judged (let same : status ≡ other = cc in
          ap Err same),
    )
    by (Ok done) judged so = absurd cc

-- what was found of one whose value is given
pub found-there : (space : UserSpace) (item : ReadFields) (answered : Answered)
    → FindsItem space item (Ok answered)
    → (seen_attribute space item.0 item.1.0 ≡ Ok answered)
    × (checked (value_rules item.1.1.0 item.1.1.1) ≡ Ok tt)
found-there space item answered (Err why, told, e) = absurd cc
found-there space item answered (Ok other, told, e) =
    by (checked (value_rules item.1.1.0 item.1.1.1)) refl e
  where
    by : (judged : Result (Unit {0}) Status)
        → checked (value_rules item.1.1.0 item.1.1.1) ≡ judged
        → (let found : Result Answered Status = Ok answered in found)
        ≡ (judged >>= λ _. Ok other)
        → (seen_attribute space item.0 item.1.0 ≡ Ok answered)
        × (checked (value_rules item.1.1.0 item.1.1.1) ≡ Ok tt)
    by (Err status) judged so = absurd cc
    by (Ok done) judged so =
        let same : answered ≡ other = cc in
        (item-there space item other told ∙ ap Ok (sym same), judged)

-- ---- what is told of them

abbrev pub told_step : TimestampsToReturn → Ticks → Fallible (Option Status)
    → (Content → Result DataValue Status) → Content → Fallible (DataValue × Content)
told_step stamps now told value R =
    and_then told (λ reason. give (item_told stamps now (unless_met reason (value R)), R))

pub item-told : (a b : Store) (stamps : TimestampsToReturn) (now : Ticks)
    (told : Fallible (Option Status)) (value : Content → Result DataValue Status)
    (mark : StepResult) (x : Result DataValue Status) (y : DataValue) → y ≡ item_told stamps now x
    → Refines a b (mark ∷ []) (value_step told value) x
    → Refines a b (mark ∷ []) (told_step stamps now told value) y
item-told a b stamps now told value mark x y is acts =
    moves-as a b (mark ∷ []) (λ marks R S. Yields (value_step told value R) marks (x, S))
    (λ marks R S. Yields (told_step stamps now told value R) marks (y, S))
    (λ ms R S does. record {
      does = λ later.
          ap (λ (r : (Result DataValue Status × Content) × List StepResult). let z :
          (DataValue × Content) × List StepResult =
          ((item_told stamps now r.0.0, r.0.1), r.1) in z) (does.does later)
          ∙ ap (λ (v : DataValue). let z : (DataValue × Content) × List StepResult =
          ((v, S), later) in z) (sym is);
    }) acts
