-- Records that are asked for a few at a time are those that are asked for at once.
use Rattle.std.proofs.Common.{◌≡◌, ◌≢◌, ℕ, ◌+◌, ◌-◌, ◌<◌, ◌≤◌, ◌^◌, min, max, Bool, false, List, [], ◌∷◌, ◌++◌, filter, take, drop, length, get_or, refl, sym, ap, ◌∙◌, subst, arith, inl, inr, ◌⊎◌, Less, append_assoc, append-nil, Ok, Err}
use Rattle.std.specs.Prelude.{nat_lt, ⊤, Result}
use Rattle.std.proofs.lemmas.Bool.{lt-ltb, ltb-true, cases_eq, cases_Bool, eq-eqb}
use Rattle.std.proofs.lemmas.Bool.Decides.{nat_tests}
use Rattle.std.proofs.lemmas.List.{take_all, take_more, take-append-drop, length-append}
use Rattle.std.proofs.Math.Seq.{take-append-add}
use Rattle.ua_binary.specs.Format.{saturated}
use Rattle.stamp.specs.Limits.{greatest}
use Rattle.records.specs.declared.record.Record.{Record}
use Rattle.records.specs.Lists.{Has, Rises}
use Rattle.records.specs.Records.{name_cmp, missing, is_beyond}
use Rattle.stamp.specs.Numbers.{number_of, IsVector}
use Rattle.stamp.specs.Vector.{vector}
use Rattle.records.specs.Contents.{Content, vec}
use Rattle.records.specs.Spelling.{record_form}
use Rattle.records.proofs.Sorting.{all-has, has-filter, has_from_filter, pairwise-filter, same_members}
use Rattle.records.proofs.Orders.{name_total}
use Rattle.records.proofs.MissingLemmas.{missing_is, name_less}
use Rattle.records.proofs.LackLemmas.{missing_count, missing_first}
use Rattle.archive.specs.Store.{Store, IsLawfulContent, Asks}
use Rattle.archive.proofs.Calls.{asks-then, asks-failed, asks-second}
use Rattle.exchange.specs.declared.fault.ExchangeFault.{ExchangeFault}
use Rattle.exchange.specs.declared.fault.ExchangeFault.TheVariants as exchange
use Rattle.exchange.proofs.BatchLemmas.{records_more, records_grow, vector_short, batch_for}
use Rattle.exchange.specs.Batches.{most, longest_frame, records_length, frame_length, number_with, numbers_with, Gathers, FillsFrame, IsBatchFor, AsksFor}

-- ---- numbers

pub numbers-append : (v : ℕ → ℕ) (rs : List Record) (r : Record)
    → numbers_with v (rs ++ (r ∷ [])) ≡ number_with (numbers_with v rs) r
numbers-append v [] r = refl
numbers-append v (x ∷ rs) r = numbers-append (number_with v x) rs r

-- behind the first of the records that numbers lack, those with it lack the rest
module _ (S : Content) (v : ℕ → ℕ) (x : Record) (xs : List Record) (up : Rises name_cmp S)
    (short : (r : Record) → Has S r → r.number ≤ greatest)
    (is : x ∷ xs ≡ filter (is_beyond v) S) where
  abbrev w : ℕ → ℕ
  w = number_with v x

  rises : Rises name_cmp (x ∷ xs)
  rises = subst (Rises name_cmp) (sym is) (pairwise-filter _ (is_beyond v) S up)

  in_beyond : (z : Record) → Has (x ∷ xs) z → Has S z × (v z.origin < z.number)
  in_beyond z h = let k = has_from_filter (is_beyond v) S z (subst (λ l. Has l z) is h) in
      (k.0, ltb-true _ _ k.1)

  beyond_in : (z : Record) → Has S z → v z.origin < z.number → Has (x ∷ xs) z
  beyond_in z h lt = subst (λ l. Has l z) (sym is)
      (has-filter (is_beyond v) S z h (lt-ltb _ _ lt))

  here : w x.origin ≡ x.number
  here = let first = in_beyond x (inl refl) in
      rw (eq-eqb x.origin x.origin refl) (omega (arith, first.1, short x first.0))

  elsewhere : (o : ℕ) → o ≢ x.origin → w o ≡ v o
  elsewhere o other = grind (arith, nat_tests)

  grown : (o : ℕ) → v o ≤ w o
  grown o = grind (arith, nat_tests)

  further : (z : Record) → Has xs z → w z.origin < z.number
  further z h = elim (cases_eq z.origin x.origin) [
    | inl e ↦
        let lt = name_less x z (all-has (λ y. name_cmp x y ≡ Less) xs z rises.0 h) (sym e) in
        let same = ap w e in
        omega (arith, lt, same, here)
    | inr other ↦ let far = in_beyond z (inr h) in omega (arith, far.1, elsewhere z.origin other)
  ]

  pub beyond_rest : xs ≡ filter (is_beyond (number_with v x)) S
  beyond_rest =
      same_members name_cmp name_total _ _ rises.1 (pairwise-filter _ (is_beyond w) S up)
      (λ z h. has-filter (is_beyond w) S z (in_beyond z (inr h)).0 (lt-ltb _ _ (further z h)))
      (λ z h.
      let k = has_from_filter (is_beyond w) S z h in
      let far = ltb-true _ _ k.1 in
      elim (beyond_in z k.0 (omega (arith, grown z.origin, far))) [
        | inl e ↦
            let there : w z.origin ≡ z.number =
            subst (λ (r : Record). w r.origin ≡ r.number) e here in
            absurd (omega (arith, far, there))
        | inr m ↦ m
      ])

-- behind a first part of them, those with the part lack the rest
beyond_part : (S : Content) (part rest : List Record) (v : ℕ → ℕ) → Rises name_cmp S
    → ((r : Record) → Has S r → r.number ≤ greatest) → part ++ rest ≡ filter (is_beyond v) S
    → rest ≡ filter (is_beyond (numbers_with v part)) S
beyond_part S [] rest v up short is = is
beyond_part S (x ∷ part) rest v up short is =
    beyond_part S part rest (number_with v x) up short (beyond_rest S v x (part ++ rest) up short is)

-- ---- portions

-- a portion, and what comes behind it
pub next_portion : (R : Content) (v : ℕ → ℕ) (m k : ℕ) → IsLawfulContent R
    → missing R v (length (missing R v m) + k)
    ≡ missing R v m ++ missing R (numbers_with v (missing R v m)) k
next_portion R v m k lawful =
    let up = lawful.closed.ordered in
    let short : (r : Record) → Has R r → r.number ≤ greatest =
    λ r h. (lawful.records r h).number.1 in
    let L = filter (is_beyond v) R in
    let P = missing R v m in
    let is : P ≡ take m L = missing_is R v m up in
    let whole : P ++ drop m L ≡ L = ap (λ l. l ++ drop m L) is ∙ take-append-drop m L in
    let rest : drop m L ≡ filter (is_beyond (numbers_with v P)) R =
    beyond_part R P (drop m L) v up short whole in
    missing_is R v (length P + k) up
    ∙ (ap (take (length P + k)) (sym whole)
    ∙ (take-append-add P (drop m L) k
    ∙ ap (λ l. P ++ l)
    (ap (take k) rest ∙ sym (missing_is R (numbers_with v P) k up))))

-- one that isn't full is the last
last_portion : (R : Content) (v : ℕ → ℕ) (m k : ℕ) → length (missing R v m) < m → m ≤ k
    → missing R v k ≡ missing R v m
last_portion R v m k few le =
    let all = missing_count R v k in
    let count = missing_count R v m in
    let shorter : length (missing R v k) ≤ m = omega (arith, all, count, few, le) in
    sym (missing_first R v m k le ∙ take_all m (missing R v k) shorter)

-- ---- what is gathered

-- a portion more
pub gathers_more : (R : Content) (v known : ℕ → ℕ) (m : ℕ) (old : List Record)
    → IsLawfulContent R → Gathers R v known old
    → Gathers R v (numbers_with known (missing R known m)) (old ++ missing R known m)
gathers_more R v known m old lawful gathered k =
    let P = missing R known m in
    let sum = length-append old P in
    let count : length (old ++ P) + k ≡ length old + (length P + k) = omega (arith, sum) in
    ap (missing R v) count
    ∙ (gathered (length P + k)
    ∙ (ap (λ l. old ++ l) (next_portion R known m k lawful)
    ∙ sym (append_assoc old P (missing R (numbers_with known P) k))))

-- they are a first part of what is lacked
gathered_first : (R : Content) (v known : ℕ → ℕ) (records : List Record)
    → Gathers R v known records → records ≡ missing R v (length records)
gathered_first R v known records gathered =
    let none : length records + 0 ≡ length records = omega arith in
    sym (sym (ap (missing R v) none) ∙ (gathered 0 ∙ append-nil records))

-- as many as a batch has
pub fills_many : (R : Content) (v known : ℕ → ℕ) (records : List Record)
    → Gathers R v known records → length records ≡ most → FillsFrame R v records
fills_many R v known records gathered many =
    inl (gathered_first R v known records gathered ∙ ap (missing R v) many)

-- more than a frame takes
pub fills_long : (R : Content) (v known : ℕ → ℕ) (records : List Record) (size : ℕ)
    → Gathers R v known records → size ≡ saturated (records_length records)
    → longest_frame < size → FillsFrame R v records
fills_long R v known records size gathered is long =
    inr (gathered_first R v known records gathered, omega (arith, is, long))

-- all that there are
pub fills_last : (R : Content) (v known : ℕ → ℕ) (m : ℕ) (old : List Record)
    → Gathers R v known old → length (missing R known m) < m → length old + m ≤ most
    → FillsFrame R v (old ++ missing R known m)
fills_last R v known m old gathered few within =
    let rest : length old + (most - length old) ≡ most = omega (arith, within) in
    let m' : m ≤ most - length old = omega (arith, within) in
    inl (sym (sym (ap (missing R v) rest)
    ∙ (gathered (most - length old)
    ∙ ap (λ l. old ++ l) (last_portion R known m (most - length old) few m'))))

-- ---- sizes

pub records_length-append : (xs ys : List Record)
    → records_length (xs ++ ys) ≡ records_length xs + records_length ys
records_length-append [] ys = omega arith
records_length-append (x ∷ xs) ys =
    let more = records_length-append xs ys in omega (arith, more)

-- one record more
pub size_more : (rs : List Record) (i size bytes one after : ℕ) (d r : Record) → i < length rs
    → r ≡ get_or rs i d → size ≡ saturated (records_length (take i rs))
    → bytes ≡ saturated (length (record_form.canon r)) → one ≡ min (bytes + 4) (2 ^ 64 - 1)
    → after ≡ min (size + one) (2 ^ 64 - 1)
    → after ≡ saturated (records_length (take (i + 1) rs))
size_more rs i size bytes one after d r within is so_far b o e =
    let more = records_more rs i d within
    ∙ ap (λ x. records_length (take i rs) + (4 + length (record_form.canon x))) (sym is) in
    omega (arith, more, so_far, b, o, e)

-- a portion more
pub size_append : (xs ys : List Record) (size more after : ℕ)
    → size ≡ saturated (records_length xs) → more ≡ saturated (records_length ys)
    → after ≡ min (size + more) (2 ^ 64 - 1) → after ≡ saturated (records_length (xs ++ ys))
size_append xs ys size more after s m e =
    let sum = records_length-append xs ys in omega (arith, sum, s, m, e)

-- a vector is raised to one record more
pub raised_more : (old now new : ℕ → ℕ) (rs : List Record) (i number : ℕ) (d r : Record)
    → i < length rs → r ≡ get_or rs i d → number ≡ min r.number greatest
    → ((o : ℕ) → now o ≡ numbers_with old (take i rs) o)
    → new r.origin ≡ max (now r.origin) number → ((o : ℕ) → o ≢ r.origin → new o ≡ now o)
    → (o : ℕ) → new o ≡ numbers_with old (take (i + 1) rs) o
raised_more old now new rs i number d r within is n so_far here there o =
    let more : take (i + 1) rs ≡ take i rs ++ (r ∷ []) =
    take_more rs i d within ∙ ap (λ x. take i rs ++ (x ∷ [])) (sym is) in
    let known = so_far o in
    go (cases_eq o r.origin)
    ∙ ap (λ f. f o) (sym (ap (numbers_with old) more ∙ numbers-append old (take i rs) r))
  where
    go : (o ≡ r.origin) ⊎ (o ≢ r.origin) → new o ≡ number_with (numbers_with old (take i rs)) r o
    go (inl e) = let known = so_far r.origin in
        subst (λ p. new p ≡ number_with (numbers_with old (take i rs)) r p) (sym e)
        (rw (eq-eqb r.origin r.origin refl) (omega (arith, here, known, n)))
    go (inr other) = let known = so_far o in
        let same = there o other in grind (arith, nat_tests)

-- ---- the batch

-- of those that fill a frame, as many as it takes are the batch
pub batch_front : (R : Content) (v : ℕ → ℕ) (own : List ℕ) (xs batch : List Record) (n room : ℕ)
    → IsVector own → ((replica : ℕ) → number_of own replica ≡ vec R replica) → FillsFrame R v xs
    → length xs ≤ most → batch ≡ take n xs → n ≤ length xs
    → room ≡ longest_frame - (30 + length (vector.canon own))
    → records_length (take n xs) ≤ room
    → ((k : ℕ) → k ≤ length xs → records_length (take k xs) ≤ room → k ≤ n) → IsBatchFor R v batch
batch_front R v own xs batch n room is told (inl whole) few e within f fits greatest =
    batch_for R v own xs batch n room is told whole e within f fits greatest
batch_front R v own xs batch n room is told (inr (first, long)) few e within f fits greatest =
    record {
      own = own;
      vector = is;
      told = told;
      count = n;
      few = omega (arith, few, within);
      first = e ∙ (ap (take n) first ∙ sym (missing_first R v n (length xs) within));
      short = omega (arith, ap records_length e, f, fits, vector_short own is);
      greatest = bound;
    }
  where
    bound : (k : ℕ) → k ≤ most → frame_length own (missing R v k) ≤ longest_frame → k ≤ n
    bound k few' h = elim (cases_Bool (nat_lt (length xs) k)) [
      | inl t ↦
          let past : length xs < k = grind (arith, nat_tests) in
          let M = missing R v k in
          let count = missing_count R v k in
          let front : xs ≡ take (length xs) M =
          first ∙ missing_first R v (length xs) k (omega (arith, past)) in
          let all : take k M ≡ M = take_all k M (omega (arith, count)) in
          let grown = records_grow M (length xs) k (omega (arith, past)) in
          absurd (omega (
            arith,
            long,
            ap records_length front,
            ap records_length all,
            grown,
            h,
          ))
      | inr g ↦
          let le : k ≤ length xs = grind (arith, nat_tests) in
          let part : missing R v k ≡ take k xs =
          missing_first R v k (length xs) le ∙ ap (take k) (sym first) in
          greatest k le (omega (arith, ap records_length part, f, h, vector_short own is))
    ]

-- ---- the calls

-- what the archive answered is a portion more
pub portion_told : (R : Content) (v known raised : ℕ → ℕ) (m : ℕ)
    (old new answer part : List Record) (size : ℕ) (more : Bool) → IsLawfulContent R
    → answer ≡ missing R known m → part ≡ take m answer → new ≡ old ++ part
    → ((o : ℕ) → raised o ≡ numbers_with known part o) → length old + m ≤ most
    → length new ≤ most → size ≡ saturated (records_length new)
    → (more ≡ false
    → (length part < m) ⊎ ((most ≤ length new) ⊎ (longest_frame < size)))
    → Gathers R v known old → Gathers R v raised new × (more ≡ false → FillsFrame R v new)
portion_told R v known raised m old new answer part size more lawful told cut grown known'
    within few sized ends gathered = (gathers, λ e. fills (ends e))
  where
    P : List Record
    P = missing R known m

    is : part ≡ missing R known m
    is = let count = missing_count R known m in
        let short : length (missing R known m) ≤ m = omega (arith, count) in
        cut ∙ (ap (take m) told ∙ take_all m (missing R known m) short)

    same : new ≡ old ++ missing R known m
    same = grown ∙ ap (λ l. old ++ l) is

    numbers : raised ≡ numbers_with known (missing R known m)
    numbers = let each : raised ≡ numbers_with known part = λ i o. known' o i in
        each ∙ ap (numbers_with known) is

    gathers : Gathers R v raised new
    gathers = subst (λ (f : ℕ → ℕ). Gathers R v f new) (sym numbers)
        (subst (λ (l : List Record). Gathers R v (numbers_with known (missing R known m)) l)
        (sym same) (gathers_more R v known m old lawful gathered))

    fills : (length part < m) ⊎ ((most ≤ length new) ⊎ (longest_frame < size))
        → FillsFrame R v new
    fills (inl last) = subst (FillsFrame R v) (sym same)
        (fills_last R v known m old gathered (omega (arith, last, ap length is)) within)
    fills (inr (inl many)) = fills_many R v raised new gathers (omega (arith, many, few))
    fills (inr (inr long)) = fills_long R v raised new size gathers sized long

-- before the first portion nothing is gathered
pub gathers_none : (R : Content) (v : ℕ → ℕ) (records : List Record) → records ≡ []
    → Gathers R v v records
gathers_none R v records none = subst (Gathers R v v) (sym none) (λ k. ap (missing R v) (omega arith))

-- ---- one call behind another

-- the second is answered, over the content before both
pub asks_for_then : {A B : Type 0} (a b d : Store) (x : A) (r : Result B ExchangeFault)
    (P : A → Type 0) (Q S : B → Type 0) → Asks a b (Ok x) P → AsksFor b d r Q
    → (d.honest → b.content ≡ a.content → P x → (y : B) → Q y → S y) → AsksFor a d r S
asks_for_then a b d x (Ok y) P Q S p q go =
    asks-then a b d x (Ok y) P Q S p q (λ h same px qy. go h same px y qy)
asks_for_then a b d x (Err (exchange.Store met)) P Q S p q go =
    asks-second a b d x met P Q S p q
asks_for_then a b d x (Err exchange.OutOfMemory) P Q S p q go =
    asks-then a b d x (Ok tt) P (λ _. ⊤) (λ _. ⊤) p q (λ h same px qy. tt)
asks_for_then a b d x (Err exchange.Frame) P Q S p q go = absurd q
asks_for_then a b d x (Err exchange.WrongArchive) P Q S p q go = absurd q
asks_for_then a b d x (Err (exchange.Learn learned cause)) P Q S p q go = absurd q
asks_for_then a b d x (Err exchange.SelfPeer) P Q S p q go = absurd q
asks_for_then a b d x (Err exchange.TooLong) P Q S p q go = absurd q
asks_for_then a b d x (Err exchange.PeerFormat) P Q S p q go = absurd q
asks_for_then a b d x (Err exchange.AheadOfClock) P Q S p q go = absurd q
asks_for_then a b d x (Err exchange.NotAdmitted) P Q S p q go = absurd q
asks_for_then a b d x (Err exchange.GivenTwice) P Q S p q go = absurd q

-- a fault is the same, whatever was asked for
pub asks_for_failed : {A B : Type 0} (a b : Store) (fault : ExchangeFault) (P : A → Type 0)
    (Q : B → Type 0) → AsksFor {A = A} a b (Err fault) P → AsksFor {A = B} a b (Err fault) Q
asks_for_failed a b (exchange.Store met) P Q p = asks-failed a b met P Q p
asks_for_failed a b exchange.OutOfMemory P Q p = p
asks_for_failed a b exchange.Frame P Q p = absurd p
asks_for_failed a b exchange.WrongArchive P Q p = absurd p
asks_for_failed a b (exchange.Learn learned cause) P Q p = absurd p
asks_for_failed a b exchange.SelfPeer P Q p = absurd p
asks_for_failed a b exchange.TooLong P Q p = absurd p
asks_for_failed a b exchange.PeerFormat P Q p = absurd p
asks_for_failed a b exchange.AheadOfClock P Q p = absurd p
asks_for_failed a b exchange.NotAdmitted P Q p = absurd p
asks_for_failed a b exchange.GivenTwice P Q p = absurd p
