-- How many records a frame takes.
use Rattle.std.proofs.Common.{◌≡◌, ℕ, zero, suc, ◌+◌, ◌-◌, ◌*◌, ◌<◌, ◌≤◌, ◌^◌, min, ◌∷◌, [], List, get_or, take, length, refl, sym, ap, ◌∙◌, subst, arith, inl, inr}
use Rattle.std.specs.Prelude.{nat_lt}
use Rattle.std.proofs.lemmas.Bool.{cases_Bool}
use Rattle.std.proofs.lemmas.Bool.Decides.{nat_tests}
use Rattle.std.proofs.lemmas.List.{take_all, length-append}
use Rattle.ua_binary.specs.Format.{saturated}
use Rattle.stamp.specs.Numbers.{number_of, IsVector, entries}
use Rattle.stamp.proofs.NumbersParts.{entries_from}
use Rattle.stamp.specs.Vector.{vector, entry_above}
use Rattle.stamp.proofs.Putting.{entry_bytes, canon_vector}
use Rattle.records.specs.Records.{missing}
use Rattle.records.specs.Contents.{Content, vec}
use Rattle.records.specs.Spelling.{record_form}
use Rattle.records.specs.declared.record.Record.{Record}
use Rattle.records.specs.Lists.{Has}
use Rattle.records.specs.Contents.{IsClosed, AreCompatible, AreNextInTurn, merged}
use Rattle.records.specs.Spelling.{IsLawfulRecord, longest}
use Rattle.records.proofs.PartLemmas.{part_turn, turn_length}
use Rattle.records.proofs.LackLemmas.{missing_count, missing_first, missing_within, missing_some}
use Rattle.archive.specs.Store.{IsLawfulContent}
use Rattle.exchange.specs.Merging.{AreLearned}
use Rattle.exchange.proofs.MergeLemmas.{turn_learned}
use Rattle.exchange.specs.Batches.{most, longest_frame, records_length, frame_length, IsBatchFor}

-- ---- lengths

records_next : (xs : List Record) (i : ℕ) (d : Record) → i < length xs
    → records_length (take (suc i) xs)
    ≡ records_length (take i xs) + (4 + length (record_form.canon (get_or xs i d)))
records_next [] i d lt = absurd (omega (arith, lt))
records_next (x ∷ xs) zero d lt = omega arith
records_next (x ∷ xs) (suc i) d lt = let more = records_next xs i d (omega (arith, lt)) in
    omega (arith, more)

pub records_more : (xs : List Record) (i : ℕ) (d : Record) → i < length xs
    → records_length (take (i + 1) xs)
    ≡ records_length (take i xs) + (4 + length (record_form.canon (get_or xs i d)))
records_more xs i d lt = let one : i + 1 ≡ suc i = omega arith in
    ap (λ n. records_length (take n xs)) one ∙ records_next xs i d lt

pub records_grow : (xs : List Record) (j k : ℕ) → j ≤ k
    → records_length (take j xs) ≤ records_length (take k xs)
records_grow xs zero k h = omega arith
records_grow [] (suc j) zero h = omega (arith, h)
records_grow [] (suc j) (suc k) h = omega arith
records_grow (x ∷ xs) (suc j) zero h = omega (arith, h)
records_grow (x ∷ xs) (suc j) (suc k) h = let more = records_grow xs j k (omega (arith, h)) in
    omega (arith, more)

-- one more fits
pub fits_more : (xs : List Record) (i room left bytes size after : ℕ) (d r : Record)
    → left + records_length (take i xs) ≡ room → i < length xs → r ≡ get_or xs i d
    → bytes ≡ saturated (length (record_form.canon r)) → size ≡ min (bytes + 4) (2 ^ 64 - 1)
    → room ≤ longest_frame → size ≤ left → after ≡ left - size
    → after + records_length (take (i + 1) xs) ≡ room
fits_more xs i room left bytes size after d r so_far lt is b e small fits f =
    let more = records_more xs i d lt
    ∙ ap (λ x. records_length (take i xs) + (4 + length (record_form.canon x))) (sym is) in
    omega (arith, more, so_far, b, e, small, fits, f)

-- one more doesn't
pub full : (xs : List Record) (i room left bytes size : ℕ) (d r : Record)
    → left + records_length (take i xs) ≡ room → i < length xs → r ≡ get_or xs i d
    → bytes ≡ saturated (length (record_form.canon r)) → size ≡ min (bytes + 4) (2 ^ 64 - 1)
    → room ≤ longest_frame → left < size → (k : ℕ) → k ≤ length xs
    → records_length (take k xs) ≤ room → k ≤ i
full xs i room left bytes size d r so_far lt is b e small above k within fits =
    elim (cases_Bool (nat_lt i k)) [
      | inl t ↦
          let more = records_more xs i d lt
          ∙ ap (λ x. records_length (take i xs) + (4 + length (record_form.canon x))) (sym is) in
          let past : i < k = grind (arith, nat_tests) in
          let grown = records_grow xs (i + 1) k (omega (arith, past)) in
          absurd (omega (arith, more, so_far, b, e, small, above, grown, fits))
      | inr f ↦ grind (arith, nat_tests)
    ]

-- the bytes of a vector

entries_short : (first : ℕ) (ns : List ℕ) → length (entries_from first ns) ≤ length ns
entries_short first [] = omega arith
entries_short first (n ∷ ns) =
    let rest = entries_short (first + 1) ns in
    elim (cases_Bool (nat_lt 0 n)) [
      | inl t ↦ rw t (omega (arith, rest))
      | inr f ↦ rw f (omega (arith, rest))
    ]

entry_length : (e : ℕ × ℕ) → length ((entry_above 0).canon e) ≡ 9
unfolding Rattle.ua_binary.specs.Binary.unsigned
entry_length e = refl

bytes_length : (es : List (ℕ × ℕ)) → length (entry_bytes es) ≡ 9 * length es
bytes_length [] = refl
bytes_length (e ∷ es) = omega (
  arith,
  length-append ((entry_above 0).canon e) (entry_bytes es),
  entry_length e,
  bytes_length es,
)

pub vector_short : (numbers : List ℕ) → IsVector numbers → length (vector.canon numbers) ≤ 577
vector_short numbers is = omega (
  arith,
  ap length (canon_vector numbers),
  bytes_length (entries numbers),
  entries_short 1 numbers,
  is.whole,
)

-- ---- the batch

pub batch_for : (R : Content) (v : ℕ → ℕ) (own : List ℕ) (xs batch : List Record) (n room : ℕ)
    → IsVector own → ((replica : ℕ) → number_of own replica ≡ vec R replica) → xs ≡ missing R v most
    → batch ≡ take n xs → n ≤ length xs → room ≡ longest_frame - (30 + length (vector.canon own))
    → records_length (take n xs) ≤ room
    → ((k : ℕ) → k ≤ length xs → records_length (take k xs) ≤ room → k ≤ n) → IsBatchFor R v batch
batch_for R v own xs batch n room is told all e within f fits greatest =
    elim (cases_Bool (nat_lt n (length xs))) [
      | inl t ↦ record {
        own = own;
        vector = is;
        told = told;
        count = n;
        few = omega (arith, few, within);
        first = e ∙ (ap (take n) all ∙ sym (missing_first R v n most (omega (arith, few, within))));
        short = short;
        greatest = λ k few' h. bound (grind (arith, nat_tests)) k few' h;
      }
      | inr g ↦ record {
        own = own;
        vector = is;
        told = told;
        count = most;
        few = omega arith;
        first = e ∙ (take_all n xs (grind (arith, nat_tests)) ∙ all);
        short = short;
        greatest = λ k few' h. few';
      }
    ]
  where
    few : length xs ≤ most
    few = omega (arith, ap length all, missing_count R v most)

    short : frame_length own batch ≤ longest_frame
    short = omega (arith, ap records_length e, f, fits, vector_short own is)

    bound : n < length xs → (k : ℕ) → k ≤ most → frame_length own (missing R v k) ≤ longest_frame
        → k ≤ n
    bound below k few' h =
        let first : missing R v k ≡ take k xs =
        missing_first R v k most few' ∙ ap (take k) (sym all) in
        elim (cases_Bool (nat_lt (length xs) k)) [
          | inl t ↦
              let past : length xs < k = grind (arith, nat_tests) in
              let whole : take k xs ≡ take (length xs) xs =
              take_all k xs (omega (arith, past))
              ∙ sym (take_all (length xs) xs (omega arith)) in
              absurd (omega (
                arith,
                below,
                greatest (length xs) (omega arith)
                    (omega (
                      arith,
                      ap records_length first,
                      ap records_length whole,
                      f,
                      h,
                      vector_short own is,
                    )),
              ))
          | inr g ↦ greatest k (grind (arith, nat_tests))
              (omega (arith, ap records_length first, f, h, vector_short own is))
        ]

-- ---- laws

record_bytes : (r : Record) → IsLawfulRecord r → length (record_form.canon r) ≤ longest
unfolding record_form
record_bytes r is = is.size

-- one record always fits
pub some_fits : (R : Content) (v : ℕ → ℕ) (batch : List Record) (r : Record) → IsLawfulContent R
    → IsBatchFor R v batch → Has R r → v r.origin < r.number → 0 < length batch
some_fits R v batch r lawful is has beyond =
    let one : length (missing R v 1) ≤ 1 = omega (arith, missing_count R v 1) in
    let short : records_length (missing R v 1) ≤ 4 + longest =
    first_bytes (missing R v 1) one (λ x h.
    record_bytes x (lawful.records x (missing_within R v 1 x h).0)) in
    let some : 1 ≤ is.count = is.greatest 1 (omega arith)
    (omega (arith, short, vector_short is.own is.vector)) in
    let there : 0 < length (missing R v is.count) =
    missing_some R v is.count r (omega (arith, some)) has beyond in
    omega (arith, there, ap length is.first)
  where
    first_bytes : (xs : List Record) → length xs ≤ 1
        → ((x : Record) → Has xs x → length (record_form.canon x) ≤ longest)
        → records_length xs ≤ 4 + longest
    first_bytes [] h all = omega arith
    first_bytes (x ∷ []) h all = let bytes = all x (inl refl) in omega (arith, bytes)
    first_bytes (x ∷ y ∷ xs) h all = absurd (omega (arith, h))

whole : (R S : Content) (batch : List Record) → IsBatchFor S (vec R) batch
    → (k : ℕ) × (batch ≡ take k (missing S (vec R) most))
whole R S batch is = (is.count, is.first ∙ missing_first S (vec R) is.count most is.few)

pub turn : (R S : Content) (batch : List Record) → IsClosed R → IsClosed S → AreCompatible R S
    → IsBatchFor S (vec R) batch → AreNextInTurn R batch
turn R S batch closed closed' same is = let w = whole R S batch is in
    subst (AreNextInTurn R) (sym w.1) (part_turn R S most w.0 closed closed' same)

pub batch_learned : (R S : Content) (batch : List Record) → IsClosed R → IsClosed S
    → AreCompatible R S → IsBatchFor S (vec R) batch → AreLearned R batch
batch_learned R S batch closed closed' same is =
    turn_learned batch R (turn R S batch closed closed' same is)

pub batch_added : (R S : Content) (batch : List Record) → IsClosed R → IsClosed S
    → AreCompatible R S → IsBatchFor S (vec R) batch
    → length (merged batch R) ≡ length R + length batch
batch_added R S batch closed closed' same is =
    turn_length batch R (turn R S batch closed closed' same is)
