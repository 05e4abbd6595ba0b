-- Chains of pages show whole reads.
use Rattle.std.proofs.Common.{◌≡◌, ℕ, ◌<◌, ◌^◌, ◌==◌, nat_lt, ℤ, ◌≤ℤ◌, int_lt, Bool, true, false, cond, ◌&&◌, ◌||◌, not, List, [], ◌∷◌, ◌++◌, filter, Option, Some, None, Result, Ok, Err, refl, sym, ap, ◌∙◌, subst, arith, append-nil}
use Rattle.std.specs.Ordering.{int_eq}
use Rattle.std.specs.Result.{result_ok}
use Rattle.std.specs.Int.{w64}
use Rattle.std.specs.Int.RustNames.{FitsSigned}
use Rattle.std.proofs.lemmas.Bool.Decides.{nat_tests}
use Rattle.std.proofs.lemmas.Bool.{and_parts, true≢false}
use Rattle.std.proofs.lemmas.Int.{ints}
use Rattle.stamp.specs.Numbers.{number_of, IsVector}
use Rattle.ua_binary.specs.declared.values.NodeId.{NodeId}
use Rattle.ua_binary.specs.declared.codes.Status.{Status}
use Rattle.ua_binary.specs.declared.codes.TheConstants.Status.{BAD_INVALID_ARGUMENT, BAD_HISTORY_OPERATION_INVALID, BAD_CONTINUATION_POINT_INVALID}
use Rattle.ua_binary.specs.declared.fault.BinaryFault.TheVariants.{BadEncodingByte}
use Rattle.ua_binary.proofs.Spelled.{whole_only}
use Rattle.ua_services.specs.declared.history.ReadRawModifiedDetails.{ReadRawModifiedDetails as Details}
use Rattle.ua_services.specs.declared.history.HistoryReadResult.{HistoryReadResult}
use Rattle.records.specs.Contents.{Content, numbers_of, cut}
use Rattle.records.specs.Moments.{moment, ticks_of, whole_again, pico_within}
use Rattle.records.specs.declared.shown.Held.{Held}
use Rattle.records.proofs.CutLemmas.{cut_same}
use Rattle.records.proofs.Sorting.{has_from_filter}
use Rattle.archive.specs.Reading.{is_past, is_between}
use Rattle.archive.specs.Store.{Done, IsLawfulContent}
use Rattle.archive.specs.declared.reading.Direction.{Direction}
use Rattle.archive.specs.declared.reading.Direction.TheVariants.{Forward, Backward}
use Rattle.archive.proofs.Vectors.{numbers_are, numbers_vector}
use Rattle.hist_read.specs.declared.query.Query.{Query}
use Rattle.hist_read.specs.declared.item.Item.{Item}
use Rattle.hist_read.specs.declared.point.Position.{Position}
use Rattle.hist_read.specs.Asking.{is_given, has_both, origin_time, direction}
use Rattle.hist_read.specs.Point.{Point, point, IsDetails, IsPosition, IsPoint, IsNext, suits}
use Rattle.hist_read.specs.PointReading.{is_given_for, is_phase_for, is_stamp_for}
use Rattle.hist_read.specs.Reads.{greatest_time, in_body, in_body_of, is_from, last_within, values_inside, near, far, value_items, last_time, is_past_any, raw, modified}
use Rattle.hist_read.proofs.ReadsParts.{lives_in}
use Rattle.hist_read.specs.Node.{Behind, is_enough, checked_read, resume_place, point_at, page_result, page_from, refused_read}
use Rattle.hist_read.proofs.NodeParts.{read_from, covers}
use Rattle.hist_read.specs.Wholes.{behind_origin, with_far, whole_raw, whole_modified}
use Rattle.hist_read.specs.Chains.{Page, IsRead, IsLater, IsAsked}
use Rattle.hist_read.proofs.Lawful.{point_lawful}
use Rattle.hist_read.proofs.Agreeing.{place_told, told_agreed}
use Rattle.hist_read.proofs.Filters.{filter_all, filter_same}
use Rattle.hist_read.proofs.Cutting.{vectors_above, cut_own}

-- ---- the whole, by near bound, body and far bound

from_is_past : (d : Direction) (o t : ℤ) → is_from d o t ≡ true → is_past d o t ≡ not (int_eq t o)
from_is_past Forward o t e = grind (arith, ints, nat_tests, e)
from_is_past Backward o t e = grind (arith, ints, nat_tests, e)

between_from : (o l t : ℤ) → is_between o l t ≡ true → is_from Forward o t ≡ true
between_from o l t e = grind (arith, ints, nat_tests, e)

-- a time of the body is at the origin or beyond it
body_from : (q : Details) (t : ℤ) → in_body q t ≡ true
    → is_from (direction q) (origin_time q) t ≡ true
body_from q t e = go (has_both q) refl e
  where
    forward : has_both q ≡ true → int_eq (origin_time q) (moment q.end_time.0 0) ≡ true
        → direction q ≡ Forward
    forward both same =
        let parts = and_parts (is_given q.start_time.0) (is_given q.end_time.0) both in
        let start : int_eq (moment q.start_time.0 0) (moment q.end_time.0 0) ≡ true =
        subst (λ b. int_eq (moment (cond b q.start_time.0 q.end_time.0) 0)
        (moment q.end_time.0 0) ≡ true) parts.0 same in
        let late : int_lt q.end_time.0 q.start_time.0 ≡ false =
        grind (arith, ints, nat_tests, start) in
        ap (λ b. cond (b && not (is_given q.end_time.0 && int_lt q.end_time.0 q.start_time.0))
        Forward Backward) parts.0
        ∙ (ap (λ b. cond (not (b && int_lt q.end_time.0 q.start_time.0)) Forward Backward) parts.1
        ∙ ap (λ b. cond (not b) Forward Backward) late)

    go : (b : Bool) → has_both q ≡ b
        → in_body_of (direction q) (origin_time q) (cond b (Some (moment q.end_time.0 0)) None) t
        ≡ true → is_from (direction q) (origin_time q) t ≡ true
    go false f e = e
    go true f e = at (int_eq (origin_time q) (moment q.end_time.0 0)) refl e
      where
        at : (c : Bool) → int_eq (origin_time q) (moment q.end_time.0 0) ≡ c
            → cond c (is_between (origin_time q) (last_within (origin_time q)) t)
            (is_from (direction q) (origin_time q) t
            && is_past (direction q) t (moment q.end_time.0 0)) ≡ true
            → is_from (direction q) (origin_time q) t ≡ true
        at true same e = subst (λ d. is_from d (origin_time q) t ≡ true) (sym (forward f same))
            (between_from (origin_time q) (last_within (origin_time q)) t e)
        at false same e = (and_parts (is_from (direction q) (origin_time q) t)
            (is_past (direction q) t (moment q.end_time.0 0)) e).0

module _ (R : Content) (node : NodeId) (q : Details) where
  abbrev past_origin : List Held
  past_origin = filter (λ h. is_past (direction q) (origin_time q) h.time) (values_inside R node q)

  past_is : past_origin ≡ behind_origin R node q
  past_is = filter_same (λ h. is_past (direction q) (origin_time q) h.time)
      (λ h. not (int_eq h.time (origin_time q))) (values_inside R node q)
      (λ h k. from_is_past (direction q) (origin_time q) h.time
      (body_from q h.time (has_from_filter (λ (x : Held). in_body q x.time)
      (lives_in R node q) h k).1))

  -- both, by whether bounds are asked for, and whether the count is 1
  abbrev front : (b c : Bool) → List Item
  front b c = cond b (near R node q ∷ []) []
      ++ value_items (cond (b && c) [] (filter
      (λ h. is_past_any (direction q) (cond b (Some (origin_time q)) None) h.time)
      (values_inside R node q)))

  abbrev raw_by : (b c : Bool) → List Item
  raw_by b c = front b c ++ cond (b && not (b && c))
      (far R node q (last_time (origin_time q) (front b c)) ∷ []) []

  abbrev whole_by : (b c : Bool) → List Item
  whole_by b c = cond (not b) (value_items (values_inside R node q))
      (cond c (near R node q ∷ []) (with_far R node q
      (near R node q ∷ value_items (behind_origin R node q))))

  same_by : (b c : Bool) → raw_by b c ≡ whole_by b c
  same_by false c = append-nil _ ∙ ap value_items (filter_all (values_inside R node q))
  same_by true true = refl
  same_by true false = ap (λ l. with_far R node q (near R node q ∷ value_items l)) past_is

  pub whole_is : raw R node q None ≡ whole_raw R node q
  whole_is = same_by q.return_bounds (q.num_values_per_node == 1)

  pub whole_modified_is : modified R node q None ≡ whole_modified R node q
  whole_modified_is = filter_all (whole_modified R node q)

-- ---- what is asked

guards : {A : Type 0} (a b : Bool) (e f : Status) (x y : Result A Status) (z : A)
    → cond a (Err e) (cond b (Err f) x) ≡ Ok z → (a ≡ false) × (b ≡ false)
guards true b e f x y z h = absurd cc
guards false true e f x y z h = absurd cc
guards false false e f x y z h = (refl, refl)

module _ (id : List ℕ) (node : NodeId) (q : Details) where
  guards_of : checked_read id node q None ≡ Ok None
      → ((q.is_read_modified && q.return_bounds) ≡ false) × (not (is_enough q) ≡ false)
  guards_of e = guards (q.is_read_modified && q.return_bounds)
      (not (is_enough q)) BAD_INVALID_ARGUMENT BAD_HISTORY_OPERATION_INVALID (Ok None)
      (Ok None) None e

  -- what isn't refused without a point goes on where a point says
  pub judged_is : checked_read id node q None ≡ Ok None → (continuation : Option (List ℕ))
      → checked_read id node q continuation ≡ resume_place id node q continuation
  judged_is e continuation =
      let g = guards_of e in
      ap (λ a. cond a (Err BAD_INVALID_ARGUMENT) (cond (not (is_enough q))
      (Err BAD_HISTORY_OPERATION_INVALID) (resume_place id node q continuation))) g.0
      ∙ ap (λ b. cond b (Err BAD_HISTORY_OPERATION_INVALID) (resume_place id node q continuation))
      g.1

  pub enough_is : checked_read id node q None ≡ Ok None → has_both q ≡ false
      → 0 < q.num_values_per_node
  enough_is e open_end =
      let g = guards_of e in
      let some : not (q.num_values_per_node == 0) ≡ true =
      go (is_given q.start_time.0) (is_given q.end_time.0)
      (not (q.num_values_per_node == 0)) g.1 open_end in
      grind (arith, nat_tests, some)
    where
      go : (s t n : Bool) → not (cond s (t || n) (t && n)) ≡ false → (s && t) ≡ false → n ≡ true
      go s t true e f = refl
      go true true false e f = absurd (true≢false f)
      go true false false e f = absurd (true≢false e)
      go false true false e f = absurd (true≢false e)
      go false false false e f = absurd (true≢false e)

-- ---- points

-- a place that a point may tell of what is asked
abbrev pub IsPlace : Details → Position → Type 0
IsPlace q p = IsPosition p × (suits q p ≡ true)

pub place_is : (q : Details) (p : Position) → IsDetails q → IsNext q p → p.time ≤ℤ greatest_time
    → IsPlace q p
place_is q p details next high =
    let few = pico_within p.time in
    let fits : FitsSigned w64 (ticks_of p.time) =
    omega (arith, ints, next.0, high, few, whole_again p.time) in
    ((next.0, fits, next.1, small), next.2)
  where
    small : p.given < 2 ^ 32
    small = go (has_both q) (and_parts (is_stamp_for q p.stamp) (is_given_for q p.given)
        (and_parts (is_phase_for q p.phase)
        (is_stamp_for q p.stamp && is_given_for q p.given) next.2).1).1
      where
        go : (b : Bool) → cond b (p.given == 0) (nat_lt 0 p.given
            && nat_lt p.given q.num_values_per_node) ≡ true → p.given < 2 ^ 32
        go true e = let none : p.given ≡ 0 = grind (arith, nat_tests, e) in omega (arith, none)
        go false e =
            let parts = and_parts (nat_lt 0 p.given) (nat_lt p.given q.num_values_per_node) e in
            let below : p.given < q.num_values_per_node = grind (arith, nat_tests, parts.1) in
            let most = details.2 in
            omega (arith, below, most)

module _ (id : List ℕ) (node : NodeId) (q : Details) (v : List ℕ) (asked : IsAsked id node q)
    (vector : IsVector v) where
  abbrev at : Position → Point
  at p = record { archive = id; node = node; details = q; position = p; vector = v }

  -- a point that was written tells its place again
  pub point_told : (p : Position) → IsPlace q p
      → resume_place id node q (Some (point_at id node q v p)) ≡ Ok (Some (p, v))
  unfolding point
  point_told p good =
      let is : IsPoint (at p) = record {
        archive = asked.sixteen;
        node = asked.spelled;
        details =
            asked.details;
        position = good.0;
        suits = good.1;
        vector = vector;
      } in
      ap (λ o. place_told id node q (result_ok o))
      (whole_only BadEncodingByte point_lawful (point.canon (at p)) (at p)
      (point_lawful.written (at p) is)) ∙ told_agreed id node q (at p) (refl, refl, refl)

-- ---- reads

module _ (id : List ℕ) (node : NodeId) (query : Query) where
  pub read_is : (continuation : Option (List ℕ)) (behind : Option Behind) (first : Page)
      → checked_read id node query.details continuation ≡ Ok behind
      → IsRead id node query continuation first
      → first.result ≡ page_from first.content id node query behind
  read_is continuation behind first told read =
      ap (λ (x : (HistoryReadResult × Content) × List _). x.0.0)
      (sym (read.does []) ∙ ap (λ j. read_from id node query first.content j (Done ∷ [])) told)

  pub is_read : (continuation : Option (List ℕ)) (behind : Option Behind) (C : Content)
      (result : HistoryReadResult) → checked_read id node query.details continuation ≡ Ok behind
      → page_from C id node query behind ≡ result
      → IsRead id node query continuation (record { content = C; result = result })
  is_read continuation behind C result told is = record {
    does = λ later. ap (λ j. read_from id node query C j (Done ∷ later)) told
        ∙ ap (λ x. ((x, C), later)) is;
  }

  -- the vector of a first page covers of a later content what was held then
  pub later_is : (R C : Content) (p : Position) → IsLawfulContent R → IsLater R C
      → page_from C id node query (Some (p, numbers_of R))
      ≡ page_result R (numbers_of R) id node query (Some p)
  later_is R C p lawful later =
      let v = numbers_of R in
      let test : covers C v ≡ true =
      vectors_above v (numbers_of C) (numbers_vector R lawful) (numbers_vector C later.lawful)
      (λ o. let a = numbers_are R lawful o in let b = numbers_are C later.lawful o in let le =
      later.covers o in omega (arith, a, b, le)) in
      let same : cut C (number_of v) ≡ R =
      sym (cut_same R C (number_of v) lawful.closed later.lawful.closed later.compatible
      (λ o. let a = numbers_are R lawful o in omega (arith, a))
      (λ o. let a = numbers_are R lawful o in let le = later.covers o in omega (arith, a, le)))
      ∙ cut_own R lawful in
      ap (λ t. cond t (page_result (cut C (number_of v)) v id node query (Some p))
      (refused_read BAD_CONTINUATION_POINT_INVALID)) test
      ∙ ap (λ S. page_result S v id node query (Some p)) same
