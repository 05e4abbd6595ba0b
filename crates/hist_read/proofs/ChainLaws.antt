-- A chain of pages shows the whole read of the first page's content, and there is one.
use Rattle.std.proofs.Common.{◌≡◌, ℕ, ◌-◌, ℤ, ◌≤ℤ◌, Bool, true, false, cond, ◌&&◌, ◌||◌, not, IsTrue, List, [], ◌∷◌, map, take, length, Option, Some, None, IfSome, option_map, Result, Ok, Err, refl, sym, ap, ◌∙◌, subst, arith, inl, inr}
use Rattle.std.specs.List.{AllByRecursion}
use Rattle.std.proofs.lemmas.Bool.{cases_Bool}
use Rattle.std.proofs.lemmas.Int.{ints}
use Rattle.std.proofs.lemmas.List.{map-append}
use Rattle.ua_binary.specs.declared.values.NodeId.{NodeId}
use Rattle.ua_binary.specs.declared.codes.Status.{Status}
use Rattle.ua_binary.specs.declared.codes.TheConstants.Status.{BAD_INVALID_ARGUMENT, BAD_HISTORY_OPERATION_INVALID}
use Rattle.ua_services.specs.declared.attributes.TimestampsToReturn.{TimestampsToReturn}
use Rattle.ua_services.specs.declared.history.ReadRawModifiedDetails.{ReadRawModifiedDetails as Details}
use Rattle.ua_services.specs.declared.history.HistoryData.TheVariants.{Raw, Modified}
use Rattle.ua_services.specs.declared.history.HistoryReadResult.{HistoryReadResult}
use Rattle.records.specs.Contents.{Content, numbers_of}
use Rattle.records.specs.Moments.{moment}
use Rattle.archive.specs.Reading.{is_between}
use Rattle.archive.specs.Store.{StepResult, Done, IsLawfulContent}
use Rattle.archive.proofs.Vectors.{numbers_vector}
use Rattle.hist_read.specs.declared.query.Query.{Query}
use Rattle.hist_read.specs.declared.point.Position.{Position}
use Rattle.hist_read.specs.Asking.{is_given, has_both, first_time, origin_time}
use Rattle.hist_read.specs.Point.{IsDetails, IsNext}
use Rattle.hist_read.specs.Reads.{greatest_time, in_body, raw, raw_position, modified, modified_position, next_place}
use Rattle.hist_read.specs.Showing.{shown, shown_entry, info}
use Rattle.hist_read.specs.Node.{Behind, is_enough, checked_read, point_at, page_result}
use Rattle.hist_read.proofs.NodeParts.{read_from}
use Rattle.hist_read.proofs.Results.{raw_result, modified_result}
use Rattle.hist_read.specs.Chains.{limited, whole_read, values_in, infos_in, Page, IsRead, Chain, joined_values, joined_infos, IsLater, IsAsked, contents_from}
use Rattle.hist_read.proofs.Joining.{modified_join}
use Rattle.hist_read.proofs.RawJoining.{raw_joins}
use Rattle.hist_read.proofs.Nexts.{raw_next, raw_within, modified_next_lawful, modified_within}
use Rattle.hist_read.proofs.Chaining.{shows, ends, chain_read}
use Rattle.hist_read.proofs.Wholes.{judged_is, enough_is, IsPlace, place_is, point_told, read_is, is_read, later_is}

origin_high : (q : Details) → IsDetails q → origin_time q ≤ℤ greatest_time
origin_high q details = go (is_given q.start_time.0)
  where
    go : (b : Bool) → moment (cond b q.start_time.0 q.end_time.0) 0 ≤ℤ greatest_time
    go true = let a = details.0 in omega (arith, ints, a)
    go false = let a = details.1 in omega (arith, ints, a)

-- what is judged without a point, by two tests
abbrev guarded : (a b : Bool) → Result (Option Behind) Status
guarded a b = cond a (Err BAD_INVALID_ARGUMENT) (cond b (Err BAD_HISTORY_OPERATION_INVALID)
    (Ok None))

-- what was read without a point isn't refused
asked_is : (id : List ℕ) (node : NodeId) (query : Query) (first : Page)
    → IsRead id node query None first → checked_read id node query.details None ≡ Ok None
asked_is id node query first read =
    go (q.is_read_modified && q.return_bounds) (not (is_enough q)) (read.does [])
  where
    q : Details
    q = query.details

    go : (a b : Bool) → read_from id node query first.content (guarded a b) (Done ∷ [])
        ≡ ((first.result, first.content), [])
        → guarded a b ≡ Ok None
    go true b e = let left = ap (λ (x : (HistoryReadResult × Content) × List StepResult).
        length x.1) e in absurd (omega (arith, left))
    go false true e = let left = ap (λ (x : (HistoryReadResult × Content) × List StepResult).
        length x.1) e in absurd (omega (arith, left))
    go false false e = refl

module _ (R : Content) (lawful : IsLawfulContent R) (id : List ℕ) (node : NodeId) (q : Details)
    (stamps : TimestampsToReturn) (from to : ℤ)
    (span : (t : ℤ) → first_time ≤ℤ t → t ≤ℤ greatest_time → is_between from to t ≡ in_body q t)
    (asked : IsAsked id node q) (given : IsTrue (is_given q.start_time.0 || is_given q.end_time.0))
    (ok : checked_read id node q None ≡ Ok None)
  where
    abbrev query : Query
    query = record { details = q; stamps = stamps }

    abbrev v : List ℕ
    v = numbers_of R

    abbrev answer : Option Position → HistoryReadResult
    answer p = page_result R v id node query p

    abbrev told : Position → List ℕ
    told p = point_at id node q v p

    reads : (p : Position) → IsPlace q p → (read : Page) → IsLater R read.content
        → IsRead id node query (Some (told p)) read → read.result ≡ answer (Some p)
    reads p good read later is =
        read_is id node query (Some (told p)) (Some (p, v)) read
        (judged_is id node q ok (Some (told p))
        ∙ point_told id node q v asked (numbers_vector R lawful) p good) is
        ∙ later_is id node query R read.content p lawful later

    can : (p : Position) → IsPlace q p → (C : Content) → IsLater R C
        → IsRead id node query (Some (told p)) (record { content = C; result = answer (Some p) })
    can p good C later =
        is_read id node query (Some (told p)) (Some (p, v)) C (answer (Some p))
        (judged_is id node q ok (Some (told p))
        ∙ point_told id node q v asked (numbers_vector R lawful) p good)
        (later_is id node query R C p lawful later)

    first_is : (first : Page) → first.content ≡ R → IsRead id node query None first
        → first.result ≡ answer None
    first_is first same read = read_is id node query None None first ok read
        ∙ ap (λ C. page_result C (numbers_of C) id node query None) same

    abbrev rest : {X : Type 0} → List X → List X
    rest xs = cond (has_both q) xs (take (q.num_values_per_node - 0) xs)

    rest_is : {X : Type 0} (xs : List X) → rest xs ≡ limited q xs
    rest_is xs = let all : q.num_values_per_node - 0 ≡ q.num_values_per_node = omega arith in
        ap (λ n. cond (has_both q) xs (take n xs)) all

    -- ---- raw values

    module _ (plain : q.is_read_modified ≡ false) where
      raw_pointed : (p : Option Position)
          → (answer p).continuation_point
          ≡ option_map told (next_place (raw_position q p) q p (raw R node q p))
      raw_pointed p = ap (λ b.
          (cond b (modified_result R v id node query p)
          (raw_result R v id node query p)).continuation_point) plain

      raw_good : (p : Option Position) (next : Position)
          → next_place (raw_position q p) q p (raw R node q p) ≡ Some next → IsPlace q next
      raw_good p next e = place_is q next asked.details
          (subst (λ o. IfSome o (IsNext q)) e (raw_next R node q p lawful given plain))
          (subst (λ o. IfSome o (λ n. n.time ≤ℤ greatest_time)) e
          (raw_within R node q p lawful (λ t. t ≤ℤ greatest_time) (λ t h. h.1)
          (origin_high q asked.details)))

      raw_values : (first : Page) (pages : List Page) → first.content ≡ R
          → AllByRecursion (λ read. IsLater R read.content) pages
          → Chain id node query None (first ∷ pages)
          → joined_values (first ∷ pages) ≡ map (shown stamps) (limited q (raw R node q None))
      raw_values first pages same later chain =
          shows id node query (raw R node q) (raw_position q) (λ p x. refl)
          (raw_joins R node q from to lawful span)
          (enough_is id node q ok) R answer told raw_pointed (IsPlace q) raw_good
          values_in (map (shown stamps)) (map-append (shown stamps))
          (λ p. ap (λ b. values_in (cond b (modified_result R v id node query p)
          (raw_result R v id node query p)).history_data) plain) reads
          first pages None None (first_is first same
          (chain_read id node query None first pages chain)) later chain
          ∙ ap (map (shown stamps)) (rest_is (raw R node q None))

      raw_infos : (first : Page) (pages : List Page) → first.content ≡ R
          → AllByRecursion (λ read. IsLater R read.content) pages
          → Chain id node query None (first ∷ pages) → joined_infos (first ∷ pages) ≡ []
      raw_infos first pages same later chain =
          shows id node query (raw R node q) (raw_position q) (λ p x. refl)
          (raw_joins R node q from to lawful span)
          (enough_is id node q ok) R answer told raw_pointed (IsPlace q) raw_good
          infos_in (λ xs. []) (λ xs ys. refl) (λ p.
          ap (λ b. infos_in (cond b (modified_result R v id node query p)
          (raw_result R v id node query p)).history_data) plain) reads
          first pages None None (first_is first same
          (chain_read id node query None first pages chain)) later chain

    -- ---- modifications

    module _ (mods : q.is_read_modified ≡ true) where
      modified_pointed : (p : Option Position)
          → (answer p).continuation_point
          ≡ option_map told (next_place (modified_position q p) q p (modified R node q p))
      modified_pointed p = ap (λ b.
          (cond b (modified_result R v id node query p)
          (raw_result R v id node query p)).continuation_point) mods

      modified_good : (p : Option Position) (next : Position)
          → next_place (modified_position q p) q p (modified R node q p) ≡ Some next
          → IsPlace q next
      modified_good p next e = place_is q next asked.details
          (subst (λ o. IfSome o (IsNext q)) e (modified_next_lawful R node q p lawful mods))
          (subst (λ o. IfSome o (λ n. n.time ≤ℤ greatest_time)) e
          (modified_within R node q p lawful))

      modified_values : (first : Page) (pages : List Page) → first.content ≡ R
          → AllByRecursion (λ read. IsLater R read.content) pages
          → Chain id node query None (first ∷ pages)
          → joined_values (first ∷ pages)
          ≡ map (shown_entry stamps) (limited q (modified R node q None))
      modified_values first pages same later chain =
          shows id node query (modified R node q) (modified_position q) (λ p x. refl)
          (modified_join R node q from to lawful span)
          (enough_is id node q ok) R answer told modified_pointed (IsPlace q) modified_good
          values_in (map (shown_entry stamps)) (map-append (shown_entry stamps))
          (λ p. ap (λ b. values_in (cond b (modified_result R v id node query p)
          (raw_result R v id node query p)).history_data) mods) reads
          first pages None None (first_is first same
          (chain_read id node query None first pages chain)) later chain
          ∙ ap (map (shown_entry stamps)) (rest_is (modified R node q None))

      modified_infos : (first : Page) (pages : List Page) → first.content ≡ R
          → AllByRecursion (λ read. IsLater R read.content) pages
          → Chain id node query None (first ∷ pages)
          → joined_infos (first ∷ pages) ≡ map info (limited q (modified R node q None))
      modified_infos first pages same later chain =
          shows id node query (modified R node q) (modified_position q) (λ p x. refl)
          (modified_join R node q from to lawful span)
          (enough_is id node q ok) R answer told modified_pointed (IsPlace q) modified_good
          infos_in (map info) (map-append info) (λ p.
          ap (λ b. infos_in (cond b (modified_result R v id node query p)
          (raw_result R v id node query p)).history_data) mods) reads
          first pages None None (first_is first same
          (chain_read id node query None first pages chain)) later chain
          ∙ ap (map info) (rest_is (modified R node q None))

    -- ---- either

    pub chain_shows : (first : Page) (pages : List Page) → first.content ≡ R
        → AllByRecursion (λ read. IsLater R read.content) pages
        → Chain id node query None (first ∷ pages)
        → (joined_values (first ∷ pages) ≡ values_in (whole_read R node query))
        × (joined_infos (first ∷ pages) ≡ infos_in (whole_read R node query))
    chain_shows first pages same later chain =
        let entries = limited q (modified R node q None) in
        let mods = Modified (map (shown_entry stamps) entries) (map info entries) in
        let raws = Raw (map (shown stamps) (limited q (raw R node q None))) in
        elim (cases_Bool q.is_read_modified) [
          | inl e ↦ (
            modified_values e first pages same later chain
                ∙ sym (ap (λ b. values_in (cond b mods raws)) e),
            modified_infos e first pages same later chain
                ∙ sym (ap (λ b. infos_in (cond b mods raws)) e),
          )
          | inr e ↦ (
            raw_values e first pages same later chain
                ∙ sym (ap (λ b. values_in (cond b mods raws)) e),
            raw_infos e first pages same later chain
                ∙ sym (ap (λ b. infos_in (cond b mods raws)) e),
          )
        ]

    pub chain_exists : (contents : ℕ → Content) → contents 0 ≡ R
        → ((n : ℕ) → IsLater R (contents n))
        → (pages : List Page) × (count : ℕ)
        × (map (λ read. read.content) pages ≡ contents_from contents 0 count)
        × Chain id node query None pages
    chain_exists contents same later =
        let first : IsRead id node query None
        (record { content = contents 0; result = answer None }) =
        is_read id node query None None (contents 0) (answer None) ok
        (ap (λ C. page_result C (numbers_of C) id node query None) same) in
        elim (cases_Bool q.is_read_modified) [
          | inl e ↦
              let found = ends id node query (modified R node q) (modified_position q) (λ p x. refl)
              (modified_join R node q from to lawful span)
              (enough_is id node q ok) R answer told (modified_pointed e) (IsPlace q)
              (modified_good e)
              contents later can (length (modified R node q None)) 0 None None
              (omega arith) first in
              (found.pages, found.count, found.over, found.chain)
          | inr e ↦
              let found = ends id node query (raw R node q) (raw_position q) (λ p x. refl)
              (raw_joins R node q from to lawful span) (enough_is id node q ok) R answer told
              (raw_pointed e) (IsPlace q) (raw_good e)
              contents later can (length (raw R node q None)) 0 None None (omega arith) first in
              (found.pages, found.count, found.over, found.chain)
        ]

pub asked_from : (id : List ℕ) (node : NodeId) (query : Query) (first : Page) (pages : List Page)
    → Chain id node query None (first ∷ pages) → checked_read id node query.details None ≡ Ok None
asked_from id node query first pages chain =
    asked_is id node query first (chain_read id node query None first pages chain)
