-- Pages of one read in a past.
use Rattle.std.proofs.Common.{◌≡◌, ℕ, zero, suc, ◌+◌, ◌<◌, ◌==◌, Bool, true, false, cond, ◌&&◌, ◌||◌, not, List, [], ◌∷◌, map, length, Option, Some, None, option_map, Result, Ok, Err, refl, sym, ap, ◌∙◌, subst, arith, inl, inr}
use Rattle.std.specs.List.{AllByRecursion}
use Rattle.std.proofs.lemmas.Bool.{cases_Bool, true≢false}
use Rattle.std.proofs.lemmas.Option.{none-some, same_Some}
use Rattle.stamp.specs.Numbers.{number_of}
use Rattle.ua_binary.specs.Binary.{IsNodeId}
use Rattle.ua_binary.specs.declared.values.NodeId.{NodeId}
use Rattle.ua_binary.specs.declared.codes.Status.{Status}
use Rattle.ua_binary.specs.declared.codes.TheConstants.Status.{BAD_INVALID_ARGUMENT, BAD_HISTORY_OPERATION_INVALID, BAD_CONTINUATION_POINT_INVALID}
use Rattle.ua_services.specs.declared.attributes.TimestampsToReturn.{TimestampsToReturn}
use Rattle.ua_services.specs.declared.history.ReadRawModifiedDetails.{ReadRawModifiedDetails as Details}
use Rattle.ua_services.specs.declared.history.HistoryReadResult.{HistoryReadResult}
use Rattle.records.specs.Contents.{Content, vec, numbers_of, cut}
use Rattle.records.proofs.Sorting.{all_weaker}
use Rattle.archive.specs.Store.{StepResult, Done, IsLawfulContent}
use Rattle.archive.proofs.Vectors.{numbers_are}
use Rattle.hist_read.specs.declared.query.Query.{Query}
use Rattle.hist_read.specs.declared.point.Position.{Position}
use Rattle.hist_read.specs.Asking.{is_given}
use Rattle.hist_read.specs.Point.{Point, IsDetails, point_in}
use Rattle.hist_read.specs.Reads.{raw, raw_position, modified, modified_position, next_place}
use Rattle.hist_read.proofs.Agreeing.{place_told}
use Rattle.hist_read.proofs.Results.{raw_result, modified_result}
use Rattle.hist_read.specs.Node.{Behind, is_enough, checked_read, point_at, page_result, page_from, resume_place, refused_read}
use Rattle.hist_read.proofs.NodeParts.{read_from, covers, agrees}
use Rattle.hist_read.specs.Chains.{Page, IsRead, Chain, whole_read, values_in, infos_in, joined_values, joined_infos, IsLater, IsAsked, contents_from}
use Rattle.hist_read.proofs.Cutting.{vectors_below}
use Rattle.exchange.specs.Worlds.{ReplicaState}
use Rattle.headline.specs.Executions.{Execution, IsExecution, IsReachable, Covers}
use Rattle.headline.specs.Answers.{replica_answer}
use Rattle.headline.specs.Readings.{IsPageBehind, IsReading, ShowWhole, HavePages}
use Rattle.headline.proofs.Times.{lawful_was, sixteen_was, together}

-- ---- what was asked

-- what is judged without a point, by two tests
abbrev guarded : (a b : Bool) → Result (Option Behind) Status
guarded a b = cond a (Err BAD_INVALID_ARGUMENT) (cond b (Err BAD_HISTORY_OPERATION_INVALID)
    (Ok None))

-- what was read without a point isn't refused
asked_is : (id : List ℕ) (node : NodeId) (query : Query) (first : Page)
    → IsRead id node query None first → checked_read id node query.details None ≡ Ok None
asked_is id node query first read =
    go (q.is_read_modified && q.return_bounds) (not (is_enough q)) (read.does [])
  where
    q : Details
    q = query.details

    go : (a b : Bool) → read_from id node query first.content (guarded a b) (Done ∷ [])
        ≡ ((first.result, first.content), [])
        → guarded a b ≡ Ok None
    go true b e = let left = ap (λ (x : (HistoryReadResult × Content) × List StepResult).
        length x.1) e in absurd (omega (arith, left))
    go false true e = let left = ap (λ (x : (HistoryReadResult × Content) × List StepResult).
        length x.1) e in absurd (omega (arith, left))
    go false false e = refl

guards : (a b : Bool) (x : Result (Option Behind) Status) → guarded a b ≡ Ok None
    → cond a (Err BAD_INVALID_ARGUMENT) (cond b (Err BAD_HISTORY_OPERATION_INVALID) x) ≡ x
guards true b x e = absurd (cc)
guards false true x e = absurd (cc)
guards false false x e = refl

-- what isn't refused without a point goes on where a point says
judged_is : (id : List ℕ) (node : NodeId) (q : Details) → checked_read id node q None ≡ Ok None
    → (point : Option (List ℕ)) → checked_read id node q point ≡ resume_place id node q point
judged_is id node q e point = guards (q.is_read_modified && q.return_bounds) (not (is_enough q))
    (resume_place id node q point) e

read_is : (id : List ℕ) (node : NodeId) (query : Query) (point : Option (List ℕ))
    (behind : Option Behind) (first : Page) → checked_read id node query.details point ≡ Ok behind
    → IsRead id node query point first → first.result ≡ page_from first.content id node query behind
read_is id node query point behind first told read =
    ap (λ (x : (HistoryReadResult × Content) × List StepResult). x.0.0)
    (sym (read.does []) ∙ ap (λ j. read_from id node query first.content j (Done ∷ [])) told)

-- a read that isn't refused is given a time
pub given_is : (id : List ℕ) (node : NodeId) (q : Details) → checked_read id node q None ≡ Ok None
    → (is_given q.start_time.0 || is_given q.end_time.0) ≡ true
given_is id node q e = go (q.is_read_modified && q.return_bounds) (is_given q.start_time.0)
    (is_given q.end_time.0) (not (q.num_values_per_node == 0)) e
  where
    go : (a s t n : Bool) → guarded a (not (cond s (t || n) (t && n))) ≡ Ok None → (s || t) ≡ true
    go true s t n h = absurd (cc)
    go false true t n h = refl
    go false false true n h = refl
    go false false false n h = absurd (cc)

first_read : (id : List ℕ) (node : NodeId) (query : Query) (first : Page) (pages : List Page)
    → Chain id node query None (first ∷ pages) → IsRead id node query None first
first_read id node query first [] chain = chain.0
first_read id node query first (next ∷ pages) chain = chain.0

-- without a time no page is read
pub never_read : (q : Details) → (is_given q.start_time.0 || is_given q.end_time.0) ≡ false
    → ShowWhole q
never_read q none id node stamps first pages asked lawful later chain =
    absurd (true≢false (sym
    (given_is id node q (asked_is id node (record { details = q; stamps = stamps }) first
    (first_read id node (record { details = q; stamps = stamps }) first pages chain))) ∙ none))

-- ---- pages at replicas

module _ (p : Execution) (past : IsExecution p) (t : ReplicaState) (was : IsReachable p t) where
  later_page : (R : Content) → R ≡ t.content → (page : Page) → IsPageBehind p t page
      → IsLater R page.content
  later_page R same page behind = subst (λ C. IsLater R C) (sym behind.2)
      (subst (λ C. IsLater C behind.0.content) (sym same) (record {
        lawful = lawful_was p behind.0 past behind.1;
        compatible = (together p t behind.0 past was behind.1).compatible;
        covers = behind.3;
      }))

  module _ (node : NodeId) (spelled : IsNodeId node) (q : Details) (fits : IsDetails q) where
    pub is_asked : IsAsked t.id node q
    is_asked = record { sixteen = sixteen_was p t past was; spelled = spelled; details = fits }

    module _ (stamps : TimestampsToReturn) where
      abbrev query : Query
      query = record { details = q; stamps = stamps }

      pub reading_shows : ShowWhole q → (pages : List Page) → IsReading p t node query pages
          → (joined_values pages ≡ values_in (whole_read t.content node query))
          × (joined_infos pages ≡ infos_in (whole_read t.content node query))
      reading_shows shows pages reading =
          let lawful : IsLawfulContent reading.0.content =
          subst IsLawfulContent (sym reading.3) (lawful_was p t past was) in
          let later = all_weaker (IsPageBehind p t) (λ page. IsLater reading.0.content page.content)
          (later_page reading.0.content reading.3) reading.1 reading.4 in
          let both = shows t.id node stamps reading.0 reading.1 is_asked lawful later
          (subst (Chain t.id node query None) reading.2 reading.5) in (
            ap joined_values reading.2 ∙ (both.0
                ∙ ap (λ R. values_in (whole_read R node query)) reading.3),
            ap joined_infos reading.2 ∙ (both.1
                ∙ ap (λ R. infos_in (whole_read R node query)) reading.3),
          )

      -- ---- the points

      abbrev v : List ℕ
      v = numbers_of t.content

      pointed : (o : Option Position) (bytes : List ℕ)
          → option_map (point_at t.id node q v) o ≡ Some bytes
          → (next : Position) × (bytes ≡ point_at t.id node q v next)
      pointed None bytes e = absurd (none-some _ e)
      pointed (Some next) bytes e = (next, sym (same_Some _ _ e))

      -- the point of a first page carries its replica's vector
      pub carried : (first : Page) (bytes : List ℕ) → first.content ≡ t.content
          → IsRead t.id node query None first → first.result.continuation_point ≡ Some bytes
          → (next : Position) × (bytes ≡ point_at t.id node q v next)
      carried first bytes same read e =
          let is : first.result ≡ page_result t.content v t.id node query None =
          read_is t.id node query None None first (asked_is t.id node query first read) read
          ∙ ap (λ C. page_result C (numbers_of C) t.id node query None) same in
          let told = ap (λ (r : HistoryReadResult). r.continuation_point) (sym is) ∙ e in
          elim (cases_Bool q.is_read_modified) [
            | inl mods ↦ pointed (next_place (modified_position q None) q None
                (modified t.content node q None)) bytes
                (sym (ap (λ b. (cond b (modified_result t.content v t.id node query None)
                (raw_result t.content v t.id node query None)).continuation_point) mods) ∙ told)
            | inr plain ↦ pointed (next_place (raw_position q None) q None
                (raw t.content node q None)) bytes
                (sym (ap (λ b. (cond b (modified_result t.content v t.id node query None)
                (raw_result t.content v t.id node query None)).continuation_point) plain) ∙ told)
          ]

-- a replica that has less of an origin than the point's vector refuses it
pub point_refused : (p : Execution) (u : ReplicaState) (node : NodeId) (q : Details)
    (stamps : TimestampsToReturn) (bytes : List ℕ) (told : Point) (origin : ℕ) → IsExecution p
    → IsReachable p u → checked_read u.id node q None ≡ Ok None
    → point_in bytes ≡ Some told → vec u.content origin < number_of told.vector origin
    → replica_answer (record { details = q; stamps = stamps }) u node (Some bytes)
    ≡ refused_read BAD_CONTINUATION_POINT_INVALID
point_refused p u node q stamps bytes told origin past was ok is less =
    let query : Query = record { details = q; stamps = stamps } in
    let test : covers u.content told.vector ≡ false = untrue (covers u.content told.vector) (λ yes.
    let a = numbers_are u.content (lawful_was p u past was) origin in
    let le = vectors_below told.vector (numbers_of u.content) yes origin in
    omega (arith, a, le, less)) in
    ap (λ (j : Result (Option Behind) Status). (read_from u.id node query u.content j []).0.0)
    (judged_is u.id node q ok (Some bytes) ∙ ap (place_told u.id node q) is)
    ∙ by_agreeing query test (agrees u.id node q told)
  where
    untrue : (b : Bool) → (b ≡ true → ⊥) → b ≡ false
    untrue true f = absurd (f refl)
    untrue false f = refl

    by_agreeing : (query : Query) → covers u.content told.vector ≡ false → (b : Bool)
        → (read_from u.id node query u.content (cond b (Ok (Some (told.position, told.vector)))
        (Err BAD_CONTINUATION_POINT_INVALID)) []).0.0 ≡ refused_read BAD_CONTINUATION_POINT_INVALID
    by_agreeing query test true = ap (λ b.
        cond b (page_result (cut u.content (number_of told.vector)) told.vector u.id node query
        (Some told.position)) (refused_read BAD_CONTINUATION_POINT_INVALID)) test
    by_agreeing query test false = refl

-- ---- pages come to an end

module _ (p : Execution) (past : IsExecution p) (visits : ℕ → ReplicaState)
    (go : (n : ℕ) → IsReachable p (visits n) × Covers (visits n) (visits 0)) where
  abbrev content_at : ℕ → Content
  content_at n = (visits n).content

  all_behind : (pages : List Page) (start count : ℕ)
      → map (λ (page : Page). page.content) pages ≡ contents_from content_at start count
      → AllByRecursion (IsPageBehind p (visits 0)) pages
  all_behind [] start count e = tt
  all_behind (page ∷ pages) start zero e = absurd (cc)
  all_behind (page ∷ pages) start (suc count) e = (
    (visits start, (go start).0, cc, (go start).1),
    all_behind pages (start + 1) count (cc),
  )

  visited : (n : ℕ) → IsLater (content_at 0) (content_at n)
  visited n = record {
    lawful = lawful_was p (visits n) past (go n).0;
    compatible = (together p (visits 0) (visits n) past (go 0).0 (go n).0).compatible;
    covers = (go n).1;
  }

  pub reading_ends : (node : NodeId) → IsNodeId node → (q : Details) → IsDetails q
      → (stamps : TimestampsToReturn) → HavePages q
      → checked_read (visits 0).id node q None ≡ Ok None
      → (pages : List Page) × IsReading p (visits 0) node
      (record { details = q; stamps = stamps }) pages × (count : ℕ)
      × (map (λ page. page.content) pages ≡ contents_from content_at 0 count)
  reading_ends node spelled q fits stamps have ok =
      let found = have (visits 0).id node stamps content_at
      (is_asked p past (visits 0) (go 0).0 node spelled q fits) ok
      (lawful_was p (visits 0) past (go 0).0) visited in
      by_pages found.0 found.1 found.2 found.3
    where
      by_pages : (pages : List Page) (count : ℕ)
          → map (λ (page : Page). page.content) pages ≡ contents_from content_at 0 count
          → Chain (visits 0).id node (record { details = q; stamps = stamps }) None pages
          → (pages : List Page) × IsReading p (visits 0) node
          (record { details = q; stamps = stamps }) pages × (count : ℕ)
          × (map (λ page. page.content) pages ≡ contents_from content_at 0 count)
      by_pages [] count e chain = absurd chain
      by_pages (first ∷ pages) zero e chain = absurd (cc)
      by_pages (first ∷ pages) (suc count) e chain = (
        first ∷ pages,
        (first, pages, refl, cc, all_behind pages (0 + 1) count (cc), chain),
        suc count,
        e,
      )
