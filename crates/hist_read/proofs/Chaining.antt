-- Pages that are read one after the other show what is left of a list.
use Rattle.std.proofs.Common.{◌≡◌, ℕ, zero, suc, ◌+◌, ◌<◌, ◌≤◌, false, List, [], ◌∷◌, ◌++◌, map, length, Option, Some, None, option_map, refl, sym, ap, ◌∙◌, subst, arith, append-nil}
use Rattle.std.specs.List.{flat_map, AllByRecursion}
use Rattle.std.proofs.lemmas.List.Concat.{flat_map-cons}
use Rattle.std.proofs.lemmas.Option.{none-some}
use Rattle.ua_binary.specs.declared.values.NodeId.{NodeId}
use Rattle.ua_services.specs.declared.history.HistoryData.{HistoryData}
use Rattle.ua_services.specs.declared.history.HistoryReadResult.{HistoryReadResult}
use Rattle.records.specs.Contents.{Content}
use Rattle.hist_read.specs.declared.query.Query.{Query}
use Rattle.hist_read.specs.declared.point.Position.{Position}
use Rattle.hist_read.specs.Asking.{has_both}
use Rattle.hist_read.specs.Reads.{page, given_after, next_place}
use Rattle.hist_read.specs.Chains.{Page, IsRead, Chain, IsLater, contents_from}
use Rattle.hist_read.proofs.Paged.{remaining, shown_last, shown_more, shrinks}

module _ (id : List ℕ) (node : NodeId) (query : Query) where
  pub chain_read : (point : Option (List ℕ)) (first : Page) (pages : List Page)
      → Chain id node query point (first ∷ pages) → IsRead id node query point first
  chain_read point first [] chain = chain.0
  chain_read point first (next ∷ pages) chain = chain.0

  chain_more : (point : Option (List ℕ)) (first : Page) (bytes : List ℕ) (pages : List Page)
      → IsRead id node query point first → first.result.continuation_point ≡ Some bytes
      → Chain id node query (Some bytes) pages
      → Chain id node query point (first ∷ pages)
  chain_more point first bytes [] read told chain = absurd chain
  chain_more point first bytes (next ∷ pages) read told chain = (read, bytes, told, chain)

  module _ {X : Type 0} (S : Option Position → List X) (place : Option Position → X → Position)
      (given : (p : Option Position) (x : X) → (place p x).given ≡ given_after query.details p)
      (join : (p : Option Position) (next : Position)
      → next_place (place p) query.details p (S p) ≡ Some next
      → S p ≡ page query.details p (S p) ++ S (Some next))
      (enough : has_both query.details ≡ false → 0 < query.details.num_values_per_node)
      (R : Content) (answer : Option Position → HistoryReadResult) (point : Position → List ℕ)
      (pointed : (p : Option Position)
      → (answer p).continuation_point
      ≡ option_map point (next_place (place p) query.details p (S p)))
      (IsGood : Position → Type 0)
      (good : (p : Option Position) (next : Position)
      → next_place (place p) query.details p (S p) ≡ Some next → IsGood next)
    where
      abbrev next_of : Option Position → Option Position
      next_of p = next_place (place p) query.details p (S p)

      -- an answer without a point is the last, and the point of another one is that of its place
      none_told : (p : Option Position) (o : Option Position) → next_of p ≡ o
          → option_map point o ≡ None → next_of p ≡ None
      none_told p None e f = e
      none_told p (Some next) e f = absurd (none-some _ (sym f))

      some_told : (p : Option Position) (bytes : List ℕ) (o : Option Position) → next_of p ≡ o
          → option_map point o ≡ Some bytes
          → (next : Position) × (next_of p ≡ Some next) × (bytes ≡ point next)
      some_told p bytes None e f = absurd (none-some _ f)
      some_told p bytes (Some next) e f = (next, e, cc)

      -- ---- what a chain shows

      module _ {Y : Type 0} (out : HistoryData → List Y) (show : List X → List Y)
          (joins : (xs ys : List X) → show (xs ++ ys) ≡ show xs ++ show ys)
          (showed : (p : Option Position)
          → out (answer p).history_data ≡ show (page query.details p (S p)))
          (reads : (p : Position) → IsGood p → (read : Page) → IsLater R read.content
          → IsRead id node query (Some (point p)) read → read.result ≡ answer (Some p))
        where
          abbrev joined : List Page → List Y
          joined pages = flat_map (λ read. out read.result.history_data) pages

          pub shows : (first : Page) (pages : List Page) (p : Option Position)
              (from : Option (List ℕ)) → first.result ≡ answer p
              → AllByRecursion (λ read. IsLater R read.content) pages
              → Chain id node query from (first ∷ pages)
              → joined (first ∷ pages)
              ≡ show (remaining query.details S place given join enough p (S p))
          shows first [] p from is later chain =
              let ended : next_of p ≡ None =
              none_told p (next_of p) refl (sym (pointed p)
              ∙ (ap (λ r. r.continuation_point) (sym is) ∙ chain.1)) in
              flat_map-cons (λ (read : Page). out read.result.history_data) first []
              ∙ (append-nil (out first.result.history_data)
              ∙ (ap (λ r. out r.history_data) is
              ∙ (showed p ∙ ap show (shown_last query.details S place given join enough p ended))))
          shows first (second ∷ pages) p from is later chain =
              let bytes = chain.1 in
              let next = some_told p bytes (next_of p) refl
              (sym (pointed p) ∙ (ap (λ r. r.continuation_point) (sym is) ∙ chain.2)) in
              let rest : Chain id node query (Some (point next.0)) (second ∷ pages) =
              subst (λ b. Chain id node query (Some b) (second ∷ pages)) next.2 chain.3 in
              let second_is = reads next.0 (good p next.0 next.1) second later.0
              (chain_read (Some (point next.0)) second pages rest) in
              let behind = shows second pages (Some next.0)
              (Some (point next.0)) second_is later.1 rest in
              flat_map-cons (λ (read : Page). out read.result.history_data) first (second ∷ pages)
              ∙ (ap (λ l. l ++ joined (second ∷ pages)) (ap (λ r. out r.history_data) is ∙ showed p)
              ∙ (ap (λ l. show (page query.details p (S p)) ++ l) behind
              ∙ (sym (joins (page query.details p (S p))
              (remaining query.details S place given join enough (Some next.0) (S (Some next.0))))
              ∙ ap show (sym (shown_more query.details S place given join enough p next.0
              next.1)))))

      -- ---- there is a chain

      module _ (contents : ℕ → Content) (later : (n : ℕ) → IsLater R (contents n))
          (can : (p : Position) → IsGood p → (C : Content) → IsLater R C
          → IsRead id node query (Some (point p))
          (record { content = C; result = answer (Some p) }))
        where
          pub record Ends (start : ℕ) (from : Option (List ℕ)) : Type 0 where
            pub pages : List Page
            pub count : ℕ
            pub over : map (λ read. read.content) pages ≡ contents_from contents start count
            pub chain : Chain id node query from pages

          step : (start : ℕ) (p : Option Position) (from : Option (List ℕ))
              → IsRead id node query from (record { content = contents start; result = answer p })
              → (o : Option Position) → next_of p ≡ o
              → ((next : Position) → next_of p ≡ Some next → Ends (start + 1) (Some (point next)))
              → Ends start from
          step start p from read None e on =
              record {
                pages = record { content = contents start; result = answer p } ∷ [];
                count =
                    1;
                over = refl;
                chain = (read, pointed p ∙ ap (option_map point) e);
              }
          step start p from read (Some next) e on =
              let here : Page = record { content = contents start; result = answer p } in
              let rest = on next e in
              record {
                pages = here ∷ rest.pages;
                count = suc rest.count;
                over = ap (λ l. contents start ∷ l) rest.over;
                chain = chain_more from here (point next) rest.pages read
                    (pointed p ∙ ap (option_map point) e) rest.chain;
              }

          pub ends : (fuel start : ℕ) (p : Option Position) (from : Option (List ℕ))
              → length (S p) ≤ fuel
              → IsRead id node query from (record { content = contents start; result = answer p })
              → Ends start from
          ends zero start p from room read =
              step start p from read (next_of p) refl
              (λ next e. absurd (let less =
              shrinks query.details S place given join enough p next e in
              omega (arith, less, room)))
          ends (suc fuel) start p from room read =
              step start p from read (next_of p) refl (λ next e.
              let less = shrinks query.details S place given join enough p next e in
              ends fuel (start + 1) (Some next) (Some (point next)) (omega (arith, less, room))
              (can next (good p next e) (contents (start + 1)) (later (start + 1))))
