-- A page, and what follows it.
use Rattle.std.proofs.Common.{◌≡◌, ℕ, zero, suc, ◌+◌, ◌-◌, ◌<◌, nat_lt, ℤ, ◌≤ℤ◌, Bool, true, false, cond, not, List, [], ◌∷◌, ◌++◌, take, drop, length, slice_get, Option, Some, None, option_map, refl, sym, ap, ◌∙◌, arith}
use Rattle.std.proofs.lemmas.Bool.Decides.{nat_tests}
use Rattle.std.proofs.lemmas.Bool.{and_parts}
use Rattle.std.proofs.lemmas.List.{length-take, take-append-drop}
use Rattle.std.proofs.lemmas.Option.{none-some}
use Rattle.ua_binary.specs.declared.values.NodeId.{NodeId}
use Rattle.records.specs.Lists.{last}
use Rattle.records.specs.Contents.{Content}
use Rattle.records.specs.declared.shown.Entry.{Entry}
use Rattle.archive.specs.Reading.{is_between, log_of, place_of}
use Rattle.archive.specs.Store.{IsLawfulContent}
use Rattle.archive.proofs.Resuming.{log_resumes}
use Rattle.hist_read.specs.Asking.{first_time, direction}
use Rattle.hist_read.specs.Reads.{greatest_time, in_body, place_at, modified, modified_position, page_size, page, is_spent, next_place}
use Rattle.hist_read.proofs.ReadsParts.{goes_on}
use Rattle.ua_services.specs.declared.history.ReadRawModifiedDetails.{ReadRawModifiedDetails as Details}
use Rattle.hist_read.specs.declared.point.Position.{Position}
use Rattle.hist_read.proofs.Lives.{log_reads}

-- the last of a first part
pub last_of_take : {X : Type 0} (n : ℕ) (xs : List X) (x : X) → n < length xs
    → last (take n xs) ≡ Some x → (k : ℕ) × (n ≡ k + 1) × (slice_get xs k ≡ Some x)
last_of_take zero [] x h e = absurd (none-some _ e)
last_of_take zero (y ∷ ys) x h e = absurd (none-some _ e)
last_of_take (suc n) xs x h e =
    let size : length (take (suc n) xs) - 1 ≡ n =
    ap (λ k. k - 1) (length-take (suc n) xs) ∙ omega arith in (
      n,
      omega arith,
      sym (got n (suc n) xs (omega arith))
          ∙ (ap (slice_get (take (suc n) xs)) (sym size) ∙ e),
    )
  where
    got : {X : Type 0} (k n : ℕ) (xs : List X) → k < n → slice_get (take n xs) k ≡ slice_get xs k
    got k zero xs h = absurd (omega arith)
    got k (suc n) [] h = refl
    got zero (suc n) (x ∷ xs) h = refl
    got (suc k) (suc n) (x ∷ xs) h = got k n xs (omega arith)

module _ (R : Content) (node : NodeId) (q : Details) (from to : ℤ) (lawful : IsLawfulContent R)
    (span : (t : ℤ) → first_time ≤ℤ t → t ≤ℤ greatest_time → is_between from to t ≡ in_body q t)
  where
    module _ (p : Option Position) where
      abbrev S : List Entry
      S = modified R node q p

      rest : (e : Entry) → page_size q p < length S → last (page q p S) ≡ Some e
          → S ≡ page q p S ++ modified R node q (Some (modified_position q p e))
      rest e more is =
          let n = page_size q p in
          let d = direction q in
          let k = last_of_take n S e more is in
          let log = log_of R node from to (place_at p) d in
          let all : log ≡ S = log_reads R node q (place_at p) from to lawful span in
          let at : slice_get log k.0 ≡ Some e = ap (λ l. slice_get l k.0) all ∙ k.2 in
          let on : log_of R node from to (Some (place_of e)) d ≡ drop (k.0 + 1) log =
          log_resumes R node from to (place_at p) d k.0 e lawful.closed at in
          let after : modified R node q (Some (modified_position q p e)) ≡ drop n S =
          sym (log_reads R node q (Some (place_of e)) from to lawful span)
          ∙ (on ∙ (ap (λ m. drop m log) (sym k.1) ∙ ap (drop n) all)) in
          sym (take-append-drop n S) ∙ ap (λ l. take n S ++ l) (sym after)

      pub modified_join : (next : Position) → next_place (modified_position q p) q p S ≡ Some next
          → S ≡ page q p S ++ modified R node q (Some next)
      modified_join next is = go (goes_on q p S) refl is
        where
          at : goes_on q p S ≡ true → (o : Option Entry) → last (page q p S) ≡ o
              → option_map (modified_position q p) o ≡ Some next
              → S ≡ page q p S ++ modified R node q (Some next)
          at on None e f = absurd (none-some _ f)
          at on (Some x) e f =
              let tests = and_parts (nat_lt (page_size q p) (length S)) (not (is_spent q p)) on in
              let more : page_size q p < length S = grind (arith, nat_tests, tests.0) in
              rest x more e ∙ ap (λ o. page q p S ++ modified R node q o) f

          go : (b : Bool) → goes_on q p S ≡ b
              → cond b (option_map (modified_position q p) (last (page q p S))) None ≡ Some next
              → S ≡ page q p S ++ modified R node q (Some next)
          go false e f = absurd (none-some _ f)
          go true e f = at e (last (page q p S)) refl f
