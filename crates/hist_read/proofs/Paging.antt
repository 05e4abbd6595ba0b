-- What was found makes the page.
use Rattle.std.proofs.Common.{◌≡◌, ℕ, ◌+◌, ◌≤◌, ◌<◌, nat_lt, nat_le, ℤ, Bool, true, false, cond, not, ◌&&◌, List, [], ◌∷◌, ◌++◌, take, drop, length, Option, Some, None, option_map, refl, sym, ap, ◌∙◌, arith, inl, inr}
use Rattle.std.specs.Option.{option_to_list, option_map_or}
use Rattle.std.proofs.lemmas.Bool.{cases_Bool}
use Rattle.std.proofs.lemmas.Bool.Decides.{nat_tests}
use Rattle.std.proofs.lemmas.List.{take_all, take-map, take-take, take-append-le, take-append-drop, append_assoc, append-nil, length-append, length-take, length-map}
use Rattle.ua_binary.specs.declared.values.NodeId.{NodeId}
use Rattle.records.specs.Contents.{Content}
use Rattle.records.specs.Lists.{last}
use Rattle.records.specs.declared.shown.Held.{Held}
use Rattle.records.specs.declared.shown.Entry.{Entry}
use Rattle.hist_read.specs.Asking.{has_both, direction, end_time}
use Rattle.hist_read.specs.Reads.{body_part, far, far_value, value_or_missing, open_bound, value_items, last_time, time_before, before_far, raw, page_size, page, is_spent, next_place, raw_position, modified, modified_position}
use Rattle.hist_read.proofs.ReadsParts.{near_part, goes_on, far_part}
use Rattle.hist_read.specs.Pages.{IsFound, has_far, far_item, far_of, row_of}
use Rattle.ua_services.specs.declared.history.ReadRawModifiedDetails.{ReadRawModifiedDetails as Details}
use Rattle.hist_read.specs.declared.point.Position.{Position}
use Rattle.hist_read.specs.declared.item.Item.{Item}
use Rattle.hist_read.specs.declared.item.Item.TheVariants.{Value}
use Rattle.hist_read.specs.declared.raw.Found.{Found}
use Rattle.hist_read.proofs.Filters.{longer}

-- a page of a list with a tail, from one element more than the page
gathered : {X : Type 0} (n : ℕ) (head body tail : List X) → n < length (head ++ take (n + 1) body)
    → take n (head ++ take (n + 1) body) ≡ take n (head ++ (body ++ tail))
gathered n head body tail h =
    let whole : head ++ (body ++ tail)
    ≡ (head ++ take (n + 1) body) ++ (drop (n + 1) body ++ tail) =
    ap (λ b. head ++ (b ++ tail)) (sym (take-append-drop (n + 1) body))
    ∙ (ap (λ l. head ++ l) (append_assoc (take (n + 1) body) (drop (n + 1) body) tail)
    ∙ sym (append_assoc head (take (n + 1) body) (drop (n + 1) body ++ tail))) in
    let fits : n ≤ length (head ++ take (n + 1) body) = omega arith in
    sym (ap (take n) whole ∙ take-append-le n (head ++ take (n + 1) body)
    (drop (n + 1) body ++ tail) fits)

module _ (R : Content) (node : NodeId) (q : Details) (p : Option Position) (found : Found)
    (is : IsFound R node q p found) where
  abbrev n : ℕ
  n = page_size q p

  abbrev N : List Item
  N = near_part R node q p

  abbrev B : List Held
  B = body_part R node q p

  -- the far bound is that of the value that was found
  far_is : (before : ℤ) → has_far q ≡ true → far_item q found.far before ≡ far R node q before
  far_is before due = go (has_both q) refl
    where
      go : (b : Bool) → has_both q ≡ b
          → cond b (value_or_missing (end_time q) found.far) (open_bound (direction q) before)
          ≡ option_map_or (λ f. value_or_missing f (far_value R node q f))
          (cond b (Some (end_time q)) None) (open_bound (direction q) before)
      go true e = ap (value_or_missing (end_time q)) (is.far e due)
      go false e = refl

  far_part_is : (before : ℤ) → cond (has_far q && true) (far_item q found.far before ∷ []) []
      ≡ far_part R node q before
  far_part_is before = go (has_far q) refl
    where
      go : (b : Bool) → has_far q ≡ b
          → cond (b && true) (far_item q found.far before ∷ []) []
          ≡ cond b (far R node q before ∷ []) []
      go true e = ap (λ x. x ∷ []) (far_is before e)
      go false e = refl

  abbrev row : List Item
  row = row_of q p (option_to_list found.near) found.body.items found.far

  front_is : option_to_list found.near ++ value_items found.body.items
      ≡ N ++ value_items (take (n + 1) B)
  front_is = ap (λ l. l ++ value_items found.body.items) is.near
      ∙ ap (λ b. N ++ value_items b) is.body

  -- the values end within the page
  all_found : length B ≤ n → row ≡ raw R node q p
  all_found fits =
      let whole : take (n + 1) B ≡ B = take_all (n + 1) B (omega arith) in
      let front : option_to_list found.near ++ value_items found.body.items
      ≡ before_far R node q p = front_is ∙ ap (λ b. N ++ value_items b) whole in
      let within : nat_le (length B) n ≡ true = grind (arith, nat_tests) in
      let ends : nat_le (length found.body.items) n ≡ true =
      ap (λ b. nat_le (length b) n) (is.body ∙ whole) ∙ within in
      ap (λ f. f ++ far_of q p (has_far q && nat_le (length found.body.items) n) f found.far) front
      ∙ ap (λ l. before_far R node q p
      ++ l) (ap (λ b. far_of q p (has_far q && b) (before_far R node q p) found.far) ends
      ∙ far_part_is (last_time (time_before q p) (before_far R node q p)))

  none_due : (b : Bool) (f : List Item) → far_of q p (b && false) f found.far ≡ []
  none_due true f = refl
  none_due false f = refl

  part_found : n < length B → row ≡ N ++ take (n + 1) (value_items B)
  part_found more =
      let some : length (take (n + 1) B) ≡ n + 1 = length-take (n + 1) B ∙ omega arith in
      let beyond : nat_le (n + 1) n ≡ false = grind (arith, nat_tests) in
      let on : nat_le (length found.body.items) n ≡ false =
      ap (λ b. nat_le (length b) n) is.body ∙ (ap (λ k. nat_le k n) some ∙ beyond) in
      ap (λ b. (option_to_list found.near ++ value_items found.body.items)
      ++ far_of q p (has_far q && b)
      (option_to_list found.near ++ value_items found.body.items) found.far) on
      ∙ (ap (λ l. (option_to_list found.near ++ value_items found.body.items) ++ l)
      (none_due (has_far q) (option_to_list found.near ++ value_items found.body.items))
      ∙ (append-nil _ ∙ (front_is ∙ ap (λ l. N ++ l) (sym (take-map (λ h. Value h) (n + 1) B)))))

  row_longer : n < length B → n < length (N ++ take (n + 1) (value_items B))
  row_longer more =
      let some : length (take (n + 1) (value_items B)) ≡ n + 1 =
      length-take (n + 1) (value_items B) ∙ (rw length-map (omega arith)) in
      rw (length-append, some) (omega arith)

  raw_is : raw R node q p ≡ N ++ (value_items B
      ++ far_part R node q (last_time (time_before q p) (before_far R node q p)))
  raw_is = append_assoc N (value_items B) _

  pub row_page : page q p row ≡ page q p (raw R node q p)
  row_page = elim (cases_Bool (nat_le (length B) n)) [
    | inl e ↦ ap (take n) (all_found (grind (arith, nat_tests, e)))
    | inr e ↦
        let more : n < length B = grind (arith, nat_tests, e) in
        ap (take n) (part_found more) ∙ (gathered n N (value_items B) _ (row_longer more)
        ∙ ap (take n) (sym raw_is))
  ]

  pub row_goes : nat_lt n (length row) ≡ nat_lt n (length (raw R node q p))
  row_goes = elim (cases_Bool (nat_le (length B) n)) [
    | inl e ↦ ap (λ l. nat_lt n (length l)) (all_found (grind (arith, nat_tests, e)))
    | inr e ↦
        let more : n < length B = grind (arith, nat_tests, e) in
        let long = row_longer more in
        let whole : n < length (raw R node q p) =
        rw (raw_is, length-append, length-append, length-map) (omega arith) in
        ap (λ l. nat_lt n (length l)) (part_found more) ∙ (is_below _ long ∙ sym (is_below _ whole))
  ]
    where
      is_below : (m : ℕ) → n < m → nat_lt n m ≡ true
      is_below m h = grind (arith, nat_tests)

  -- the place where the page ends
  pub row_next : next_place (raw_position q p) q p row
      ≡ next_place (raw_position q p) q p (raw R node q p)
  row_next =
      ap (λ b. cond (b && not (is_spent q p))
      (option_map (raw_position q p) (last (page q p row))) None) row_goes
      ∙ ap (λ l. cond (goes_on q p (raw R node q p)) (option_map (raw_position q p) (last l)) None)
      row_page

-- ---- modifications

module _ (R : Content) (node : NodeId) (q : Details) (p : Option Position) (xs found : List Entry)
    (is : found ≡ take (page_size q p + 1) xs) (all : xs ≡ modified R node q p) where
  pub modified_page : page q p found ≡ page q p (modified R node q p)
  modified_page = ap (page q p) is ∙ (take-take (page_size q p) (page_size q p + 1) xs (omega arith)
      ∙ ap (page q p) all)

  pub modified_next : next_place (modified_position q p) q p found
      ≡ next_place (modified_position q p) q p (modified R node q p)
  modified_next =
      ap (λ b. cond (b && not (is_spent q p)) (option_map (modified_position q p)
      (last (page q p found))) None) (ap (λ l. nat_lt (page_size q p) (length l)) is
      ∙ (longer (page_size q p) xs ∙ ap (λ l. nat_lt (page_size q p) (length l)) all))
      ∙ ap (λ l. cond (goes_on q p (modified R node q p))
      (option_map (modified_position q p) (last l)) None) modified_page
