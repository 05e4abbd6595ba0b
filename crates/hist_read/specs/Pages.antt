-- How a page of raw values is made of what the archive answers.
use Rattle.std.specs.Prelude.{◌≡◌, Vec, ℕ, ◌+◌, nat_le, ℤ, Bool, true, not, ◌&&◌, if◌then◌else◌, List, [], ◌∷◌, ◌++◌, filter, take, length, Option, None, Some}
use Rattle.std.specs.Global.{Global}
use Rattle.std.specs.Option.{option_to_list}
use Rattle.ua_binary.specs.declared.values.NodeId.{NodeId}
use Rattle.records.specs.Contents.{Content}
use Rattle.records.specs.declared.shown.Held.{Held}
use Rattle.hist_read.specs.Asking.{has_both, end_time, direction}
use Rattle.hist_read.specs.Reads.{is_near_alone, body_part, far_value, value_or_missing, open_bound, value_items, last_time, time_before, page_size, page, raw, next_place, raw_position, modified, modified_position, near}
use Rattle.ua_services.specs.declared.history.ReadRawModifiedDetails.{ReadRawModifiedDetails as Details}
use Rattle.hist_read.specs.declared.point.Position.{Position}
use Rattle.hist_read.specs.declared.item.Item.{Item}
use Rattle.hist_read.specs.declared.raw.Found.{Found}
use Rattle.hist_read.specs.declared.raw.RawPage.{RawPage}
use Rattle.hist_read.specs.declared.modified.ModifiedPage.{ModifiedPage}

-- the most values that an archive is asked for at a time
abbrev pub portion : ℕ
portion = 32

-- how many values are asked for: one more than the page may have; none where the near bound alone
-- is asked for
abbrev pub body_limit : Details → Option Position → ℕ
body_limit q p = if is_near_alone q then 0 else page_size q p + 1

-- the far bound is asked for
abbrev pub has_far : Details → Bool
has_far q = q.return_bounds && not (is_near_alone q)

-- the values behind the near bound, one more than the page has, and the one at the far limit
pub record IsFoundBehind (R : Content) (node : NodeId) (q : Details) (p : Option Position)
    (found : Vec Held Global × Option Held) : Type 0 where
  pub body : found.0.items ≡ take (page_size q p + 1) (body_part R node q p)
  pub far : has_both q ≡ true → has_far q ≡ true → found.1 ≡ far_value R node q (end_time q)

-- the near bound, one value more than the page has, and the value at the far limit
pub record IsFound (R : Content) (node : NodeId) (q : Details) (p : Option Position)
    (found : Found) : Type 0 where
  pub near : option_to_list found.near
      ≡ (elim p [ None ↦ if q.return_bounds then near R node q ∷ [] else [] | Some p ↦ [] ])
  pub body : found.body.items ≡ take (page_size q p + 1) (body_part R node q p)
  pub far : has_both q ≡ true → has_far q ≡ true → found.far ≡ far_value R node q (end_time q)

-- the far bound of the value at the far limit, behind an item of this time
abbrev pub far_item : Details → Option Held → ℤ → Item
far_item q value before =
    if has_both q then value_or_missing (end_time q) value else open_bound (direction q) before

-- the far bound behind these items, where it is due
abbrev pub far_of : Details → Option Position → (is_due : Bool) → List Item → Option Held
    → List Item
far_of q p is_due items value =
    if is_due then far_item q value (last_time (time_before q p) items) ∷ [] else []

-- what was found, in a row; the far bound where the values end within the page
abbrev pub row_of : Details → Option Position → List Item → List Held → Option Held → List Item
row_of q p near body far =
    (near ++ value_items body)
    ++ far_of q p (has_far q && nat_le (length body) (page_size q p)) (near ++ value_items body) far

-- the page, and the place where it ends, in case another one follows
pub record IsRawPage (R : Content) (node : NodeId) (q : Details) (p : Option Position)
    (found : RawPage) : Type 0 where
  pub items : found.items.items ≡ page q p (raw R node q p)
  pub next : found.next ≡ next_place (raw_position q p) q p (raw R node q p)

-- the same of modifications
pub record IsModifiedPage (R : Content) (node : NodeId) (q : Details) (p : Option Position)
    (found : ModifiedPage) : Type 0 where
  pub items : found.entries.items ≡ page q p (modified R node q p)
  pub next : found.next ≡ next_place (modified_position q p) q p (modified R node q p)
