-- Which rows, of the columns of currents2 that a value needs, show one.
use Rattle.std.specs.Prelude.{◌≡◌, ℕ, ℤ, pos, ◌≤◌, List, Ok}
use Rattle.ua_variant.specs.declared.data.DataValue.{DataValue}
use Rattle.ua_variant.specs.DataValue.{data_value}
use Rattle.sqlite_value.specs.declared.value.Value.TheVariants.{Int, Blob as Bytes}
use Rattle.sqlite_value.specs.Order.{Row, column}
use Rattle.records.specs.Lists.{Has}

-- the row has a moment, whether others stand there, and bytes that begin with a value
pub record IsReadable (c : Row) : Type 0 where
  pub time : (ticks : ℤ) × (column c 0 ≡ Int ticks)
  pub pico : (tens : ℕ) × (column c 1 ≡ Int (pos tens)) × (tens ≤ 9999)
  pub extra : (others : ℤ) × (column c 2 ≡ Int others)
  pub bytes : List ℕ
  pub spelled : column c 3 ≡ Bytes bytes
  pub value : (read : DataValue × List ℕ) × (data_value.read bytes ≡ Ok read)

-- one of these rows isn't so
abbrev pub HasUnreadable : List Row → Type 0
HasUnreadable rows = (c : Row) × Has rows c × (IsReadable c → ⊥)
