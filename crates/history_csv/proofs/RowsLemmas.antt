-- Rows: their fields, and that what is written is read.
use Rattle.std.proofs.Common.{◌≡◌, ℕ, zero, suc, ◌<◌, ℤ, nat_lt, true, false, List, [], ◌∷◌, ◌++◌, length, Option, Some, None, unwrap_or, Result, Ok, Err, ok_or, refl, ap, ◌∙◌, arith}
use Rattle.std.specs.Prelude.{if◌then◌else◌, OnOk}
use Rattle.std.specs.Str.{bytes_eq}
use Rattle.std.proofs.lemmas.Bool.Decides.{nat_tests}
use Rattle.csv.specs.Machine.{Read}
use Rattle.csv.specs.Records.{field_at}
use Rattle.csv.specs.Writing.{default_writer, row_text}
use Rattle.csv.proofs.RoundTrip.{read-write-many}
use Rattle.ua_binary.specs.declared.values.NodeId.{NodeId}
use Rattle.ua_variant.specs.Scalar.{scalar_number}
use Rattle.ua_variant.specs.Values.{array_number}
use Rattle.ua_variant.specs.declared.value.Scalar.{Scalar}
use Rattle.ua_variant.specs.declared.value.Array.{Array}
use Rattle.ua_variant.specs.declared.value.ValueType.{ValueType}
use Rattle.ua_variant.specs.declared.value.Variant.{Variant}
use Rattle.ua_variant.specs.declared.value.Variant.TheVariants.{Scalar as One, Array as Many}
use Rattle.records.specs.Moments.{pico_of, pico_within, whole_again}
use Rattle.records.specs.declared.shown.Held.{Held}
use Rattle.history_text.specs.Statuses.{kept, status_in}
use Rattle.history_text.specs.Times.{◌>>=◌, time_in}
use Rattle.history_text.specs.Arrays.{◌>>?◌, array_again, IsArrayText}
use Rattle.history_text.specs.Values.{value_in, read_back}
use Rattle.history_text.specs.declared.fault.TextFault.{TextFault}
use Rattle.history_csv.specs.declared.fields.Row.{Row}
use Rattle.history_csv.specs.declared.fault.RowFault.{RowFault}
use Rattle.history_csv.specs.declared.fault.RowFault.TheVariants as Fault
use Rattle.history_csv.specs.Nodes.{node_in}
use Rattle.history_csv.specs.Rows.{moment_by_parts, moment_in, optional_in, row_in, time_of, read_again, row_again, IsAppended, IsTypeOf, AreReadFields, row_of, row_at}

-- a moment's picoseconds are within a step
within : (time : ℤ) → nat_lt 9999 (pico_of time) ≡ false
within time = grind (arith, nat_tests, pico_within time)

-- a field within a row is there
pub is_there : (fields : List (List ℕ)) (i : ℕ) → i < length fields → field_at fields i ≡ None → ⊥
unfolding field_at
is_there [] i h e = omega arith
is_there (x ∷ fields) zero h e = cc
is_there (x ∷ fields) (suc i) h e = is_there fields i (omega arith) e

-- four fields are the row
pub four_are : (fields : List (List ℕ)) (a b c d : List ℕ) → length fields ≡ 4
    → field_at fields 0 ≡ Some a → field_at fields 1 ≡ Some b → field_at fields 2 ≡ Some c
    → field_at fields 3 ≡ Some d → fields ≡ a ∷ b ∷ c ∷ d ∷ []
unfolding field_at
four_are (x ∷ y ∷ z ∷ w ∷ []) a b c d long p q r s = cc
four_are [] a b c d long p q r s = absurd (omega (arith, long))
four_are (x ∷ []) a b c d long p q r s = absurd (omega (arith, long))
four_are (x ∷ y ∷ []) a b c d long p q r s = absurd (omega (arith, long))
four_are (x ∷ y ∷ z ∷ []) a b c d long p q r s = absurd (omega (arith, long))
four_are (x ∷ y ∷ z ∷ w ∷ v ∷ l) a b c d long p q r s = absurd (omega (arith, long))

-- a value that was there, and one that wasn't
pub given : {A E : Type 0} (o : Option A) (e : E) (x : A) → ok_or o e ≡ Ok x → o ≡ Some x
given (Some y) e x h = cc
given None e x h = absurd cc

pub lacking : {A E : Type 0} (o : Option A) (e f : E) → ok_or o e ≡ Err f → o ≡ None
lacking (Some y) e f h = absurd cc
lacking None e f h = refl

-- ---- what is written is read

-- what is answered of a value that was read
abbrev answered : List ℕ → Result Variant TextFault → Result (Option Variant) RowFault
answered text r =
    elim r [
      | Ok value ↦ Ok (Some value)
      | Err why ↦ if bytes_eq text [] then Ok None else Err (Fault.Value why)
    ]

-- a value that a text says is read as it
pub read_one : (type : ValueType) (text : List ℕ) (v : Scalar)
    → type ≡ record { number = scalar_number v; array = false }
    → value_in (scalar_number v) text ≡ Ok (read_back v)
    → optional_in type text ≡ Ok (Some (One (read_back v)))
read_one type text v is e =
    ap (λ type. optional_in type text) is ∙ ap (λ r. answered text (r >>? λ v. Ok (One v))) e

-- an array that a text says is read as it
pub read_many : (type : ValueType) (text : List ℕ) (a : Array)
    → type ≡ record { number = array_number a; array = true } → IsArrayText a text
    → optional_in type text ≡ Ok (Some (Many (array_again a)))
read_many type text a is e =
    ap (λ type. optional_in type text) is ∙ ap (λ r. answered text (r >>? λ a. Ok (Many a))) e.1

-- a moment that is read by its parts is it
pub moment_again : (text : List ℕ) (time : ℤ) → time_in text ≡ Some (time_of time)
    → moment_in text ≡ Some time
moment_again text time e =
    ap (λ o. o >>= moment_by_parts) e ∙ rw (within time, whole_again time) refl

-- the fields of a live value's row are read as it
pub row_is_read : (type : ValueType) (node : NodeId) (held : Held) (n t v s : List ℕ)
    → node_in n ≡ Some node → moment_in t ≡ Some held.time
    → optional_in type v ≡ read_again type held.value.value
    → status_in s ≡ Some (kept (unwrap_or held.value.status (record { 0 = 0 })))
    → row_in type n t v s ≡ row_again type node held
row_is_read type node held n t v s p q r u = rw (p, q, r, u) refl

-- a row that is put is appended, of the fields that it is put of
pub appended : {A E : Type 0} (r : Result A E) (old new : List ℕ) (fields : List (List ℕ))
    (AreFields : List (List ℕ) → Type 0)
    → OnOk r (new ≡ old ++ row_text default_writer fields) → AreFields fields
    → OnOk r (IsAppended old new AreFields)
appended (Ok x) old new fields AreFields put are = (fields, put, are)
appended (Err e) old new fields AreFields put are = tt

-- the row of what is read first
abbrev first : (type : ValueType) → Option Read → Result Row RowFault
first type o = elim o [ Some read ↦ row_of type read.0 | None ↦ Err Fault.Fields ]

-- a row that was written is read again, whatever follows it
pub written_row : (type : ValueType) (node : NodeId) (held : Held) (fields : List (List ℕ))
    (rest : List ℕ) → AreReadFields node held fields → IsTypeOf type held.value.value
    → row_at type (row_text default_writer fields ++ rest) ≡ row_again type node held
written_row type node held (n ∷ t ∷ v ∷ s ∷ []) rest are typed =
    ap (first type) (read-write-many n t (v ∷ s ∷ []) rest) ∙ are.1 type typed
written_row type node held [] rest are typed = absurd are.0
written_row type node held (n ∷ []) rest are typed = absurd are.0
written_row type node held (n ∷ t ∷ []) rest are typed = absurd are.0
written_row type node held (n ∷ t ∷ v ∷ []) rest are typed = absurd are.0
written_row type node held (n ∷ t ∷ v ∷ s ∷ u ∷ l) rest are typed = absurd are.0
