-- Why no digits were made, and which were.
use Rattle.std.proofs.Common.{◌≡◌, ℕ, List, [], ◌++◌, Some, None, Ok, Err, IsErr, refl, sym, ◌∙◌, ap, subst, inl, inr, IsUtf8}
use Rattle.std.proofs.lemmas.List.{append-nil}
use Rattle.std.specs.Prelude.{Option, Result}
use Rattle.std.specs.Io.KnownBytes.{Consumes, IsAtEnd}
use Rattle.hex.specs.Hex.{decode_of, encode_upper}
use Rattle.ua_settings.specs.Settings.{SettingsValues}
use Rattle.archive.specs.Store.{Store}
use Rattle.archive.proofs.Acting.{moves-none}
use Rattle.counted_io.specs.declared.fault.ServeFault.{ServeFault}
use Rattle.counted_io.specs.declared.fault.ServeFault.TheVariants.{Read, Write, TooLong, OutOfMemory}
use Rattle.ua_server.specs.declared.either.Served.{Served}
use Rattle.ua_server.specs.declared.hexed.HexFault.{HexFault}
use Rattle.ua_server.specs.declared.hexed.HexFault.TheVariants as hexed
use Rattle.ua_connection.specs.Environments.{Environment}
use Rattle.ua_server.specs.Either.{ConnectionEnding, ServesEither}
use Rattle.ua_server.specs.Hexed.{AnswersText, AnswersHex, IsUntouched, digits_of}
use Rattle.ua_server.specs.Single.{WasText, AnswersDigits, IsConnectionAnswered, IsUnmade}
use Rattle.ua_server.proofs.SingleParts.{IsBadText}
use Rattle.ua_connection.proofs.Outsides.{empty_environment}

-- who sent the bytes of a text was served, and what was written is all that stands behind it
pub given-text : (settings : SettingsValues) (a b : Store) (text input shown before after : List ℕ)
    (left : Option (List ℕ))
    (used : Environment) (ended ending : ConnectionEnding) → decode_of (digits_of text) ≡ Ok input
    → shown ≡ input → before ≡ [] → ended ≡ ending
    → ServesEither settings a b (Some shown) left (Some before) (Some after) used ended
    → AnswersText settings a b text used after ending
given-text settings a b text input shown before after left used ended ending decoded same none is so
    =
    let P : List ℕ → Type 0 = λ s.
    ServesEither settings a b (Some s) left (Some []) (Some after) used ending in
    let Q : List ℕ → Type 0 = λ w.
    ServesEither settings a b (Some shown) left (Some w) (Some after) used ending in
    let S : ConnectionEnding → Type 0 =
    λ e. ServesEither settings a b (Some shown) left (Some before) (Some after) used e in
    (input, left, decoded, subst P same (subst Q none (subst S is so)))

-- ---- why no digits were made

-- nothing was done
pub idle : (s : Store) (used : Environment) → used.marks ≡ [] → used.readings ≡ []
    → IsUntouched s s used
idle s used marks readings = (moves-none s (λ marks R S. S ≡ R) (λ R. refl), readings)

pub made-read : (settings : SettingsValues) (s : Store) (known : Option (List ℕ))
    (fault : ServeFault) → (fault ≡ Write → ⊥) → (fault ≡ TooLong → ⊥)
    → IsUnmade settings s s known empty_environment (hexed.Serve fault)
made-read settings s known Read write long = idle s empty_environment refl refl
made-read settings s known Write write long = absurd (write refl)
made-read settings s known TooLong write long = absurd (long refl)
made-read settings s known OutOfMemory write long = inl (idle s empty_environment refl refl)

-- all bytes of a known input were read
whole-text : (text rest bytes : List ℕ) → text ≡ bytes ++ rest → rest ≡ [] → bytes ≡ text
whole-text text rest bytes read over = sym (read ∙ ap (λ r. bytes ++ r) over ∙ append-nil bytes)

was-text : (known left : Option (List ℕ)) (bytes : List ℕ) → Consumes known left bytes
    → IsAtEnd left → WasText known bytes
was-text None left bytes read over = tt
was-text (Some text) None bytes read over = absurd read
was-text (Some text) (Some rest) bytes read over = whole-text text rest bytes read over

pub made-bad : (known left : Option (List ℕ)) (bytes : List ℕ) → Consumes known left bytes
    → IsAtEnd left → (IsUtf8 bytes → ⊥) → IsBadText known
made-bad known left bytes read over bad = (bytes, was-text known left bytes read over, inl bad)

unspelled : (known left : Option (List ℕ)) (bytes : List ℕ) → Consumes known left bytes
    → IsAtEnd left → IsErr (decode_of (digits_of bytes)) → IsBadText known
unspelled known left bytes read over bad = (bytes, was-text known left bytes read over, inr bad)

module _ (settings : SettingsValues) (first last : Store) where
  -- what was answered to the bytes that were read was answered to the input
  answered-known : (known left : Option (List ℕ)) (bytes : List ℕ) (used : Environment)
      (out : List ℕ) (ending : ConnectionEnding) (P : ConnectionEnding → Type 0)
      → Consumes known left bytes → IsAtEnd left
      → AnswersText settings first last bytes used out ending → P ending
      → IsConnectionAnswered settings first last known used P
  answered-known known left bytes used out ending P read over answers so =
      (bytes, was-text known left bytes read over, (out, ending, answers, so))

  unmade : (known left : Option (List ℕ)) (bytes : List ℕ) (used : Environment) (old new : List ℕ)
      (fault : HexFault) → Consumes known left bytes → IsAtEnd left
      → AnswersHex settings first last bytes used old new (Err fault)
      → IsUnmade settings first last known used fault
  unmade known left bytes used old new hexed.BadHex read over so =
      (unspelled known left bytes read over so.0, so.2)
  unmade known left bytes used old new (hexed.Serve Read) read over so = absurd so
  unmade known left bytes used old new (hexed.Serve Write) read over so = absurd so
  unmade known left bytes used old new (hexed.Serve TooLong) read over so =
      answered-known known left bytes used so.0.0 (Err TooLong)
      (λ ending. ending ≡ Err TooLong) read over so.0.1 refl
  unmade known left bytes used old new (hexed.Serve OutOfMemory) read over so = elim so.1 [
    | inl quiet ↦ inl quiet
    | inr done ↦ inr (answered-known known left bytes used done.0 done.1
        (λ ending. Unit {0}) read over done.2 tt)
  ]

  pub made-none : (known left : Option (List ℕ)) (text bytes : List ℕ) (used : Environment)
      (old new : List ℕ) (result : Result Served HexFault) (fault : HexFault)
      → Consumes known left bytes → IsAtEnd left → text ≡ bytes → result ≡ Err fault
      → AnswersHex settings first last text used old new result
      → IsUnmade settings first last known used fault
  made-none known left text bytes used old new result fault read over same is so =
      let P : Result Served HexFault → Type 0 = AnswersHex settings first last text used old new in
      let Q : List ℕ → Type 0 = λ t. AnswersHex settings first last t used old new (Err fault) in
      unmade known left bytes used old new fault read over (subst Q same (subst P is so))

  -- the digits that were made
  made : (known left : Option (List ℕ)) (bytes : List ℕ) (used : Environment) (old new : List ℕ)
      (served : Served) → Consumes known left bytes → IsAtEnd left → old ≡ []
      → AnswersHex settings first last bytes used old new (Ok served)
      → AnswersDigits settings first last known used new
  made known left bytes used old new served read over none so = (
    bytes,
    was-text known left bytes read over,
    (so.0, served, so.1, so.2 ∙ ap (λ (front : List ℕ). front ++ encode_upper so.0) none),
  )

  pub made-digits : (known left : Option (List ℕ)) (text bytes : List ℕ) (used : Environment)
      (old new : List ℕ) (result : Result Served HexFault) (served : Served)
      → Consumes known left bytes → IsAtEnd left → text ≡ bytes → old ≡ [] → result ≡ Ok served
      → AnswersHex settings first last text used old new result
      → AnswersDigits settings first last known used new
  made-digits known left text bytes used old new result served read over same none is so =
      let P : Result Served HexFault → Type 0 = AnswersHex settings first last text used old new in
      let Q : List ℕ → Type 0 = λ t. AnswersHex settings first last t used old new (Ok served) in
      made known left bytes used old new served read over none (subst Q same (subst P is so))
