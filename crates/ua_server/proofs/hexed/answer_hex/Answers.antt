use Rattle.std.proofs.Common.{rules, ◌≡◌, ◌++◌, List, [], ℕ, Err, refl, ap, inl, inr}
use Rattle.std.specs.Prelude.{IsErr}
use Rattle.hex.specs.Hex.{decode_of, encode_upper}
use Rattle.ua_settings.specs.Settings.{SettingsValues}
use Rattle.archive.specs.Store.{Store}
use Rattle.archive.proofs.Acting.{moves-none}
use Rattle.counted_io.specs.declared.fault.ServeFault.TheVariants.{Read, Write, TooLong, OutOfMemory}
use Rattle.ua_server.specs.declared.hexed.HexFault.{HexFault}
use Rattle.ua_server.specs.declared.hexed.HexFault.TheVariants.{BadHex, Serve}
use Rattle.ua_connection.specs.Environments.{Environment}
use Rattle.ua_server.specs.Hexed.{digits_of, IsUntouched, AnswersHex, IsBadOrStarved}
use Rattle.ua_connection.proofs.Outsides.{empty_environment}
use Rattle.ua_server.proofs.Hexing.{given-text}
use Rattle.ua_server.proofs.hexed.answer_hex.Goals as goal

undecoded : (settings : SettingsValues) (a b : Store) (text : List ℕ) (used : Environment)
    (before : List ℕ) (fault : HexFault) → IsBadOrStarved fault
    → (fault ≡ BadHex → IsErr (decode_of (digits_of text))) → IsUntouched a b used
    → AnswersHex settings a b text used before before (Err fault)
undecoded settings a b text used before BadHex told bad untouched = (bad refl, refl, untouched)
undecoded settings a b text used before (Serve Read) told bad untouched = absurd told
undecoded settings a b text used before (Serve Write) told bad untouched = absurd told
undecoded settings a b text used before (Serve TooLong) told bad untouched = absurd told
undecoded settings a b text used before (Serve OutOfMemory) told bad untouched =
    (refl, inl untouched)

pub returns-in-Err-clause-answers : goal.returns-in-Err-clause-answers
returns-in-Err-clause-answers g c =
    let s = g.A.Archive.state c.args.server.now.replica.archive in (
      empty_environment,
      g.met.C.Clock.gave_none c.args.clock.now,
      undecoded c.args.server.now.settings s s c.args.text.now empty_environment
          c.args.out.now.items c.in-Err.fault c.in-Err.ensures.memory
          (λ e. c.in-Err.ensures.bad (ap Err e)) (
            moves-none s (λ marks R S. S ≡ R) (λ R. refl),
            refl,
          ),
    )

pub returns-in-Err-TooLong-clause-answers : goal.returns-in-Err-TooLong-clause-answers
returns-in-Err-TooLong-clause-answers g c =
    let told = c.in-Err-TooLong.ensures.serves in
    let read : c.new-reader.result.inner.now ≡ c.in-Ok.input.items = search rules in
    let none : c.new-writer.result.inner.items ≡ [] = search rules in (
      told.0,
      told.1,
      (
        (
          _,
          given-text _ _ _ c.args.text.now _ _ _ _ _ _ _ _ c.in-Ok.ensures.ok read
              none (ap Err c.in-Err-TooLong.field-0-is) told.2,
        ),
        refl,
      ),
    )

pub returns-in-Err-serve-clause-answers : goal.returns-in-Err-serve-clause-answers
returns-in-Err-serve-clause-answers g c =
    let told = c.serve.ensures.serves in
    let read : c.new-reader.result.inner.now ≡ c.in-Ok.input.items = search rules in
    let none : c.new-writer.result.inner.items ≡ [] = search rules in (
      told.0,
      told.1,
      (
        refl,
        inr (
          _,
          _,
          given-text _ _ _ c.args.text.now _ _ _ _ _ _ _ _ c.in-Ok.ensures.ok read none refl told.2,
        ),
      ),
    )

pub returns-in_default-clause-answers : goal.returns-in_default-clause-answers
returns-in_default-clause-answers g c =
    let told = c.serve.ensures.serves in
    let read : c.new-reader.result.inner.now ≡ c.in-Ok.input.items = search rules in
    let none : c.new-writer.result.inner.items ≡ [] = search rules in (
      told.0,
      told.1,
      (
        refl,
        inr (
          _,
          _,
          given-text _ _ _ c.args.text.now _ _ _ _ _ _ _ _ c.in-Ok.ensures.ok read none refl told.2,
        ),
      ),
    )

pub returns-in-Ok-extend_from_slice-clause-answers :
    goal.returns-in-Ok-extend_from_slice-clause-answers
returns-in-Ok-extend_from_slice-clause-answers g c =
    let told = c.in-Ok-serve.ensures.serves in
    let read : c.new-reader.result.inner.now ≡ c.in-Ok.input.items = search rules in
    let none : c.new-writer.result.inner.items ≡ [] = search rules in
    let more : c.extend_from_slice.new.self.items
    ≡ c.args.out.now.items ++ encode_upper c.serve.new.writer.inner.items = search rules in (
      told.0,
      told.1,
      (
        _,
        given-text _ _ _ c.args.text.now _ _ _ _ _ _ _ _ c.in-Ok.ensures.ok read
            none refl told.2,
        more,
      ),
    )

pub returns-clause-answers : goal.returns-clause-answers
returns-clause-answers g c =
    let told = c.serve.ensures.serves in
    let read : c.new-reader.result.inner.now ≡ c.in-Ok.input.items = search rules in
    let none : c.new-writer.result.inner.items ≡ [] = search rules in
    let same : c.extend_from_slice.new.self.items ≡ c.args.out.now.items = search rules in (
      told.0,
      told.1,
      (
        same,
        inr (
          _,
          _,
          given-text _ _ _ c.args.text.now _ _ _ _ _ _ _ _ c.in-Ok.ensures.ok read none refl told.2,
        ),
      ),
    )
