use Rattle.std.proofs.Common.{◌≡◌, ℤ, List, Some, None, refl, ◌∙◌, subst, sym, codes}
use Rattle.std.specs.Prelude.{Option, Result, Ok, Err}
use Rattle.std.specs.Int.{w64}
use Rattle.std.specs.Str.Parse.{ParsesSigned, ExplainsSignedError, HasSignedDigitsIfOk, IsNumeral, signed_digits_value, without_leading_sign}
use Rattle.std.specs.Int.RustNames.{FitsSigned}
use Rattle.std.specs.declared.num.ParseIntError.{ParseIntError}
use Rattle.clap.specs.Matches.{TriesOne}
use Rattle.clap.specs.Words.{Row, Text, found_of, one_of, one_text, rows_of}
use Rattle.clap.proofs.WalkLemmas.{first_value-rows, one_text-rows}
use Rattle.command_line.specs.Line.{IsFlag, IsAnswer, NoLine}
use Rattle.command_line.proofs.Lines.{of-value}
use Rattle.command_line.specs.declared.line.Line.TheVariants.{Answer}
use Rattle.command_line.proofs.reading.read_answer.Goals as goal

-- what the text of the moment says of it
abbrev IsMoment : Text → Option ℤ → Type 0
IsMoment text moment = (number : ℤ) × (moment ≡ Some number)
    × ParsesSigned {E = ParseIntError} w64 10 text (Ok number)

-- the number that was read is the one that the text spells
number_of : (gives : Text → Result ℤ ParseIntError → Type 0)
    → ((text : Text) (r : Result ℤ ParseIntError) → gives text r → ParsesSigned w64 10 text r)
    → (text : Text) (result : Result (Option ℤ) ParseIntError) (moment : Option ℤ)
    → TriesOne gives text result → result ≡ Ok moment → IsMoment text moment
number_of gives parses text (Ok (Some v)) moment tries is = let same : moment ≡ Some v = cc in
    (v, same, parses text (Ok v) tries)
number_of gives parses text (Ok None) moment tries is = absurd tries
number_of gives parses text (Err e) moment tries is = absurd cc

-- and where none could be read, the text spells none, so no line of `answer` has it
not_answer : (rows : List Row) (text : Text) → one_of (codes "now") rows ≡ Some text
    → (IsNumeral 10 (without_leading_sign text) × FitsSigned w64 (signed_digits_value 10 text) → ⊥)
    → NoLine (IsAnswer rows)
not_answer rows text is spells_none (Answer path flag moment) h =
    let P : Option Text → Type 0 =
    λ given. elim given [ None ↦ moment ≡ None | Some text ↦ IsMoment text moment ] in
    spells_none (subst P is h.2).2.0
not_answer rows text is spells_none _ h = absurd h

no_number : {E : Type 0} (gives : Text → Result ℤ E → Type 0)
    → ((text : Text) (r : Result ℤ E) → gives text r → ParsesSigned w64 10 text r)
    → (rows : List Row) (one : Option Text) (result : Result (Option ℤ) E) (fault : E)
    → one_of (codes "now") rows ≡ one → (one ≡ None → result ≡ Ok None)
    → ((text : Text) → one ≡ Some text → TriesOne gives text result) → result ≡ Err fault
    → NoLine (IsAnswer rows)
no_number gives parses rows None result fault is none tries fails = let wrong = none refl in
    absurd cc
no_number {E} gives parses rows (Some text) result fault is none tries fails =
    let P : Result (Option ℤ) E → Type 0 = TriesOne gives text in
    not_answer rows text is (parses text (Err fault) (subst P fails (tries text refl)))

-- what a 64-bit number is read by
abbrev gives : Text → Result ℤ ParseIntError → Type 0
gives text r = ParsesSigned w64 10 text r × ExplainsSignedError 10 text r
    × HasSignedDigitsIfOk text r

pub returns-in-Ok-clause-ok : goal.returns-in-Ok-clause-ok
returns-in-Ok-clause-ok c =
    let found = found_of c.args.answer.now in
    let flag : IsFlag (one_of (codes "hex") (rows_of found)) c.get_flag-hex.result = (
      λ e. c.get_flag-hex.ensures.value (one_text-rows found (codes "hex") ∙ e),
      λ e. c.get_flag-hex.ensures.other (one_text-rows found (codes "hex") ∙ e),
      λ e. c.get_flag-hex.ensures.none (one_text-rows found (codes "hex") ∙ e),
    ) in
    let absent : one_of (codes "now") (rows_of found) ≡ None → c.in-Ok.now ≡ None = λ e. let none =
    c.try_get_one.ensures.none (one_text-rows found (codes "now") ∙ e) in cc in
    let given : (text : Text) → one_of (codes "now") (rows_of found) ≡ Some text
    → IsMoment text c.in-Ok.now =
    λ text e. number_of gives (λ t r g. g.0) text c.try_get_one.result c.in-Ok.now
    (c.try_get_one.ensures.value text (one_text-rows found (codes "now") ∙ e)) c.in-Ok.is in (
      c.get_str-settings.ensures ∙ first_value-rows found (codes "settings"),
      flag,
      of-value (one_of (codes "now") (rows_of found)) (c.in-Ok.now ≡ None)
          (λ text. IsMoment text c.in-Ok.now) absent given,
    )

pub returns-in-Err-clause-words : goal.returns-in-Err-clause-words
returns-in-Err-clause-words c =
    let found = found_of c.args.answer.now in
    no_number gives (λ t r g. g.0) (rows_of found)
    (one_text found (codes "now")) c.try_get_one.result c.in-Err.field-0
    (sym (one_text-rows found (codes "now")))
    c.try_get_one.ensures.none c.try_get_one.ensures.value c.in-Err.is
