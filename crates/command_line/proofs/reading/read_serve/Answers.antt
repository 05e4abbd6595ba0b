use Rattle.std.proofs.Common.{◌≡◌, ◌<◌, ◌^◌, ℕ, List, Some, None, refl, ◌∙◌, ap, subst, sym, codes}
use Rattle.std.specs.Prelude.{Option, Result, Ok, Err}
use Rattle.std.specs.Option.{unwrap_or}
use Rattle.std.specs.Str.Parse.{ParsesUnsigned, ExplainsUnsignedError, HasUnsignedDigitsIfOk, IsNumeral, digits_value, without_leading_plus}
use Rattle.std.specs.declared.num.ParseIntError.{ParseIntError}
use Rattle.clap.specs.Matches.{TriesOne, first_value}
use Rattle.clap.specs.Words.{Row, Text, first_of, found_of, one_of, one_text, rows_of}
use Rattle.clap.proofs.WalkLemmas.{first_value-rows, one_text-rows}
use Rattle.command_line.specs.Line.{IsServe, NoLine}
use Rattle.command_line.proofs.Lines.{mapped, of-value}
use Rattle.command_line.specs.declared.line.Line.TheVariants.{Serve}
use Rattle.command_line.proofs.reading.read_serve.Goals as goal

-- what a 32-bit number is read by
abbrev gives : Text → Result ℕ ParseIntError → Type 0
gives text r = ParsesUnsigned 32 10 text r × ExplainsUnsignedError 10 text r
    × HasUnsignedDigitsIfOk text r

-- the number that was read is the one that the text spells
count_of : (text : Text) (result : Result (Option ℕ) ParseIntError) (count : Option ℕ)
    → TriesOne gives text result → result ≡ Ok count
    → ParsesUnsigned {E = ParseIntError} 32 10 text (Ok (unwrap_or count 4294967295))
count_of text (Ok (Some v)) count tries is = let same : count ≡ Some v = cc in
    (tries.0.0, ap (λ o. unwrap_or o 4294967295) same ∙ tries.0.1)
count_of text (Ok None) count tries is = absurd tries
count_of text (Err e) count tries is = absurd cc

-- and where none could be read, the text spells none, so no line of `serve` has it
not_counted : (rows : List Row) (text : Text) → one_of (codes "connections") rows ≡ Some text
    → (IsNumeral 10 (without_leading_plus text)
    × (digits_value 10 (without_leading_plus text) < 2 ^ 32) → ⊥) → NoLine (IsServe rows)
not_counted rows text is spells_none (Serve path count) h =
    let P : Option Text → Type 0 =
    λ given. elim given [
      | None ↦ count ≡ 4294967295
      | Some text ↦
          ParsesUnsigned {E = ParseIntError} 32 10 text (Ok count)
    ] in
    spells_none (subst P is h.1).0
not_counted rows text is spells_none _ h = absurd h

not_set : (rows : List Row) → first_of (codes "settings") rows ≡ None → NoLine (IsServe rows)
not_set rows none (Serve path count) h = let wrong = sym none ∙ h.0 in cc
not_set rows none _ h = absurd h

no_count : (rows : List Row) (one : Option Text) (result : Result (Option ℕ) ParseIntError)
    (fault : ParseIntError) → one_of (codes "connections") rows ≡ one
    → (one ≡ None → result ≡ Ok None)
    → ((text : Text) → one ≡ Some text → TriesOne gives text result) → result ≡ Err fault
    → NoLine (IsServe rows)
no_count rows None result fault is none tries fails = let wrong = none refl in absurd cc
no_count rows (Some text) result fault is none tries fails =
    let P : Result (Option ℕ) ParseIntError → Type 0 = TriesOne gives text in
    not_counted rows text is (subst P fails (tries text refl)).0

none_of : (result : Result (Option ℕ) ParseIntError) (count : Option ℕ) → result ≡ Ok None
    → result ≡ Ok count → unwrap_or count 4294967295 ≡ 4294967295
none_of result count none is = let same : count ≡ None = cc in ap (λ o. unwrap_or o 4294967295) same

pub returns-in_default-clause-words : goal.returns-in_default-clause-words
returns-in_default-clause-words c =
    let found = found_of c.args.serve.now in
    not_set (rows_of found) (sym (first_value-rows found (codes "settings"))
    ∙ mapped _ c.get_str.result None
    (first_value found (codes "settings")) c.get_str.ensures c.in_default.is)

pub returns-in-Ok-clause-ok : goal.returns-in-Ok-clause-ok
returns-in-Ok-clause-ok c =
    let found = found_of c.args.serve.now in
    let IsGiven : Text → Type 0 = λ text.
    ParsesUnsigned {E = ParseIntError} 32 10 text (Ok c.unwrap_or.result) in
    let absent : one_of (codes "connections") (rows_of found) ≡ None
    → c.unwrap_or.result ≡ 4294967295 =
    λ e. c.unwrap_or.ensures ∙ none_of c.try_get_one.result c.in-Ok.connections
    (c.try_get_one.ensures.none (one_text-rows found (codes "connections") ∙ e)) c.in-Ok.is in
    let given : (text : Text) → one_of (codes "connections") (rows_of found) ≡ Some text
    → IsGiven text =
    λ text e. let k = count_of text c.try_get_one.result c.in-Ok.connections
    (c.try_get_one.ensures.value text (one_text-rows found (codes "connections") ∙ e))
    c.in-Ok.is in (k.0, c.unwrap_or.ensures ∙ k.1) in
    let count = of-value (one_of (codes "connections") (rows_of found))
    (c.unwrap_or.result ≡ 4294967295) IsGiven absent given in (
      sym (first_value-rows found (codes "settings"))
          ∙ mapped _ c.get_str.result (Some c.in-Some.settings)
          (first_value found (codes "settings")) c.get_str.ensures c.in-Some.is,
      count,
    )

pub returns-in-Err-clause-words : goal.returns-in-Err-clause-words
returns-in-Err-clause-words c =
    let found = found_of c.args.serve.now in
    no_count (rows_of found) (one_text found (codes "connections")) c.try_get_one.result
    c.in-Err.field-0 (sym (one_text-rows found (codes "connections")))
    c.try_get_one.ensures.none c.try_get_one.ensures.value c.in-Err.is
