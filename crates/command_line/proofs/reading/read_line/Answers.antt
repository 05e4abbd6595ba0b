use Rattle.std.proofs.Common.{◌≡◌, ◌⊎◌, inl, inr, List, [], ◌∷◌, map, ◌∙◌, ap, refl, subst, sym, true}
use Rattle.std.specs.Prelude.{Option, Result, Ok, Err, IfOk}
use Rattle.clap.specs.Words.{App, HasMatchesOf, IsAmong, Kinds, Row, Text, app_of, is_simple_and_free, kind_of, subcommand_of, subcommand_rows_of}
use Rattle.clap.specs.declared.parser.matches.ArgMatches.{ArgMatches}
use Rattle.clap.specs.Takes.{takes}
use Rattle.clap.specs.Faults.{fault_of as fault_kinds}
use Rattle.clap.specs.declared.error.ErrorKind.{ErrorKind}
use Rattle.clap.specs.declared.error.ErrorKind.TheVariants.{DisplayHelp, DisplayVersion, OutOfMemory}
use Rattle.command_line.specs.Line.{Asks, AsksForText, IsLine, MayAskForText, uahist, IsMistake, IsTextOf, NoLine}
use Rattle.command_line.specs.declared.line.Asked.{Asked}
use Rattle.command_line.specs.declared.line.Asked.TheVariants.{Work, Text as Shown}
use Rattle.command_line.specs.declared.line.LineFault.{LineFault}
use Rattle.command_line.proofs.reading.read_line.Goals as goal

-- words that clap takes are refused for want of memory alone
refused : (a b : App) (words : List Text) (kind : ErrorKind) → a ≡ b
    → (takes a words ≡ true → kind ≡ OutOfMemory) → IsMistake kind → takes b words ≡ true
    → NoLine (IsLine (subcommand_of b words))
refused a b words kind same passes mistake taken =
    let P : App → Type 0 = λ x. takes x words ≡ true in
    absurd (mistake.2 (passes (subst P (sym same) taken)))

-- a mistake isn't the only fault of a line that asks for a text
asked : (faults : Kinds) (kind : ErrorKind) → (kind ≡ OutOfMemory) ⊎ IsAmong kind faults
    → IsMistake kind → AsksForText faults → ⊥
asked faults kind (inl starved) mistake asks = mistake.2 starved
asked faults kind (inr among) mistake (inl help) =
    elim (subst (IsAmong kind) help among) [ inl is ↦ mistake.0 is | inr none ↦ none ]
asked faults kind (inr among) mistake (inr version) =
    elim (subst (IsAmong kind) version among) [ inl is ↦ mistake.1 is | inr none ↦ none ]

-- the command is of those whose faults clap tells
simple : (a : App) → a ≡ uahist → is_simple_and_free a ≡ true
simple a same = ap is_simple_and_free same

-- the faults of the command that was built are those of the program
of-program : (a : App) (words : List Text) (kind : ErrorKind) → a ≡ uahist
    → (kind ≡ OutOfMemory) ⊎ IsAmong kind (fault_kinds a words)
    → (kind ≡ OutOfMemory) ⊎ IsAmong kind (fault_kinds uahist words)
of-program a words kind same has =
    subst (λ (x : App). (kind ≡ OutOfMemory) ⊎ IsAmong kind (fault_kinds x words)) same has

-- a line that was taken has none
without : (a : App) (words : List Text) → a ≡ uahist → fault_kinds a words ≡ []
    → fault_kinds uahist words ≡ []
without a words same none = subst (λ (x : App). fault_kinds x words ≡ []) same none

-- a line without faults asks for no text
free : (faults : Kinds) → faults ≡ [] → AsksForText faults → ⊥
free faults none (inl help) = let both : [] ≡ DisplayHelp ∷ [] = sym none ∙ help in absurd cc
free faults none (inr version) = let both : [] ≡ DisplayVersion ∷ [] = sym none ∙ version in
    absurd cc

-- a text comes of a kind that is among the faults
text-asked : (faults : Kinds) (kind : ErrorKind) → (kind ≡ OutOfMemory) ⊎ IsAmong kind faults
    → (kind ≡ DisplayHelp) ⊎ (kind ≡ DisplayVersion) → MayAskForText faults
text-asked faults kind (inl starved) (inl help) = let both : OutOfMemory ≡ DisplayHelp =
    sym starved ∙ help in absurd cc
text-asked faults kind (inl starved) (inr version) = let both : OutOfMemory ≡ DisplayVersion =
    sym starved ∙ version in absurd cc
text-asked faults kind (inr among) (inl help) =
    inl (subst (λ (k : ErrorKind). IsAmong k faults) help among)
text-asked faults kind (inr among) (inr version) =
    inr (subst (λ (k : ErrorKind). IsAmong k faults) version among)

-- what is told of a refusal is what is asked for
shown : (faults : Kinds) (matches : Option (Text × List Row)) (kind : ErrorKind)
    (result : Result Asked LineFault) → (kind ≡ OutOfMemory) ⊎ IsAmong kind faults
    → IfOk result (IsTextOf kind) → IfOk result (Asks faults matches)
shown faults matches kind (Ok (Work line)) has is = absurd is.1
shown faults matches kind (Ok (Shown text)) has is = text-asked faults kind has is.0
shown faults matches kind (Err fault) has is = is

-- what the matches of the command that was built name is what those of the program do
named : (a : App) (words : List Text) (matches : ArgMatches) → a ≡ uahist
    → HasMatchesOf a words matches → subcommand_rows_of matches ≡ subcommand_of uahist words
named a words matches same has =
    (subst (λ (x : App). HasMatchesOf x words matches) same has refl).1

pub returns-in-Err-clause-words : goal.returns-in-Err-clause-words
returns-in-Err-clause-words g c = λ is taken.
    let words = map g.S.AsStr.text c.args.words.now in
    let passes : takes (app_of c.in-Ok.command) words ≡ true
    → kind_of c.in-Err.refusal ≡ OutOfMemory = λ t. c.in-Err.ensures.passes t in
    refused (app_of c.in-Ok.command) uahist words (kind_of c.in-Err.refusal) c.in-Ok.ensures passes
    (c.asked_in.ensures.words is) taken

pub returns-in-Err-clause-help : goal.returns-in-Err-clause-help
returns-in-Err-clause-help g c = λ is asks.
    let words = map g.S.AsStr.text c.args.words.now in
    asked (fault_kinds uahist words) (kind_of c.in-Err.refusal)
    (of-program (app_of c.in-Ok.command) words (kind_of c.in-Err.refusal) c.in-Ok.ensures
    (c.in-Err.ensures.kinds (simple (app_of c.in-Ok.command) c.in-Ok.ensures)))
    (c.asked_in.ensures.words is) asks

pub returns-in_err-read_matches-in-Ok-try_get_matches_from-clause-help :
    goal.returns-in_err-read_matches-in-Ok-try_get_matches_from-clause-help
returns-in_err-read_matches-in-Ok-try_get_matches_from-clause-help g c = λ is asks.
    let words = map g.S.AsStr.text c.args.words.now in
    free (fault_kinds uahist words) (without (app_of c.in-Ok.command) words c.in-Ok.ensures
    (c.in-Ok-try_get_matches_from.ensures.kinds
    (simple (app_of c.in-Ok.command) c.in-Ok.ensures))) asks

pub returns-in_ok-read_matches-in-Ok-try_get_matches_from-clause-ok :
    goal.returns-in_ok-read_matches-in-Ok-try_get_matches_from-clause-ok
returns-in_ok-read_matches-in-Ok-try_get_matches_from-clause-ok g c =
    let words = map g.S.AsStr.text c.args.words.now in (
      without (app_of c.in-Ok.command) words c.in-Ok.ensures
          (c.in-Ok-try_get_matches_from.ensures.kinds
          (simple (app_of c.in-Ok.command) c.in-Ok.ensures)),
      subst (λ found. IsLine found c.in_ok-read_matches-in-Ok-try_get_matches_from.field-0)
          (named (app_of c.in-Ok.command) words c.in-Ok-try_get_matches_from.matches
          c.in-Ok.ensures c.in-Ok-try_get_matches_from.ensures.matches)
          c.in_ok-read_matches-in-Ok-try_get_matches_from.ensures.ok,
    )

pub returns-in_err-read_matches-in-Ok-try_get_matches_from-clause-words :
    goal.returns-in_err-read_matches-in-Ok-try_get_matches_from-clause-words
returns-in_err-read_matches-in-Ok-try_get_matches_from-clause-words g c = λ is taken line h.
    let words = map g.S.AsStr.text c.args.words.now in
    c.in_err-read_matches-in-Ok-try_get_matches_from.ensures.words line
    (subst (λ found. IsLine found line)
    (sym (named (app_of c.in-Ok.command) words c.in-Ok-try_get_matches_from.matches
    c.in-Ok.ensures c.in-Ok-try_get_matches_from.ensures.matches)) h)

pub returns-in-Err-clause-ok : goal.returns-in-Err-clause-ok
returns-in-Err-clause-ok g c =
    let words = map g.S.AsStr.text c.args.words.now in
    shown (fault_kinds uahist words) (subcommand_of uahist words)
    (kind_of c.in-Err.refusal) c.asked_in.result
    (of-program (app_of c.in-Ok.command) words (kind_of c.in-Err.refusal) c.in-Ok.ensures
    (c.in-Err.ensures.kinds (simple (app_of c.in-Ok.command) c.in-Ok.ensures)))
    c.asked_in.ensures.text
