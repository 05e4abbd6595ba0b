-- The command line.
use Rattle.std.specs.Prelude.{◌≡◌, ◌≢◌, ℤ, List, [], ◌∷◌, ◌++◌, ℕ, Bool, true, false, ◌⊎◌, Option, None, Some, Ok, option_copied, codes, fold, nat_eq, if◌then◌else◌}
use Rattle.std.specs.Cmp.Lexicographic.{pointwise}
use Rattle.std.specs.Int.{w64}
use Rattle.std.specs.Str.Parse.{ParsesSigned, ParsesUnsigned}
use Rattle.std.specs.declared.num.ParseIntError.{ParseIntError}
use Rattle.clap.specs.Words.{App, IsAmong, Kinds, Row, Rule, Text, new_app, new_rule, first_of, one_of, with_rule, with_subcommand}
use Rattle.clap.specs.Simple.{on_top}
use Rattle.clap.specs.declared.error.ErrorKind.{ErrorKind}
use Rattle.clap.specs.declared.error.ErrorKind.TheVariants.{DisplayHelp, DisplayVersion, OutOfMemory}
use Rattle.clap.specs.declared.builder.action.ArgAction.TheVariants.{Set, SetTrue}
use Rattle.clap.specs.declared.builder.value_parser.ValueParser.TheVariants.{Unsigned}
use Rattle.command_line.specs.declared.line.Line.{Line}
use Rattle.command_line.specs.declared.line.Line.TheVariants.{Answer, Serve, Dump, Sync, History, Import, Check}
use Rattle.command_line.specs.declared.line.HistoryWords.{HistoryWords}
use Rattle.command_line.specs.declared.line.ImportWords.{ImportWords}
use Rattle.command_line.specs.declared.line.SyncWords.{SyncWords}
use Rattle.command_line.specs.declared.line.PerformWord.{PerformWord}
use Rattle.command_line.specs.declared.line.PerformWord.TheVariants.{Insert, Replace, Update}
use Rattle.command_line.specs.declared.line.Asked.{Asked}
use Rattle.command_line.specs.declared.line.Asked.TheVariants.{Work, Text as Shown}
use Rattle.command_line.specs.declared.line.LineFault.{LineFault}
use Rattle.command_line.specs.declared.line.LineFault.TheVariants.{Words, OutOfMemory as NoMemory}

-- an option of this name that takes a value
abbrev pub option : Text → Rule
option name = record (new_rule name) { long = Some name; action = Some Set; value_names = 1 }

-- the same, and it has to be given
abbrev pub needed : Text → Rule
needed name = record (option name) { required = true }

-- an option of this name that takes none
abbrev pub flag : Text → Rule
flag name = record (new_rule name) { long = Some name; action = Some SetTrue }

-- the value of `now` is a number of at most 2^63 - 1
abbrev pub now : Rule
now = record (option (codes "now")) { parser = Some (Unsigned 0 9223372036854775807) }

-- the value of `connections` is a number from 1 to 2^32 - 1
abbrev pub connections : Rule
connections = record (option (codes "connections")) { parser = Some (Unsigned 1 4294967295) }

-- a word without a name: the path of a file
abbrev pub file : Rule
file = record (new_rule (codes "file")) { action = Some Set; value_names = 1 }

-- a command of this name with these options
abbrev pub command : Text → List Rule → App
command name options = fold with_rule (new_app name) options

-- `answer [--settings FILE] [--hex] [--now N]`
abbrev pub answer_command : App
answer_command =
    command (codes "answer") (option (codes "settings") ∷ flag (codes "hex") ∷ now ∷ [])

-- `serve --settings FILE [--connections N]`
abbrev pub serve_command : App
serve_command = command (codes "serve") (needed (codes "settings") ∷ connections ∷ [])

-- `dump --settings FILE`
abbrev pub dump_command : App
dump_command = command (codes "dump") (needed (codes "settings") ∷ [])

-- `sync --settings FILE --peer ADDRESS`
abbrev pub call_command : App
call_command = command (codes "sync") (needed (codes "settings") ∷ needed (codes "peer") ∷ [])

-- the same with `[--check] [--verify]`: `sync` with its options
abbrev pub sync_command : App
sync_command =
    with_rule (with_rule call_command (flag (codes "check"))) (flag (codes "verify"))

-- `history --settings FILE --node ID`
abbrev pub node_command : App
node_command = command (codes "history") (needed (codes "settings") ∷ needed (codes "node") ∷ [])

-- the same with `[--from T] [--to T]`
abbrev pub span_command : App
span_command = with_rule (with_rule node_command (option (codes "from"))) (option (codes "to"))

-- the same with `[--changes] [--csv] [--html]`: `history` with its options
abbrev pub history_command : App
history_command =
    fold with_rule span_command (flag (codes "changes") ∷ flag (codes "csv")
    ∷ flag (codes "html") ∷ [])

-- `import --settings FILE --user NAME [--perform WORD]`
abbrev pub rows_command : App
rows_command =
    command (codes "import")
    (needed (codes "settings") ∷ needed (codes "user") ∷ option (codes "perform") ∷ [])

-- the same with `[--server ADDRESS] [FILE.csv]`: `import` with its options and its argument
abbrev pub import_command : App
import_command = with_rule (with_rule rows_command (option (codes "server"))) file

-- `check --settings FILE [--store]`
abbrev pub check_command : App
check_command =
    command (codes "check") (needed (codes "settings") ∷ flag (codes "store") ∷ [])

-- the program with no commands yet: it has a version, which its commands have too
abbrev pub program : App
program =
    on_top (λ top. record top { has_version = true; propagate_version = true })
    (new_app (codes "uahist"))

-- the commands that answer clients
abbrev pub servers : App
servers = with_subcommand (with_subcommand program answer_command.top) serve_command.top

-- these and the commands that move whole archives
abbrev pub movers : App
movers = with_subcommand (with_subcommand servers dump_command.top) sync_command.top

-- these and the commands that print a node's history, and bring values
abbrev pub histories : App
histories = with_subcommand (with_subcommand movers history_command.top) import_command.top

-- the program with its commands
abbrev pub uahist : App
uahist =
    fold (λ all one. with_subcommand all one.top) program
    (answer_command ∷ serve_command ∷ dump_command ∷ sync_command ∷ history_command
    ∷ import_command ∷ check_command ∷ [])

-- where the first fault that clap finds may be that help, or the version, is asked for
abbrev pub MayAskForText : Kinds → Type 0
MayAskForText faults = IsAmong DisplayHelp faults ⊎ IsAmong DisplayVersion faults

-- where it is that
abbrev pub AsksForText : Kinds → Type 0
AsksForText faults = (faults ≡ DisplayHelp ∷ []) ⊎ (faults ≡ DisplayVersion ∷ [])

-- a flag is set where its value is true, and unset where that is false or absent
abbrev pub IsFlag : Option Text → Bool → Type 0
IsFlag value flag =
    (value ≡ Some (codes "true") → flag ≡ true) × (value ≡ Some (codes "false") → flag ≡ false)
    × (value ≡ None → flag ≡ false)

-- what the rows of `answer` give
abbrev pub IsAnswer : List Row → Line → Type 0
IsAnswer rows line = elim line [
  | Answer path flag moment ↦ (option_copied path ≡ first_of (codes "settings") rows)
      × IsFlag (one_of (codes "hex") rows) flag
      × elim (one_of (codes "now") rows) [
        | None ↦ moment ≡ None
        | Some text ↦ (number : ℤ) × (moment ≡ Some number)
            × ParsesSigned {E = ParseIntError} w64 10 text (Ok number)
      ]
  | _ ↦ ⊥
]

-- what the rows of `serve` give
abbrev pub IsServe : List Row → Line → Type 0
IsServe rows line = elim line [
  | Serve path count ↦ (first_of (codes "settings") rows ≡ Some path.now)
      × elim (one_of (codes "connections") rows) [
        | None ↦ count ≡ 4294967295
        | Some text ↦ ParsesUnsigned {E = ParseIntError} 32 10 text (Ok count)
      ]
  | _ ↦ ⊥
]

-- what the rows of `dump` give
abbrev pub IsDump : List Row → Line → Type 0
IsDump rows line =
    elim line [ Dump path ↦ first_of (codes "settings") rows ≡ Some path.now | _ ↦ ⊥ ]

-- what rows ask of an exchange: whom to call, and whether the last records or all are compared
-- before
pub record AreSyncWords (rows : List Row) (asked : SyncWords) : Type 0 where
  pub peer : first_of (codes "peer") rows ≡ Some asked.peer.now
  pub check : IsFlag (one_of (codes "check") rows) asked.check
  pub verify : IsFlag (one_of (codes "verify") rows) asked.verify

-- what the rows of `sync` give
abbrev pub IsSync : List Row → Line → Type 0
IsSync rows line =
    elim line [
      | Sync path asked ↦ (first_of (codes "settings") rows ≡ Some path.now)
          × AreSyncWords rows asked
      | _ ↦ ⊥
    ]

-- what rows ask of a node's history: the node, from when, to when, changes or values, and as what
pub record AreHistoryWords (rows : List Row) (asked : HistoryWords) : Type 0 where
  pub node : first_of (codes "node") rows ≡ Some asked.node.now
  pub from : option_copied asked.from ≡ first_of (codes "from") rows
  pub to : option_copied asked.to ≡ first_of (codes "to") rows
  pub changes : IsFlag (one_of (codes "changes") rows) asked.changes
  pub csv : IsFlag (one_of (codes "csv") rows) asked.csv
  pub html : IsFlag (one_of (codes "html") rows) asked.html

-- what the rows of `history` give
abbrev pub IsHistoryCommand : List Row → Line → Type 0
IsHistoryCommand rows line =
    elim line [
      | History path asked ↦ (first_of (codes "settings") rows ≡ Some path.now)
          × AreHistoryWords rows asked
      | _ ↦ ⊥
    ]

-- what a word asks of rows
abbrev pub perform_named : Text → Option PerformWord
perform_named word =
    if pointwise nat_eq word (codes "insert") then Some Insert
    else if pointwise nat_eq word (codes "replace") then Some Replace
    else if pointwise nat_eq word (codes "update") then Some Update else None

-- the same, and to be inserted where no word is given
abbrev pub perform_in : Option Text → Option PerformWord
perform_in given = elim given [ None ↦ Some Insert | Some word ↦ perform_named word ]

-- the path of a file that a word names: none where it is `-`, which is standard input
abbrev pub file_in : Option Text → Option Text
file_in given =
    elim given [
      | None ↦ None
      | Some word ↦ if pointwise nat_eq word (codes "-") then None else Some word
    ]

-- what rows ask of an import: in whose name, what is done with the values that it brings, which
-- running server they are brought to, if one is named, and which file has them, if one does
pub record AreImportWords (rows : List Row) (asked : ImportWords) : Type 0 where
  pub user : first_of (codes "user") rows ≡ Some asked.user.now
  pub perform : perform_in (first_of (codes "perform") rows) ≡ Some asked.perform
  pub server : option_copied asked.server ≡ first_of (codes "server") rows
  pub file : option_copied asked.file ≡ file_in (first_of (codes "file") rows)

-- what the rows of `import` give
abbrev pub IsImportCommand : List Row → Line → Type 0
IsImportCommand rows line =
    elim line [
      | Import path asked ↦ (first_of (codes "settings") rows ≡ Some path.now)
          × AreImportWords rows asked
      | _ ↦ ⊥
    ]

-- what the rows of `check` give
abbrev pub IsCheck : List Row → Line → Type 0
IsCheck rows line =
    elim line [
      | Check path flag ↦ (first_of (codes "settings") rows ≡ Some path.now)
          × IsFlag (one_of (codes "store") rows) flag
      | _ ↦ ⊥
    ]

-- the matches name this command, and its rows give this line
abbrev pub NamesCommand : Option (Text × List Row) → Text → (List Row → Line → Type 0) → Line
    → Type 0
NamesCommand matches name Gives line =
    (rows : List Row) × (matches ≡ Some (name, rows)) × Gives rows line

-- The command that the matches name, with the values that they give: the moment is the number of 64
-- bits that its text spells in decimal digits, and none where it is absent; the count is the one of
-- 32 bits that its text spells, and the greatest where it is absent.
abbrev pub IsLine : Option (Text × List Row) → Line → Type 0
IsLine m (Answer path hex now) = NamesCommand m (codes "answer") IsAnswer (Answer path hex now)
IsLine m (Serve path count) = NamesCommand m (codes "serve") IsServe (Serve path count)
IsLine m (Dump path) = NamesCommand m (codes "dump") IsDump (Dump path)
IsLine m (Sync path asked) = NamesCommand m (codes "sync") IsSync (Sync path asked)
IsLine m (History path it) = NamesCommand m (codes "history") IsHistoryCommand (History path it)
IsLine m (Import path it) = NamesCommand m (codes "import") IsImportCommand (Import path it)
IsLine m (Check path flag) = NamesCommand m (codes "check") IsCheck (Check path flag)

-- no line is so
abbrev pub NoLine : (Line → Type 0) → Type 0
NoLine P = (line : Line) → P line → ⊥

-- What a line asks for, by the faults that clap finds in it and by its matches: where there is no
-- fault what the matches name, and a text only where help or the version is asked for.
abbrev pub Asks : Kinds → Option (Text × List Row) → Asked → Type 0
Asks faults matches (Work line) = (faults ≡ []) × IsLine matches line
Asks faults matches (Shown text) = MayAskForText faults

-- the usage of the program, in one line, a command after the other
abbrev pub usage : List ℕ
usage =
    codes "usage: uahist answer [--settings FILE] [--hex] [--now N]"
    ++ codes " | serve --settings FILE [--connections N]"
    ++ codes " | dump --settings FILE | sync --settings FILE --peer ADDRESS [--check] [--verify]"
    ++ codes " | history --settings FILE --node ID [--from T] [--to T] [--changes] [--csv] [--html]"
    ++ codes " | import --settings FILE --user NAME [--perform insert|replace|update]"
    ++ codes " [--server ADDRESS] [FILE.csv] | check --settings FILE [--store]"

-- the text that tells a refused command line
abbrev pub line_text_of : LineFault → List ℕ
line_text_of Words = usage
line_text_of NoMemory = codes "memory ran out before the command began"

-- a text, and no line
abbrev pub IsText : Asked → Type 0
IsText (Work line) = ⊥
IsText (Shown text) = Unit {0}

-- a text, of this kind of refusal
abbrev pub IsTextOf : ErrorKind → Asked → Type 0
IsTextOf kind asked = ((kind ≡ DisplayHelp) ⊎ (kind ≡ DisplayVersion)) × IsText asked

-- neither want of memory nor a text that is asked for
abbrev pub IsMistake : ErrorKind → Type 0
IsMistake kind = (kind ≢ DisplayHelp) × (kind ≢ DisplayVersion) × (kind ≢ OutOfMemory)
