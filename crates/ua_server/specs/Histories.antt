-- What the command `history` prints.
use Rattle.std.specs.Prelude.{◌≡◌, ◌⊎◌, ℤ, List, ℕ, Option, None, Some, option_copied, ok_or, if◌then◌else◌, Result, Ok, Err}
use Rattle.std.specs.Result.{result_map_both}
use Rattle.ua_binary.specs.Format.{◌>>=◌}
use Rattle.counted_io.specs.declared.fault.ServeFault.TheVariants.{OutOfMemory}
use Rattle.archive.specs.Store.{Store}
use Rattle.history_csv.specs.Nodes.{node_in}
use Rattle.history_csv.specs.Rows.{moment_in}
use Rattle.history_report.specs.Reports.{Prints}
use Rattle.history_report.specs.declared.report.Report.{Report}
use Rattle.history_report.specs.declared.report.Form.{Form}
use Rattle.history_report.specs.declared.report.Form.TheVariants.{Table, Csv, Page}
use Rattle.history_report.specs.declared.fault.ReportFault.{ReportFault}
use Rattle.command_line.specs.declared.line.HistoryWords.{HistoryWords}
use Rattle.ua_server.specs.declared.program.ProgramFault.{ProgramFault}
use Rattle.ua_server.specs.declared.program.ProgramFault.TheVariants.{BadOption, Connection}
use Rattle.ua_server.specs.declared.histories.OptionFault.{OptionFault}
use Rattle.ua_server.specs.declared.histories.OptionFault.TheVariants.{Node, From, To}
use Rattle.ua_server.specs.Telling.{report_fault}

-- the moment that the text of an option says, none where there is no text; a text that says none is
-- refused
abbrev pub moment_asked : OptionFault → Option (List ℕ) → Result (Option ℤ) ProgramFault
moment_asked fault None = Ok None
moment_asked fault (Some text) = ok_or (moment_in text) (BadOption fault) >>= λ time. Ok (Some time)

-- the form that the words of a line ask for: a page where they ask for CSV too
abbrev pub form_asked : HistoryWords → Form
form_asked asked = if asked.html then Page else if asked.csv then Csv else Table

-- The report that the words of a line ask for. Of its node, its first time and its last one the
-- first is told whose text says none.
abbrev pub report_asked : HistoryWords → Result Report ProgramFault
report_asked asked = do
  node ← ok_or (node_in asked.node.now) (BadOption Node)
  from ← moment_asked From (option_copied asked.from)
  to ← moment_asked To (option_copied asked.to)
  Ok (record {
    node = node;
    from = from;
    to = to;
    changes = asked.changes;
    form = form_asked asked;
    next = None;
  })

-- this was answered, unless memory for it was wanting
abbrev pub IsAskedOrStarved : Result Report ProgramFault → Result Report ProgramFault → Type 0
IsAskedOrStarved answer result = (result ≡ answer) ⊎ (result ≡ Err (Connection OutOfMemory))

-- the report was printed that the words ask for; or why they ask for none is told, nothing is
-- printed, and the archive stays
abbrev pub PrintsHistory : {A : Type 0} → (A → Store) → HistoryWords → (first last : A)
    → (before after : Option (List ℕ)) → Result (Unit {0}) ProgramFault → Type 0
PrintsHistory held words first last before after result =
    (asked : Result Report ProgramFault) × IsAskedOrStarved (report_asked words) asked
    × elim asked [
      | Err fault ↦ (result ≡ Err fault) × (last ≡ first) × (after ≡ before)
      | Ok report ↦ (printed : Result (Unit {0}) ReportFault)
          × Prints report (held first) (held last) before after printed
          × (result ≡ result_map_both (λ done. done) report_fault printed)
    ]
