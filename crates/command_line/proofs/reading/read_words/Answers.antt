use Rattle.std.proofs.Common.{◌∙◌, codes}
use Rattle.clap.specs.Words.{found_of, one_of, rows_of}
use Rattle.clap.proofs.WalkLemmas.{first_value-rows, one_text-rows}
use Rattle.command_line.specs.Line.{IsFlag}
use Rattle.command_line.proofs.reading.read_words.Goals as goal

pub returns : goal.returns
returns c is =
    let found = found_of c.args.history.now in
    let changes : IsFlag (one_of (codes "changes") (rows_of found)) c.get_flag-changes.result = (
      λ e. c.get_flag-changes.ensures.value (one_text-rows found (codes "changes") ∙ e),
      λ e. c.get_flag-changes.ensures.other (one_text-rows found (codes "changes") ∙ e),
      λ e. c.get_flag-changes.ensures.none (one_text-rows found (codes "changes") ∙ e),
    ) in
    let csv : IsFlag (one_of (codes "csv") (rows_of found)) c.get_flag-csv.result = (
      λ e. c.get_flag-csv.ensures.value (one_text-rows found (codes "csv") ∙ e),
      λ e. c.get_flag-csv.ensures.other (one_text-rows found (codes "csv") ∙ e),
      λ e. c.get_flag-csv.ensures.none (one_text-rows found (codes "csv") ∙ e),
    ) in
    let html : IsFlag (one_of (codes "html") (rows_of found)) c.get_flag-html.result = (
      λ e. c.get_flag-html.ensures.value (one_text-rows found (codes "html") ∙ e),
      λ e. c.get_flag-html.ensures.other (one_text-rows found (codes "html") ∙ e),
      λ e. c.get_flag-html.ensures.none (one_text-rows found (codes "html") ∙ e),
    ) in
    record {
      node = is;
      from = c.get_str-from.ensures ∙ first_value-rows found (codes "from");
      to = c.get_str-to.ensures ∙ first_value-rows found (codes "to");
      changes = changes;
      csv = csv;
      html = html;
    }
