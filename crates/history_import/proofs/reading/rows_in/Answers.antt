use Rattle.std.proofs.Common.{◌≡◌, ◌∙◌, inr, ap, true, false, ℕ, List, Option}
use Rattle.csv.specs.Reading.{builder_config, builder_names_headers, builder_is_flexible, builder_trim, with_flexible, with_names_headers}
use Rattle.history_import.specs.declared.input.Lent.{Lent}
use Rattle.history_import.proofs.StandingLemmas.{stands-before}
use Rattle.history_import.proofs.reading.rows_in.Goals as goal

pub returns : goal.returns
returns g c =
    let rem : Lent g.row.R.Denot → Option (List ℕ) = λ lent. g.R.Read.remaining lent.input.now.inner
    in
    let made = c.from_reader.ensures in
    let set = c.flexible.ensures ∙ ap (λ b. with_flexible b true) c.has_headers.ensures in
    stands-before rem c.from_reader.result (g.R.Read.remaining c.args.input.now.inner) (
      inr (inr (made.has_headers ∙ ap builder_names_headers set, made.headers)),
      made.fresh,
      made.flexible ∙ ap builder_is_flexible set,
      made.trim ∙ ap builder_trim set ∙ c.new.ensures.trim,
      made.config ∙ ap builder_config set ∙ c.new.ensures.config,
    ) made.state made.source
