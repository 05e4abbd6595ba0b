-- Names for parts of the definitions in specs/Updates, for the lemmas on these parts.
use Rattle.std.specs.Prelude.{ℕ, List}
use Rattle.ua_binary.specs.declared.codes.Status.{Status}
use Rattle.ua_binary.specs.declared.codes.TheConstants.Status.{GOOD}
use Rattle.ua_services.specs.declared.updates.HistoryUpdateResult.{HistoryUpdateResult}
use Rattle.records.specs.Contents.{Content}
use Rattle.archive.specs.Steps.{Fallible, give, and_then}
use Rattle.hist_update.specs.declared.request.Request.{Request}
use Rattle.hist_update.specs.Outcome.{Operation}
use Rattle.hist_update.specs.Updates.{Updated, update_all}

abbrev pub told : (List Status → Status) → List Status → HistoryUpdateResult
told status codes = record { status = status codes; operation_results = codes }

-- the operations of an update, whose status goes by their codes
abbrev pub run : ℕ → Request → (List Status → Status) → List Operation → Content → Fallible Updated
run own request status operations R =
    and_then (update_all own request operations R) (λ p. give (told status p.0, p.1))

abbrev pub all_good : List Status → Status
all_good codes = GOOD
