-- Names for parts of the definitions in specs/Dialogs, for the lemmas on these parts.
use Rattle.std.specs.Prelude.{List, [], ◌∷◌, ℕ, ◌+◌, Bool, Option, None, Some, Result, Ok, Err}
use Rattle.stamp.specs.Numbers.{number_of}
use Rattle.records.specs.Contents.{Content}
use Rattle.records.specs.declared.record.Record.{Record}
use Rattle.exchange.specs.declared.message.Title.{Title}
use Rattle.exchange.specs.declared.message.State.TheVariants.{Pulling}
use Rattle.exchange.specs.Batches.{batch_of}
use Rattle.exchange.specs.declared.message.Party.{Party}
use Rattle.std.specs.Option.{option_map_or}
use Rattle.archive.specs.declared.fault.LearnFault.{LearnFault}
use Rattle.exchange.specs.declared.fault.ExchangeFault.{ExchangeFault}
use Rattle.exchange.specs.declared.fault.ExchangeFault.TheVariants.{Learn}
use Rattle.exchange.specs.declared.message.Message.{Message}
use Rattle.exchange.specs.declared.message.State.{State}
use Rattle.exchange.specs.Frames.{frame_of}
use Rattle.exchange.specs.declared.message.Message.TheVariants.{Asks}
use Rattle.exchange.specs.Dialogs.{Turn, failing, learning, pushing, title_by}

-- the initiator pulls until nothing comes, and then pushes
abbrev pub pulled : Party → Content → Title → List Record → Turn
pulled p R t list = elim list [
  | [] ↦ pushing p R (batch_of R (number_of t.vector))
  | r ∷ rs ↦
      learning p Pulling R (r ∷ rs)
]

abbrev pub taken_after : Option ExchangeFault → ℕ → ℕ
taken_after given n = elim given [ None ↦ n + 1 | Some fault ↦ n ]

abbrev pub bytes_of : Option Message → List ℕ
bytes_of message = option_map_or frame_of message []

-- the own vector goes out
abbrev pub asking : Party → State → Content → Turn
asking p state R = record {
  result = Ok state;
  reply = Some (Asks (title_by p R));
  content =
      R;
  code = None;
}

abbrev pub learnt : Party → State → Content → Option ExchangeFault → Turn
learnt p state R given = elim given [ None ↦ asking p state R | Some fault ↦ failing R fault ]

-- why the records of a batch aren't all learned, if they aren't; so many were before
abbrev pub refusal_by : Option ExchangeFault → ℕ → Result Bool LearnFault → Option ExchangeFault
refusal_by later k result = elim result [ Ok added ↦ later | Err cause ↦ Some (Learn k cause) ]
