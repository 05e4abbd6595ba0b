-- Names for parts of the definitions in specs/Peers, for the lemmas on these parts.
use Rattle.std.specs.Prelude.{Bool, false, not, List, Result, Ok, Err, option_to_list}
use Rattle.std.specs.List.{flat_map}
use Rattle.archive.specs.declared.fault.StoreFault.{StoreFault}
use Rattle.exchange.specs.declared.fault.ExchangeFault.{ExchangeFault}
use Rattle.exchange.specs.declared.message.State.{State}
use Rattle.exchange.specs.Dialogs.{fault_on, is_over}
use Rattle.ua_peers.specs.Peers.{Taken}

abbrev pub faults_met : List Taken → List StoreFault
faults_met taken = flat_map (λ t. option_to_list (fault_on t.way)) taken

-- the dialog goes on behind it
abbrev pub is_open : Result State ExchangeFault → Bool
is_open result = elim result [ Ok state ↦ not (is_over state) | Err fault ↦ false ]
