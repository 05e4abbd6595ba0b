-- How a call begins that looks for numbers that were given twice, and what its first frame shows.
use Rattle.std.specs.Prelude.{◌≡◌, ◌⊎◌, ℕ, ◌-◌, true, List, [], ◌++◌, Option, None, Result, Ok, Err, IfOk, IfErr, option_to_list}
use Rattle.std.specs.Option.{option_map_or, option_and_then}
use Rattle.std.specs.Result.{result_err}
use Rattle.stamp.specs.Limits.{IsReplica}
use Rattle.stamp.specs.Numbers.{number_of, IsVector}
use Rattle.records.specs.Contents.{Content, vec}
use Rattle.records.specs.declared.record.Record.{Record}
use Rattle.archive.specs.declared.fault.StoreFault.TheVariants.{Broken}
use Rattle.archive.specs.Store.{Store, CountsFaults, KeepsContent}
use Rattle.exchange.specs.Admissions.{first_frame}
use Rattle.exchange.specs.Batches.{AsksFor, IsOfAnswer}
use Rattle.exchange.specs.Dialogs.{party_of, records_read}
use Rattle.exchange.specs.Fault.{store_fault_of}
use Rattle.exchange.specs.Frames.{message_at}
use Rattle.exchange.specs.Messages.{Party}
use Rattle.exchange.specs.declared.fault.ExchangeFault.{ExchangeFault}
use Rattle.exchange.specs.declared.fault.ExchangeFault.TheVariants as exchange
use Rattle.peer_check.specs.Clashes.{FindsClash}
use Rattle.peer_check.specs.Comparing.{asking}
use Rattle.peer_check.specs.declared.comparing.Clash.{Clash}

-- behind these numbers stand the last record that is held of each replica, and all that come after
-- it: each is one less than that record's number, and 0 where none is held
pub record IsBeforeLast (R : Content) (numbers : List ℕ) : Type 0 where
  pub vector : IsVector numbers
  pub less : (replica : ℕ) → IsReplica replica → number_of numbers replica ≡ vec R replica - 1

-- of an honest store: the last record held of each replica, and what comes after it, was asked of
-- a peer by one frame; or a fault came, and nothing was written; the content stays
pub record GreetsBefore (old new : Store) (out written : List ℕ)
    (result : Result (Unit {0}) ExchangeFault) : Type 0 where
  pub frame : new.honest → IfOk result (λ _. (numbers : List ℕ) × IsBeforeLast old.content numbers
      × (written ≡ out ++ asking (party_of old) numbers))
  pub kept : IfErr result (λ fault. IsOfAnswer fault × (written ≡ out))
  pub ended : old.broken ≡ true → result ≡ Err (exchange.Store Broken)
  pub stays : KeepsContent old new
  pub passes : CountsFaults old new
      (option_to_list (option_and_then store_fault_of (result_err result)))

-- the records that the frame which stands first brings to a party, if it is whole
abbrev pub first_brought : Party → (waiting : List ℕ) → List Record
first_brought p waiting =
    option_map_or (λ frame. records_read (message_at p frame.kind frame.body))
    (first_frame waiting) []

-- these records were compared with those of an archive, and this was found, or a fault came; it
-- wasn't asked where there are none, or memory to read them was wanting
abbrev pub Compares : {A : Type 0} → (A → Store) → (brought : List Record) → (old new : A)
    → Result (Option Clash) ExchangeFault → Type 0
Compares state brought old new result =
    AsksFor (state old) (state new) result (FindsClash (state old).content brought)
    ⊎ ((new ≡ old)
    × ((result ≡ Err exchange.OutOfMemory) ⊎ ((brought ≡ []) × (result ≡ Ok None))))
