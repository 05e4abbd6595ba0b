-- What a client is answered while nobody else changes the world.
use Rattle.std.specs.Prelude.{◌≡◌, ℕ, ℤ, ◌≤◌, false, List, [], ◌++◌, length, Option, None}
use Rattle.std.specs.List.{AllByRecursion}
use Rattle.archive.specs.Store.{Store}
use Rattle.multiplex.specs.Alone.{AreOwnSteps, bytes_received, bytes_made}
use Rattle.multiplex.specs.Behavior.{Behavior}
use Rattle.multiplex.specs.Input.{Input}
use Rattle.multiplex.specs.Output.{Output}
use Rattle.multiplex.specs.Slots.{Slot}
use Rattle.multiplex.specs.Steps.{Step}
use Rattle.multiplex.specs.Steps as step
use Rattle.ua_connection.specs.Environments.{Environment}
use Rattle.ua_connection.specs.Client.{Ending as ClientEnding}
use Rattle.ua_connection.specs.Turns.{ConnectionState, new_link, Advances}
use Rattle.conversation.specs.declared.other_end.OtherEnd.{OtherEnd}
use Rattle.conversation.specs.declared.other_end.OtherEnd.TheVariants.{Unknown, Client}
use Rattle.conversation.specs.declared.world.World.{World}
use Rattle.conversation.specs.declared.door.Door.{Door}
use Rattle.conversation.specs.Doors.{is_peers}
use Rattle.conversation.specs.OtherEnds.{ConversationEnding, unless_over}
use Rattle.conversation.specs.Answering.{client_ending}
use Rattle.conversation.specs.Events.{Telling}
use Rattle.conversation.specs.Conversing.{behavior_over}

-- the server and the clock, by which answers are made, stay; the log, the time, and what is known
-- of logins may change
abbrev pub StaysStill : {A C L : Type 0} → World A C L → World A C L → Type 0
StaysStill v w = (w.server ≡ v.server) × (w.clock ≡ v.clock)

-- what is said on a connection between whose steps the server and its clock stay
abbrev pub still_behavior : {A C L : Type 0} → (A → Store) → (C → List ℤ → C → Type 0)
    → Telling L → Behavior OtherEnd (World A C L) ConversationEnding
still_behavior state gave told =
    let behavior = behavior_over state gave told in record behavior { moves = StaysStill }

-- memory for all that came was there
abbrev pub TakesAll : List (Step ConversationEnding) → Type 0
TakesAll steps =
    AllByRecursion (λ s. elim s [ step.Receives bytes made end ↦ end ≡ None | _ ↦ Unit {0} ]) steps

-- a client brought three letters or more to this door, and memory for all that came was there
abbrev pub AreOfClient : Door → List (Step ConversationEnding) → Type 0
AreOfClient door steps =
    (3 ≤ length (bytes_received steps)) × (is_peers door (bytes_received steps) ≡ false)
    × TakesAll steps

-- for these bytes, that came after those that wait, this was made: one stretch of the answer to
-- them, over an archive, by what the clock gave
pub record AnswersStretch {A C L : Type 0} (state : A → Store) (gave : C → List ℤ → C → Type 0)
    (v : World A C L) (link : ConnectionState) (came made : List ℕ) (w : World A C L)
    (next : OtherEnd) : Type 0 where
  pub used : Environment
  pub ends : Option ClientEnding
  pub later : ConnectionState
  pub settings : w.server.settings ≡ v.server.settings
  pub clock : gave v.clock used.readings w.clock
  pub advances : Advances v.server.settings (state v.server.replica.archive)
      (state w.server.replica.archive) (record link { waiting = link.waiting ++ came }) used made
      ends later
  pub leaves : next ≡ unless_over (client_ending ends) (Client later)

-- while nobody else changes the server or its clock, a client that sent three letters or more, and
-- for all of whose bytes memory was there, is answered as on a connection of its own
abbrev pub ClientAloneIsAnswered : {R W A C L : Type 0} → Input R → Output W → (A → Store)
    → (C → List ℤ → C → Type 0) → Telling L → Type 0
ClientAloneIsAnswered {R} {W} {A} {C} {L} input output state gave told =
    (v w : World A C L) (old new : Slot OtherEnd R W ConversationEnding) (door : Door)
    (steps : List (Step ConversationEnding)) → old.handler ≡ Unknown door []
    → AreOfClient door steps
    → AreOwnSteps input output (still_behavior state gave told) v old steps w new
    → AnswersStretch state gave v new_link (bytes_received steps) (bytes_made steps) w new.handler
