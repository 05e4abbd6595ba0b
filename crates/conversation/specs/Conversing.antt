-- What is said on a connection, as the loop over many of them knows it.
use Rattle.std.specs.Prelude.{◌≡◌, ◌&&◌, ℤ, List, [], Bool, false, Option, None, if◌then◌else◌}
use Rattle.archive.specs.Store.{Store}
use Rattle.multiplex.specs.Behavior.{Behavior}
use Rattle.multiplex.specs.declared.stay.Origin.{Origin}
use Rattle.conversation.specs.declared.other_end.OtherEnd.{OtherEnd}
use Rattle.conversation.specs.declared.other_end.OtherEnd.TheVariants.{Unknown, Browser, Stranger}
use Rattle.web_connection.specs.Answers.{new_web}
use Rattle.conversation.specs.declared.door.Door.TheVariants.{Browsers}
use Rattle.conversation.specs.declared.world.World.{World}
use Rattle.conversation.specs.declared.networks.Network.{Network}
use Rattle.conversation.specs.Doors.{door_of_listener, is_stranger}
use Rattle.conversation.specs.OtherEnds.{ConversationEnding, is_established}
use Rattle.conversation.specs.Receiving.{TakesBytes}
use Rattle.conversation.specs.Answering.{IsIncomplete, AnswersFirst}
use Rattle.conversation.specs.Closing.{TellsEnd, TellsTurn, with_connection, with_now}
use Rattle.conversation.specs.Events.{Telling, Logs, Connected, AcceptFailed}
use Rattle.conversation.specs.Logins.{delay_of, no_refusals}
use Rattle.historian.specs.declared.server.Server.{Server}
use Rattle.conversation.specs.Starting.{StartsCall}
use Rattle.conversation.specs.Moves.{Moves}
use Rattle.ua_settings.specs.Settings.{ends_serving}

-- who is at the other end of a connection that came from there, before its first byte
abbrev pub first_end : (from : Option (List Network)) → Origin → OtherEnd
first_end from origin =
    if is_stranger from origin then Stranger else elim (door_of_listener origin.listener) [
      | Browsers ↦ Browser new_web
      | door ↦ Unknown door []
    ]

-- what connections share that haven't begun: peers are taken from everywhere, no refused login and
-- no last call is kept, no connection is counted, and nothing comes back
abbrev pub new_world : {A C L : Type 0} → Server A → C → L → World A C L
new_world server clock log = record {
  server = server;
  clock = clock;
  log = log;
  from = None;
  now = 0;
  logins = no_refusals 0;
  calls = [];
  connections = 0;
  restoring = false;
}

-- the store is broken, and the settings say that nobody is served then
abbrev pub serves_nobody : {A C L : Type 0} → (A → Store) → World A C L → Bool
serves_nobody state w =
    ends_serving w.server.settings.after_break && (state w.server.replica.archive).broken

-- how connections of a server behave. One that comes begins at the door of its listener, with a
-- stranger, a browser or nobody known at its other end, and is told and counted; a call begins with
-- a peer. Answers to logins may wait. The time of each round is kept, and a long turn is told.
abbrev pub behavior_over : {A C L : Type 0} → (A → Store) → (C → List ℤ → C → Type 0)
    → Telling L → Behavior OtherEnd (World A C L) ConversationEnding
behavior_over state gave told = record {
  passes = λ v now longest_turn w. TellsTurn told (with_now v now) longest_turn w;
  is_over = serves_nobody state;
  begins = λ origin v other w.
      (other ≡ first_end v.from origin) × Logs told (Connected origin) (with_connection v) w;
  calls = StartsCall state gave told;
  receives = TakesBytes;
  answers = AnswersFirst state gave told;
  delay = λ stay v other. delay_of v.logins;
  closes = TellsEnd gave told;
  fails_accept = λ v now w. Logs told (AcceptFailed now) v w;
  needs_more = IsIncomplete;
  is_established = is_established;
  moves = Moves state;
}
