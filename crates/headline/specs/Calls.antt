-- Calls of one replica by another, turn by turn, where anything may happen to either in between.
use Rattle.std.specs.Prelude.{◌≡◌, ◌≤◌, ℕ, zero, suc, List, Option, Some, Ok}
use Rattle.stamp.specs.Limits.{IsReplica}
use Rattle.stamp.specs.Numbers.{number_of}
use Rattle.records.specs.Contents.{Content, IsWithin, vec}
use Rattle.exchange.specs.Messages.{Party, Message}
use Rattle.exchange.specs.declared.message.Message.TheVariants.{Asks}
use Rattle.exchange.specs.declared.message.State.{State}
use Rattle.exchange.specs.declared.message.State.TheVariants.{Pulling, Serving}
use Rattle.exchange.specs.Dialogs.{turned}
use Rattle.exchange.specs.Worlds.{ReplicaState}
use Rattle.headline.specs.Executions.{Execution, IsReachable}

-- some replica holds this at some time
abbrev pub WasHeld : Execution → Content → Type 0
WasHeld e R = (s : ReplicaState) × IsReachable e s × (s.content ≡ R)

-- how a call stands: what the caller said last, if anything, how it stands, and what the caller and
-- the one that it called hold
pub record CallState : Type 0 where
  pub said : Option Message
  pub state : State
  pub here : Content
  pub there : Content

-- After what came in between, the one that is called holds `there` and answers what was said, and
-- the caller holds `here` and takes the answer; nothing comes in the way of either.
pub record Round (e : Execution) (caller called : Party) (before : CallState) : Type 0 where
  pub here : Content
  pub there : Content
  pub grown : IsWithin before.here here × IsWithin before.there there
  pub asked : Message
  pub said : before.said ≡ Some asked
  pub answer : Message
  pub told : (turned called Serving there asked).reply ≡ Some answer
  pub state : State
  pub goes : (turned caller before.state here answer).result ≡ Ok state
  pub held : WasHeld e here × WasHeld e there
      × WasHeld e (turned caller before.state here answer).content
      × WasHeld e (turned called Serving there asked).content

-- how the call stands after the round
abbrev pub call_behind : (e : Execution) (caller called : Party) (before : CallState)
    → Round e caller called before → CallState
call_behind e caller called before round = record {
  said = (turned caller before.state round.here round.answer).reply;
  state = round.state;
  here = (turned caller before.state round.here round.answer).content;
  there = (turned called Serving round.there round.asked).content;
}

-- so many rounds, one after the other
abbrev pub GoesBy : Execution → (caller called : Party) → ℕ → CallState → CallState → Type 0
GoesBy e caller called zero before after = after ≡ before
GoesBy e caller called (suc rounds) before after =
    (round : Round e caller called before)
    × GoesBy e caller called rounds (call_behind e caller called before round) after

-- the question of who calls for what these numbers lack
abbrev pub call_question : (caller : Party) → (numbers : List ℕ) → Message
call_question caller numbers =
    Asks (record { id = caller.id; sender = caller.own; vector = numbers })

-- who asks by these numbers asks for no less than by those that R has of its own: none is greater
-- than R's number of its replica
abbrev pub AsksForNoLess : Content → (numbers : List ℕ) → Type 0
AsksForNoLess R numbers =
    (replica : ℕ) → IsReplica replica → number_of numbers replica ≤ vec R replica

-- a call begins: the caller asked for what these numbers lack
abbrev pub call_begun : (caller : Party) → (numbers : List ℕ) → (here there : Content) → CallState
call_begun caller numbers here there = record {
  said = Some (call_question caller numbers);
  state = Pulling;
  here = here;
  there = there;
}
