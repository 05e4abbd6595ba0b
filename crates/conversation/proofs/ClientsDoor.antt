-- Whatever comes to the door of clients, or is answered there, no peer does or is
-- (`a_clients_door_takes_no_peer`).
use Rattle.std.proofs.Common.{◌≡◌, ℕ, ℤ, Bool, true, false, List, ◌++◌, length, nat_lt, Some, None, refl, sym, subst}
use Rattle.std.specs.Prelude.{Option, if◌then◌else◌}
use Rattle.archive.specs.Store.{Store}
use Rattle.ua_connection.specs.Client.{new_client}
use Rattle.conversation.specs.declared.door.Door.{Door}
use Rattle.conversation.specs.declared.door.Door.TheVariants.{Clients}
use Rattle.conversation.specs.declared.other_end.OtherEnd.{OtherEnd}
use Rattle.conversation.specs.declared.other_end.OtherEnd.TheVariants.{Unknown, Client, Peer, Browser, Stranger, Over}
use Rattle.conversation.specs.declared.world.World.{World}
use Rattle.conversation.specs.OtherEnds.{ConversationEnding, known_by, unless_over}
use Rattle.conversation.specs.Receiving.{TakesBytes}
use Rattle.conversation.specs.Answering.{AnswersFirst}
use Rattle.conversation.specs.Events.{Telling}
use Rattle.conversation.specs.ClientsDoors.{IsAtClientsDoor}
use Rattle.multiplex.specs.declared.stay.Stay.{Stay}

-- who is known by these bytes
known-client : (door : Door) (came : List ℕ) → door ≡ Clients → IsAtClientsDoor (known_by door came)
known-client door came at =
    subst (λ (d : Door). IsAtClientsDoor (known_by d came)) (sym at) (by (nat_lt (length came) 3))
  where
    by : (few : Bool) → IsAtClientsDoor (if few then Unknown Clients came
        else Client (record { client = new_client; waiting = came }))
    by true = refl
    by false = tt

-- what is left behind an end, or not
left : (ending : Option ConversationEnding) (other : OtherEnd) → IsAtClientsDoor other
    → IsAtClientsDoor (unless_over ending other)
left None other at = at
left (Some end) other at = tt

pub bytes-at-door : (old new : OtherEnd) (bytes made : List ℕ) (ending : Option ConversationEnding)
    → IsAtClientsDoor old → TakesBytes old bytes made ending new → IsAtClientsDoor new
bytes-at-door old new bytes made (Some end) at takes =
    subst IsAtClientsDoor (sym takes.1) tt
bytes-at-door (Unknown door letters) new bytes made None at takes =
    subst IsAtClientsDoor (sym takes.1) (known-client door (letters ++ bytes) at)
bytes-at-door (Client link) new bytes made None at takes = subst IsAtClientsDoor (sym takes.1) tt
bytes-at-door (Peer peer) new bytes made None at takes = absurd at
bytes-at-door (Browser web) new bytes made None at takes = subst IsAtClientsDoor (sym takes.1) tt
bytes-at-door Stranger new bytes made None at takes = subst IsAtClientsDoor (sym takes.1) tt
bytes-at-door (Over moved) new bytes made None at takes = subst IsAtClientsDoor (sym takes.1) tt

pub answer-at-door : {A C L : Type 0} (state : A → Store) (gave : C → List ℤ → C → Type 0)
    (told : Telling L) (stay : Stay) (v w : World A C L) (old new : OtherEnd) (made : List ℕ)
    (ending : Option ConversationEnding) → IsAtClientsDoor old
    → AnswersFirst state gave told stay v old made ending w new → IsAtClientsDoor new
answer-at-door state gave told stay v w (Unknown door letters) new made ending at answers =
    subst IsAtClientsDoor (sym answers.3) at
answer-at-door state gave told stay v w (Client link) new made ending at answers =
    subst IsAtClientsDoor (sym answers.leaves) (left ending (Client answers.later) tt)
answer-at-door state gave told stay v w (Peer peer) new made ending at answers = absurd at
answer-at-door state gave told stay v w (Browser web) new made ending at answers =
    subst IsAtClientsDoor (sym answers.leaves) (left ending (Browser answers.later) tt)
answer-at-door state gave told stay v w Stranger new made ending at answers =
    subst IsAtClientsDoor (sym answers.3) tt
answer-at-door state gave told stay v w (Over moved) new made ending at answers =
    subst IsAtClientsDoor (sym answers.3) tt
