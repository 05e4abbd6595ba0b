-- What can't come about where a connection came to the door of clients.
use Rattle.std.specs.Prelude.{◌≡◌, ℕ, ℤ, List, Option}
use Rattle.archive.specs.Store.{Store}
use Rattle.multiplex.specs.declared.stay.Stay.{Stay}
use Rattle.conversation.specs.declared.door.Door.TheVariants.{Clients}
use Rattle.conversation.specs.declared.other_end.OtherEnd.{OtherEnd}
use Rattle.conversation.specs.declared.other_end.OtherEnd.TheVariants.{Unknown, Client, Peer, Browser, Stranger, Over}
use Rattle.conversation.specs.declared.world.World.{World}
use Rattle.conversation.specs.OtherEnds.{ConversationEnding}
use Rattle.conversation.specs.Receiving.{TakesBytes}
use Rattle.conversation.specs.Answering.{AnswersFirst}
use Rattle.conversation.specs.Events.{Telling}

-- the other end is a client, or nobody that is known yet, at the door of clients
abbrev pub IsAtClientsDoor : OtherEnd → Type 0
IsAtClientsDoor other = elim other [
  | Unknown door letters ↦ door ≡ Clients
  | Client link ↦ Unit {0}
  | Peer peer ↦ ⊥
  | Browser web ↦ Unit {0}
  | Stranger ↦ Unit {0}
  | Over moved ↦ Unit {0}
]

-- whatever bytes come, the other end isn't taken for a peer
abbrev pub NoPeerComes : Type 0
NoPeerComes =
    (old new : OtherEnd) (bytes made : List ℕ) (ending : Option ConversationEnding)
    → IsAtClientsDoor old → TakesBytes old bytes made ending new → IsAtClientsDoor new

-- whatever is answered, it is no peer that is answered
abbrev pub NoPeerIsAnswered : {A C L : Type 0} → (A → Store) → (C → List ℤ → C → Type 0)
    → Telling L → Type 0
NoPeerIsAnswered {A} {C} {L} state gave told =
    (stay : Stay) (v w : World A C L) (old new : OtherEnd) (made : List ℕ)
    (ending : Option ConversationEnding) → IsAtClientsDoor old
    → AnswersFirst state gave told stay v old made ending w new → IsAtClientsDoor new
