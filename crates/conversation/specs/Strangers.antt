-- What comes of a stranger at the door of peers.
use Rattle.std.specs.Prelude.{◌≡◌, ℕ, ℤ, true, List, [], Option, Some, Ok}
use Rattle.archive.specs.Store.{Store}
use Rattle.multiplex.specs.declared.stay.Origin.{Origin}
use Rattle.multiplex.specs.declared.stay.Stay.{Stay}
use Rattle.conversation.specs.declared.ended.Ended.TheVariants as ended
use Rattle.conversation.specs.declared.other_end.OtherEnd.{OtherEnd}
use Rattle.conversation.specs.declared.other_end.OtherEnd.TheVariants.{Over}
use Rattle.conversation.specs.declared.world.World.{World}
use Rattle.conversation.specs.Doors.{is_stranger}
use Rattle.conversation.specs.OtherEnds.{ConversationEnding, none_moved}
use Rattle.conversation.specs.Answering.{AnswersFirst}
use Rattle.conversation.specs.Events.{Telling}
use Rattle.conversation.specs.Conversing.{behavior_over}

-- what the turns do to a stranger: nothing is said, nothing changes, and the connection is over
pub record IsTurnedAway {A C L : Type 0} (v : World A C L) (made : List ℕ)
    (ending : Option ConversationEnding) (w : World A C L) (next : OtherEnd) : Type 0 where
  pub silent : made ≡ []
  pub ended : ending ≡ Some (Ok ended.Stranger)
  pub same : w ≡ v
  pub over : next ≡ Over none_moved

-- a connection to the door of peers from where none is taken is turned away at its first turn
abbrev pub StrangersAreTurnedAway : {A C L : Type 0} → (A → Store) → (C → List ℤ → C → Type 0)
    → Telling L → Type 0
StrangersAreTurnedAway {A} {C} {L} state gave told =
    (stay : Stay) (origin : Origin) (u v w : World A C L) (first next : OtherEnd) (made : List ℕ)
    (ending : Option ConversationEnding) → is_stranger u.from origin ≡ true
    → (behavior_over state gave told).begins origin u first v
    → AnswersFirst state gave told stay v first made ending w next
    → IsTurnedAway v made ending w next

-- and before that nothing of it is read, since nothing is waited for
abbrev pub StrangersAreUnread : {A C L : Type 0} → (A → Store) → (C → List ℤ → C → Type 0)
    → Telling L → Type 0
StrangersAreUnread {A} {C} {L} state gave told =
    let behavior = behavior_over state gave told in
    (origin : Origin) (u v : World A C L) (first : OtherEnd) → is_stranger u.from origin ≡ true
    → behavior.begins origin u first v → behavior.needs_more first → ⊥
