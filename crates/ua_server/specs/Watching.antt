-- A store that breaks while it is served, and is served on.
use Rattle.std.specs.Prelude.{◌≡◌, ℕ, ◌&&◌, ◌||◌, Bool, true, is_some, not}
use Rattle.archive.specs.Store.{Store}
use Rattle.event_lines.specs.Lines.{broken_text}
use Rattle.multiplex.specs.Behavior.{Behavior}
use Rattle.conversation.specs.declared.other_end.OtherEnd.{OtherEnd}
use Rattle.conversation.specs.declared.world.World.{World}
use Rattle.conversation.specs.Closing.{TellsTurn, with_now}
use Rattle.conversation.specs.Conversing.{behavior_over}
use Rattle.conversation.specs.OtherEnds.{ConversationEnding}
use Rattle.ua_settings.specs.Settings.{SettingsValues, ends_serving}
use Rattle.ua_server.specs.declared.log.ErrorLog.{ErrorLog}
use Rattle.ua_server.specs.Telling.{Known, Readings}
use Rattle.ua_server.specs.Logging.{LogsTimed, Whether, logs_to}

-- the store is broken, which wasn't told yet; events are told, and by the settings it is served on
abbrev pub is_break_news : {A C E : Type 0} → (A → Store) → World A C (ErrorLog E C) → Bool
is_break_news state w =
    w.log.events && not w.log.is_break_told && not (ends_serving w.server.settings.after_break)
    && (state w.server.replica.archive).broken

-- by these settings it is served on over a store in a file that broke
abbrev pub are_served_on : SettingsValues → Bool
are_served_on settings = not (ends_serving settings.after_break) && is_some settings.store

-- the store is broken, and it is to be told why, which wasn't told yet: events are told, and by the
-- settings it is served on
abbrev pub is_cause_due : {A C E : Type 0} → (A → Store) → World A C (ErrorLog E C) → Bool
is_cause_due state w =
    (state w.server.replica.archive).broken && w.log.events && not w.log.is_cause_told
    && are_served_on w.server.settings

-- where that is so, its line was written, and it is known that it was told; else all stays
abbrev pub TellsBreak : {A C E : Type 0} → (A → Store) → Readings C → Known E
    → (old new : World A C (ErrorLog E C)) → Type 0
TellsBreak state gave told old new =
    (new ≡ record old { log = new.log })
    × Whether (is_break_news state old)
    (LogsTimed told gave broken_text (record old.log { is_break_told = true }) new.log)
    (new.log ≡ old.log)

module _ {A C E : Type 0} (state : A → Store) (gave : Readings C) (told : Known E) where
  -- the time of a round is kept; a long turn was told, and then that the store broke
  abbrev pub PassesWatched : (old : World A C (ErrorLog E C)) → (now longest_turn : ℕ)
      → (new : World A C (ErrorLog E C)) → Type 0
  PassesWatched old now longest_turn new =
      (between : World A C (ErrorLog E C))
      × TellsTurn (logs_to told gave) (with_now old now) longest_turn between
      × TellsBreak state gave told between new

  -- what is said on connections over an archive, and told of them on standard error; in each round
  -- it is told where it is news that the store broke; nobody is served where it is due to say why
  abbrev pub conversations : Behavior OtherEnd (World A C (ErrorLog E C)) ConversationEnding
  conversations =
      let behavior = behavior_over state gave (logs_to told gave) in
      record behavior {
        passes = PassesWatched;
        is_over = λ w. behavior.is_over w || is_cause_due state w;
      }
