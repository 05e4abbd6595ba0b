-- Lemmas: that it is told that the store broke is a move of the world.
use Rattle.std.proofs.Common.{sym, subst}
use Rattle.archive.specs.Store.{Store}
use Rattle.multiplex.specs.Behavior.{MovesAddUp}
use Rattle.conversation.specs.declared.world.World.{World}
use Rattle.conversation.specs.Adding.{moves_over}
use Rattle.conversation.specs.Moves.{Moves}
use Rattle.ua_server.specs.declared.log.ErrorLog.{ErrorLog}
use Rattle.ua_server.specs.Telling.{Known, Readings}
use Rattle.ua_server.specs.Logging.{logs_to}
use Rattle.ua_server.specs.Watching.{TellsBreak, conversations}

module _ {A C E : Type 0} (state : A → Store) (gave : Readings C) (told : Known E) where
  -- that the store broke is told
  break_moves : (v w : World A C (ErrorLog E C)) → TellsBreak state gave told v w → Moves state v w
  break_moves v w tells =
      subst (λ (u : World A C (ErrorLog E C)). Moves state v u) (sym tells.0)
      ((moves_over state gave (logs_to told gave)).none v)

  -- what watched conversations do are moves, and moves add up
  pub watched_moves : MovesAddUp (conversations state gave told)
  watched_moves =
      let moves = moves_over state gave (logs_to told gave) in
      record {
        none = moves.none;
        more = moves.more;
        passes = λ v w now longest_turn passed.
            moves.more v passed.0 w (moves.passes v passed.0 now longest_turn passed.1)
            (break_moves passed.0 w passed.2);
        begins = moves.begins;
        answers = moves.answers;
        calls = moves.calls;
        closes = moves.closes;
        fails_accept = moves.fails_accept;
      }
