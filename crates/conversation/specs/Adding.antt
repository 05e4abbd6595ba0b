-- Lemmas: what answers do are moves of the world, and moves add up.
use Rattle.std.proofs.Common.{◌≡◌, ◌∙◌, ℕ, ℤ, Bool, true, false, List, [], Option, None, Some, Result, Ok, Err, inl, inr, refl, sym, ap, subst}
use Rattle.archive.specs.Store.{Store}
use Rattle.multiplex.specs.Behavior.{MovesAddUp}
use Rattle.multiplex.specs.declared.handler.SlotEnd.{SlotEnd}
use Rattle.multiplex.specs.declared.stay.Stay.{Stay}
use Rattle.multiplex.specs.declared.stay.Party.{Party}
use Rattle.multiplex.specs.declared.stay.Party.TheVariants.{Accepted, Called}
use Rattle.conversation.specs.declared.world.World.{World}
use Rattle.conversation.specs.declared.other_end.OtherEnd.{OtherEnd}
use Rattle.conversation.specs.declared.other_end.OtherEnd.TheVariants.{Unknown, Client, Peer, Browser, Stranger, Over}
use Rattle.exchange.specs.declared.fault.ExchangeFault.{ExchangeFault}
use Rattle.ua_peers.specs.declared.calling.SyncFault.{SyncFault}
use Rattle.ua_peers.specs.declared.calling.SyncFault.TheVariants.{Exchange}
use Rattle.ua_peers.specs.declared.calling.Synced.{Synced}
use Rattle.ua_settings.specs.declared.peers.PeerCall.{PeerCall}
use Rattle.conversation.specs.OtherEnds.{ConversationEnding, moved_by, none_moved}
use Rattle.conversation.specs.Events.{LogEvent, Telling, Logs}
use Rattle.conversation.specs.Answering.{AnswersFirst, MeetsPeer}
use Rattle.conversation.specs.Comparing.{FindsNone}
use Rattle.conversation.specs.Closing.{TellsCallOf, TellsEnd, TellsEndOf, TellsTurn, TellsTurnOf, with_connection, without_connection, with_now, call_outcome, is_slow}
use Rattle.conversation.specs.declared.other_end.PeerDialog.{PeerDialog}
use Rattle.conversation.specs.Starting.{GreetsPeer, AsksPeer, BeginsBy, StartsCall}
use Rattle.conversation.specs.Moves.{OnlyGrows, Moves}
use Rattle.conversation.specs.Conversing.{behavior_over}
use Rattle.conversation.specs.Growing.{transitions_grow, talks_grow, greets_grow, greets_before_grow, own_grows, compared_grows, ahead_grows, grows_none, grows_more}

-- a frame that asks
greeting_grows : (checks : Bool) (a b : Store) (made : List ℕ)
    (result : Result (Unit {0}) ExchangeFault) → GreetsPeer checks a b made result → OnlyGrows a b
greeting_grows true a b made result greets = greets_before_grow a b [] made result greets
greeting_grows false a b made result greets = greets_grow a b [] made result greets

ask_grows : (checks : Bool) (a b : Store) (made : List ℕ) (result : Result (Unit {0}) ExchangeFault)
    → AsksPeer checks a b made result → OnlyGrows a b
ask_grows checks a b made result (inl greets) = greeting_grows checks a b made result greets
ask_grows checks a b made result (inr (frame, greets, none, starved)) =
    greeting_grows checks a b frame (Ok tt) greets

module _ {A C L : Type 0} (state : A → Store) where
  -- none
  none_moves : (v : World A C L) → Moves state v v
  none_moves v = (refl, grows_none (state v.server.replica.archive))

  -- a world that stays
  same_moves : (v w : World A C L) → w ≡ v → Moves state v w
  same_moves v w e = subst (λ (u : World A C L). Moves state v u) (sym e) (none_moves v)

  -- some, and then others
  more_moves : (u v w : World A C L) → Moves state u v → Moves state v w → Moves state u w
  more_moves u v w first later = (later.0 ∙ first.0, grows_more _ _ _ first.1 later.1)

  -- an answer to a peer's frame
  meet_moves : (gave : C → List ℤ → C → Type 0) (v w : World A C L) (peer : PeerDialog)
      (new : OtherEnd) (made : List ℕ) (ending : Option ConversationEnding)
      → MeetsPeer state gave v peer made ending w new → Moves state v w
  meet_moves gave v w peer new made ending (inl a) = (
    a.stays.settings,
    grows_more _ _ _ (own_grows state _ _ a.between _ a.takes.asks)
        (talks_grow _ _ _ _ _ _ _ _ a.once.talks),
  )
  meet_moves gave v w peer new made ending (inr (inl a)) = (
    a.stays.settings,
    grows_more _ _ _ (own_grows state _ _ a.between _ a.takes.asks)
        (ahead_grows _ _ _ _ _ _ a.learns),
  )
  meet_moves gave v w peer new made ending (inr (inr a)) =
      (a.stays.settings, own_grows state _ _ _ a.asked a.asks)

  -- a call that found no number that was given twice
  compared_moves : (party : Party) (v w : World A C L) (peer : PeerDialog)
      → FindsNone state party peer v w → Moves state v w
  compared_moves party v w peer none = (
    ap (λ (u : World A C L). u.server.settings) none.0,
    compared_grows state _ _ _ _ (Ok None) none.1,
  )

  -- an answer
  answer_moves : (gave : C → List ℤ → C → Type 0) (told : Telling L) (stay : Stay)
      (v w : World A C L) (old new : OtherEnd) (made : List ℕ) (ending : Option ConversationEnding)
      → AnswersFirst state gave told stay v old made ending w new → Moves state v w
  answer_moves gave told stay v w (Unknown door letters) new made ending a = same_moves v w a.2
  answer_moves gave told stay v w Stranger new made ending a = same_moves v w a.2
  answer_moves gave told stay v w (Over moved) new made ending a = same_moves v w a.2
  answer_moves gave told stay v w (Client link) new made ending a =
      (a.settings, transitions_grow _ _ _ _ a.advances)
  answer_moves gave told stay v w (Browser web) new made ending a =
      (a.settings, transitions_grow _ _ _ _ a.answers.1.1)
  answer_moves gave told stay v w (Peer peer) new made ending (inl (between, none, meets)) =
      more_moves v between w (compared_moves stay.party v between peer none)
      (meet_moves gave between w peer new made ending meets)
  answer_moves gave told stay v w (Peer peer) new made ending (inr ends) = (
    ap (λ (u : World A C L). u.server.settings) ends.same,
    compared_grows state _ _ _ _ ends.found ends.compares,
  )

  -- what is told
  log_moves : (told : Telling L) (event : LogEvent) (v w : World A C L) → Logs told event v w
      → Moves state v w
  log_moves told event v w logs =
      subst (λ (u : World A C L). Moves state v u) (sym logs.0)
      (refl, grows_none (state v.server.replica.archive))

  -- how a call ended
  call_moves : (gave : C → List ℤ → C → Type 0) (told : Telling L) (callee : ℕ)
      (v w : World A C L) (outcome : Result (Unit {0}) SyncFault) (moved : Synced)
      (peer : Option PeerCall) → TellsCallOf gave told v callee outcome moved w peer
      → Moves state v w
  call_moves gave told callee v w outcome moved None e = same_moves v w e
  call_moves gave told callee v w outcome moved (Some peer) ends =
      subst (λ (u : World A C L). Moves state v u) (sym ends.same)
      (refl, grows_none (state v.server.replica.archive))

  -- a call begins
  begin_moves : (gave : C → List ℤ → C → Type 0) (told : Telling L) (callee : ℕ)
      (v w : World A C L) (other : Option OtherEnd) (result : Result (Unit {0}) ExchangeFault)
      → BeginsBy gave told callee v other w result → Moves state v w
  begin_moves gave told callee v w other (Ok done) so = same_moves v w so.1
  begin_moves gave told callee v w other (Err fault) so =
      call_moves gave told callee v w (Err (Exchange fault)) none_moved _ so.1

  start_moves : (gave : C → List ℤ → C → Type 0) (told : Telling L) (callee : ℕ)
      (v w : World A C L) (made : List ℕ) (other : Option OtherEnd)
      → StartsCall state gave told callee v made other w → Moves state v w
  start_moves gave told callee v w made other s =
      more_moves v s.between w (s.settings, ask_grows _ _ _ made s.result s.asks)
      (begin_moves gave told callee s.between w other s.result s.begins)

  -- how a connection ended
  end_moves : (gave : C → List ℤ → C → Type 0) (told : Telling L) (stay : Stay)
      (v w : World A C L) (other : OtherEnd) (ending : SlotEnd ConversationEnding)
      → TellsEnd gave told stay v other ending w → Moves state v w
  end_moves gave told stay v w other ending tells = by stay.party tells
    where
      by : (party : Party) → TellsEndOf gave told stay v other ending w party → Moves state v w
      by (Called callee) tells =
          call_moves gave told callee v w (call_outcome ending) (moved_by other) _ tells
      by (Accepted origin) logs = log_moves told _ (without_connection v) w logs

  -- how long a turn took
  turn_told : (told : Telling L) (v : World A C L) (longest : ℕ) (w : World A C L) (slow : Bool)
      → TellsTurnOf told v longest w slow → Moves state v w
  turn_told told v longest w true logs = log_moves told _ v w logs
  turn_told told v longest w false same = same_moves v w same

  -- time that passes
  pass_moves : (told : Telling L) (v : World A C L) (now longest : ℕ) (w : World A C L)
      → TellsTurn told (with_now v now) longest w → Moves state v w
  pass_moves told v now longest w tells =
      turn_told told (with_now v now) longest w (is_slow v.server.settings longest) tells

  -- what answers do are moves, and moves add up
  pub moves_over : (gave : C → List ℤ → C → Type 0) (told : Telling L)
      → MovesAddUp (behavior_over state gave told)
  moves_over gave told = record {
    none = none_moves;
    more = more_moves;
    passes = λ v w now longest_turn passed. pass_moves told v now longest_turn w passed;
    begins = λ origin v w other begun. log_moves told _ (with_connection v) w begun.1;
    answers = λ stay v w old new made ending a.
        answer_moves gave told stay v w old new made ending a;
    closes = λ stay v w other ending closed. end_moves gave told stay v w other ending closed;
    fails_accept = λ v w now logs. log_moves told _ v w logs;
    calls = λ callee v w made other called. start_moves gave told callee v w made other called;
  }
