-- A client alone, step by step: for the law `a_client_alone_is_answered`.
use Rattle.std.proofs.Common.{◌≡◌, ◌∙◌, ◌⊎◌, inl, inr, ℕ, ℤ, ◌≤◌, nat_lt, Bool, true, false, List, [], ◌∷◌, ◌++◌, length, refl, ap, sym, subst, append_assoc, arith, rules}
use Rattle.std.specs.Prelude.{Option, None, Some}
use Rattle.std.specs.Option.{option_map}
use Rattle.std.proofs.lemmas.List.{append-nil}
use Rattle.archive.specs.Store.{Store}
use Rattle.archive.proofs.Acting.{moves-as}
use Rattle.historian.specs.Services.{site_of}
use Rattle.historian.specs.declared.server.Server.{Server}
use Rattle.multiplex.specs.Alone.{AreOwnSteps, bytes_received, bytes_made}
use Rattle.multiplex.specs.Input.{Input}
use Rattle.multiplex.specs.Output.{Output}
use Rattle.multiplex.specs.Slots.{Slot}
use Rattle.multiplex.specs.Steps.{Step}
use Rattle.multiplex.specs.Steps as step
use Rattle.multiplex.specs.declared.handler.SlotEnd.TheVariants.{Finished}
use Rattle.ua_settings.specs.Settings.{SettingsValues}
use Rattle.ua_connection.specs.Environments.{Environment, before, empty_environment}
use Rattle.ua_connection.specs.Client.{Ending as ClientEnding, chunks}
use Rattle.ua_connection.specs.Turns.{ConnectionState, new_link, Advances, AnswersBytes}
use Rattle.ua_connection.proofs.Runs.{answers-more}
use Rattle.ua_connection.proofs.Turning.{turned-none}
use Rattle.ua_connection.proofs.Flow.{turned-then}
use Rattle.conversation.specs.declared.other_end.OtherEnd.{OtherEnd}
use Rattle.conversation.specs.declared.other_end.OtherEnd.TheVariants.{Unknown, Client, Over}
use Rattle.conversation.specs.declared.world.World.{World}
use Rattle.conversation.specs.declared.door.Door.{Door}
use Rattle.conversation.specs.declared.door.Door.TheVariants.{Both, Clients, Peers, Browsers}
use Rattle.conversation.specs.Doors.{is_peers}
use Rattle.conversation.specs.OtherEnds.{ConversationEnding, known_by, none_moved, unless_over}
use Rattle.conversation.specs.Receiving.{TakesBytes}
use Rattle.conversation.specs.Answering.{AnswersFirst, client_ending}
use Rattle.conversation.specs.Alone.{StaysStill, still_behavior, TakesAll, AnswersStretch}
use Rattle.conversation.specs.Events.{Telling}
use Rattle.multiplex.specs.declared.stay.Stay.{Stay}

-- this connection, with more bytes that wait
abbrev with_more : ConnectionState → List ℕ → ConnectionState
with_more link piece = record link { waiting = link.waiting ++ piece }

-- what was answered is so whatever comes behind it
fed : (settings : SettingsValues) (a b : Store) (link later : ConnectionState) (used : Environment)
    (made piece : List ℕ) → Advances settings a b link used made None later
    → Advances settings a b (with_more link piece) used made None (with_more later piece)
fed settings a b link later used made piece advances =
    moves-as a b used.marks (λ marks R S.
    AnswersBytes (site_of settings a) link R (record used { marks = marks }) made None later S)
    (λ marks R S. AnswersBytes (site_of settings a) (with_more link piece) R
    (record used { marks = marks }) made None (with_more later piece) S)
    (λ marks R S p. record {
      last = p.last;
      content = p.content;
      goes = p.goes;
      answers = answers-more (chunks (site_of settings a)) _ link.waiting piece
          (record used { marks = marks }) _ later.waiting p.answers;
    }) advances

-- nothing came, and nothing was made, behind an end
abbrev IsStill : {A C L : Type 0} → World A C L → (came made : List ℕ) → World A C L → OtherEnd
    → Type 0
IsStill v came made w next =
    (came ≡ []) × (made ≡ []) × StaysStill v w × (next ≡ Over none_moved)

ends-known : (end : Option ConversationEnding) (link : ConnectionState)
    → unless_over end (Client link) ≡ Over none_moved → option_map Finished end ≡ None → ⊥
ends-known None link over none = cc
ends-known (Some e) link over none = cc

too-few : (letters : List ℕ) → nat_lt (length letters) 3 ≡ true → 3 ≤ length letters → ⊥
too-few letters few long = absurd (grind (arith, rules))

-- the first three letters tell whose connection it is, whatever follows
peers-more : (door : Door) (came more : List ℕ) → nat_lt (length came) 3 ≡ false
    → is_peers door (came ++ more) ≡ is_peers door came
peers-more Both [] more long = cc
peers-more Both (a ∷ []) more long = cc
peers-more Both (a ∷ b ∷ []) more long = cc
peers-more Both (a ∷ b ∷ c ∷ came) more long = refl
peers-more Clients came more long = refl
peers-more Peers came more long = refl
peers-more Browsers came more long = refl

-- who brought these bytes, and more, is no peer: nobody is known yet, or a client
known : (door : Door) (came more : List ℕ) → is_peers door (came ++ more) ≡ false
    → ((nat_lt (length came) 3 ≡ true) × (known_by door came ≡ Unknown door came))
    ⊎ (known_by door came ≡ Client (with_more new_link came))
known door came more client = by (nat_lt (length came) 3) refl
  where
    by : (b : Bool) → nat_lt (length came) 3 ≡ b
        → ((nat_lt (length came) 3 ≡ true) × (known_by door came ≡ Unknown door came))
        ⊎ (known_by door came ≡ Client (with_more new_link came))
    by true e = inl (e, rw e refl)
    by false e = inr (rw e (rw (sym (peers-more door came more e) ∙ client) refl))

module _ {R W A C L : Type 0} (input : Input R) (output : Output W) (state : A → Store)
    (gave : C → List ℤ → C → Type 0) (told : Telling L) where
  -- a world that stays, and then is the same
  stays-then : (v u w : World A C L) → StaysStill v u → w ≡ u → StaysStill v w
  stays-then v u w stays e = (
    ap (λ (x : World A C L). x.server) e ∙ stays.0,
    ap (λ (x : World A C L). x.clock) e ∙ stays.1,
  )

  -- the same, and then stays again
  through : (v u x w : World A C L) → StaysStill v u → x ≡ u → StaysStill x w → StaysStill v w
  through v u x w stays e more =
      let so = stays-then v u x stays e in (more.0 ∙ so.0, more.1 ∙ so.1)

  -- the steps behind an end
  still : (v w : World A C L) (old new : Slot OtherEnd R W ConversationEnding)
      (steps : List (Step ConversationEnding)) → old.handler ≡ Over none_moved
      → (old.ending ≡ None → ⊥)
      → AreOwnSteps input output (still_behavior state gave told) v old steps w new
      → IsStill v (bytes_received steps) (bytes_made steps) w new.handler
  still v w old new [] over ended own =
      (refl, refl, own.0, ap (λ (s : Slot OtherEnd R W ConversationEnding). s.handler) own.1 ∙ over)
  still v w old new (step.Receives bytes made end ∷ steps) over ended own =
      absurd (ended own.5.1.responsive.0)
  still v w old new (step.Answers made end ∷ steps) over ended own =
      absurd (ended own.5.responsive.0)
  still v w old new (step.Lacks ∷ steps) over ended own =
      let said = subst (λ (o : OtherEnd).
      AnswersFirst state gave told old.stay own.0 o [] None own.1 own.3.handler) over own.5.answers in
      let on = still own.1 w own.3 new steps said.3
      (λ e. ended (sym (ap (λ (s : Slot OtherEnd R W ConversationEnding). s.ending)
      own.5.others) ∙ e)) own.6 in
      (on.0, on.1, through v own.0 own.1 w own.4 said.2 on.2, on.3)
  still v w old new (step.Writes bytes ∷ steps) over ended own =
      let on = still own.1 w own.3 new steps (ap
      (λ (s : Slot OtherEnd R W ConversationEnding). s.handler) own.5.1.others ∙ over)
      (λ e. ended (sym (ap (λ (s : Slot OtherEnd R W ConversationEnding). s.ending)
      own.5.1.others) ∙ e)) own.6 in
      (on.0, on.1, through v own.0 own.1 w own.4 own.5.0 on.2, on.3)
  still v w old new (step.Stops ending ∷ steps) over ended own =
      let on = still own.1 w own.3 new steps (ap
      (λ (s : Slot OtherEnd R W ConversationEnding). s.handler) own.5.1.others ∙ over)
      (λ e. cc (ap (λ (s : Slot OtherEnd R W ConversationEnding). s.ending) own.5.1.others, e))
      own.6 in
      (on.0, on.1, through v own.0 own.1 w own.4 own.5.0 on.2, on.3)
  still v w old new (step.FindsEmpty ∷ steps) over ended own =
      let on = still own.1 w own.3 new steps (ap
      (λ (s : Slot OtherEnd R W ConversationEnding). s.handler) own.5.1.others ∙ over)
      (λ e. ended (sym (ap (λ (s : Slot OtherEnd R W ConversationEnding). s.ending)
      own.5.1.others) ∙ e)) own.6 in
      (on.0, on.1, through v own.0 own.1 w own.4 own.5.0 on.2, on.3)
  still v w old new (step.FindsFull ∷ steps) over ended own =
      let on = still own.1 w own.3 new steps (ap
      (λ (s : Slot OtherEnd R W ConversationEnding). s.handler) own.5.1.others ∙ over)
      (λ e. ended (sym (ap (λ (s : Slot OtherEnd R W ConversationEnding). s.ending)
      own.5.1.others) ∙ e)) own.6 in
      (on.0, on.1, through v own.0 own.1 w own.4 own.5.0 on.2, on.3)
  still v w old new (step.Releases ∷ steps) over ended own =
      let on = still own.1 w own.3 new steps (ap
      (λ (s : Slot OtherEnd R W ConversationEnding). s.handler) own.5.1.others ∙ over)
      (λ e. ended (sym (ap (λ (s : Slot OtherEnd R W ConversationEnding). s.ending)
      own.5.1.others) ∙ e)) own.6 in
      (on.0, on.1, through v own.0 own.1 w own.4 own.5.0 on.2, on.3)
  still v w old new (step.Wakes ∷ steps) over ended own =
      let on = still own.1 w own.3 new steps (ap
      (λ (s : Slot OtherEnd R W ConversationEnding). s.handler) own.5.1 ∙ over)
      (λ e. ended (sym (ap (λ (s : Slot OtherEnd R W ConversationEnding). s.ending) own.5.1)
      ∙ e)) own.6 in
      (on.0, on.1, through v own.0 own.1 w own.4 own.5.0 on.2, on.3)

  -- from another world where nothing is otherwise
  same-answered : (v u w : World A C L) (link : ConnectionState) (came made : List ℕ)
      (next : OtherEnd) → StaysStill v u → AnswersStretch state gave u link came made w next
      → AnswersStretch state gave v link came made w next
  same-answered v u w link came made next stays is = record {
    used = is.used;
    ends = is.ends;
    later = is.later;
    settings = is.settings ∙ ap (λ (s : Server A). s.settings) stays.0;
    clock = subst (λ (c : C). gave c is.used.readings w.clock) stays.1 is.clock;
    advances = subst (λ (s : Server A). Advances s.settings (state s.replica.archive)
        (state w.server.replica.archive) (with_more link came) is.used made is.ends is.later)
        stays.0 is.advances;
    leaves = is.leaves;
  }

  -- to another world where nothing is otherwise
  left-answered : (v u w : World A C L) (link : ConnectionState) (came made : List ℕ)
      (next : OtherEnd) → StaysStill u w → AnswersStretch state gave v link came made u next
      → AnswersStretch state gave v link came made w next
  left-answered v u w link came made next stays is = record {
    used = is.used;
    ends = is.ends;
    later = is.later;
    settings = ap (λ (s : Server A). s.settings) stays.0 ∙ is.settings;
    clock = subst (λ (c : C). gave v.clock is.used.readings c) (sym stays.1) is.clock;
    advances = subst (λ (s : Server A). Advances v.server.settings (state v.server.replica.archive)
        (state s.replica.archive) (with_more link came) is.used made is.ends is.later)
        (sym stays.0) is.advances;
    leaves = is.leaves;
  }

  -- nothing was answered
  none-answered : ((clock : C) → gave clock [] clock)
      → (v w : World A C L) (link : ConnectionState) (next : OtherEnd) → StaysStill v w
      → next ≡ Client link → AnswersStretch state gave v link [] [] w next
  none-answered gave_none v w link next stays is =
      left-answered v v w link [] [] next stays (record {
        used = empty_environment;
        ends = None;
        later = with_more link [];
        settings = refl;
        clock = gave_none v.clock;
        advances = turned-none v.server.settings (state v.server.replica.archive)
            (with_more link []);
        leaves = is ∙ ap (λ (waiting : List ℕ). Client (record link { waiting = waiting }))
            (sym (append-nil link.waiting));
      })

  -- bytes came, and what came behind them was answered
  came-answered : (v w : World A C L) (link : ConnectionState) (bytes came made : List ℕ)
      (next : OtherEnd) → AnswersStretch state gave v (with_more link bytes) came made w next
      → AnswersStretch state gave v link (bytes ++ came) made w next
  came-answered v w link bytes came made next is = record {
    used = is.used;
    ends = is.ends;
    later = is.later;
    settings = is.settings;
    clock = is.clock;
    advances = subst (λ (waiting : List ℕ).
        Advances v.server.settings (state v.server.replica.archive) (state w.server.replica.archive)
        (record link { waiting = waiting }) is.used made is.ends is.later)
        (append_assoc link.waiting bytes came) is.advances;
    leaves = is.leaves;
  }

  -- an answer, and what came behind it
  first-answered : ((a b c : C) (xs ys : List ℤ) → gave a xs b → gave b ys c → gave a (xs ++ ys) c)
      → (stay : Stay) (u b w : World A C L) (link : ConnectionState) (made came more : List ℕ)
      (ending : Option ConversationEnding) (next last : OtherEnd)
      → AnswersFirst state gave told stay u (Client link) made ending b next
      → ((later : ConnectionState) → next ≡ Client later
      → AnswersStretch state gave b later came more w last)
      → (next ≡ Over none_moved → IsStill b came more w last)
      → AnswersStretch state gave u link came (made ++ more) w last
  first-answered gave_more stay u b w link made came more ending next last is on over =
      by is.ends is.advances is.ended_so
    where
      by : (ends : Option ClientEnding)
          → Advances u.server.settings (state u.server.replica.archive)
          (state b.server.replica.archive) link is.used made ends is.later
          → ending ≡ client_ending ends
          → AnswersStretch state gave u link came (made ++ more) w last
      by None advances so =
          let goes : next ≡ Client is.later =
          is.leaves ∙ ap (λ (e : Option ConversationEnding). unless_over e (Client is.later)) so
          in
          let more_so = on is.later goes in
          let first = fed u.server.settings (state u.server.replica.archive)
          (state b.server.replica.archive) link is.later is.used made came advances in
          let second = subst (λ (s : SettingsValues).
          Advances s (state b.server.replica.archive) (state w.server.replica.archive)
          (with_more is.later came) more_so.used more more_so.ends more_so.later) is.settings
          more_so.advances in
          record {
            used = before is.used more_so.used;
            ends = more_so.ends;
            later = more_so.later;
            settings = more_so.settings ∙ is.settings;
            clock = gave_more u.clock b.clock w.clock is.used.readings more_so.used.readings
                is.clock more_so.clock;
            advances = turned-then u.server.settings (state u.server.replica.archive)
                (state b.server.replica.archive) (state w.server.replica.archive)
                (with_more link came)
                (with_more is.later came) more_so.later is.used more_so.used made more more_so.ends
                first second;
            leaves = more_so.leaves;
          }
      by (Some e) advances so =
          let ended : next ≡ Over none_moved =
          is.leaves ∙ ap (λ (x : Option ConversationEnding). unless_over x (Client is.later)) so
          in
          let rest = over ended in
          let whole : AnswersStretch state gave u link [] (made ++ []) b
          (Over none_moved) = record {
            used = is.used;
            ends = Some e;
            later = is.later;
            settings = is.settings;
            clock = is.clock;
            advances = subst (λ (l : ConnectionState).
                Advances u.server.settings (state u.server.replica.archive)
                (state b.server.replica.archive) l is.used (made ++ []) (Some e) is.later)
                (ap (λ (waiting : List ℕ). record link { waiting = waiting })
                (sym (append-nil link.waiting)))
                (subst (λ (m : List ℕ).
                Advances u.server.settings (state u.server.replica.archive)
                (state b.server.replica.archive) link is.used m (Some e) is.later)
                (sym (append-nil made)) advances);
            leaves = refl;
          } in
          subst (λ (x : List ℕ). AnswersStretch state gave u link x (made ++ more) w last)
          (sym rest.0)
          (subst (λ (m : List ℕ). AnswersStretch state gave u link [] (made ++ m) w last)
          (sym rest.1)
          (left-answered u b w link [] (made ++ []) last rest.2
          (subst (λ (o : OtherEnd). AnswersStretch state gave u link [] (made ++ []) b o)
          (sym rest.3) whole)))

  module _ (gave_none : (clock : C) → gave clock [] clock)
      (gave_more : (a b c : C) (xs ys : List ℤ) → gave a xs b → gave b ys c → gave a (xs ++ ys) c)
    where
      alone : (v w : World A C L) (link : ConnectionState)
          (old new : Slot OtherEnd R W ConversationEnding) (steps : List (Step ConversationEnding))
          → old.handler ≡ Client link → TakesAll steps
          → AreOwnSteps input output (still_behavior state gave told) v old steps w new
          → AnswersStretch state gave v link (bytes_received steps) (bytes_made steps) w new.handler
      alone v w link old new [] is taken own =
          none-answered gave_none v w link new.handler own.0
          (ap (λ (s : Slot OtherEnd R W ConversationEnding). s.handler) own.1 ∙ is)
      alone v w link old new (step.Receives bytes made end ∷ steps) is taken own =
          let got = subst (λ (e : Option ConversationEnding).
          TakesBytes (Client link) bytes made e own.3.handler) taken.0
          (subst (λ (o : OtherEnd). TakesBytes o bytes made end own.3.handler) is
          own.5.1.receives) in
          let on = alone own.1 w (with_more link bytes) own.3 new steps got.1 taken.1 own.6 in
          let behind = came-answered own.1 w link bytes (bytes_received steps)
          (bytes_made steps) new.handler on in
          same-answered v own.1 w link (bytes ++ bytes_received steps)
          (made ++ bytes_made steps) new.handler (stays-then v own.0 own.1 own.4 own.5.0)
          (subst (λ (m : List ℕ). AnswersStretch state gave own.1 link
          (bytes ++ bytes_received steps)
          (m ++ bytes_made steps) w new.handler) (sym got.0) behind)
      alone v w link old new (step.Answers made end ∷ steps) is taken own =
          let said = subst (λ (o : OtherEnd).
          AnswersFirst state gave told old.stay own.0 o made end own.1 own.3.handler) is own.5.answers in
          same-answered v own.0 w link (bytes_received steps)
          (made ++ bytes_made steps) new.handler own.4
          (first-answered gave_more old.stay own.0 own.1 w link made (bytes_received steps)
          (bytes_made steps) end own.3.handler new.handler said
          (λ later goes. alone own.1 w later own.3 new steps goes taken.1 own.6)
          (λ over. still own.1 w own.3 new steps over
          (λ none. ends-known end said.later (sym said.leaves ∙ over)
          (sym (ap (λ (s : Slot OtherEnd R W ConversationEnding). s.ending) own.5.others) ∙ none))
          own.6))
      alone v w link old new (step.Lacks ∷ steps) is taken own =
          let said = subst (λ (o : OtherEnd).
          AnswersFirst state gave told old.stay own.0 o [] None own.1 own.3.handler) is own.5.answers in
          same-answered v own.0 w link (bytes_received steps) (bytes_made steps) new.handler own.4
          (first-answered gave_more old.stay own.0 own.1 w link [] (bytes_received steps)
          (bytes_made steps) None own.3.handler new.handler said
          (λ later goes. alone own.1 w later own.3 new steps goes taken.1 own.6)
          (λ over. absurd (cc (said.leaves, over))))
      alone v w link old new (step.Writes bytes ∷ steps) is taken own =
          same-answered v own.1 w link (bytes_received steps) (bytes_made steps) new.handler
          (stays-then v own.0 own.1 own.4 own.5.0)
          (alone own.1 w link own.3 new steps (ap
          (λ (s : Slot OtherEnd R W ConversationEnding). s.handler) own.5.1.others ∙ is) taken.1
          own.6)
      alone v w link old new (step.Stops ending ∷ steps) is taken own =
          same-answered v own.1 w link (bytes_received steps) (bytes_made steps) new.handler
          (stays-then v own.0 own.1 own.4 own.5.0)
          (alone own.1 w link own.3 new steps (ap
          (λ (s : Slot OtherEnd R W ConversationEnding). s.handler) own.5.1.others ∙ is) taken.1
          own.6)
      alone v w link old new (step.FindsEmpty ∷ steps) is taken own =
          same-answered v own.1 w link (bytes_received steps) (bytes_made steps) new.handler
          (stays-then v own.0 own.1 own.4 own.5.0)
          (alone own.1 w link own.3 new steps (ap
          (λ (s : Slot OtherEnd R W ConversationEnding). s.handler) own.5.1.others ∙ is) taken.1
          own.6)
      alone v w link old new (step.FindsFull ∷ steps) is taken own =
          same-answered v own.1 w link (bytes_received steps) (bytes_made steps) new.handler
          (stays-then v own.0 own.1 own.4 own.5.0)
          (alone own.1 w link own.3 new steps (ap
          (λ (s : Slot OtherEnd R W ConversationEnding). s.handler) own.5.1.others ∙ is) taken.1
          own.6)
      alone v w link old new (step.Releases ∷ steps) is taken own =
          same-answered v own.1 w link (bytes_received steps) (bytes_made steps) new.handler
          (stays-then v own.0 own.1 own.4 own.5.0)
          (alone own.1 w link own.3 new steps (ap
          (λ (s : Slot OtherEnd R W ConversationEnding). s.handler) own.5.1.others ∙ is) taken.1
          own.6)
      alone v w link old new (step.Wakes ∷ steps) is taken own =
          same-answered v own.1 w link (bytes_received steps) (bytes_made steps) new.handler
          (stays-then v own.0 own.1 own.4 own.5.0)
          (alone own.1 w link own.3 new steps (ap
          (λ (s : Slot OtherEnd R W ConversationEnding). s.handler) own.5.1 ∙ is) taken.1 own.6)

      -- the same from the first letter on
      pub from-letters : (v w : World A C L) (door : Door) (letters : List ℕ)
          (old new : Slot OtherEnd R W ConversationEnding) (steps : List (Step ConversationEnding))
          → old.handler ≡ Unknown door letters → nat_lt (length letters) 3 ≡ true → TakesAll steps
          → 3 ≤ length (letters ++ bytes_received steps)
          → is_peers door (letters ++ bytes_received steps) ≡ false
          → AreOwnSteps input output (still_behavior state gave told) v old steps w new
          → AnswersStretch state gave v new_link (letters ++ bytes_received steps)
          (bytes_made steps) w new.handler
      from-letters v w door letters old new [] is few taken long client own =
          absurd (too-few letters few (subst (λ (came : List ℕ). 3 ≤ length came)
          (append-nil letters) long))
      from-letters v w door letters old new
          (step.Receives bytes made end ∷ steps) is few taken long client own =
          let got = subst (λ (e : Option ConversationEnding).
          TakesBytes (Unknown door letters) bytes made e own.3.handler) taken.0
          (subst (λ (o : OtherEnd). TakesBytes o bytes made end own.3.handler) is
          own.5.1.receives) in
          let rest = bytes_received steps in
          let same = append_assoc letters bytes rest in
          let long_so : 3 ≤ length ((letters ++ bytes) ++ rest) =
          subst (λ (came : List ℕ). 3 ≤ length came) (sym same) long in
          let client_so : is_peers door ((letters ++ bytes) ++ rest) ≡ false =
          subst (λ (came : List ℕ). is_peers door came ≡ false) (sym same) client in
          let on : AnswersStretch state gave own.1 new_link ((letters ++ bytes) ++ rest)
          (bytes_made steps) w new.handler =
          elim (known door (letters ++ bytes) rest client_so) [
            | inl more ↦ from-letters own.1 w door (letters ++ bytes) own.3 new steps
                (got.1 ∙ more.1) more.0 taken.1 long_so client_so own.6
            | inr now ↦ came-answered own.1 w new_link (letters ++ bytes) rest
                (bytes_made steps) new.handler (alone own.1 w
                (with_more new_link (letters ++ bytes)) own.3 new steps (got.1 ∙ now) taken.1 own.6)
          ] in
          same-answered v own.1 w new_link (letters ++ (bytes ++ rest))
          (made ++ bytes_made steps) new.handler (stays-then v own.0 own.1 own.4 own.5.0)
          (subst (λ (came : List ℕ).
          AnswersStretch state gave own.1 new_link came (made ++ bytes_made steps) w new.handler)
          same
          (subst (λ (m : List ℕ). AnswersStretch state gave own.1 new_link
          ((letters ++ bytes) ++ rest) (m ++ bytes_made steps) w new.handler) (sym got.0) on))
      from-letters v w door letters old new
          (step.Answers made end ∷ steps) is few taken long client own =
          let said = subst (λ (o : OtherEnd).
          AnswersFirst state gave told old.stay own.0 o made end own.1 own.3.handler) is own.5.answers in
          let on = from-letters own.1 w door letters own.3 new steps said.3 few taken.1 long client
          own.6
          in
          same-answered v own.1 w new_link (letters ++ bytes_received steps)
          (made ++ bytes_made steps) new.handler (stays-then v own.0 own.1 own.4 said.2)
          (subst (λ (m : List ℕ). AnswersStretch state gave own.1 new_link
          (letters ++ bytes_received steps) (m ++ bytes_made steps) w new.handler)
          (sym said.0) on)
      from-letters v w door letters old new (step.Lacks ∷ steps) is few taken long client own =
          let said = subst (λ (o : OtherEnd).
          AnswersFirst state gave told old.stay own.0 o [] None own.1 own.3.handler) is own.5.answers in
          same-answered v own.1 w new_link (letters ++ bytes_received steps)
          (bytes_made steps) new.handler (stays-then v own.0 own.1 own.4 said.2)
          (from-letters own.1 w door letters own.3 new steps said.3 few taken.1 long client own.6)
      from-letters v w door letters old new
          (step.Writes bytes ∷ steps) is few taken long client own =
          same-answered v own.1 w new_link (letters ++ bytes_received steps)
          (bytes_made steps) new.handler (stays-then v own.0 own.1 own.4 own.5.0)
          (from-letters own.1 w door letters own.3 new steps
          (ap (λ (s : Slot OtherEnd R W ConversationEnding). s.handler) own.5.1.others ∙ is) few
          taken.1 long client own.6)
      from-letters v w door letters old new
          (step.Stops ending ∷ steps) is few taken long client own =
          same-answered v own.1 w new_link (letters ++ bytes_received steps)
          (bytes_made steps) new.handler (stays-then v own.0 own.1 own.4 own.5.0)
          (from-letters own.1 w door letters own.3 new steps
          (ap (λ (s : Slot OtherEnd R W ConversationEnding). s.handler) own.5.1.others ∙ is) few
          taken.1 long client own.6)
      from-letters v w door letters old new (step.FindsEmpty ∷ steps) is few taken long client own =
          same-answered v own.1 w new_link (letters ++ bytes_received steps)
          (bytes_made steps) new.handler (stays-then v own.0 own.1 own.4 own.5.0)
          (from-letters own.1 w door letters own.3 new steps
          (ap (λ (s : Slot OtherEnd R W ConversationEnding). s.handler) own.5.1.others ∙ is) few
          taken.1 long client own.6)
      from-letters v w door letters old new (step.FindsFull ∷ steps) is few taken long client own =
          same-answered v own.1 w new_link (letters ++ bytes_received steps)
          (bytes_made steps) new.handler (stays-then v own.0 own.1 own.4 own.5.0)
          (from-letters own.1 w door letters own.3 new steps
          (ap (λ (s : Slot OtherEnd R W ConversationEnding). s.handler) own.5.1.others ∙ is) few
          taken.1 long client own.6)
      from-letters v w door letters old new (step.Releases ∷ steps) is few taken long client own =
          same-answered v own.1 w new_link (letters ++ bytes_received steps)
          (bytes_made steps) new.handler (stays-then v own.0 own.1 own.4 own.5.0)
          (from-letters own.1 w door letters own.3 new steps
          (ap (λ (s : Slot OtherEnd R W ConversationEnding). s.handler) own.5.1.others ∙ is) few
          taken.1 long client own.6)
      from-letters v w door letters old new (step.Wakes ∷ steps) is few taken long client own =
          same-answered v own.1 w new_link (letters ++ bytes_received steps)
          (bytes_made steps) new.handler (stays-then v own.0 own.1 own.4 own.5.0)
          (from-letters own.1 w door letters own.3 new steps
          (ap (λ (s : Slot OtherEnd R W ConversationEnding). s.handler) own.5.1 ∙ is) few taken.1
          long client own.6)
