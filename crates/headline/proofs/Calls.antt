-- When a call is done each end holds all that the other held.
use Rattle.std.proofs.Common.{◌≡◌, ◌≤◌, ℕ, zero, suc, ℤ, Bool, true, false, List, [], ◌∷◌, Option, Some, None, Result, Ok, Err, refl, sym, ap, ◌∙◌, subst, arith, inl, inr}
use Rattle.std.specs.Prelude.{nat_lt}
use Rattle.std.specs.Option.{option_map_or}
use Rattle.std.proofs.lemmas.Bool.{cases_Bool, ltb-true, ltb-false}
use Rattle.std.proofs.lemmas.List.FromFn.{get_or-map-range_with_len}
use Rattle.std.proofs.lemmas.Option.{none-some, same_Some}
use Rattle.stamp.specs.Limits.{IsReplica}
use Rattle.stamp.specs.Numbers.{number_of}
use Rattle.stamp.proofs.Maps.{number_at}
use Rattle.records.specs.Contents.{Content, AreCompatible, IsWithin, numbers_of, vec, merged}
use Rattle.records.specs.declared.record.Record.{Record}
use Rattle.records.proofs.ContentLemmas.{reached}
use Rattle.archive.specs.Store.{Store, IsLawfulContent}
use Rattle.archive.proofs.Vectors.{numbers_are}
use Rattle.exchange.specs.declared.fault.ExchangeFault.{ExchangeFault}
use Rattle.exchange.specs.declared.fault.ExchangeFault.TheVariants as exchange
use Rattle.exchange.specs.Messages.{Party, Message}
use Rattle.exchange.specs.declared.message.Message.TheVariants.{Asks, Carries, Ends}
use Rattle.exchange.specs.declared.message.State.{State}
use Rattle.exchange.specs.declared.message.State.TheVariants.{Pulling, Pushing, Serving, Done, Failed}
use Rattle.exchange.specs.Batches.{batch_of, IsBatchFor}
use Rattle.exchange.specs.Dialogs.{Turn, Way, Clear, Unread, Stopped, Starved, Met, party_of, title_by, refusal, pushing, turned, answered_to, Writes}
use Rattle.exchange.specs.Fault.{exchange_number}
use Rattle.exchange.specs.Frames.{frame_of}
use Rattle.exchange.proofs.DialogsParts.{learnt}
use Rattle.exchange.proofs.BatchLemmas.{some_fits}
use Rattle.exchange.proofs.DialogLemmas.{batch_agree}
use Rattle.exchange.proofs.TitleLemmas.{batch_is}
use Rattle.ua_peers.specs.Peers.{Taken, Side, turn_of, side_after, AreAnswered, message_to}
use Rattle.ua_peers.proofs.Joined.{numbered}
use Rattle.conversation.specs.declared.other_end.OtherEnd.{OtherEnd}
use Rattle.conversation.specs.declared.world.World.{World}
use Rattle.conversation.specs.Comparing.{checks_callee}
use Rattle.conversation.specs.Events.{Telling}
use Rattle.conversation.specs.Starting.{GreetsPeer, AsksPeer, BeginsBy, StartsCall}
use Rattle.headline.specs.Executions.{Execution, IsExecution}
use Rattle.headline.specs.Calls.{WasHeld, CallState, Round, GoesBy, AsksForNoLess, call_question, call_begun}
use Rattle.headline.proofs.Times.{lawful_was, together}

-- a call that stands so
abbrev stands : Option Message → State → Content → Content → CallState
stands said state here there =
    record { said = said; state = state; here = here; there = there }

within_then : (R S T : Content) → IsWithin R S → IsWithin S T → IsWithin R T
within_then R S T first later r h = later r (first r h)

module _ (e : Execution) (past : IsExecution e) (p q : Party) where
  lawful_held : (R : Content) → WasHeld e R → IsLawfulContent R
  lawful_held R held = subst IsLawfulContent held.2 (lawful_was e held.0 past held.1)

  agree_held : (R S : Content) → WasHeld e R → WasHeld e S → AreCompatible R S
  agree_held R S one other =
      subst (λ (Q : Content). AreCompatible Q S) one.2
      (subst (AreCompatible one.0.content) other.2
      (together e one.0 other.0 past one.1 other.1).compatible)

  -- what numbers lack of S is none, and none of them is above R's: all of S is in R
  all_within : (R S : Content) (v : ℕ → ℕ) → WasHeld e R → WasHeld e S
      → ((replica : ℕ) → IsReplica replica → v replica ≤ vec R replica) → IsBatchFor S v []
      → IsWithin S R
  all_within R S v one other within is r h = elim (cases_Bool (nat_lt (v r.origin) r.number)) [
    | inl lacks ↦
        let some = some_fits S v [] r (lawful_held S other) is h (ltb-true _ _ lacks) in
        absurd (omega (arith, some))
    | inr covers ↦
        let least = within r.origin ((lawful_held S other).records r h).origin in
        let le = ltb-false _ _ covers in
        reached R S (lawful_held R one).closed (lawful_held S other).closed
        (agree_held R S one other) r h (omega (arith, least, le))
  ]

  -- a replica's own numbers ask for all that it lacks
  own_asks : (R : Content) → WasHeld e R → AsksForNoLess R (numbers_of R)
  own_asks R held replica is =
      let same = numbers_are R (lawful_held R held) replica in omega (arith, same)

  batch_by : (R S : Content) → WasHeld e R → WasHeld e S
      → IsBatchFor S (vec R) (batch_of S (number_of (numbers_of R)))
  batch_by R S one other = batch_agree S (number_of (numbers_of R)) (vec R) _
      (λ o. numbers_are R (lawful_held R one) o)
      (batch_is S (number_of (numbers_of R)) (lawful_held S other))

  -- ---- where nothing more is answered

  -- no round is behind this
  alone : (n : ℕ) (before after : CallState) → GoesBy e p q n before after
      → (Round e p q before → ⊥) → after ≡ before
  alone zero before after is none = is
  alone (suc n) before after is none = absurd (none is.0)

  end_alone : (state : State) (A B : Content) → Round e p q (stands (Some (Ends 0)) state A B) → ⊥
  end_alone state A B round = go round.asked (same_Some (Ends 0) round.asked round.said) round.told
    where
      go : (m : Message) → Ends 0 ≡ m → (turned q Serving round.there m).reply ≡ Some round.answer
          → ⊥
      go m is told = none-some round.answer (subst (λ (x : Message).
          (turned q Serving round.there x).reply ≡ Some round.answer) (sym is) told)

  none_alone : (state : State) (A B : Content) → Round e p q (stands None state A B) → ⊥
  none_alone state A B round = none-some round.asked round.said

  -- ---- the caller pushes

  -- the caller holds no less, and the other one all of it
  abbrev Both : Content → CallState → Type 0
  Both R after = IsWithin R after.here × IsWithin after.here after.there

  abbrev Pushed : ℕ → Type 0
  Pushed n = (A B : Content) (batch : List Record) (after : CallState)
      → GoesBy e p q n (stands (Some (Carries (title_by p A) batch)) Pushing A B) after
      → after.state ≡ Done → Both A after

  -- it is done, or sends what the other one lacks
  pushing_then : (n : ℕ) → Pushed n → (here there : Content) (state : State) (after : CallState)
      → WasHeld e here → WasHeld e there → (batch : List Record)
      → IsBatchFor here (vec there) batch → (pushing p here batch).result ≡ Ok state
      → GoesBy e p q n (stands (pushing p here batch).reply state (pushing p here batch).content
      there) after → after.state ≡ Done → Both here after
  pushing_then n later here there state after one other [] is goes rest done =
      let end = alone n (stands (Some (Ends 0)) state here there) after rest
      (end_alone state here there) in
      subst (Both here) (sym end) (
        λ r h. h,
        all_within there here (vec there) other one (λ replica some. omega arith) is,
      )
  pushing_then n later here there state after one other (r ∷ rs) is goes rest done =
      let same : Pushing ≡ state = cc in
      later here there (r ∷ rs) after (subst (λ (x : State).
      GoesBy e p q n (stands (Some (Carries (title_by p here) (r ∷ rs))) x here there) after)
      (sym same) rest) done

  -- what goes on behind the answer that the caller takes
  abbrev Follows : ℕ → (old new : State) → (here there : Content) → CallState → Message → Type 0
  Follows n old new here there after m = GoesBy e p q n (stands (turned p old here m).reply new
      (turned p old here m).content there) after

  -- the other one learned all, and tells its vector; or it failed, and the call isn't done
  learnt_then : (n : ℕ) → Pushed n → (here there M : Content) (answer : Message) (state : State)
      (after : CallState) → WasHeld e here → (refused : Option ExchangeFault)
      → (learnt q Serving M refused).reply ≡ Some answer
      → (turned p Pushing here answer).result ≡ Ok state
      → WasHeld e (learnt q Serving M refused).content
      → GoesBy e p q n (stands (turned p Pushing here answer).reply state
      (turned p Pushing here answer).content (learnt q Serving M refused).content) after
      → after.state ≡ Done → Both here after
  learnt_then n later here there M answer state after one None told goes other rest done =
      go answer (same_Some (Asks (title_by q M)) answer told) goes rest
    where
      go : (m : Message) → Asks (title_by q M) ≡ m → (turned p Pushing here m).result ≡ Ok state
          → Follows n Pushing state here M after m → Both here after
      go m is goes rest = pushing_then n later here M state after one other
          (batch_of here (number_of (numbers_of M))) (batch_by M here other one)
          (subst (λ (x : Message). (turned p Pushing here x).result ≡ Ok state) (sym is) goes)
          (subst (Follows n Pushing state here M after) (sym is) rest) done
  learnt_then n later here there M answer state after one (Some f) told goes other rest done =
      let n' = numbered f in
      go answer (ap Ends (sym n'.2) ∙ same_Some (Ends (exchange_number f)) answer told) goes rest
    where
      go : (m : Message) → Ends (suc (numbered f).0) ≡ m
          → (turned p Pushing here m).result ≡ Ok state
          → Follows n Pushing state here M after m → Both here after
      go m is goes rest =
          let failed : ◌≡◌ {A = Result State ExchangeFault} (Ok Failed) (Ok state) =
          subst (λ (x : Message). (turned p Pushing here x).result ≡ Ok state) (sym is) goes in
          let end = alone n (stands None state here M) after
          (subst (Follows n Pushing state here M after) (sym is) rest) (none_alone state here M) in
          let same : Failed ≡ state = cc in
          let never : Failed ≡ Done = same ∙ (ap (λ (x : CallState). x.state) (sym end) ∙ done) in
          absurd cc

  pushes : (n : ℕ) → Pushed n
  pushes zero A B batch after is done =
      let never : Pushing ≡ Done = ap (λ (x : CallState). x.state) (sym is) ∙ done in absurd cc
  pushes (suc n) A B batch after (round, rest) done =
      go (pushes n) round.asked (same_Some (Carries (title_by p A) batch) round.asked round.said)
      round.told round.held.3 rest
    where
      go : Pushed n → (m : Message) → Carries (title_by p A) batch ≡ m
          → (turned q Serving round.there m).reply ≡ Some round.answer
          → WasHeld e (turned q Serving round.there m).content
          → Follows n Pushing round.state round.here (turned q Serving round.there m).content after
          round.answer → Both A after
      go later m is told other rest =
          let both = learnt_then n later round.here round.there (merged batch round.there)
          round.answer round.state after round.held.0 (refusal 0 round.there batch)
          (subst (λ (x : Message). (turned q Serving round.there x).reply ≡ Some round.answer)
          (sym is) told) round.goes
          (subst (λ (x : Message). WasHeld e (turned q Serving round.there x).content) (sym is)
          other)
          (subst (λ (x : Message). Follows n Pushing round.state round.here
          (turned q Serving round.there x).content after round.answer) (sym is) rest) done in
          (within_then A round.here after.here round.grown.0 both.0, both.1)

  -- ---- the caller pulls

  abbrev Pulled : ℕ → Type 0
  Pulled n = (v : List ℕ) (A B : Content) (after : CallState) → WasHeld e A → AsksForNoLess A v
      → GoesBy e p q n (call_begun p v A B) after → after.state ≡ Done → Both B after

  -- it learned all, and asks again; or it failed
  learns_then : (n : ℕ) → Pulled n → (there M : Content) (state : State) (after : CallState)
      (refused : Option ExchangeFault) → (learnt p Pulling M refused).result ≡ Ok state
      → WasHeld e (learnt p Pulling M refused).content
      → GoesBy e p q n (stands (learnt p Pulling M refused).reply state
      (learnt p Pulling M refused).content there) after → after.state ≡ Done → Both there after
  learns_then n later there M state after None goes held rest done =
      let same : Pulling ≡ state = cc in
      later (numbers_of M) M there after held (own_asks M held) (subst (λ (x : State).
      GoesBy e p q n (stands (Some (Asks (title_by p M))) x M there) after) (sym same) rest) done
  learns_then n later there M state after (Some f) goes held rest done = absurd cc

  -- what it lacked came, or nothing, and then it pushes
  batch_then : (n : ℕ) → Pulled n → (v : List ℕ) (A here there : Content) (state : State)
      (after : CallState) → AsksForNoLess A v
      → IsWithin A here → WasHeld e A → WasHeld e here → WasHeld e there → (batch : List Record)
      → IsBatchFor there (number_of v) batch
      → (turned p Pulling here (Carries (title_by q there) batch)).result ≡ Ok state
      → WasHeld e (turned p Pulling here (Carries (title_by q there) batch)).content
      → GoesBy e p q n
      (stands (turned p Pulling here (Carries (title_by q there) batch)).reply state
      (turned p Pulling here (Carries (title_by q there) batch)).content there) after
      → after.state ≡ Done → Both there after
  batch_then n later v A here there state after asks grown first one other [] is goes held rest
      done =
      let both = pushing_then n (pushes n) here there state after one other
      (batch_of here (number_of (numbers_of there))) (batch_by there here other one) goes rest done
      in (
        within_then there A after.here (all_within A there (number_of v) first other asks is)
            (within_then A here after.here grown both.0),
        both.1,
      )
  batch_then n later v A here there state after asks grown first one other (r ∷ rs) is goes held
      rest done =
      learns_then n later there (merged (r ∷ rs) here) state after (refusal 0 here (r ∷ rs)) goes
      held rest done

  pulls : (n : ℕ) → Pulled n
  pulls zero v A B after held asks is done =
      let never : Pulling ≡ Done = ap (λ (x : CallState). x.state) (sym is) ∙ done in absurd cc
  pulls (suc n) v A B after held asks (round, rest) done =
      asked_so (pulls n) round.asked (same_Some (call_question p v) round.asked round.said) round.told
      rest
    where
      answered_so : Pulled n → (m : Message)
          → Carries (title_by q round.there) (batch_of round.there (number_of v)) ≡ m
          → (turned p Pulling round.here m).result ≡ Ok round.state
          → WasHeld e (turned p Pulling round.here m).content
          → Follows n Pulling round.state round.here round.there after m → Both B after
      answered_so later m is goes behind rest =
          let both = batch_then n later v A round.here round.there round.state after asks
          round.grown.0 held round.held.0 round.held.1 (batch_of round.there (number_of v))
          (batch_is round.there (number_of v) (lawful_held round.there round.held.1))
          (subst (λ (x : Message). (turned p Pulling round.here x).result ≡ Ok round.state)
          (sym is) goes)
          (subst (λ (x : Message). WasHeld e (turned p Pulling round.here x).content) (sym is)
          behind)
          (subst (Follows n Pulling round.state round.here round.there after) (sym is) rest) done in
          (within_then B round.there after.here round.grown.1 both.0, both.1)

      asked_so : Pulled n → (m : Message) → call_question p v ≡ m
          → (turned q Serving round.there m).reply ≡ Some round.answer
          → Follows n Pulling round.state round.here (turned q Serving round.there m).content after
          round.answer → Both B after
      asked_so later m is told rest = answered_so later round.answer
          (same_Some _ round.answer (subst (λ (x : Message).
          (turned q Serving round.there x).reply ≡ Some round.answer) (sym is) told)) round.goes
          round.held.2
          (subst (λ (x : Message). Follows n Pulling round.state round.here
          (turned q Serving round.there x).content after round.answer) (sym is) rest)

  pub done_both : (here there : Content) (asked : List ℕ) (rounds : ℕ) (after : CallState)
      → WasHeld e here → AsksForNoLess here asked
      → GoesBy e p q rounds (call_begun p asked here there) after → after.state ≡ Done
      → IsWithin there after.here × IsWithin after.here after.there
  done_both here there asked rounds after held asks goes done =
      pulls rounds asked here there after held asks goes done

-- ---- what a frame that is taken comes to

-- where the end goes on, or is done, nothing came in the way
clear_way : (p : Party) (s : State) (R : Content) (way : Way) (r : Result Message ExchangeFault)
    (next : State) → (answered_to p s R way r).result ≡ Ok next
    → (m : Message) × (r ≡ Ok m) × (answered_to p s R way r ≡ turned p s R m)
clear_way p s R Clear (Ok m) next e = (m, refl, refl)
clear_way p s R Unread (Ok m) next e = absurd cc
clear_way p s R (Stopped k f) (Ok m) next e = absurd cc
clear_way p s R Starved (Ok m) next e = absurd cc
clear_way p s R (Met f) (Ok m) next e = absurd cc
clear_way p s R Clear (Err f) next e = absurd cc
clear_way p s R Unread (Err f) next e = absurd cc
clear_way p s R (Stopped k g) (Err f) next e = absurd cc
clear_way p s R Starved (Err f) next e = absurd cc
clear_way p s R (Met g) (Err f) next e = absurd cc

pub taken_plainly : (p : Party) (side : Side) (t : Taken) (next : State)
    → AreAnswered p side (t ∷ []) → t.result ≡ Ok next
    → (m : Message) × (message_to p side t ≡ Ok m)
    × ((turned p side.standing.state side.content m).result ≡ Ok next)
    × ((side_after p side t).content ≡ (turned p side.standing.state side.content m).content)
    × (t.said ≡ option_map_or frame_of (turned p side.standing.state side.content m).reply [])
taken_plainly p side t next answered ok = go answered.0.1
  where
    go : Writes (turn_of p side t) t.result [] t.said
        → (m : Message) × (message_to p side t ≡ Ok m)
        × ((turned p side.standing.state side.content m).result ≡ Ok next)
        × ((side_after p side t).content ≡ (turned p side.standing.state side.content m).content)
        × (t.said ≡ option_map_or frame_of (turned p side.standing.state side.content m).reply [])
    go (inr starved) =
        let never : ◌≡◌ {A = Result State ExchangeFault} (Err exchange.OutOfMemory) (Ok next) =
        sym starved.2 ∙ ok in
        absurd cc
    go (inl wrote) =
        let plain = clear_way p side.standing.state side.content t.way (message_to p side t) next
        (sym wrote.0 ∙ ok) in (
          plain.0,
          plain.1,
          ap (λ (x : Turn). x.result) (sym plain.2) ∙ (sym wrote.0 ∙ ok),
          ap (λ (x : Turn). x.content) plain.2,
          wrote.1 ∙ ap (λ (x : Turn). option_map_or frame_of x.reply []) plain.2,
        )

-- ---- how a call begins

-- a content's own numbers, each of its replica
number_reached : (R : Content) (replica : ℕ) → IsReplica replica
    → number_of (numbers_of R) replica ≡ vec R replica
unfolding numbers_of
number_reached R zero is = absurd (omega (arith, is.0))
number_reached R (suc o) is = number_at (numbers_of R) o (suc o) (omega arith)
    ∙ get_or-map-range_with_len (vec R) 1 64 o (suc o) 0 (omega (arith, is.1)) (omega arith)

-- over an archive it was asked so
abbrev AsksSo : (old : Store) → (frame : List ℕ) → Type 0
AsksSo old frame =
    (asked : List ℕ) × AsksForNoLess old.content asked
    × (frame ≡ frame_of (call_question (party_of old) asked))

-- by its first frame
greeting_asks : (checks : Bool) (old new : Store) (frame : List ℕ) (done : Unit {0})
    → GreetsPeer checks old new frame (Ok done) → new.honest → AsksSo old frame
greeting_asks false old new frame done greets honest = (
  numbers_of old.content,
  λ replica is. let same = number_reached old.content replica is in omega (arith, same),
  greets.frame honest,
)
greeting_asks true old new frame done greets honest =
    let (numbers, before, made) = greets.frame honest in
    (numbers, λ replica is. let less = before.less replica is in omega (arith, less), made)

-- where it was made, and the call began
pub call_asks : {A C L : Type 0} (state : A → Store) (gave : C → List ℤ → C → Type 0)
    (told : Telling L) (callee : ℕ) (v w : World A C L) (made : List ℕ) (other : OtherEnd)
    → StartsCall state gave told callee v made (Some other) w
    → (state w.server.replica.archive).honest → AsksSo (state v.server.replica.archive) made
call_asks {A} {C} {L} state gave told callee v w made other starts honest =
    go starts.result starts.asks starts.begins
  where
    go : (result : Result (Unit {0}) ExchangeFault)
        → AsksPeer (checks_callee v.server.settings callee) (state v.server.replica.archive)
        (state starts.between.server.replica.archive) made result
        → BeginsBy gave told callee starts.between (Some other) w result
        → AsksSo (state v.server.replica.archive) made
    go (Ok done) (inl greets) begins = greeting_asks _ _ _ made done greets
        (subst (λ (u : World A C L). (state u.server.replica.archive).honest) begins.1 honest)
    go (Ok done) (inr wanting) begins = absurd cc
    go (Err fault) asks begins = absurd (none-some other (sym begins.0))
