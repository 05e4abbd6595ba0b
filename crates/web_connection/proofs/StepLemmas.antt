-- What a step comes to.
use Rattle.std.proofs.Common.{◌≡◌, ◌≢◌, ℕ, List, [], ◌++◌, Option, None, Some, Result, Ok, Err, refl, sym, subst, ap, ◌∙◌, append-nil}
use Rattle.std.specs.Prelude.{◌↔◌, IfOk, OnErr, MatchOption, MatchResult}
use Rattle.std.specs.declared.alloc.AllocError.{AllocError}
use Rattle.records.specs.Contents.{Content}
use Rattle.archive.specs.Store.{Store}
use Rattle.archive.specs.declared.fault.StoreFault.{StoreFault}
use Rattle.ua_settings.specs.Settings.{SettingsValues}
use Rattle.web_page.specs.Calls.{Overview}
use Rattle.web_request.specs.Requests.{IsCutHead}
use Rattle.web_connection.specs.Answers.{AnswersInput, AnswersWeb, AreWrongIn, GoesFurther, GoesOn, AnswersStep, IsDenied, Makes, OnlyAsks, sending_of, step_of, web_of}
use Rattle.web_connection.specs.declared.sending.Sending.{Sending}
use Rattle.web_connection.specs.declared.sending.Rest.{Rest}
use Rattle.web_connection.specs.declared.sending.Rest.TheVariants as rest
use Rattle.web_connection.specs.declared.sending.Told.{Told}
use Rattle.web_connection.specs.declared.step.WebStep.{WebStep}
use Rattle.web_connection.specs.declared.step.WebStep.TheVariants.{NeedsInput, Continues, Ended, Denied}
use Rattle.web_connection.proofs.AskingLemmas.{made-as, reads-as}

-- what is told next, or that a whole head is waited for
abbrev pub Nexts : Overview → (came : List ℕ) → (old : Option Sending) → Store → Store
    → Option Told → Type 0
Nexts v came old s t answer =
    MatchOption answer ((old ≡ None) × IsCutHead came × Makes s t (λ R faults. faults ≡ []))
    (λ told. Makes s t (λ R faults. GoesFurther v R came old faults told.text.items
    (sending_of told.rest)))

-- what came is answered, where nothing is being sent
pub first-next : (v : Overview) (came : List ℕ) (old : Option Sending) (s t : Store)
    (result : Result (Option Told) AllocError) → old ≡ None
    → MatchResult result (λ answer. MatchOption answer
    (IsCutHead came × Makes s t (λ R faults. faults ≡ []))
    (λ told. Makes s t (λ R faults. AnswersInput v R came faults told.text.items
    (sending_of told.rest))))
    (λ starved. OnlyAsks s t)
    → MatchResult result (Nexts v came old s t) (λ starved. OnlyAsks s t)
first-next v came old s t (Ok None) is cut = (is, cut.0, cut.1)
first-next v came old s t (Ok (Some told)) is made =
    made-as s t
    (λ (R : Content) (faults : List StoreFault).
    AnswersInput v R came faults told.text.items (sending_of told.rest))
    (λ (R : Content) (faults : List StoreFault).
    GoesFurther v R came old faults told.text.items (sending_of told.rest))
    (λ R faults p. subst (λ (o : Option Sending).
    GoesFurther v R came o faults told.text.items (sending_of told.rest)) (sym is) p) made
first-next v came old s t (Err starved) is asks = asks

-- a history goes on
pub goes-next : (v : Overview) (came : List ℕ) (old : Option Sending) (left : Sending)
    (s t : Store) (text : List ℕ) (sending : Option Sending) → old ≡ Some left
    → Makes s t (λ R faults. GoesOn R left faults text sending)
    → Makes s t (λ R faults. GoesFurther v R came old faults text sending)
goes-next v came old left s t text sending is made =
    made-as s t (λ (R : Content) (faults : List StoreFault). GoesOn R left faults text sending)
    (λ (R : Content) (faults : List StoreFault). GoesFurther v R came old faults text sending)
    (λ R faults p. subst (λ (o : Option Sending). GoesFurther v R came o faults text sending)
    (sym is) p) made

-- who asks is denied by it, or isn't
abbrev pub DeniesNext : SettingsValues → (came : List ℕ) → (old : Option Sending) → Option Told
    → Type 0
DeniesNext v came old answer = MatchOption answer (¬ IsDenied v (web_of came old))
    (λ told. (told.rest ≡ rest.Denied) ↔ IsDenied v (web_of came old))

no-some : (left : Sending) → Some left ≢ None
no-some left e = absurd cc

-- who asks is denied, as what came is answered
pub first-denied : (v : SettingsValues) (came : List ℕ) (old : Option Sending)
    (result : Result (Option Told) AllocError) → old ≡ None
    → IfOk result (λ answer. MatchOption answer (¬ AreWrongIn v came)
    (λ told. (told.rest ≡ rest.Denied) ↔ AreWrongIn v came))
    → IfOk result (DeniesNext v came old)
first-denied v came old (Ok None) is none = λ denied. none denied.1
first-denied v came old (Ok (Some told)) is both =
    (λ told. (is, both.0 told), λ denied. both.1 denied.1)
first-denied v came old (Err starved) is none = tt

-- nobody is denied while a history goes on
pub goes-denied : (v : SettingsValues) (came : List ℕ) (old : Option Sending) (left : Sending)
    (behind : Rest) → old ≡ Some left → behind ≢ rest.Denied
    → (behind ≡ rest.Denied) ↔ IsDenied v (web_of came old)
goes-denied v came old left behind is goes =
    (λ told. absurd (goes told), λ denied. absurd (no-some left (sym is ∙ denied.0)))

-- ---- what a step comes to

no-wait : (behind : Rest) → NeedsInput ≢ step_of behind
no-wait (rest.Sending left) e = absurd cc
no-wait rest.Over e = absurd cc
no-wait rest.Denied e = absurd cc

-- it goes on where something is still to be sent
some-left : (behind : Rest) → Continues ≡ step_of behind → sending_of behind ≢ None
some-left (rest.Sending left) e none = absurd (no-some left none)
some-left rest.Over e none = absurd cc
some-left rest.Denied e none = absurd cc

-- nothing is, where it ends
none-left : (behind : Rest) → Ended ≡ step_of behind → sending_of behind ≡ None
none-left (rest.Sending left) e = absurd cc
none-left rest.Over e = refl
none-left rest.Denied e = refl

-- nor where who asks is denied
denied-left : (behind : Rest) → Denied ≡ step_of behind → sending_of behind ≡ None
denied-left (rest.Sending left) e = absurd cc
denied-left rest.Over e = refl
denied-left rest.Denied e = refl

-- who is denied is told so
step-denied : (behind : Rest) (step : WebStep) → step ≡ step_of behind
    → (step ≡ Denied) ↔ (behind ≡ rest.Denied)
step-denied (rest.Sending left) step e = (λ d. absurd cc, λ d. absurd cc)
step-denied rest.Over step e = (λ d. absurd cc, λ d. absurd cc)
step-denied rest.Denied step e = (λ d. refl, λ d. e)

-- a step is `Denied` exactly where who asks is to be denied
step-denies : (v : SettingsValues) (came : List ℕ) (old : Option Sending) (behind : Rest)
    (step : WebStep) → (behind ≡ rest.Denied) ↔ IsDenied v (web_of came old)
    → step ≡ step_of behind → (step ≡ Denied) ↔ IsDenied v (web_of came old)
step-denies v came old behind step both e =
    let told = step-denied behind step e in
    (λ d. both.0 (told.0 d), λ d. told.1 (both.1 d))

-- nothing was made for want of memory
pub step-starved : (v : Overview) (came : List ℕ) (old new : Option Sending) (s t : Store)
    (starved : AllocError) (before after : List ℕ) → after ≡ before → OnlyAsks s t
    → (made : List ℕ) × (after ≡ before ++ made)
    × AnswersWeb v s t (web_of came old) made (Err starved) (web_of came new)
step-starved v came old new s t starved before after same (faults, reads) = (
  [],
  same ∙ sym (append-nil before),
  (
    faults,
    reads-as s t faults _
        (λ R. AnswersStep v R (web_of came old) faults [] (Err starved) (web_of came new))
        (λ R p. refl) reads,
    tt,
  ),
)

-- a step goes further
pub step-sent : (v : Overview) (came : List ℕ) (old new : Option Sending) (behind : Rest)
    (s t : Store) (text : List ℕ) (result : Result WebStep AllocError) (before after : List ℕ)
    → Makes s t (λ R faults. GoesFurther v R came old faults text (sending_of behind))
    → (behind ≡ rest.Denied) ↔ IsDenied v.settings (web_of came old)
    → IfOk result (λ step. (after ≡ before ++ text) × (new ≡ sending_of behind)
    × (step ≡ step_of behind))
    → OnErr result (after ≡ before)
    → (made : List ℕ) × (after ≡ before ++ made)
    × AnswersWeb v s t (web_of came old) made result (web_of came new)
step-sent v came old new behind s t text (Ok NeedsInput) before after made both ok err =
    absurd (no-wait behind ok.2)
step-sent v came old new behind s t text (Ok Continues) before after (faults, reads) both ok err = (
  text,
  ok.0,
  (
    faults,
    reads-as s t faults (λ R. GoesFurther v R came old faults text (sending_of behind))
        (λ R. AnswersStep v R (web_of came old) faults text (Ok Continues) (web_of came new))
        (λ R p. (
          (λ none. some-left behind ok.2 (sym ok.1 ∙ none)),
          subst (λ (o : Option Sending). GoesFurther v R came old faults text o) (sym ok.1) p,
        )) reads,
    step-denies v.settings came old behind Continues both ok.2,
  ),
)
step-sent v came old new behind s t text (Ok Ended) before after (faults, reads) both ok err = (
  text,
  ok.0,
  (
    faults,
    reads-as s t faults (λ R. GoesFurther v R came old faults text (sending_of behind))
        (λ R. AnswersStep v R (web_of came old) faults text (Ok Ended) (web_of came new))
        (λ R p. (
          ok.1 ∙ none-left behind ok.2,
          subst (λ (o : Option Sending). GoesFurther v R came old faults text o) (sym ok.1) p,
        )) reads,
    step-denies v.settings came old behind Ended both ok.2,
  ),
)
step-sent v came old new behind s t text (Ok Denied) before after (faults, reads) both ok err = (
  text,
  ok.0,
  (
    faults,
    reads-as s t faults (λ R. GoesFurther v R came old faults text (sending_of behind))
        (λ R. AnswersStep v R (web_of came old) faults text (Ok Denied) (web_of came new))
        (λ R p. (
          ok.1 ∙ denied-left behind ok.2,
          subst (λ (o : Option Sending). GoesFurther v R came old faults text o) (sym ok.1) p,
        )) reads,
    step-denies v.settings came old behind Denied both ok.2,
  ),
)
step-sent v came old new behind s t text (Err starved) before after (faults, reads) both ok err =
    step-starved v came old new s t starved before after err (
      faults,
      reads-as s t faults (λ R. GoesFurther v R came old faults text (sending_of behind))
          (λ R. Unit {0}) (λ R p. tt) reads,
    )

-- a step waits
pub step-waits : (v : Overview) (came : List ℕ) (old new : Option Sending) (s t : Store)
    (before : List ℕ) → old ≡ None → new ≡ None → IsCutHead came
    → Makes s t (λ R faults. faults ≡ []) → (¬ IsDenied v.settings (web_of came old))
    → (made : List ℕ) × (before ≡ before ++ made)
    × AnswersWeb v s t (web_of came old) made (Ok NeedsInput) (web_of came new)
step-waits v came old new s t before is now cut (faults, reads) none = (
  [],
  sym (append-nil before),
  (
    faults,
    reads-as s t faults (λ R. faults ≡ [])
        (λ R. AnswersStep v R (web_of came old) faults [] (Ok NeedsInput) (web_of came new))
        (λ R p. ((is, cut), p, refl, ap (web_of came) (now ∙ sym is))) reads,
    (λ waits. absurd cc, λ denied. absurd (none denied)),
  ),
)
