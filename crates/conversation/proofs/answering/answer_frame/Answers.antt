use Rattle.std.proofs.Common.{◌≡◌, ◌∙◌, ℕ, ℤ, Bool, None, Ok, refl, sym, ap, inl, inr, w64}
use Rattle.std.proofs.lemmas.Int.{to_z-of_z}
use Rattle.std.specs.Prelude.{Option}
use Rattle.exchange.specs.declared.admission.Bound.{Bound}
use Rattle.exchange.specs.Admissions.{Admission, admission_of, first_admitted, is_open}
use Rattle.exchange.specs.Dialogs.{party_of}
use Rattle.ua_settings.specs.Settings.{SettingsValues}
use Rattle.ua_peers.specs.Peers.{ended_as, is_silent}
use Rattle.conversation.specs.Admitting.{admission_at, own_bound, restoring_with}
use Rattle.conversation.proofs.answering.answer_frame.Goals as goal

pub returns-in-Ok-judge_first-clause-answers : goal.returns-in-Ok-judge_first-clause-answers
returns-in-Ok-judge_first-clause-answers g c =
    let state = g.A.Archive.state in
    let (ends, is, meets) = c.learn_or_take.ensures.answers in
    let between = c.ask_own.new.server.replica.archive in
    let held = c.in-Ok.held in
    let back = restoring_with c.args.restoring.now held in
    let bound : Option Bound = own_bound back (state between).own held in
    let settings : SettingsValues = c.args.server.now.settings in
    let same : admission_of c.admission_at-admission.result ≡ admission_at settings c.args.time bound =
    c.admission_at-admission.ensures
    ∙ (ap (λ (t : ℤ). admission_at c.ask_own.new.server.settings t c.own_bound-bound.result)
    (to_z-of_z w64 c.args.time c.ranges.time)
    ∙ ap (λ (s : SettingsValues). admission_at s c.args.time c.own_bound-bound.result)
    c.in-Ok.ensures.settings
    ∙ ap (λ (b : Option Bound). admission_at settings c.args.time b)
    (c.own_bound-bound.ensures
    ∙ (ap (λ (b : Bool). own_bound b c.number.result held) c.restoring_with.ensures
    ∙ ap (λ (n : ℕ). own_bound back n held) c.number.ensures.own))) in (
      ends,
      is,
      inl (
        between,
        held,
        c.in-Ok.ensures.asks,
        ap (λ (a : Admission). first_admitted a (party_of (state between))
            c.args.peer.now.frames.waiting) (sym same) ∙ c.in-Ok-judge_first.ensures.judged,
        c.restoring_with.ensures,
        meets,
      ),
    )

pub returns-in-Err-judge_first-clause-answers : goal.returns-in-Err-judge_first-clause-answers
returns-in-Err-judge_first-clause-answers g c =
    let state = g.A.Archive.state in
    let (told, tells, is) = c.refuse_frame-in-Err-judge_first.ensures.tells in
    let between = c.ask_own.new.server.replica.archive in
    let held = c.in-Ok.held in
    let back = restoring_with c.args.restoring.now held in
    let bound : Option Bound = own_bound back (state between).own held in
    let settings : SettingsValues = c.args.server.now.settings in
    let same : admission_of c.admission_at-admission.result ≡ admission_at settings c.args.time bound =
    c.admission_at-admission.ensures
    ∙ (ap (λ (t : ℤ). admission_at c.ask_own.new.server.settings t c.own_bound-bound.result)
    (to_z-of_z w64 c.args.time c.ranges.time)
    ∙ ap (λ (s : SettingsValues). admission_at s c.args.time c.own_bound-bound.result)
    c.in-Ok.ensures.settings
    ∙ ap (λ (b : Option Bound). admission_at settings c.args.time b)
    (c.own_bound-bound.ensures
    ∙ (ap (λ (b : Bool). own_bound b c.number.result held) c.restoring_with.ensures
    ∙ ap (λ (n : ℕ). own_bound back n held) c.number.ensures.own))) in (
      ended_as None (is_silent c.refuse_frame-in-Err-judge_first.new.said.items) told,
      is,
      inr (
        Ok held,
        c.in-Ok.ensures.asks,
        record {
          fault = c.in-Err-judge_first.fault;
          why = record {
            closed = ap (λ (a : Admission). is_open a) (sym same)
                ∙ c.in-Err-judge_first.ensures.closed;
            why = λ none. ap (λ (a : Admission). first_admitted a (party_of (state between))
                c.args.peer.now.frames.waiting) (sym same)
                ∙ c.in-Err-judge_first.ensures.judged none;
          };
          told = told;
          tells = tells;
          ended = refl;
        },
        c.restoring_with.ensures,
        refl,
      ),
    )
