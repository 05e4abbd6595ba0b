use Rattle.std.proofs.Common.{List, ℕ, ℤ, Some, None, Ok, sym, subst, w64, rules}
use Rattle.std.specs.Int.RustNames.{FitsSigned}
use Rattle.std.proofs.lemmas.Int.{to_z-of_z}
use Rattle.ua_binary.specs.declared.values.Ticks.{Ticks}
use Rattle.records.specs.Contents.{Content}
use Rattle.ua_channel.specs.declared.taken.Taken.{Taken}
use Rattle.ua_channel.specs.declared.taken.Taken.TheVariants.{Opening}
use Rattle.ua_connection.specs.declared.turn.Step.TheVariants.{Ended}
use Rattle.historian.specs.Services.{site_of}
use Rattle.ua_connection.specs.declared.outcome.Served.TheVariants.{Closed}
use Rattle.ua_connection.specs.Environments.{before}
use Rattle.ua_connection.specs.Client.{Client, Answering, opened, responded, answer_to_taken}
use Rattle.ua_connection.specs.Turns.{Answered, AnsweredHere, ending_of, client_after, went, standing_of}
use Rattle.ua_connection.proofs.Outsides.{empty_environment, read, marked}
use Rattle.ua_connection.proofs.Steps.{passes-by, closes, answered-timed, answered-here, answered-client, behind-same}
use Rattle.ua_connection.proofs.client.answer_item.Goals as goal

pub returns-in-Nothing-clause-answered : goal.returns-in-Nothing-clause-answered
returns-in-Nothing-clause-answered g c client =
    let s = g.A.Archive.state c.args.server.now.replica.archive in
    let out = c.args.out.now.items in
    let P : Taken → Type 0 = λ t. Answered s s (λ R.
    answer_to_taken (site_of c.args.server.now.settings s)
    (standing_of client c.args.sessions.now R) c.args.channel.now t) empty_environment out out
    None (went client client.limit (Some c.args.channel.now) c.args.sessions.now) in (
      empty_environment,
      g.met.C.Clock.gave_none c.args.clock.now,
      subst P (sym c.in-Nothing.is)
          (passes-by s client c.args.sessions.now c.args.channel.now out),
    )

pub returns-in-Aborted-clause-answered : goal.returns-in-Aborted-clause-answered
returns-in-Aborted-clause-answered g c client =
    let s = g.A.Archive.state c.args.server.now.replica.archive in
    let out = c.args.out.now.items in
    let P : Taken → Type 0 = λ t. Answered s s (λ R.
    answer_to_taken (site_of c.args.server.now.settings s)
    (standing_of client c.args.sessions.now R) c.args.channel.now t) empty_environment out out
    None (went client client.limit (Some c.args.channel.now) c.args.sessions.now) in (
      empty_environment,
      g.met.C.Clock.gave_none c.args.clock.now,
      subst P (sym c.in-Aborted.is)
          (passes-by s client c.args.sessions.now c.args.channel.now out),
    )

pub returns-in-Opening-clause-answered : goal.returns-in-Opening-clause-answered
returns-in-Opening-clause-answered g c client =
    let s = g.A.Archive.state c.args.server.now.replica.archive in
    let sessions = c.args.sessions.now in
    let out = c.args.out.now.items in
    let now = c.now.result in
    let fits : FitsSigned w64 now = search rules in
    let inner : Client = record client { sessions = sessions } in
    let end = ending_of c.open.result in
    let next = client_after inner c.open.result (Some c.open.new.channel) sessions in
    let Q : ℤ → Type 0 = λ time. (used : _)
    × AnsweredHere (λ R. opened
    (standing_of client sessions R) c.args.channel.now c.in-Opening.request
    (record { 0 = time })) used out c.open.new.out.items end next in
    let h = subst Q (to_z-of_z w64 now fits) (c.open.ensures.answered inner) in
    let P : Taken → Type 0 = λ t. Answered s s (λ R.
    answer_to_taken (site_of c.args.server.now.settings s)
    (standing_of client sessions R) c.args.channel.now t)
    (before (read now) (marked h.0)) out c.open.new.out.items end
    (client_after client c.open.result (Some c.open.new.channel) sessions) in
    let f : Content → Ticks → Answering =
    λ R t. opened (standing_of client sessions R) c.args.channel.now c.in-Opening.request t in
    let timed = answered-timed s s f now (marked h.0) out c.open.new.out.items end next
    (answered-here s (λ R. f R (record { 0 = now })) h.0 out c.open.new.out.items end next h.1)
    in (
      before (read now) (marked h.0),
      c.now.ensures,
      subst P (sym c.in-Opening.is)
          (answered-client s s (λ R.
          answer_to_taken (site_of c.args.server.now.settings s)
          (standing_of client sessions R) c.args.channel.now (Opening c.in-Opening.request))
          (before (read now) (marked h.0)) out c.open.new.out.items end next _
          (behind-same client (Some c.open.new.channel) sessions sessions c.open.result) timed),
    )

pub returns-in-Message-clause-answered : goal.returns-in-Message-clause-answered
returns-in-Message-clause-answered g c client =
    let a = g.A.Archive.state c.args.server.now.replica.archive in
    let b = g.A.Archive.state c.respond.new.server.replica.archive in
    let config = site_of c.args.server.now.settings a in
    let sessions = c.args.sessions.now in
    let out = c.args.out.now.items in
    let after = c.respond.new.out.items in
    let now = c.now-in-Message.result in
    let fits : FitsSigned w64 now = search rules in
    let end = ending_of c.respond.result in
    let next = client_after client c.respond.result
    (Some c.respond.new.channel) c.respond.new.sessions in
    let P : ℤ → Type 0 = λ time. (used : _)
    × Answered a b (λ R. responded config
    (standing_of client sessions R) c.args.channel.now c.in-Message.request_id
    c.as_slice.result.now (record { 0 = time })) (marked used) out after end next in
    let Q : List ℕ → Type 0 = λ message. (used : _)
    × Answered a b (λ R. responded config
    (standing_of client sessions R) c.args.channel.now c.in-Message.request_id message
    (record { 0 = now })) (marked used) out after end next in
    let h = subst Q c.as_slice.ensures (subst P (to_z-of_z w64 now fits)
    (c.respond.ensures.answered client)) in
    let T : Taken → Type 0 = λ t. Answered a b (λ R.
    answer_to_taken config (standing_of client sessions R) c.args.channel.now t)
    (before (read now) (marked h.0)) out after end next in
    let f : Content → Ticks → Answering =
    λ R t. responded config (standing_of client sessions R) c.args.channel.now
    c.in-Message.request_id c.in-Message.message t in (
      before (read now) (marked h.0),
      c.now-in-Message.ensures,
      subst T (sym c.in-Message.is) (answered-timed a b f now
          (marked h.0) out after end next h.1),
    )

pub returns-in-Closed-clause-answered : goal.returns-in-Closed-clause-answered
returns-in-Closed-clause-answered g c client =
    let s = g.A.Archive.state c.args.server.now.replica.archive in
    let out = c.args.out.now.items in
    let next = client_after client (Ok (Ended Closed))
    (Some c.args.channel.now) c.args.sessions.now in
    let P : Taken → Type 0 = λ t. Answered s s (λ R.
    answer_to_taken (site_of c.args.server.now.settings s)
    (standing_of client c.args.sessions.now R) c.args.channel.now t) empty_environment out out
    (Some (Ok Closed)) next in (
      empty_environment,
      g.met.C.Clock.gave_none c.args.clock.now,
      subst P (sym c.in-Closed.is) (closes s client next c.args.sessions.now out),
    )
