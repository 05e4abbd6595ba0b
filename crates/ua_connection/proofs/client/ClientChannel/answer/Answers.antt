use Rattle.std.proofs.Common.{refl, ◌≡◌, inl, inr}
use Rattle.std.specs.Prelude.{◌⊎◌}
use Rattle.uacp.specs.declared.types.Kind.{Kind}
use Rattle.uacp.specs.declared.types.Kind.TheVariants.{Hello, Open, Close, Message}
use Rattle.archive.specs.Store.{Done}
use Rattle.std.proofs.Common.{◌∷◌, [], ◌∙◌}
use Rattle.ua_channel.specs.Taking.{piece_of}
use Rattle.historian.specs.Services.{site_of}
use Rattle.ua_connection.specs.Environments.{before}
use Rattle.ua_connection.specs.Client.{Client}
use Rattle.ua_connection.specs.Turns.{ending_of, client_after, standing_of, chunk_answer_or_starved}
use Rattle.ua_connection.proofs.Outsides.{marked}
use Rattle.ua_connection.proofs.Steps.{tried-hello, tried-other, answered-client, behind-same, behind-channel}
use Rattle.ua_connection.proofs.client.ClientChannel.answer.Goals as goal

pub returns-in-Hello-clause-answered : goal.returns-in-Hello-clause-answered
returns-in-Hello-clause-answered g c client =
    let a = g.A.Archive.state c.args.server.now.replica.archive in
    let sessions = c.args.self.now.sessions in
    let outer : Client = record client { channel = c.args.self.now.channel } in
    let inner : Client = record outer { sessions = sessions } in
    let h = c.greet.ensures.answered inner in
    let next = client_after inner c.greet.result c.greet.new.channel sessions in
    let other = client_after client c.greet.result c.greet.new.channel sessions in (
      before (marked (Done ∷ [])) (marked h.0),
      g.met.C.Clock.gave_none c.args.clock.now,
      tried-hello a (site_of c.args.server.now.settings a) outer next other sessions
          c.args.chunk.kind (piece_of c.args.chunk) c.args.chunk.body.now h.0 c.args.out.now.items
          c.greet.new.out.items (ending_of c.greet.result) c.in-Hello.is refl
          (behind-same outer c.greet.new.channel sessions sessions c.greet.result
          ∙ behind-channel client c.args.self.now.channel c.greet.new.channel sessions
          c.greet.result) h.1,
    )

not_hello : (kind : Kind) → (kind ≡ Open) ⊎ ((kind ≡ Close) ⊎ (kind ≡ Message)) → kind ≡ Hello → ⊥
not_hello kind (inl e) is = cc
not_hello kind (inr (inl e)) is = cc
not_hello kind (inr (inr e)) is = cc

pub returns-in-Open-clause-answered : goal.returns-in-Open-clause-answered
returns-in-Open-clause-answered g c client =
    let a = g.A.Archive.state c.args.server.now.replica.archive in
    let b = g.A.Archive.state c.answer_on_channel.new.server.replica.archive in
    let config = site_of c.args.server.now.settings a in
    let sessions = c.args.self.now.sessions in
    let left = c.answer_on_channel.new.self.sessions in
    let outer : Client = record client { channel = c.args.self.now.channel } in
    let h = c.answer_on_channel.ensures.answered outer in
    let piece = piece_of c.args.chunk in
    let out = c.args.out.now.items in
    let after = c.answer_on_channel.new.out.items in
    let end = ending_of c.answer_on_channel.result in
    let inner = client_after outer c.answer_on_channel.result c.answer_on_channel.new.self.channel
    left in
    let other = client_after client c.answer_on_channel.result c.answer_on_channel.new.self.channel
    left in (
      h.0,
      h.1,
      answered-client a b (λ R. chunk_answer_or_starved config (standing_of outer sessions R) piece)
          h.0 out after end inner other
          (behind-channel client c.args.self.now.channel c.answer_on_channel.new.self.channel left
          c.answer_on_channel.result)
          (tried-other a b config outer inner sessions piece h.0 out after end
          (not_hello c.args.chunk.kind c.in-Open.is) h.2),
    )
