use Rattle.std.proofs.Common.{◌≡◌, ◌∙◌, Err, take, ap, sym, inl, inr}
use Rattle.counted_io.specs.declared.fault.ServeFault.TheVariants.{Read}
use Rattle.ua_server.specs.Either.{ConnectionEnding}
use Rattle.conversation.specs.declared.door.Door.{Door}
use Rattle.conversation.specs.Doors.{clients_door, is_peers}
use Rattle.ua_connection.proofs.Outsides.{empty_environment}
use Rattle.ua_server.proofs.Firsts.{are-first, breaks-off, goes-as-peer, goes-as-client}
use Rattle.ua_server.proofs.either.serve.Goals as goal

pub returns-in-Err-clause-serves : goal.returns-in-Err-clause-serves
returns-in-Err-clause-serves g c =
    let left = g.R.Read.remaining in
    let fault = c.in-Err.ensures.fault.0 in
    let ends : ◌≡◌ {A = ConnectionEnding} (Err c.in-Err.fault) (Err Read) = cc fault in (
      empty_environment,
      g.met.C.Clock.gave_none c.args.clock.now,
      inl (breaks-off (g.A.Archive.state c.args.server.now.replica.archive)
          (left c.args.reader.now.inner) (left c.read_first.new.reader.inner)
          (g.W.Write.contents c.args.writer.now.inner)
          (Err c.in-Err.fault) c.in-Err.ensures.broken ends),
    )

pub returns-then-is_peers-clause-serves : goal.returns-then-is_peers-clause-serves
returns-then-is_peers-clause-serves g c =
    let state = g.A.Archive.state in
    let left = g.R.Read.remaining in
    let contents = g.W.Write.contents in
    let came = c.in-Ok.ensures in
    let first = take c.in-Ok.n c.read_first.new.first in
    let at_door = ap (λ (door : Door). is_peers door first) c.of_settings.ensures in
    let three = are-first (left c.args.reader.now.inner)
    (left c.read_first.new.reader.inner) c.read_first.new.first c.in-Ok.n came.length
    came.within came.bytes came.end in (
      empty_environment,
      g.met.C.Clock.gave_none c.args.clock.now,
      inr (
        first,
        left c.read_first.new.reader.inner,
        three.0,
        three.1,
        three.2,
        goes-as-peer c.args.server.now.settings (state c.args.server.now.replica.archive)
            (state c.serve_a_peer.new.replica.archive) first (left c.read_first.new.reader.inner)
            (left c.serve_a_peer.new.reader.inner)
            (contents c.args.writer.now.inner) (contents c.serve_a_peer.new.writer.inner)
            (is_peers (clients_door c.args.server.now.settings) first) c.serve_a_peer.result
            (sym at_door ∙ sym c.is_peers.ensures ∙ c.if-is_peers.true)
            c.serve_a_peer.ensures.meets,
      ),
    )

pub returns-else-is_peers-clause-serves : goal.returns-else-is_peers-clause-serves
returns-else-is_peers-clause-serves g c =
    let state = g.A.Archive.state in
    let left = g.R.Read.remaining in
    let contents = g.W.Write.contents in
    let came = c.in-Ok.ensures in
    let first = take c.in-Ok.n c.read_first.new.first in
    let at_door = ap (λ (door : Door). is_peers door first) c.of_settings.ensures in
    let three = are-first (left c.args.reader.now.inner)
    (left c.read_first.new.reader.inner) c.read_first.new.first c.in-Ok.n came.length
    came.within came.bytes came.end in
    let served = c.serve_client.ensures.serves in (
      served.0,
      served.1,
      inr (
        first,
        left c.read_first.new.reader.inner,
        three.0,
        three.1,
        three.2,
        goes-as-client c.args.server.now.settings (state c.args.server.now.replica.archive)
            (state c.serve_client.new.server.replica.archive) first
            (left c.read_first.new.reader.inner) (left c.serve_client.new.reader.inner)
            (contents c.args.writer.now.inner) (contents c.serve_client.new.writer.inner) served.0
            (is_peers (clients_door c.args.server.now.settings) first) c.serve_client.result
            (sym at_door ∙ sym c.is_peers.ensures ∙ c.if-is_peers.false)
            (served.2, served.3, served.4),
      ),
    )
