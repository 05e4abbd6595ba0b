use Rattle.std.proofs.Common.{subst}
use Rattle.exchange.specs.Dialogs.{DialogState}
use Rattle.ua_peers.specs.Peers.{MeetsTo}
use Rattle.ua_peers.proofs.peers.serve_peer_from.Goals as goal

pub returns-clause-meets : goal.returns-clause-meets
returns-clause-meets g c =
    let state = g.A.Archive.state in
    let left = g.R.Read.remaining in
    let contents = g.W.Write.contents in (
      c.run_dialog.new.dialog,
      subst (λ (s : DialogState).
          MeetsTo s (state c.args.replica.now.archive)
          (state c.run_dialog.new.replica.archive) c.args.first.now (left c.args.reader.now.inner)
          (left c.run_dialog.new.reader.inner) (contents c.args.writer.now.inner)
          (contents c.run_dialog.new.writer.inner) c.run_dialog.result c.run_dialog.new.dialog)
          c.responder-dialog.ensures c.run_dialog.ensures.meets,
    )
