use Rattle.std.proofs.Common.{◌≡◌, ◌∙◌, ap, true}
use Rattle.exchange.specs.Dialogs.{DialogState}
use Rattle.ua_peers.proofs.Syncing.{syncs-unsent, syncs-asked}
use Rattle.ua_peers.proofs.Counts.{adds-so}
use Rattle.ua_peers.proofs.calling.sync.Goals as goal

pub returns-in-Err-send-clause-syncs : goal.returns-in-Err-send-clause-syncs
returns-in-Err-send-clause-syncs g c =
    let state = g.A.Archive.state in
    let contents = g.W.Write.contents in
    let part = rw c.as_slice.ensures.value at c.in-Err-send.ensures.part in
    let fault = c.in-Err-send.ensures.fault.0 in
    syncs-unsent (state c.args.replica.now.archive) (state c.start.new.replica.archive)
    (g.R.Read.remaining c.args.reader.now.inner) (contents c.args.writer.now.inner)
    (contents c.send.new.self.inner) c.new-out.result.items c.start.new.out.items c.start.result
    c.in-Err-send.fault
    c.new-out.ensures.items c.start.ensures.greets c.in-Ok.is part fault

pub returns-clause-syncs : goal.returns-clause-syncs
returns-clause-syncs g c =
    let state = g.A.Archive.state in
    let contents = g.W.Write.contents in
    let all = rw c.as_slice.ensures.value at c.in-Ok-send.ensures.ok in
    let start : c.start.new.self ≡ Rattle.ua_peers.specs.Calling.calling =
    c.in-Ok.ensures.ok ∙ ap (λ (s : DialogState). let t : DialogState =
    record s { started = true } in t) c.initiator-dialog.ensures in
    syncs-asked (state c.args.replica.now.archive) (state c.start.new.replica.archive)
    (state c.run_dialog-parted.new.replica.archive) (g.R.Read.remaining c.args.reader.now.inner)
    (g.R.Read.remaining c.run_dialog-parted.new.reader.inner)
    (contents c.args.writer.now.inner) (contents c.send.new.self.inner)
    (contents c.run_dialog-parted.new.writer.inner) c.new-out.result.items c.start.new.out.items
    c.start.result c.run_dialog-parted.result c.synced_by.result c.start.new.self
    c.run_dialog-parted.new.dialog
    c.new-out.ensures.items c.start.ensures.greets c.in-Ok.is all start
    c.run_dialog-parted.ensures.meets c.synced_by.ensures

pub returns-clause-adds : goal.returns-clause-adds
returns-clause-adds g c = adds-so _ _ _ _ _ _ _ (returns-clause-syncs g c)
