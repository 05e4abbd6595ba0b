use Rattle.std.proofs.Common.{Option, Ok, inl, sym, ap, ◌∙◌, subst}
use Rattle.peer_check.specs.declared.comparing.Extent.{Extent}
use Rattle.ua_server.specs.Calls.{Exchanges, HasCompared, HasDialog}
use Rattle.ua_server.proofs.calls.exchange_over.Goals as goal
use Rattle.ua_server.proofs.calls.exchange_over.Goals.{in-Some+in-Ok-None, in_default}

pub returns-clause-exchanges : goal.returns-clause-exchanges
returns-clause-exchanges g c =
    let held = g.A.Archive.state in
    let unread = g.R.Read.remaining in
    let told = g.W.Write.contents in
    let old = c.args.server.now.replica.archive in
    let new = c.sync.new.replica.archive in
    let P : Option Extent → Type 0 = λ compared. Exchanges held compared old new (unread c.args.reader.now.inner)
    (unread c.sync.new.reader.inner) (told c.args.writer.now.inner)
    (told c.sync.new.writer.inner) c.dialog.result in
    elim c.match-compared.branch [
      | in-Some+in-Ok-None w ↦
          let none = w.in-Ok-None.is ∙ ap Ok w.in-Ok-None.field-0-is in
          let found : HasCompared w.in-Some.extent (held old) (held w.compare.new.replica.archive)
          (unread c.args.reader.now.inner) (unread w.compare.new.reader.inner)
          (told c.args.writer.now.inner) (told w.compare.new.writer.inner) w.compare.result =
          record {
            alone = w.compare.ensures.asks;
            says = w.compare.ensures.says;
            finds = w.compare.ensures.compares;
          } in
          subst P (sym w.in-Some.is) (inl (record {
            middle = c.match-compared.server.replica.archive;
            rest = unread c.match-compared.reader.inner;
            between = told c.match-compared.writer.inner;
            agrees = rw (w.server-is, w.reader-is, w.writer-is) (rw none at found);
            dialog = (c.sync.result, c.sync.ensures.syncs, c.dialog.ensures);
          }))
      | in_default w ↦
          let dialog : HasDialog (held c.match-compared.server.replica.archive) (held new)
          (unread c.match-compared.reader.inner) (unread c.sync.new.reader.inner)
          (told c.match-compared.writer.inner) (told c.sync.new.writer.inner) c.dialog.result =
          (c.sync.result, c.sync.ensures.syncs, c.dialog.ensures) in
          subst P (sym w.in_default.is) (rw (w.server-is, w.reader-is, w.writer-is) at dialog)
    ]
