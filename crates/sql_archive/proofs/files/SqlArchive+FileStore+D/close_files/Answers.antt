use Rattle.std.proofs.Common.{subst}
use Rattle.sqlite.specs.State.{IsLive}
use Rattle.sqlite.specs.Files.{file_state}
use Rattle.sqlite.specs.Closing.{IsCopied}
use Rattle.sql_archive.proofs.FileLemmas.{closed_is, closed_holds}
use Rattle.sql_archive.proofs.files.SqlArchive+FileStore+D.close_files.Goals as goal

pub returns-in-Ok-clause-kept : goal.returns-in-Ok-clause-kept
returns-in-Ok-clause-kept g c used clean =
    let same = c.into_connection-conn.ensures in
    closed_is c.args.self.conn c.in-Ok.files c.args.self.id c.args.self.number c.args.self.numbers
    c.args.self.tick (λ h. c.tables_stand.ensures.stand.0 used h)
    (subst (λ h. IsLive (file_state h)) same c.schema-schema.ensures.live)
    (subst (λ h. IsCopied h c.in-Ok.files) same (c.in-Ok.ensures.copied clean))

pub returns-in-Ok-clause-held : goal.returns-in-Ok-clause-held
returns-in-Ok-clause-held g c used clean =
    let same = c.into_connection-conn.ensures in
    closed_holds c.args.self.conn c.in-Ok.files c.args.self.id c.args.self.number
    c.args.self.numbers c.args.self.tick (λ h. c.tables_stand.ensures.stand.0 used h)
    (subst (λ h. IsLive (file_state h)) same c.schema-schema.ensures.live)
    (subst (λ h. IsCopied h c.in-Ok.files) same (c.in-Ok.ensures.copied clean))
