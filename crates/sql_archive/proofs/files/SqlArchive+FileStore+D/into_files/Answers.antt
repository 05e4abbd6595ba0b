use Rattle.sqlite.specs.Files.{file_state, image_of}
use Rattle.sql_archive.proofs.FileLemmas.{resumes_among, left_store}
use Rattle.sql_archive.proofs.files.SqlArchive+FileStore+D.into_files.Goals as goal

pub returns-clause-held : goal.returns-clause-held
returns-clause-held g c clean =
    let same = c.into_connection.ensures in
    let late = c.files_of.ensures.clean clean in
    left_store (image_of g.D.Disk c.files_of.result)
    (file_state c.args.self.conn).may_leave c.args.self.id c.args.self.number
    (rw same at (c.files_of.ensures.holds clean))
    (c.tables_stand.ensures.left (rw same at late))

pub returns-clause-among : goal.returns-clause-among
returns-clause-among g c clean = resumes_among (image_of g.D.Disk c.files_of.result)
    (file_state c.args.self.conn).may_leave (rw c.into_connection.ensures at
    (c.files_of.ensures.holds clean))
