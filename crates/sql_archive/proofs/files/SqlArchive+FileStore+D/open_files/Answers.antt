use Rattle.std.proofs.Common.{inl, inr, sym, subst, arith}
use Rattle.sqlite.specs.State.{HasCleanDisk}
use Rattle.archive.specs.Store.{IsOfOpening}
use Rattle.sql_archive.specs.Files.{IsAnothers}
use Rattle.sqlite.specs.Files.{file_state, image_of}
use Rattle.sql_archive.proofs.FileLemmas.{resumes, another, engine_left, archive_left}
use Rattle.sql_archive.proofs.files.SqlArchive+FileStore+D.open_files.Goals as goal

pub returns-in-Ok-start-clause-resumed : goal.returns-in-Ok-start-clause-resumed
returns-in-Ok-start-clause-resumed g c clean =
    let early : HasCleanDisk (file_state c.in-Ok.conn) =
    omega (arith, c.in-Ok-start.ensures.opened.clean, clean) in
    let opened = c.in-Ok.ensures.opened early in
    let found = c.in-Ok.ensures.found early in
    resumes (image_of g.D.Disk c.args.files) c.args.id c.args.number (file_state c.in-Ok.conn)
    (file_state c.in-Ok-start.archive.conn) opened.0 opened.1
    (record { holds = found.holds; reads = found.reads }) (c.in-Ok-start.ensures.started clean)

pub returns-in-Err-start-clause-wrong : goal.returns-in-Err-start-clause-wrong
returns-in-Err-start-clause-wrong g c clean of =
    let late = c.files_of.ensures.clean clean in
    let early : HasCleanDisk (file_state c.in-Ok.conn) =
    omega (arith, c.in-Err-start.ensures.left.clean, late) in
    let opened = c.in-Ok.ensures.opened early in
    let found = c.in-Ok.ensures.found early in
    let same = c.as_told.ensures.met of in
    subst (IsAnothers (image_of g.D.Disk c.args.files) c.args.id c.args.number) (sym same)
    (another (image_of g.D.Disk c.args.files) c.args.id c.args.number c.in-Err-start.fault
    (file_state c.in-Ok.conn) opened.0 opened.1
    (record { holds = found.holds; reads = found.reads })
    (c.in-Err-start.ensures.wrong late (subst IsOfOpening same of)))

pub returns-in-Err-start-clause-left : goal.returns-in-Err-start-clause-left
returns-in-Err-start-clause-left g c clean =
    let late = c.files_of.ensures.clean clean in
    let early : HasCleanDisk (file_state c.in-Ok.conn) =
    omega (arith, c.in-Err-start.ensures.left.clean, late) in
    let opened = c.in-Ok.ensures.opened early in
    let found = c.in-Ok.ensures.found early in
    inr (archive_left (image_of g.D.Disk c.args.files) c.files_of.result c.args.id c.args.number
    c.in-Ok.conn (file_state c.in-Err-start.conn) g.met.D.Disk.seen_may_stay opened.0 opened.1
    (record { holds = found.holds; reads = found.reads }) c.in-Err-start.ensures.left late
    (c.files_of.ensures.holds clean))

pub returns-in-Err-clause-left : goal.returns-in-Err-clause-left
returns-in-Err-clause-left g c clean =
    inl (engine_left c.args.files c.into_files.result c.in-Err.left c.into_files.ensures
    c.in-Err.ensures.unharmed clean)
