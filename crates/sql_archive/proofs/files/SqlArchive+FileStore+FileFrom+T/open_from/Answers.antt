use Rattle.std.proofs.Common.{inl, inr, sym, subst, refl, arith}
use Rattle.sqlite.specs.State.{HasCleanDisk}
use Rattle.archive.specs.Store.{IsOfOpening}
use Rattle.sql_archive.specs.Files.{IsAnothers}
use Rattle.sqlite.specs.Files.{file_state}
use Rattle.sqlite_wal.specs.Files.{image_at}
use Rattle.sql_archive.proofs.FileLemmas.{resumes, another, engine_left, archive_left}
use Rattle.sql_archive.proofs.files.SqlArchive+FileStore+FileFrom+T.open_from.Goals as goal

pub start-requires-clause-open : goal.start-requires-clause-open
start-requires-clause-open g c clean = (c.in-Ok.ensures.opened clean).0

pub returns-in-Ok-start-clause-resumed : goal.returns-in-Ok-start-clause-resumed
returns-in-Ok-start-clause-resumed g c clean =
    let early : HasCleanDisk (file_state c.in-Ok.conn) =
    omega (arith, c.in-Ok-start.ensures.opened.clean, clean) in
    let opened = c.in-Ok.ensures.opened early in
    resumes (image_at g.T.Start) c.args.id c.args.number (file_state c.in-Ok.conn)
    (file_state c.in-Ok-start.archive.conn) opened.0 opened.1 (c.in-Ok.ensures.found early)
    (c.in-Ok-start.ensures.started clean)

pub returns-in-Err-start-clause-wrong : goal.returns-in-Err-start-clause-wrong
returns-in-Err-start-clause-wrong g c of clean =
    let late = c.files_of.ensures.clean clean in
    let early : HasCleanDisk (file_state c.in-Ok.conn) =
    omega (arith, c.in-Err-start.ensures.left.clean, late) in
    let opened = c.in-Ok.ensures.opened early in
    let same = c.as_told.ensures.met of in
    subst (IsAnothers (image_at g.T.Start) c.args.id c.args.number) (sym same)
    (another (image_at g.T.Start) c.args.id c.args.number c.in-Err-start.fault
    (file_state c.in-Ok.conn) opened.0 opened.1 (c.in-Ok.ensures.found early)
    (c.in-Err-start.ensures.wrong late (subst IsOfOpening same of)))

pub returns-in-Err-start-clause-left : goal.returns-in-Err-start-clause-left
returns-in-Err-start-clause-left g c clean =
    let late = c.files_of.ensures.clean clean in
    let early : HasCleanDisk (file_state c.in-Ok.conn) =
    omega (arith, c.in-Err-start.ensures.left.clean, late) in
    let opened = c.in-Ok.ensures.opened early in
    inr (archive_left (image_at g.T.Start) c.files_of.result c.args.id c.args.number c.in-Ok.conn
    (file_state c.in-Err-start.conn) (λ f. inl refl) opened.0 opened.1
    (c.in-Ok.ensures.found early) c.in-Err-start.ensures.left late
    (c.files_of.ensures.holds clean))

pub returns-in-Some-clause-left : goal.returns-in-Some-clause-left
returns-in-Some-clause-left g c clean =
    let cause = rw c.in-Some.is at c.in-Err.ensures.cause in
    inl (
      cause.0,
      cause.1,
      cause.2,
      engine_left cause.0 c.into_files.result c.in-Some.left c.into_files.ensures
          (λ h. (cause.3 h).1) clean,
    )
