use Rattle.std.proofs.Common.{subst, arith}
use Rattle.sqlite_wal.specs.Reads.{AreClean}
use Rattle.sqlite_pool.specs.Pool.{state, files}
use Rattle.sqlite_store.specs.FileStore.{view}
use Rattle.sqlite_trees.proofs.Doubt.{no_doubt}
use Rattle.sql_archive.proofs.FileLemmas.{left_holds}
use Rattle.sql_archive.proofs.files.files_of.Goals as goal

pub returns-clause-clean : goal.returns-clause-clean
unfolding state files
returns-clause-clean g c clean =
    let none = no_doubt (view c.into_store.result).is_clean
    (subst (λ x. AreClean g.D.Disk x.0 x.1) c.close.ensures clean) in
    omega (arith, c.into_store.ensures.quiet.clean, none)

pub returns-clause-holds : goal.returns-clause-holds
unfolding state files
returns-clause-holds g c clean =
    let made = c.into_store.ensures in
    left_holds c.args.conn c.into_store.result c.close.result g.met.D.Disk.seen_may_stay made.quiet
    made.numbered made.sound c.close.ensures (subst
    (λ x. AreClean g.D.Disk x.0 x.1) c.close.ensures clean)
