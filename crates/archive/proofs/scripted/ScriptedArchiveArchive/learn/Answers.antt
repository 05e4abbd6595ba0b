use Rattle.archive.proofs.Scripting.{begun}
use Rattle.archive.proofs.scripted.ScriptedArchiveArchive.learn.Goals as goal

pub returns-clause-learns : goal.returns-clause-learns
returns-clause-learns c = begun c.args.self.now c.begin.new.self c.learn_told.new.self _
    c.begin.result _ c.begin.ensures.inner c.begin.ensures.broken c.begin.ensures.faults
    c.begin.ensures.ended c.in_default.is c.learn_told.ensures.learns
