use Rattle.conversation.proofs.Compared.{agrees, differs}
use Rattle.conversation.proofs.laws.a_first_frame_agrees.Goals as goal

pub returns-clause-agrees : goal.returns-clause-agrees
returns-clause-agrees g c party peer v w r found compares honest there named =
    agrees g.A.Archive.state peer.frames.waiting v.server.replica.archive w.server.replica.archive
    honest r _ found.1 compares there named

pub returns-clause-differs : goal.returns-clause-differs
returns-clause-differs g c compares waiting old new clash found honest =
    differs g.A.Archive.state waiting old new honest clash compares found
