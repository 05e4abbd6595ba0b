use Rattle.ua_server.proofs.Updated.{updates_made}
use Rattle.ua_server.proofs.laws.connections_are_updates.Goals as goal

pub returns : goal.returns
returns g c = λ settings a b first unread left before after used ending w i s R serves rests whole
    honest is lawful at number content.
    updates_made settings (g.A.Archive.state a)
    (g.A.Archive.state b) first unread left before after used ending serves rests whole honest w
    i s R is lawful at number content
