-- Names for parts of the definitions in specs/Services, for the lemmas on these parts.
use Rattle.ua_binary.specs.declared.values.NodeId.{NodeId}
use Rattle.ua_session.specs.Sessions.{SessionsState, close_answer, without_session}
use Rattle.archive.specs.Store.{Done}
use Rattle.historian.specs.Answers.{Closed, Response}
use Rattle.historian.specs.Services.{called}

-- the token's session is gone; this takes no memory
abbrev pub close : NodeId → SessionsState → Response × SessionsState
close token sessions = called sessions (λ _.
    (Closed, record sessions { alive = without_session token sessions.alive }))
    (close_answer sessions token) Done
