use Rattle.std.proofs.Common.{Ok, Err, IfOk}
use Rattle.std.specs.Prelude.{Result}
use Rattle.ua_binary.specs.declared.fault.BinaryFault.{BinaryFault}
use Rattle.ua_binary.specs.Binary.{byte_string}
use Rattle.ua_services.specs.Sessions.{activate_session_response}
use Rattle.historian.specs.Answers.{Activated, HasEncoding}
use Rattle.historian.proofs.answer.Answer.put_body.Goals as goal

-- nulls alone
activated : (put : Result (Unit {0}) BinaryFault) → IfOk put (λ _. HasEncoding Activated)
unfolding activate_session_response byte_string
activated (Ok _) = (tt, (tt, tt))
activated (Err fault) = tt

pub returns-in-Activated-clause-spelled : goal.returns-in-Activated-clause-spelled
returns-in-Activated-clause-spelled c =
    rw c.in-Activated.is (activated c.put_activate_session_response.result)
