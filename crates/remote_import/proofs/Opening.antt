-- What is said of a session that is opened and ended, for open_session and end_session.
use Rattle.std.proofs.Common.{List, [], ℕ, Result, Ok, Err, OnOk, OnErr, sym, append-nil}
use Rattle.ua_client.specs.Talking.{Flow, SendsBytes, SendsPart}

-- where a call fails, this holds
pub on-error : {T E X : Type 0} (result : Result T E) → X → OnErr result X
on-error (Ok done) x = tt
on-error (Err fault) x = x

-- bytes that were sent, or their first ones
pub part-either : {T E : Type 0} (result : Result T E) (before after : Flow) (bytes : List ℕ)
    → OnOk result (SendsBytes before after bytes) → OnErr result (SendsPart before after bytes)
    → SendsPart before after bytes
part-either (Ok done) before after bytes sent part = (bytes, [], sym (append-nil bytes), sent)
part-either (Err fault) before after bytes sent part = part
