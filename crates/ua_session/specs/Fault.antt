-- What a fault is called outside: by its number, and by the status code that a response tells (Part
-- 4, StatusCode).
use Rattle.std.specs.Prelude.{ℕ}
use Rattle.ua_binary.specs.declared.codes.Status.{Status}
use Rattle.ua_binary.specs.declared.codes.TheConstants.Status.{BAD_OUT_OF_MEMORY, BAD_IDENTITY_TOKEN_INVALID, BAD_IDENTITY_TOKEN_REJECTED, BAD_SESSION_ID_INVALID, BAD_SESSION_NOT_ACTIVATED, BAD_TOO_MANY_SESSIONS}
use Rattle.ua_session.specs.declared.fault.SessionFault.{SessionFault}
use Rattle.ua_session.specs.declared.fault.SessionFault.TheVariants.{TooMany, IdInvalid, NotActivated, IdentityInvalid, IdentityRejected, OutOfMemory}

abbrev pub session_fault_number : SessionFault → ℕ
session_fault_number TooMany = 1
session_fault_number IdInvalid = 2
session_fault_number NotActivated = 3
session_fault_number IdentityInvalid = 4
session_fault_number IdentityRejected = 5
session_fault_number OutOfMemory = 6

-- the status code that a refused service answers
abbrev pub session_fault_status : SessionFault → Status
session_fault_status fault =
    elim fault [
      | TooMany ↦ BAD_TOO_MANY_SESSIONS
      | IdInvalid ↦ BAD_SESSION_ID_INVALID
      | NotActivated ↦ BAD_SESSION_NOT_ACTIVATED
      | IdentityInvalid ↦ BAD_IDENTITY_TOKEN_INVALID
      | IdentityRejected ↦ BAD_IDENTITY_TOKEN_REJECTED
      | OutOfMemory ↦ BAD_OUT_OF_MEMORY
    ]
