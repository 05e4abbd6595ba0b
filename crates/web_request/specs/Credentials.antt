-- Who asks, by the scheme Basic (RFC 7617, 2).
use Rattle.std.specs.Prelude.{◌≡◌, ℕ, ◌+◌, nat_le, ◌&&◌, ◌==◌, List, length, take, drop, codes, Bool, Option, None, Some, Result, Ok, Err, ok_or, if◌then◌else◌}
use Rattle.std.specs.Borrow.{Bor}
use Rattle.std.specs.Option.{option_map, option_copied}
use Rattle.std.specs.List.{position}
use Rattle.base64.specs.Engines.{standard}
use Rattle.base64.specs.GeneralPurpose.{decode_of}
use Rattle.http1.specs.Fields.{Header, is_named}
use Rattle.http1.specs.Head.{header_parts}
use Rattle.http1.specs.declared.head.Header as Sent
use Rattle.http1.specs.Text.{eq_ignore_case}
use Rattle.ua_binary.specs.Format.{◌>>=◌}
use Rattle.web_request.specs.Asking.{only}
use Rattle.web_request.specs.declared.page.Credentials.{Credentials}
use Rattle.web_request.specs.declared.page.Refusal.{Refusal}
use Rattle.web_request.specs.declared.page.Refusal.TheVariants.{Credentials as NoCredentials}

-- a colon, between the name and the password
abbrev pub is_colon : ℕ → Bool
is_colon b = b == 58

-- what stands behind the scheme's name, in any case, and a space
abbrev pub token_in : List ℕ → Option (List ℕ)
token_in value =
    if nat_le 6 (length value) && eq_ignore_case (take 6 value) (codes "basic ")
    then Some (drop 6 value) else None

-- the bytes whose base64 a token is
abbrev pub token_bytes : List ℕ → Option (List ℕ)
token_bytes token = elim (decode_of standard token) [ Ok bytes ↦ Some bytes | Err _ ↦ None ]

-- the name before the first colon, and the password behind it
abbrev pub pair_in : List ℕ → Option Credentials
pair_in bytes =
    option_map (λ colon. record { name = take colon bytes; password = drop (colon + 1) bytes })
    (position is_colon bytes)

-- the name and the password that the value of an Authorization field says
abbrev pub credentials_in : List ℕ → Result Credentials Refusal
credentials_in value = do
  token ← ok_or (token_in value) NoCredentials
  bytes ← ok_or (token_bytes token) NoCredentials
  ok_or (pair_in bytes) NoCredentials

-- the header that was found is the one of these parts
abbrev pub Finds : Result (Option Header) Refusal → Result (Option (Bor Sent.Header)) Refusal
    → Type 0
Finds found (Ok header) = found ≡ Ok (option_map header_parts (option_copied header))
Finds found (Err why) = found ≡ Err why

-- the header is an Authorization field (RFC 9110, 11.6.2)
abbrev pub is_authorization : Header → Bool
is_authorization header = is_named (codes "authorization") header

-- who asks, by the one Authorization field; nobody where there is none
abbrev pub credentials_of : List Header → Result (Option Credentials) Refusal
credentials_of headers = do
  found ← only NoCredentials is_authorization headers
  elim found [
    | None ↦ Ok None
    | Some header ↦ credentials_in header.1 >>= λ credentials. Ok (Some credentials)
  ]
