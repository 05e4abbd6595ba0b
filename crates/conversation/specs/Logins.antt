-- How many logins were refused of late, and which answers wait for that.
use Rattle.std.specs.Prelude.{ℕ, List, ◌+◌, ◌-◌, ◌==◌, nat_eq, nat_le, nat_lt, ◌&&◌, Bool, true, false, filter, length, set, replicate, Option, None, Some, is_some, Result, Ok, if◌then◌else◌}
use Rattle.std.specs.declared.alloc.AllocError.{AllocError}
use Rattle.std.specs.Cmp.Lexicographic.{pointwise}
use Rattle.std.specs.Option.{option_map, option_map_or}
use Rattle.std.specs.Net.Addr.{ipv4_octets, ipv6_segments}
use Rattle.std.specs.Net.Socket.{socket_ip}
use Rattle.std.specs.declared.net.ip_addr.IpAddr.{IpAddr}
use Rattle.std.specs.declared.net.ip_addr.IpAddr.TheVariants.{V4, V6}
use Rattle.multiplex.specs.declared.stay.Stay.{Stay}
use Rattle.multiplex.specs.declared.stay.Party.TheVariants.{Accepted, Called}
use Rattle.ua_session.specs.declared.audit.AuditEvent.{AuditEvent}
use Rattle.ua_session.specs.declared.audit.AuditEvent.TheVariants.{Activation}
use Rattle.web_connection.specs.declared.step.WebStep.{WebStep}
use Rattle.web_connection.specs.declared.step.WebStep.TheVariants.{Denied}
use Rattle.conversation.specs.declared.logins.RefusedLogin.{RefusedLogin}

-- the last refused logins that are kept, where the next one is kept, and whether the answer that
-- was made last waits
pub record RefusedLogins : Type 0 where
  pub refusals : List (Option RefusedLogin)
  pub next : ℕ
  pub is_held : Bool

-- two that are known are equal, or none is known
abbrev pub is_same_host : Option IpAddr → Option IpAddr → Bool
is_same_host (Some (V4 one)) (Some (V4 other)) =
    pointwise nat_eq (ipv4_octets one) (ipv4_octets other)
is_same_host (Some (V6 one)) (Some (V6 other)) =
    pointwise nat_eq (ipv6_segments one) (ipv6_segments other)
is_same_host None None = true
is_same_host one other = false

-- where the other end of a connection is, if it is known
abbrev pub host_of : Stay → Option IpAddr
host_of stay = elim stay.party [
  | Accepted origin ↦ option_map socket_ip origin.address
  | Called callee ↦ None
]

-- it is a login from this address that was refused less than a minute before this time
abbrev pub counts_for : Option IpAddr → (now : ℕ) → Option RefusedLogin → Bool
counts_for host now given = elim given [
  | None ↦ false
  | Some refusal ↦ nat_lt (now - refusal.at) 60000 && is_same_host refusal.host host
]

-- how many logins were refused of those who are there, in the minute before this time
abbrev pub refusals_of : Option IpAddr → (now : ℕ) → RefusedLogins → ℕ
refusals_of host now logins = length (filter (counts_for host now) logins.refusals)

-- nothing was refused yet; of so many refusals is known at most
abbrev pub no_refusals : (most : ℕ) → RefusedLogins
no_refusals most = record { refusals = replicate most None; next = 0; is_held = false }

-- one more was refused, which is kept in place of the one that is longest ago
abbrev pub with_refusal : Option IpAddr → (now : ℕ) → RefusedLogins → RefusedLogins
with_refusal host now logins = record logins {
  refusals = set logins.refusals logins.next (Some (record { host = host; at = now }));
  next = if nat_lt (logins.next + 1) (length logins.refusals) then logins.next + 1 else 0;
}

-- so many logins from this address were refused that the next ones wait
abbrev pub is_full : (limit : Option ℕ) → Option IpAddr → (now : ℕ) → RefusedLogins → Bool
is_full limit host now logins =
    option_map_or (λ most. nat_le most (refusals_of host now logins)) limit false

-- somebody asked to be let in, and was or wasn't: the answer waits where as many were refused
-- before it as the settings allow
abbrev pub after_login : (limit : Option ℕ) → Option IpAddr → (now : ℕ) → (refused : Bool)
    → RefusedLogins → RefusedLogins
after_login limit host now refused logins =
    let kept = if refused then with_refusal host now logins else logins in
    record kept { is_held = is_full limit host now logins }

-- an answer was made to something else, which doesn't wait
abbrev pub unheld : RefusedLogins → RefusedLogins
unheld logins = record logins { is_held = false }

-- a client was answered, and this is what a log is told of it
abbrev pub after_audit : (limit : Option ℕ) → Stay → (now : ℕ) → Option AuditEvent → RefusedLogins
    → RefusedLogins
after_audit limit stay now (Some (Activation name refused)) logins =
    after_login limit (host_of stay) now (is_some refused) logins
after_audit limit stay now event logins = unheld logins

-- a browser was denied what it asked for
abbrev pub is_denied : Result WebStep AllocError → Bool
is_denied step = elim step [ Ok Denied ↦ true | _ ↦ false ]

-- a browser was answered: the first answer of its connection, which is the one to its request, is
-- that to a login
abbrev pub after_step : (limit : Option ℕ) → Stay → (now : ℕ) → Result WebStep AllocError
    → RefusedLogins → RefusedLogins
after_step limit stay now step logins =
    if stay.answered == 0 then after_login limit (host_of stay) now (is_denied step) logins
    else unheld logins

-- so many milliseconds the answer waits that was made last
abbrev pub delay_of : RefusedLogins → ℕ
delay_of logins = if logins.is_held then 1000 else 0
