-- Who is denied.
use Rattle.std.proofs.Common.{◌≡◌, ◌≢◌, ℕ, ◌≤◌, Bool, true, false, List, length, Option, None, Some, Result, Ok, Err, sym, subst, ap, ◌∙◌}
use Rattle.std.specs.Prelude.{◌↔◌, not, ◌&&◌, IfOk, if◌then◌else◌}
use Rattle.std.specs.declared.alloc.AllocError.{AllocError}
use Rattle.httparse.specs.Grammar.{RequestHead}
use Rattle.http1.specs.Message.{AcceptsRequest}
use Rattle.http1.specs.declared.framing.Framing.{Framing}
use Rattle.ua_settings.specs.Settings.{SettingsValues}
use Rattle.web_request.specs.Requests.{AnswersFirst, limits, ReadsRequest as IsRead}
use Rattle.web_request.specs.declared.page.Refusal.{Refusal}
use Rattle.web_request.specs.declared.page.Refusal.TheVariants as why
use Rattle.web_request.specs.declared.page.Request.{Request}
use Rattle.web_request.specs.declared.page.RequestFault.{RequestFault}
use Rattle.web_request.specs.declared.page.RequestFault.TheVariants.{Refused}
use Rattle.web_connection.specs.Access.{are_wrong}
use Rattle.web_connection.specs.Answers.{AreWrongIn, refusal_of}
use Rattle.web_connection.specs.declared.sending.Rest.{Rest}
use Rattle.web_connection.specs.declared.sending.Rest.TheVariants.{Denied}
use Rattle.web_connection.specs.declared.sending.Told.{Told}

-- a head that stands first is read so
abbrev pub Finds : (came : List ℕ) → Result (Option Request) RequestFault → Type 0
Finds came result = (head : RequestHead) (framing : Framing) (rest : List ℕ)
    → AcceptsRequest limits came head framing rest → length head.fields ≤ 64
    → AnswersFirst head result

-- nothing whole came
pub none-wrong : (s : SettingsValues) (came : List ℕ) → Finds came (Ok None)
    → ¬ AreWrongIn s came
none-wrong s came finds (request, (head, framing, rest, accepts, (short, reads)), wrong) =
    finds head framing rest accepts short

-- what came is refused
pub refused-wrong : (s : SettingsValues) (came : List ℕ) (cause : Refusal) (head_only : Bool)
    → Finds came (Err (Refused cause head_only)) → ¬ AreWrongIn s came
refused-wrong s came cause head_only finds
    (request, (head, framing, rest, accepts, (short, reads)), wrong) =
    ok-err request cause (sym reads ∙ (finds head framing rest accepts short).0)
  where
    ok-err : (a : Request) (b : Refusal) → Ok a ≡ Err b → ⊥
    ok-err a b e = absurd cc

-- the request of a result, or another one
abbrev request_or : Request → Result Request Refusal → Request
request_or other (Ok request) = request
request_or other (Err cause) = other

-- a request came
pub read-wrong : (s : SettingsValues) (came : List ℕ) (request : Request) (behind : Rest)
    → Finds came (Ok (Some request)) → IsRead came (Ok (Some request))
    → (behind ≡ Denied) ↔ (are_wrong s request.credentials ≡ true)
    → (behind ≡ Denied) ↔ AreWrongIn s came
read-wrong s came request behind finds reads both = (
  λ told. (request, reads, both.0 told),
  λ (other, (head, framing, rest, accepts, (short, read)), wrong).
      both.1 (subst (λ (r : Request). are_wrong s r.credentials ≡ true)
      (ap (request_or other) (sym read ∙ finds head framing rest accepts short)) wrong),
)

-- credentials that aren't refused aren't wrong
no-wrong : (given let_in lacks : Bool)
    → (if let_in then (if lacks then Some why.Unknown else None) else Some why.Credentials) ≡ None
    → (given && not let_in) ≢ true
no-wrong true true lacks e = λ wrong. absurd cc
no-wrong false true lacks e = λ wrong. absurd cc
no-wrong given false lacks e = absurd cc

-- who isn't refused isn't denied
pub taken-denied : (s : SettingsValues) (request : Request) (judged : Option Refusal)
    (result : Result Told AllocError) → judged ≡ refusal_of s request → judged ≡ None
    → IfOk result (λ told. told.rest ≢ Denied)
    → IfOk result (λ told. (told.rest ≡ Denied) ↔ (are_wrong s request.credentials ≡ true))
taken-denied s request judged (Ok told) by is goes =
    (λ denied. absurd (goes denied), λ wrong. absurd (no-wrong _ _ _ (sym by ∙ is) wrong))
taken-denied s request judged (Err starved) by is goes = tt
