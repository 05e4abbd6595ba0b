-- The head that stands first is the one that is answered.
use Rattle.std.proofs.Common.{ℕ, ◌≤◌, List, [], length, Option, None, Some, Result, Ok, Err, inl, inr, sym, subst, arith, append-nil}
use Rattle.httparse.specs.Grammar.{RequestHead}
use Rattle.httparse.proofs.GrammarLemmas.{request_unique}
use Rattle.http1.specs.Message.{AcceptsRequest}
use Rattle.http1.specs.declared.framing.Framing.{Framing}
use Rattle.web_request.specs.Requests.{AnswersFirst, AnswersHead, BeginsWith, ReadsRequest, limits}
use Rattle.web_request.specs.declared.page.Request.{Request}
use Rattle.web_request.specs.declared.page.RequestFault.{RequestFault}
use Rattle.web_request.specs.declared.page.RequestFault.TheVariants.{Refused, OutOfMemory}

-- what holds of some head that stands first holds of this one
same_head : (came : List ℕ) (head : RequestHead) (framing : Framing) (rest : List ℕ)
    (P : RequestHead → Type 0) → AcceptsRequest limits came head framing rest → BeginsWith came P
    → P head
same_head came head framing rest P accepts (other, framed, behind, takes, holds) =
    subst P (request_unique came other head behind rest takes.reads accepts.reads).0 holds

-- what came is read as that head
pub first_is : (came : List ℕ) (result : Result (Option Request) RequestFault)
    → ReadsRequest came result
    → (head : RequestHead) (framing : Framing) (rest : List ℕ)
    → AcceptsRequest limits came head framing rest → length head.fields ≤ 64
    → AnswersFirst head result
first_is came (Ok None) reads head framing rest accepts few = reads.0 head rest accepts.reads
first_is came (Ok (Some request)) reads head framing rest accepts few =
    (same_head came head framing rest
    (λ h. (length h.fields ≤ 64) × AnswersHead h (Ok request)) accepts reads).1
first_is came (Err OutOfMemory) reads head framing rest accepts few = tt
first_is came (Err (Refused why alone)) (inl none) head framing rest accepts few =
    let many = none.0.0 [] head framing rest
    (subst (λ l. AcceptsRequest limits l head framing rest) (sym (append-nil came)) accepts) in
    absurd (omega (arith, many))
first_is came (Err (Refused why alone)) (inr first) head framing rest accepts few =
    (same_head came head framing rest
    (λ h. (length h.fields ≤ 64) × AnswersHead h (Err (Refused why alone))) accepts first).1
