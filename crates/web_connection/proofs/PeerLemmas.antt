-- What is told of the peers that are called.
use Rattle.std.proofs.Common.{◌≡◌, ℕ, List, ap, ◌∙◌, subst}
use Rattle.std.specs.Prelude.{Bool, Some, Result, Ok, Err, IfOk}
use Rattle.std.specs.declared.alloc.AllocError.{AllocError}
use Rattle.history_report.specs.Reports.{AreLines}
use Rattle.web_page.specs.Calls.{IsEndTime, Overview}
use Rattle.web_page.specs.declared.calls.CallEnd.{CallEnd}
use Rattle.web_page.specs.declared.calls.LastCall.{LastCall}
use Rattle.web_request.specs.declared.answer.Kind.TheVariants.{Json}
use Rattle.web_connection.specs.Status.{IsLastJson, IsPeerJson, IsStatusJson, end_json, peer_json, members_text, status_json}
use Rattle.web_connection.specs.Texts.{answer_text}

-- a call that ended
pub end-told : {A : Type 0} (items : A → List ℕ) (result : Result A AllocError) (end : CallEnd)
    (time slice : List ℕ) → slice ≡ time → IsEndTime end time
    → IfOk result (λ text. items text ≡ end_json end slice)
    → IfOk result (λ text. IsLastJson (Some end) (items text))
end-told items (Ok text) end time slice same is told = (time, is, told ∙ ap (end_json end) same)
end-told items (Err why) end time slice same is told = tt

-- a peer
pub peer-told : {A : Type 0} (items : A → List ℕ) (result : Result A AllocError) (call : LastCall)
    (address last slice : List ℕ) → address ≡ call.address → slice ≡ last
    → IsLastJson call.end last → IfOk result (λ text. items text ≡ peer_json address slice)
    → IfOk result (λ text. IsPeerJson call (items text))
peer-told items (Ok text) call address last slice is same ends told =
    let as_given = ap (λ (a : List ℕ). peer_json a slice) is in
    (last, ends, told ∙ (as_given ∙ ap (peer_json call.address) same))
peer-told items (Err why) call address last slice is same ends told = tt

-- the whole
pub status-told : {A : Type 0} (items : A → List ℕ) (result : Result A AllocError)
    (overview : Overview) (numbers : ℕ → ℕ) (lent : List LastCall)
    (members given peers slice : List ℕ) → lent ≡ overview.calls → given ≡ members
    → members ≡ members_text numbers → slice ≡ peers → AreLines IsPeerJson lent peers
    → IfOk result (λ text. items text ≡ status_json overview given slice)
    → IfOk result (λ text. IsStatusJson overview numbers (items text))
status-told items (Ok text) overview numbers lent members given peers slice is same by also are
    told = (
      peers,
      subst (λ (l : List LastCall). AreLines IsPeerJson l peers) is are,
      told ∙ (ap (λ (m : List ℕ). status_json overview m slice) (same ∙ by)
          ∙ ap (status_json overview (members_text numbers)) also),
    )
status-told items (Err why) overview numbers lent members given peers slice is same by also are
    told = tt

-- the page, as an answer
pub answer-told : {A : Type 0} (items : A → List ℕ) (result : Result A AllocError)
    (head_only : Bool) (IsPage : List ℕ → Type 0) (page slice : List ℕ) → slice ≡ page
    → IsPage page → IfOk result (λ text. items text ≡ answer_text Json slice head_only)
    → IfOk result (λ text. (page : List ℕ) × IsPage page
    × (items text ≡ answer_text Json page head_only))
answer-told items (Ok text) head_only IsPage page slice same is told =
    (page, is, told ∙ ap (λ (p : List ℕ). answer_text Json p head_only) same)
answer-told items (Err why) head_only IsPage page slice same is told = tt
