-- Last calls, and the rows of peers.
use Rattle.std.proofs.Common.{◌≡◌, ℕ, ◌+◌, ◌<◌, List, [], ◌∷◌, ◌++◌, map, take, get_or, length, sym, ap, ◌∙◌, subst}
use Rattle.std.proofs.lemmas.List.{take_more, map-append}
use Rattle.std.specs.Prelude.{is_ok, if◌then◌else◌, None, Some, Result, Ok, Err, IfOk, OnOk}
use Rattle.std.specs.declared.alloc.AllocError.{AllocError}
use Rattle.ua_settings.specs.declared.peers.PeerCall.{PeerCall}
use Rattle.history_report.specs.Paging.{IsPut}
use Rattle.history_report.specs.Reports.{AreLines}
use Rattle.web_page.specs.Calls.{AreCallCells, IsCallRow, IsEndTime, call_line, end_cells, uncalled}
use Rattle.web_page.specs.Front.{ArePeers, below_columns}
use Rattle.web_page.specs.declared.calls.CallEnd.{CallEnd}
use Rattle.web_page.specs.declared.calls.LastCall.{LastCall}

-- one peer more
pub uncalled-more : (peers : List PeerCall) (i : ℕ) (d : PeerCall) (calls new : List LastCall)
    (address : List ℕ) → i < length peers → calls ≡ map uncalled (take i peers)
    → address ≡ (get_or peers i d).address
    → new ≡ calls ++ record { address = address; end = None } ∷ []
    → new ≡ map uncalled (take (i + 1) peers)
uncalled-more peers i d calls new address lt so_far is same =
    same ∙ (ap (λ (l : List ℕ). calls ++ record { address = l; end = None } ∷ []) is
    ∙ (ap (λ (l : List LastCall). l ++ uncalled (get_or peers i d) ∷ []) so_far
    ∙ (sym (map-append uncalled (take i peers) (get_or peers i d ∷ []))
    ∙ ap (map uncalled) (sym (take_more peers i d lt)))))

-- the cells of a call that ended
pub end-told : {A : Type 0} (items : A → List ℕ) (result : Result A AllocError) (end : CallEnd)
    (time slice : List ℕ) → slice ≡ time → IsEndTime end time
    → IfOk result (λ cells. items cells ≡ end_cells end slice)
    → IfOk result (λ cells. AreCallCells (Some end) (items cells))
end-told items (Ok cells) end time slice same is told = (time, is, told ∙ ap (end_cells end) same)
end-told items (Err why) end time slice same is told = tt

-- the row of a peer
pub row-told : {A : Type 0} (items : A → List ℕ) (result : Result A AllocError) (call : LastCall)
    (address cells slice : List ℕ) → address ≡ call.address → slice ≡ cells
    → AreCallCells call.end cells → IfOk result (λ row. items row ≡ call_line address slice)
    → IfOk result (λ row. IsCallRow call (items row))
row-told items (Ok row) call address cells slice is same are told =
    let as_given = ap (λ (a : List ℕ). call_line a slice) is in
    (cells, are, told ∙ (as_given ∙ ap (call_line call.address) same))
row-told items (Err why) call address cells slice is same are told = tt

-- the peers
pub peers-told : {A : Type 0} (items : A → List ℕ) (result : Result A AllocError)
    (calls lent : List LastCall) (rows slice : List ℕ) → lent ≡ calls → slice ≡ rows
    → AreLines IsCallRow lent rows → IfOk result (λ text. items text ≡ below_columns slice)
    → IfOk result (λ text. ArePeers calls (items text))
peers-told items (Ok text) calls lent rows slice is same are told = (
  rows,
  subst (λ (l : List LastCall). AreLines IsCallRow l rows) is are,
  told ∙ ap below_columns same,
)
peers-told items (Err why) calls lent rows slice is same are told = tt

-- a page is put behind a text
pub page-put : (result : Result (Unit {0}) AllocError) (IsPage : List ℕ → Type 0)
    (old page slice new : List ℕ) → slice ≡ page → IsPage page
    → new ≡ (if is_ok result then old ++ slice else old) → OnOk result (IsPut old new IsPage)
page-put (Ok done) IsPage old page slice new same is puts =
    (page, puts ∙ ap (λ (l : List ℕ). old ++ l) same, is)
page-put (Err why) IsPage old page slice new same is puts = tt
