-- What a row comes to (`BringsRow`), for bring_row; rows that are brought one after the other
-- (`BringsRows`), for the loop of bring_behind.
use Rattle.std.proofs.Common.{◌≡◌, inl, inr, ℕ, List, [], ◌∷◌, ◌++◌, Result, Ok, Err, IfOk, OnErr, refl, sym, subst}
use Rattle.historian.specs.UserSpaces.{UserSpace}
use Rattle.history_import.specs.Rows.{row_asked, IsGivenOrStarved}
use Rattle.history_import.specs.declared.asked.Import.{Import}
use Rattle.history_import.specs.declared.update.Update.{Update}
use Rattle.history_import.specs.declared.row_end.RowEnd.{RowEnd}
use Rattle.ua_client.specs.declared.fault.ClientFault.{ClientFault}
use Rattle.ua_client.specs.Talking.{SendsPart, message_of}
use Rattle.remote_import.specs.Bringing.{SessionState, BringsRow, BringsRows, IsAnswered, LeavesUnanswered, row_request}

-- one row more
pub brings-more : (seen : UserSpace) (asked : Import) (rows : List (List (List ℕ)))
    (ends : List RowEnd) (fields : List (List ℕ)) (end : RowEnd) (a b c : SessionState)
    → BringsRows seen asked rows ends a b → BringsRow seen asked fields end b c
    → BringsRows seen asked (rows ++ fields ∷ []) (ends ++ end ∷ []) a c
brings-more seen asked [] [] fields end a b c same row =
    (c, subst (λ s. BringsRow seen asked fields end s c) same row, refl)
brings-more seen asked [] (first ∷ ends) fields end a b c before row = absurd before
brings-more seen asked (first ∷ rows) [] fields end a b c before row = absurd before
brings-more seen asked (first ∷ rows) (told ∷ ends) fields end a b c (m, one, rest) row =
    (m, one, brings-more seen asked rows ends fields end m b c rest row)

-- the fields of a row ask for this update
given : (seen : UserSpace) (fields : List (List ℕ)) (update : Update)
    → IsGivenOrStarved (row_asked seen fields) (Ok update) → row_asked seen fields ≡ Ok update
given seen fields update (inl is) = sym is
given seen fields update (inr starved) = absurd cc

-- what a row came to, by what it asks for
abbrev RowBy : Import → RowEnd → (old new : SessionState) → Result Update RowEnd → Type 0
RowBy asked end old new judged = elim judged [
  | Ok update ↦ IsAnswered asked update end old new
  | Err why ↦ (new ≡ old) × (end ≡ why)
]

-- what they ask for was sent and answered
pub row-answered : (seen : UserSpace) (asked : Import) (fields : List (List ℕ)) (update : Update)
    (old new : SessionState) (result : Result RowEnd ClientFault)
    → IsGivenOrStarved (row_asked seen fields) (Ok update)
    → IfOk result (λ end. IsAnswered asked update end old new)
    → IfOk result (λ end. BringsRow seen asked fields end old new)
row-answered seen asked fields update old new (Ok end) is answered =
    inr (subst (RowBy asked end old new) (sym (given seen fields update is)) answered)
row-answered seen asked fields update old new (Err fault) is answered = tt

-- what they ask for was sent in part at most
pub row-broken : (seen : UserSpace) (asked : Import) (fields : List (List ℕ)) (update : Update)
    (old new : SessionState) (result : Result RowEnd ClientFault)
    → IsGivenOrStarved (row_asked seen fields) (Ok update)
    → OnErr result (SendsPart old.flow new.flow
    (message_of old.client (row_request old.client asked update)))
    → OnErr result (LeavesUnanswered seen asked fields old new)
row-broken seen asked fields update old new (Ok end) is part = tt
row-broken seen asked fields update old new (Err fault) is part =
    (update, given seen fields update is, part)

-- they ask for nothing, or memory to read them was wanting
pub row-unsent : (seen : UserSpace) (asked : Import) (fields : List (List ℕ)) (end : RowEnd)
    (s : SessionState) → IsGivenOrStarved (row_asked seen fields) (Err end)
    → BringsRow seen asked fields end s s
row-unsent seen asked fields end s (inl is) =
    inr (subst (RowBy asked end s s) is (refl, refl))
row-unsent seen asked fields end s (inr starved) = inl (refl, cc)
