-- That what was written is the line of an event, for the calls of a log.
use Rattle.std.proofs.Common.{◌≡◌, ◌∙◌, ℕ, ℤ, Bool, true, false, List, [], ◌∷◌, ◌++◌, Some, inr, refl, sym, ap, subst}
use Rattle.std.specs.declared.net.socket_addr.SocketAddr.{SocketAddr}
use Rattle.std.specs.Prelude.{◌⊎◌, Option}
use Rattle.counted_io.specs.Tally.{Tally}
use Rattle.ua_session.specs.declared.audit.UpdateAudit.{UpdateAudit}
use Rattle.event_lines.specs.Lines.{update_text}
use Rattle.peer_check.specs.declared.comparing.Clash.{Clash}
use Rattle.ua_server.specs.Calls.{PrintsClash}
use Rattle.ua_server.specs.declared.log.ErrorLog.{ErrorLog}
use Rattle.ua_server.specs.declared.log.ClashName.{ClashName}
use Rattle.ua_server.specs.declared.recent.Recent.{Recent}
use Rattle.ua_server.specs.Telling.{KeepsLast, Known, Readings, LogsLine, told_line}
use Rattle.ua_server.specs.Logging.{IsClashTold, IsToldAs, LogsTable, clash_name, LogsTimed, LogsCounted, LogsLimited, LogsUpdates, LogsWhere, Whether, is_second_full, with_left_out, with_told}

-- it was written, by the time that the clock gave
pub timed : {E C : Type 0} (contents : Known E) (gave : Readings C) (event : List ℕ)
    (old new : ErrorLog E C) (clock : C) (errors : Tally E) (at : ℤ)
    → gave old.clock (at ∷ []) clock
    → new ≡ record old { clock = clock; errors = errors }
    → (text : List ℕ) × IsToldAs 0 event at text
    × LogsLine contents old.errors errors (told_line text)
    → LogsTimed contents gave event old new
timed {E} {C} contents gave event old new clock errors at gives is (text, told, line) =
    subst (λ (n : ErrorLog E C). LogsTimed contents gave event old n) (sym is)
    (at, text, gives, told, refl, line)

-- it was counted
pub left-out : {E C : Type 0} (contents : Known E) (gave : Readings C) (event : List ℕ)
    (old new : ErrorLog E C) (clock : C) (at : ℤ) → gave old.clock (at ∷ []) clock
    → is_second_full old.recent at ≡ true
    → new ≡ record old { clock = clock; recent = with_left_out old.recent }
    → LogsLimited contents gave event old new
left-out {E} {C} contents gave event old new clock at gives spent is =
    subst (λ (n : ErrorLog E C). LogsLimited contents gave event old n) (sym is)
    (at, gives, rw spent refl)

-- it was written, since it needn't be counted
pub told-counted : {E C : Type 0} (contents : Known E) (gave : Readings C) (event : List ℕ)
    (old new : ErrorLog E C) (clock : C) (at : ℤ) → gave old.clock (at ∷ []) clock
    → is_second_full old.recent at ≡ false
    → LogsCounted contents event at (record old { clock = clock }) new
    → LogsLimited contents gave event old new
told-counted {E} {C} contents gave event old new clock at gives spent logs =
    let same : clock ≡ new.clock = ap (λ (n : ErrorLog E C). n.clock) (sym logs.2) in (
      at,
      subst (λ (c : C). gave old.clock (at ∷ []) c) same gives,
      rw spent (subst (λ (c : C). LogsCounted contents event at (record old { clock = c }) new) same
          logs),
    )

-- it was written as what anybody may bring about
pub counted : {E C : Type 0} (contents : Known E) (event : List ℕ) (old middle new : ErrorLog E C)
    (recent : Recent) (at : ℤ)
    → (text : List ℕ) × IsToldAs old.recent.left_out event at text
    × LogsLine contents old.errors middle.errors (told_line text)
    → middle ≡ record old { errors = middle.errors } → new ≡ record middle { recent = recent }
    → recent ≡ with_told middle.recent at → LogsCounted contents event at old new
counted {E} {C} contents event old middle new recent at (text, told, line) same is counts =
    subst (λ (n : ErrorLog E C). LogsCounted contents event at old n)
    (sym (is ∙ ap (λ (r : Recent). let m : ErrorLog E C = record middle { recent = r } in m) counts
    ∙ ap (λ (m : ErrorLog E C). let n : ErrorLog E C =
    record m { recent = with_told m.recent at } in n) same))
    (text, told, refl, line)

-- the lines of some of the details, and of one more
pub one-more : {E C : Type 0} (contents : Known E) (gave : Readings C)
    (from : Option SocketAddr) (user : List ℕ) (updates : List UpdateAudit) (update : UpdateAudit)
    (old between new : ErrorLog E C)
    → LogsUpdates contents gave from user updates old between
    → LogsTimed contents gave (update_text from user update) between new
    → LogsUpdates contents gave from user (updates ++ update ∷ []) old new
one-more {E} {C} contents gave from user [] update old between new some one = (
  new,
  subst (λ (b : ErrorLog E C). LogsTimed contents gave (update_text from user update) b new)
      some one,
  refl,
)
one-more contents gave from user (first ∷ updates) update old between new (behind, told, some) one =
    (behind, told, one-more contents gave from user updates update behind between new some one)

-- where events are told
pub where-told : {E C : Type 0} (old new : ErrorLog E C) (so : Type 0) → old.events ≡ true → so
    → LogsWhere old new so
where-told old new so events is =
    subst (λ (b : Bool). Whether b so (new ≡ old)) (sym events) is

-- and where they aren't
pub where-untold : {E C : Type 0} (old new : ErrorLog E C) (so : Type 0) → old.events ≡ false
    → new ≡ old → LogsWhere old new so
where-untold old new so events is =
    subst (λ (b : Bool). Whether b so (new ≡ old)) (sym events) is

-- a table was told, where the last call of that peer ended otherwise
pub table-logged : {E C : Type 0} (contents : Known E) (old new : ErrorLog E C) (callee : ℕ)
    (clash : Clash) (name : Option ClashName) → name ≡ Some (clash_name clash)
    → (IsClashTold old callee name → ⊥)
    → new ≡ record old { errors = new.errors; clashes = new.clashes }
    → KeepsLast old.clashes new.clashes callee name
    → PrintsClash clash (contents old.errors.inner) (contents new.errors.inner)
    → LogsTable contents callee clash old new
table-logged contents old new callee clash name e denies set keeps prints =
    let P : Option ClashName → Type 0 = λ n.
    (IsClashTold old callee n × (new ≡ old))
    ⊎ ((IsClashTold old callee n → ⊥)
    × ((new ≡ record old { errors = new.errors; clashes = new.clashes })
    × KeepsLast old.clashes new.clashes callee n
    × PrintsClash clash (contents old.errors.inner) (contents new.errors.inner))) in
    subst P e (inr (denies, (set, keeps, prints)))
