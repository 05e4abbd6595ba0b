-- How the last calls of peers ended, and how that is told.
use Rattle.std.specs.Prelude.{◌≡◌, ℕ, ℤ, List, ◌++◌, set, slice_get, codes, Option, None, Some}
use Rattle.std.specs.Fmt.{decimal}
use Rattle.ua_settings.specs.Settings.{SettingsValues}
use Rattle.ua_settings.specs.declared.peers.PeerCall.{PeerCall}
use Rattle.history_text.specs.Times.{IsTimeText}
use Rattle.history_text.specs.declared.times.Time.{Time}
use Rattle.history_report.specs.Html.{data_cell}
use Rattle.web_page.specs.declared.calls.CallCause.{CallCause}
use Rattle.web_page.specs.declared.calls.CallCause.TheVariants.{Connection, Exchange}
use Rattle.web_page.specs.declared.calls.CallEnd.{CallEnd}
use Rattle.web_page.specs.declared.calls.LastCall.{LastCall}
use Rattle.web_page.specs.declared.calls.Overview.{Overview as Lent}

-- ---- what is kept

-- a peer of the settings of which no call ended yet
abbrev pub uncalled : PeerCall → LastCall
uncalled peer = record { address = peer.address; end = None }

-- after a call of the peer of this number that ended so: its entry tells that, all others stay
abbrev pub after_call : (callee : ℕ) → CallEnd → List LastCall → List LastCall
after_call callee end calls = elim (slice_get calls callee) [
  | None ↦ calls
  | Some call ↦ set calls callee (record call { end = Some end })
]

-- what pages tell of a server beside what its archive holds: what it is set to, how its last calls
-- of peers ended, how many connections there are, and the time
pub record Overview : Type 0 where
  pub settings : SettingsValues
  pub calls : List LastCall
  pub connections : ℕ
  pub now : ℤ

-- the overview whose parts are borrowed so
abbrev pub overview_of : Lent → Overview
overview_of lent = record {
  settings = lent.settings.now;
  calls = lent.calls.now;
  connections = lent.connections;
  now = lent.now;
}

-- ---- how a call's end is told

-- the moment of these ticks
abbrev pub tick_time : (ticks : ℤ) → Time
tick_time ticks = record { ticks = ticks; pico = 0 }

-- a text says when a call ended
abbrev pub IsEndTime : CallEnd → List ℕ → Type 0
IsEndTime end text = IsTimeText (tick_time end.at) text

-- words, and a number after them in brackets
abbrev pub numbered_words : (words : List ℕ) → (number : ℕ) → List ℕ
numbered_words words number = words ++ codes " (" ++ decimal number ++ codes ")"

-- why a call didn't come to its end, in words and by a number
abbrev pub cause_words : CallCause → List ℕ
cause_words cause = elim cause [
  | Connection number ↦ numbered_words (codes "connection ended") number
  | Exchange number ↦ numbered_words (codes "exchange ended") number
]

-- how a call ended, in words
abbrev pub outcome_words : Option CallCause → List ℕ
outcome_words given = elim given [
  | None ↦ codes "all was exchanged"
  | Some cause ↦ cause_words cause
]

-- how a call ended, as cells: when, by this text, in which words, and how many records it moved
abbrev pub end_cells : CallEnd → (time : List ℕ) → List ℕ
end_cells end time =
    data_cell time ++ data_cell (outcome_words end.cause) ++ data_cell (decimal end.learned)
    ++ data_cell (decimal end.sent)

-- these are the cells of a last call, empty ones where there was none
abbrev pub AreCallCells : Option CallEnd → List ℕ → Type 0
AreCallCells last cells = elim last [
  | None ↦ cells ≡ codes "<td></td><td></td><td></td><td></td>"
  | Some end ↦ (time : List ℕ) × IsEndTime end time × (cells ≡ end_cells end time)
]

-- the row of a peer at this address, with these cells of its last call
abbrev pub call_line : (address cells : List ℕ) → List ℕ
call_line address cells = codes "<tr>" ++ data_cell address ++ cells ++ codes "</tr>\n"

-- the row of a peer with its last call
abbrev pub IsCallRow : LastCall → List ℕ → Type 0
IsCallRow call row =
    (cells : List ℕ) × AreCallCells call.end cells × (row ≡ call_line call.address cells)
