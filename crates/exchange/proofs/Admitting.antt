-- Which records are taken, and the frame that stands first: for `judge_first` and `peek`.
use Rattle.std.proofs.Common.{◌≡◌, ◌∙◌, ◌≤◌, ◌-◌, ℕ, ℤ, List, [], ◌∷◌, take, drop, true, Option, None, Some, Result, Ok, Err, refl, sym, ap, arith}
use Rattle.std.specs.Option.{option_map_or}
use Rattle.std.proofs.lemmas.Bool.{false≢true}
use Rattle.std.proofs.lemmas.List.{drop-take}
use Rattle.records.specs.declared.record.Record.{Record}
use Rattle.exchange.specs.declared.fault.ExchangeFault.{ExchangeFault}
use Rattle.exchange.specs.declared.message.Header.{Header}
use Rattle.exchange.specs.declared.message.Message.{Message}
use Rattle.exchange.specs.declared.message.Party.{Party}
use Rattle.exchange.specs.Dialogs.{records_in}
use Rattle.exchange.specs.Frames.{frame_header, message_at}
use Rattle.exchange.specs.Streams.{FrameContent}
use Rattle.exchange.specs.declared.admission.Bound.{Bound}
use Rattle.exchange.specs.Admissions.{Admission, is_open, all_admitted, message_admitted, first_frame, first_admitted}

-- ---- the frame that stands first

-- the frame that has this header
abbrev framed : List ℕ → Result (Option Header) ExchangeFault → Option FrameContent
framed bytes header = elim header [
  | Ok (Some header) ↦ Some (record {
    kind = header.kind;
    body = drop 8 (take header.size bytes);
  })
  | _ ↦ None
]

pub front : (waiting piece : List ℕ) (header : Header) → Ok (Some header) ≡ frame_header piece
    → 12 ≤ header.size → piece ≡ waiting
    → (let frame : FrameContent = record {
      kind = header.kind;
      body = take (header.size - 8) (drop 8 piece);
    } in Some frame) ≡ first_frame waiting
front waiting piece header is long same =
    ap (λ (b : List ℕ). let frame : FrameContent = record { kind = header.kind; body = b } in
    Some frame)
    (sym (drop-take 8 (header.size - 8) piece)
    ∙ ap (λ n. drop 8 (take n piece)) (omega (arith, long)))
    ∙ ap (framed piece) is ∙ ap first_frame same

-- ---- where all records are taken

abbrev open_to : ℤ → Admission
open_to time = record { replicas = None; bound = None; ahead = None; time = time }

all_open : (time : ℤ) (rs : List Record) → all_admitted (open_to time) rs ≡ Ok tt
all_open time [] = refl
all_open time (r ∷ rs) = all_open time rs

message_open : (time : ℤ) (m : Result Message ExchangeFault)
    → message_admitted (open_to time) m ≡ Ok tt
message_open time (Ok m) = all_open time (records_in m)
message_open time (Err fault) = refl

frame_open : (time : ℤ) (p : Party) (frame : Option FrameContent)
    → option_map_or (λ frame. message_admitted (open_to time)
    (message_at p frame.kind frame.body)) frame (Ok tt) ≡ Ok tt
frame_open time p None = refl
frame_open time p (Some frame) = message_open time (message_at p frame.kind frame.body)

pub open_takes : (replicas : Option (List ℕ)) (bound : Option Bound) (ahead : Option ℕ) (time : ℤ)
    (p : Party) (waiting : List ℕ)
    → (let a : Admission =
    record { replicas = replicas; bound = bound; ahead = ahead; time = time } in
    is_open a ≡ true → first_admitted a p waiting ≡ Ok tt)
open_takes None None None time p waiting is = frame_open time p (first_frame waiting)
open_takes None None (Some seconds) time p waiting is = absurd (false≢true is)
open_takes None (Some bound) ahead time p waiting is = absurd (false≢true is)
open_takes (Some replicas) bound ahead time p waiting is = absurd (false≢true is)
