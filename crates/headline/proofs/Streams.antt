-- What comes over connections is frames that were written.
use Rattle.std.proofs.Common.{◌≡◌, ◌≢◌, ◌⊎◌, ℕ, List, [], ◌∷◌, ◌++◌, take, drop, length, Option, Some, None, Result, Ok, refl, sym, ap, ◌∙◌, subst, append_assoc, inl, inr}
use Rattle.std.specs.List.{AllByRecursion, flat_map}
use Rattle.std.proofs.Math.Seq.{take-append_seam, drop-append_seam}
use Rattle.records.specs.Lists.{Has}
use Rattle.exchange.specs.declared.fault.ExchangeFault.{ExchangeFault}
use Rattle.exchange.specs.declared.message.FrameKind.{FrameKind}
use Rattle.exchange.specs.Messages.{Party, Header}
use Rattle.exchange.specs.Frames.{frame_header}
use Rattle.exchange.specs.Streams.{FrameContent, IsFrame, AreFrames}
use Rattle.exchange.proofs.StreamLemmas.{cut_append}
use Rattle.ua_peers.specs.Wires.{IsStartOf}
use Rattle.headline.specs.Plants.{IsFrameOf, AreUnforged, AreWholeFrames, CameOver}

-- a frame of a first part of some bytes is one of the bytes
pub frames_in : (bytes later rest : List ℕ) (frames : List FrameContent)
    → AreFrames bytes frames rest → AreFrames (bytes ++ later) frames (rest ++ later)
frames_in bytes later rest [] are = ap (λ (l : List ℕ). l ++ later) are
frames_in bytes later rest (piece ∷ pieces) are = (
  are.0,
  are.1 ++ later,
  ap (λ (l : List ℕ). l ++ later) are.2 ∙ append_assoc are.0 are.1 later,
  are.3,
  frames_in are.1 later rest pieces are.4,
)

pub frame_in : (frame : FrameContent) (made said : List ℕ) → IsStartOf made said
    → IsFrameOf frame made → IsFrameOf frame said
frame_in frame made said part is = (
  is.0,
  is.1 ++ part.0,
  subst (λ (l : List ℕ). AreFrames l is.0 (is.1 ++ part.0)) (sym part.1)
      (frames_in made part.0 is.1 is.0 is.2),
  is.3,
)

-- ---- what stands first

header_in : (piece : FrameContent) (chunk more : List ℕ) → IsFrame piece chunk
    → frame_header (chunk ++ more) ≡ Ok (Some (record { kind = piece.kind; size = length chunk }))
header_in piece chunk more is = cut_append chunk more (some (frame_header chunk) is.whole)
    ∙ is.whole
  where
    some : (r : Result (Option Header) ExchangeFault)
        → r ≡ Ok (Some (record { kind = piece.kind; size = length chunk })) → r ≢ Ok None
    some r e none = let x = sym e ∙ none in cc

-- of two frames that stand first, both are the first
same_first : (p q : FrameContent) (chunk other more later : List ℕ) → IsFrame p chunk
    → IsFrame q other → chunk ++ more ≡ other ++ later → (p ≡ q) × (more ≡ later)
same_first p q chunk other more later is is' e =
    let a : Header = record { kind = p.kind; size = length chunk } in
    let b : Header = record { kind = q.kind; size = length other } in
    let same : ◌≡◌ {A = Result (Option Header) ExchangeFault} (Ok (Some a)) (Ok (Some b)) =
    sym (header_in p chunk more is) ∙ (ap frame_header e ∙ header_in q other later is') in
    let header : a ≡ b = cc in
    let count : length chunk ≡ length other = ap (λ (h : Header). h.size) header in
    let chunks : chunk ≡ other = sym (take-append_seam chunk more)
    ∙ (ap (take (length chunk)) e ∙ (ap (λ n. take n (other ++ later)) count
    ∙ take-append_seam other later)) in
    let bodies : p.body ≡ q.body = sym is.body ∙ (ap (drop 8) chunks ∙ is'.body) in (
      ap (λ (k : FrameKind). let r : FrameContent = record { kind = k; body = p.body } in r)
          (ap (λ (h : Header). h.kind) header)
          ∙ ap (λ (l : List ℕ). let r : FrameContent = record { kind = q.kind; body = l } in r)
          bodies,
      sym (drop-append_seam chunk more) ∙ (ap (drop (length chunk)) e
          ∙ (ap (λ n. drop n (other ++ later)) count ∙ drop-append_seam other later)),
    )

-- ---- what was written turn by turn

-- a frame of whole frames and what follows is one of either
of_either : (frame : FrameContent) (whole later : List ℕ) (fs : List FrameContent)
    → AreFrames whole fs [] → IsFrameOf frame (whole ++ later)
    → Has fs frame ⊎ IsFrameOf frame later
of_either frame whole later [] are is =
    inr (subst (λ (l : List ℕ). IsFrameOf frame (l ++ later)) are is)
of_either frame whole later (f ∷ fs) are is =
    go (λ more. of_either frame are.1 later fs are.4 more) is.0 is.2 is.3
  where
    go : (IsFrameOf frame (are.1 ++ later) → Has fs frame ⊎ IsFrameOf frame later)
        → (frames : List FrameContent) → AreFrames (whole ++ later) frames is.1
        → Has frames frame → Has (f ∷ fs) frame ⊎ IsFrameOf frame later
    go rest_of [] all h = absurd h
    go rest_of (piece ∷ pieces) all h =
        let one = same_first piece f all.0 are.0 all.1 (are.1 ++ later) all.3 are.3
        (sym all.2 ∙ (ap (λ (l : List ℕ). l ++ later) are.2 ∙ append_assoc are.0 are.1 later)) in
        elim h [
          | inl e ↦ inl (inl (sym one.0 ∙ e))
          | inr rest ↦ elim (rest_of (
            pieces,
            is.1,
            subst (λ (l : List ℕ). AreFrames l pieces is.1) one.1 all.4,
            rest,
          )) [ inl k ↦ inl (inr k) | inr k ↦ inr k ]
        ]

-- it was written
abbrev WasWritten : List (List ℕ) → FrameContent → Type 0
WasWritten written frame = (bytes : List ℕ) × Has written bytes × IsFrameOf frame bytes

of_turns : (written : List (List ℕ)) (frame : FrameContent) (turns : List (List ℕ)) (last : List ℕ)
    → AllByRecursion (λ made. Has written made × AreWholeFrames made) turns → Has written last
    → IsFrameOf frame (flat_map (λ made. made) turns ++ last) → WasWritten written frame
of_turns written frame [] last whole there is = (last, there, is)
of_turns written frame (made ∷ turns) last whole there is =
    let rest : List ℕ = flat_map (λ made. made) turns ++ last in
    elim (of_either frame made rest whole.0.1.0 whole.0.1.1
    (subst (IsFrameOf frame) (append_assoc made (flat_map (λ made. made) turns) last) is)) [
      | inl h ↦ (made, whole.0.0, (whole.0.1.0, [], whole.0.1.1, h))
      | inr later ↦ of_turns written frame turns last whole.1 there later
    ]

all_unforged : (written : List (List ℕ)) (p : Party) (frames : List FrameContent)
    → ((frame : FrameContent) → Has frames frame → WasWritten written frame)
    → AreUnforged written p frames
all_unforged written p [] was = tt
all_unforged written p (frame ∷ frames) was =
    (inr (was frame (inl refl)), all_unforged written p frames (λ f h. was f (inr h)))

pub stream_unforged : (written : List (List ℕ)) (p : Party) (came rest : List ℕ)
    (frames : List FrameContent) → CameOver written came → AreFrames came frames rest
    → AreUnforged written p frames
stream_unforged written p came rest frames over are =
    all_unforged written p frames (λ frame h. of_turns written frame over.turns over.last over.whole
    over.there (frame_in frame came (flat_map (λ made. made) over.turns ++ over.last) over.part
    (frames, rest, are, h)))
