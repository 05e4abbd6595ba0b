-- Names for parts of the definitions in specs/Telling, for the lemmas on these parts.
use Rattle.std.proofs.Common.{◌≡◌, ◌≤◌, ◌<◌, ◌+◌, ◌-◌, ℕ, Bool, true, false, List, [], ◌++◌, length, take, codes, cond, Some, None, Ok, Err, inl, inr, refl, ap, subst, ◌∙◌, append_assoc, arith}
use Rattle.std.proofs.lemmas.Bool.{le-leb}
use Rattle.std.proofs.lemmas.List.{length-append}
use Rattle.std.specs.Fmt.{decimal}
use Rattle.std.specs.Fmt.Cut.{cut_to, dots, floor_char_boundary}
use Rattle.std.specs.Prelude.{◌↔◌, ◌⊎◌, ◌≢◌, Option, Result, OnOk, OnErr, IsTrue, slice_get}
use Rattle.std.specs.Result.{result_err}
use Rattle.std.specs.Io.KnownBytes.{Appends}
use Rattle.counted_io.specs.Bytes.{AppendsPart, counted}
use Rattle.counted_io.specs.Tally.{Tally}
use Rattle.counted_io.specs.declared.fault.ServeFault.{ServeFault}
use Rattle.ua_peers.specs.declared.calling.SyncFault.{SyncFault}
use Rattle.ua_server.specs.declared.log.ErrorLog.{ErrorLog}
use Rattle.ua_server.specs.declared.program.ProgramFault.{ProgramFault}
use Rattle.ua_server.specs.declared.program.ProgramFault.TheVariants.{Line, File, Settings, Store, BadHex, Address, DoorAddress, DoorNetwork, PeerAddress, WebAddress, StoreBroken, Connection, Call, Exchange, Peer, NumberTwice, BadOption, NoText, BadUser, NoStore, NoRows, NoHeader, UnreadRows, RowsRefused, Server}
use Rattle.ua_client.specs.declared.fault.ClientFault.TheVariants as client
use Rattle.ua_server.specs.Telling.{Known, words_of, number_told, numbered, fault_text, failed_text, outcome_text, call_lines, told_line, place_line, KeepsLast, LogsCall, LogsLine}

-- the text of a fault without a number, and of one with it
pub text-without : (fault : ProgramFault) → number_told fault ≡ None
    → fault_text fault ≡ words_of fault
text-without fault e = ap (λ (o : Option ℕ).
    elim o [ None ↦ words_of fault | Some n ↦ numbered (words_of fault) n ]) e

pub text-with : (fault : ProgramFault) (number : ℕ) → number_told fault ≡ Some number
    → fault_text fault ≡ numbered (words_of fault) number
text-with fault number e = ap (λ (o : Option ℕ).
    elim o [ None ↦ words_of fault | Some n ↦ numbered (words_of fault) n ]) e

-- the words of a fault that has a number are short
pub short-words : (fault : ProgramFault) (number : ℕ) → number_told fault ≡ Some number
    → length (words_of fault) ≤ 40
short-words (Line fault) number e = absurd cc
short-words File number e = absurd cc
short-words (Settings fault place) number e = omega arith
short-words (Store fault) number e = omega arith
short-words BadHex number e = absurd cc
short-words Address number e = absurd cc
short-words DoorAddress number e = absurd cc
short-words (DoorNetwork place) number e = omega arith
short-words (PeerAddress place) number e = omega arith
short-words WebAddress number e = absurd cc
short-words StoreBroken number e = absurd cc
short-words (Connection fault) number e = omega arith
short-words (Call fault) number e = omega arith
short-words (Exchange fault) number e = omega arith
short-words (Peer told) number e = omega arith
short-words (NumberTwice told) number e = omega arith
short-words (BadOption fault) number e = absurd cc
short-words NoText number e = absurd cc
short-words BadUser number e = absurd cc
short-words NoStore number e = absurd cc
short-words NoRows number e = absurd cc
short-words NoHeader number e = absurd cc
short-words UnreadRows number e = absurd cc
short-words (RowsRefused rows) number e = omega arith
short-words (Server (client.Connection fault)) number e = omega arith
short-words (Server (client.Refused status)) number e = omega arith
short-words (Server client.Format) number e = absurd cc
short-words (Server client.Closed) number e = absurd cc
short-words (Server client.TooLarge) number e = absurd cc
short-words (Server client.OutOfMemory) number e = absurd cc

-- what has room isn't cut
cut-fits : (room : ℕ) (text : List ℕ) → length text ≤ room → cut_to room text ≡ text
unfolding cut_to
cut-fits room text h =
    ap (λ (b : Bool). cond b text (take (floor_char_boundary text (room - 3)) text ++ dots room))
    (le-leb (length text) room h)

-- words and a number that are put one behind the other where there is room for all of them
pub numbered-text : (t0 t1 t2 t3 t4 words digits : List ℕ) (n : ℕ) → t0 ≡ [] → length words ≤ 40
    → digits ≡ decimal n → length digits ≤ 40
    → (length t0 + 40 < 100 → t1 ≡ t0 ++ cut_to 40 words)
    → (length t1 + 2 < 100 → t2 ≡ t1 ++ cut_to 2 (codes " ("))
    → (length t2 + 40 < 100 → t3 ≡ t2 ++ cut_to 40 digits)
    → (length t3 + 1 < 100 → t4 ≡ t3 ++ cut_to 1 (codes ")"))
    → t4 ≡ numbered words n
numbered-text t0 t1 t2 t3 t4 words digits n none short is few one two three four =
    let left = codes " (" in
    let first : t1 ≡ words =
    one (omega (arith, ap length none)) ∙ (ap (λ (l : List ℕ). l ++ cut_to 40 words) none
    ∙ cut-fits 40 words short) in
    let second : t2 ≡ words ++ left =
    two (omega (arith, ap length first, short))
    ∙ (ap (λ (l : List ℕ). l ++ cut_to 2 left) first
    ∙ ap (λ (l : List ℕ). words ++ l) (cut-fits 2 left (omega arith))) in
    let third : t3 ≡ (words ++ left) ++ decimal n =
    three (omega (arith, ap length second, length-append words left, short))
    ∙ (ap (λ (l : List ℕ). l ++ cut_to 40 digits) second
    ∙ ap (λ (l : List ℕ). (words ++ left) ++ l) (cut-fits 40 digits few ∙ is)) in
    let fourth : t4 ≡ ((words ++ left) ++ decimal n) ++ codes ")" =
    four (omega (
      arith,
      ap length third,
      length-append (words ++ left) (decimal n),
      length-append words left,
      ap length is,
      few,
      short,
    ))
    ∙ (ap (λ (l : List ℕ). l ++ cut_to 1 (codes ")")) third
    ∙ ap (λ (l : List ℕ). ((words ++ left) ++ decimal n) ++ l)
    (cut-fits 1 (codes ")") (omega arith))) in
    fourth

-- a number between two texts, where there is room for all of them
pub between-text : (left right t0 t1 t2 t3 digits : List ℕ) (n : ℕ) → length left ≤ 40
    → length right ≤ 10 → t0 ≡ [] → digits ≡ decimal n → length digits ≤ 40
    → (length t0 + 40 < 100 → t1 ≡ t0 ++ cut_to 40 left)
    → (length t1 + 40 < 100 → t2 ≡ t1 ++ cut_to 40 digits)
    → (length t2 + 10 < 100 → t3 ≡ t2 ++ cut_to 10 right)
    → t3 ≡ left ++ (decimal n ++ right)
between-text left right t0 t1 t2 t3 digits n short brief none is few one two three =
    let first : t1 ≡ left =
    one (omega (arith, ap length none)) ∙ (ap (λ (l : List ℕ). l ++ cut_to 40 left) none
    ∙ cut-fits 40 left short) in
    let second : t2 ≡ left ++ decimal n =
    two (omega (arith, short, ap length first))
    ∙ (ap (λ (l : List ℕ). l ++ cut_to 40 digits) first
    ∙ ap (λ (l : List ℕ). left ++ l) (cut-fits 40 digits few ∙ is)) in
    three (omega (arith, short, ap length second, length-append left (decimal n), ap length is, few))
    ∙ (ap (λ (l : List ℕ). l ++ cut_to 10 right) second
    ∙ (ap (λ (l : List ℕ). (left ++ decimal n) ++ l) (cut-fits 10 right brief)
    ∙ append_assoc left (decimal n) right))

-- a piece that fits was put behind what was written, whose length is known
grown : (room limit most : ℕ) (old new piece whole : List ℕ) → old ≡ whole
    → length whole ≤ most → length piece ≤ room → most + room < limit
    → (length old + room < limit → new ≡ old ++ cut_to room piece)
    → (new ≡ whole ++ piece) × (length (whole ++ piece) ≤ most + room)
grown room limit most old new piece whole is short few free says = (
  says (omega (arith, ap length is, short, free))
      ∙ (ap (λ (l : List ℕ). l ++ cut_to room piece) is
      ∙ ap (λ (l : List ℕ). whole ++ l) (cut-fits room piece few)),
  omega (arith, length-append whole piece, short, few),
)

-- two numbers between three texts
pub two-numbers : (left middle right t0 t1 t2 t3 t4 t5 first second : List ℕ) (m n : ℕ)
    → length left ≤ 40 → length middle ≤ 40 → length right ≤ 30 → t0 ≡ [] → first ≡ decimal m
    → length first ≤ 40 → second ≡ decimal n → length second ≤ 40
    → (length t0 + 40 < 200 → t1 ≡ t0 ++ cut_to 40 left)
    → (length t1 + 40 < 200 → t2 ≡ t1 ++ cut_to 40 first)
    → (length t2 + 40 < 200 → t3 ≡ t2 ++ cut_to 40 middle)
    → (length t3 + 40 < 200 → t4 ≡ t3 ++ cut_to 40 second)
    → (length t4 + 30 < 200 → t5 ≡ t4 ++ cut_to 30 right)
    → t5 ≡ left ++ (decimal m ++ (middle ++ (decimal n ++ right)))
two-numbers
    left middle right t0 t1 t2 t3 t4 t5 first second m n short brief few none is fits also suits
    one two three four five =
    let a = grown 40 200 0 t0 t1 left [] none (omega arith) short (omega arith) one in
    let b = grown 40 200 40 t1 t2 first left a.0 a.1 fits (omega arith) two in
    let c = grown 40 200 80 t2 t3 middle (left ++ first) b.0 b.1 brief (omega arith) three in
    let most = (left ++ first) ++ middle in
    let d = grown 40 200 120 t3 t4 second most c.0 c.1 suits (omega arith) four in
    let e = grown 30 200 160 t4 t5 right (most ++ second) d.0 d.1 few (omega arith) five in
    e.0 ∙ (append_assoc most second right
    ∙ (append_assoc (left ++ first) middle (second ++ right)
    ∙ (append_assoc left first (middle ++ (second ++ right))
    ∙ (ap (λ (l : List ℕ). left ++ (l ++ (middle ++ (second ++ right)))) is
    ∙ ap (λ (l : List ℕ). left ++ (decimal m ++ (middle ++ (l ++ right)))) also))))

-- where settings are refused
abbrev pub place_of : ProgramFault → Option (List ℕ)
place_of fault = elim fault [ Settings fault place ↦ place | _ ↦ None ]

-- the second line of what is told of a fault
abbrev pub second_line : ProgramFault → List ℕ
second_line fault = elim fault [ Settings cause (Some place) ↦ told_line place | _ ↦ [] ]

pub second-line : (fault : ProgramFault) → place_line (place_of fault) ≡ second_line fault
second-line (Line fault) = refl
second-line File = refl
second-line (Settings fault None) = refl
second-line (Settings fault (Some place)) = refl
second-line (Store fault) = refl
second-line BadHex = refl
second-line Address = refl
second-line DoorAddress = refl
second-line (DoorNetwork number) = refl
second-line (PeerAddress number) = refl
second-line WebAddress = refl
second-line StoreBroken = refl
second-line (Connection fault) = refl
second-line (Call fault) = refl
second-line (Exchange fault) = refl
second-line (Peer number) = refl
second-line (NumberTwice number) = refl
second-line (BadOption fault) = refl
second-line NoText = refl
second-line BadUser = refl
second-line NoStore = refl
second-line NoRows = refl
second-line NoHeader = refl
second-line UnreadRows = refl
second-line (RowsRefused number) = refl
second-line (Server fault) = refl

-- a line that was written, or a first part of it
pub line-logged : {W : Type 0} (contents : W → Option (List ℕ)) (old new : Tally W)
    (result : Result (Unit {0}) ServeFault) (line : List ℕ)
    → OnOk result (Appends (contents old.inner) (contents new.inner) line)
    → OnOk result (new.faults ≡ old.faults)
    → OnErr result (AppendsPart (contents old.inner) (contents new.inner) line)
    → OnErr result (new.faults ≡ counted old.faults) → LogsLine contents old new line
line-logged contents old new (Ok done) line ok kept part write = inl (ok, kept)
line-logged contents old new (Err fault) line ok kept part write = inr (part, write)

-- what a test denies
pub denied : (b : Bool) (P : Type 0) → (IsTrue b ↔ P) → b ≡ false → P → ⊥
denied true P iff e p = absurd cc
denied false P iff e p = let so = iff.1 p in cc

-- how a call ended, where the last one ended otherwise
pub call-logged : {E C : Type 0} (contents : Known E) (old new : ErrorLog E C) (callee : ℕ)
    (address : List ℕ) (outcome : Result (Unit {0}) SyncFault) (fault : Option SyncFault)
    → fault ≡ result_err outcome → (slice_get old.calls callee ≢ Some fault)
    → new ≡ record old { errors = new.errors; calls = new.calls }
    → KeepsLast old.calls new.calls callee fault
    → LogsLine contents old.errors new.errors (call_lines address (outcome_text fault))
    → LogsCall contents old callee address outcome new
call-logged {E} {C} contents old new callee address outcome fault e differs set keeps line =
    let P : Option SyncFault → Type 0 = λ f.
    ((slice_get old.calls callee ≡ Some f) × (new ≡ old))
    ⊎ ((slice_get old.calls callee ≢ Some f)
    × (new ≡ record old { errors = new.errors; calls = new.calls })
    × KeepsLast old.calls new.calls callee f
    × LogsLine contents old.errors new.errors (call_lines address (outcome_text f))) in
    subst P e (inr (differs, set, keeps, line))
