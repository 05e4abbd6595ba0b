-- What a frame says is what it was made of.
use Rattle.std.proofs.Common.{◌≡◌, ℕ, suc, ◌+◌, ◌-◌, ◌<◌, ◌≤◌, ◌^◌, Bool, true, false, cond, nat_le, nat_lt, List, [], ◌∷◌, ◌++◌, length, take, drop, Some, Result, Ok, Err, refl, sym, ap, ◌∙◌, arith, inl, inr}
use Rattle.std.specs.Prelude.{◌&&◌, ◌==◌, not, if◌then◌else◌}
use Rattle.std.specs.Result.{result_map_both}
use Rattle.std.specs.List.{flat_map, AllByRecursion}
use Rattle.std.specs.Int.{w32}
use Rattle.std.specs.Str.{bytes_eq}
use Rattle.std.proofs.lemmas.Bool.{le-ltb, true≢false, cases_Bool, eq-eqb}
use Rattle.std.proofs.lemmas.Slice.Eq.{bytes_eq-Decides}
use Rattle.std.proofs.lemmas.Bool.Decides.{nat_tests}
use Rattle.ua_binary.proofs.Spelled.{whole_found, whole_only, inside_lawful}
use Rattle.stamp.specs.Limits.{IsReplica}
use Rattle.std.proofs.lemmas.List.{length-append, take_all}
use Rattle.std.proofs.lemmas.Nat.{from_le_bytes-to_le_bytes_4}
use Rattle.stamp.proofs.Lawful.{vector_lawful}
use Rattle.stamp.specs.Vector.{vector}
use Rattle.ua_binary.specs.Format.{◌>>=◌, Format, IsLawful, Reading, ◌▸◌, with_fault, items, whole}
use Rattle.ua_binary.specs.Binary.{unsigned}
use Rattle.ua_binary.proofs.Combined.{byte_lawful, block_lawful, then_lawful, headed_lawful, standing_lawful, passing_lawful, fitting_lawful, raised_lawful, items_lawful}
use Rattle.ua_binary.proofs.Lawful.{u32_lawful}
use Rattle.records.specs.declared.record.Record.{Record}
use Rattle.records.specs.declared.fault.RecordFault.{RecordFault}
use Rattle.records.specs.Spelling.{record_form, record_at, IsRecord, IsLawfulRecord}
use Rattle.records.proofs.Spelled.{record_lawful, record_found, record_only}
use Rattle.exchange.specs.declared.fault.ExchangeFault.{ExchangeFault}
use Rattle.exchange.specs.declared.fault.ExchangeFault.TheVariants.{Frame, PeerFormat, WrongArchive, SelfPeer}
use Rattle.exchange.specs.declared.message.FrameKind.{FrameKind}
use Rattle.exchange.specs.declared.message.FrameKind.TheVariants.{Vector, Records, End}
use Rattle.exchange.specs.declared.message.Party.{Party}
use Rattle.exchange.specs.declared.message.Title.{Title}
use Rattle.exchange.specs.declared.message.Message.{Message}
use Rattle.exchange.specs.declared.message.Message.TheVariants.{Asks, Carries, Ends}
use Rattle.exchange.specs.Batches.{most, longest_frame, records_length, frame_length}
use Rattle.exchange.specs.Frames.{with_frame_fault, title, count, length_prefixed, length_prefixed_record, code, message_at, frame_letters, kind_of, frame_body_of, frame_of, frame_header, checked_sender, IsTitle, HasFrame}
use Rattle.exchange.proofs.FramesParts.{title_fields, title_of}
use Rattle.exchange.specs.Meetings.{checked_title}
use Rattle.exchange.proofs.BatchLemmas.{vector_short}

pub all_push : {X : Type 0} (P : X → Type 0) (xs : List X) (x : X) → AllByRecursion P xs → P x
    → AllByRecursion P (xs ++ x ∷ [])
all_push P [] x all p = (p, tt)
all_push P (y ∷ ys) x all p = (all.0, all_push P ys x all.1 p)

pub all_lawful : (rs : List Record) → AllByRecursion IsRecord rs → AllByRecursion IsLawfulRecord rs
all_lawful [] all = tt
all_lawful (r ∷ rs) all = (all.0.0, all_lawful rs all.1)

-- a record has few bytes
pub record_few : (r : Record) → IsRecord r → length (record_form.canon r) ≤ 1048578
unfolding record_form
record_few r is = is.0.size

-- ---- laws

sender_test : (n : ℕ) → IsReplica n → (nat_le 1 n && nat_le n 64) ≡ true
sender_test n is = grind (arith, nat_tests, is.0, is.1)

pub title_lawful : IsLawful title
unfolding title vector
title_lawful = fitting_lawful IsTitle (λ t is. (
  (
    ((omega arith, refl), refl),
    (
      is.id,
      ((omega (arith, is.sender.1), sender_test t.sender is.sender), is.vector),
    ),
  ),
  refl,
))
    (standing_lawful title_of title_fields (
    then_lawful (passing_lawful (λ n. n == 2) Frame
    (passing_lawful (λ n. not (n == 1)) PeerFormat (raised_lawful (λ _. Frame) byte_lawful))) (
    then_lawful (raised_lawful _ (block_lawful 16)) (
    then_lawful (passing_lawful _ _ (raised_lawful _ byte_lawful))
    (raised_lawful _ vector_lawful)))))

pub count_lawful : IsLawful count
count_lawful = passing_lawful _ _ (raised_lawful _ u32_lawful)

sized_lawful : IsLawful length_prefixed
sized_lawful = headed_lawful length _ (raised_lawful _ u32_lawful)
    (λ n. raised_lawful _ (block_lawful n))

ill_whole : {E A : Type 0} (f : Format E A) (bytes : List ℕ) (e : ExchangeFault)
    → whole Frame (with_frame_fault f) bytes ≡ Err e → e ≡ Frame
ill_whole {E} {A} f bytes e h = go (f.read bytes) h
  where
    test : (b : Bool) (a : A) → cond b (Ok a) (Err Frame) ≡ Err e → e ≡ Frame
    test true a is = absurd cc
    test false a is = cc

    go : (r : Reading E A) → (with_fault (λ _. Frame) r >>= λ a.
        if length a.1 == 0 then Ok a.0 else Err Frame) ≡ Err e → e ≡ Frame
    go (Ok a) is = test (length a.1 == 0) a.0 is
    go (Err fault) is = cc

-- what all of some bytes are read as, by the rules of a record one after the other
pub record_whole : (bytes : List ℕ)
    → whole Frame (with_frame_fault record_form) bytes
    ≡ result_map_both (λ r. r) (λ fault. Frame) (record_at bytes)
record_whole bytes = go (record_at bytes) refl
    (whole Frame (with_frame_fault record_form) bytes) refl
  where
    go : (r : Result Record RecordFault) → record_at bytes ≡ r → (w : Result Record ExchangeFault)
        → whole Frame (with_frame_fault record_form) bytes ≡ w
        → w ≡ result_map_both (λ r. r) (λ fault. Frame) r
    go (Ok r) is w found = sym found
        ∙ whole_only Frame (raised_lawful (λ _. Frame) record_lawful) bytes r
        (record_found bytes r is)
    go (Err f) is (Ok v) found = let none : Err f ≡ Ok v =
        sym is ∙ record_only bytes v (whole_found Frame
        (raised_lawful (λ _. Frame) record_lawful) bytes v found) in absurd cc
    go (Err f) is (Err e) found = ap Err (ill_whole record_form bytes e found)

sized_fits : (r : Record) → IsRecord r → length_prefixed.Fits (record_form.canon r)
unfolding record_form unsigned
sized_fits r is = (omega (arith, is.0.size), refl)

record_itself : (r : Record) → IsRecord r → record_form.Fits r
unfolding record_form
record_itself r is = is

pub framed_lawful : IsLawful length_prefixed_record
unfolding length_prefixed_record
framed_lawful = fitting_lawful IsRecord (λ r is. (record_itself r is, sized_fits r is))
    (inside_lawful Frame sized_lawful (raised_lawful (λ _. Frame) record_lawful))

-- ---- a message is read of its own body

title_fits : (t : Title) → IsTitle t → title.Spells (title.canon t) t
unfolding title vector
title_fits t is = title_lawful.written t is

count_spelled : (n : ℕ) → n ≤ most → count.Spells (count.canon n) n
unfolding unsigned
count_spelled n few = count_lawful.written n (omega (arith, few), grind (arith, nat_tests, few))

code_spelled : (n : ℕ) → n < 2 ^ 32 → code.Spells (code.canon n) n
unfolding unsigned
code_spelled n small = (raised_lawful (λ _. Frame) u32_lawful).written n small

all_fit : (rs : List Record) → AllByRecursion IsRecord rs
    → AllByRecursion length_prefixed_record.Fits rs
unfolding length_prefixed_record record_form
all_fit [] all = tt
all_fit (r ∷ rs) all = (all.0, all_fit rs all.1)

-- what an end writes is what a party that may meet it reads
pub read_own : (p : Party) (m : Message) → HasFrame m → checked_title p m
    → message_at p (kind_of m) (frame_body_of m) ≡ Ok m
read_own p (Asks t) is check = rw (
  whole_only Frame title_lawful (title.canon t) t
      (title_fits t is),
  check,
) refl
read_own p (Carries t rs) is check =
    let head : (title ▸ count).read ((title ▸ count).canon (t, length rs)
    ++ flat_map length_prefixed_record.canon rs)
    ≡ Ok ((t, length rs), flat_map length_prefixed_record.canon rs) =
    (then_lawful title_lawful count_lawful).only _ (t, length rs) _ (
      title.canon t,
      count.canon (length rs),
      refl,
      title_fits t is.0,
      count_spelled (length rs) is.2,
    ) in
    let rest : whole Frame (items (length rs) length_prefixed_record)
    (flat_map length_prefixed_record.canon rs) ≡ Ok rs =
    whole_only Frame (items_lawful (length rs) framed_lawful) _ rs
    ((items_lawful (length rs) framed_lawful).written rs (all_fit rs is.1, refl)) in
    rw (head, check, rest) refl
read_own p (Ends n) is check = rw (whole_only Frame (raised_lawful (λ _. Frame) u32_lawful)
    (code.canon n) n (code_spelled n is)) refl

-- who may not be met
not_met : (q : Party) (t : Title) → ((t.id ≡ q.id) × (t.sender ≡ q.own → ⊥) → ⊥)
    → (f : ExchangeFault) × (checked_sender q t ≡ Err f)
not_met q t none = elim (cases_Bool (bytes_eq t.id q.id)) [
  | inl same ↦ elim (cases_Bool (t.sender == q.own)) [
    | inl own ↦ (SelfPeer, rw (same, own) refl)
    | inr other ↦ absurd (none
        ((bytes_eq-Decides t.id q.id).0 same, λ e. true≢false (sym (eq-eqb _ _ e) ∙ other)))
  ]
  | inr other ↦ (WrongArchive, rw other refl)
]

pub read_other : (q : Party) (t : Title) → IsTitle t → ((t.id ≡ q.id) × (t.sender ≡ q.own → ⊥) → ⊥)
    → (f : ExchangeFault) × (message_at q (kind_of (Asks t)) (frame_body_of (Asks t)) ≡ Err f)
read_other q t is none = let judged = not_met q t none in (
  judged.0,
  rw (whole_only Frame title_lawful (title.canon t) t (title_fits t is), judged.1)
      refl,
)

-- ---- how many bytes it takes

pub title_length : (t : Title) → IsTitle t
    → length (title.canon t) ≡ 18 + length (vector.canon t.vector)
unfolding title
title_length t is =
    let more = length-append t.id (t.sender ∷ vector.canon t.vector) in
    let id = is.id in
    omega (arith, more, id)

framed_length : (r : Record) → length (length_prefixed_record.canon r)
    ≡ 4 + length (record_form.canon r)
unfolding length_prefixed_record unsigned
framed_length r = omega arith

records_bytes : (rs : List Record)
    → length (flat_map length_prefixed_record.canon rs) ≡ records_length rs
records_bytes [] = refl
records_bytes (r ∷ rs) = omega (
  arith,
  length-append (length_prefixed_record.canon r) (flat_map length_prefixed_record.canon rs),
  framed_length r,
  records_bytes rs,
)

count_length : (t : Title) (n : ℕ)
    → length ((title ▸ count).canon (t, n)) ≡ length (title.canon t) + 4
unfolding unsigned
count_length t n = length-append (title.canon t) (count.canon n)

code_length : (n : ℕ) → length (code.canon n) ≡ 4
unfolding unsigned
code_length n = refl

pub body_short : (m : Message) → HasFrame m → length (frame_body_of m) + 8 ≤ longest_frame
body_short (Asks t) is = omega (arith, title_length t is, vector_short t.vector is.vector)
body_short (Carries t rs) is = omega (
  arith,
  length-append ((title ▸ count).canon (t, length rs)) (flat_map length_prefixed_record.canon rs),
  count_length t (length rs),
  title_length t is.0,
  records_bytes rs,
  is.3,
)
body_short (Ends n) is = omega (arith, code_length n)

-- what the size of the whole frame is
pub frame_short : (t : Title) (rs : List Record) (n room : ℕ) → IsTitle t
    → n ≡ length (title.canon t) → room ≡ longest_frame - (n + 12) → records_length rs ≤ room
    → frame_length t.vector rs ≤ longest_frame
frame_short t rs n room is e f fits =
    omega (arith, title_length t is, vector_short t.vector is.vector, e, f, fits)

-- ---- a frame is cut off as it was written

framed_cut : (kind : FrameKind) (body : List ℕ) → 4 ≤ length body → length body + 8 ≤ longest_frame
    → frame_header (frame_letters kind ++ ((unsigned w32).canon (8 + length body) ++ body))
    ≡ Ok (Some (record { kind = kind; size = 8 + length body }))
unfolding frame_header unsigned
framed_cut Vector body some short =
    let size = from_le_bytes-to_le_bytes_4 (8 + length body) (omega (arith, short)) in
    let a : nat_lt (8 + length body) 12 ≡ false = le-ltb _ _ (omega (arith, some)) in
    let b : nat_lt longest_frame (8 + length body) ≡ false = le-ltb _ _ (omega (arith, short)) in
    let n : length (frame_letters Vector ++ ((unsigned w32).canon (8 + length body) ++ body))
    ≡ 8 + length body = omega arith in
    let c : nat_lt (8 + length body) 8 ≡ false = le-ltb _ _ (omega arith) in
    let d : nat_lt (8 + length body) (8 + length body) ≡ false = le-ltb _ _ (omega arith) in
    rw (size, a, b, n, c, d) refl
framed_cut Records body some short =
    let size = from_le_bytes-to_le_bytes_4 (8 + length body) (omega (arith, short)) in
    let a : nat_lt (8 + length body) 12 ≡ false = le-ltb _ _ (omega (arith, some)) in
    let b : nat_lt longest_frame (8 + length body) ≡ false = le-ltb _ _ (omega (arith, short)) in
    let n : length (frame_letters Records ++ ((unsigned w32).canon (8 + length body) ++ body))
    ≡ 8 + length body = omega arith in
    let c : nat_lt (8 + length body) 8 ≡ false = le-ltb _ _ (omega arith) in
    let d : nat_lt (8 + length body) (8 + length body) ≡ false = le-ltb _ _ (omega arith) in
    rw (size, a, b, n, c, d) refl
framed_cut End body some short =
    let size = from_le_bytes-to_le_bytes_4 (8 + length body) (omega (arith, short)) in
    let a : nat_lt (8 + length body) 12 ≡ false = le-ltb _ _ (omega (arith, some)) in
    let b : nat_lt longest_frame (8 + length body) ≡ false = le-ltb _ _ (omega (arith, short)) in
    let n : length (frame_letters End ++ ((unsigned w32).canon (8 + length body) ++ body))
    ≡ 8 + length body = omega arith in
    let c : nat_lt (8 + length body) 8 ≡ false = le-ltb _ _ (omega arith) in
    let d : nat_lt (8 + length body) (8 + length body) ≡ false = le-ltb _ _ (omega arith) in
    rw (size, a, b, n, c, d) refl

body_some : (m : Message) → HasFrame m → 4 ≤ length (frame_body_of m)
body_some (Asks t) is = omega (arith, title_length t is)
body_some (Carries t rs) is = omega (
  arith,
  length-append ((title ▸ count).canon (t, length rs)) (flat_map length_prefixed_record.canon rs),
  count_length t (length rs),
  title_length t is.0,
)
body_some (Ends n) is = omega (arith, code_length n)

pub cut_own : (m : Message) → HasFrame m
    → frame_header (frame_of m) ≡ Ok (Some
    (record { kind = kind_of m; size = 8 + length (frame_body_of m) }))
cut_own m is = framed_cut (kind_of m) (frame_body_of m) (body_some m is) (body_short m is)

taken_body : (kind : FrameKind) (body : List ℕ)
    → drop 8 (take (8 + length body) (frame_letters kind
    ++ ((unsigned w32).canon (8 + length body) ++ body))) ≡ body
unfolding unsigned
taken_body Vector body = let e : 8 + length body
    ≡ suc (suc (suc (suc (suc (suc (suc (suc (length body)))))))) = omega arith in
    rw e (take_all (length body) body (omega arith))
taken_body Records body = let e : 8 + length body
    ≡ suc (suc (suc (suc (suc (suc (suc (suc (length body)))))))) = omega arith in
    rw e (take_all (length body) body (omega arith))
taken_body End body = let e : 8 + length body
    ≡ suc (suc (suc (suc (suc (suc (suc (suc (length body)))))))) = omega arith in
    rw e (take_all (length body) body (omega arith))

pub body_own : (m : Message) → drop 8 (take (8 + length (frame_body_of m)) (frame_of m))
    ≡ frame_body_of m
body_own m = taken_body (kind_of m) (frame_body_of m)
