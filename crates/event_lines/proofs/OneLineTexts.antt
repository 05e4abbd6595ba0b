-- Texts that stay on one line: addresses, moments, status codes and names.
use Rattle.std.proofs.Common.{◌≡◌, ◌<◌, ◌≤◌, ◌+◌, ◌/◌, ◌%◌, ◌==◌, ◌||◌, inl, inr, ⊎_elim, ◌++◌, ◌∙◌, ◌∷◌, [], ℕ, zero, suc, List, true, false, refl, ap, sym, subst, take, drop, arith}
use Rattle.std.proofs.lemmas.Bool.{and_from, le-leb, cond_both, cases_lt, true≢false}
use Rattle.std.specs.Prelude.{nat_lt, codes, slice_index, unsigned_abs}
use Rattle.std.specs.Str.{bytes_eq, chars}
use Rattle.std.specs.Char.{encode_utf8}
use Rattle.std.specs.Int.{is_in_range, w32, to_be_bytes}
use Rattle.std.specs.Net.Addr.{ipv4_octets, ipv6_segments, octets_of}
use Rattle.std.specs.Net.Socket.{v4_ip, v4_port, v6_ip, v6_port, v6_scope_id}
use Rattle.std.specs.Net.Text.{hex, dotted_text, ipv4_text, groups_text, longest_zero_run, leading_zero_digits, hex_groups_text, ipv6_text, scope_text, socket_text}
use Rattle.std.specs.declared.net.socket_addr.SocketAddr.{SocketAddr}
use Rattle.std.specs.declared.net.socket_addr.SocketAddr.TheVariants as Socket
use Rattle.jiff_core.specs.declared.civil.date.Date.{Date}
use Rattle.hex.specs.Hex.{encode_with, upper_digits}
use Rattle.ua_binary.specs.declared.codes.Status.{Status}
use Rattle.history_text.specs.Digits.{last_digits}
use Rattle.history_text.specs.Statuses.{kept, status_text}
use Rattle.history_text.specs.Times.{date_text, clock_text, ending_text, steps_text, IsTimeText}
use Rattle.history_text.specs.declared.times.Time.{Time}
use Rattle.event_lines.specs.Names.{is_steering, character_text, quoted_name}
use Rattle.event_lines.specs.OneLine.{is_unbroken, IsOneLine}
use Rattle.event_lines.proofs.OneLineLemmas.{said, above, onto, ◌&◌, dropped, mapped, numeral, number, signed, hex_character}

-- ---- addresses

group : (n : ℕ) → IsOneLine (hex n)
unfolding hex
group n =
    dropped (leading_zero_digits n) _
    (onto _ (hex_character (n / 0x1000)) (onto _ (hex_character (n / 0x100 % 16))
    (onto _ (hex_character (n / 0x10 % 16)) (onto _ (hex_character (n % 16)) (said [] refl)))))

groups : (segments : List ℕ) → IsOneLine (groups_text segments)
groups [] = said [] refl
groups (s ∷ rest) =
    group s & mapped (λ t. codes ":" ++ hex t) (λ t. said (codes ":") refl & group t) rest

hex_groups : (segments : List ℕ) → IsOneLine (hex_groups_text segments)
unfolding hex_groups_text
hex_groups segments =
    let run = longest_zero_run segments in
    cond_both (nat_lt 1 run.1) _ _ IsOneLine
    (λ _. groups (take run.0 segments) & said (codes "::") refl
    & groups (drop (run.0 + run.1) segments)) (λ _. groups segments)

four : (a b c d : ℕ) → IsOneLine (dotted_text a b c d)
four a b c d =
    number a & said (codes ".") refl & number b & said (codes ".") refl & number c
    & said (codes ".") refl & number d

ipv4 : (octets : List ℕ) → IsOneLine (ipv4_text octets)
ipv4 o = four (slice_index o 0) (slice_index o 1) (slice_index o 2) (slice_index o 3)

ipv6 : (segments : List ℕ) → IsOneLine (ipv6_text segments)
unfolding ipv6_text
ipv6 segments =
    cond_both (bytes_eq (take 6 segments) (0 ∷ 0 ∷ 0 ∷ 0 ∷ 0 ∷ 0xffff ∷ [])) _ _ IsOneLine
    (λ _. said (codes "::ffff:") refl & ipv4 (octets_of (drop 6 segments)))
    (λ _. hex_groups segments)

scope : (n : ℕ) → IsOneLine (scope_text n)
scope n =
    cond_both (n == 0) _ _ IsOneLine (λ _. said [] refl)
    (λ _. said (codes "%") refl & number n)

pub socket : (address : SocketAddr) → IsOneLine (socket_text address)
socket (Socket.V4 a) =
    ipv4 (ipv4_octets (v4_ip a)) & said (codes ":") refl & number (v4_port a)
socket (Socket.V6 a) =
    said (codes "[") refl & ipv6 (ipv6_segments (v6_ip a)) & scope (v6_scope_id a)
    & said (codes "]:") refl & number (v6_port a)

-- ---- moments

last : (count value : ℕ) → IsOneLine (last_digits count value)
last zero value = said [] refl
last (suc count) value =
    last count (value / 10)
    & onto (48 + value % 10) (above (48 + value % 10) (omega arith)) (said [] refl)

date_is : (date : Date) → IsOneLine (date_text date)
date_is date =
    last 4 (unsigned_abs date.year) & onto 45 refl (last 2 date.month)
    & onto 45 refl (last 2 date.day)

clock_is : (second : ℕ) → IsOneLine (clock_text second)
clock_is second =
    onto 84 refl (last 2 (second / 3600)) & onto 58 refl (last 2 (second / 60 % 60))
    & onto 58 refl (last 2 (second % 60))

ending_is : (ticks pico : ℕ) → IsOneLine (ending_text ticks pico)
ending_is ticks pico =
    onto 46 refl (last 7 ticks)
    & cond_both (pico == 0) [] (last_digits 4 pico) IsOneLine (λ _. said [] refl)
    (λ _. last 4 pico)
    & said (codes "Z") refl

steps_is : (time : Time) → IsOneLine (steps_text time)
steps_is time =
    onto 64 refl (signed time.ticks)
    & cond_both (time.pico == 0) [] (43 ∷ last_digits 4 time.pico) IsOneLine
    (λ _. said [] refl) (λ _. onto 43 refl (last 4 time.pico))

pub moment : (time : Time) → (text : List ℕ) → IsTimeText time text → IsOneLine text
moment time text (inl (n, at, within, (date, day, is))) =
    subst IsOneLine (sym is) (date_is date & clock_is _ & ending_is _ _)
moment time text (inr (beyond, is)) = subst IsOneLine (sym is) (steps_is time)

-- ---- status codes

-- a digit of the table, or 0 where it has none
digit : (k : ℕ) → is_unbroken (slice_index upper_digits k) ≡ true
digit zero = refl
digit (suc zero) = refl
digit (suc (suc zero)) = refl
digit (suc (suc (suc zero))) = refl
digit (suc (suc (suc (suc zero)))) = refl
digit (suc (suc (suc (suc (suc zero))))) = refl
digit (suc (suc (suc (suc (suc (suc zero)))))) = refl
digit (suc (suc (suc (suc (suc (suc (suc zero))))))) = refl
digit (suc (suc (suc (suc (suc (suc (suc (suc zero)))))))) = refl
digit (suc (suc (suc (suc (suc (suc (suc (suc (suc zero))))))))) = refl
digit (suc (suc (suc (suc (suc (suc (suc (suc (suc (suc zero)))))))))) = refl
digit (suc (suc (suc (suc (suc (suc (suc (suc (suc (suc (suc zero))))))))))) = refl
digit (suc (suc (suc (suc (suc (suc (suc (suc (suc (suc (suc (suc zero)))))))))))) = refl
digit (suc (suc (suc (suc (suc (suc (suc (suc (suc (suc (suc (suc (suc zero))))))))))))) = refl
digit (suc (suc (suc (suc (suc (suc (suc (suc (suc (suc (suc (suc (suc (suc zero)))))))))))))) = refl
digit (suc (suc (suc (suc (suc (suc (suc (suc (suc (suc (suc (suc (suc (suc (suc zero))))))))))))))) = refl
digit (suc (suc (suc (suc (suc (suc (suc (suc (suc (suc (suc (suc (suc (suc (suc (suc k)))))))))))))))) = refl

code : (bytes : List ℕ) → IsOneLine (encode_with upper_digits bytes)
unfolding encode_with
code [] = said [] refl
code (b ∷ rest) = onto _ (digit (b / 16)) (onto _ (digit (b % 16)) (code rest))

pub status_is : (status : Status) → IsOneLine (status_text status)
status_is status =
    cond_both ((kept status).0 == 0) _ _ IsOneLine (λ _. said (codes "Good") refl)
    (λ _. code (to_be_bytes w32 (kept status).0))

-- ---- names

-- what is below the blank steers
steers : (c : ℕ) → c < 32 → is_steering c ≡ true
steers c below =
    ap (λ b. b || is_in_range 0x7F 0x9F c || c == 0x61C || is_in_range 0x200E 0x200F c
    || is_in_range 0x2028 0x202E c || is_in_range 0x2066 0x2069 c)
    (and_from _ _ (le-leb 0 c (omega arith)) (le-leb c 31 (omega arith)))

-- what doesn't steer breaks no line
steady : (c : ℕ) → is_steering c ≡ false → is_unbroken c ≡ true
steady c not =
    ⊎_elim (λ low. absurd (true≢false (sym (steers c low) ∙ not))) (above c) (cases_lt c 32)

plain : (c : ℕ) → is_steering c ≡ false → IsOneLine (encode_utf8 c)
unfolding encode_utf8
plain c not =
    cond_both (nat_lt c 128) _ _ IsOneLine (λ _. onto c (steady c not) (said [] refl))
    (λ _. cond_both (nat_lt c 2048) _ _ IsOneLine
    (λ _. high (192 + c / 64) (omega arith) (tail c (said [] refl)))
    (λ _. cond_both (nat_lt c 65536) _ _ IsOneLine
    (λ _. high (224 + c / 4096) (omega arith) (tail (c / 64) (tail c (said [] refl))))
    (λ _. high (240 + c / 262144) (omega arith)
    (tail (c / 4096) (tail (c / 64) (tail c (said [] refl)))))))
  where
    high : (b : ℕ) → 32 ≤ b → {text : List ℕ} → IsOneLine text → IsOneLine (b ∷ text)
    high b least rest = onto b (above b least) rest

    tail : (bits : ℕ) → {text : List ℕ} → IsOneLine text → IsOneLine ((128 + bits % 64) ∷ text)
    tail bits rest = onto (128 + bits % 64) (above (128 + bits % 64) (omega arith)) rest

character : (c : ℕ) → IsOneLine (character_text c)
character c =
    cond_both (is_steering c) _ _ IsOneLine
    (λ _. onto 92 refl (onto 117 refl (onto 123 refl (numeral 16 c))) & said (125 ∷ []) refl)
    (λ steady. cond_both (c == 34 || c == 92) (92 ∷ []) [] IsOneLine
    (λ _. said (92 ∷ []) refl) (λ _. said [] refl) & plain c steady)

pub name_is : (name : List ℕ) → IsOneLine (quoted_name name)
name_is name =
    onto 34 refl (mapped character_text character (chars name)) & said (34 ∷ []) refl
