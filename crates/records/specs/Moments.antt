-- Moments as integers: in units of 10 ps, of which a tick of 100 ns has 10,000.
use Rattle.std.specs.Prelude.{◌≡◌, refl, ℕ, ◌-◌, ◌/◌, ◌%◌, ◌≤◌, ℤ, pos, negsuc, ◌+ℤ◌, ◌*ℤ◌}
use Rattle.std.proofs.Common.{arith}
use Rattle.std.proofs.lemmas.Int.{ints}
use Rattle.records.specs.declared.moment.Moment.TheInside.{Inside}

-- the moment of these ticks and picoseconds
abbrev pub moment : ℤ → ℕ → ℤ
moment ticks pico = ticks *ℤ pos 10000 +ℤ pos pico

-- its ticks: the quotient, rounded down
abbrev pub ticks_of : ℤ → ℤ
ticks_of v = elim v [ pos n ↦ pos (n / 10000) | negsuc n ↦ negsuc (n / 10000) ]

-- its picoseconds: what is left
abbrev pub pico_of : ℤ → ℕ
pico_of v = elim v [ pos n ↦ n % 10000 | negsuc n ↦ 9999 - n % 10000 ]

pub ticks_only : (z t : ℤ) (p : ℕ) → p ≤ 9999 → z ≡ moment t p → ticks_of z ≡ t
ticks_only (pos n) t p h e = omega (arith, ints)
ticks_only (negsuc n) t p h e = omega (arith, ints)

pub pico_only : (z t : ℤ) (p : ℕ) → p ≤ 9999 → z ≡ moment t p → pico_of z ≡ p
pico_only (pos n) t p h e = omega (arith, ints)
pico_only (negsuc n) t p h e = omega (arith, ints)

pub ticks_again : (t : ℤ) (p : ℕ) → p ≤ 9999 → ticks_of (moment t p) ≡ t
ticks_again t p h = ticks_only _ t p h refl

pub pico_again : (t : ℤ) (p : ℕ) → p ≤ 9999 → pico_of (moment t p) ≡ p
pico_again t p h = pico_only _ t p h refl

pub whole_again : (z : ℤ) → moment (ticks_of z) (pico_of z) ≡ z
whole_again (pos n) = omega (arith, ints)
whole_again (negsuc n) = omega (arith, ints)

pub pico_within : (z : ℤ) → pico_of z ≤ 9999
pico_within (pos n) = omega (arith, ints)
pico_within (negsuc n) = omega (arith, ints)

pub at_once : (m : Inside) → m.pico ≤ 9999
    → record { ticks = ticks_of (moment m.ticks m.pico); pico = pico_of (moment m.ticks m.pico) }
    ≡ m
at_once m h = rw (ticks_again m.ticks m.pico h, pico_again m.ticks m.pico h) refl
