-- Real bytes are a continuation point by the rules of its reader just where they are one by those
-- of its format: what the reader takes is spelled as it is written.
use Rattle.std.proofs.Common.{◌≡◌, ◌∙◌, ℕ, zero, suc, ◌<◌, ◌^◌, ℤ, pos, negsuc, Bool, true, false, cond, List, [], ◌∷◌, ◌++◌, length, drop, Option, Some, None, Result, Ok, Err, refl, sym, ap, subst, arith, ◌==◌}
use Rattle.std.proofs.Common.{drop_at}
use Rattle.std.specs.Prelude.{get_or, is_some, unwrap_or, nat_lt, not, if◌then◌else◌}
use Rattle.std.specs.Str.{bytes_eq}
use Rattle.std.proofs.lemmas.Slice.Eq.{bytes_eq-Decides}
use Rattle.std.specs.Int.{w16, w32, from_le_bytes, cast_unsigned}
use Rattle.std.proofs.lemmas.Int.{of_z-to_z}
use Rattle.std.proofs.lemmas.Nat.{le_bytes_2, le_bytes_4}
use Rattle.ua_binary.specs.declared.fault.BinaryFault.{BinaryFault}
use Rattle.ua_binary.specs.declared.fault.BinaryFault.TheVariants.{BadLength, BadEncodingByte}
use Rattle.ua_binary.specs.Format.{◌>>=◌, Reading, Format, IsLawful, canonical, whole, nothing, no_format, byte, block, ◌▸◌, headed, standing_for, passing, flagged}
use Rattle.ua_binary.specs.Binary.{unsigned, signed, byte_string, boolean, text, guid, guid_of, numeric_parts, node_form, node_form_of, node_id}
use Rattle.ua_binary.specs.declared.values.NodeId.{NodeId}
use Rattle.ua_binary.specs.declared.values.NodeId.TheVariants.{Numeric, Named, Global, Opaque}
use Rattle.ua_binary.proofs.BinaryParts.{counted, count_of, two_byte_node, four_byte_node, numeric_node, global_node, named_parts, opaque_parts}
use Rattle.hist_read.specs.Point.{Point, point, point_in}
use Rattle.hist_read.specs.PointReading.{short_form, short_node, short_point}
use Rattle.hist_read.proofs.Lawful.{point_lawful, short_point_lawful}
use Rattle.std.proofs.lemmas.Bool.{eqb-true, eq-eqb, ne_eqb, lt-ltb, le-ltb}
use Rattle.std.specs.Result.{result_ok}
use Rattle.ua_binary.proofs.Lawful.{text_lawful, byte_string_lawful}
use Rattle.ua_binary.proofs.Spelled.{prefix_free, whole_found, whole_only}

-- each number is one of a byte
abbrev pub AreBytes : List ℕ → Type 0
AreBytes [] = Unit {0}
AreBytes (b ∷ bytes) = (b < 256) × AreBytes bytes

pub from_small : (bytes : List ℕ) → ((i : ℕ) → get_or bytes i 0 < 256) → AreBytes bytes
from_small [] h = tt
from_small (b ∷ bytes) h = (h 0, from_small bytes (λ i. h (suc i)))

small_at : (bytes : List ℕ) → AreBytes bytes → (i : ℕ) → get_or bytes i 0 < 256
small_at [] h i = omega arith
small_at (b ∷ bytes) h zero = h.0
small_at (b ∷ bytes) h (suc i) = small_at bytes h.1 i

front_bytes : (x y : List ℕ) → AreBytes (x ++ y) → AreBytes x
front_bytes [] y h = tt
front_bytes (b ∷ x) y h = (h.0, front_bytes x y h.1)

back_bytes : (x y : List ℕ) → AreBytes (x ++ y) → AreBytes y
back_bytes [] y h = h
back_bytes (b ∷ x) y h = back_bytes x y h.1

-- a spelling of real bytes is the one that is written
record IsTight {E A : Type 0} (f : Format E A) : Type 0 where
  same : (bytes : List ℕ) (v : A) → AreBytes bytes → f.Spells bytes v → bytes ≡ f.canon v

-- ---- what formats are put together of

nothing_tight : {E A : Type 0} (a : A) → IsTight (nothing {E = E} a)
nothing_tight a = record { same = λ bytes v h s. s.0 }

refused_tight : {E A : Type 0} (e : E) → IsTight (no_format {A = A} e)
refused_tight e = record { same = λ bytes v h s. absurd s }

byte_tight : IsTight byte
byte_tight = record { same = λ bytes v h s. s }

block_tight : (n : ℕ) → IsTight (block n)
block_tight n = record { same = λ bytes v h s. s.0 }

then_tight : {E A B : Type 0} {f : Format E A} {g : Format E B} → IsTight f → IsTight g
    → IsTight (f ▸ g)
then_tight {f} {g} p q = record {
  same = λ bytes v h s.
      let apart = subst AreBytes s.2 h in
      let x = p.same s.0 v.0 (front_bytes s.0 s.1 apart) s.3 in
      let y = q.same s.1 v.1 (back_bytes s.0 s.1 apart) s.4 in
      s.2 ∙ ap (λ t. t ++ s.1) x ∙ ap (λ t. f.canon v.0 ++ t) y;
}

headed_tight : {E A B : Type 0} (head_of : B → A) {f : Format E A} (g : A → Format E B) → IsTight f
    → ((a : A) → IsTight (g a)) → ((a : A) (y : List ℕ) (v : B) → (g a).Spells y v → head_of v ≡ a)
    → IsTight (headed head_of f g)
headed_tight head_of {f} g p q one = record {
  same = λ bytes v h s.
      let apart = subst AreBytes s.3 h in
      let x = p.same s.0 s.2 (front_bytes s.0 s.1 apart) s.4 in
      let y = (q s.2).same s.1 v (back_bytes s.0 s.1 apart) s.5 in
      subst (λ a. bytes ≡ f.canon a ++ (g a).canon v) (sym (one s.2 s.1 v s.5))
      (s.3 ∙ ap (λ t. t ++ s.1) x ∙ ap (λ t. f.canon s.2 ++ t) y);
}

standing_tight : {E A B : Type 0} (to : A → B) (from : B → A) {f : Format E A} → IsTight f
    → ((bytes : List ℕ) (u : A) → f.Spells bytes u → AreBytes bytes
    → f.canon (from (to u)) ≡ f.canon u) → IsTight (standing_for to from f)
standing_tight to from {f} p one = record {
  same = λ bytes v h s. p.same bytes s.0 h s.1 ∙ sym (one bytes s.0 s.1 h)
      ∙ ap (λ v. f.canon (from v)) (sym s.2);
}

passing_tight : {E A : Type 0} (t : A → Bool) (e : E) {f : Format E A} → IsTight f
    → IsTight (passing t e f)
passing_tight t e p = record { same = λ bytes v h s. p.same bytes v h s.0 }

-- ---- numbers, bytes and texts

u16_tight : IsTight (unsigned w16)
unfolding unsigned
u16_tight = record {
  same = λ bytes v h s.
      sym (le_bytes_2 bytes v (ap length s.1.0 ∙ s.1.1) (small_at bytes h)
      (s.2 ∙ ap (from_le_bytes w16) (sym s.1.0)));
}

u32_tight : IsTight (unsigned w32)
unfolding unsigned
u32_tight = record {
  same = λ bytes v h s.
      sym (le_bytes_4 bytes v (ap length s.1.0 ∙ s.1.1) (small_at bytes h)
      (s.2 ∙ ap (from_le_bytes w32) (sym s.1.0)));
}

u32_below : (bytes : List ℕ) (n : ℕ) → AreBytes bytes → (unsigned w32).Spells bytes n → n < 2 ^ 32
unfolding unsigned
u32_below bytes n h s =
    let is : n ≡ from_le_bytes w32 bytes = s.2 ∙ ap (from_le_bytes w32) (sym s.1.0) in
    omega (
      arith,
      is,
      small_at bytes h 0,
      small_at bytes h 1,
      small_at bytes h 2,
      small_at bytes h 3,
    )

i32_tight : IsTight (signed w32)
unfolding signed
i32_tight = record {
  same = λ bytes v h s. u32_tight.same bytes s.0 h s.1
      ∙ ap (unsigned w32).canon (sym
      (ap (cast_unsigned w32) s.2 ∙ of_z-to_z w32 s.0 (u32_below bytes s.0 h s.1)));
}

counted_tight : (n : ℤ) → IsTight (counted n)
counted_tight (pos n) = record {
  same =
      λ bytes v h s. s.1.0 ∙ ap (flagged true (block n)).canon (sym s.2);
}
counted_tight (negsuc zero) = nothing_tight None
counted_tight (negsuc (suc n)) = refused_tight BadLength

count_told : (n : ℤ) (y : List ℕ) (v : Option (List ℕ)) → (counted n).Spells y v → count_of v ≡ n
count_told (pos n) y v s = ap count_of s.2 ∙ ap pos s.1.1
count_told (negsuc zero) y v s = ap count_of s.1
count_told (negsuc (suc n)) y v s = absurd s

byte_string_tight : IsTight byte_string
unfolding byte_string
byte_string_tight = record {
  same =
      (headed_tight count_of counted i32_tight counted_tight count_told).same;
}

text_tight : IsTight text
unfolding text
text_tight = record { same = λ bytes v h s. byte_string_tight.same bytes v h s.0 }

guid_tight : IsTight guid
unfolding guid
guid_tight = record {
  same =
      (standing_tight guid_of _ (then_tight u32_tight
      (then_tight u16_tight (then_tight u16_tight (block_tight 8)))) (λ bytes u s h. refl)).same;
}

-- ---- node ids

some_again : (v : Option (List ℕ)) → is_some v ≡ true → Some (unwrap_or v []) ≡ v
some_again None e = absurd cc
some_again (Some x) e = refl

abbrev named_strict : Format BinaryFault NodeId
named_strict = standing_for (λ p. Named p.0 (unwrap_or p.1 [])) named_parts
    (unsigned w16 ▸ passing is_some BadLength text)

abbrev opaque_strict : Format BinaryFault NodeId
opaque_strict = standing_for (λ p. Opaque p.0 (unwrap_or p.1 [])) opaque_parts
    (unsigned w16 ▸ passing is_some BadLength byte_string)

named_tight : IsTight named_strict
named_tight = standing_tight (λ p. Named p.0 (unwrap_or p.1 [])) named_parts
    (then_tight u16_tight (passing_tight is_some BadLength text_tight))
    (λ bytes u s h. ap (λ v. (unsigned w16).canon u.0 ++ text.canon v) (some_again u.1 s.4.1))

opaque_tight : IsTight opaque_strict
opaque_tight = standing_tight (λ p. Opaque p.0 (unwrap_or p.1 [])) opaque_parts
    (then_tight u16_tight (passing_tight is_some BadLength byte_string_tight))
    (λ bytes u s h. ap (λ v. (unsigned w16).canon u.0 ++ byte_string.canon v)
    (some_again u.1 s.4.1))

two_byte_tight : IsTight two_byte_node
two_byte_tight = standing_tight (λ id. Numeric 0 id) (λ v. (numeric_parts v).1) byte_tight
    (λ bytes u s h. refl)

four_byte_tight : IsTight four_byte_node
four_byte_tight = standing_tight (λ p. Numeric p.0 p.1) numeric_parts
    (then_tight byte_tight u16_tight) (λ bytes u s h. refl)

numeric_tight : IsTight numeric_node
numeric_tight = standing_tight (λ p. Numeric p.0 p.1) numeric_parts (then_tight u16_tight u32_tight)
    (λ bytes u s h. refl)

global_tight : IsTight global_node
global_tight = standing_tight (λ p. Global p.0 p.1) _ (then_tight u16_tight guid_tight)
    (λ bytes u s h. refl)

-- what the strict form of this number spells is the lenient form's, as it is written
abbrev IsAsWritten : ℕ → List ℕ → NodeId → Type 0
IsAsWritten form b n = (node_form form).Spells b n × (b ≡ (node_form form).canon n)
    × (node_form_of n ≡ form)

small_form : (id : ℕ) → id < 256 → node_form_of (Numeric 0 id) ≡ 0
small_form id h = rw (lt-ltb id 256 h) refl

far : (form k : ℕ) → k < 6 → (suc (suc (suc (suc (suc (suc form))))) == k) ≡ false
far form k h = ne_eqb _ _ (λ e. omega (arith, e, h))

strict_written : (form : ℕ) (b : List ℕ) (n : NodeId) → AreBytes b → (short_form form).Spells b n
    → IsAsWritten form b n
strict_written zero b n h s = (
  s,
  two_byte_tight.same b n h s,
  ap node_form_of s.2
      ∙ small_form s.0 (subst AreBytes s.1 h).0,
)
strict_written (suc zero) b n h s = (s.0, four_byte_tight.same b n h s.0, eqb-true _ _ s.1)
strict_written (suc (suc zero)) b n h s = (s.0, numeric_tight.same b n h s.0, eqb-true _ _ s.1)
strict_written (suc (suc (suc zero))) b n h s = (
  (s.0, (s.1.0, s.1.1, s.1.2, s.1.3, s.1.4.0), s.2),
  named_tight.same b n h s,
  ap node_form_of s.2,
)
strict_written (suc (suc (suc (suc zero)))) b n h s =
    (s, global_tight.same b n h s, ap node_form_of s.2)
strict_written (suc (suc (suc (suc (suc zero))))) b n h s = (
  (s.0, (s.1.0, s.1.1, s.1.2, s.1.3, s.1.4.0), s.2),
  opaque_tight.same b n h s,
  ap node_form_of s.2,
)
strict_written (suc (suc (suc (suc (suc (suc form)))))) b n h s =
    absurd (rw (
      far form 0 (omega arith),
      far form 1 (omega arith),
      far form 2 (omega arith),
      far form 3 (omega arith),
      far form 4 (omega arith),
      far form 5 (omega arith),
    ) at s)

-- of the bytes that are written for an id that is there, null is not spelled
there : {f : Format BinaryFault (Option (List ℕ))} → IsLawful f → f.Fits (Some [])
    → (ns : ℕ) (v : Option (List ℕ)) (x y : List ℕ) → (unsigned w16).Spells x ns → f.Spells y v
    → x ++ y ≡ (unsigned w16).canon ns ++ f.canon (Some (unwrap_or v [])) → is_some v ≡ true
unfolding unsigned
there {f} p fits ns (Some name) x y s t e = refl
there {f} p fits ns None x y s t e =
    let same : y ≡ f.canon (Some []) =
    sym (drop_at x y 2 (ap length s.1.0 ∙ s.1.1)) ∙ ap (drop 2) e in
    let none : ◌≡◌ {A = Option (List ℕ)} None (Some []) =
    ((prefix_free p).same y (f.canon (Some [])) [] [] None (Some []) t
    (p.written (Some []) fits) (ap (λ z. z ++ []) same)).2 in
    absurd cc

text_there : text.Fits (Some [])
unfolding text Rattle.std.specs.Str.is_utf8 Rattle.std.specs.Str.chars
text_there = (omega arith, refl)

bytes_there : byte_string.Fits (Some [])
unfolding byte_string
bytes_there = omega arith

is_form : (n m : ℕ) → n ≡ m → (n == m) ≡ true
is_form n m e = eq-eqb n m e

lenient_short : (form : ℕ) (b : List ℕ) (n : NodeId) → IsAsWritten form b n
    → (short_form form).Spells b n
lenient_short zero b n w = w.0
lenient_short (suc zero) b n w = (w.0, is_form _ _ w.2)
lenient_short (suc (suc zero)) b n w = (w.0, is_form _ _ w.2)
lenient_short (suc (suc (suc zero))) b n w =
    let s = w.0 in
    let t = s.1 in
    let e = sym t.2 ∙ w.1 ∙ ap (node_form 3).canon s.2 in (
      s.0,
      (t.0, t.1, t.2, t.3, (t.4, there text_lawful text_there s.0.0 s.0.1 t.0 t.1 t.3 t.4 e)),
      s.2,
    )
lenient_short (suc (suc (suc (suc zero)))) b n w = w.0
lenient_short (suc (suc (suc (suc (suc zero))))) b n w =
    let s = w.0 in
    let t = s.1 in
    let e = sym t.2 ∙ w.1 ∙ ap (node_form 5).canon s.2 in (
      s.0,
      (
        t.0,
        t.1,
        t.2,
        t.3,
        (
          t.4,
          there byte_string_lawful bytes_there s.0.0 s.0.1 t.0 t.1 t.3 t.4 e,
        ),
      ),
      s.2,
    )
lenient_short (suc (suc (suc (suc (suc (suc form)))))) b n w =
    absurd (rw (
      far form 0 (omega arith),
      far form 1 (omega arith),
      far form 2 (omega arith),
      far form 3 (omega arith),
      far form 4 (omega arith),
      far form 5 (omega arith),
    ) at w.0)

short_canonical : (bytes : List ℕ) (n : NodeId) → AreBytes bytes → short_node.Spells bytes n
    → (canonical BadEncodingByte node_id).Spells bytes n
unfolding node_id short_node
short_canonical bytes n h s =
    let w = strict_written s.2 s.1 n (back_bytes s.0 s.1 (subst AreBytes s.3 h)) s.5 in
    let written : s.2 ∷ s.1 ≡ node_form_of n ∷ (node_form (node_form_of n)).canon n =
    subst (λ k. s.2 ∷ s.1 ≡ k ∷ (node_form k).canon n) (sym w.2) (ap (λ t. s.2 ∷ t) w.1) in
    ((s.0, s.1, s.2, s.3, s.4, w.0), s.3 ∙ ap (λ t. t ++ s.1) s.4 ∙ written)

both_same : (k m : ℕ) (a b : List ℕ) → k ∷ a ≡ m ∷ b → (k ≡ m) × (a ≡ b)
both_same k m a b e = (cc, cc)

canonical_short : (bytes : List ℕ) (n : NodeId) → (canonical BadEncodingByte node_id).Spells bytes n
    → short_node.Spells bytes n
unfolding node_id short_node
canonical_short bytes n c =
    let s = c.0 in
    let e = both_same s.2 (node_form_of n) s.1 ((node_form (node_form_of n)).canon n)
    (sym (s.3 ∙ ap (λ t. t ++ s.1) s.4) ∙ c.1) in (
      s.0,
      s.1,
      s.2,
      s.3,
      s.4,
      lenient_short s.2 s.1 n
          (s.5, subst (λ k. s.1 ≡ (node_form k).canon n) (sym e.0) e.1, sym e.0),
    )

-- two formats that spell the same by these bytes hold the same in all of them
same_whole : {E A : Type 0} (e : E) {f g : Format E A} → IsLawful f → IsLawful g → (bytes : List ℕ)
    → ((v : A) → f.Spells bytes v → g.Spells bytes v)
    → ((v : A) → g.Spells bytes v → f.Spells bytes v)
    → result_ok (whole e f bytes) ≡ result_ok (whole e g bytes)
same_whole e {f} {g} p q bytes to from =
    go (whole e f bytes) (whole e g bytes) (λ v h.
    whole_only e q bytes v (to v (whole_found e p bytes v h)))
    (λ v h. whole_only e p bytes v (from v (whole_found e q bytes v h)))
  where
    go : {E A : Type 0} (r s : Result A E) → ((v : A) → r ≡ Ok v → s ≡ Ok v)
        → ((v : A) → s ≡ Ok v → r ≡ Ok v) → result_ok r ≡ result_ok s
    go (Ok v) s h k = sym (ap result_ok (h v refl))
    go (Err d) (Ok v) h k = ap result_ok (k v refl)
    go (Err d) (Err c) h k = refl

-- ---- the whole

point_same : (bytes : List ℕ) → AreBytes bytes
    → result_ok (whole BadEncodingByte short_point bytes) ≡ point_in bytes
unfolding point short_point
point_same bytes h = same_whole BadEncodingByte short_point_lawful point_lawful bytes to from
  where
    to : (v : Point) → short_point.Spells bytes v → point.Spells bytes v
    to v s =
        let i = s.0.1 in
        let j = i.4 in
        let k = j.4 in
        let y1 = back_bytes i.0 i.1 (subst AreBytes i.2 h) in
        let y2 = back_bytes j.0 j.1 (subst AreBytes j.2 y1) in (
          (
            s.0.0,
            (
              i.0,
              i.1,
              i.2,
              i.3,
              (
                j.0,
                j.1,
                j.2,
                j.3,
                (
                  k.0,
                  k.1,
                  k.2,
                  short_canonical k.0 s.0.0.1.1.0
                      (front_bytes k.0 k.1 (subst AreBytes k.2 y2)) k.3,
                  k.4,
                ),
              ),
            ),
            s.0.2,
          ),
          s.1,
        )

    from : (v : Point) → point.Spells bytes v → short_point.Spells bytes v
    from v s =
        let i = s.0.1 in
        let j = i.4 in
        let k = j.4 in (
          (
            s.0.0,
            (
              i.0,
              i.1,
              i.2,
              i.3,
              (
                j.0,
                j.1,
                j.2,
                j.3,
                (k.0, k.1, k.2, canonical_short k.0 s.0.0.1.1.0 k.3, k.4),
              ),
            ),
            s.0.2,
          ),
          s.1,
        )

pub none_told : (bytes : List ℕ) (e : BinaryFault) → AreBytes bytes → short_point.read bytes ≡ Err e
    → None ≡ point_in bytes
none_told bytes e h r = subst (λ x.
    result_ok (x >>= λ a. if length a.1 == 0 then Ok a.0 else Err BadEncodingByte) ≡ point_in bytes)
    r (point_same bytes h)

pub some_told : (bytes : List ℕ) (v : Point) (rest : List ℕ) → AreBytes bytes
    → short_point.read bytes ≡ Ok (v, rest)
    → result_ok (cond {A = Result Point BinaryFault} (length rest == 0) (Ok v)
    (Err BadEncodingByte)) ≡ point_in bytes
some_told bytes v rest h r = subst (λ x.
    result_ok (x >>= λ a. if length a.1 == 0 then Ok a.0 else Err BadEncodingByte) ≡ point_in bytes)
    r (point_same bytes h)

-- ---- a Boolean whose byte is 0 or 1

is_other : (b : Bool) → (b ≡ true → ⊥) → b ≡ false
is_other true h = absurd (h refl)
is_other false h = refl

no_bit : (b : ℕ) (rest : List ℕ) → suc (suc b) ∷ rest ≡ 1 ∷ rest → ⊥
no_bit b rest e = absurd cc

bit_read : (b : ℕ) (rest : List ℕ)
    → cond {A = Reading BinaryFault Bool} (bytes_eq (b ∷ rest) (cond (not (b == 0)) 1 0 ∷ rest))
    (Ok (not (b == 0), rest)) (Err BadEncodingByte)
    ≡ cond (nat_lt b 2) (Ok (b == 1, rest)) (Err BadEncodingByte)
bit_read zero rest = rw ((bytes_eq-Decides (0 ∷ rest) (0 ∷ rest)).1 refl) refl
bit_read (suc zero) rest = rw ((bytes_eq-Decides (1 ∷ rest) (1 ∷ rest)).1 refl) refl
bit_read (suc (suc b)) rest = rw (
  ne_eqb (suc (suc b)) 0 (λ e. omega (arith, e)),
  is_other (bytes_eq (suc (suc b) ∷ rest) (1 ∷ rest))
      (λ e. no_bit b rest ((bytes_eq-Decides _ _).0 e)),
  le-ltb (suc (suc b)) 2 (omega arith),
) refl

pub boolean_read : (bytes : List ℕ)
    → (canonical BadEncodingByte boolean).read bytes
    ≡ (byte.read bytes >>= λ a. if nat_lt a.0 2 then Ok (a.0 == 1, a.1) else Err BadEncodingByte)
unfolding boolean
boolean_read [] = refl
boolean_read (b ∷ rest) = bit_read b rest
