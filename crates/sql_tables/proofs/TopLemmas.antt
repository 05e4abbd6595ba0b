-- Rows of currents2 that are of records, tell of others and show each record are those that follow.
use Rattle.std.proofs.Common.{◌≡◌, ◌⊎◌, inl, inr, ℤ, pos, ◌<ℤ◌, not, ◌&&◌, ◌||◌, Bool, true, false, List, [], ◌∷◌, filter, refl, sym, ap, ap₂, subst, ◌∙◌, arith, is_eq, is_gt, Ordering, Less, Equal, Greater}
use Rattle.std.specs.List.{list_any, AllByRecursion}
use Rattle.std.specs.Ordering.{int_cmp, is_ge}
use Rattle.std.proofs.lemmas.Int.{ints}
use Rattle.std.proofs.lemmas.Bool.{true≢false, and_parts, and_from, cases_Bool}
use Rattle.sqlite_value.specs.declared.value.Value.{Value}
use Rattle.sqlite_value.specs.declared.value.Value.TheVariants.{Int}
use Rattle.sqlite_value.specs.declared.keys.Collation.TheVariants.{Binary}
use Rattle.sqlite_value.specs.Order.{Row, column}
use Rattle.sqlite_sql.specs.Ops.{binary}
use Rattle.sqlite_sql.specs.declared.ops.BinaryOp.TheVariants.{Compare}
use Rattle.sqlite_sql.specs.declared.ops.CompareOp.TheVariants.{Ne}
use Rattle.sqlite_schema.specs.Rules.{is_of}
use Rattle.sqlite_schema.specs.declared.schema.Kind.TheVariants as kind
use Rattle.sqlite_rules.specs.Lists.{Has}
use Rattle.sqlite_keyed.proofs.ListLemmas.{any_from_none, none_from_any}
use Rattle.sql_tables.specs.Derived.{IsCells, is_later, is_other, same, above, flag, current_of, currents_of}
use Rattle.sql_tables.specs.Agreeing.{IsAt, IsStamped, IsValued, IsShownBy, rises}
use Rattle.sql_tables.proofs.RaiseLemmas.{up, up_is, apart, apart_is, not_less, not_same}
use Rattle.sql_tables.proofs.KeptLemmas.{same_ints, above_ints}
use Rattle.sql_tables.proofs.AgreeLemmas.{int_equal, blob_equal, any_has, has_mapped, all_has}
use Rattle.sql_tables.proofs.WholeLemmas.{same_int, same_blob, has_from_map, any_by}
use Rattle.sql_tables.proofs.LastLemmas.{all_from, kept_of, has_kept}

-- ---- stamps: tick and origin

-- the first stamp is above the second
abbrev over : ℤ → ℤ → ℤ → ℤ → Bool
over a b c d = is_gt (int_cmp a c) || (is_eq (int_cmp a c) && is_gt (int_cmp b d))

up_over : (a b c d : ℤ) → up a b c d ≡ over a b c d
up_over a b c d = go (int_cmp a c) (is_gt (int_cmp b d))
  where
    go : (o : Ordering) (p : Bool) → (is_ge o && (is_gt o || p)) ≡ (is_gt o || (is_eq o && p))
    go Less p = refl
    go Equal p = refl
    go Greater p = refl

over_itself : (a b : ℤ) → over a b a b ≡ false
over_itself a b = grind arith

above_at : (m n : ℤ) → is_gt (int_cmp m n) ≡ true → n <ℤ m
above_at m n e = grind (arith, ints, e)

equal_at : (m n : ℤ) → int_cmp m n ≡ Equal → m ≡ n
equal_at m n e = grind (arith, ints, e)

over_means : (a b c d : ℤ) → over a b c d ≡ true → (c <ℤ a) ⊎ ((a ≡ c) × (d <ℤ b))
over_means a b c d high = go (int_cmp a c) refl high
  where
    go : (o : Ordering) → int_cmp a c ≡ o → (is_gt o || (is_eq o && is_gt (int_cmp b d))) ≡ true
        → (c <ℤ a) ⊎ ((a ≡ c) × (d <ℤ b))
    go Less e on = absurd (true≢false (sym on))
    go Equal e on = inr (equal_at a c e, above_at b d on)
    go Greater e on = inl (above_at a c (ap is_gt e))

over_first : (a b c d : ℤ) → c <ℤ a → over a b c d ≡ true
over_first a b c d up = grind (arith, ints, up)

over_second : (a b c d : ℤ) → a ≡ c → d <ℤ b → over a b c d ≡ true
over_second a b c d e up = grind (arith, ints, e, up)

over_then : (a b c d e f : ℤ) → over a b c d ≡ true → over c d e f ≡ true → over a b e f ≡ true
over_then a b c d e f high low = go (over_means a b c d high) (over_means c d e f low)
  where
    go : (c <ℤ a) ⊎ ((a ≡ c) × (d <ℤ b)) → (e <ℤ c) ⊎ ((c ≡ e) × (f <ℤ d))
        → over a b e f ≡ true
    go (inl x) (inl y) = over_first a b e f (omega (arith, ints, x, y))
    go (inl x) (inr (p, y)) = over_first a b e f (omega (arith, ints, x, p))
    go (inr (p, x)) (inl y) = over_first a b e f (omega (arith, ints, p, y))
    go (inr (p, x)) (inr (q, y)) = over_second a b e f (p ∙ q) (omega (arith, ints, x, y))

over_back : (a b c d : ℤ) → over a b c d ≡ true → over c d a b ≡ false
over_back a b c d high = grind (arith, high)

apart_itself : (a b : ℤ) → apart a b a b ≡ false
apart_itself a b = grind arith

apart_over : (a b c d : ℤ) → over a b c d ≡ true → apart a b c d ≡ true
apart_over a b c d high = grind (arith, high)

apart_not : (a b c d : ℤ) → apart a b c d ≡ false → (a ≡ c) × (b ≡ d)
apart_not a b c d off = (grind (arith, off), grind (arith, off))

-- ---- rows of records2

-- of one node, time and picoseconds
abbrev IsMoment : Row → Row → Type 0
IsMoment s r =
    (column s 3 ≡ column r 3) × (column s 4 ≡ column r 4) × (column s 5 ≡ column r 5)

moment_back : (s r : Row) → IsMoment s r → IsMoment r s
moment_back s r (node, time, pico) = (sym node, sym time, sym pico)

moment_then : (s r q : Row) → IsMoment s r → IsMoment r q → IsMoment s q
moment_then s r q (node, time, pico) (node2, time2, pico2) =
    (node ∙ node2, time ∙ time2, pico ∙ pico2)

-- the stamp of the first is later
abbrev beats : Row → Row → Bool
beats s r =
    above (column s 2) (column r 2)
    || (same (column s 2) (column r 2) && above (column s 0) (column r 0))

beats_is : (s r : Row) (a : IsCells s) (b : IsCells r)
    → beats s r ≡ over a.tick a.origin b.tick b.origin
beats_is s r a b =
    ap₂ beats a.is b.is
    ∙ ap₂ ◌||◌ (above_ints a.tick b.tick)
    (ap₂ ◌&&◌ (same_ints a.tick b.tick) (above_ints a.origin b.origin))

beats_itself : (s : Row) → IsCells s → beats s s ≡ false
beats_itself s a = beats_is s s a a ∙ over_itself a.tick a.origin

beats_then : (s r q : Row) → IsCells s → IsCells r → IsCells q → beats s r ≡ true
    → beats r q ≡ true → beats s q ≡ true
beats_then s r q a b c high low =
    beats_is s q a c ∙ over_then a.tick a.origin b.tick b.origin c.tick c.origin
    (sym (beats_is s r a b) ∙ high) (sym (beats_is r q b c) ∙ low)

beats_back : (s r : Row) → IsCells s → IsCells r → beats s r ≡ true → beats r s ≡ false
beats_back s r a b high =
    beats_is r s b a ∙ over_back a.tick a.origin b.tick b.origin (sym (beats_is s r a b) ∙ high)

both_ints : (v w : Value) (m n : ℤ) → v ≡ Int m → w ≡ Int n → same v w ≡ true → v ≡ w
both_ints v w m n is is2 e = int_equal v w n is2 (ap (is_of kind.Integer) is) e

-- a test on rows of one moment
module _ (s r : Row) (a : IsCells s) (b : IsCells r) (rest : Bool) where
  abbrev at_moment : Bool
  at_moment =
      same (column s 3) (column r 3)
      && (same (column s 4) (column r 4) && (same (column s 5) (column r 5) && rest))

  moment_parts : at_moment ≡ true → IsMoment s r × (rest ≡ true)
  moment_parts e =
      let one = and_parts (same (column s 3) (column r 3)) (same (column s 4) (column r 4)
      && (same (column s 5) (column r 5) && rest)) e in
      let two = and_parts (same (column s 4) (column r 4))
      (same (column s 5) (column r 5) && rest) one.1 in
      let three = and_parts (same (column s 5) (column r 5)) rest two.1 in (
        (
          blob_equal (column s 3) (column r 3) b.node (ap (λ x. column x 3) b.is) one.0,
          both_ints (column s 4) (column r 4) a.time b.time (ap (λ x. column x 4) a.is)
              (ap (λ x. column x 4) b.is) two.0,
          both_ints (column s 5) (column r 5) a.pico b.pico (ap (λ x. column x 5) a.is)
              (ap (λ x. column x 5) b.is) three.0,
        ),
        three.1,
      )

  moment_made : IsMoment s r → rest ≡ true → at_moment ≡ true
  moment_made (node, time, pico) e =
      and_from (same (column s 3) (column r 3)) _
      (same_blob (column s 3) (column r 3) b.node node (ap (λ x. column x 3) b.is))
      (and_from (same (column s 4) (column r 4)) _
      (same_int (column s 4) (column r 4) b.time time (ap (λ x. column x 4) b.is))
      (and_from (same (column s 5) (column r 5)) rest
      (same_int (column s 5) (column r 5) b.pico pico (ap (λ x. column x 5) b.is)) e))

abbrev passes_later : Row → Row → Bool
passes_later s r = not_less (column s 2) (column s 0) (column r 2) (column r 0)

later_is : (s r : Row) → IsCells s → IsCells r → passes_later s r ≡ beats s r
later_is s r a b =
    ap₂ passes_later a.is b.is ∙ up_is a.tick a.origin b.tick b.origin
    ∙ up_over a.tick a.origin b.tick b.origin ∙ sym (beats_is s r a b)

later_parts : (r s : Row) → IsCells r → IsCells s → is_later r s ≡ true
    → IsMoment s r × (beats s r ≡ true)
later_parts r s b a e =
    let it = moment_parts s r a b (passes_later s r) e in
    (it.0, sym (later_is s r a b) ∙ it.1)

later_made : (r s : Row) → IsCells r → IsCells s → IsMoment s r → beats s r ≡ true
    → is_later r s ≡ true
later_made r s b a at high =
    moment_made s r a b (passes_later s r) at (later_is s r a b ∙ high)

abbrev passes_other : Row → Row → Bool
passes_other s r = not_same (column s 2) (column s 0) (column r 2) (column r 0)

passes_other_is : (s r : Row) (a : IsCells s) (b : IsCells r)
    → passes_other s r ≡ apart a.tick a.origin b.tick b.origin
passes_other_is s r a b =
    ap₂ passes_other a.is b.is ∙ apart_is a.tick a.origin b.tick b.origin

other_parts : (r s : Row) → IsCells r → IsCells s → is_other r s ≡ true
    → IsMoment s r × (passes_other s r ≡ true)
other_parts r s b a = moment_parts s r a b (passes_other s r)

other_made : (r s : Row) → IsCells r → IsCells s → IsMoment s r → passes_other s r ≡ true
    → is_other r s ≡ true
other_made r s b a = moment_made s r a b (passes_other s r)

-- rows whose stamps aren't others are of one stamp
one_stamp : (s r : Row) → IsCells s → IsCells r → passes_other s r ≡ false
    → (column s 2 ≡ column r 2) × (column s 0 ≡ column r 0)
one_stamp s r a b off =
    let same_ones = apart_not a.tick a.origin b.tick b.origin
    (sym (passes_other_is s r a b) ∙ off) in (
      ap (λ x. column x 2) a.is ∙ ap Int same_ones.0 ∙ sym (ap (λ x. column x 2) b.is),
      ap (λ x. column x 0) a.is ∙ ap Int same_ones.1 ∙ sym (ap (λ x. column x 0) b.is),
    )

other_not : (s r : Row) → IsCells s → IsCells r → column s 2 ≡ column r 2
    → column s 0 ≡ column r 0 → passes_other s r ≡ false
other_not s r a b tick origin =
    ap₂ (λ v w. not_same v w (column r 2) (column r 0)) tick origin
    ∙ passes_other_is r r b b ∙ apart_itself b.tick b.origin

beats_other : (s r : Row) → IsCells s → IsCells r → beats s r ≡ true → passes_other s r ≡ true
beats_other s r a b high =
    passes_other_is s r a b ∙ apart_over a.tick a.origin b.tick b.origin
    (sym (beats_is s r a b) ∙ high)

-- ---- the last of a moment

module _ (M : List Row) (each : AllByRecursion IsCells M) where
  typed : (r : Row) → Has M r → IsCells r
  typed r h = all_has IsCells M r each h

  -- none of these is later
  abbrev HasNoLater : Row → List Row → Type 0
  HasNoLater t xs = AllByRecursion (λ u. is_later t u ≡ false) xs

  -- a row of its moment that is it or later, and that none of these is later than
  abbrev IsLast : List Row → Row → Row → Type 0
  IsLast xs r t = Has M t × IsMoment t r × ((t ≡ r) ⊎ (beats t r ≡ true)) × HasNoLater t xs

  last_in : (r : Row) → Has M r → (xs : List Row) → ((x : Row) → Has xs x → Has M x)
      → (t : Row) × IsLast xs r t
  last_in r h [] within = (r, (h, (refl, refl, refl), inl refl, tt))
  last_in r h (x ∷ xs) within =
      let it = last_in r h xs (λ y k. within y (inr k)) in
      go it.0 it.1.0 it.1.1 it.1.2 it.1.3 (is_later it.0 x) refl
    where
      go : (t : Row) → Has M t → IsMoment t r → (t ≡ r) ⊎ (beats t r ≡ true) → HasNoLater t xs
          → (b : Bool) → is_later t x ≡ b → (u : Row) × IsLast (x ∷ xs) r u
      go t k at over_r none false e = (t, (k, at, over_r, (e, none)))
      go t k at over_r none true e =
          let parts = later_parts t x (typed t k) (typed x (within x (inl refl))) e in (
            x,
            (
              within x (inl refl),
              moment_then x t r parts.0 at,
              inr (beyond over_r parts.1),
              (
                off x (within x (inl refl)) (λ up. true≢false (sym (later_parts x x
                    (typed x (within x (inl refl))) (typed x (within x (inl refl))) up).1
                    ∙ beats_itself x (typed x (within x (inl refl))))),
                others xs (λ y m. within y (inr m)) none parts,
              ),
            ),
          )
        where
          beyond : (t ≡ r) ⊎ (beats t r ≡ true) → beats x t ≡ true → beats x r ≡ true
          beyond (inl is) up = subst (λ z. beats x z ≡ true) is up
          beyond (inr more) up = beats_then x t r (typed x (within x (inl refl))) (typed t k)
              (typed r h) up more

          off : (u : Row) → Has M u → (is_later x u ≡ true → ⊥) → is_later x u ≡ false
          off u m never =
              elim (cases_Bool (is_later x u)) [ inl on ↦ absurd (never on) | inr out ↦ out ]

          one : (u : Row) → Has M u → is_later t u ≡ false → IsMoment x t × (beats x t ≡ true)
              → is_later x u ≡ false
          one u m out parts = off u m (λ on.
              let more = later_parts x u (typed x (within x (inl refl))) (typed u m) on in
              true≢false (sym (later_made t u (typed t k) (typed u m)
              (moment_then u x t more.0 parts.0) (beats_then u x t (typed u m)
              (typed x (within x (inl refl))) (typed t k) more.1 parts.1)) ∙ out))

          others : (ys : List Row) → ((y : Row) → Has ys y → Has M y) → HasNoLater t ys
              → IsMoment x t × (beats x t ≡ true) → HasNoLater x ys
          others [] inside out parts = tt
          others (y ∷ ys) inside out parts = (
            one y (inside y (inl refl)) out.0 parts,
            others ys (λ z m. inside z (inr m)) out.1 parts,
          )

  abbrev tops : Row → Bool
  tops r = not (list_any (is_later r) M)

  -- the last one of a row's moment
  last_of_moment : (r : Row) → Has M r → (t : Row) × Has M t × IsMoment t r
      × ((t ≡ r) ⊎ (beats t r ≡ true)) × (tops t ≡ true)
  last_of_moment r h =
      let it = last_in r h M (λ x k. k) in
      (it.0, it.1.0, it.1.1, it.1.2, ap not (any_from_none (is_later it.0) M it.1.3))

  -- each row is shown by the one that follows from the last of its moment
  pub follow_shows : (r : Row) → Has M r → (c : Row) × Has (currents_of M) c × IsShownBy r c
  follow_shows r h =
      let it = last_of_moment r h in (
        current_of M it.0,
        has_mapped (current_of M) (filter tops M) it.0 (has_kept tops M it.0 it.1 it.4),
        (it.2, how it.0 it.1 it.2 it.3),
      )
    where
      how : (t : Row) → Has M t → IsMoment t r → (t ≡ r) ⊎ (beats t r ≡ true)
          → ((rises (current_of M t) r ≡ true) × (column (current_of M t) 6 ≡ Int (pos 1)))
          ⊎ (IsStamped (current_of M t) r × IsValued (current_of M t) r)
      how t k at (inl is) = inr (
        (ap (λ x. column x 2) is, ap (λ x. column x 0) is),
        (
          ap (λ x. binary (Compare Ne Binary) (column x 6) (Int (pos 4))) is,
          ap (λ x. column x 8) is,
        ),
      )
      how t k at (inr high) = inl (
        high,
        ap flag (any_by (is_other t) M r h (other_made t r (typed t k) (typed r h)
            (moment_back t r at) (turn (passes_other r t) (passes_other t r)
            (passes_turned r t (typed r h) (typed t k))
            (beats_other t r (typed t k) (typed r h) high)))),
      )
        where
          turn : (a b : Bool) → a ≡ b → b ≡ true → a ≡ true
          turn a b e on = e ∙ on

          passes_turned : (s q : Row) → IsCells s → IsCells q
              → passes_other s q ≡ passes_other q s
          passes_turned s q a b =
              passes_other_is s q a b ∙ turned a.tick a.origin b.tick b.origin
              ∙ sym (passes_other_is q s b a)
            where
              turned : (m n p q : ℤ) → apart m n p q ≡ apart p q m n
              turned m n p q = grind arith

  -- ---- rows that are of records, tell of others and show each record

  module _ (one : (a b : Row) → Has M a → Has M b → column a 2 ≡ column b 2
      → column a 0 ≡ column b 0 → a ≡ b) (C : List Row)
      (formed : (c : Row) → Has C c → c ≡ column c 0 ∷ column c 1 ∷ column c 2 ∷ column c 3
      ∷ column c 4 ∷ column c 5 ∷ column c 6 ∷ column c 7 ∷ [])
      (single : (c d : Row) → Has C c → Has C d → column c 0 ≡ column d 0
      → column c 1 ≡ column d 1 → column c 2 ≡ column d 2 → c ≡ d)
      (stamped : (c : Row) → Has C c → (s : Row) × Has M s × IsAt c s × IsStamped c s)
      (telling : (c : Row) → Has C c → (column c 6 ≡ Int (pos 0))
      ⊎ ((o : Row) × Has M o × IsAt c o × (IsStamped c o → ⊥)))
      (shown : (r : Row) → Has M r → (c : Row) × Has C c × IsShownBy r c) where
    abbrev IsHow : Row → Row → Type 0
    IsHow r c = ((rises c r ≡ true) × (column c 6 ≡ Int (pos 1)))
        ⊎ (IsStamped c r × IsValued c r)

    rises_as : (c s r : Row) → IsStamped c s → rises c r ≡ beats s r
    rises_as c s r (tick, origin) =
        ap₂ (λ v w. above v (column r 2) || (same v (column r 2) && above w (column r 0))) tick
        origin

    -- the row of a moment shows each record of it
    shows_it : (c r : Row) → Has C c → Has M r → IsAt c r → IsHow r c
    shows_it c r h k (node, time, pico) =
        let it = shown r k in
        let is : it.0 ≡ c = single it.0 c it.1 h (it.2.0.0 ∙ sym node)
        (it.2.0.1 ∙ sym time) (it.2.0.2 ∙ sym pico) in
        subst (IsHow r) is it.2.1

    at_other : (c s o : Row) → IsAt c s → IsMoment o s → IsAt c o
    at_other c s o (node, time, pico) (node2, time2, pico2) =
        (node ∙ sym node2, time ∙ sym time2, pico ∙ sym pico2)

    moment_of : (c s o : Row) → IsAt c s → IsAt c o → IsMoment o s
    moment_of c s o (node, time, pico) (node2, time2, pico2) =
        (sym node2 ∙ node, sym time2 ∙ time, sym pico2 ∙ pico)

    -- it is the one of its record
    is_own : (c s : Row) → Has C c → Has M s → IsAt c s → IsStamped c s → IsValued c s
    is_own c s h k at stamp = go (shows_it c s h k at)
      where
        go : IsHow s c → IsValued c s
        go (inl (high, tells)) = absurd (true≢false (sym high
            ∙ (rises_as c s s stamp ∙ beats_itself s (typed s k))))
        go (inr (stamp_too, valued)) = valued

    -- it tells of others where there are some
    tells_it : (c s : Row) → Has C c → Has M s → IsAt c s → IsStamped c s
        → column c 6 ≡ flag (list_any (is_other s) M)
    tells_it c s h k at stamp = go (list_any (is_other s) M) refl
      where
        with_other : (o : Row) → Has M o → is_other s o ≡ true → IsMoment o s → IsHow o c
            → column c 6 ≡ Int (pos 1)
        with_other o m on there (inl (high, tells)) = tells
        with_other o m on there (inr ((tick, origin), rest)) =
            absurd (true≢false (sym (other_parts s o (typed s k) (typed o m) on).1
            ∙ other_not o s (typed o m) (typed s k) (sym tick ∙ stamp.0) (sym origin ∙ stamp.1)))

        alone : list_any (is_other s) M ≡ false → (column c 6 ≡ Int (pos 0))
            ⊎ ((o : Row) × Has M o × IsAt c o × (IsStamped c o → ⊥)) → column c 6 ≡ Int (pos 0)
        alone none (inl is) = is
        alone none (inr (o, m, there, differs)) =
            let off : is_other s o ≡ false = all_has (λ u. is_other s u ≡ false) M o
            (none_from_any (is_other s) M none) m in
            absurd (differs (same_stamp (passes_other o s) refl off))
          where
            same_stamp : (b : Bool) → passes_other o s ≡ b → is_other s o ≡ false → IsStamped c o
            same_stamp true e off = absurd (true≢false (sym (other_made s o (typed s k)
                (typed o m) (moment_of c s o at there) e) ∙ off))
            same_stamp false e off =
                let stamps = one_stamp o s (typed o m) (typed s k) e in
                (stamp.0 ∙ sym stamps.0, stamp.1 ∙ sym stamps.1)

        go : (b : Bool) → list_any (is_other s) M ≡ b → column c 6 ≡ flag b
        go true e =
            let it = any_has (is_other s) M e in
            let parts = other_parts s it.0 (typed s k) (typed it.0 it.1) it.2 in
            with_other it.0 it.1 it.2 parts.0
            (shows_it c it.0 h it.1 (at_other c s it.0 at parts.0))
        go false e = alone e (telling c h)

    -- so each is of some record
    of_record : (c : Row) → Has C c → (s : Row) × Has M s × IsAt c s × IsStamped c s
        × (c ≡ current_of M s)
    of_record c h = go (stamped c h)
      where
        go : (s : Row) × Has M s × IsAt c s × IsStamped c s → (s : Row) × Has M s × IsAt c s
            × IsStamped c s × (c ≡ current_of M s)
        go (s, k, at, stamp) =
            let own = is_own c s h k at stamp in (
              s,
              k,
              at,
              stamp,
              formed c h ∙ ap₂ ◌∷◌ at.0 (ap₂ ◌∷◌ at.1 (ap₂ ◌∷◌ at.2 (ap₂ ◌∷◌ stamp.0
                  (ap₂ ◌∷◌ stamp.1 (ap₂ ◌∷◌ own.0 (ap₂ ◌∷◌ (tells_it c s h k at stamp)
                  (ap (λ v. v ∷ []) own.1))))))),
            )

    -- each that follows is there
    pub forth : (x : Row) → Has (currents_of M) x → Has C x
    forth x h =
        let at = has_from_map (current_of M) (filter tops M) x h in
        let kept = kept_of tops M at.0 at.1 in
        let it = shown at.0 kept.0 in
        let own = of_record it.0 it.1 in
        subst (Has C) (own.4 ∙ ap (current_of M) (is at.0 kept.0 kept.1 it.0 own.0 own.1 it.2.0
        own.2 own.3 it.2.1) ∙ sym at.2) it.1
      where
        is : (r : Row) → Has M r → tops r ≡ true → (c s : Row) → Has M s → IsAt c r → IsAt c s
            → IsStamped c s → IsHow r c → s ≡ r
        is r k top c s m at_r at_s stamp (inl (high, tells)) =
            absurd (true≢false (sym (any_by (is_later r) M s m
            (later_made r s (typed r k) (typed s m) (moment_of c r s at_r at_s)
            (sym (rises_as c s r stamp) ∙ high))) ∙ off (list_any (is_later r) M) top))
          where
            off : (b : Bool) → not b ≡ true → b ≡ false
            off true e = absurd (true≢false (sym e))
            off false e = refl
        is r k top c s m at_r at_s stamp (inr ((tick, origin), rest)) =
            one s r m k (sym stamp.0 ∙ tick) (sym stamp.1 ∙ origin)

    -- and no other
    pub back : (c : Row) → Has C c → Has (currents_of M) c
    back c h =
        let it = of_record c h in
        subst (Has (currents_of M)) (sym it.4) (has_mapped (current_of M) (filter tops M) it.0
        (has_kept tops M it.0 it.1 (ap not (any_from_none (is_later it.0) M (all_from
        (λ u. is_later it.0 u ≡ false) M (λ u m. none it.0 it.1 it.2 it.3 u m))))))
      where
        none : (s : Row) → Has M s → IsAt c s → IsStamped c s → (u : Row) → Has M u
            → is_later s u ≡ false
        none s k at stamp u m =
            elim (cases_Bool (is_later s u)) [
              | inl on ↦ absurd (lost (later_parts s u (typed s k) (typed u m) on))
              | inr out ↦ out
            ]
          where
            lost_by : beats u s ≡ true → IsHow u c → ⊥
            lost_by high (inl (below, tells)) = true≢false (sym (sym (rises_as c s u stamp) ∙ below)
                ∙ beats_back u s (typed u m) (typed s k) high)
            lost_by high (inr ((tick, origin), rest)) =
                true≢false (sym high ∙ subst (λ z. beats z s ≡ false)
                (one s u k m (sym stamp.0 ∙ tick) (sym stamp.1 ∙ origin))
                (beats_itself s (typed s k)))

            lost : IsMoment u s × (beats u s ≡ true) → ⊥
            lost (there, high) = lost_by high (shows_it c u h m (at_other c s u at there))
