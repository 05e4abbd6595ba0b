-- What is asked of the items of a list, and of what they are seen as.
use Rattle.std.proofs.Common.{Bor, ◌≡◌, ◌+◌, ◌<◌, ◌&&◌, ◌||◌, ℕ, ◌++◌, length, get_or, take, drop, append_assoc, Bool, true, false, List, [], ◌∷◌, map, find, cond, refl, ap, ap₂, arith, sym, ◌∙◌, subst, Option, None, Some, option_map, nat_eq, is_some, is_ok, Result, Ok, Err, IsOk, ◌↔◌}
use Rattle.std.proofs.lemmas.Bool.{false≢true}
use Rattle.std.specs.Prelude.{position, if◌then◌else◌}
use Rattle.std.specs.List.{list_any, count_by, fold, position_from}
use Rattle.std.proofs.lemmas.Iterator.Adapters.{position_from-zero}
use Rattle.std.proofs.lemmas.List.{drop_more, take_more, get_or-map, length-map, take-map}
use Rattle.ua_settings.specs.Place.{repeated_from}
use Rattle.std.specs.Cmp.Lexicographic.{pointwise}
use Rattle.ua_settings.specs.declared.keys.Key.{Key}
use Rattle.ua_settings.specs.declared.keys.Section.{Section}
use Rattle.ua_settings.specs.File.{Rule, rules}
use Rattle.ua_settings.specs.Judging.{is_key}
use Rattle.ua_settings.proofs.FileParts.{name_of}
use Rattle.ua_settings.specs.Keys.{rule_of}

pub any_of_mapped : {X Y : Type 0} (f : X → Y) (test : Y → Bool) (xs : List X)
    → list_any test (map f xs) ≡ list_any (λ x. test (f x)) xs
any_of_mapped f test [] = refl
any_of_mapped f test (x ∷ xs) = ap (λ more. test (f x) || more) (any_of_mapped f test xs)

counted_from : {X Y : Type 0} (f : X → Y) (test : Y → Bool) (n : ℕ) (xs : List X)
    → fold (λ a y. a + cond (test y) 1 0) n (map f xs)
    ≡ fold (λ a x. a + cond (test (f x)) 1 0) n xs
counted_from f test n [] = refl
counted_from f test n (x ∷ xs) = counted_from f test (n + cond (test (f x)) 1 0) xs

pub count_of_mapped : {X Y : Type 0} (f : X → Y) (test : Y → Bool) (xs : List X)
    → count_by test (map f xs) ≡ count_by (λ x. test (f x)) xs
count_of_mapped f test xs = counted_from f test 0 xs

found_first : {X Y : Type 0} (f : X → Y) (b : Bool) (x : X) (more : Option Y) (later : Option X)
    → more ≡ option_map f later → cond b (Some (f x)) more ≡ option_map f (cond b (Some x) later)
found_first f true x more later same = refl
found_first f false x more later same = same

pub find_of_mapped : {X Y : Type 0} (f : X → Y) (test : Y → Bool) (xs : List X)
    → find test (map f xs) ≡ option_map f (find (λ x. test (f x)) xs)
find_of_mapped f test [] = refl
find_of_mapped f test (x ∷ xs) = found_first f (test (f x)) x _ _ (find_of_mapped f test xs)

mapped_twice : (found : Option Key)
    → option_map name_of (option_map rule_of found)
    ≡ option_map (λ key. name_of (rule_of key)) found
mapped_twice None = refl
mapped_twice (Some key) = refl

pub any_of_rules : (section : Section) (name : List ℕ) (keys : List Key)
    → map rule_of keys ≡ rules section
    → list_any (λ key. pointwise nat_eq name (rule_of key).name) keys ≡ is_key section name
any_of_rules section name keys same =
    sym (any_of_mapped rule_of (λ rule. pointwise nat_eq name rule.name) keys)
    ∙ ap (list_any (λ rule. pointwise nat_eq name rule.name)) same

pub found_rule : (test : Rule → Bool) (section : Section) (keys : List Key)
    → map rule_of keys ≡ rules section
    → option_map name_of (find test (rules section))
    ≡ option_map (λ key. name_of (rule_of key)) (find (λ key. test (rule_of key)) keys)
found_rule test section keys same =
    ap (λ all. option_map name_of (find test all)) (sym same)
    ∙ ap (option_map name_of) (find_of_mapped rule_of test keys)
    ∙ mapped_twice (find (λ key. test (rule_of key)) keys)

pub id_told : {E : Type 0} (read : Result (List ℕ) E) (text : Option (List ℕ))
    → (IsOk read ↔ ((id : List ℕ) × (text ≡ Some id))) → is_ok read ≡ is_some text
id_told (Ok id) (Some text) told = refl
id_told (Ok id) None told = absurd (none_told (told.0 refl))
  where
    none_told : ((id : List ℕ) × (None ≡ Some id)) → ⊥
    none_told (id, same) = cc
id_told (Err e) None told = refl
id_told (Err e) (Some text) told = absurd (false≢true (told.1 (text, refl)))

-- two texts are equal either way
pub turned : (a b : List ℕ) → pointwise nat_eq a b ≡ pointwise nat_eq b a
turned [] [] = refl
turned [] (y ∷ ys) = refl
turned (x ∷ xs) [] = refl
turned (x ∷ xs) (y ∷ ys) = ap₂ ◌&&◌ (numbers x y) (turned xs ys)
  where
    numbers : (m n : ℕ) → nat_eq m n ≡ nat_eq n m
    numbers m n = grind arith

-- ---- the first of some items, by its place

from_later : {X : Type 0} (test : X → Bool) (n : ℕ) (xs : List X)
    → position_from test (n + 1) xs ≡ option_map (λ k. k + 1) (position_from test n xs)
from_later test n [] = refl
from_later test n (x ∷ xs) = found_later (test x) n (position_from test (n + 1) xs)
    (position_from test (n + 1 + 1) xs) (from_later test (n + 1) xs)
  where
    found_later : (b : Bool) (n : ℕ) (more later : Option ℕ) → later ≡ option_map (λ k. k + 1) more
        → cond b (Some (n + 1)) later ≡ option_map (λ k. k + 1) (cond b (Some n) more)
    found_later true n more later same = refl
    found_later false n more later same = same

pub from_mapped : {X Y : Type 0} (f : X → Y) (test : Y → Bool) (n : ℕ) (xs : List X)
    → position_from test n (map f xs) ≡ position_from (λ x. test (f x)) n xs
from_mapped f test n [] = refl
from_mapped f test n (x ∷ xs) = ap (cond (test (f x)) (Some n)) (from_mapped f test (n + 1) xs)

-- numbered from 1, of items and of what they are seen as
pub first_mapped : {X Y : Type 0} (f : X → Y) (test : Y → Bool) (xs : List X)
    → position_from test 1 (map f xs) ≡ option_map (λ k. k + 1) (position (λ x. test (f x)) xs)
first_mapped f test xs = from_mapped f test 1 xs
    ∙ (from_later (λ x. test (f x)) 0 xs
    ∙ ap (option_map (λ k. k + 1)) (sym (position_from-zero (λ x. test (f x)) xs)))

-- ---- an id that stands before

any_append : {X : Type 0} (test : X → Bool) (xs ys : List X)
    → list_any test (xs ++ ys) ≡ (list_any test xs || list_any test ys)
any_append test [] ys = refl
any_append test (x ∷ xs) ys = ap (λ more. test x || more) (any_append test xs ys)
    ∙ or_assoc (test x) (list_any test xs) (list_any test ys)
  where
    or_assoc : (a b c : Bool) → (a || (b || c)) ≡ ((a || b) || c)
    or_assoc true b c = refl
    or_assoc false b c = refl

-- the text of a reference
abbrev pub text_at_ref : Bor (List ℕ) → List ℕ
text_at_ref id = id.now

abbrev pub is_id_of : List ℕ → List ℕ → Bool
is_id_of id other = pointwise nat_eq other id

-- an id is one of others or of those before it
stands_in : (id : List ℕ) (others before : List (Bor (List ℕ)))
    → list_any (is_id_of id) (map text_at_ref others ++ map text_at_ref before)
    ≡ (list_any (λ other. is_id_of id other.now) others
    || list_any (λ other. is_id_of id other.now) before)
stands_in id others before =
    any_append (is_id_of id) (map text_at_ref others) (map text_at_ref before)
    ∙ (ap (λ (b : Bool). b || list_any (is_id_of id) (map text_at_ref before))
    (any_of_mapped text_at_ref (is_id_of id) others)
    ∙ ap (λ (b : Bool). list_any (λ other. is_id_of id other.now) others || b)
    (any_of_mapped text_at_ref (is_id_of id) before))

pub stands_then : (id : List ℕ) (others before : List (Bor (List ℕ))) (r : Bool)
    → r ≡ list_any (λ other. is_id_of id other.now) others → r ≡ true
    → r ≡ list_any (is_id_of id) (map text_at_ref others ++ map text_at_ref before)
stands_then id others before r is true-so =
    true-so ∙ sym (stands_in id others before
    ∙ ap (λ (a : Bool). a || list_any (λ other. is_id_of id other.now) before)
    (sym is ∙ true-so))

pub stands_else : (id : List ℕ) (others before : List (Bor (List ℕ))) (r s : Bool)
    → r ≡ list_any (λ other. is_id_of id other.now) others → r ≡ false
    → s ≡ list_any (λ other. is_id_of id other.now) before
    → s ≡ list_any (is_id_of id) (map text_at_ref others ++ map text_at_ref before)
stands_else id others before r s is false-so same =
    same ∙ sym (stands_in id others before
    ∙ ap (λ (a : Bool). a || list_any (λ other. is_id_of id other.now) before)
    (sym is ∙ false-so))

module _ (seen : List (List ℕ)) (ids : List (Bor (List ℕ))) (i : ℕ) (y : List ℕ)
    (within : i < length ids) (item : (d : Bor (List ℕ)) → (get_or ids i d).now ≡ y) where
  abbrev pub texts_of : List (List ℕ)
  texts_of = map text_at_ref ids

  there : i < length texts_of
  there = subst (λ (n : ℕ). i < n) (sym (length-map ids text_at_ref)) within

  is : get_or texts_of i y ≡ y
  is = get_or-map text_at_ref ids i (record { ref_ptr = (0, 0); now = y }) y within
      ∙ item (record { ref_ptr = (0, 0); now = y })

  front : map text_at_ref (take i ids) ≡ take i texts_of
  front = sym (take-map text_at_ref i ids)

  next : (n : ℕ) (b : Bool) → b ≡ list_any (is_id_of y) (seen ++ map text_at_ref (take i ids))
      → repeated_from n (seen ++ take i texts_of) (drop i texts_of)
      ≡ (if b then Some n else repeated_from (n + 1) ((seen ++ take i texts_of) ++ y ∷ [])
      (drop (i + 1) texts_of))
  next n b told =
      ap (repeated_from n (seen ++ take i texts_of)) (drop_more texts_of i y there)
      ∙ (ap (λ (z : List ℕ). if list_any (is_id_of z)
      (seen ++ take i texts_of) then Some n else repeated_from (n + 1)
      ((seen ++ take i texts_of) ++ z ∷ []) (drop (i + 1) texts_of)) is
      ∙ ap (λ (c : Bool). if c then Some n else repeated_from (n + 1)
      ((seen ++ take i texts_of) ++ y ∷ []) (drop (i + 1) texts_of))
      (sym (told ∙ ap (λ (l : List (List ℕ)). list_any (is_id_of y) (seen ++ l)) front)))

  repeated_at : (old : Option ℕ) (n : ℕ) (b : Bool)
      → old ≡ repeated_from n (seen ++ take i texts_of) (drop i texts_of)
      → b ≡ list_any (is_id_of y) (seen ++ map text_at_ref (take i ids)) → b ≡ true → Some n ≡ old
  repeated_at old n b so told here =
      sym (so ∙ (next n b told ∙ ap (λ (c : Bool).
      if c then Some n else repeated_from (n + 1) ((seen ++ take i texts_of) ++ y ∷ [])
      (drop (i + 1) texts_of)) here))

  repeated_behind : (old : Option ℕ) (n : ℕ) (b : Bool)
      → old ≡ repeated_from n (seen ++ take i texts_of) (drop i texts_of)
      → b ≡ list_any (is_id_of y) (seen ++ map text_at_ref (take i ids)) → b ≡ false
      → old ≡ repeated_from (n + 1) (seen ++ take (i + 1) texts_of) (drop (i + 1) texts_of)
  repeated_behind old n b so told later =
      so
      ∙ (next n b told
      ∙ (ap (λ (c : Bool). if c then Some n else repeated_from (n + 1)
      ((seen ++ take i texts_of) ++ y ∷ []) (drop (i + 1) texts_of)) later
      ∙ ap (λ (l : List (List ℕ)). repeated_from (n + 1) l (drop (i + 1) texts_of))
      (append_assoc seen (take i texts_of) (y ∷ []) ∙ ap (λ (l : List (List ℕ)). seen ++ l)
      (sym (take_more texts_of i y there ∙ ap (λ (z : List ℕ). take i texts_of ++ z ∷ []) is)))))

pub repeated_here : (seen : List (List ℕ)) (ids : List (Bor (List ℕ))) (i : ℕ) (y : List ℕ)
    (old : Option ℕ) (n : ℕ) (b : Bool) → i < length ids
    → old ≡ repeated_from n (seen ++ take i (map text_at_ref ids)) (drop i (map text_at_ref ids))
    → b ≡ list_any (is_id_of y) (seen ++ map text_at_ref (take i ids)) → b ≡ true
    → ((d : Bor (List ℕ)) → (get_or ids i d).now ≡ y) → Some n ≡ old
repeated_here seen ids i y old n b within so told here item =
    repeated_at seen ids i y within item old n b so told here

pub repeated_on : (seen : List (List ℕ)) (ids : List (Bor (List ℕ))) (i : ℕ) (y : List ℕ)
    (old : Option ℕ) (n : ℕ) (b : Bool) → i < length ids
    → old ≡ repeated_from n (seen ++ take i (map text_at_ref ids)) (drop i (map text_at_ref ids))
    → b ≡ list_any (is_id_of y) (seen ++ map text_at_ref (take i ids)) → b ≡ false
    → ((d : Bor (List ℕ)) → (get_or ids i d).now ≡ y)
    → old ≡ repeated_from (n + 1) (seen ++ take (i + 1) (map text_at_ref ids))
    (drop (i + 1) (map text_at_ref ids))
repeated_on seen ids i y old n b within so told later item =
    repeated_behind seen ids i y within item old n b so told later
