-- Node ids: how a text is split, and that what is written is read.
use Rattle.std.proofs.Common.{◌≡◌, ℕ, suc, ◌+◌, ◌^◌, ◌<◌, ◌==◌, List, [], ◌∷◌, ◌++◌, length, codes, Option, Some, None, Ok, Err, MatchOption, Bor, Bool, true, false, refl, sym, ap, subst, ◌∙◌, arith, append_assoc, inl, inr, take, drop}
use Rattle.std.specs.Option.{option_map}
use Rattle.std.specs.List.{position_or_len, before_first, after_first}
use Rattle.std.specs.Fmt.{decimal}
use Rattle.std.specs.Str.{bytes_eq}
use Rattle.std.specs.Str.Parse.{AllDigits}
use Rattle.std.specs.Char.{digit_value}
use Rattle.std.proofs.lemmas.Bool.{cases_Bool, eqb-true}
use Rattle.std.proofs.lemmas.Fmt.{decimal_is_IsNumeral}
use Rattle.std.proofs.lemmas.Str.Pattern.{IsSplitOnceResult, split_once_first}
use Rattle.base64.specs.Engines.{standard}
use Rattle.base64.specs.GeneralPurpose.{encode_of}
use Rattle.ua_binary.specs.declared.values.Guid.{Guid}
use Rattle.ua_binary.specs.declared.values.NodeId.TheVariants.{Numeric, Named, Global, Opaque}
use Rattle.ua_variant.specs.declared.value.Scalar.{Scalar}
use Rattle.ua_variant.specs.declared.value.Scalar.TheVariants.{Guid as GuidValue}
use Rattle.history_text.specs.Guids.{guid_in, guid_text}
use Rattle.history_text.specs.Values.{as_value}
use Rattle.history_text.specs.declared.fault.TextFault.{TextFault}
use Rattle.history_text.specs.declared.fault.TextFault.TheVariants.{NoGuid}
use Rattle.history_text.proofs.NumbersLemmas.{read_unsigned}
use Rattle.history_csv.specs.Nodes.{split, guid_of, opaque_in, id_in, placed_in, node_in, namespace_text, node_text}

-- ---- a text is split

-- a text with the letter is split before and behind its first one
found_where : (c x : ℕ) (rest : List ℕ) (b : Bool) → (x == c) ≡ b
    → (position_or_len (λ b. b == c) rest < length rest
    → split c rest ≡ Some (before_first (λ b. b == c) rest, after_first (λ b. b == c) rest))
    → position_or_len (λ b. b == c) (x ∷ rest) < length (x ∷ rest)
    → split c (x ∷ rest)
    ≡ Some (before_first (λ b. b == c) (x ∷ rest), after_first (λ b. b == c) (x ∷ rest))
found_where c x rest true e below h = rw e refl
found_where c x rest false e below h =
    let n = position_or_len (λ b. b == c) rest in
    let inside : n < length rest = omega (arith, rw e at h) in
    let place : position_or_len (λ b. b == c) (x ∷ rest) ≡ suc n = rw e (omega arith) in
    let behind : position_or_len (λ b. b == c) (x ∷ rest) + 1 ≡ suc (n + 1) = omega arith in
    let split_there : split c (x ∷ rest) ≡ Some (x ∷ take n rest, drop (n + 1) rest) =
    rw (e, below inside) refl in
    split_there ∙ (λ i. Some (take (sym place i) (x ∷ rest), drop (sym behind i) (x ∷ rest)))

found : (c : ℕ) (text : List ℕ) → position_or_len (λ b. b == c) text < length text
    → split c text ≡ Some (before_first (λ b. b == c) text, after_first (λ b. b == c) text)
found c [] h = absurd (omega arith)
found c (x ∷ rest) h = found_where c x rest (x == c) refl (found c rest) h

-- a text without the letter isn't
missing_where : (c x : ℕ) (rest : List ℕ) (b : Bool) → (x == c) ≡ b
    → (position_or_len (λ b. b == c) rest ≡ length rest → split c rest ≡ None)
    → position_or_len (λ b. b == c) (x ∷ rest) ≡ length (x ∷ rest)
    → split c (x ∷ rest) ≡ None
missing_where c x rest true e below h = absurd (omega (arith, rw e at h))
missing_where c x rest false e below h =
    let none : position_or_len (λ b. b == c) rest ≡ length rest = omega (arith, rw e at h) in
    rw (e, below none) refl

missing : (c : ℕ) (text : List ℕ) → position_or_len (λ b. b == c) text ≡ length text
    → split c text ≡ None
missing c [] h = refl
missing c (x ∷ rest) h = missing_where c x rest (x == c) refl (missing c rest) h

-- `split_once` gives what is so split
pub split_is : (c : ℕ) (text : List ℕ) (r : Option (Bor (List ℕ) × Bor (List ℕ)))
    → IsSplitOnceResult c text r → c < 128
    → MatchOption r (split c text ≡ None) (λ parts. split c text ≡ Some (parts.0.now, parts.1.now))
split_is c text None h low = missing c text (split_once_first c text None h low)
split_is c text (Some x) h low =
    let k = split_once_first c text (Some x) h low in
    found c text k.0 ∙ rw (k.1, k.2) refl

-- ---- a Guid is read by its value

pub guid_read : (o : Option Guid) (v : Scalar) → as_value GuidValue NoGuid o ≡ Ok v
    → guid_of v ≡ o
guid_read (Some guid) v e = rw (← e_of) refl
  where
    e_of : GuidValue guid ≡ v
    e_of = cc
guid_read None v e = absurd cc

pub guid_refused : (o : Option Guid) (e : TextFault) → as_value GuidValue NoGuid o ≡ Err e
    → o ≡ None
guid_refused (Some guid) e h = absurd cc
guid_refused None e h = refl

-- ---- what is written is read

-- a digit is no semicolon
no_semicolon : (x : ℕ) → digit_value x < 10 → (x == 59) ≡ false
no_semicolon x h = elim (cases_Bool (x == 59)) [
  | inl same ↦ absurd (omega (arith, subst (λ n. digit_value n < 10) (eqb-true x 59 same) h))
  | inr other ↦ other
]

-- digits are split off behind them
behind : (digits rest : List ℕ) → AllDigits 10 digits
    → split 59 (digits ++ 59 ∷ rest) ≡ Some (digits, rest)
behind [] rest all = refl
behind (x ∷ digits) rest (d, all) = rw (no_semicolon x d, behind digits rest all) refl

-- a namespace is read, and then the id
in_namespace : (namespace k : ℕ) (id : List ℕ) → namespace < 2 ^ 16
    → split 61 (k ∷ 61 ∷ id) ≡ Some (k ∷ [], id)
    → placed_in (decimal namespace ++ 59 ∷ k ∷ 61 ∷ id) ≡ id_in namespace (k ∷ []) id
in_namespace namespace k id few apart =
    let digits = (decimal_is_IsNumeral namespace (omega arith)).0.1 in
    rw (
      behind (decimal namespace) (k ∷ 61 ∷ id) digits,
      read_unsigned 16 namespace (omega arith) few,
      apart,
    ) refl

placed_where : (namespace k : ℕ) (id : List ℕ) (b : Bool) → (namespace == 0) ≡ b
    → namespace < 2 ^ 16 → split 61 (k ∷ 61 ∷ id) ≡ Some (k ∷ [], id)
    → bytes_eq (k ∷ []) (codes "ns") ≡ false
    → node_in (namespace_text namespace ++ k ∷ 61 ∷ id) ≡ id_in namespace (k ∷ []) id
placed_where namespace k id true e few apart other =
    rw (e, apart, other, eqb-true namespace 0 e) refl
placed_where namespace k id false e few apart other =
    rw (e, append_assoc (decimal namespace) (59 ∷ []) (k ∷ 61 ∷ id))
    (in_namespace namespace k id few apart)

-- a node is read by its namespace and its id
placed : (namespace k : ℕ) (id : List ℕ) → namespace < 2 ^ 16
    → split 61 (k ∷ 61 ∷ id) ≡ Some (k ∷ [], id) → bytes_eq (k ∷ []) (codes "ns") ≡ false
    → node_in (namespace_text namespace ++ k ∷ 61 ∷ id) ≡ id_in namespace (k ∷ []) id
placed namespace k id = placed_where namespace k id (namespace == 0) refl

pub numeric_again : (namespace id : ℕ) → namespace < 2 ^ 16 → id < 2 ^ 32
    → node_in (node_text (Numeric namespace id)) ≡ Some (Numeric namespace id)
numeric_again namespace id p q =
    ap node_in (append_assoc (namespace_text namespace) (codes "i=") (decimal id))
    ∙ placed namespace 105 (decimal id) p refl refl
    ∙ ap (option_map (Numeric namespace)) (read_unsigned 32 id (omega arith) q)

pub named_again : (namespace : ℕ) (name : List ℕ) → namespace < 2 ^ 16
    → node_in (node_text (Named namespace name)) ≡ Some (Named namespace name)
named_again namespace name p =
    ap node_in (append_assoc (namespace_text namespace) (codes "s=") name)
    ∙ placed namespace 115 name p refl refl

pub global_again : (namespace : ℕ) (id : Guid) → namespace < 2 ^ 16
    → guid_in (guid_text id) ≡ Some id
    → node_in (node_text (Global namespace id)) ≡ Some (Global namespace id)
global_again namespace id p q =
    ap node_in (append_assoc (namespace_text namespace) (codes "g=") (guid_text id))
    ∙ placed namespace 103 (guid_text id) p refl refl ∙ ap (option_map (Global namespace)) q

pub bytes_again : (namespace : ℕ) (id : List ℕ) → namespace < 2 ^ 16
    → opaque_in (encode_of standard id) ≡ Some id
    → node_in (node_text (Opaque namespace id)) ≡ Some (Opaque namespace id)
bytes_again namespace id p q =
    ap node_in (append_assoc (namespace_text namespace) (codes "b=") (encode_of standard id))
    ∙ placed namespace 98 (encode_of standard id) p refl refl
    ∙ ap (option_map (Opaque namespace)) q
