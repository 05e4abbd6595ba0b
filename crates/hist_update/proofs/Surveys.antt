-- The survey of a place.
use Rattle.std.proofs.Common.{◌≡◌, ℕ, Bool, true, false, List, [], ◌∷◌, take, slice_get, Option, Some, None, option_copied, Bor, Ok, refl, sym, ap, ◌∙◌, subst, arith, inl}
use Rattle.std.specs.Prelude.{⊤, ℤ, ◌+◌, ◌≤ℤ◌, min, is_some}
use Rattle.std.proofs.lemmas.Int.{ints}
use Rattle.std.proofs.lemmas.Option.{none-some}
use Rattle.stamp.specs.Limits.{greatest, lift}
use Rattle.stamp.specs.Numbers.{number_of}
use Rattle.ua_binary.specs.declared.values.NodeId.{NodeId}
use Rattle.records.specs.Lists.{Has}
use Rattle.records.specs.Records.{live_value}
use Rattle.records.specs.Contents.{Content, vec, top, cut}
use Rattle.records.specs.declared.shown.Held.{Held}
use Rattle.archive.specs.declared.reading.Direction.TheVariants.{Forward}
use Rattle.archive.specs.Reading.{range_of}
use Rattle.archive.specs.Store.{Store, Asks}
use Rattle.archive.proofs.Calls.{asks-then, left_in_use}
use Rattle.archive.proofs.Ranges.{range_has}
use Rattle.archive.proofs.Timing.{current_time}
use Rattle.hist_update.specs.declared.request.Request.{Request}
use Rattle.hist_update.specs.declared.operate.ChangePlace.{ChangePlace}
use Rattle.hist_update.specs.Operating.{IsChangePlace}
use Rattle.hist_update.specs.Outcome.{is_live}
use Rattle.hist_update.proofs.Asking.{covers_all}

-- ---- whether a value is live at a moment

has_first : (xs : List Held) (h : Held) → Has xs h → is_some (slice_get (take 1 xs) 0) ≡ true
has_first [] h k = absurd k
has_first (x ∷ xs) h k = refl

-- its range, from it to itself, has the live value, if there is one, and nothing else
pub first_tells : (R : Content) (node : NodeId) (time : ℤ)
    → is_some (slice_get (take 1 (range_of R node time time Forward)) 0) ≡ is_live R node time
first_tells R node time = go (live_value R node time) refl
  where
    one : (s t : ℤ) → s ≤ℤ t → t ≤ℤ s → s ≡ t
    one s t low high = grind (arith, ints)

    itself : (t : ℤ) → t ≤ℤ t
    itself t = grind (arith, ints)

    none : live_value R node time ≡ None → (xs : List Held)
        → ((h : Held) → Has xs h → Has (range_of R node time time Forward) h)
        → is_some (slice_get (take 1 xs) 0) ≡ false
    none e [] all = refl
    none e (x ∷ xs) all =
        let m = (range_has R node time time Forward x).0 (all x (inl refl)) in
        let there : live_value R node time ≡ Some x =
        subst (λ t. live_value R node t ≡ Some x) (one x.time time m.high m.low) m.live in
        absurd (none-some x (sym e ∙ there))

    go : (o : Option Held) → live_value R node time ≡ o
        → is_some (slice_get (take 1 (range_of R node time time Forward)) 0)
        ≡ is_some (live_value R node time)
    go None e = none e (range_of R node time time Forward) (λ h k. k) ∙ ap is_some (sym e)
    go (Some h) e =
        let same = (current_time R node time h e).1 in
        has_first (range_of R node time time Forward) h
        ((range_has R node time time Forward h).1 (record {
          live = subst (λ t. live_value R node t ≡ Some h) (sym same) e;
          low = subst (λ t. time ≤ℤ t) (sym same) (itself time);
          high = subst (λ t. t ≤ℤ time) (sym same) (itself time);
        }))
        ∙ ap is_some (sym e)

-- a borrowed item is there where the item is
pub some_copied : {T : Type 0} (o : Option (Bor T)) → is_some o ≡ is_some (option_copied o)
some_copied None = refl
some_copied (Some r) = refl

-- the answer of that range, as an answer of whether a value is live
pub asked_live : (a b : Store) (node : NodeId) (time : ℤ) (v : ℕ → ℕ) {B : Type 0}
    (items : B → List Held) (found : B) (live : Bool)
    → Asks a b (Ok found)
    (λ x. items x ≡ take 1 (range_of (cut a.content v) node time time Forward))
    → live ≡ is_some (slice_get (items found) 0)
    → Asks a b (Ok live) (λ x. x ≡ is_live (cut a.content v) node time)
asked_live a b node time v items found live p e = record {
  answer = λ h. e ∙ (ap (λ (xs : List Held). is_some (slice_get xs 0)) (p.answer h)
      ∙ first_tells (cut a.content v) node time);
  stays = p.stays;
  leaves = p.leaves;
}

-- ---- the survey

-- what its three calls told, together
pub surveyed : (a b c d : Store) (request : Request) (time : ℤ) (v : List ℕ) (live : Bool) (t : ℤ)
    (place : ChangePlace)
    → Asks a b (Ok v) (λ w. (replica : ℕ) → number_of w replica ≡ vec a.content replica)
    → Asks b c (Ok live) (λ x. x ≡ is_live (cut b.content (number_of v)) request.node time)
    → Asks c d (Ok t) (λ s. s ≡ top c.content)
    → place.live ≡ live → place.origin ≡ d.own → place.tick ≡ lift request.reading t
    → place.number ≡ min (number_of v place.origin + 1) greatest
    → Asks a d (Ok place) (IsChangePlace a request time)
surveyed a b c d request time v live t place p q r is_place origin tick number =
    asks-then a b d v (Ok place)
    (λ w. (replica : ℕ) → number_of w replica ≡ vec a.content replica) (λ s. ⊤)
    (IsChangePlace a request time) p
    (asks-then b c d live (Ok place)
    (λ x. x ≡ is_live (cut b.content (number_of v)) request.node time) (λ s. ⊤) (λ s. ⊤) q
    (answered r) (λ h k s e. tt))
    (λ h same told e. at_place h same told)
  where
    answered : Asks c d (Ok t) (λ s. s ≡ top c.content) → Asks c d (Ok place) (λ s. ⊤)
    answered s = record { answer = λ h. tt; stays = s.stays; leaves = s.leaves }

    at_place : d.honest → b.content ≡ a.content
        → ((replica : ℕ) → number_of v replica ≡ vec a.content replica)
        → IsChangePlace a request time place
    at_place h same told =
        let here = r.leaves.passes.honest h in
        let whole : cut b.content (number_of v) ≡ a.content =
        covers_all a b v p (q.leaves.passes.honest here) in
        let second : c.content ≡ a.content =
        q.stays.content here (left_in_use b c q.leaves) ∙ same in
        let own : place.origin ≡ a.own =
        origin ∙ (r.leaves.passes.own ∙ (q.leaves.passes.own ∙ p.leaves.passes.own)) in
        record {
          live = is_place ∙ (q.answer here ∙ ap (λ S. is_live S request.node time) whole);
          origin = own;
          tick = tick ∙ ap (λ s. lift request.reading s) (r.answer h ∙ ap top second);
          number = number ∙ ap (λ n. min (n + 1) greatest)
              (told place.origin ∙ ap (vec a.content) own);
        }
