-- A node's own records tell its history.
use Rattle.std.proofs.Common.{◌≡◌, ◌∙◌, Bool, true, false, ◌&&◌, ℤ, List, [], ◌∷◌, ◌++◌, filter, map, reverse, Option, None, refl, ap}
use Rattle.std.specs.List.{filter_map, flat_map, cons_option, dedup}
use Rattle.std.specs.Ordering.{int_cmp, int_eq}
use Rattle.ua_binary.specs.declared.values.NodeId.{NodeId}
use Rattle.records.specs.Lists.{IsApart, sort_by}
use Rattle.records.specs.Contents.{Content}
use Rattle.records.specs.Same.{same_node}
use Rattle.records.specs.Records.{record_stamp_cmp, is_at, versions, held, live_value, entries_after, modifications_at}
use Rattle.records.proofs.Sorting.{pairwise-filter}
use Rattle.archive.specs.Reading.{is_of, times, lives, log}
use Rattle.archive.proofs.Resuming.{past_passes}

-- the records of a node
abbrev own : Content → NodeId → Content
own R node = filter (is_of node) R

both_left : (b c : Bool) → (b && c) ≡ true → b ≡ true
both_left true c e = refl
both_left false c e = e

own_story : (R : Content) (node : NodeId) (t : ℤ) → versions (own R node) node t ≡ versions R node t
own_story R node t = ap (λ S. sort_by record_stamp_cmp S)
    (past_passes (is_at node t) (is_of node) (λ r e.
    both_left (same_node r.node node) (int_eq r.time t) e) R)

own_times : (R : Content) (node : NodeId) → times (own R node) node ≡ times R node
own_times R node = ap (λ S. dedup int_eq (sort_by int_cmp (map (λ r. r.time) S)))
    (past_passes (is_of node) (is_of node) (λ r e. e) R)

filter_maps_alike : {X Y : Type 0} (f g : X → Option Y) → ((x : X) → f x ≡ g x) → (xs : List X)
    → filter_map f xs ≡ filter_map g xs
filter_maps_alike f g same [] = refl
filter_maps_alike f g same (x ∷ xs) =
    ap (λ o. cons_option o (filter_map f xs)) (same x)
    ∙ ap (λ ys. cons_option (g x) ys) (filter_maps_alike f g same xs)

flat_maps_alike : {X Y : Type 0} (f g : X → List Y) → ((x : X) → f x ≡ g x) → (xs : List X)
    → flat_map f xs ≡ flat_map g xs
flat_maps_alike f g same [] = refl
flat_maps_alike f g same (x ∷ xs) =
    ap (λ o. o ++ flat_map f xs) (same x) ∙ ap (λ ys. g x ++ ys) (flat_maps_alike f g same xs)

pub own_lives : (R : Content) (node : NodeId) → lives (own R node) node ≡ lives R node
own_lives R node =
    filter_maps_alike (live_value (own R node) node) (live_value R node)
    (λ t. ap held (own_story R node t)) (times (own R node) node)
    ∙ ap (λ ts. filter_map (live_value R node) ts) (own_times R node)

pub own_log : (R : Content) (node : NodeId) → log (own R node) node ≡ log R node
own_log R node =
    flat_maps_alike (λ t. reverse (modifications_at (own R node) node t))
    (λ t. reverse (modifications_at R node t))
    (λ t. ap (λ S. reverse (entries_after None S)) (own_story R node t))
    (times (own R node) node)
    ∙ ap (λ ts. flat_map (λ t. reverse (modifications_at R node t)) ts) (own_times R node)

pub own_apart : (R : Content) (node : NodeId) → IsApart record_stamp_cmp R
    → IsApart record_stamp_cmp (own R node)
own_apart R node apart = pairwise-filter _ (is_of node) R apart
