-- An index that is made from the last node to the first.
use Rattle.std.proofs.Common.{◌≡◌, ℕ, ◌+◌, ◌<◌, Bool, true, false, List, ◌∷◌, ◌++◌, length, map, drop, get_or, Some, refl, sym, ap, ◌∙◌, cond, subst}
use Rattle.std.specs.Prelude.{String}
use Rattle.std.specs.Option.{option_map, option_and_then}
use Rattle.std.specs.List.{slice_get}
use Rattle.std.specs.HashMap.{HashMap, UpdatesBy, get_by_text}
use Rattle.std.specs.String.{string_eq, string_bytes}
use Rattle.std.specs.Map.{update}
use Rattle.std.specs.Str.{bytes_eq}
use Rattle.std.proofs.lemmas.List.{drop_more}
use Rattle.std.proofs.lemmas.Map.Text.{hash_map_updates_text}
use Rattle.std.proofs.lemmas.Option.{slice_get-get_or}
use Rattle.ua_binary.specs.declared.values.NodeId.TheVariants.{Named}
use Rattle.ua_space.specs.declared.index.Place.{Place}
use Rattle.ua_space.specs.declared.index.Place.TheVariants as place
use Rattle.ua_space.specs.declared.layout.Layout.{Layout}
use Rattle.ua_space.specs.declared.node.Folder.{Folder}
use Rattle.ua_space.specs.declared.node.Variable.{Variable}
use Rattle.ua_space.specs.Space.{Node, OfFolder, OfVariable, is_same_id}
use Rattle.ua_space.specs.Nodes.{id_of}
use Rattle.ua_space.specs.Index.{at_place, Lists, node_in}

-- one more node, before the others
one_more : {A S : Type 0} (space : Layout) (old new : HashMap (String A) Place S) (name : List ℕ)
    (at : Place) (node : Node) (some : List Node)
    → at_place space at ≡ Some node → id_of node ≡ Named 1 name
    → ((q : List ℕ) → get_by_text new q ≡ update bytes_eq (get_by_text old) name (Some at) q)
    → Lists space some old → Lists space (node ∷ some) new
one_more space old new name at node some stands is updates lists q =
    ap (option_and_then (at_place space)) (updates q) ∙ by (bytes_eq name q)
    ∙ ap (λ id. cond (is_same_id id (Named 1 q)) (Some node) (node_in some (Named 1 q)))
    (sym is)
  where
    by : (b : Bool) → option_and_then (at_place space) (cond b (Some at) (get_by_text old q))
        ≡ cond b (Some node) (node_in some (Named 1 q))
    by true = stands
    by false = lists q

-- one more of a list, whose other nodes G puts behind it
more : {A S X : Type 0} (space : Layout) (G : List Node → List Node) (mk : X → Node)
    (place_at : ℕ → Place) (name : X → List ℕ) (xs : List X) (old new : HashMap (String A) Place S)
    (key : String A) (i k : ℕ) (x : X)
    → k ≡ i + 1 → ((node : Node) (some : List Node) → G (node ∷ some) ≡ node ∷ G some)
    → ((k : ℕ) → at_place space (place_at k) ≡ option_map mk (slice_get xs k))
    → ((y : X) → id_of (mk y) ≡ Named 1 (name y))
    → i < length xs → string_bytes key ≡ name (get_or xs i x)
    → UpdatesBy string_eq (λ k. bytes_eq (string_bytes key) (string_bytes k)) old new
    (Some (place_at i))
    → Lists space (G (map mk (drop k xs))) old → Lists space (G (map mk (drop i xs))) new
more space G mk place_at name xs old new key i k x next first at named within is updates lists =
    let Before : ℕ → Type 0 = λ n. Lists space (G (map mk (drop n xs))) old in
    let one = get_or xs i x in
    let stands = at i ∙ ap (option_map mk) (slice_get-get_or xs i x within) in
    let id = named one ∙ ap (Named 1) (sym is) in
    let made = one_more space old new (string_bytes key) (place_at i) (mk one)
    (G (map mk (drop (i + 1) xs))) stands id (hash_map_updates_text (string_bytes key) old new
    (Some (place_at i)) updates) (subst Before next lists) in
    let same : mk one ∷ G (map mk (drop (i + 1) xs)) ≡ G (map mk (drop i xs)) =
    sym (first (mk one) (map mk (drop (i + 1) xs)))
    ∙ ap (λ l. G (map mk l)) (sym (drop_more xs i x within)) in
    let P : List Node → Type 0 = λ some. Lists space some new in
    subst P same made

pub more_variables : {A S : Type 0} (space : Layout) (old new : HashMap (String A) Place S)
    (key : String A) (i k : ℕ) (x : Variable)
    → k ≡ i + 1 → i < length space.variables → string_bytes key ≡ (get_or space.variables i x).id
    → UpdatesBy string_eq (λ k. bytes_eq (string_bytes key) (string_bytes k)) old new
    (Some (place.Variable i))
    → Lists space (map OfVariable (drop k space.variables)) old
    → Lists space (map OfVariable (drop i space.variables)) new
more_variables space old new key i k x next within is updates lists =
    more space (λ some. some) OfVariable place.Variable
    (λ v. v.id) space.variables old new key i k x next (λ node some. refl) (λ k. refl)
    (λ v. refl) within is updates lists

pub more_folders : {A S : Type 0} (space : Layout) (old new : HashMap (String A) Place S)
    (key : String A) (i k : ℕ) (x : Folder)
    → k ≡ i + 1 → i < length space.folders → string_bytes key ≡ (get_or space.folders i x).id
    → UpdatesBy string_eq (λ k. bytes_eq (string_bytes key) (string_bytes k)) old new
    (Some (place.Folder i))
    → Lists space (map OfFolder (drop k space.folders) ++ map OfVariable space.variables) old
    → Lists space (map OfFolder (drop i space.folders) ++ map OfVariable space.variables) new
more_folders space old new key i k x next within is updates lists =
    more space (λ some. some ++ map OfVariable space.variables) OfFolder place.Folder
    (λ f. f.id) space.folders old new key i k x next (λ node some. refl) (λ k. refl)
    (λ f. refl) within is updates lists
