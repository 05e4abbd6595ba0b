-- What a browse finds of folders and variables.
use Rattle.std.proofs.Common.{◌≡◌, ℕ, ◌+◌, ◌<◌, ◌≤◌, Bool, true, false, List, [], ◌∷◌, ◌++◌, length, drop, get_or, map, None, Some, find, cond, nat_eq, refl, sym, ap, ◌∙◌, subst, append-nil}
use Rattle.std.specs.Prelude.{Option, option_map, option_to_list, slice_get, zero, suc, filter, Result, Ok, Err, ok_or, if◌then◌else◌}
use Rattle.std.specs.List.{flat_map}
use Rattle.std.specs.Cmp.Lexicographic.{pointwise, bytes_decides}
use Rattle.std.proofs.lemmas.Bool.{true≢false}
use Rattle.std.proofs.lemmas.List.{map-append, length-map, drop_more, drop_all}
use Rattle.std.proofs.lemmas.List.Elements.{filter-append}
use Rattle.std.proofs.lemmas.Option.{slice_get-get_or, slice_get-map, slice_get_within, get_or_from_slice_get, none-some, same_Some}
use Rattle.ua_binary.specs.Format.{IsOrStarved, ◌>>=◌}
use Rattle.ua_binary.specs.declared.values.NodeId.{NodeId}
use Rattle.ua_binary.specs.declared.values.NodeId.TheVariants.{Named, Numeric}
use Rattle.ua_binary.specs.declared.codes.Status.{Status}
use Rattle.ua_binary.specs.declared.codes.TheConstants.Status.{BAD_NODE_ID_UNKNOWN, BAD_BROWSE_DIRECTION_INVALID, BAD_REFERENCE_TYPE_ID_INVALID, BAD_OUT_OF_MEMORY}
use Rattle.ua_services.specs.Browsing.{BrowseFields}
use Rattle.ua_services.specs.declared.browsing.BrowseDirection.TheVariants.{Forward}
use Rattle.ua_services.specs.declared.browsing.ReferenceDescription.{ReferenceDescription}
use Rattle.ua_space.specs.declared.layout.Layout.{Layout}
use Rattle.ua_space.specs.Space.{Node, Root, Objects, NamespaceArray, State, OfFolder, OfVariable, FolderType, BaseDataVariableType, facts, is_same_id, node_at}
use Rattle.ua_space.specs.References.{Link, holds, references, type_definition, parent, is_followed, shown_reference, browse_at, way_asked, reference_type_asked, is_reference_type, found_references}
use Rattle.ua_space.proofs.ReferencesParts.{objects_below, organizes, is_defined_by}
use Rattle.settings_check.specs.Nodes.{variables_below}

-- ---- which references are found

-- what is asked of a node: all that hangs below it of some classes
abbrev pub asked_of : NodeId → ℕ → BrowseFields
asked_of node classes = (node, (Some Forward, (Numeric 0 35, (false, (classes, 0)))))

abbrev pub id_told : ReferenceDescription → NodeId
id_told r = r.node_id

-- the ids of the nodes that are found by such references
abbrev kept : NodeId → ℕ → List Link → List NodeId
kept node classes links =
    map id_told (map (shown_reference 0) (filter (is_followed Forward (asked_of node classes)) links))

kept-append : (node : NodeId) (classes : ℕ) (xs ys : List Link)
    → kept node classes (xs ++ ys) ≡ kept node classes xs ++ kept node classes ys
kept-append node classes xs ys =
    let p = is_followed Forward (asked_of node classes) in
    ap (λ l. map id_told (map (shown_reference 0) l)) (filter-append p xs ys)
    ∙ (ap (map id_told) (map-append (shown_reference 0) (filter p xs) (filter p ys))
    ∙ map-append id_told (map (shown_reference 0) (filter p xs))
    (map (shown_reference 0) (filter p ys)))

-- what stands behind is of no use
kept_first : (node : NodeId) (classes : ℕ) (xs ys zs : List Link) → kept node classes ys ≡ []
    → kept node classes zs ≡ [] → kept node classes ((xs ++ ys) ++ zs) ≡ kept node classes xs
kept_first node classes xs ys zs none no_more =
    kept-append node classes (xs ++ ys) zs
    ∙ (ap (λ l. kept node classes (xs ++ ys) ++ l) no_more
    ∙ (append-nil (kept node classes (xs ++ ys))
    ∙ (kept-append node classes xs ys
    ∙ (ap (λ l. kept node classes xs ++ l) none ∙ append-nil (kept node classes xs)))))

types_none : (node : NodeId) (classes : ℕ) (nodes : List Node)
    → kept node classes (map is_defined_by nodes) ≡ []
types_none node classes [] = refl
types_none node classes (n ∷ nodes) = types_none node classes nodes

back_none : (node : NodeId) (classes : ℕ) (nodes : List Node)
    → kept node classes (map (organizes false) nodes) ≡ []
back_none node classes [] = refl
back_none node classes (n ∷ nodes) = back_none node classes nodes

-- all of these are found, or none
module _ {X : Type 0} (make : X → Node) (node : NodeId) (classes : ℕ) where
  all_found : (id : X → NodeId) (xs : List X)
      → ((x : X) → is_followed Forward (asked_of node classes) (organizes true (make x)) ≡ true)
      → ((x : X) → (facts (make x)).id ≡ id x)
      → kept node classes (map (organizes true) (map make xs)) ≡ map id xs
  all_found id [] is told = refl
  all_found id (x ∷ xs) is told =
      let here = organizes true (make x) in
      let rest = filter (is_followed Forward (asked_of node classes))
      (map (organizes true) (map make xs)) in
      ap (λ b. map id_told (map (shown_reference 0) (cond b (here ∷ rest) rest))) (is x)
      ∙ (ap (λ i. i ∷ map id_told (map (shown_reference 0) rest)) (told x)
      ∙ ap (λ l. id x ∷ l) (all_found id xs is told))

  none_found : (xs : List X)
      → ((x : X) → is_followed Forward (asked_of node classes) (organizes true (make x)) ≡ false)
      → kept node classes (map (organizes true) (map make xs)) ≡ []
  none_found [] isnt = refl
  none_found (x ∷ xs) isnt =
      let here = organizes true (make x) in
      let rest = filter (is_followed Forward (asked_of node classes))
      (map (organizes true) (map make xs)) in
      ap (λ b. map id_told (map (shown_reference 0) (cond b (here ∷ rest) rest))) (isnt x)
      ∙ none_found xs isnt

objects_none : (space : Layout) (node : NodeId) (n : Node)
    → kept node 2 (map (organizes true) (objects_below space n)) ≡ []
objects_none space node Root = refl
objects_none space node Objects = none_found OfFolder node 2 space.folders (λ f. refl)
objects_none space node NamespaceArray = refl
objects_none space node State = refl
objects_none space node (OfFolder folder) = refl
objects_none space node (OfVariable variable) = refl
objects_none space node FolderType = refl
objects_none space node BaseDataVariableType = refl

-- ---- what is found below a node

-- the variables below a node
found_below : (space : Layout) (node : NodeId) (n : Node)
    → kept node 2 (references space n) ≡ variables_below space n
found_below space node n =
    let objects = objects_below space n in
    let variables = filter (holds n) space.variables in
    kept_first node 2 (map (organizes true) (objects ++ map OfVariable variables))
    (map is_defined_by (option_to_list (type_definition n)))
    (map (organizes false) (option_to_list (parent space n)))
    (types_none node 2 (option_to_list (type_definition n)))
    (back_none node 2 (option_to_list (parent space n)))
    ∙ (ap (kept node 2) (map-append (organizes true) objects (map OfVariable variables))
    ∙ (kept-append node 2 (map (organizes true) objects)
    (map (organizes true) (map OfVariable variables))
    ∙ (ap (λ l. l ++ kept node 2 (map (organizes true) (map OfVariable variables)))
    (objects_none space node n)
    ∙ all_found OfVariable node 2 (λ v. Named 1 v.id) variables (λ v. refl) (λ v. refl))))

-- the folders below Objects
found_folders : (space : Layout) (node : NodeId)
    → kept node 1 (references space Objects) ≡ map (λ folder. Named 1 folder.id) space.folders
found_folders space node =
    let folders = map OfFolder space.folders in
    let variables = filter (holds Objects) space.variables in
    kept_first node 1 (map (organizes true) (folders ++ map OfVariable variables))
    (map is_defined_by (FolderType ∷ [])) (map (organizes false) (Root ∷ []))
    (types_none node 1 (FolderType ∷ [])) (back_none node 1 (Root ∷ []))
    ∙ (ap (kept node 1) (map-append (organizes true) folders (map OfVariable variables))
    ∙ (kept-append node 1 (map (organizes true) folders)
    (map (organizes true) (map OfVariable variables))
    ∙ (ap (λ l. kept node 1 (map (organizes true) folders) ++ l)
    (none_found OfVariable node 1 variables (λ v. refl))
    ∙ (append-nil (kept node 1 (map (organizes true) folders))
    ∙ all_found OfFolder node 1 (λ f. Named 1 f.id) space.folders (λ f. refl) (λ f. refl)))))

-- ---- what a browse answers

-- the references of a node that is there, or why they aren't told
abbrev references_at : Layout → BrowseFields → Option Node → Result (List ReferenceDescription) Status
references_at space d node =
    ok_or node BAD_NODE_ID_UNKNOWN
    >>= λ node. ok_or (way_asked d) BAD_BROWSE_DIRECTION_INVALID >>= λ direction.
    if is_reference_type (reference_type_asked d) then Ok (found_references space d node direction)
    else Err BAD_REFERENCE_TYPE_ID_INVALID

-- what is answered of variables below a node has their ids
pub variables_answered : (space : Layout) (node : NodeId) (n : Node)
    (found : List ReferenceDescription) → node_at space node ≡ Some n
    → IsOrStarved BAD_OUT_OF_MEMORY (browse_at space (asked_of node 2)) (Ok found)
    → map id_told found ≡ variables_below space n
variables_answered space node n found is told =
    let answered : found ≡ found_references space (asked_of node 2) n Forward =
    subst (λ o. IsOrStarved BAD_OUT_OF_MEMORY (references_at space (asked_of node 2) o) (Ok found))
    is told in
    ap (map id_told) answered ∙ found_below space node n

-- what is answered of folders below Objects has their ids
pub folders_answered : (space : Layout) (found : List ReferenceDescription)
    → IsOrStarved BAD_OUT_OF_MEMORY (browse_at space (asked_of (Numeric 0 85) 1)) (Ok found)
    → map id_told found ≡ map (λ folder. Named 1 folder.id) space.folders
folders_answered space found told =
    ap (map id_told) told ∙ found_folders space (Numeric 0 85)

-- ---- the node of a folder's id

-- of a list of nodes the first of an id is found, which is one of the list's
module _ {X : Type 0} (make : X → Node) (name : X → List ℕ)
    (told : (x : X) (id : List ℕ)
    → is_same_id (facts (make x)).id (Named 1 id) ≡ pointwise nat_eq (name x) id) where
  abbrev pub first_named : List ℕ → List Node → Option Node
  first_named id nodes = find (λ node. is_same_id (facts node).id (Named 1 id)) nodes

  pub find_made : (xs : List X) (more : List Node) (i : ℕ) (x : X) → slice_get xs i ≡ Some x
      → (y : X) × (first_named (name x) (map make xs ++ more) ≡ Some (make y)) × (name y ≡ name x)
  find_made [] more i x at = absurd (none-some x at)
  find_made (y ∷ xs) more i x at =
      go (pointwise nat_eq (name y) (name x)) refl i at (λ k. find_made xs more k x)
    where
      go : (b : Bool) → pointwise nat_eq (name y) (name x) ≡ b → (i : ℕ)
          → slice_get (y ∷ xs) i ≡ Some x
          → ((k : ℕ) → slice_get xs k ≡ Some x
          → (z : X) × (first_named (name x) (map make xs ++ more) ≡ Some (make z))
          × (name z ≡ name x))
          → (z : X) × (first_named (name x) (map make (y ∷ xs) ++ more) ≡ Some (make z))
          × (name z ≡ name x)
      go true same i at later = (
        y,
        ap (λ b. cond b (Some (make y)) (first_named (name x) (map make xs ++ more)))
            (told y (name x) ∙ same),
        (bytes_decides (name y) (name x)).0 same,
      )
      go false other zero at later =
          let same : y ≡ x = same_Some y x at in
          absurd (true≢false (sym ((bytes_decides (name y) (name x)).1 (ap name same)) ∙ other))
      go false other (suc k) at later =
          let (z, is, same) = later k at in (
            z,
            ap (λ b. cond b (Some (make y)) (first_named (name x) (map make xs ++ more)))
                (told y (name x) ∙ other) ∙ is,
            same,
          )

-- ---- folder by folder

-- of two lists of which the same is told, what stands at a place of the one stands in the other
pub at_place : {X Y Z : Type 0} (f : X → Z) (g : Y → Z) (xs : List X) (ys : List Y)
    (i : ℕ) (d : Y) → i < length ys → map g ys ≡ map f xs
    → (x : X) × (slice_get xs i ≡ Some x) × (f x ≡ g (get_or ys i d))
at_place {X = X} f g xs ys i d lt same = go (slice_get xs i) refl
    (sym (slice_get-map f xs i) ∙ (ap (λ l. slice_get l i) (sym same)
    ∙ (slice_get-map g ys i ∙ ap (option_map g) (slice_get-get_or ys i d lt))))
  where
    go : (o : Option X) → slice_get xs i ≡ o → option_map f o ≡ Some (g (get_or ys i d))
        → (x : X) × (slice_get xs i ≡ Some x) × (f x ≡ g (get_or ys i d))
    go None at told = absurd (none-some (g (get_or ys i d)) told)
    go (Some x) at told = (x, at, same_Some (f x) (g (get_or ys i d)) told)

-- what stands at a place stands before what is behind it
pub drop_at : {X : Type 0} (xs : List X) (i : ℕ) (x : X) → slice_get xs i ≡ Some x
    → drop i xs ≡ x ∷ drop (i + 1) xs
drop_at xs i x at =
    drop_more xs i x (slice_get_within xs i x at)
    ∙ ap (λ y. y ∷ drop (i + 1) xs) (get_or_from_slice_get xs i x x at)

-- a variable names this folder
abbrev is_in : List ℕ → Option (List ℕ) → Bool
is_in id given = elim given [ None ↦ false | Some other ↦ pointwise nat_eq other id ]

-- the ids of the variables of the next folder, to which the next reference leads
pub next_folder : (space : Layout) (refs : List ReferenceDescription) (i : ℕ)
    (d : ReferenceDescription) (ids : List NodeId) → i < length refs
    → map id_told refs ≡ map (λ folder. Named 1 folder.id) space.folders
    → ((n : Node) → node_at space (get_or refs i d).node_id ≡ Some n
    → ids ≡ variables_below space n)
    → flat_map (λ folder. variables_below space (OfFolder folder)) (drop i space.folders)
    ≡ ids
    ++ flat_map (λ folder. variables_below space (OfFolder folder)) (drop (i + 1) space.folders)
next_folder space refs i d ids lt same found =
    let (folder, at, id) =
    at_place (λ f. Named 1 f.id) id_told space.folders refs i d lt same in
    let (g, is, name) = find_made OfFolder (λ f. f.id) (λ f n. refl) space.folders
    (map OfVariable space.variables) i folder at in
    let here : ids ≡ variables_below space (OfFolder folder) =
    found (OfFolder g) (subst (λ i. node_at space i ≡ Some (OfFolder g)) id is)
    ∙ ap (λ n. map (λ v. Named 1 v.id) (filter (λ v. is_in n v.folder) space.variables))
    name in
    ap (flat_map (λ f. variables_below space (OfFolder f))) (drop_at space.folders i folder at)
    ∙ ap (λ l. l ++ flat_map (λ f. variables_below space (OfFolder f))
    (drop (i + 1) space.folders)) (sym here)

-- as many folders as references to them
pub none_left : (space : Layout) (refs : List ReferenceDescription) (i : ℕ) → length refs ≤ i
    → map id_told refs ≡ map (λ folder. Named 1 folder.id) space.folders
    → flat_map (λ folder. variables_below space (OfFolder folder)) (drop i space.folders) ≡ []
none_left space refs i all same =
    let count : length refs ≡ length space.folders =
    sym (length-map refs id_told)
    ∙ (ap length same ∙ length-map space.folders (λ f. Named 1 f.id)) in
    ap (flat_map (λ f. variables_below space (OfFolder f)))
    (drop_all i space.folders (subst (λ n. n ≤ i) count all))
