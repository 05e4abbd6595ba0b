-- What a browse finds of folders and variables, with their names, as `settings_check` has it of
-- ids.
use Rattle.std.proofs.Common.{◌≡◌, ℕ, ◌+◌, ◌<◌, ◌≤◌, Bool, true, false, List, [], ◌∷◌, ◌++◌, length, drop, get_or, map, None, Some, cond, nat_eq, refl, sym, ap, ◌∙◌, subst, append-nil}
use Rattle.std.specs.Prelude.{Option, option_to_list, filter, Result, Ok, Err, ok_or, if◌then◌else◌}
use Rattle.std.specs.List.{flat_map}
use Rattle.std.specs.Cmp.Lexicographic.{pointwise}
use Rattle.std.proofs.lemmas.List.{map-append, length-map, drop_all}
use Rattle.std.proofs.lemmas.List.Elements.{filter-append}
use Rattle.ua_binary.specs.Format.{IsOrStarved, ◌>>=◌}
use Rattle.ua_binary.specs.declared.values.NodeId.{NodeId}
use Rattle.ua_binary.specs.declared.values.NodeId.TheVariants.{Named, Numeric}
use Rattle.ua_binary.specs.declared.codes.Status.{Status}
use Rattle.ua_binary.specs.declared.codes.TheConstants.Status.{BAD_NODE_ID_UNKNOWN, BAD_BROWSE_DIRECTION_INVALID, BAD_REFERENCE_TYPE_ID_INVALID, BAD_OUT_OF_MEMORY}
use Rattle.ua_services.specs.Browsing.{BrowseFields}
use Rattle.ua_services.specs.declared.browsing.BrowseDirection.TheVariants.{Forward}
use Rattle.ua_services.specs.declared.browsing.ReferenceDescription.{ReferenceDescription}
use Rattle.ua_space.specs.declared.layout.Layout.{Layout}
use Rattle.ua_space.specs.Space.{Node, Root, Objects, NamespaceArray, State, OfFolder, OfVariable, FolderType, BaseDataVariableType, node_at}
use Rattle.ua_space.specs.References.{Link, holds, references, type_definition, parent, is_followed, shown_reference, browse_at, way_asked, reference_type_asked, is_reference_type, found_references}
use Rattle.ua_space.proofs.ReferencesParts.{objects_below, organizes, is_defined_by}
use Rattle.settings_check.proofs.NodeLemmas.{at_place, drop_at, find_made}
use Rattle.web_page.specs.declared.listing.Listed.{Listed}
use Rattle.web_page.specs.Listing.{listed_under, listed_below, told_in, named}

-- ---- which references are found

-- what is asked of a node: all that hangs below it of some classes
abbrev pub asked_of : NodeId → ℕ → BrowseFields
asked_of node classes = (node, (Some Forward, (Numeric 0 35, (false, (classes, 16)))))

-- of each reference this is looked at
module _ {Y : Type 0} (tell : ReferenceDescription → Y) (node : NodeId) (classes : ℕ) where
  -- what is told of the nodes that are found by such references
  abbrev kept : List Link → List Y
  kept links =
      map tell (map (shown_reference 16) (filter
      (is_followed Forward (asked_of node classes)) links))

  kept-append : (xs ys : List Link) → kept (xs ++ ys) ≡ kept xs ++ kept ys
  kept-append xs ys =
      let p = is_followed Forward (asked_of node classes) in
      ap (λ l. map tell (map (shown_reference 16) l)) (filter-append p xs ys)
      ∙ (ap (map tell) (map-append (shown_reference 16) (filter p xs) (filter p ys))
      ∙ map-append tell (map (shown_reference 16) (filter p xs))
      (map (shown_reference 16) (filter p ys)))

  -- what stands behind is of no use
  kept_first : (xs ys zs : List Link) → kept ys ≡ [] → kept zs ≡ []
      → kept ((xs ++ ys) ++ zs) ≡ kept xs
  kept_first xs ys zs none no_more =
      kept-append (xs ++ ys) zs
      ∙ (ap (λ l. kept (xs ++ ys) ++ l) no_more
      ∙ (append-nil (kept (xs ++ ys))
      ∙ (kept-append xs ys
      ∙ (ap (λ l. kept xs ++ l) none ∙ append-nil (kept xs)))))

  types_none : (nodes : List Node) → kept (map is_defined_by nodes) ≡ []
  types_none [] = refl
  types_none (n ∷ nodes) = types_none nodes

  back_none : (nodes : List Node) → kept (map (organizes false) nodes) ≡ []
  back_none [] = refl
  back_none (n ∷ nodes) = back_none nodes

  -- all of these are found
  all_found : {X : Type 0} (make : X → Node) (told : X → Y) (xs : List X)
      → ((x : X) → is_followed Forward (asked_of node classes) (organizes true (make x)) ≡ true)
      → ((x : X) → tell (shown_reference 16 (organizes true (make x))) ≡ told x)
      → kept (map (organizes true) (map make xs)) ≡ map told xs
  all_found make told [] is same = refl
  all_found make told (x ∷ xs) is same =
      let here = organizes true (make x) in
      let rest = filter (is_followed Forward (asked_of node classes))
      (map (organizes true) (map make xs)) in
      ap (λ b. map tell (map (shown_reference 16) (cond b (here ∷ rest) rest))) (is x)
      ∙ (ap (λ i. i ∷ map tell (map (shown_reference 16) rest)) (same x)
      ∙ ap (λ l. told x ∷ l) (all_found make told xs is same))

  -- none of these is
  none_found : {X : Type 0} (make : X → Node) (xs : List X)
      → ((x : X) → is_followed Forward (asked_of node classes) (organizes true (make x)) ≡ false)
      → kept (map (organizes true) (map make xs)) ≡ []
  none_found make [] isnt = refl
  none_found make (x ∷ xs) isnt =
      let here = organizes true (make x) in
      let rest = filter (is_followed Forward (asked_of node classes))
      (map (organizes true) (map make xs)) in
      ap (λ b. map tell (map (shown_reference 16) (cond b (here ∷ rest) rest))) (isnt x)
      ∙ none_found make xs isnt

-- ---- what is found below a node

module _ (folder : Option (List ℕ)) (space : Layout) (node : NodeId) where
  objects_none : (n : Node)
      → kept (told_in folder) node 2 (map (organizes true) (objects_below space n)) ≡ []
  objects_none Root = refl
  objects_none Objects = none_found (told_in folder) node 2 OfFolder space.folders (λ f. refl)
  objects_none NamespaceArray = refl
  objects_none State = refl
  objects_none (OfFolder folder) = refl
  objects_none (OfVariable variable) = refl
  objects_none FolderType = refl
  objects_none BaseDataVariableType = refl

  -- the variables below a node
  found_below : (n : Node)
      → kept (told_in folder) node 2 (references space n) ≡ listed_below space folder n
  found_below n =
      let tell = told_in folder in
      let objects = objects_below space n in
      let variables = filter (holds n) space.variables in
      kept_first tell node 2 (map (organizes true) (objects ++ map OfVariable variables))
      (map is_defined_by (option_to_list (type_definition n)))
      (map (organizes false) (option_to_list (parent space n)))
      (types_none tell node 2 (option_to_list (type_definition n)))
      (back_none tell node 2 (option_to_list (parent space n)))
      ∙ (ap (kept tell node 2) (map-append (organizes true) objects (map OfVariable variables))
      ∙ (kept-append tell node 2 (map (organizes true) objects)
      (map (organizes true) (map OfVariable variables))
      ∙ (ap (λ l. l ++ kept tell node 2 (map (organizes true) (map OfVariable variables)))
      (objects_none n)
      ∙ all_found tell node 2 OfVariable (listed_under folder) variables (λ v. refl) (λ v. refl))))

-- the id and the name of a folder
abbrev pub folder_named : Layout → List (NodeId × Option (List ℕ))
folder_named space = map (λ folder. (Named 1 folder.id, Some folder.name)) space.folders

-- the folders below Objects
found_folders : (space : Layout) (node : NodeId)
    → kept named node 1 (references space Objects) ≡ folder_named space
found_folders space node =
    let folders = map OfFolder space.folders in
    let variables = filter (holds Objects) space.variables in
    kept_first named node 1 (map (organizes true) (folders ++ map OfVariable variables))
    (map is_defined_by (FolderType ∷ [])) (map (organizes false) (Root ∷ []))
    (types_none named node 1 (FolderType ∷ [])) (back_none named node 1 (Root ∷ []))
    ∙ (ap (kept named node 1) (map-append (organizes true) folders (map OfVariable variables))
    ∙ (kept-append named node 1 (map (organizes true) folders)
    (map (organizes true) (map OfVariable variables))
    ∙ (ap (λ l. kept named node 1 (map (organizes true) folders) ++ l)
    (none_found named node 1 OfVariable variables (λ v. refl))
    ∙ (append-nil (kept named node 1 (map (organizes true) folders))
    ∙ all_found named node 1 OfFolder (λ f. (Named 1 f.id, Some f.name)) space.folders (λ f. refl)
    (λ f. refl)))))

-- ---- what a browse answers

-- the references of a node that is there, or why they aren't told
abbrev references_at : Layout → BrowseFields → Option Node
    → Result (List ReferenceDescription) Status
references_at space d node =
    ok_or node BAD_NODE_ID_UNKNOWN
    >>= λ node. ok_or (way_asked d) BAD_BROWSE_DIRECTION_INVALID >>= λ direction.
    if is_reference_type (reference_type_asked d) then Ok (found_references space d node direction)
    else Err BAD_REFERENCE_TYPE_ID_INVALID

-- what is answered of variables below a node tells them
pub variables_answered : (space : Layout) (node : NodeId) (n : Node) (folder : Option (List ℕ))
    (found : List ReferenceDescription) → node_at space node ≡ Some n
    → IsOrStarved BAD_OUT_OF_MEMORY (browse_at space (asked_of node 2)) (Ok found)
    → map (told_in folder) found ≡ listed_below space folder n
variables_answered space node n folder found is told =
    let answered : found ≡ found_references space (asked_of node 2) n Forward =
    subst (λ o. IsOrStarved BAD_OUT_OF_MEMORY (references_at space (asked_of node 2) o) (Ok found))
    is told in
    ap (map (told_in folder)) answered ∙ found_below folder space node n

-- what is answered of folders below Objects tells them
pub folders_answered : (space : Layout) (found : List ReferenceDescription)
    → IsOrStarved BAD_OUT_OF_MEMORY (browse_at space (asked_of (Numeric 0 85) 1)) (Ok found)
    → map named found ≡ folder_named space
folders_answered space found told = ap (map named) told ∙ found_folders space (Numeric 0 85)

-- ---- folder by folder

-- a variable names this folder
abbrev is_in : List ℕ → Option (List ℕ) → Bool
is_in id given = elim given [ None ↦ false | Some other ↦ pointwise nat_eq other id ]

-- the variables of folders
abbrev pub in_folders : Layout → ℕ → List Listed
in_folders space i =
    flat_map (λ folder. listed_below space (Some folder.name) (OfFolder folder))
    (drop i space.folders)

-- the variables of the next folder, to which the next reference leads
pub next_folder : (space : Layout) (refs : List ReferenceDescription) (i : ℕ)
    (d : ReferenceDescription) (ids : List Listed) → i < length refs
    → map named refs ≡ folder_named space
    → ((n : Node) → node_at space (get_or refs i d).node_id ≡ Some n
    → ids ≡ listed_below space (get_or refs i d).display_name.text n)
    → in_folders space i ≡ ids ++ in_folders space (i + 1)
next_folder space refs i d ids lt same found =
    let (folder, at, told) =
    at_place (λ f. (Named 1 f.id, Some f.name)) named space.folders refs i d lt same in
    let (g, is, name) = find_made OfFolder (λ f. f.id) (λ f n. refl) space.folders
    (map OfVariable space.variables) i folder at in
    let here : ids ≡ listed_below space (Some folder.name) (OfFolder folder) =
    found (OfFolder g) (subst (λ i. node_at space i ≡ Some (OfFolder g)) (ap (λ p. p.0) told) is)
    ∙ (ap (λ t. listed_below space t (OfFolder g)) (sym (ap (λ p. p.1) told))
    ∙ ap (λ n. map (listed_under (Some folder.name))
    (filter (λ v. is_in n v.folder) space.variables))
    name) in
    ap (flat_map (λ f. listed_below space (Some f.name) (OfFolder f)))
    (drop_at space.folders i folder at)
    ∙ ap (λ l. l ++ in_folders space (i + 1)) (sym here)

-- as many folders as references to them
pub none_left : (space : Layout) (refs : List ReferenceDescription) (i : ℕ) → length refs ≤ i
    → map named refs ≡ folder_named space → in_folders space i ≡ []
none_left space refs i all same =
    let count : length refs ≡ length space.folders =
    sym (length-map refs named)
    ∙ (ap length same ∙ length-map space.folders (λ f. (Named 1 f.id, Some f.name))) in
    ap (flat_map (λ f. listed_below space (Some f.name) (OfFolder f)))
    (drop_all i space.folders (subst (λ n. n ≤ i) count all))
