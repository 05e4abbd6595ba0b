-- What is known of a variable that was found.
use Rattle.std.proofs.Common.{◌≡◌, ◌≤◌, ℕ, Bool, true, false, List, [], ◌∷◌, length, None, Some, find, refl, sym, ap, ◌∙◌, cond, subst, ◌⊎◌, ◌≢◌, inl, inr}
use Rattle.std.specs.Prelude.{Option}
use Rattle.std.specs.Option.{option_map, option_or, unwrap_or}
use Rattle.std.specs.List.{AllByRecursion}
use Rattle.std.specs.Cmp.Lexicographic.{bytes_decides}
use Rattle.std.proofs.Math.Dec.{eqb}
use Rattle.std.proofs.lemmas.Bool.Decides.{eqb_tells}
use Rattle.std.proofs.lemmas.Option.{none-some}
use Rattle.ua_binary.specs.declared.values.NodeId.{NodeId}
use Rattle.ua_binary.specs.declared.values.NodeId.TheVariants.{Numeric, Named, Global, Opaque}
use Rattle.ua_space.specs.declared.layout.Layout.{Layout}
use Rattle.ua_space.specs.declared.node.Folder.{Folder}
use Rattle.ua_space.specs.declared.node.Variable.{Variable}
use Rattle.ua_space.specs.Space.{Node, OfFolder, OfVariable, node_at, HasShortId, IsShortId}
use Rattle.ua_space.specs.Index.{has_variable_id}
use Rattle.ua_space.proofs.Nodes.{planned_at, at_other_name}

-- the variable of a node, where it is one
abbrev variable_in : Option Node → Option Variable
variable_in (Some (OfVariable variable)) = Some variable
variable_in _ = None

-- what was found among folders, then among variables, and is a variable, was found among these
picked : (variable : Variable) (a : Option Folder) (b : Option Variable)
    → Some variable ≡ variable_in (option_or (option_map OfFolder a) (option_map OfVariable b))
    → Some variable ≡ b
picked variable (Some folder) b is = absurd (none-some variable (sym is))
picked variable None (Some other) is = is
picked variable None None is = is

-- what is found passes the test, and is as each of the list is
found_is : (p : Variable → Bool) (variables : List Variable) (variable : Variable)
    → AllByRecursion HasShortId variables → Some variable ≡ find p variables
    → (p variable ≡ true) × HasShortId variable
found_is p [] variable all is = absurd (none-some variable (sym is))
found_is p (first ∷ variables) variable all is =
    by (p first) refl is (found_is p variables variable all.1)
  where
    by : (b : Bool) → p first ≡ b → Some variable ≡ cond b (Some first) (find p variables)
        → (Some variable ≡ find p variables → (p variable ≡ true) × HasShortId variable)
        → (p variable ≡ true) × HasShortId variable
    by true here one later =
        let same : variable ≡ first = ap (λ o. unwrap_or o first) one in
        (ap p same ∙ here, subst HasShortId (sym same) all.0)
    by false here rest later = later rest

named_short : (name : List ℕ) (variable : Variable)
    → (has_variable_id name variable ≡ true) × HasShortId variable → length name ≤ 256
named_short name variable is =
    let P : List ℕ → Type 0 = λ id. length id ≤ 256 in
    subst P ((bytes_decides variable.id name).0 is.0) is.1

-- the id of a variable that was found has at most 256 bytes
pub short_found : (space : Layout) (id : NodeId) (variable : Variable)
    → AllByRecursion HasShortId space.variables → Some (OfVariable variable) ≡ node_at space id
    → IsShortId id
short_found space (Numeric m n) variable all is = tt
short_found space (Global m n) variable all is = tt
short_found space (Opaque m n) variable all is = tt
short_found space (Named m name) variable all is = by (eqb_tells m 1)
  where
    by : ((eqb m 1 ≡ true) × (m ≡ 1)) ⊎ ((eqb m 1 ≡ false) × (m ≢ 1)) → length name ≤ 256
    by (inl e) =
        let P : ℕ → Type 0 = λ k. Some (OfVariable variable) ≡ node_at space (Named k name) in
        let at = subst P e.1 is ∙ planned_at space name in
        named_short name variable (found_is (has_variable_id name) space.variables variable all
        (picked variable _ _ (ap variable_in at)))
    by (inr e) = absurd (none-some (OfVariable variable) (at_other_name space m name e.1 ∙ sym is))
