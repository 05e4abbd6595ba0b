-- The tables that the code finds, and those of the definitions.
use Rattle.std.proofs.Common.{◌≡◌, ◌&&◌, true, List, [], ◌∷◌, map, refl, ap, ◌∙◌, Option, None, Some, option_map, is_some, String, Global, string_bytes}
use Rattle.std.specs.Map.{keys_of}
use Rattle.std.specs.List.{filter_map, cons_option, list_all}
use Rattle.std.proofs.lemmas.Bool.{false≢true}
use Rattle.toml.specs.Data.{Data, Items, as_table}
use Rattle.toml.specs.View.{view, items_view, members_view}
use Rattle.toml.specs.declared.value.Value.{Value}
use Rattle.ua_settings.specs.declared.keys.Holds.{Holds}
use Rattle.ua_settings.specs.File.{are_held, is_held, items_in, keys_in}

pub values_of_array : (values : List Value) → map view values ≡ items_in (items_view values)
values_of_array [] = refl
values_of_array (value ∷ values) = ap (λ more. view value ∷ more) (values_of_array values)

pub tables_of_values : (values : List Value)
    → filter_map (λ value. as_table (view value)) values ≡ filter_map as_table (map view values)
tables_of_values [] = refl
tables_of_values (value ∷ values) =
    ap (cons_option (as_table (view value))) (tables_of_values values)

pub filtered_of_mapped : {A B C : Type 0} (f : B → Option C) (g : A → B) (xs : List A)
    → filter_map (λ x. f (g x)) xs ≡ filter_map f (map g xs)
filtered_of_mapped f g [] = refl
filtered_of_mapped f g (x ∷ xs) = ap (cons_option (f (g x))) (filtered_of_mapped f g xs)

-- what is taken of the values of an array that is there
pub taken_of_array : {C : Type 0} (f : Data → Option C) (found : Option Items)
    (values : List Value) (taken : List C) → is_some found ≡ true
    → map view values ≡ (elim found [ None ↦ [] | Some items ↦ items_in items ])
    → taken ≡ filter_map (λ value. f (view value)) values
    → Some taken ≡ option_map (λ items. filter_map f (items_in items)) found
taken_of_array f None values taken there seen is = absurd (false≢true there)
taken_of_array f (Some items) values taken there seen is =
    ap Some (is ∙ filtered_of_mapped f view values ∙ ap (filter_map f) seen)

pub held_in_array : (holds : Holds) (values : List Value)
    → list_all (λ value. is_held holds (view value)) values
    ≡ are_held holds (items_view values)
held_in_array holds [] = refl
held_in_array holds (value ∷ values) =
    ap (λ more. is_held holds (view value) && more) (held_in_array holds values)

pub keys_of_map : (entries : List (String Global × Value))
    → map string_bytes (keys_of entries) ≡ keys_in (members_view entries)
keys_of_map [] = refl
keys_of_map (entry ∷ entries) = ap (λ more. string_bytes entry.0 ∷ more) (keys_of_map entries)
