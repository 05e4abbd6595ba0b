use Rattle.std.proofs.Common.{ap, sym, ◌∙◌, false}
use Rattle.std.specs.Option.{option_map_or}
use Rattle.std.specs.List.{list_all}
use Rattle.toml.specs.View.{view}
use Rattle.ua_settings.specs.declared.keys.Holds.TheVariants.{Tables, Texts, Replicas}
use Rattle.ua_settings.specs.File.{are_held, fits, is_held}
use Rattle.ua_settings.specs.Keys.{known_of}
use Rattle.ua_settings.proofs.Tables.{held_in_array}
use Rattle.ua_settings.proofs.judging.fits.Goals as goal

pub returns-in-Some-as_array : goal.returns-in-Some-as_array
returns-in-Some-as_array c =
    c.are_tables.ensures
    ∙ ap (list_all (λ value. is_held Tables (view value))) c.as_slice.ensures.value
    ∙ held_in_array Tables c.in-Some-as_array.values.now.items
    ∙ ap (λ found. option_map_or (are_held Tables) found false) c.in-Some-as_array.ensures
    ∙ ap (λ holds. fits (known_of c.args.known.now) holds (view c.args.value.now))
    (sym c.in-Tables.is)

pub returns-in-Some-as_array-2 : goal.returns-in-Some-as_array-2
returns-in-Some-as_array-2 c =
    c.are_texts.ensures
    ∙ ap (list_all (λ value. is_held Texts (view value)))
    c.as_slice-in-Some-as_array-2.ensures.value
    ∙ held_in_array Texts c.in-Some-as_array-2.values.now.items
    ∙ ap (λ found. option_map_or (are_held Texts) found false) c.in-Some-as_array-2.ensures
    ∙ ap (λ holds. fits (known_of c.args.known.now) holds (view c.args.value.now))
    (sym c.in-Texts.is)

pub returns-in-Some-as_array-3 : goal.returns-in-Some-as_array-3
returns-in-Some-as_array-3 c =
    c.are_replicas.ensures
    ∙ ap (list_all (λ value. is_held Replicas (view value)))
    c.as_slice-in-Some-as_array-3.ensures.value
    ∙ held_in_array Replicas c.in-Some-as_array-3.values.now.items
    ∙ ap (λ found. option_map_or (are_held Replicas) found false) c.in-Some-as_array-3.ensures
    ∙ ap (λ holds. fits (known_of c.args.known.now) holds (view c.args.value.now))
    (sym c.in-Replicas.is)
