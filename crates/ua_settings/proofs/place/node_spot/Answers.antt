use Rattle.std.proofs.Common.{ℕ, List, [], map, codes, ap, sym, ◌∙◌}
use Rattle.std.specs.Prelude.{Option}
use Rattle.std.proofs.lemmas.Simd.{map-map}
use Rattle.toml.specs.View.{table_view}
use Rattle.ua_settings.specs.File.{text_at}
use Rattle.ua_settings.specs.Place.{untyped, repeated_from, first_there}
use Rattle.ua_settings.proofs.Mapped.{text_at_ref}
use Rattle.ua_settings.proofs.place.node_spot.Goals as goal

pub returns : goal.returns
returns c =
    let tables = map (λ table. table_view table.now) c.args.folders.now in
    let others = map (λ table. table_view table.now) c.args.variables.now in
    let id = text_at (codes "id") in
    let ids = c.in_ok-folder_ids.ensures
    ∙ sym (map-map id (λ table. table_view table.now) c.args.folders.now) in
    let later = c.in_ok-variable_ids.ensures
    ∙ sym (map-map id (λ table. table_view table.now) c.args.variables.now) in
    let first = ap (map text_at_ref) c.as_slice.ensures.value ∙ ids in
    let seen = ap (map text_at_ref) c.as_slice-2.ensures.value ∙ ids in
    let second = ap (map text_at_ref) c.as_slice-3.ensures.value ∙ later in
    c.first_there.ensures
    ∙ (ap (λ (u : Option ℕ). first_there u c.repeated-folder.result c.repeated-variable.result)
    c.untyped-untyped.ensures
    ∙ (ap (λ (f : Option ℕ). first_there (untyped others) f c.repeated-variable.result)
    (c.repeated-folder.ensures ∙ ap (λ (l : List (List ℕ)). repeated_from 1 [] l) first)
    ∙ ap (λ (v : Option ℕ). first_there (untyped others) (repeated_from 1 [] (map id tables)) v)
    (c.repeated-variable.ensures ∙ (ap
    (λ (l : List (List ℕ)). repeated_from 1 l (map text_at_ref c.as_slice-3.result.now)) seen
    ∙ ap (λ (l : List (List ℕ)). repeated_from 1 (map id tables) l) second))))
