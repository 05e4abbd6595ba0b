use Rattle.std.proofs.Common.{◌≡◌, ℕ, Bool, List, codes, map, ap, sym, ◌∙◌, nat_eq}
use Rattle.std.proofs.Math.Path.{fun_ext}
use Rattle.std.specs.Cmp.Lexicographic.{pointwise}
use Rattle.std.specs.List.{list_any, count_by}
use Rattle.toml.specs.View.{table_view}
use Rattle.ua_settings.specs.declared.password.PasswordLine.{PasswordLine}
use Rattle.ua_settings.specs.declared.keys.Section.TheVariants.{User, Folder}
use Rattle.ua_settings.specs.File.{Names, tables, text_at}
use Rattle.ua_settings.proofs.Mapped.{any_of_mapped, count_of_mapped}
use Rattle.ua_settings.proofs.Plans.{map_twice}
use Rattle.ua_settings.proofs.judging.known_in.Goals as goal

names_same : (lines : List PasswordLine) (a b : List ℕ → ℕ) (c d : List ℕ → Bool) → a ≡ b
    → c ≡ d
    → (let names : Names = record { users = a; folders = c; passwords = lines } in names)
    ≡ record { users = b; folders = d; passwords = lines }
names_same lines a b c d e f = cc

pub returns-clause-names : goal.returns-clause-names
returns-clause-names c =
    let names = c.in_ok-names.ensures ∙ sym (map_twice (text_at (codes "name"))
    (λ table. table_view table.now) c.as_slice.result.now)
    ∙ ap (map (text_at (codes "name"))) (ap
    (map (λ table. table_view table.now)) c.as_slice.ensures.value ∙ c.in_ok-users.ensures) in
    let ids = c.in_ok-ids.ensures ∙ sym (map_twice (text_at (codes "id"))
    (λ table. table_view table.now) c.as_slice-2.result.now)
    ∙ ap (map (text_at (codes "id"))) (ap
    (map (λ table. table_view table.now)) c.as_slice-2.ensures.value ∙ c.in_ok-folders.ensures) in
    names_same c.args.passwords.now _ _ _ _
    (fun_ext (λ name. c.in_ok-count.ensures.counts name
    ∙ ap (count_by (λ one. pointwise nat_eq name one.now)) c.as_slice-3.ensures.value
    ∙ sym (count_of_mapped (λ one. one.now) (pointwise nat_eq name) c.in_ok-names.names.items)
    ∙ ap (count_by (pointwise nat_eq name)) names
    ∙ count_of_mapped (text_at (codes "name")) (pointwise nat_eq name)
    (tables (table_view c.args.document.now) User)))
    (fun_ext (λ id. c.in_ok-count-2.ensures.keys id
    ∙ ap (list_any (λ one. pointwise nat_eq one.now id)) c.as_slice-4.ensures.value
    ∙ sym (any_of_mapped (λ one. one.now) (λ one. pointwise nat_eq one id) c.in_ok-ids.ids.items)
    ∙ ap (list_any (λ one. pointwise nat_eq one id)) ids
    ∙ any_of_mapped (text_at (codes "id")) (λ one. pointwise nat_eq one id)
    (tables (table_view c.args.document.now) Folder)))
