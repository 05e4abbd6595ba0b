-- Rows that are done one after the other.
use Rattle.std.proofs.Common.{◌≡◌, ◌∙◌, ℕ, List, [], ◌∷◌, ◌++◌, refl, subst, ap, append_assoc}
use Rattle.records.specs.Contents.{Content}
use Rattle.archive.specs.Store.{Store, StepResult, Done, NoMemory}
use Rattle.archive.specs.Steps.{Fallible, give, each, Yields, Refines}
use Rattle.archive.proofs.Acting.{acts-give, acts-as, acts-each, moves-none-by, moves-then, moves-behind-quiet}
use Rattle.ua_settings.specs.Settings.{SettingsValues}
use Rattle.historian.specs.UserSpaces.{space_for}
use Rattle.history_csv.specs.declared.fault.RowFault.TheVariants.{OutOfMemory}
use Rattle.history_import.specs.declared.asked.Import.{Import}
use Rattle.history_import.specs.declared.row_end.RowEnd.{RowEnd}
use Rattle.history_import.specs.declared.row_end.RowEnd.TheVariants.{NoRow}
use Rattle.history_import.specs.Rows.{row_done, unless_starved}
use Rattle.history_import.specs.Imports.{DoesRows}
use Rattle.history_import.specs.Reading.{DoesRow}

-- no item more
still-each : {X Y : Type 0} (a b c : Store) (us vs : List StepResult)
    (f g : X → Content → Fallible (Y × Content)) (xs : List X) (ys : List Y)
    → Refines a b us (each f xs) ys → Refines b c vs (each g []) []
    → Refines a c (us ++ vs) (each f xs) ys
still-each {X} {Y} a b c us vs f g xs ys p q =
    moves-then a b c us vs (λ ms R S. Yields (each f xs R) ms (ys, S))
    (λ ns S T. Yields (each g [] S) ns ([], T)) (λ marks R T. Yields (each f xs R) marks (ys, T))
    (λ ms ns R S T first second. record {
      does = λ later.
          ap (λ marks. each f xs R marks) (append_assoc ms ns later) ∙ first.does (ns ++ later)
          ∙ ap (λ (r : (List Y × Content) × List StepResult).
          let z : (List Y × Content) × List StepResult = ((ys, r.0.1), r.1) in z)
          (second.does later);
    }) p q

-- no row yet
pub done-none : (settings : SettingsValues) (asked : Import) (s : Store)
    → DoesRows settings asked s s [] []
done-none settings asked s = (
  [],
  acts-as s s [] (λ R. give ([], R))
      (each (row_done s.own (space_for settings asked.user.now) asked) []) [] (λ R marks. refl)
      (acts-give s []),
)

-- one row more
pub done-more : (settings : SettingsValues) (asked : Import) (a b c : Store)
    (rows : List (List (List ℕ))) (ends : List RowEnd) (fields : List (List ℕ)) (end : RowEnd)
    → DoesRows settings asked a b rows ends → DoesRow settings asked b c fields end
    → DoesRows settings asked a c (rows ++ fields ∷ []) (ends ++ end ∷ [])
done-more settings asked a b c rows ends fields end before here =
    let seen = space_for settings asked.user.now in
    let P : ℕ → Type 0 = λ own.
    (used : List StepResult) × Refines b c used (row_done own seen asked fields) end in
    let last = subst P before.1.passes.own here in (
      before.0 ++ last.0,
      acts-each a b c before.0 last.0 (row_done a.own seen asked) rows fields ends end before.1
          last.1,
    )

-- no row more
pub done-still : (settings : SettingsValues) (asked : Import) (a b c : Store)
    (rows : List (List (List ℕ))) (ends : List RowEnd)
    → DoesRows settings asked a b rows ends → DoesRows settings asked b c [] []
    → DoesRows settings asked a c rows ends
done-still settings asked a b c rows ends before none =
    let seen = space_for settings asked.user.now in
    let f = row_done a.own seen asked in
    let g = row_done b.own seen asked in (
      before.0 ++ none.0,
      still-each a b c before.0 none.0 f g rows ends before.1 none.1,
    )

-- memory for a row is wanting
pub row-starved : (s : Store) (more : Content → Fallible (RowEnd × Content))
    → (used : List StepResult)
    × Refines s s used (λ R. unless_starved R (more R)) (NoRow OutOfMemory)
row-starved s more = (
  NoMemory ∷ [],
  moves-none-by s (NoMemory ∷ []) refl (λ marks R S.
      Yields (unless_starved R (more R)) marks (NoRow OutOfMemory, S))
      (λ R. record { does = λ later. refl }),
)

-- there is memory for it
pub row-fed : (a b : Store) (more : Content → Fallible (RowEnd × Content)) (end : RowEnd)
    → ((used : List StepResult) × Refines a b used more end)
    → (used : List StepResult) × Refines a b used (λ R. unless_starved R (more R)) end
row-fed a b more end (used, p) = (
  Done ∷ used,
  moves-behind-quiet a b (Done ∷ []) used (λ ms R S. Yields (more R) ms (end, S))
      (λ ms R S. Yields (unless_starved R (more R)) ms (end, S)) refl
      (λ ms R S d. record { does = λ later. d.does later }) p,
)
