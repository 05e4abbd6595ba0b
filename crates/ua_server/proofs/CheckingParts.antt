-- What is told of an archive behind the settings (`TellsBehind`), for check_over in checks.rt.
use Rattle.std.proofs.Common.{◌≡◌, ℕ, Bool, true, false, List, Option, Ok, refl, sym, subst}
use Rattle.std.specs.Prelude.{Result}
use Rattle.archive.specs.Store.{Store}
use Rattle.ua_settings.specs.Settings.{SettingsValues}
use Rattle.ua_server.specs.Checking.{TellsArchive, TellsBehind}
use Rattle.ua_server.specs.declared.program.ProgramFault.{ProgramFault}

module _ {A : Type 0} (held : A → Store) (settings : SettingsValues) (store : Bool) where
  -- the archive was told, as it was asked for
  pub told-archive : (first last : A) (before after : Option (List ℕ))
      (result : Result (Unit {0}) ProgramFault) → store ≡ true
      → TellsArchive settings (held first) (held last) before after result
      → TellsBehind held settings store first last before after result
  told-archive first last before after result asked tells =
      subst (λ s. TellsBehind held settings s first last before after result) (sym asked) tells

  -- nothing was, as it wasn't asked for
  pub told-nothing : (here : A) (before : Option (List ℕ)) → store ≡ false
      → TellsBehind held settings store here here before before (Ok tt)
  told-nothing here before unasked =
      subst (λ s. TellsBehind held settings s here here before before (Ok tt)) (sym unasked)
      (refl, refl, refl)
