-- Names for parts of the definitions in specs/Serving, for the lemmas on these parts.
use Rattle.std.specs.Prelude.{List, Option, ℕ, []}
use Rattle.archive.specs.Store.{Store}
use Rattle.ua_settings.specs.Settings.{SettingsValues}
use Rattle.ua_connection.specs.Environments.{Environment, before}
use Rattle.ua_connection.specs.Client.{Ending}
use Rattle.ua_connection.specs.Serving.{ServesBehind}

abbrev pub Serves : SettingsValues → (old new : Store)
    → (unread left before after : Option (List ℕ)) → Environment → Ending → Type 0
Serves settings old new unread left before after used ending =
    ServesBehind settings old new [] unread left before after used ending
