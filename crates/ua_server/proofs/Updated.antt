-- What a client's connection leaves, as updates one after the other.
use Rattle.std.proofs.Common.{◌≡◌, ℕ, false, List, Option, subst}
use Rattle.records.specs.Lists.{Has}
use Rattle.records.specs.Contents.{Content}
use Rattle.records.specs.Spelling.{IsLawfulRecord}
use Rattle.records.specs.declared.record.Record.{Record}
use Rattle.archive.specs.Growth.{Grows}
use Rattle.archive.specs.Store.{Store, IsQuiescent, IsLeft}
use Rattle.archive.proofs.Acting.{left-alone}
use Rattle.exchange.specs.Worlds.{ReplicaState as Replica, World, Event, IsReplicaAt, IsUpdated, AreUpdates, run}
use Rattle.exchange.proofs.Growths.{updates_happen}
use Rattle.ua_settings.specs.Settings.{SettingsValues}
use Rattle.ua_connection.specs.Environments.{Environment}
use Rattle.ua_connection.specs.Client.{Ending}
use Rattle.ua_connection.specs.Serving.{ServesBehind}

module _ (settings : SettingsValues) (a b : Store) (first : List ℕ)
    (unread left before after : Option (List ℕ)) (used : Environment) (ending : Ending)
    (serves : ServesBehind settings a b first unread left before after used ending)
    (rests : IsQuiescent a) (whole : a.broken ≡ false) (honest : b.honest) where
  -- what the archive is left with came of what it held
  grown : (R : Content) → IsLeft b R → Grows a.own a.content R
  grown R left =
      let moved = serves.served.acts honest R left in
      let same = left-alone a moved.2 rests (serves.served.passes.honest honest) whole moved.3 in
      subst (λ (S : Content). Grows a.own S R) same moved.5

  pub updates_made : (w : World) (i : ℕ) (s : Replica) (R : Content) → IsLeft b R
      → ((r : Record) → Has R r → IsLawfulRecord r) → IsReplicaAt w i s → s.number ≡ a.own
      → s.content ≡ a.content
      → (events : List Event) × AreUpdates i events × IsUpdated w (run events w) i s R
  updates_made w i s R is lawful at number content =
      updates_happen a.own a.content R w i s (grown R is) lawful at number content
