-- The first bytes of a connection.
use Rattle.std.proofs.Common.{◌≡◌, ◌<◌, ◌≤◌, ◌+◌, ℕ, Bool, true, false, List, [], ◌++◌, take, length, refl, subst, arith, inl, inr}
use Rattle.std.specs.Result.{result_map_both}
use Rattle.std.specs.Prelude.{Option, Result, Err}
use Rattle.std.specs.Io.KnownBytes.{Consumes, IsAtEnd}
use Rattle.std.proofs.lemmas.List.{length-take-le}
use Rattle.std.proofs.Math.Seq.{take-append-add}
use Rattle.archive.specs.Store.{Store, KeepsContent, CountsFaults}
use Rattle.archive.proofs.Calls.{passes-none}
use Rattle.ua_settings.specs.Settings.{SettingsValues}
use Rattle.counted_io.specs.declared.fault.ServeFault.{ServeFault}
use Rattle.counted_io.specs.declared.fault.ServeFault.TheVariants.{Read}
use Rattle.ua_peers.specs.declared.peers.PeerEnded.{PeerEnded}
use Rattle.ua_connection.specs.Client.{Ending as ClientEnding}
use Rattle.ua_server.specs.Either.{ConnectionEnding, end_of_client, end_of_peer}
use Rattle.ua_connection.specs.Environments.{Environment}
use Rattle.ua_peers.specs.Peers.{MeetsBehind, responding}
use Rattle.ua_connection.specs.Serving.{ServesBehind}
use Rattle.ua_server.proofs.EitherParts.{AreFirst, GoesAs}
use Rattle.ua_connection.proofs.Outsides.{empty_environment}

-- a piece behind those that were read before
pub took-more : (first piece : List ℕ) (read n : ℕ) → read ≤ length first
    → take (read + n) (take read first ++ piece) ≡ take read first ++ take n piece
took-more first piece read n within =
    subst (λ (k : ℕ). take (k + n) (take read first ++ piece) ≡ take read first ++ take n piece)
    (length-take-le read first within) (take-append-add (take read first) piece n)

-- a read failed before three bytes were there
pub breaks-off : (a : Store) (unread left old : Option (List ℕ)) (ending : ConnectionEnding)
    → ((came : List ℕ) × (length came < 3) × Consumes unread left came) → ending ≡ Err Read
    → (came : List ℕ) × (length came < 3) × Consumes unread left came × (old ≡ old)
    × KeepsContent a a × CountsFaults a a []
    × (empty_environment ≡ record { marks = []; readings = [] }) × (ending ≡ Err Read)
breaks-off a unread left old ending (came, few, read) is = (
  came,
  few,
  read,
  refl,
  record { content = λ h b. refl; crash = λ h l m. m },
  passes-none a,
  refl,
  is,
)

-- a peer's, and a client's
pub goes-as-peer : (settings : SettingsValues) (a b : Store) (first : List ℕ)
    (rest left old new : Option (List ℕ)) (peers : Bool) (ending : ConnectionEnding) → peers ≡ true
    → ((parted : Result PeerEnded ServeFault)
    × (ending ≡ result_map_both end_of_peer (λ fault. fault) parted)
    × MeetsBehind responding a b first rest left old new parted)
    → GoesAs peers settings a b first rest left old new empty_environment ending
goes-as-peer settings a b first rest left old new peers ending is (parted, ends, meets) =
    inl (is, (parted, ends, refl, meets))

pub goes-as-client : (settings : SettingsValues) (a b : Store) (first : List ℕ)
    (rest left old new : Option (List ℕ)) (used : Environment) (peers : Bool)
    (ending : ConnectionEnding) → peers ≡ false
    → ((served : ClientEnding) × (ending ≡ result_map_both end_of_client (λ fault. fault) served)
    × ServesBehind settings a b first rest left old new used served)
    → GoesAs peers settings a b first rest left old new used ending
goes-as-client settings a b first rest left old new used peers ending is met = inr (is, met)

-- three bytes were read, or all
pub are-first : (unread rest : Option (List ℕ)) (letters : List ℕ) (n : ℕ) → length letters ≡ 3
    → n ≤ 3 → Consumes unread rest (take n letters) → (n < 3 → IsAtEnd rest)
    → AreFirst unread rest (take n letters)
are-first unread rest letters n three within read end =
    let is : length (take n letters) ≡ n =
    length-take-le n letters (omega (arith, three, within)) in
    (read, omega (arith, is, within), λ few. end (omega (arith, is, few)))
