-- Where no whole frame stands first nothing is said: for the clause `lacks` of `take_frame`.
use Rattle.std.proofs.Common.{◌≡◌, ◌∙◌, ℕ, List, [], ◌∷◌, ◌++◌, map, None, Ok, refl, ap}
use Rattle.std.specs.List.{flat_map}
use Rattle.archive.specs.Store.{Store}
use Rattle.exchange.specs.Frames.{frame_header}
use Rattle.exchange.specs.Streams.{AreFrames}
use Rattle.exchange.specs.Dialogs.{DialogState}
use Rattle.exchange.proofs.StreamLemmas.{cut_append}
use Rattle.ua_peers.specs.Peers.{Taken, Talks}

none_taken : (taken : List Taken) (bytes rest : List ℕ)
    → AreFrames bytes (map (λ t. t.frame) taken) rest → frame_header bytes ≡ Ok None → taken ≡ []
none_taken [] bytes rest f short = refl
none_taken (t ∷ later) bytes rest f short =
    let whole = f.3.whole in
    let there = cut_append f.0 f.1 (λ e. cc (e, whole)) in
    absurd (cc (whole, there, ap frame_header f.2, short))

pub nothing_said : (a b : Store) (before after : DialogState) (waiting said rest : List ℕ)
    → Talks before a b waiting said rest None after → frame_header waiting ≡ Ok None → said ≡ []
nothing_said a b before after waiting said rest talks short =
    talks.wrote ∙ ap (λ (taken : List Taken). flat_map (λ t. t.said) taken ++ talks.beside)
    (none_taken talks.taken waiting rest talks.frames short) ∙ talks.ends.1
