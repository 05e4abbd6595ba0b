-- How the answers to item after item make the answer to a connection.
use Rattle.std.proofs.Common.{◌≡◌, ◌≤◌, ◌<◌, length, arith, Bool, true, false, nat_lt, inl, inr, ℕ, List, [], ◌∷◌, ◌++◌, Some, None, Ok, Err, refl, sym, ◌∙◌, ap, subst, append_assoc}
use Rattle.std.specs.Prelude.{Option, Result}
use Rattle.std.proofs.lemmas.List.{append-nil}
use Rattle.std.proofs.lemmas.Grind.{flat_map-append}
use Rattle.std.proofs.lemmas.Bool.{lt-ltb}
use Rattle.uacp.specs.Chunks.{chunk_header, greatest_size}
use Rattle.uacp.specs.Stream.{IsPartial}
use Rattle.uacp.specs.declared.types.Header.{Header}
use Rattle.uacp.specs.declared.types.Kind.{Kind}
use Rattle.uacp.specs.declared.types.Kind.TheVariants.{Hello, Open, Close, Message}
use Rattle.uacp.specs.declared.types.UacpFault.{UacpFault}
use Rattle.uacp.proofs.Streams.{Cuts, cuts}
use Rattle.ua_settings.specs.Settings.{SettingsValues}
use Rattle.records.specs.Contents.{Content}
use Rattle.archive.specs.Store.{Store, faults_of, CountsFaults}
use Rattle.archive.specs.Steps.{Transitions}
use Rattle.archive.proofs.Acting.{moves-then}
use Rattle.historian.specs.Services.{ServerConfig, site_of}
use Rattle.ua_connection.specs.declared.outcome.Served.{Served}
use Rattle.ua_connection.specs.declared.outcome.Served.TheVariants.{EndOfInput, Closed, Refused}
use Rattle.counted_io.specs.declared.fault.ServeFault.{ServeFault}
use Rattle.counted_io.specs.declared.fault.ServeFault.TheVariants.{Read, Write, TooLong, OutOfMemory}
use Rattle.ua_connection.specs.declared.turn.Step.{Step}
use Rattle.ua_connection.specs.declared.turn.Step.TheVariants.{NeedsInput, Acknowledged, Continues, Ended}
use Rattle.ua_connection.specs.Environments.{Environment, before}
use Rattle.ua_connection.specs.Passing.{LineEvent, Came, Went, AreWrites, went_of}
use Rattle.ua_connection.specs.Run.{AnswersStream}
use Rattle.ua_connection.specs.Client.{Client, new_client, ClientState, Ending, chunks}
use Rattle.ua_connection.specs.Turns.{ConnectionState, NeedsBytes, IsSmall, AnswersBytes, Advances, AdvancesInto, SentAll, DrainsTo, DrainedSoFar, IsOwnEnd, IsNoLess, IsOwn, Shortens, new_link, ending_of, end_of}
use Rattle.ua_connection.proofs.Outsides.{empty_environment}
use Rattle.ua_connection.proofs.Runs.{answers-then}
use Rattle.ua_connection.proofs.Turning.{turned-none}

-- ---- stretches of one answer

site_same : (settings : SettingsValues) (a b : Store) (faults : _) → CountsFaults a b faults
    → site_of settings b ≡ site_of settings a
site_same settings a b faults p =
    ap (λ (n : ℕ). let s : ServerConfig = record { settings = settings; own = n; id = b.id } in s)
    p.own
    ∙ ap (λ (i : List ℕ). let s : ServerConfig =
    record { settings = settings; own = a.own; id = i } in s) p.id

standing_same : (last : ClientState) (client : Client) (S : Content) → last.content ≡ S
    → last.client ≡ client → ◌≡◌ {A = ClientState} last (record { client = client; content = S })
standing_same last client S e f =
    ap (λ (c : Client). let s : ClientState = record { client = c; content = last.content } in s) f
    ∙ ap (λ (r : Content). let s : ClientState = record { client = client; content = r } in s) e

-- one stretch after another
reaches-then : (config : ServerConfig) (link middle next : ConnectionState) (R S T : Content)
    (used more : Environment) (xs ys : List ℕ) (ending : Option Ending)
    → AnswersBytes config link R used xs None middle S
    → AnswersBytes config middle S more ys ending next T
    → AnswersBytes config link R (before used more) (xs ++ ys) ending next T
reaches-then config link middle next R S T used more xs ys ending first second =
    let start : ClientState = record { client = link.client; content = R } in
    let between : ClientState = record { client = middle.client; content = S } in
    let P : ClientState → Type 0 =
    λ s. AnswersStream (chunks config) start link.waiting used
    (record { out = xs; ending = None; state = s }) middle.waiting in
    record {
      last = second.last;
      content = second.content;
      goes = second.goes;
      answers = answers-then (chunks config) start link.waiting used xs between middle.waiting more
          (record { out = ys; ending = ending; state = second.last }) next.waiting
          (subst P (standing_same first.last middle.client S first.content (first.goes refl))
          first.answers) second.answers;
    }

pub turned-then : (settings : SettingsValues) (a b c : Store) (link middle next : ConnectionState)
    (used more : Environment) (xs ys : List ℕ) (ending : Option Ending)
    → Advances settings a b link used xs None middle
    → Advances settings b c middle more ys ending next
    → Advances settings a c link (before used more) (xs ++ ys) ending next
turned-then settings a b c link middle next used more xs ys ending first second =
    let same = site_same settings a b (faults_of used.marks) first.passes in
    let P : ServerConfig → Type 0 =
    λ s. Transitions b c more.marks (λ marks S T.
    AnswersBytes s middle S (record more { marks = marks }) ys ending next T) in
    moves-then a b c used.marks more.marks (λ marks R S.
    AnswersBytes (site_of settings a) link R (record used { marks = marks }) xs None middle S)
    (λ marks S T. AnswersBytes (site_of settings a) middle S
    (record more { marks = marks }) ys ending next T)
    (λ marks R T. AnswersBytes (site_of settings a) link R
    (record (before used more) { marks = marks }) (xs ++ ys) ending next T)
    (λ ms ns R S T p q. reaches-then (site_of settings a) link middle next R S T
    (record used { marks = ms }) (record more { marks = ns }) xs ys ending p q) first
    (subst P same second)

-- the same where something is kept of the outside and of what was held before
pub kept-then : (settings : SettingsValues) (a b c : Store) (link middle next : ConnectionState)
    (used more : Environment) (xs ys : List ℕ) (ending : Option Ending)
    (K L : Environment → Content → Type 0) → ((o m : Environment) (R : Content) → K o R
    → L (before o m) R)
    → Transitions a b used.marks (λ marks R S.
    AnswersBytes (site_of settings a) link R (record used { marks = marks }) xs None middle S
    × K (record used { marks = marks }) R) → Advances settings b c middle more ys ending next
    → Transitions a c (before used more).marks (λ marks R T.
    AnswersBytes (site_of settings a) link R (record (before used more) { marks = marks })
    (xs ++ ys) ending next T × L (record (before used more) { marks = marks }) R)
kept-then settings a b c link middle next used more xs ys ending K L keeps first second =
    let same = site_same settings a b (faults_of used.marks) first.passes in
    let P : ServerConfig → Type 0 =
    λ s. Transitions b c more.marks (λ marks S T.
    AnswersBytes s middle S (record more { marks = marks }) ys ending next T) in
    moves-then a b c used.marks more.marks (λ marks R S.
    AnswersBytes (site_of settings a) link R (record used { marks = marks }) xs None middle S
    × K (record used { marks = marks }) R)
    (λ marks S T. AnswersBytes (site_of settings a) middle S
    (record more { marks = marks }) ys ending next T)
    (λ marks R T. AnswersBytes (site_of settings a) link R
    (record (before used more) { marks = marks }) (xs ++ ys) ending next T
    × L (record (before used more) { marks = marks }) R)
    (λ ms ns R S T p q. (
      reaches-then (site_of settings a) link middle next R S T
          (record used { marks = ms }) (record more { marks = ns }) xs ys ending p.0 q,
      keeps (record used { marks = ms }) (record more { marks = ns }) R p.1,
    )) first
    (subst P same second)

pub into-then : (settings : SettingsValues) (a b c : Store) (link middle next : ConnectionState)
    (used more : Environment) (old now new : List ℕ) (ending : Option Ending)
    → AdvancesInto settings a b link used old now None middle
    → AdvancesInto settings b c middle more now new ending next
    → AdvancesInto settings a c link (before used more) old new ending next
into-then settings a b c link middle next used more old now new ending first second = (
  first.0 ++ second.0,
  second.1 ∙ ap (λ (front : List ℕ). front ++ second.0) first.1
      ∙ append_assoc old first.0 second.0,
  turned-then settings a b c link middle next used more first.0 second.0 ending first.2
      second.2,
)

pub into-none : (settings : SettingsValues) (a : Store) (link : ConnectionState) (old : List ℕ)
    → AdvancesInto settings a a link empty_environment old old None link
into-none settings a link old = ([], sym (append-nil old), turned-none settings a link)

-- what goes into an empty buffer
into-empty : (settings : SettingsValues) (a b : Store) (link next : ConnectionState)
    (used : Environment) (old new : List ℕ) (ending : Option Ending) → old ≡ []
    → AdvancesInto settings a b link used old new ending next
    → Advances settings a b link used new ending next
into-empty settings a b link next used old new ending empty into =
    let made : into.0 ≡ new = sym (into.1 ∙ ap (λ (front : List ℕ). front ++ into.0) empty) in
    let P : List ℕ → Type 0 = λ o. Advances settings a b link used o ending next in
    subst P made into.2

-- ---- what is written

-- nothing was read in either part
pub writes-append : (xs ys : List LineEvent) → AreWrites xs → AreWrites ys → AreWrites (xs ++ ys)
writes-append [] ys p q = q
writes-append (Came piece ∷ xs) ys p q = absurd p
writes-append (Went bytes ∷ xs) ys p q = writes-append xs ys p q

-- one write more
pub went-more : (events : List LineEvent) (out : List ℕ)
    → went_of (events ++ Went out ∷ []) ≡ went_of events ++ out
went-more events out = flat_map-append (λ (event : LineEvent).
    elim event [ Went bytes ↦ bytes | _ ↦ [] ]) events (Went out ∷ [])
    ∙ ap (λ o. went_of events ++ o) (append-nil out)

pub drains-start : (settings : SettingsValues) (a : Store) (link : ConnectionState)
    → DrainedSoFar settings a a link empty_environment [] link
drains-start settings a link = (tt, turned-none settings a link)

-- what was answered so far, and then into an empty buffer
drains-into : (settings : SettingsValues) (a b c : Store) (link middle next : ConnectionState)
    (used more : Environment) (events : List LineEvent) (empty out : List ℕ)
    (ending : Option Ending) → DrainedSoFar settings a b link used events middle → empty ≡ []
    → AdvancesInto settings b c middle more empty out ending next
    → Advances settings a c link (before used more) (went_of events ++ out) ending next
drains-into settings a b c link middle next used more events empty out ending so none into =
    turned-then settings a b c link middle next used more (went_of events) out ending so.1
    (into-empty settings b c middle next more empty out ending none into)

-- and what was answered is written
drains-out : (settings : SettingsValues) (a b c : Store) (link middle next : ConnectionState)
    (used more : Environment) (events : List LineEvent) (empty out : List ℕ)
    (ending : Option Ending) → DrainedSoFar settings a b link used events middle → empty ≡ []
    → AdvancesInto settings b c middle more empty out ending next
    → Advances settings a c link (before used more) (went_of (events ++ Went out ∷ [])) ending next
drains-out settings a b c link middle next used more events empty out ending so none into =
    subst (λ o. Advances settings a c link (before used more) o ending next)
    (sym (went-more events out))
    (drains-into settings a b c link middle next used more events empty out ending so none into)

pub drains-goes : (settings : SettingsValues) (a b c : Store) (link middle next : ConnectionState)
    (used more : Environment) (events : List LineEvent) (empty out : List ℕ)
    → DrainedSoFar settings a b link used events middle → empty ≡ []
    → AdvancesInto settings b c middle more empty out None next
    → DrainedSoFar settings a c link (before used more) (events ++ Went out ∷ []) next
drains-goes settings a b c link middle next used more events empty out so none into = (
  writes-append events (Went out ∷ []) so.0 tt,
  drains-out settings a b c link middle next used more events empty out None so none into,
)

drains-fails : (settings : SettingsValues) (a b c : Store) (link middle next : ConnectionState)
    (used more : Environment) (events : List LineEvent) (empty out : List ℕ) (fault : ServeFault)
    → DrainedSoFar settings a b link used events middle → empty ≡ []
    → AdvancesInto settings b c middle more empty out (Some (Err fault)) next
    → DrainsTo settings a c link (before used more) (went_of (events ++ Went out ∷ []))
    (Err fault) next
drains-fails settings a b c link middle next used more events empty out fault so none into =
    go fault (drains-out settings a b c link middle next used more events empty out
    (Some (Err fault)) so none into)
  where
    go : (f : ServeFault) → Advances settings a c link (before used more)
        (went_of (events ++ Went out ∷ [])) (Some (Err f)) next
        → DrainsTo settings a c link (before used more) (went_of (events ++ Went out ∷ []))
        (Err f) next
    go Read t = t
    go Write t =
        let P : List ℕ → Type 0 = λ o.
        Advances settings a c link (before used more) o (Some (Err Write)) next in
        ([], Some (Err Write), subst P (sym (append-nil (went_of (events ++ Went out ∷ [])))) t)
    go TooLong t = t
    go OutOfMemory t = t

-- a write that failed
pub drains-part : (settings : SettingsValues) (a b c : Store) (link middle next : ConnectionState)
    (used more : Environment) (events : List LineEvent) (empty out sent unsent : List ℕ)
    (ending : Option Ending) (result : Result (Option Served) ServeFault)
    → DrainedSoFar settings a b link used events middle → empty ≡ []
    → AdvancesInto settings b c middle more empty out ending next → out ≡ sent ++ unsent
    → result ≡ Err Write
    → SentAll settings a c link (before used more) (events ++ Went sent ∷ []) result next
drains-part settings a b c link middle next used more events empty out sent unsent ending result so
    none into cut_so is =
    let P : Result (Option Served) ServeFault → Type 0 =
    λ x. SentAll settings a c link (before used more) (events ++ Went sent ∷ []) x next in
    let Q : List ℕ → Type 0 = λ o. Advances settings a c link (before used more) o ending next in
    let all = drains-into settings a b c link middle next used more events empty out ending so none
    into in
    let same : went_of events ++ out ≡ went_of (events ++ Went sent ∷ []) ++ unsent =
    ap (λ (o : List ℕ). went_of events ++ o) cut_so
    ∙ sym (append_assoc (went_of events) sent unsent)
    ∙ ap (λ (o : List ℕ). o ++ unsent) (sym (went-more events sent)) in
    subst P (sym is) (
      writes-append events (Went sent ∷ []) so.0 tt,
      (unsent, ending, subst Q same all),
    )

-- ---- measures

pub no-less-then : (a b c : ConnectionState) → IsNoLess a b → IsNoLess b c → IsNoLess a c
no-less-then a b c p q = omega arith

pub shorter-then : (a b c : ConnectionState) → length b.waiting ≤ length a.waiting → IsNoLess a b
    → (length c.waiting < length b.waiting) × IsNoLess b c
    → (length c.waiting < length a.waiting) × IsNoLess a c
shorter-then a b c short p q = (omega (arith, q.0), no-less-then a b c p q.1)

greatest-le : (limit : ℕ) (kind : Kind) → limit ≤ 65536 → greatest_size limit kind ≤ 65536
greatest-le limit Hello small = omega arith
greatest-le limit Open small = small
greatest-le limit Close small = small
greatest-le limit Message small = small

part-small : (greeted : Bool) (limit : ℕ) (bytes : List ℕ) → limit ≤ 65536
    → IsPartial greeted limit bytes → length bytes < 65536
part-small greeted limit bytes small (inl short) = omega arith
part-small greeted limit bytes small (inr part) =
    let low = greatest-le limit part.0 small in
    let high = part.4 in
    let less = part.5 in omega arith

-- what waits is short
pub short-length : (link : ConnectionState) → link.client.limit ≤ 65536 → NeedsBytes link
    → length link.waiting < 65536
short-length link small short =
    let P : Result (Option Header) UacpFault → Type 0 =
    Cuts link.client.greeted link.client.limit link.waiting in
    part-small link.client.greeted link.client.limit link.waiting small
    (subst P short (cuts link.client.greeted link.client.limit link.waiting))

short-none : chunk_header false 65536 [] ≡ Ok None
unfolding chunk_header
short-none = refl

pub starts-short : (link : ConnectionState) → link ≡ new_link → NeedsBytes link
starts-short link is = let P : ConnectionState → Type 0 = NeedsBytes in subst P (sym is) short-none

pub starts-small : (link : ConnectionState) → link ≡ new_link → IsSmall link
starts-small link is = let P : ConnectionState → Type 0 = IsSmall in
    subst P (sym is) (omega arith, omega arith)

pub fresh-small : (link : ConnectionState) → link.client ≡ new_client → IsSmall link
fresh-small link is = let P : Client → Type 0 = λ c. (c.taken ≤ 1000000) × (c.limit ≤ 65536) in
    subst P (sym is) (omega arith, omega arith)

-- fewer bytes than a header has
few-none : (limit : ℕ) (bytes : List ℕ) → length bytes < 8
    → chunk_header false limit bytes ≡ Ok None
unfolding chunk_header
few-none limit bytes few = let low : nat_lt (length bytes) 8 ≡ true = lt-ltb _ _ few in rw low refl

pub fed-short : (link fed : ConnectionState) (first : List ℕ) → link ≡ new_link
    → fed ≡ record link { waiting = link.waiting ++ first } → length first < 8
    → (fed.client ≡ new_client) × (fed.waiting ≡ first) × NeedsBytes fed
fed-short link fed first is more few =
    let same : fed ≡ (let l : ConnectionState = record { client = new_client; waiting = first } in
    l) = more ∙ ap (λ (l : ConnectionState). let k : ConnectionState =
    record l { waiting = l.waiting ++ first } in k) is in
    let P : ConnectionState → Type 0 =
    λ l. (l.client ≡ new_client) × (l.waiting ≡ first) × NeedsBytes l in
    subst P (sym same) (refl, refl, few-none 65536 first few)

-- ---- the end of a stretch

pub drains-end : (settings : SettingsValues) (a b c : Store) (link middle next : ConnectionState)
    (used more : Environment) (events : List LineEvent) (empty out : List ℕ)
    (result : Result Step ServeFault) (end : Result (Option Served) ServeFault)
    → Some end ≡ end_of result → DrainedSoFar settings a b link used events middle → empty ≡ []
    → AdvancesInto settings b c middle more empty out (ending_of result) next
    → SentAll settings a c link (before used more) (events ++ Went out ∷ []) end next
drains-end settings a b c link middle next used more events empty out
    (Ok NeedsInput) end is so none into =
    let same : end ≡ Ok None = cc in
    let P : Result (Option Served) ServeFault → Type 0 =
    λ e. SentAll settings a c link (before used more) (events ++ Went out ∷ []) e next in
    subst P (sym same) (drains-goes settings a b c link middle next used more events empty out so
    none into)
drains-end settings a b c link middle next used more events empty out
    (Ok (Acknowledged limit)) end is so none into = absurd cc
drains-end settings a b c link middle next used more events empty out
    (Ok Continues) end is so none into = absurd cc
drains-end settings a b c link middle next used more events empty out
    (Ok (Ended served)) end is so none into =
    let same : end ≡ Ok (Some served) = cc in
    let P : Result (Option Served) ServeFault → Type 0 =
    λ e. SentAll settings a c link (before used more) (events ++ Went out ∷ []) e next in
    subst P (sym same) (
      writes-append events (Went out ∷ []) so.0 tt,
      drains-out settings a b c link middle next used more events empty out
          (Some (Ok served)) so none into,
    )
drains-end settings a b c link middle next used more events empty out
    (Err fault) end is so none into =
    let same : end ≡ Err fault = cc in
    let P : Result (Option Served) ServeFault → Type 0 =
    λ e. SentAll settings a c link (before used more) (events ++ Went out ∷ []) e next in
    subst P (sym same) (
      writes-append events (Went out ∷ []) so.0 tt,
      drains-fails settings a b c link middle next used more events empty out fault so none into,
    )

pub drains-more : (settings : SettingsValues) (a b c : Store) (link middle next : ConnectionState)
    (used more : Environment) (events : List LineEvent) (empty out : List ℕ)
    (result : Result Step ServeFault) → None ≡ end_of result
    → DrainedSoFar settings a b link used events middle → empty ≡ []
    → AdvancesInto settings b c middle more empty out (ending_of result) next
    → DrainedSoFar settings a c link (before used more) (events ++ Went out ∷ []) next
drains-more settings a b c link middle next used more events empty out
    (Ok NeedsInput) is so none into = absurd cc
drains-more settings a b c link middle next used more events empty out
    (Ok (Acknowledged limit)) is so none into =
    drains-goes settings a b c link middle next used more events empty out so none into
drains-more settings a b c link middle next used more events empty out
    (Ok Continues) is so none into =
    drains-goes settings a b c link middle next used more events empty out so none into
drains-more settings a b c link middle next used more events empty out
    (Ok (Ended served)) is so none into = absurd cc
drains-more settings a b c link middle next used more events empty out (Err fault) is so none into =
    absurd cc

pub more-shorter : (a b : ConnectionState) (result : Result Step ServeFault) → None ≡ end_of result
    → Shortens result a b → (length b.waiting < length a.waiting) × IsNoLess a b
more-shorter a b (Ok NeedsInput) is less = absurd cc
more-shorter a b (Ok (Acknowledged limit)) is less = less
more-shorter a b (Ok Continues) is less = less
more-shorter a b (Ok (Ended served)) is less = absurd cc
more-shorter a b (Err fault) is less = absurd cc

pub own-end : (waits : Type 0) (start a b : ConnectionState) (result : Result Step ServeFault)
    (end : Result (Option Served) ServeFault) → Some end ≡ end_of result → IsOwn waits 65536 result
    → IsNoLess start a → Shortens result a b
    → IsOwnEnd (waits × IsNoLess start b) end
own-end waits start a b (Ok NeedsInput) end is own no_less less =
    let same : end ≡ Ok None = cc in
    let P : Result (Option Served) ServeFault → Type 0 =
    λ e. IsOwnEnd (waits × IsNoLess start b) e in
    subst P (sym same) (own, no-less-then start a b no_less less)
own-end waits start a b (Ok (Acknowledged limit)) end is own no_less less = absurd cc
own-end waits start a b (Ok Continues) end is own no_less less = absurd cc
own-end waits start a b (Ok (Ended served)) end is own no_less less =
    let same : end ≡ Ok (Some served) = cc in
    let P : Result (Option Served) ServeFault → Type 0 =
    λ e. IsOwnEnd (waits × IsNoLess start b) e in
    subst P (sym same) (go served own)
  where
    go : (s : Served) → IsOwn waits 65536 (Ok (Ended s))
        → IsOwnEnd (waits × IsNoLess start b) (Ok (Some s))
    go EndOfInput o = o
    go Closed o = o
    go (Refused code) o = o
own-end waits start a b (Err fault) end is own no_less less =
    let same : end ≡ Err fault = cc in
    let P : Result (Option Served) ServeFault → Type 0 =
    λ e. IsOwnEnd (waits × IsNoLess start b) e in
    subst P (sym same) (go fault own)
  where
    go : (f : ServeFault) → IsOwn waits 65536 (Err f) → IsOwnEnd (waits × IsNoLess start b) (Err f)
    go Read o = o
    go Write o = absurd o
    go TooLong o = o
    go OutOfMemory o = o

-- it isn't the writer's fault
pub end-unwritten : (result : Result Step ServeFault) (waits : Type 0) → IsOwn waits 65536 result
    → Some (Err Write) ≡ end_of result → ⊥
end-unwritten (Ok NeedsInput) waits own is = cc
end-unwritten (Ok (Acknowledged limit)) waits own is = cc
end-unwritten (Ok Continues) waits own is = cc
end-unwritten (Ok (Ended served)) waits own is = cc
end-unwritten (Err Read) waits own is = own
end-unwritten (Err Write) waits own is = own
end-unwritten (Err TooLong) waits own is = cc
end-unwritten (Err OutOfMemory) waits own is = cc
