use Rattle.std.proofs.Common.{◌≡◌, ◌∙◌, ℤ, [], Some, None, refl, sym, ap, subst, inl, inr, arith, w64}
use Rattle.std.proofs.lemmas.List.{append-nil}
use Rattle.std.specs.Int.RustNames.{FitsSigned}
use Rattle.std.proofs.lemmas.Int.{ints, to_z-of_z}
use Rattle.std.specs.Prelude.{Option}
use Rattle.exchange.specs.Dialogs.{party_of}
use Rattle.exchange.specs.Frames.{ReceivedFrames}
use Rattle.multiplex.specs.Progress.{end_in}
use Rattle.conversation.specs.Admitting.{restoring_with, own_bound, IsAdmitted, Refuses}
use Rattle.conversation.specs.declared.other_end.OtherEnd.TheVariants.{Peer, Over}
use Rattle.conversation.specs.declared.other_end.PeerDialog.{PeerDialog}
use Rattle.conversation.specs.OtherEnds.{ConversationEnding, IsUsable, moved_by, peer_at, unless_over}
use Rattle.conversation.proofs.answering.answer_peer.Goals as goal

-- the dialog that goes on is told by how it stands and by what waits
left_so : (ending : Option ConversationEnding) (peer : PeerDialog)
    → (ending ≡ None → IsUsable (Peer peer))
    → unless_over ending (Peer peer)
    ≡ unless_over ending (Peer (peer_at peer.dialog peer.frames.waiting))
left_so None peer goes = ap Peer (goes refl).1
left_so (Some end) peer goes = refl

pub returns-then-append-clause-answers : goal.returns-then-append-clause-answers
returns-then-append-clause-answers g c =
    let answered = c.answer_frame-progress in
    let (readings, gave, timed) = c.time_at-time.ensures in
    let (ends, is, so) = answered.ensures.answers in
    let server = c.args.world.now.server in
    let party = party_of (g.A.Archive.state answered.new.server.replica.archive) in
    let small : FitsSigned w64 c.time_at-time.result =
    omega (arith, ints, c.time_at-time.type_inv) in
    let same = to_z-of_z w64 c.time_at-time.result small in (
      answered.new.said.items,
      c.append.ensures.appended c.if-append.true,
      elim so [
        | inl taken ↦ let (between, held, asks, admitted, restoring, meets) = taken in elim meets [
          | inl once ↦ inl (record {
            time = c.time_at-time.result;
            between = between;
            said = answered.new.said.items;
            rest = answered.new.peer.frames.waiting;
            ends = ends;
            last = answered.new.peer.dialog;
            stays = record {
              readings = readings;
              clock = gave;
              timed = timed;
              settings = answered.ensures.settings;
              log = refl;
              logins = c.release.ensures;
              from = refl;
              now = refl;
              calls = refl;
              connections = refl;
            };
            takes = record {
              held = held;
              asks = asks;
              admitted = subst (λ (t : ℤ). IsAdmitted server.settings t
                  (own_bound (restoring_with c.args.world.now.restoring held)
                  (g.A.Archive.state between).own held) (party_of (g.A.Archive.state between))
                  c.args.peer.now.frames.waiting) same admitted;
              restoring = restoring;
            };
            once = once;
            tells = inl (refl, is);
            leaves = left_so _ answered.new.peer answered.ensures.goes;
          })
          | inr ahead ↦ let (result, learns, told, frames) = ahead in inr (inl (record {
            time = c.time_at-time.result;
            between = between;
            result = result;
            said = answered.new.said.items;
            ends = ends;
            last = answered.new.peer.dialog;
            stays = record {
              readings = readings;
              clock = gave;
              timed = timed;
              settings = answered.ensures.settings;
              log = refl;
              logins = c.release.ensures;
              from = refl;
              now = refl;
              calls = refl;
              connections = refl;
            };
            takes = record {
              held = held;
              asks = asks;
              admitted = subst (λ (t : ℤ). IsAdmitted server.settings t
                  (own_bound (restoring_with c.args.world.now.restoring held)
                  (g.A.Archive.state between).own held) (party_of (g.A.Archive.state between))
                  c.args.peer.now.frames.waiting) same admitted;
              restoring = restoring;
            };
            learns = learns;
            told = told;
            tells = inl (refl, is);
            leaves = left_so _ answered.new.peer answered.ensures.goes
                ∙ ap (λ (f : ReceivedFrames). unless_over (end_in answered.result)
                (Peer (peer_at answered.new.peer.dialog f.waiting))) frames;
          }))
        ]
        | inr refused ↦ let (asked, asks, refuses, restoring, left) = refused in inr (inr (record {
          time = c.time_at-time.result;
          asked = asked;
          said = answered.new.said.items;
          ends = ends;
          stays = record {
            readings = readings;
            clock = gave;
            timed = timed;
            settings = answered.ensures.settings;
            log = refl;
            logins = c.release.ensures;
            from = refl;
            now = refl;
            calls = refl;
            connections = refl;
          };
          asks = asks;
          restoring = restoring;
          refuses = subst (λ (t : ℤ). Refuses server.settings t c.args.world.now.restoring party
              c.args.peer.now.frames.waiting asked answered.new.said.items ends) same refuses;
          tells = inl (refl, is);
          leaves = ap (λ (p : PeerDialog). unless_over (end_in answered.result) (Peer p)) left;
        }))
      ],
    )

pub returns-else-append-clause-answers : goal.returns-else-append-clause-answers
returns-else-append-clause-answers g c =
    let answered = c.answer_frame-progress in
    let (readings, gave, timed) = c.time_at-time.ensures in
    let (ends, is, so) = answered.ensures.answers in
    let server = c.args.world.now.server in
    let party = party_of (g.A.Archive.state answered.new.server.replica.archive) in
    let small : FitsSigned w64 c.time_at-time.result =
    omega (arith, ints, c.time_at-time.type_inv) in
    let same = to_z-of_z w64 c.time_at-time.result small in (
      [],
      c.append.ensures.starved c.if-append.false ∙ sym (append-nil c.args.out.now.items),
      elim so [
        | inl taken ↦ let (between, held, asks, admitted, restoring, meets) = taken in elim meets [
          | inl once ↦ inl (record {
            time = c.time_at-time.result;
            between = between;
            said = answered.new.said.items;
            rest = answered.new.peer.frames.waiting;
            ends = ends;
            last = answered.new.peer.dialog;
            stays = record {
              readings = readings;
              clock = gave;
              timed = timed;
              settings = answered.ensures.settings;
              log = refl;
              logins = c.release.ensures;
              from = refl;
              now = refl;
              calls = refl;
              connections = refl;
            };
            takes = record {
              held = held;
              asks = asks;
              admitted = subst (λ (t : ℤ). IsAdmitted server.settings t
                  (own_bound (restoring_with c.args.world.now.restoring held)
                  (g.A.Archive.state between).own held) (party_of (g.A.Archive.state between))
                  c.args.peer.now.frames.waiting) same admitted;
              restoring = restoring;
            };
            once = once;
            tells = inr (refl, refl);
            leaves = refl;
          })
          | inr ahead ↦ let (result, learns, told, frames) = ahead in inr (inl (record {
            time = c.time_at-time.result;
            between = between;
            result = result;
            said = answered.new.said.items;
            ends = ends;
            last = answered.new.peer.dialog;
            stays = record {
              readings = readings;
              clock = gave;
              timed = timed;
              settings = answered.ensures.settings;
              log = refl;
              logins = c.release.ensures;
              from = refl;
              now = refl;
              calls = refl;
              connections = refl;
            };
            takes = record {
              held = held;
              asks = asks;
              admitted = subst (λ (t : ℤ). IsAdmitted server.settings t
                  (own_bound (restoring_with c.args.world.now.restoring held)
                  (g.A.Archive.state between).own held) (party_of (g.A.Archive.state between))
                  c.args.peer.now.frames.waiting) same admitted;
              restoring = restoring;
            };
            learns = learns;
            told = told;
            tells = inr (refl, refl);
            leaves = refl;
          }))
        ]
        | inr refused ↦ let (asked, asks, refuses, restoring, left) = refused in inr (inr (record {
          time = c.time_at-time.result;
          asked = asked;
          said = answered.new.said.items;
          ends = ends;
          stays = record {
            readings = readings;
            clock = gave;
            timed = timed;
            settings = answered.ensures.settings;
            log = refl;
            logins = c.release.ensures;
            from = refl;
            now = refl;
            calls = refl;
            connections = refl;
          };
          asks = asks;
          restoring = restoring;
          refuses = subst (λ (t : ℤ). Refuses server.settings t c.args.world.now.restoring party
              c.args.peer.now.frames.waiting asked answered.new.said.items ends) same refuses;
          tells = inr (refl, refl);
          leaves = ap (λ (p : PeerDialog). Over (moved_by (Peer p))) left;
        }))
      ],
    )
