use Rattle.std.proofs.Common.{◌≡◌, ◌∙◌, ◌<◌, Option, Some, length, refl, sym, subst, ltb-true}
use Rattle.std.specs.Prelude.{slice_get}
use Rattle.std.proofs.lemmas.Option.{slice_get_read}
use Rattle.ua_settings.specs.declared.peers.PeerCall.{PeerCall}
use Rattle.conversation.specs.Closing.{TellsCallOf}
use Rattle.conversation.specs.Events.{CallEnded}
use Rattle.conversation.proofs.closing.tell_call.Goals as goal

pub returns-in-Some : goal.returns-in-Some
returns-in-Some g c =
    let v = c.args.world.now in
    let left = record v {
      clock = c.keep_call.new.clock;
      log = c.tell_call.new.self;
      calls = c.keep_call.new.calls;
    } in
    let listed = c.as_slice.result.now in
    let same : listed ≡ v.server.settings.peers = c.as_slice.ensures ∙ c.peers.ensures in
    let looked = c.in-Some.ensures.lookup in
    let within : c.args.callee < length listed =
    ltb-true c.args.callee (length listed) (sym looked.0) in
    let found : slice_get v.server.settings.peers c.args.callee ≡ Some c.in-Some.peer.now =
    subst (λ l. slice_get l c.args.callee ≡ Some c.in-Some.peer.now) same
    (slice_get_read listed (length listed) c.args.callee c.in-Some.peer.now refl within
    looked.1) in
    let (at, clock, calls) = c.keep_call.ensures in
    subst (λ (peer : Option PeerCall). TellsCallOf g.C.Clock.gave g.L.Log.told v c.args.callee
    c.args.outcome c.args.moved left peer) (sym found)
    (record {
      at = at;
      clock = clock;
      log = subst (λ address. g.L.Log.told v.log (CallEnded c.args.callee address c.args.outcome
          c.args.moved) c.tell_call.new.self) c.as_str.ensures.same c.tell_call.ensures;
      calls = calls;
      same = refl;
    })
