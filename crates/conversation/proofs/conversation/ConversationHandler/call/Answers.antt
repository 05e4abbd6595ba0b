use Rattle.std.proofs.Common.{Some, Ok, false, refl}
use Rattle.conversation.specs.declared.other_end.OtherEnd.TheVariants.{Peer}
use Rattle.conversation.proofs.conversation.ConversationHandler.call.Goals as goal

pub returns-in-Ok : goal.returns-in-Ok
returns-in-Ok g c =
    let begun = c.in-Ok.ensures in
    let (made, out, asks) = begun.asks in (
      made,
      out,
      record {
        between = c.start_call.new.world;
        result = Ok tt;
        settings = begun.settings;
        clock = begun.clock;
        log = begun.log;
        from = begun.from;
        now = begun.now;
        logins = begun.logins;
        calls = begun.calls;
        connections = begun.connections;
        restoring = begun.restoring;
        asks = asks;
        begins = (
          λ i. Some (Peer (record {
            dialog = begun.dialog i;
            frames = c.new.ensures i;
            is_heard = false;
          })),
          refl,
        );
      },
    )
