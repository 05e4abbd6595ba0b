use Rattle.ua_channel.specs.Placed.{Heard}
use Rattle.ua_channel.specs.Taking.{ChannelState, piece_of, placed_of}
use Rattle.ua_channel.proofs.Takings.{takes-accepted}
use Rattle.ua_channel.proofs.Messages.{takes-ready}
use Rattle.ua_channel.proofs.channel.Channel.take.Goals as goal

pub returns-in-Ok-clause-takes : goal.returns-in-Ok-clause-takes
returns-in-Ok-clause-takes c =
    rw (← c.self.view_is) (takes-accepted c.self.inside.inbound c.accept.new.self c.self.inside.next
    c.self.inside.limit c.self.inside.max_message c.self.inside.max_chunks
    (piece_of c.args.chunk)
    (placed_of c.in-Ok.placed) c.accept.result c.in-Ok.ensures.value c.accept.ensures)

pub returns-in-Ok-clause-ready : goal.returns-in-Ok-clause-ready
returns-in-Ok-clause-ready c =
    let inside = c.self.inside in
    let state : Heard → ChannelState =
    λ heard. record {
      heard = heard;
      next = inside.next;
      limit = inside.limit;
      max_message =
          inside.max_message;
      max_chunks = inside.max_chunks;
    } in
    takes-ready (state inside.inbound) (state c.accept.new.self)
    (piece_of c.args.chunk) c.accept.result
    (takes-accepted inside.inbound c.accept.new.self inside.next inside.limit inside.max_message
    inside.max_chunks
    (piece_of c.args.chunk) (placed_of c.in-Ok.placed) c.accept.result c.in-Ok.ensures.value
    c.accept.ensures)
