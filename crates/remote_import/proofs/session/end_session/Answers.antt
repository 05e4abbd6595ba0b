use Rattle.std.proofs.Common.{inl, inr}
use Rattle.ua_client.specs.Asking.{closing}
use Rattle.ua_client.specs.Talking.{flow_of}
use Rattle.remote_import.proofs.Opening.{part-either}
use Rattle.remote_import.proofs.session.end_session.Goals as goal

pub returns-in-Ok : goal.returns-in-Ok
returns-in-Ok g c =
    let R = g.R.Read.remaining in
    let W = g.W.Write.contents in
    let closed = c.close_session.new.self in
    inr (
      record { client = closed; flow = flow_of R W c.close_session.new.line },
      c.in-Ok.ensures.closes,
      part-either c.close_channel.result (flow_of R W c.close_session.new.line)
          (flow_of R W c.close_channel.new.line)
          (closing closed.token closed.number closed.request) c.close_channel.ensures.sent
          c.close_channel.ensures.part,
    )

pub returns-in-Err : goal.returns-in-Err
returns-in-Err g c = inl c.in-Err.ensures.part
