use Rattle.std.proofs.Common.{arith, string_bytes}
use Rattle.ua_server.proofs.DumpLemmas.{lines_more, known_more}
use Rattle.ua_server.proofs.dumps.put_lines.Goals as goal

pub loop-r-preserved : goal.loop-r-preserved
loop-r-preserved c =
    let line = c.in-Ok.ensures in
    let raised = c.raise.ensures.raised in
    let others = c.raise.ensures.others in
    record {
      lines = lines_more (string_bytes c.args.text.now) (string_bytes c.loop-r.text)
          (string_bytes c.put_line.new.text) c.args.records.now c.loop-r.r-index c.r-item.result
          (omega arith) c.loop-r.invariant.lines (rw (← c.r-item.is) line);
      known = known_more c.args.known.now c.loop-r.known c.raise.new.self c.args.records.now
          c.loop-r.r-index c.r-item.result (omega arith) c.loop-r.invariant.known
          (rw (← c.r-item.is) raised) (rw (← c.r-item.is) others);
    }
