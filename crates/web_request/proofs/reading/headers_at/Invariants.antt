use Rattle.std.proofs.Common.{◌≡◌, map, take}
use Rattle.httparse.specs.Spans.{header_bytes}
use Rattle.http1.specs.Head.{pairs}
use Rattle.web_request.proofs.reading.headers_at.Given as goal

-- the headers so far are those of the spans so far
abbrev pub invariant-loop-span : goal.invariant-loop-span
invariant-loop-span l =
    pairs l.headers.items ≡ map (header_bytes l.came) (take l.span-index l.spans)
