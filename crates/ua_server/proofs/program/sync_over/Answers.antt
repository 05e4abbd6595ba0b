use Rattle.std.proofs.Common.{rules, refl, inl, inr, subst}
use Rattle.std.specs.Prelude.{Option}
use Rattle.peer_check.specs.declared.comparing.Extent.{Extent}
use Rattle.ua_server.specs.Program.{CallsPeer}
use Rattle.ua_server.specs.Host.{known_machine}
use Rattle.ua_server.proofs.Opened.{was-called}
use Rattle.ua_server.proofs.program.sync_over.Goals as goal

pub returns-in_default-clause-calls : goal.returns-in_default-clause-calls
returns-in_default-clause-calls g c = inl (inl (search rules, refl), refl, refl)

pub returns-in_default-call-clause-calls : goal.returns-in_default-call-clause-calls
returns-in_default-call-clause-calls g c =
    inl (
      inr (c.in-Ok.address, search rules, rw (← c.in_default-call.is) c.call.ensures),
      refl,
      refl,
    )

pub returns-clause-calls : goal.returns-clause-calls
returns-clause-calls g c =
    let known =
    known_machine g.H.Host.means g.H.Archive.Archive.state g.H.Source.Source.effects
    g.H.Source.Reader.NonBlockingRead.input g.H.Source.Writer.NonBlockingWrite.output
    g.H.Reader.Read.remaining g.H.Writer.Write.contents g.H.Rows.Read.remaining in
    let ends = c.exchange_over-ending.ensures in
    let over =
    was-called known c.compared_before-compared.result c.args.server.now.replica.archive
    c.exchange_over-ending.new.server.replica.archive
    c.in-Some.reader c.in-Some.writer c.new-reader.result c.exchange_over-ending.new.reader
    c.new-writer.result
    c.exchange_over-ending.new.writer c.call.new.self c.part.new.self
    (g.W.Write.contents c.args.output.now.inner)
    (g.W.Write.contents c.report_call.new.output.inner)
    c.exchange_over-ending.result c.new-reader.ensures c.new-writer.ensures ends.exchanges
    ends.reads.counts
    ends.writes.counts ends.reads.keeps ends.writes.keeps c.part.ensures in
    subst (λ (compared : Option Extent). CallsPeer known compared c.args.asked.peer.now
    (record {
      host = c.args.host.now;
      archive = c.args.server.now.replica.archive;
      written = g.W.Write.contents c.args.output.now.inner;
    })
    (record {
      host = c.part.new.self;
      archive = c.exchange_over-ending.new.server.replica.archive;
      written = g.W.Write.contents c.report_call.new.output.inner;
    }) c.report_call.result) c.compared_before-compared.ensures (inr (
      c.in-Ok.address,
      search rules,
      (
        c.in-Some.reader,
        c.in-Some.writer,
        c.call.new.self,
        rw (← c.in-Some.is) c.call.ensures,
        c.exchange_over-ending.result,
        c.report_call.ensures.prints,
        over,
      ),
    ))
