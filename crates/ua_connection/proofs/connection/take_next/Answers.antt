use Rattle.std.proofs.Common.{[], ◌≡◌, ◌<◌, ◌==◌, true, ◌∷◌, eq-eqb, arith}
use Rattle.archive.specs.Store.{Done}
use Rattle.ua_connection.specs.Turns.{link_of, client_after, ending_of}
use Rattle.ua_connection.proofs.Outsides.{marked, empty_environment}
use Rattle.ua_connection.proofs.Turning.{waits-turned, chunk-turned, many-turned, fault-turned, left-waiting, gives-one, sound-one, fault-leaves, chunk-leaves, refusal-leaves, counted-one, counted-refusal, own-turn}
use Rattle.ua_connection.proofs.connection.take_next.Goals as goal

pub returns-in-Ok-None-clause-turned : goal.returns-in-Ok-None-clause-turned
returns-in-Ok-None-clause-turned g c =
    let gives = rw c.in-Ok-None.field-0-is at c.in-Ok-None.ensures.value in
    let a = g.A.Archive.state c.args.server.now.replica.archive in (
      empty_environment,
      g.met.C.Clock.gave_none c.args.clock.now,
      waits-turned c.args.server.now.settings a c.args.intake.now
          c.next_chunk.follows.lender-at-none c.args.client.now.taken c.args.client.now.channel
          c.args.client.now.sessions c.args.out.now.items gives c.next_chunk.follows.holds-at-none,
    )

pub returns-then-client-eq-MOST_CHUNKS-clause-turned :
    goal.returns-then-client-eq-MOST_CHUNKS-clause-turned
returns-then-client-eq-MOST_CHUNKS-clause-turned g c =
    let gives = rw c.in-Ok-Some.field-0-is at c.in-Ok-Some.ensures.value in
    let a = g.A.Archive.state c.args.server.now.replica.archive in
    let many : (c.args.client.now.taken == 1000000) ≡ true =
    eq-eqb c.args.client.now.taken 1000000 (omega arith) in (
      marked (Done ∷ []),
      g.met.C.Clock.gave_none c.args.clock.now,
      many-turned c.args.server.now.settings a c.args.intake.now c.args.client.now.taken
          c.args.client.now.channel c.args.client.now.sessions c.in-Ok-Some.chunk _
          c.args.out.now.items c.requires.sound gives many,
    )

pub returns-then-client-eq-MOST_CHUNKS-clause-leaves :
    goal.returns-then-client-eq-MOST_CHUNKS-clause-leaves
returns-then-client-eq-MOST_CHUNKS-clause-leaves g c =
    let gives = rw c.in-Ok-Some.field-0-is at c.in-Ok-Some.ensures.value in
    let one = gives-one c.args.intake.now c.next_chunk.follows.lender-at-none c.in-Ok-Some.chunk
    gives c.next_chunk.follows.holds-at-none c.requires.limit in
    (one.limit, sound-one c.args.intake.now c.next_chunk.follows.lender-at-none one)

pub returns-else-client-eq-MOST_CHUNKS-clause-turned :
    goal.returns-else-client-eq-MOST_CHUNKS-clause-turned
returns-else-client-eq-MOST_CHUNKS-clause-turned g c =
    let gives = rw c.in-Ok-Some.field-0-is at c.in-Ok-Some.ensures.value in
    let a = g.A.Archive.state c.args.server.now.replica.archive in
    let b = g.A.Archive.state c.answer.new.server.replica.archive in
    let client = (link_of c.args.intake.now c.args.client.now.taken c.args.client.now.channel
    c.args.client.now.sessions).client in
    let h = c.answer.ensures.answered client in
    let next = client_after client c.answer.result c.answer.new.self.channel
    c.answer.new.self.sessions in (
      h.0,
      h.1,
      chunk-turned c.args.server.now.settings a b c.args.intake.now c.args.client.now.taken
          c.args.client.now.channel c.args.client.now.sessions c.in-Ok-Some.chunk
          c.next_chunk.follows.lender-at-none.waiting h.0 c.args.out.now.items
          c.answer.new.out.items (ending_of c.answer.result) next
          c.requires.sound gives c.if-client-eq-MOST_CHUNKS.false
          (left-waiting c.args.intake.now c.next_chunk.follows.lender-at-none c.in-Ok-Some.chunk
          gives c.next_chunk.follows.holds-at-none) h.2,
    )

pub returns-else-client-eq-MOST_CHUNKS-clause-own :
    goal.returns-else-client-eq-MOST_CHUNKS-clause-own
returns-else-client-eq-MOST_CHUNKS-clause-own g c = own-turn _ c.answer.result c.answer.ensures.own

pub returns-else-client-eq-MOST_CHUNKS-clause-few :
    goal.returns-else-client-eq-MOST_CHUNKS-clause-few
returns-else-client-eq-MOST_CHUNKS-clause-few g c =
    let few : c.args.client.now.taken < 1000000 = omega arith in
    counted-one c.args.client.now.taken c.answer.result few

pub returns-else-client-eq-MOST_CHUNKS-clause-leaves :
    goal.returns-else-client-eq-MOST_CHUNKS-clause-leaves
returns-else-client-eq-MOST_CHUNKS-clause-leaves g c =
    let gives = rw c.in-Ok-Some.field-0-is at c.in-Ok-Some.ensures.value in
    let one = gives-one c.args.intake.now c.next_chunk.follows.lender-at-none c.in-Ok-Some.chunk
    gives c.next_chunk.follows.holds-at-none c.requires.limit in
    chunk-leaves c.args.intake.now c.next_chunk.follows.lender-at-none c.answer.result
    c.answer.ensures.own one

pub returns-in-Err-clause-turned : goal.returns-in-Err-clause-turned
returns-in-Err-clause-turned g c =
    let a = g.A.Archive.state c.args.server.now.replica.archive in
    let h = fault-turned c.args.server.now.settings a c.args.intake.now c.args.client.now.taken
    c.args.client.now.channel c.args.client.now.sessions c.in-Err.fault c.code.result _
    c.args.out.now.items c.refuse.new.out.items c.refuse.result c.requires.sound
    c.in-Err.ensures.value c.code.ensures c.refuse.ensures.refuses in
    (marked h.0, g.met.C.Clock.gave_none c.args.clock.now, h.1)

pub returns-in-Err-clause-own : goal.returns-in-Err-clause-own
returns-in-Err-clause-own g c = own-turn _ c.refuse.result c.refuse.ensures.own

pub returns-in-Err-clause-few : goal.returns-in-Err-clause-few
returns-in-Err-clause-few g c = counted-refusal c.code.result c.args.client.now.taken
    c.refuse.result c.args.out.now.items c.refuse.new.out.items c.refuse.ensures.refuses

pub returns-in-Err-clause-leaves : goal.returns-in-Err-clause-leaves
returns-in-Err-clause-leaves g c =
    refusal-leaves c.code.result c.refuse.result c.args.out.now.items c.refuse.new.out.items
    c.args.intake.now c.next_chunk.follows.lender-at-none c.refuse.ensures.refuses
    (fault-leaves c.args.intake.now c.next_chunk.follows.lender-at-none c.in-Err.fault
    c.requires.sound c.in-Err.ensures.value c.next_chunk.follows.holds-at-none)
