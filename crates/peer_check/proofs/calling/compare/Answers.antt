use Rattle.std.proofs.Common.{◌≡◌, ◌∙◌, ◌∷◌, ◌++◌, [], ℕ, List, Option, None, Ok, Err, refl, sym, ap, subst, arith}
use Rattle.std.specs.Prelude.{is_some}
use Rattle.std.proofs.lemmas.Bool.{true≢false}
use Rattle.std.specs.Io.KnownBytes.{Appends}
use Rattle.std.proofs.lemmas.List.{append-nil}
use Rattle.std.proofs.lemmas.Result.{err_from_is_err_and}
use Rattle.stamp.specs.Numbers.{number_of}
use Rattle.records.specs.declared.record.Record.{Record}
use Rattle.exchange.specs.Dialogs.{party_of}
use Rattle.exchange.specs.Frames.{ReceivedFrames}
use Rattle.exchange.specs.Messages.{Party}
use Rattle.peer_check.specs.declared.comparing.Clash.{Clash}
use Rattle.peer_check.specs.Clashes.{FindsClash}
use Rattle.peer_check.specs.Comparing.{asking, wire, before_shared, numbers_behind, Answers, AsksOnly}
use Rattle.peer_check.proofs.Outcomes.{alone_asked, alone_failed, alone_then, alone_ok, same_party, said_one, said_then, said_next, said_whole, part_of_whole, answers_by, finds_before, agree_more, not_some}
use Rattle.peer_check.proofs.calling.compare.Goals as goal
use Rattle.peer_check.proofs.calling.compare.Goals.{then-is_some-via-then-is_some, then-is_some-via-else-is_some+then-is_empty}

pub returns-in_err-ours-clause-asks : goal.returns-in_err-ours-clause-asks
returns-in_err-ours-clause-asks g c =
    let p = err_from_is_err_and c.from_residual.result c.from_residual.ensures.1 in
    alone_failed (g.A.Archive.state c.args.replica.now.archive)
    (g.A.Archive.state c.own_numbers.new.archive) c.in_err-ours.field-0.0 _
    c.from_residual.result c.in_err-ours.ensures.asks (p.1 ∙ ap Err p.2)

pub returns-in_err-ask-clause-asks : goal.returns-in_err-ask-clause-asks
returns-in_err-ask-clause-asks g c =
    alone_asked (g.A.Archive.state c.args.replica.now.archive)
    (g.A.Archive.state c.own_numbers.new.archive) c.in_ok-ours.ours _
    c.from_residual-in_err-ask.result c.in_ok-ours.ensures.asks

pub returns-in_err-ask-clause-says : goal.returns-in_err-ask-clause-says
returns-in_err-ask-clause-says g c =
    let a = g.A.Archive.state c.args.replica.now.archive in
    let b = g.A.Archive.state c.own_numbers.new.archive in
    let before = g.W.Write.contents c.args.writer.now.inner in
    let after = g.W.Write.contents c.ask.new.writer.inner in
    subst (λ (x : Party). AsksOnly x before after)
    (same_party a b _ c.in_ok-ours.ensures.asks.leaves.passes)
    (said_one (party_of b) c.vector_before_shared-all.result before after c.in_err-ask.ensures.part)

pub returns-in_err-theirs-clause-says : goal.returns-in_err-theirs-clause-says
returns-in_err-theirs-clause-says g c =
    let a = g.A.Archive.state c.args.replica.now.archive in
    let b = g.A.Archive.state c.own_numbers.new.archive in
    let before = g.W.Write.contents c.args.writer.now.inner in
    let after = g.W.Write.contents c.ask.new.writer.inner in
    subst (λ (x : Party). AsksOnly x before after)
    (same_party a b _ c.in_ok-ours.ensures.asks.leaves.passes)
    (said_one (party_of b) c.vector_before_shared-all.result before after
    (part_of_whole before after _ c.in_ok-ask.ensures.sent))

pub returns-in_err-theirs-clause-asks : goal.returns-in_err-theirs-clause-asks
returns-in_err-theirs-clause-asks g c =
    alone_asked (g.A.Archive.state c.args.replica.now.archive)
    (g.A.Archive.state c.own_numbers.new.archive) c.in_ok-ours.ours _
    c.from_residual-in_err-theirs.result c.in_ok-ours.ensures.asks

pub loop-init : goal.loop-init
loop-init g c =
    let a = g.A.Archive.state c.args.replica.now.archive in
    let b = g.A.Archive.state c.own_numbers.new.archive in
    let known = c.in_ok-ours.ensures.asks in
    let same = same_party a b _ known.leaves.passes in
    let before = g.W.Write.contents c.args.writer.now.inner in
    let after = g.W.Write.contents c.ask.new.writer.inner in
    let unread = g.R.Read.remaining c.args.reader.now.inner in
    let told = wire c.next_carried.new.frames.waiting
    (g.R.Read.remaining c.next_carried.new.reader.inner) after in
    let all = c.vector_before_shared-all.result in
    let theirs = c.in_ok-theirs.theirs in
    let by_party = answers_by (party_of a) (party_of b) c.party_of-party.result all theirs
    (wire c.new-frames.result.waiting unread before) told c.in_ok-theirs._first same
    (c.party_of-party.ensures ∙ same) c.in_ok-ask.ensures.sent c.in_ok-theirs.ensures.hears in
    let answers = subst (λ (h : ReceivedFrames). Answers (party_of a) all theirs
    (wire h.waiting unread before) told c.in_ok-theirs._first) c.new-frames.ensures by_party in
    record {
      theirs = theirs;
      first = c.vector_before_shared-numbers.result;
      earlier = [];
      told = told;
      tells = (
        all,
        c.in_ok-theirs._first,
        (λ replica is. c.vector_before_shared-all.ensures replica is
            ∙ ap (λ (n : ℕ). before_shared c.args.extent n n) (c.new-nothing.ensures.none replica)),
        answers,
      );
      answers = (refl, refl);
      asks = record {
        answer = λ h. (
          (
            known.answer h,
            (λ replica is. c.vector_before_shared-numbers.ensures replica is
                ∙ ap (λ (n : ℕ). before_shared c.args.extent n (number_of theirs replica))
                (known.answer h replica)),
          ),
          tt,
        );
        stays = known.stays;
        leaves = known.leaves;
      };
      asked = omega (arith, c.in_ok-ours.ensures.asked);
      questions = all ∷ [];
      says = subst (λ (bytes : List ℕ). Appends before after bytes)
          (sym (append-nil (asking (party_of a) all))) answers.asks;
      sound = c.in_ok-theirs.ensures.sound;
      read = c.in_ok-theirs.ensures.reads.keeps (λ e. cc);
      written = c.in_ok-ask.ensures.writes.keeps (λ e. cc);
    }

pub returns-in_err-brought-clause-asks : goal.returns-in_err-brought-clause-asks
returns-in_err-brought-clause-asks g c =
    alone_asked (g.A.Archive.state c.args.replica.now.archive)
    (g.A.Archive.state c.loop.replica.archive) tt _
    c.from_residual-in_err-brought.result c.loop.invariant.asks

pub returns-in_err-brought-clause-says : goal.returns-in_err-brought-clause-says
returns-in_err-brought-clause-says g c =
    let a = g.A.Archive.state c.args.replica.now.archive in
    let b = g.A.Archive.state c.loop.replica.archive in
    let same = same_party a b _ c.loop.invariant.asks.leaves.passes in
    let before = g.W.Write.contents c.args.writer.now.inner in
    let between = g.W.Write.contents c.loop.writer.inner in
    let after = g.W.Write.contents c.ask-in-loop.new.writer.inner in
    said_whole (party_of a) (c.loop.invariant.questions ++ (c.loop.numbers ∷ [])) before after
    (said_next (party_of a) c.loop.invariant.questions c.loop.numbers before between after
    c.loop.invariant.says (subst (λ (x : Party). Appends between after (asking x c.loop.numbers))
    same c.in_ok-ask-2.ensures.sent))

pub returns-in_err-ask-2-clause-asks : goal.returns-in_err-ask-2-clause-asks
returns-in_err-ask-2-clause-asks g c =
    alone_asked (g.A.Archive.state c.args.replica.now.archive)
    (g.A.Archive.state c.loop.replica.archive) tt _
    c.from_residual-in_err-ask-2.result c.loop.invariant.asks

pub returns-in_err-ask-2-clause-says : goal.returns-in_err-ask-2-clause-says
returns-in_err-ask-2-clause-says g c =
    let a = g.A.Archive.state c.args.replica.now.archive in
    let b = g.A.Archive.state c.loop.replica.archive in
    let same = same_party a b _ c.loop.invariant.asks.leaves.passes in
    let between = g.W.Write.contents c.loop.writer.inner in
    let after = g.W.Write.contents c.ask-in-loop.new.writer.inner in
    said_then (party_of a) c.loop.invariant.questions
    (g.W.Write.contents c.args.writer.now.inner) between after c.loop.invariant.says
    (subst (λ (x : Party). AsksOnly x between after) same
    (said_one (party_of b) c.loop.numbers between after c.in_err-ask-2.ensures.part))

pub returns-in_err-clash-clause-asks : goal.returns-in_err-clash-clause-asks
returns-in_err-clash-clause-asks g c =
    let a = g.A.Archive.state c.args.replica.now.archive in
    let b = g.A.Archive.state c.loop.replica.archive in
    let d = g.A.Archive.state c.find_clash.new.archive in
    let r = c.from_residual-in_err-clash.result in
    let p = err_from_is_err_and r c.from_residual-in_err-clash.ensures.1 in
    alone_then a b d tt _ r r c.loop.invariant.asks
    (alone_failed b d c.in_err-clash.field-0.0 _ r c.in_err-clash.ensures.asks (p.1 ∙ ap Err p.2))
    (λ fault is. is)

pub returns-in_err-clash-clause-says : goal.returns-in_err-clash-clause-says
returns-in_err-clash-clause-says g c =
    let a = g.A.Archive.state c.args.replica.now.archive in
    let b = g.A.Archive.state c.loop.replica.archive in
    let same = same_party a b _ c.loop.invariant.asks.leaves.passes in
    let before = g.W.Write.contents c.args.writer.now.inner in
    let between = g.W.Write.contents c.loop.writer.inner in
    let after = g.W.Write.contents c.ask-in-loop.new.writer.inner in
    said_whole (party_of a) (c.loop.invariant.questions ++ (c.loop.numbers ∷ [])) before after
    (said_next (party_of a) c.loop.invariant.questions c.loop.numbers before between after
    c.loop.invariant.says (subst (λ (x : Party). Appends between after (asking x c.loop.numbers))
    same c.in_ok-ask-2.ensures.sent))

pub returns-then-is_some-clause-compares : goal.returns-then-is_some-clause-compares
returns-then-is_some-clause-compares g c =
    let a = g.A.Archive.state c.args.replica.now.archive in
    let b = g.A.Archive.state c.loop.replica.archive in
    let so = c.loop.invariant in
    let same = same_party a b _ so.asks.leaves.passes in
    let between = wire c.loop.frames.waiting (g.R.Read.remaining c.loop.reader.inner)
    (g.W.Write.contents c.loop.writer.inner) in
    let end = wire c.next_carried-in-loop.new.frames.waiting
    (g.R.Read.remaining c.next_carried-in-loop.new.reader.inner)
    (g.W.Write.contents c.ask-in-loop.new.writer.inner) in
    let second = c.in_ok-clash.ensures.asks in
    let first = same_party a (g.A.Archive.state c.own_numbers.new.archive) _
    c.in_ok-ours.ensures.asks.leaves.passes in
    record {
      comparison = record {
        ours = c.in_ok-ours.ours;
        theirs = so.theirs;
        first = so.first;
        earlier = so.earlier;
        brought = c.in_ok-brought.brought;
      };
      left = c.next_carried-in-loop.new.frames.waiting;
      had = (
        so.told,
        between,
        c.loop.numbers,
        c.in_ok-brought.field-0-0,
        so.tells,
        so.answers,
        answers_by (party_of a) (party_of b) c.party_of-party.result c.loop.numbers
            c.in_ok-brought.field-0-0 between end c.in_ok-brought.brought same
            (c.party_of-party.ensures ∙ first) c.in_ok-ask-2.ensures.sent
            c.in_ok-brought.ensures.hears,
      );
      finds = λ h. let known = so.asks.answer (second.leaves.passes.honest h) in record {
        ours = known.0.0;
        first = known.0.1;
        earlier = known.1;
        found_in = finds_before a b tt _ c.in_ok-brought.brought c.in_ok-clash.clash so.asks
            (second.leaves.passes.honest h)
            (subst (λ (rs : List Record). FindsClash b.content rs c.in_ok-clash.clash)
            c.as_slice.ensures (second.answer h));
      };
      ends = λ none. elim c.then-is_some.branch [
        | then-is_some-via-then-is_some w ↦
            absurd (true≢false (sym w.if-is_some.true ∙ c.is_some.ensures ∙ ap is_some none))
        | then-is_some-via-else-is_some+then-is_empty w ↦ w.is_empty.ensures.0 w.if-is_empty.true
      ];
    }

pub returns-then-is_some-clause-asks : goal.returns-then-is_some-clause-asks
returns-then-is_some-clause-asks g c =
    let a = g.A.Archive.state c.args.replica.now.archive in
    let b = g.A.Archive.state c.loop.replica.archive in
    let d = g.A.Archive.state c.find_clash.new.archive in
    alone_then a b d tt _ (Ok c.in_ok-clash.clash) (Ok c.in_ok-clash.clash) c.loop.invariant.asks
    (alone_asked b d c.in_ok-clash.clash _ (Ok c.in_ok-clash.clash) c.in_ok-clash.ensures.asks)
    (λ fault is. is)

pub returns-then-is_some-clause-says : goal.returns-then-is_some-clause-says
returns-then-is_some-clause-says g c =
    let a = g.A.Archive.state c.args.replica.now.archive in
    let b = g.A.Archive.state c.loop.replica.archive in
    let same = same_party a b _ c.loop.invariant.asks.leaves.passes in
    let before = g.W.Write.contents c.args.writer.now.inner in
    let between = g.W.Write.contents c.loop.writer.inner in
    let after = g.W.Write.contents c.ask-in-loop.new.writer.inner in
    said_whole (party_of a) (c.loop.invariant.questions ++ (c.loop.numbers ∷ [])) before after
    (said_next (party_of a) c.loop.invariant.questions c.loop.numbers before between after
    c.loop.invariant.says (subst (λ (x : Party). Appends between after (asking x c.loop.numbers))
    same c.in_ok-ask-2.ensures.sent))

pub returns-clause-asks : goal.returns-clause-asks
returns-clause-asks g c =
    alone_asked (g.A.Archive.state c.args.replica.now.archive)
    (g.A.Archive.state c.loop.replica.archive) tt _ _ c.loop.invariant.asks

pub returns-clause-says : goal.returns-clause-says
returns-clause-says g c =
    said_whole (party_of (g.A.Archive.state c.args.replica.now.archive)) c.loop.invariant.questions
    (g.W.Write.contents c.args.writer.now.inner) (g.W.Write.contents c.loop.writer.inner)
    c.loop.invariant.says

pub loop-preserved : goal.loop-preserved
loop-preserved g c =
    let a = g.A.Archive.state c.args.replica.now.archive in
    let b = g.A.Archive.state c.loop.replica.archive in
    let d = g.A.Archive.state c.find_clash.new.archive in
    let so = c.loop.invariant in
    let same = same_party a b _ so.asks.leaves.passes in
    let before = g.W.Write.contents c.args.writer.now.inner in
    let written = g.W.Write.contents c.loop.writer.inner in
    let after = g.W.Write.contents c.ask-in-loop.new.writer.inner in
    let between = wire c.loop.frames.waiting (g.R.Read.remaining c.loop.reader.inner) written in
    let end = wire c.next_carried-in-loop.new.frames.waiting
    (g.R.Read.remaining c.next_carried-in-loop.new.reader.inner) after in
    let brought = c.in_ok-brought.brought in
    let second = c.in_ok-clash.ensures.asks in
    let first = same_party a (g.A.Archive.state c.own_numbers.new.archive) _
    c.in_ok-ours.ensures.asks.leaves.passes in
    let answers = answers_by (party_of a) (party_of b) c.party_of-party.result c.loop.numbers
    c.in_ok-brought.field-0-0 between end brought same (c.party_of-party.ensures ∙ first)
    c.in_ok-ask-2.ensures.sent c.in_ok-brought.ensures.hears in
    let none : c.in_ok-clash.clash ≡ None =
    not_some c.in_ok-clash.clash (sym c.is_some.ensures ∙ c.if-is_some.false) in
    record {
      theirs = so.theirs;
      first = so.first;
      earlier = brought ∷ so.earlier;
      told = so.told;
      tells = so.tells;
      answers = (
        c.loop.numbers,
        c.in_ok-brought.field-0-0,
        between,
        so.answers,
        answers,
        (λ none. true≢false (sym (c.is_empty.ensures.1 none) ∙ c.if-is_empty.false)),
        (λ replica. c.go_behind.ensures replica ∙ ap (λ (rs : List Record).
            numbers_behind c.args.extent (number_of c.in_ok-ours.ours) (number_of c.loop.numbers) rs
            replica) c.as_slice-in-loop.ensures),
      );
      asks = agree_more a b d _ so.earlier brought so.asks
          (alone_ok b d c.in_ok-clash.clash (alone_asked b d c.in_ok-clash.clash _
          (Ok c.in_ok-clash.clash) second))
          (λ h. subst (λ (found : Option Clash). FindsClash b.content brought found) none
          (subst (λ (rs : List Record). FindsClash b.content rs c.in_ok-clash.clash)
          c.as_slice.ensures (second.answer h)));
      asked = omega (arith, so.asked, c.in_ok-clash.ensures.asked);
      questions = so.questions ++ (c.loop.numbers ∷ []);
      says = said_next (party_of a) so.questions c.loop.numbers before written after so.says
          answers.asks;
      sound = c.in_ok-brought.ensures.sound;
      read = c.in_ok-brought.ensures.reads.keeps (λ e. cc) ∙ so.read;
      written = c.in_ok-ask-2.ensures.writes.keeps (λ e. cc) ∙ so.written;
    }
