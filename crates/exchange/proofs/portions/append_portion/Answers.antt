use Rattle.std.proofs.Common.{arith, ◌≡◌, ◌<◌, ◌≤◌, ◌++◌, ◌⊎◌, inl, inr, false, List, length, sym, ap, ◌∙◌}
use Rattle.std.proofs.lemmas.Bool.{leb-false, ltb-false}
use Rattle.std.proofs.lemmas.List.{length-append, length-take}
use Rattle.stamp.specs.Numbers.{number_of}
use Rattle.records.specs.declared.record.Record.{Record}
use Rattle.archive.proofs.Calls.{in_use}
use Rattle.ua_binary.specs.Format.{saturated}
use Rattle.exchange.specs.Batches.{most, longest_frame, records_length, numbers_with}
use Rattle.exchange.proofs.PortionLemmas.{size_append, portion_told}
use Rattle.exchange.proofs.portions.append_portion.Goals as goal
use Rattle.exchange.proofs.portions.append_portion.Goals.{then-not-last, else-not-last, then-len-lt-MOST, else-len-lt-MOST}

pub returns-clause-asks : goal.returns-clause-asks
returns-clause-asks g c v =
    let a = g.A.Archive.state c.args.archive.now in
    let b = g.A.Archive.state c.since.new.self in
    let asks = c.in_ok-portion.ensures.asks in
    let part = c.truncate.new.self in
    let new = c.append.new.self in
    let count : length part.items ≡ c.len-2.result = omega (arith, c.len-2.ensures, part.ok) in
    let ends : c.if-len-lt-MOST.result ≡ false
    → (length part.items < c.min-limit.result)
    ⊎ ((most ≤ length new.items) ⊎ (longest_frame < c.saturating_add.result)) =
    elim c.if-len-lt-MOST.branch [
      | then-len-lt-MOST w ↦ λ e. inr (inr (leb-false _ _ (sym w.result-is ∙ e)))
      | else-len-lt-MOST w ↦ elim c.if-not-last.branch [
        | then-not-last u ↦ λ e.
            let many = ltb-false _ _ (sym u.value-is ∙ w.if-len-lt-MOST.false) in
            inr (inl (omega (arith, many, u.len-then-not-last.ensures, new.ok)))
        | else-not-last u ↦ λ e. inl (omega (arith, count, u.if-not-last.false))
      ]
    ] in
    let grown : new.items ≡ c.args.records.now.items ++ part.items =
    c.in_ok-append.ensures.items in
    let size = size_append c.args.records.now.items part.items c.args.size.now
    c.size_in_frame-more_size.result c.saturating_add.result c.requires.size (c.size_in_frame-more_size.ensures
    ∙ ap (λ (l : List Record). saturated (records_length l)) c.deref.ensures.value)
    c.saturating_add.ensures in
    record {
      answer = λ h. portion_told a.content v (number_of c.args.known.now)
          (number_of c.raise_to.new.known) c.min-limit.result c.args.records.now.items new.items
          c.in_ok-portion.portion.items part.items c.saturating_add.result
          c.if-len-lt-MOST.result
          (asks.leaves.before (asks.leaves.passes.honest h) (in_use a b asks.leaves)).lawful
          (asks.answer h) c.truncate.ensures.items grown
          (λ o. c.raise_to.ensures o
          ∙ ap (λ (l : List Record). numbers_with (number_of c.args.known.now) l o)
          c.deref-2.ensures.value)
          (omega (arith, c.min-limit.ensures, c.len.ensures, c.requires.few, c.args.records.now.ok))
          (omega (
            arith,
            ap length grown,
            length-append c.args.records.now.items part.items,
            ap length c.truncate.ensures.items,
            length-take c.min-limit.result c.in_ok-portion.portion.items,
            c.min-limit.ensures,
            c.len.ensures,
            c.requires.few,
            c.args.records.now.ok,
          ))
          (size ∙ ap (λ (l : List Record). saturated (records_length l)) (sym grown)) ends;
      stays = asks.stays;
      leaves = asks.leaves;
    }

pub returns-clause-size : goal.returns-clause-size
returns-clause-size g c =
    let part = c.truncate.new.self.items in
    let old = c.args.records.now.items in
    let grown : c.append.new.self.items ≡ old ++ part =
    c.in_ok-append.ensures.items in
    size_append old part c.args.size.now c.size_in_frame-more_size.result c.saturating_add.result
    c.requires.size (c.size_in_frame-more_size.ensures
    ∙ ap (λ (l : List Record). saturated (records_length l)) c.deref.ensures.value)
    c.saturating_add.ensures
    ∙ ap (λ (l : List Record). saturated (records_length l)) (sym grown)
