-- The first frame of a call that looks for numbers that were given twice, for `greet_before`.
use Rattle.std.proofs.Common.{◌≡◌, ℕ, ◌-◌, List, ◌++◌, Result, Ok, Err, sym, ap, ◌∙◌, subst, option_to_list}
use Rattle.std.proofs.lemmas.Option.{none-some}
use Rattle.stamp.specs.Limits.{IsReplica}
use Rattle.stamp.specs.Numbers.{number_of, IsVector}
use Rattle.records.specs.Contents.{vec}
use Rattle.archive.specs.Store.{Store, Asks, CountsFaults}
use Rattle.ua_binary.specs.Format.{Puts}
use Rattle.exchange.specs.Batches.{IsOfAnswer}
use Rattle.exchange.specs.Fault.{store_fault_of}
use Rattle.exchange.specs.Frames.{frame_of}
use Rattle.exchange.specs.declared.fault.ExchangeFault.{ExchangeFault}
use Rattle.exchange.specs.declared.fault.ExchangeFault.TheVariants as exchange
use Rattle.exchange.specs.declared.message.Message.TheVariants.{Asks as Question}
use Rattle.exchange.specs.declared.message.Title.{Title}
use Rattle.peer_check.specs.Beginning.{GreetsBefore}

-- the party stays
same_title : (a b : Store) (numbers : List ℕ) (faults : _) → CountsFaults a b faults
    → (let t : Title = record { id = b.id; sender = b.own; vector = numbers } in t)
    ≡ (record { id = a.id; sender = a.own; vector = numbers })
same_title a b numbers faults passes =
    ap (λ i. let t : Title = record { id = i; sender = b.own; vector = numbers } in t) passes.id
    ∙ ap (λ n. let t : Title = record { id = a.id; sender = n; vector = numbers } in t) passes.own

pub greets_before : (a b : Store) (v numbers out written : List ℕ) (t : Title)
    (result : Result (Unit {0}) ExchangeFault)
    → Asks a b (Ok v) (λ v. (replica : ℕ) → number_of v replica ≡ vec a.content replica)
    → ((replica : ℕ) → IsReplica replica → number_of numbers replica ≡ number_of v replica - 1)
    → IsVector numbers
    → t ≡ (record { id = b.id; sender = b.own; vector = numbers })
    → Puts exchange.OutOfMemory result out written (frame_of (Question t))
    → GreetsBefore a b out written result
greets_before a b v numbers out written t (Ok u) asks less is e puts = record {
  frame = λ h. (
    numbers,
    record {
      vector = is;
      less = λ replica some. less replica some ∙ ap (λ (n : ℕ). n - 1) (asks.answer h replica);
    },
    puts ∙ ap (λ (x : Title). out ++ frame_of (Question x))
        (e ∙ same_title a b numbers _ asks.leaves.passes),
  );
  kept = tt;
  ended = λ x. absurd (none-some _ (asks.leaves.ended x));
  stays = asks.stays;
  passes = asks.leaves.passes;
}
greets_before a b v numbers out written t (Err fault) asks less is e puts = record {
  frame = λ h. tt;
  kept = (subst IsOfAnswer (sym puts.0) tt, puts.1);
  ended = λ x. absurd (none-some _ (asks.leaves.ended x));
  stays = asks.stays;
  passes = subst (λ (f : ExchangeFault). CountsFaults a b (option_to_list (store_fault_of f)))
      (sym puts.0) asks.leaves.passes;
}
