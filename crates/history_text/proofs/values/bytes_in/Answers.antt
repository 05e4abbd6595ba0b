use Rattle.std.proofs.Common.{Some, Err, ok_or, inl, inr, ap, sym, ◌∙◌}
use Rattle.hex.specs.Hex.{decode_of}
use Rattle.history_text.specs.declared.fault.TextFault.TheVariants.{NoBytes}
use Rattle.history_text.proofs.ValuesLemmas.{no_bytes}
use Rattle.history_text.proofs.values.bytes_in.Goals as goal

pub returns-in-Err : goal.returns-in-Err
returns-in-Err c = elim c.in-Err.ensures.err [
  | inl memory ↦ inl (c.fault_of.ensures.memory memory)
  | inr bad ↦ elim c.fault_of.ensures.either [
    | inl memory ↦ inl memory
    | inr none ↦ inr (ap (λ o. ok_or o NoBytes) (no_bytes c.args.text.now c.in-Err.fault
        (ap decode_of (sym c.as_bytes.ensures.value) ∙ bad)) ∙ ap Err (sym none))
  ]
]
