use Rattle.std.proofs.Common.{rules, ap}
use Rattle.history_text.proofs.ValuesLemmas.{dated}
use Rattle.history_text.proofs.values.value_text.Goals.{in-Boolean+in_ok-text-in-Boolean, in-SByte+in_ok-text-in-SByte, in-Byte+in_ok-text-in-Byte, in-Int16+in_ok-text-in-Int16, in-UInt16+in_ok-text-in-UInt16, in-Int32+in_ok-text-in-Int32, in-UInt32+in_ok-text-in-UInt32, in-Int64+in_ok-text-in-Int64, in-UInt64+in_ok-text-in-UInt64, in-Float+in_ok-text-in-Float, in-Double+in_ok-text-in-Double, in-String+in_ok-text-in-String, in-DateTime+in_ok-text-in-DateTime, in-Guid+in_ok-text-in-Guid, in-ByteString+in_ok-text-in-ByteString, in-StatusCode+in_ok-text-in-StatusCode}
use Rattle.history_text.proofs.values.value_text.Goals as goal

pub returns-clause-written : goal.returns-clause-written
returns-clause-written c = elim c.match-value.branch [
  | in-Boolean+in_ok-text-in-Boolean w ↦ search rules
  | in-SByte+in_ok-text-in-SByte w ↦ search rules
  | in-Byte+in_ok-text-in-Byte w ↦ search rules
  | in-Int16+in_ok-text-in-Int16 w ↦ search rules
  | in-UInt16+in_ok-text-in-UInt16 w ↦ search rules
  | in-Int32+in_ok-text-in-Int32 w ↦ search rules
  | in-UInt32+in_ok-text-in-UInt32 w ↦ search rules
  | in-Int64+in_ok-text-in-Int64 w ↦ search rules
  | in-UInt64+in_ok-text-in-UInt64 w ↦ search rules
  | in-Float+in_ok-text-in-Float w ↦ search rules
  | in-Double+in_ok-text-in-Double w ↦ search rules
  | in-String+in_ok-text-in-String w ↦ search rules
  | in-DateTime+in_ok-text-in-DateTime w ↦
      dated _ _ _ _ w.in-DateTime.is (ap (λ v. v.items) w.text-is)
      w.in_ok-text-in-DateTime.ensures.written
  | in-Guid+in_ok-text-in-Guid w ↦ search rules
  | in-ByteString+in_ok-text-in-ByteString w ↦ search rules
  | in-StatusCode+in_ok-text-in-StatusCode w ↦ search rules
]
