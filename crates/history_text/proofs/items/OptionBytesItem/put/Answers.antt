use Rattle.std.proofs.Common.{Ok, Some, ap, ok_or, ◌∙◌}
use Rattle.std.proofs.lemmas.Result.{on_ok_weaker}
use Rattle.history_text.specs.Arrays.{◌>>?◌, byte_string_in, never_null}
use Rattle.hex.specs.Hex.{encode_lower}
use Rattle.ua_variant.specs.declared.value.Scalar.TheVariants.{ByteString}
use Rattle.history_text.specs.Values.{bytes_in}
use Rattle.history_text.specs.declared.fault.TextFault.TheVariants.{NoBytes}
use Rattle.history_text.proofs.ItemsLemmas.{puts_string}
use Rattle.history_text.proofs.items.OptionBytesItem.put.Goals as goal

pub returns-clause-put : goal.returns-clause-put
returns-clause-put c = on_ok_weaker c.put_string.result
    (puts_string byte_string_in c.args.out.now c.put_string.new.out (ByteString c.args.self.now)
    c.as_str.result.now (never_null c.args.self.now) (λ numeric spelled. numeric)
    (c.as_str.ensures.value ∙ c.in_ok-text.ensures.written ∙ ap encode_lower c.bytes_of.ensures)
    (ap (λ o. ok_or o NoBytes >>? λ bytes. Ok (Some bytes))
    (ap bytes_in c.as_str.ensures.value ∙ c.in_ok-text.ensures.read ∙ ap Some c.bytes_of.ensures)))
    c.put_string.ensures.put
