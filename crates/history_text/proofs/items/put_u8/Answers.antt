use Rattle.std.proofs.Common.{◌≡◌, Ok, OnOk, refl, ap, ok_or, subst, arith}
use Rattle.std.specs.Fmt.{decimal}
use Rattle.std.proofs.lemmas.Result.{on_ok_weaker}
use Rattle.history_text.specs.Arrays.{or_fault, AppendsItem}
use Rattle.history_text.specs.Numbers.{unsigned_in}
use Rattle.history_text.specs.declared.fault.TextFault.TheVariants.{NoInteger}
use Rattle.history_text.proofs.ItemsLemmas.{puts_number}
use Rattle.history_text.proofs.NumbersLemmas.{read_unsigned}
use Rattle.json.specs.Token as token
use Rattle.ua_variant.specs.declared.value.Scalar.TheVariants as scalar
use Rattle.history_text.proofs.items.put_u8.Goals as goal

pub returns-clause-put : goal.returns-clause-put
returns-clause-put c =
    let said = or_fault NoInteger (unsigned_in 8) in
    let says : said (decimal c.args.value) ≡ Ok c.args.value =
    ap (λ o. ok_or o NoInteger)
    (read_unsigned 8 c.args.value (omega arith) (omega (arith, c.ranges.value.fits))) in
    on_ok_weaker c.put_unsigned.result
    (puts_number said c.args.out.now c.put_unsigned.new.out (scalar.Byte c.args.value)
    (decimal c.args.value) c.args.value tt refl says)
    (subst (λ n. OnOk c.put_unsigned.result
    (AppendsItem c.args.out.now c.put_unsigned.new.out (token.number (decimal n)))) c.from.ensures
    c.put_unsigned.ensures.put)
