use Rattle.std.proofs.Common.{◌≡◌, ◌^◌, Ok, OnOk, refl, w8, w64, of_z, to_z, ap, ok_or, subst, sym, ◌∙◌}
use Rattle.std.specs.Fmt.{signed_decimal}
use Rattle.std.specs.Int.RustNames.{FitsSigned}
use Rattle.std.proofs.lemmas.Int.{to_z-of_z}
use Rattle.std.proofs.lemmas.Result.{on_ok_weaker}
use Rattle.history_text.specs.Arrays.{or_fault, AppendsItem}
use Rattle.history_text.specs.Numbers.{signed_in}
use Rattle.history_text.specs.declared.fault.TextFault.TheVariants.{NoInteger}
use Rattle.history_text.proofs.ItemsLemmas.{puts_number}
use Rattle.history_text.proofs.NumbersLemmas.{read_w8, wide_w8}
use Rattle.json.specs.Token as token
use Rattle.ua_variant.specs.declared.value.Scalar.TheVariants as scalar
use Rattle.history_text.proofs.items.put_i8.Goals as goal

pub returns-clause-put : goal.returns-clause-put
returns-clause-put c =
    let said = or_fault NoInteger (signed_in (2 ^ 7)) in
    let says : said (signed_decimal c.args.value) ≡ Ok c.args.value =
    ap (λ o. ok_or o NoInteger) (read_w8 c.args.value c.ranges.value) in
    let from : c.from.result ≡ c.args.value =
    c.from.ensures ∙ to_z-of_z w8 c.args.value c.ranges.value in
    let same : to_z w64 (of_z w64 c.from.result) ≡ c.args.value =
    to_z-of_z w64 c.from.result
    (subst (FitsSigned w64) (sym from) (wide_w8 c.args.value c.ranges.value)) ∙ from in
    on_ok_weaker c.put_signed.result
    (puts_number said c.args.out.now c.put_signed.new.out (scalar.SByte c.args.value)
    (signed_decimal c.args.value) c.args.value tt refl says)
    (subst (λ z. OnOk c.put_signed.result
    (AppendsItem c.args.out.now c.put_signed.new.out (token.number (signed_decimal z)))) same
    c.put_signed.ensures.put)
