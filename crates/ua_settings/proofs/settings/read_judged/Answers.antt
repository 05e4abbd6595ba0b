use Rattle.std.proofs.Common.{ap, sym, ◌∙◌, option_map}
use Rattle.toml.specs.View.{table_view}
use Rattle.ua_settings.specs.declared.judging.Spot.{Spot as Found}
use Rattle.ua_settings.specs.declared.keys.Wrong.{Wrong}
use Rattle.ua_settings.specs.Keys.{refusal_of}
use Rattle.ua_settings.proofs.Sounds.{sound}
use Rattle.ua_settings.proofs.Refusals.{kind_of, refused_told, accepted_told}
use Rattle.ua_settings.proofs.settings.read_judged.Goals as goal

pub read_document-requires : goal.read_document-requires
read_document-requires c = sound _ _ (sym c.in_ok-wrong.ensures
    ∙ ap (option_map refusal_of) c.in-None.is)

pub returns-in-Some : goal.returns-in-Some
returns-in-Some c =
    refused_told c.args.passwords.now (table_view c.args.document.now) _ c.fault.result
    (kind_of c.args.passwords.now (table_view c.args.document.now) _ c.in_ok-wrong.ensures
    ∙ ap (option_map (λ (p : Wrong × Found). p.0)) c.in-Some.is) c.fault.ensures

pub returns-in-None : goal.returns-in-None
returns-in-None c =
    accepted_told c.args.passwords.now (table_view c.args.document.now) c.read_document.result
    (kind_of c.args.passwords.now (table_view c.args.document.now) _ c.in_ok-wrong.ensures
    ∙ ap (option_map (λ (p : Wrong × Found). p.0)) c.in-None.is) c.read_document.ensures
