use Rattle.std.proofs.Common.{length, map, ap, ◌∙◌, arith, ◌<◌}
use Rattle.toml.specs.View.{table_view}
use Rattle.ua_settings.specs.declared.judging.TheConstants.{SECTIONS}
use Rattle.ua_settings.specs.File.{names_in}
use Rattle.ua_settings.specs.Judging.{wrong_from}
use Rattle.ua_settings.specs.Keys.{known_of}
use Rattle.ua_settings.proofs.FileParts.{wrong_in}
use Rattle.ua_settings.proofs.Wrongs.{section_passed, goes_on_behind}
use Rattle.ua_settings.proofs.judging.wrong_at.Goals as goal

pub loop-section-preserved : goal.loop-section-preserved
loop-section-preserved c =
    let here : c.loop-section.section-index < length SECTIONS = omega arith in
    c.loop-section.invariant
    ∙ goes_on_behind (wrong_in c.args.known.now.passwords.now (table_view c.args.document.now)
    c.args.wrong) SECTIONS c.loop-section.section-index _ here
    (section_passed _ (names_in c.args.known.now.passwords.now (table_view c.args.document.now))
    c.args.wrong _ _ _ c.requires
    (c.wrong_in.ensures
    ∙ ap (wrong_from (known_of c.args.known.now) c.args.wrong _ 1)
    (ap (map (λ table. table_view table.now)) c.as_slice.ensures.value ∙ c.in_ok-tables.ensures))
    c.in-None.is)
