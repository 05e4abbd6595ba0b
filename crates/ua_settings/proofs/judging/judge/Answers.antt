use Rattle.std.proofs.Common.{◌<◌, length, ◌∙◌, arith}
use Rattle.toml.specs.View.{table_view}
use Rattle.ua_settings.specs.declared.judging.TheConstants.{WRONGS}
use Rattle.ua_settings.proofs.Wrongs.{goes_on_behind, told_at, way_passed}
use Rattle.ua_settings.proofs.judging.judge.Goals as goal

pub loop-wrong-preserved : goal.loop-wrong-preserved
loop-wrong-preserved c =
    let here : c.loop-wrong.wrong-index < length WRONGS = omega arith in
    c.loop-wrong.invariant
    ∙ goes_on_behind (told_at c.args.passwords.now (table_view c.args.document.now)) WRONGS
    c.loop-wrong.wrong-index _ here
    (way_passed _ _ _ _ c.in_ok-spot.field-0 c.in_ok-known.ensures.passwords c.in_ok-spot.ensures
    c.in-None.is)
