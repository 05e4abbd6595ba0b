use Rattle.std.proofs.Common.{◌≡◌, drop, option_map}
use Rattle.toml.specs.View.{table_view}
use Rattle.ua_settings.specs.Judging.{wrong_at, first_some, first_wrong}
use Rattle.ua_settings.specs.declared.judging.TheConstants.{WRONGS}
use Rattle.ua_settings.proofs.judging.judge.Given as goal

abbrev pub invariant-loop-wrong : goal.invariant-loop-wrong
invariant-loop-wrong l = first_wrong l.passwords (table_view l.document)
    ≡ first_some (λ wrong. option_map (λ spot. (wrong, spot))
    (wrong_at l.passwords (table_view l.document) wrong)) (drop l.wrong-index WRONGS)
