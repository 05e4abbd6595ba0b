use Rattle.std.proofs.Common.{◌≡◌, map, take}
use Rattle.toml.specs.View.{table_view}
use Rattle.ua_settings.specs.Reading.{user_in}
use Rattle.ua_settings.proofs.reading.read_users.Given as goal

abbrev pub invariant-loop-table : goal.invariant-loop-table
invariant-loop-table l = l.users ≡ record {
  anonymous = l.anonymous;
  anonymous_access = l.fn.anonymous_access;
  named =
      map (λ user. user_in l.passwords (table_view user.now)) (take l.table-index l.tables);
}
