-- Names for parts of the definitions in specs/Sessions, for the lemmas on these parts.
use Rattle.std.specs.Prelude.{Bool, length, ◌||◌, nat_le}
use Rattle.ua_session.specs.Sessions.{SessionsState}

-- 16 are open, or 1,000,000 were made
abbrev pub is_full : SessionsState → Bool
is_full state = nat_le 16 (length state.alive) || nat_le 1000000 state.made
