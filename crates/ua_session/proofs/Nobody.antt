-- The name of a user without one is a text.
use Rattle.std.proofs.Common.{◌<◌, lit<, lit≤}
use Rattle.std.specs.List.{AllByRecursion}
use Rattle.std.proofs.lemmas.List.Elements.{All-from_recursion}
use Rattle.std.proofs.lemmas.Str.{is_utf8-from_IsUtf8, IsUtf8-from_ascii}
use Rattle.std.proofs.lemmas.Str.Ascii.{IsAscii-from_all}
use Rattle.ua_session.specs.Users.{IsUserName}
use Rattle.ua_session.proofs.UsersParts.{nobody}

letters : AllByRecursion (λ b. b < 128) nobody
letters = (
  lit< tt,
  (
    lit< tt,
    (lit< tt, (lit< tt, (lit< tt, (lit< tt, (lit< tt, (lit< tt, (lit< tt, tt))))))),
  ),
)

pub nobody-name : IsUserName nobody
nobody-name = record {
  short = lit≤ tt;
  utf8 =
      is_utf8-from_IsUtf8 nobody (IsUtf8-from_ascii nobody
      (IsAscii-from_all nobody (All-from_recursion (λ b. b < 128) nobody letters)));
}

pub ruleset anonymity = (nobody-name)
