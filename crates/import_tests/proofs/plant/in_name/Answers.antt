use Rattle.std.proofs.lemmas.Str.{is_utf8-from_IsUtf8}
use Rattle.import_tests.proofs.plant.in_name.Goals as goal

pub returns : goal.returns
returns c = record {
  short = c.requires;
  utf8 = is_utf8-from_IsUtf8 c.args.user.now c.utf8.user;
}
