use Rattle.std.proofs.Common.{rules, ◌≡◌, true}
use Rattle.std.specs.Str.{is_utf8}
use Rattle.hist_update.specs.Outcome.{IsRequest}
use Rattle.hist_update.proofs.Drafts.{short_node}
use Rattle.headline.proofs.lawful.is_request.Goals as goal

pub returns-then-short-clause-spelled : goal.returns-then-short-clause-spelled
returns-then-short-clause-spelled c = λ t.
    let limits : IsRequest c.args.request.now = search rules in
    let utf8 : is_utf8 c.args.request.now.user ≡ true = search rules in
    record {
      node = c.as_ref.ensures.spelled (short_node c.args.request.now.node limits.node);
      user = utf8;
    }
