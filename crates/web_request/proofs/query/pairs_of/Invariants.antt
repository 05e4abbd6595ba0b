use Rattle.std.proofs.Common.{◌≡◌, ◌++◌, map}
use Rattle.form_urlencoded.specs.Parse.{raw_pairs_left}
use Rattle.web_request.specs.Query.{pair_of, pairs_of}
use Rattle.web_request.proofs.query.pairs_of.Given as goal

-- the pairs so far and those that are left are all
abbrev pub invariant-loop-key : goal.invariant-loop-key
invariant-loop-key l =
    l.pairs.items ++ map pair_of (raw_pairs_left l.key-iterator) ≡ pairs_of l.query
