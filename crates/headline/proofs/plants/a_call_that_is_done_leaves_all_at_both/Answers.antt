use Rattle.headline.proofs.Calls.{call_asks, done_both, taken_plainly}
use Rattle.headline.proofs.plants.a_call_that_is_done_leaves_all_at_both.Goals as goal

pub returns-clause-begins : goal.returns-clause-begins
returns-clause-begins g c callee v w made other starts honest =
    call_asks g.A.Archive.state g.C.Clock.gave g.L.Log.told callee v w made other starts honest

pub returns-clause-done : goal.returns-clause-done
returns-clause-done g c e caller called here there asked rounds after past held asks goes done =
    done_both e past caller called here there asked rounds after held asks goes done

pub returns-clause-taken : goal.returns-clause-taken
returns-clause-taken g c = taken_plainly
