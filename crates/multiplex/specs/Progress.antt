-- What an answer comes to.
use Rattle.std.specs.Prelude.{Option, None, Some}
use Rattle.multiplex.specs.declared.handler.Progress.{Progress}
use Rattle.multiplex.specs.declared.handler.Progress.TheVariants.{NeedsMore, Answered, Ended}

-- the end that the connection comes to, if it does
abbrev pub end_in : {E : Type 0} → Progress E → Option E
end_in NeedsMore = None
end_in Answered = None
end_in (Ended end) = Some end
