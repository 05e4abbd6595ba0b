-- Names for parts of the definitions in specs/Frames, for the lemmas on these parts.
use Rattle.std.specs.Prelude.{ℕ, List}
use Rattle.exchange.specs.declared.message.Title.{Title}

abbrev pub title_of : ℕ × (List ℕ × (ℕ × List ℕ)) → Title
title_of p = record { id = p.1.0; sender = p.1.1.0; vector = p.1.1.1 }

abbrev pub title_fields : Title → ℕ × (List ℕ × (ℕ × List ℕ))
title_fields t = (2, (t.id, (t.sender, t.vector)))
