-- Names for parts of the definitions in specs/Run, for the lemmas on these parts.
use Rattle.std.specs.Prelude.{List, ◌++◌, drop, Option, None, Some, ℕ}
use Rattle.archive.specs.Steps.{give, and_then}
use Rattle.ua_connection.specs.Environments.{WithEnvironment}
use Rattle.ua_connection.specs.Run.{Reply, Protocol, with_later, ended}

abbrev pub joined_by : {C E : Type 0} → WithEnvironment (Reply C E) → Reply C E → Option E
    → WithEnvironment (Reply C E)
joined_by later reply given = elim given [
  | Some e ↦ give reply
  | None ↦
      and_then later (λ more. give (record more { out = reply.out ++ more.out }))
]

-- the answer where an item of some bytes stands first, or none does
abbrev pub stepped : {C X E : Type 0} → (C → List ℕ → WithEnvironment (Reply C E)) → Protocol C X E
    → C → List ℕ → Option (X × ℕ) → WithEnvironment (Reply C E)
stepped later p state bytes given = elim given [
  | None ↦ ended p state
  | Some item ↦
      and_then (p.answer state item.0)
      (λ reply. with_later (later reply.state (drop item.1 bytes)) reply)
]
