-- What clauses say of a connection that is read.
use Rattle.std.specs.Prelude.{◌≡◌, ℕ, List}
use Rattle.sqlite_trees.specs.declared.store.Store.{Ghosts}
use Rattle.sqlite.specs.Held.{Held}
use Rattle.stamp.specs.Numbers.{number_of}
use Rattle.records.specs.Contents.{Content, cut, vec}
use Rattle.sql_tables.specs.Connections.{content_of}

-- the content of the connection, as far as these last numbers go
abbrev pub content_within : {S : Type 0} → Ghosts S → Held S → List ℕ → Content
content_within g conn numbers = cut (content_of g conn) (number_of numbers)

-- these are the last numbers of its origins
abbrev pub AreLastNumbers : List ℕ → Content → Type 0
AreLastNumbers numbers R = (replica : ℕ) → number_of numbers replica ≡ vec R replica
