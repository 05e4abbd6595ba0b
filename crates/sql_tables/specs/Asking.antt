-- Texts that SQLite answers, whatever rows there are.
use Rattle.std.specs.Prelude.{◌≡◌, ◌≤◌, false, Bool, ℕ, List, length, Option, IsSome, Ok}
use Rattle.sqlite_value.specs.Order.{Row}
use Rattle.sqlite_schema.specs.declared.schema.Schema.{Schema}
use Rattle.sqlite_resolve.specs.declared.compiled.Compiled.{Compiled}
use Rattle.sqlite.specs.declared.error.Error.{Error}
use Rattle.sqlite.specs.Effect.{Database, RefusesToRead}
use Rattle.sqlite.specs.Given.{IsPlain}
use Rattle.sqlite.specs.Listing.{understood, reads_listing}
use Rattle.sql_schema.specs.Tables.{archive_schema}

-- the text is one query, which takes these parameters; over any tables of this schema SQLite
-- refuses it only where a limit on steps is set
pub record IsAnswered (schema : Schema) (sql : List ℕ) (params : Row) : Type 0 where
  pub query : Compiled
  pub is : understood schema sql ≡ Ok query
  pub plain : IsPlain (Ok query)
  pub whole : length sql ≤ query.tail
  pub given : length params ≡ length query.names
  pub unlisted : reads_listing schema sql ≡ false
  pub limited : (limit : Option ℕ) (db : Database) (e : Error) → db.schema ≡ schema
      → RefusesToRead limit query.command db params e → IsSome limit

-- so it is over the tables of any archive, with the index over live values or without it
abbrev pub ArchivesAnswer : List ℕ → Row → Type 0
ArchivesAnswer sql params = (indexed : Bool) → IsAnswered (archive_schema indexed) sql params
