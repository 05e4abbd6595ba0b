use Rattle.std.proofs.Common.{◌≡◌, ℕ, List, length}
use Rattle.std.specs.Io.KnownBytes.{Consumes}
use Rattle.uacp.specs.Split.{joined}
use Rattle.ua_channel.specs.Sending.{number_after, IsNumber}
use Rattle.ua_client.proofs.Chunking.{more_of}
use Rattle.ua_client.proofs.client.read_message.Given as goal

abbrev pub invariant-chunks : goal.invariant-chunks
invariant-chunks g l = record {
  pieces : List (List ℕ);
  body : joined pieces ≡ l.body.items;
  read : Consumes (g.R.Read.remaining l.initial.reader.inner) (g.R.Read.remaining l.reader.inner)
      (more_of l.token l.request_id l.initial.number pieces);
  number : l.number ≡ number_after l.initial.number (length pieces);
  is : IsNumber l.number;
}
