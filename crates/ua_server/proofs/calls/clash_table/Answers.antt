use Rattle.ua_server.specs.Calls.{clash_names}
use Rattle.ua_server.proofs.Clashes.{behind}
use Rattle.ua_server.proofs.calls.clash_table.Goals as goal

pub returns : goal.returns
returns c =
    let first = c.in_ok-put_clash_row.ensures in
    let second = c.in_ok-put_clash_row-2.ensures in (
      first.0,
      second.0,
      first.1,
      second.1,
      behind c.new-table.result.items c.extend_from_slice.new.self.items clash_names
          c.put_clash_row.new.out.items first.0 second.0 c.put_clash_row-2.new.out.items
          c.new-table.ensures.items c.in_ok-extend_from_slice.ensures.items first.2 second.2,
    )
