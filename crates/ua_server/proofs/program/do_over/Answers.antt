use Rattle.ua_server.proofs.program.do_over.Goals as goal

pub returns-clause-does : goal.returns-clause-does
returns-clause-does g c =
    let done = c.do_command-ending in
    (done.new.world.server.replica.archive, done.new.host, done.ensures.does, c.close.ensures)
