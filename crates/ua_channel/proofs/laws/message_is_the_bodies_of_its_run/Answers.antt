use Rattle.ua_channel.proofs.Messages.{message-run}
use Rattle.ua_channel.proofs.laws.message_is_the_bodies_of_its_run.Goals as goal

pub returns : goal.returns
returns c = message-run
