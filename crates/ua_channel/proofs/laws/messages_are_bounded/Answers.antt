use Rattle.ua_channel.proofs.Messages.{message-bounds}
use Rattle.ua_channel.proofs.laws.messages_are_bounded.Goals as goal

pub returns-clause-whole : goal.returns-clause-whole
returns-clause-whole c = message-bounds
