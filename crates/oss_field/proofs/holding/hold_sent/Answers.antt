use Rattle.oss_words.specs.Bits.{info_at, state_at}
use Rattle.oss_words.specs.Causes.{sent}
use Rattle.oss_field.proofs.MessageLemmas.{few}
use Rattle.oss_field.proofs.holding.hold_sent.Goals as goal

pub hold_join-requires-clause-few : goal.hold_join-requires-clause-few
hold_join-requires-clause-few c =
    few c.args.held.now.items (sent c.args.entry (state_at c.args.old) (state_at c.args.new) (info_at c.args.info)) c.args.place.now.me.0.known c.args.words.now.key.entries c.requires.ready c.requires.bounded
