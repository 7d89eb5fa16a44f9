use Rattle.ec_bringup.proofs.OneFrame.FeedLaw.{feed_law}
use Rattle.ec_bringup.proofs.laws.feed.Goals as goal

pub returns : goal.returns
returns c = feed_law
