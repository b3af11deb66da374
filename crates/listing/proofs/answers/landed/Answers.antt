-- `listing::answers::landed` meets its contract. Assumes nothing.
use Rattle.listing.specs.Listing.{lands}
use Rattle.listing.proofs.answers.landed.Goals as goal

pub returns : goal.returns
unfolding lands
returns c = cc
