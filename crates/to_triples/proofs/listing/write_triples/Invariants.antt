-- `to_triples::listing::write_triples` meets its contract. Assumes nothing.
use Rattle.files.specs.Read.{left_of}
use Rattle.to_triples.proofs.Links.{Listing}
use Rattle.to_triples.proofs.listing.write_triples.Given as goal

abbrev pub invariant-loop-w : goal.invariant-loop-w
invariant-loop-w l = Listing (left_of l.initial.w-iterator) l.initial.out l.start l.out l.x l.count (left_of l.w-iterator)
