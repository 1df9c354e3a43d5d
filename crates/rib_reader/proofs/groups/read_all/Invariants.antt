use Rattle.std.proofs.Common.{◌≡◌, length, map}
use Rattle.rib_reader.specs.Reading.{requests_from, requests_of, with_front, plain}
use Rattle.rib_reader.proofs.groups.read_all.Given as goal

abbrev pub invariant-loop-head : goal.invariant-loop-head
invariant-loop-head l = with_front (map plain l.done.items) (requests_from 0 l.declarations l.rest) ≡ requests_of l.tokens

abbrev pub decreases-loop-head : goal.decreases-loop-head
decreases-loop-head l = length l.rest
