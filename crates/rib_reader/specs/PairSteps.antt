-- A list read pair by pair.
use Rattle.std.specs.Prelude.{List, [], ◌++◌}
use Rattle.std.specs.List.{cons_option}
use Rattle.rib_reader.specs.declared.follows.Follows.{Follows}
use Rattle.rib_reader.specs.declared.declared.Declared.{Declared}
use Rattle.rib_reader.specs.declared.listing.Listing.{Listing}
use Rattle.rib_reader.specs.Rules.{lower}
use Rattle.rib_reader.specs.Lists.{Pair, pair_code, variable_of}

-- what was read, and a pair behind it
abbrev pub with_pair : Follows → List Declared → Listing → Pair → Listing
with_pair follows dict l p = record { fault = lower l.fault (pair_code follows dict p); params = l.params ++ cons_option (variable_of follows dict p) [] }

-- what was read, and what is read behind it
abbrev pub with_rest : Listing → Listing → Listing
with_rest l rest = record { fault = lower l.fault rest.fault; params = l.params ++ rest.params }
