use Rattle.std.proofs.Common.{◌≡◌, map, take, drop}
use Rattle.acceptance.specs.Listed.{listed_with}
use Rattle.acceptance.specs.Reading.{names_read}
use Rattle.acceptance.specs.Textures.{joined, texture_names}
use Rattle.acceptance.proofs.Listing.{AllAt}
use Rattle.acceptance.proofs.textures.all_entries.Given as goal

abbrev pub invariant-loop-index : goal.invariant-loop-index
invariant-loop-index l = record {
  table : l.listed.table ≡ map (λ t. t.now) l.listed.names.items;
  names : listed_with l.listed.table (joined (drop l.index (names_read l.shaders l.bound))) ≡ texture_names (names_read l.shaders l.bound);
  entries : AllAt l.listed.table (take l.index (names_read l.shaders l.bound)) l.all.items;
}
