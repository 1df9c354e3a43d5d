use Rattle.std.proofs.Common.{◌≡◌, All, map, take}
use Rattle.displace_shade.specs.Lamps.{IsLamp, lamp_light}
use Rattle.displace_shade.specs.Shaded.{lights_from}
use Rattle.displace_shade.specs.Shop.{set_value}
use Rattle.displace_shade.proofs.lamps.lamps_of.Given as goal

abbrev pub invariant-loop-k : goal.invariant-loop-k
invariant-loop-k l = record {
  lights : map (lamp_light l.leaf) l.lamps.items ≡ lights_from l.leaf (set_value l.set l.textures) l.uses (take l.k l.leaf.prim.lights);
  each : All (IsLamp l.leaf) l.lamps.items;
}
