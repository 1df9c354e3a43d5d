use Rattle.std.proofs.Common.{◌≤◌, ◌*◌, ◌+◌, ◌/◌, ℕ, arith}
use Rattle.std.proofs.Math.Nat.{mul-le-mul_left}
use Rattle.scene_parts.proofs.choices.edge_of.Goals as goal

edge_inside : (pixels part : ℕ) → part ≤ 65536 → (pixels * part + 65535) / 65536 ≤ pixels
edge_inside pixels part h = let most = mul-le-mul_left pixels h in omega (arith, most)

pub returns-clause-most : goal.returns-clause-most
returns-clause-most c = edge_inside c.args.pixels c.raw_of.result c.raw_of.ensures.most
