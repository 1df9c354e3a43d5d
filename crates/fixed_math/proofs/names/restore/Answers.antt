-- The map's answer at any text follows from what a removal or an insertion updates.
use Rattle.std.proofs.lemmas.Map.Text.{btree_map_updates_str}
use Rattle.fixed_math.proofs.names.restore.Goals as goal

pub returns-in-None : goal.returns-in-None
returns-in-None c = rw c.in-None.is (btree_map_updates_str c.args.text.now c.args.last.now c.remove.new.self _ c.remove.ensures.updates)

pub returns-in-Ok : goal.returns-in-Ok
returns-in-Ok c = rw c.in-Some.is (btree_map_updates_str c.args.text.now c.args.last.now c.insert.new.self _ c.in-Ok.ensures.updates)
