use Rattle.std.proofs.Common.{◌≡◌, ◌<◌, ◌↔◌, ℕ, List, true, IsTrue, slice_index_or}
use Rattle.hider.specs.declared.fragment.Fragment.{Fragment}
use Rattle.hider.specs.Kept.{blocks}
use Rattle.hider.specs.Tiles.{TileValue, Shows, sample_count}
use Rattle.hider.proofs.Showings.{blocked_all, blocked_each}
use Rattle.hider.proofs.tile.Tile.all_behind.Goals as goal

pub returns : goal.returns
returns c = λ f s.
    let t : TileValue = record { grid = c.self.inside.grid; lists = c.self.inside.lists.items } in
    let v : t ≡ c.args.self.now = c.self.view_is in
    let z = c.args.z in
    let shown : Shows t f = rw (← v) at s in
    let e : IsTrue c.all_block.result ↔ ((n : ℕ) (d : List Fragment) → n < sample_count t.grid → blocks z (slice_index_or t.lists n d) ≡ true) = rw (c.as_slice.ensures.value, c.count.ensures) at c.all_block.ensures in
    rw (← v) ((λ b. blocked_all t f z shown (e.0 b), λ b. e.1 (blocked_each t f z shown b)))
