use Rattle.std.proofs.Common.{◌≡◌, map, filter}
use Rattle.std.specs.Prelude.{All}
use Rattle.std.specs.List.{range_with_len}
use Rattle.bound_split.specs.Extents.{pixels_of}
use Rattle.hider.specs.Samples.{sample_in}
use Rattle.pixel_account.specs.Account.{counts_for}
use Rattle.pixel_account.specs.Stacks.{IsEmptyFor, IsSampleOf}
use Rattle.pixel_account.proofs.window.counting.Given as goal

abbrev pub invariant-loop-n : goal.invariant-loop-n
invariant-loop-n l = record {
  samples : map (λ s. s.sample) l.stacks.items ≡ filter (counts_for l.options l.x l.y) (map (sample_in l.options.xs l.options.ys (pixels_of l.rect)) (range_with_len 0 l.n));
  empty : All (IsEmptyFor l.options l.x l.y) l.stacks.items;
  inside : All (λ s. IsSampleOf l.options.xs l.options.ys (pixels_of l.rect) s.sample) l.stacks.items;
}
