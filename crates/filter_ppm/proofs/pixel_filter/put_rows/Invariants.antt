use Rattle.std.proofs.Common.{◌≡◌, ℕ, ◌<◌, ◌≤◌, ◌⊎◌}
use Rattle.filter_ppm.specs.Bands.{entry}
use Rattle.filter_ppm.specs.Levels.{levels}
use Rattle.filter_ppm.specs.Sums.{mean_of, total_at}
use Rattle.filter_ppm.proofs.pixel_filter.put_rows.Given as goal

abbrev pub invariant-loop-y : goal.invariant-loop-y
invariant-loop-y l = record {
  done : (x j : ℕ) → l.r.left ≤ x → x < l.r.right → l.r.top ≤ j → j < l.y → entry l.columns.first l.columns.end l.r.top l.band x j ≡ levels l.options (mean_of (total_at l.r l.totals x j));
  beside : (x j : ℕ) → (x < l.r.left) ⊎ (l.r.right ≤ x) → l.columns.first ≤ x → x < l.columns.end → l.r.top ≤ j → entry l.columns.first l.columns.end l.r.top l.band x j ≡ entry l.columns.first l.columns.end l.r.top l.initial.band x j;
}
