use Rattle.std.proofs.Common.{◌≡◌, ℕ, ◌+◌, ◌-◌, ◌*◌, ◌<◌, ◌≤◌, ◌⊎◌, [], get_or}
use Rattle.filter_ppm.specs.Bands.{entry}
use Rattle.filter_ppm.specs.Levels.{levels}
use Rattle.filter_ppm.specs.Sums.{mean_of, total_at}
use Rattle.filter_ppm.proofs.pixel_filter.put_row.Given as goal

abbrev pub invariant-loop-x : goal.invariant-loop-x
invariant-loop-x l = record {
  done : (i : ℕ) → l.r.left ≤ i → i < l.x → entry l.columns.first l.columns.end l.r.top l.band i l.y ≡ levels l.options (mean_of (total_at l.r l.totals i l.y));
  rest : (p : ℕ) → (p < (l.y - l.r.top) * (l.columns.end - l.columns.first) + (l.r.left - l.columns.first)) ⊎ ((l.y - l.r.top) * (l.columns.end - l.columns.first) + (l.x - l.columns.first) ≤ p) → get_or l.band p [] ≡ get_or l.initial.band p [];
}
