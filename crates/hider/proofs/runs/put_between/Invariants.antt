use Rattle.std.proofs.Common.{[]}
use Rattle.std.specs.List.{cons_option}
use Rattle.hider.specs.Tiles.{HavePutBetween, HaveKept}
use Rattle.hider.proofs.runs.put_between.Given as goal

abbrev pub invariant-loop-n : goal.invariant-loop-n
invariant-loop-n g l = record {
  others : HaveKept l.from l.n l.initial.lists l.lists;
  done : HavePutBetween l.from l.n l.places.grid (λ s. cons_option (g.S.Showing.shown l.shown s) []) l.initial.lists l.lists;
}
