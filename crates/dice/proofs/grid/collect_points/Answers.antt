use Rattle.std.proofs.Common.{◌≡◌, ◌∙◌, ap, arith, List, length, map}
use Rattle.std.specs.List.{range_with_len}
use Rattle.fixed_math.specs.declared.vec3.Vec3.{Vec3}
use Rattle.patches.specs.Lists.{grid}
use Rattle.patches.specs.Parts.{Part}
use Rattle.dice.specs.Grids.{line_count, line_at, lines}
use Rattle.dice.proofs.Grids.{shl_is, grid_step, length-diced_points}
use Rattle.dice.proofs.grid.collect_points.Goals as goal

pub loop-l-preserved : goal.loop-l-preserved
loop-l-preserved g c =
    let row = c.line_at-v.ensures ∙ ap (λ (t : Part). line_at t.b t.j c.args.q c.loop-l.l) c.piece.view_is in (
      grid_step (g.S.Surface.point_of c.args.s.now) (lines c.args.piece.now.a c.args.piece.now.i c.args.p) (line_at c.args.piece.now.b c.args.piece.now.j c.args.q) c.loop-l.l
          c.loop-l.points.items c.push_row.new.points.items c.line_at-v.result c.in_ok-push_row.ensures.value row c.loop-l.invariant.0,
      c.in_ok-push_row.ensures.small,
    )

pub returns-clause-count : goal.returns-clause-count
returns-clause-count g c =
    let point = g.S.Surface.point_of c.args.s.now in
    let last : c.loop-l.l ≡ line_count c.args.q = let e = shl_is c.args.q (omega arith) in let most = c.loop-l.auto.l-end in let past = c.loop-l-test.false in omega (arith, e, most, past) in
    ap (λ (ps : List Vec3). length ps) c.loop-l.invariant.0
    ∙ ap (λ n. length (grid point (lines c.args.piece.now.a c.args.piece.now.i c.args.p) (map (line_at c.args.piece.now.b c.args.piece.now.j c.args.q) (range_with_len 0 n)))) last
    ∙ length-diced_points point c.args.piece.now c.args.p c.args.q
