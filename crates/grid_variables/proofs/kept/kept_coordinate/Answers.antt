use Rattle.std.proofs.Common.{◌≡◌, ap, to_z, of_z, ◌∙◌}
use Rattle.std.specs.Int.{w64}
use Rattle.grid_variables.specs.Kept.{kept_near}
use Rattle.grid_variables.proofs.Bounded.{raw_read, sat_kept}
use Rattle.grid_variables.proofs.kept.kept_coordinate.Goals as goal

pub returns : goal.returns
returns c =
    let bound : to_z w64 (of_z w64 c.raw.result) ≡ c.args.bound = raw_read c.raw.result c.raw.ensures.low c.raw.ensures.high ∙ c.raw.ensures.value in
    let old : to_z w64 (of_z w64 c.raw-2.result) ≡ c.args.old = raw_read c.raw-2.result c.raw-2.ensures.low c.raw-2.ensures.high ∙ c.raw-2.ensures.value in
    let new : to_z w64 (of_z w64 c.raw-3.result) ≡ c.args.new = raw_read c.raw-3.result c.raw-3.ensures.low c.raw-3.ensures.high ∙ c.raw-3.ensures.value in
    c.sat.ensures ∙ sat_kept c.nearest-near.result c.nearest-near.ensures.low c.nearest-near.ensures.high ∙ c.nearest-near.ensures.value
    ∙ ap (λ x. kept_near x (to_z w64 (of_z w64 c.raw-2.result)) (to_z w64 (of_z w64 c.raw-3.result))) bound ∙ ap (λ x. kept_near c.args.bound x (to_z w64 (of_z w64 c.raw-3.result))) old
    ∙ ap (λ x. kept_near c.args.bound c.args.old x) new
