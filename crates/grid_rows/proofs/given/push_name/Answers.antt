use Rattle.grid_variables.specs.Points.{normal_of, u_at, v_at, dpdu, dpdv}
use Rattle.grid_variables.specs.Variables.{s_at, t_at}
use Rattle.grid_rows.proofs.UnderWay.{few}
use Rattle.grid_rows.proofs.given.push_name.Goals as goal

pub push_triples-requires-in-Ng : goal.push_triples-requires-in-Ng
push_triples-requires-in-Ng c = few c.args.leaf.now _ c.args.geometric.now (normal_of c.args.leaf.now) (c.requires.geometric.1 c.in-Ng.is) c.point_count-points.ensures.value c.point_count-points.ensures.to

pub push_numbers-requires : goal.push_numbers-requires
push_numbers-requires c = few c.args.leaf.now _ c.in_ok-parameters-in-U.field-0.now (u_at c.args.leaf.now) c.in_ok-parameters-in-U.ensures c.point_count-points.ensures.value c.point_count-points.ensures.to

pub push_numbers-requires-in-V : goal.push_numbers-requires-in-V
push_numbers-requires-in-V c = few c.args.leaf.now _ c.in_ok-parameters-in-V.field-0.now (v_at c.args.leaf.now) c.in_ok-parameters-in-V.ensures c.point_count-points.ensures.value c.point_count-points.ensures.to

pub push_numbers-requires-in-S : goal.push_numbers-requires-in-S
push_numbers-requires-in-S c = few c.args.leaf.now _ c.in_ok-first_coordinates-in-S.field-0.now (s_at c.args.leaf.now) c.in_ok-first_coordinates-in-S.ensures c.point_count-points.ensures.value c.point_count-points.ensures.to

pub push_numbers-requires-in-T : goal.push_numbers-requires-in-T
push_numbers-requires-in-T c = few c.args.leaf.now _ c.in_ok-second_coordinates-in-T.field-0.now (t_at c.args.leaf.now) c.in_ok-second_coordinates-in-T.ensures c.point_count-points.ensures.value c.point_count-points.ensures.to

pub push_triples-requires-in-DPdu : goal.push_triples-requires-in-DPdu
push_triples-requires-in-DPdu c = few c.args.leaf.now _ c.in_ok-derivatives-in-DPdu.field-0.now (dpdu c.args.leaf.now) c.in_ok-derivatives-in-DPdu.ensures c.point_count-points.ensures.value c.point_count-points.ensures.to

pub push_triples-requires-in-DPdv : goal.push_triples-requires-in-DPdv
push_triples-requires-in-DPdv c = few c.args.leaf.now _ c.in_ok-derivatives-in-DPdv.field-0.now (dpdv c.args.leaf.now) c.in_ok-derivatives-in-DPdv.ensures c.point_count-points.ensures.value c.point_count-points.ensures.to
