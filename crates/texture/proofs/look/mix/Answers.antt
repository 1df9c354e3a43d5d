use Rattle.texture.proofs.Shares.{lane_most, lanes_are}
use Rattle.texture.proofs.look.mix.Goals as goal

pub invariant_of-result : goal.invariant_of-result
invariant_of-result c =
    let a = c.args.a in
    let b = c.args.b in
    record {
      red_most = lane_most a.red b.red c.args.t a.red_most b.red_most c.requires;
      green_most = lane_most a.green b.green c.args.t a.green_most b.green_most c.requires;
      blue_most = lane_most a.blue b.blue c.args.t a.blue_most b.blue_most c.requires;
    }

pub returns : goal.returns
returns c = lanes_are c.args.a c.args.b c.args.t c.requires
