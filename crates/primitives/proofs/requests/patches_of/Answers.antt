use Rattle.primitives.specs.Variables.{variables_in}
use Rattle.primitives.proofs.Room.{few_made, few_quadric_made}
use Rattle.primitives.proofs.requests.patches_of.Goals as goal

pub returns-clause-few : goal.returns-clause-few
returns-clause-few c =
    let r = c.args.request.now in
    few_made c.over.result r.name r.args c.args.bases _ c.args.room c.as_slice.result.now c.over.ensures

pub returns-in-Some-clause-few : goal.returns-in-Some-clause-few
returns-in-Some-clause-few c = few_quadric_made c.quadric_patches.result (variables_in c.args.request.now.params) c.in-Some.form c.args.object.now c.args.room c.quadric_patches.ensures
