use Rattle.std.proofs.Common.{◌∙◌, ap, sym, subst, rules, true, false, nat_lt, ◌≡◌, ◌*◌}
use Rattle.mesh_basis.specs.Ranges.{are_in_range}
use Rattle.primitives.specs.Variables.{are_counted, mesh_extent, mesh_seat}
use Rattle.primitives.specs.Answers.{GivesMade}
use Rattle.primitives.proofs.Seating.{mesh_is}
use Rattle.primitives.proofs.Values.{sides_fit, all_there, mesh_inside}
use Rattle.primitives.proofs.meshes.mesh_patches.Goals as goal

pub mesh_extent-requires : goal.mesh_extent-requires
mesh_extent-requires c = sides_fit c.args.shape.now _ c.in-Some.counts (sym c.counts_of.ensures ∙ c.in-Some.is) c.requires.few_u c.requires.few_v

pub mesh_seated-requires-clause-sides : goal.mesh_seated-requires-clause-sides
mesh_seated-requires-clause-sides c = sides_fit c.args.shape.now _ c.in-Some.counts (sym c.counts_of.ensures ∙ c.in-Some.is) c.requires.few_u c.requires.few_v

pub mesh_seated-requires-clause-there : goal.mesh_seated-requires-clause-there
mesh_seated-requires-clause-there c =
    let shape = c.args.shape.now in
    let m = c.in-Some.counts in
    let vars = c.args.variables.now in
    let yes : c.are_counted.result ≡ true = search rules in
    let counted : are_counted (mesh_extent shape m) vars ≡ true =
    sym (c.are_counted.ensures ∙ ap (are_counted c.mesh_extent.result) (c.as_slice.ensures ∙ c.get.ensures) ∙ ap (λ e. are_counted e vars) c.mesh_extent.ensures) ∙ yes in
    λ k h. all_there (mesh_extent shape m) (mesh_seat shape m k) vars (mesh_inside shape m k h) c.requires.kinds counted

pub returns : goal.returns
returns c =
    let shape = c.args.shape.now in
    let m = c.in-Some.counts in
    let vars = c.args.variables.now in
    let yes : c.are_counted.result ≡ true = search rules in
    let counted : are_counted (mesh_extent shape m) vars ≡ true =
    sym (c.are_counted.ensures ∙ ap (are_counted c.mesh_extent.result) (c.as_slice.ensures ∙ c.get.ensures) ∙ ap (λ e. are_counted e vars) c.mesh_extent.ensures) ∙ yes in
    let past : nat_lt c.args.room (m.along_u * m.along_v) ≡ false = search rules in
    let near : are_in_range c.args.points.now ≡ true = search rules in
    subst (GivesMade c.mesh_seated.result)
    (sym (mesh_is vars shape c.args.room c.args.points.now m (sym c.counts_of.ensures ∙ c.in-Some.is) counted past near))
    c.mesh_seated.ensures
