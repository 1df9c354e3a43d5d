use Rattle.std.proofs.Common.{◌∙◌, ap, sym, refl, subst, ◌^◌, Some, None}
use Rattle.fixed_math.specs.Axes.{AreWithin}
use Rattle.patches.specs.declared.patch.Patch.TheVariants.{Bicubic}
use Rattle.mesh_basis.specs.Ranges.{points_in_range}
use Rattle.mesh_basis.specs.Meshes.{bezier_row}
use Rattle.mesh_basis.proofs.Rows.{within_rows}
use Rattle.mesh_basis.proofs.Blends.{made_from}
use Rattle.mesh_basis.proofs.bezier.bicubic_of.Goals as goal

pub new-requires : goal.new-requires
new-requires c =
    subst (AreWithin (2 ^ 30)) (sym c.joined.ensures)
    (within_rows (2 ^ 30) c.in_ok-a.a c.in_ok-b.b c.in_ok-c.c c.in_ok-d.d c.in_ok-a.ensures.range c.in_ok-b.ensures.range c.in_ok-c.ensures.range c.in_ok-d.ensures.range)

pub returns-in_err-a : goal.returns-in_err-a
returns-in_err-a c =
    let bu = c.args.bases.along_u in
    let bv = c.args.bases.along_v in
    let net = c.args.net.now in
    c.from_residual.ensures
    ∙ made_from bu bv net None (points_in_range (bezier_row bu bv net 1)) (points_in_range (bezier_row bu bv net 2)) (points_in_range (bezier_row bu bv net 3)) c.in_err-a.ensures.value refl refl refl

pub returns-in_err-b : goal.returns-in_err-b
returns-in_err-b c =
    let bu = c.args.bases.along_u in
    let bv = c.args.bases.along_v in
    let net = c.args.net.now in
    c.from_residual-in_err-b.ensures
    ∙ made_from bu bv net (Some c.in_ok-a.a) None (points_in_range (bezier_row bu bv net 2)) (points_in_range (bezier_row bu bv net 3)) c.in_ok-a.ensures.value c.in_err-b.ensures.value refl refl

pub returns-in_err-c : goal.returns-in_err-c
returns-in_err-c c =
    let bu = c.args.bases.along_u in
    let bv = c.args.bases.along_v in
    let net = c.args.net.now in
    c.from_residual-in_err-c.ensures
    ∙ made_from bu bv net (Some c.in_ok-a.a) (Some c.in_ok-b.b) None (points_in_range (bezier_row bu bv net 3)) c.in_ok-a.ensures.value c.in_ok-b.ensures.value c.in_err-c.ensures.value refl

pub returns-in_err-d : goal.returns-in_err-d
returns-in_err-d c =
    let bu = c.args.bases.along_u in
    let bv = c.args.bases.along_v in
    let net = c.args.net.now in
    c.from_residual-in_err-d.ensures
    ∙ made_from bu bv net (Some c.in_ok-a.a) (Some c.in_ok-b.b) (Some c.in_ok-c.c) None c.in_ok-a.ensures.value c.in_ok-b.ensures.value c.in_ok-c.ensures.value c.in_err-d.ensures.value

pub returns : goal.returns
returns c =
    let bu = c.args.bases.along_u in
    let bv = c.args.bases.along_v in
    let net = c.args.net.now in
    ap (λ ps. Some (Bicubic ps)) (c.new.ensures ∙ c.joined.ensures)
    ∙ made_from bu bv net (Some c.in_ok-a.a) (Some c.in_ok-b.b) (Some c.in_ok-c.c) (Some c.in_ok-d.d) c.in_ok-a.ensures.value c.in_ok-b.ensures.value c.in_ok-c.ensures.value c.in_ok-d.ensures.value
