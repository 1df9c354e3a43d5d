use Rattle.std.proofs.Common.{◌≡◌, true, sym, ◌∙◌, subst}
use Rattle.number_rows.specs.Planes.{triple_at, triple_in, plane_at}
use Rattle.light_rows.specs.Seen.{size, at_place, with_gain, gain_at, counts_in, HasBegun}
use Rattle.light_rows.proofs.Shares.{diffuse_share, specular_share, diffuse_lit, specular_lit}
use Rattle.light_rows.proofs.workroom.Workroom.add.Goals as goal

pub returns-in-Diffuse-clause-each : goal.returns-in-Diffuse-clause-each
returns-in-Diffuse-clause-each c l is i lt =
    let a = c.args.answers.now in
    let t = triple_in c.args.x.now c.args.y.now c.args.z.now i in
    let n = c.in-Diffuse.field-0 in
    let h = diffuse_lit n a.ambient (subst (λ s. counts_in s a.ambient ≡ true) c.in-Diffuse.is c.requires.counts) in
    let begun = subst (λ s. HasBegun (size a.colours) s c.args.self.now) c.in-Diffuse.is c.requires.begun in
    subst (λ s. triple_in c.add_diffuse.new.x c.add_diffuse.new.y c.add_diffuse.new.z i ≡ with_gain t (gain_at s i (l i))) (sym c.in-Diffuse.is)
    (c.add_diffuse.ensures.each i lt ∙ diffuse_share a i (l i) (triple_at n i) (at_place c.args.self.now.normals i) t h (is i lt) (begun i lt))

pub returns-in-Specular-clause-each : goal.returns-in-Specular-clause-each
returns-in-Specular-clause-each c l is i lt =
    let a = c.args.answers.now in
    let t = triple_in c.args.x.now c.args.y.now c.args.z.now i in
    let n = c.in-Specular.field-0 in
    let v = c.in-Specular.v in
    let r = c.in-Specular.field-2 in
    let h = specular_lit n v r a.ambient (subst (λ s. counts_in s a.ambient ≡ true) c.in-Specular.is c.requires.counts) in
    let begun = subst (λ s. HasBegun (size a.colours) s c.args.self.now) c.in-Specular.is c.requires.begun in
    subst (λ s. triple_in c.add_specular.new.x c.add_specular.new.y c.add_specular.new.z i ≡ with_gain t (gain_at s i (l i))) (sym c.in-Specular.is)
    (c.add_specular.ensures.each i lt ∙ specular_share a i (l i) (triple_at n i) (at_place c.args.self.now.normals i) t h (is i lt) (begun.0 i lt) (triple_at v i) (plane_at r i) _ (begun.1 i lt))
