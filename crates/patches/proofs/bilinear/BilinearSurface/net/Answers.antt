use Rattle.std.proofs.Common.{◌≡◌, ◌∙◌, ap, sym, subst, ◌^◌, List, [], ◌∷◌, ◌++◌}
use Rattle.fixed_math.specs.declared.vec3.Vec3.{Vec3}
use Rattle.fixed_math.specs.Axes.{AreWithin}
use Rattle.patches.specs.BoxLaws.{Each-AreWithin}
use Rattle.patches.proofs.bilinear.BilinearSurface.net.Goals as goal

pub returns-clause-small : goal.returns-clause-small
returns-clause-small c =
    let one : c.push.new.self.items ≡ c.point_at.result ∷ [] = c.push.ensures.items ∙ ap (λ (ps : List Vec3). ps ++ c.point_at.result ∷ []) c.new-net.ensures in
    let two : c.push-2.new.self.items ≡ c.point_at.result ∷ c.point_at-2.result ∷ [] = c.push-2.ensures.items ∙ ap (λ (ps : List Vec3). ps ++ c.point_at-2.result ∷ []) one in
    let three : c.push-3.new.self.items ≡ c.point_at.result ∷ c.point_at-2.result ∷ c.point_at-3.result ∷ [] = c.push-3.ensures.items ∙ ap (λ (ps : List Vec3). ps ++ c.point_at-3.result ∷ []) two in
    let four : c.push-4.new.self.items ≡ c.point_at.result ∷ c.point_at-2.result ∷ c.point_at-3.result ∷ c.point_at-4.result ∷ [] = c.push-4.ensures.items ∙ ap (λ (ps : List Vec3). ps ++ c.point_at-4.result ∷ []) three in
    subst (AreWithin (2 ^ 30)) (sym four)
    (Each-AreWithin (2 ^ 30) (c.point_at.result ∷ c.point_at-2.result ∷ c.point_at-3.result ∷ c.point_at-4.result ∷ [])
    (c.point_at.ensures.small, (c.point_at-2.ensures.small, (c.point_at-3.ensures.small, (c.point_at-4.ensures.small, tt)))))
