-- Sixteen points by rows of four.
use Rattle.std.proofs.Common.{◌≡◌, ◌∙◌, ap, refl, arith, ℕ, List, [], ◌∷◌, ◌++◌, length, slice_index_or, Option, Some, None}
use Rattle.fixed_math.specs.declared.vec3.Vec3.{Vec3}
use Rattle.fixed_math.specs.Axes.{AreWithin}
use Rattle.patches.specs.Boxes.{IsWithin}
use Rattle.patches.specs.BoxLaws.{Each-AreWithin, AreWithin-Each}
use Rattle.patches.specs.ListLaws.{Each-append}
use Rattle.mesh_basis.specs.Ranges.{with_next, point_in_range, points_in_range}

-- the four items of a row before others
four_onto : (xs rest : List Vec3) (p q r s : Vec3) → length xs ≡ 4 → slice_index_or xs 0 p ∷ slice_index_or xs 1 q ∷ slice_index_or xs 2 r ∷ slice_index_or xs 3 s ∷ rest ≡ xs ++ rest
four_onto [] rest p q r s e = absurd (omega arith)
four_onto (a ∷ []) rest p q r s e = absurd (omega arith)
four_onto (a ∷ b ∷ []) rest p q r s e = absurd (omega arith)
four_onto (a ∷ b ∷ c ∷ []) rest p q r s e = absurd (omega arith)
four_onto (a ∷ b ∷ c ∷ d ∷ []) rest p q r s e = refl
four_onto (a ∷ b ∷ c ∷ d ∷ x ∷ xs) rest p q r s e = absurd (omega arith)

pub sixteen_items : (ks bs cs ds : List Vec3) (a1 a2 a3 a4 b1 b2 b3 b4 c1 c2 c3 c4 d1 d2 d3 d4 : Vec3) → length ks ≡ 4 → length bs ≡ 4 → length cs ≡ 4 → length ds ≡ 4 →
    slice_index_or ks 0 a1 ∷ slice_index_or ks 1 a2 ∷ slice_index_or ks 2 a3 ∷ slice_index_or ks 3 a4 ∷
    slice_index_or bs 0 b1 ∷ slice_index_or bs 1 b2 ∷ slice_index_or bs 2 b3 ∷ slice_index_or bs 3 b4 ∷
    slice_index_or cs 0 c1 ∷ slice_index_or cs 1 c2 ∷ slice_index_or cs 2 c3 ∷ slice_index_or cs 3 c4 ∷
    slice_index_or ds 0 d1 ∷ slice_index_or ds 1 d2 ∷ slice_index_or ds 2 d3 ∷ slice_index_or ds 3 d4 ∷ [] ≡ ks ++ (bs ++ (cs ++ (ds ++ [])))
sixteen_items ks bs cs ds a1 a2 a3 a4 b1 b2 b3 b4 c1 c2 c3 c4 d1 d2 d3 d4 e f g h =
    four_onto ks _ a1 a2 a3 a4 e
    ∙ ap (λ rest. ks ++ rest) (four_onto bs _ b1 b2 b3 b4 f
    ∙ ap (λ rest. bs ++ rest) (four_onto cs _ c1 c2 c3 c4 g
    ∙ ap (λ rest. cs ++ rest) (four_onto ds [] d1 d2 d3 d4 h)))

pub within_rows : (m : ℕ) (ks bs cs ds : List Vec3) → AreWithin m ks → AreWithin m bs → AreWithin m cs → AreWithin m ds → AreWithin m (ks ++ (bs ++ (cs ++ (ds ++ []))))
within_rows m ks bs cs ds a b c d =
    let P = IsWithin m in
    Each-AreWithin m (ks ++ (bs ++ (cs ++ (ds ++ []))))
    (Each-append P ks (bs ++ (cs ++ (ds ++ []))) (AreWithin-Each m ks a)
    (Each-append P bs (cs ++ (ds ++ [])) (AreWithin-Each m bs b)
    (Each-append P cs (ds ++ []) (AreWithin-Each m cs c) (Each-append P ds [] (AreWithin-Each m ds d) tt))))

-- the items of both, where both are there
abbrev pub both : Option (List Vec3) → Option (List Vec3) → Option (List Vec3)
both (Some ps) (Some qs) = Some (ps ++ qs)
both _ _ = None

next_both : (o : Option Vec3) (a b : Option (List Vec3)) → with_next o (both a b) ≡ both (with_next o a) b
next_both None None b = refl
next_both None (Some ps) b = refl
next_both (Some p) None b = refl
next_both (Some p) (Some ps) None = refl
next_both (Some p) (Some ps) (Some qs) = refl

none_before : (o : Option (List Vec3)) → o ≡ both (Some []) o
none_before None = refl
none_before (Some ps) = refl

range_both : (ps qs : List Vec3) → points_in_range (ps ++ qs) ≡ both (points_in_range ps) (points_in_range qs)
range_both [] qs = none_before (points_in_range qs)
range_both (p ∷ ps) qs = ap (with_next (point_in_range p)) (range_both ps qs) ∙ next_both (point_in_range p) (points_in_range ps) (points_in_range qs)

-- sixteen points in range, from the answers for their four rows
pub rows_in_range : (a b c d : List Vec3) → points_in_range (a ++ (b ++ (c ++ (d ++ [])))) ≡ both (points_in_range a) (both (points_in_range b) (both (points_in_range c) (both (points_in_range d) (Some []))))
rows_in_range a b c d =
    range_both a (b ++ (c ++ (d ++ [])))
    ∙ ap (both (points_in_range a)) (range_both b (c ++ (d ++ []))
    ∙ ap (both (points_in_range b)) (range_both c (d ++ [])
    ∙ ap (both (points_in_range c)) (range_both d [])))
