-- What the edges of a triangle say of a place.
use Rattle.std.proofs.Common.{◌≡◌, zero, suc, ◌+◌, ◌*◌, ap, arith, refl, sym, ◌∙◌, Bool, true}
use Rattle.std.specs.Prelude.{ℤ, pos, negsuc, neg_ℤ, ◌≤ℤ◌, ◌<ℤ◌, ◌+ℤ◌, ◌-ℤ◌, ◌*ℤ◌}
use Rattle.std.proofs.lemmas.Int.{ints, by_lt_z}
use borrow.Author.Differences.{up, down}
use lib.IntN.{*ℤ_comm}
use Rattle.fixed_math.proofs.Ring.{*ℤ_assoc}
use Rattle.fixed_math.specs.Spots.{Spot}
use Rattle.fixed_math.specs.Edges.{edge, by_side}

-- ---- products of differences
mul_sub : (p a b : ℤ) → p *ℤ (a -ℤ b) ≡ p *ℤ a -ℤ p *ℤ b
mul_sub p a b =
    let e : up (a -ℤ b) + down a + up b ≡ down (a -ℤ b) + up a + down b = omega (arith, ints) in
    let f = ap (λ n. up p * n) e in
    let g = ap (λ n. down p * n) e in
    omega (arith, ints, f, g)

sub_mul : (a b p : ℤ) → (a -ℤ b) *ℤ p ≡ a *ℤ p -ℤ b *ℤ p
sub_mul a b p =
    let e : up (a -ℤ b) + down a + up b ≡ down (a -ℤ b) + up a + down b = omega (arith, ints) in
    let f = ap (λ n. n * up p) e in
    let g = ap (λ n. n * down p) e in
    omega (arith, ints, f, g)

cross : ℤ → ℤ → ℤ → ℤ → ℤ
cross ax ay bx by = ax *ℤ by -ℤ ay *ℤ bx

-- the edge test by what lies round the sample
edge-cross : (a b s : Spot) → edge a b s ≡ cross (a.x -ℤ s.x) (a.y -ℤ s.y) (b.x -ℤ s.x) (b.y -ℤ s.y)
unfolding cross edge
edge-cross a b s = simp (mul_sub, sub_mul) (omega (arith, ints))

edge_is_cross : (a b c : Spot) → edge a b c ≡ cross (b.x -ℤ a.x) (b.y -ℤ a.y) (c.x -ℤ a.x) (c.y -ℤ a.y)
unfolding cross edge
edge_is_cross a b c = refl

rot : (a b c : ℤ) → (a *ℤ b) *ℤ c ≡ (b *ℤ c) *ℤ a
rot a b c = *ℤ_assoc a b c ∙ *ℤ_comm a (b *ℤ c)

-- the sample is the mean of the corners, weighed by the areas opposite to them: in both coordinates
weighed_x : (ax ay bx by cx cy : ℤ) → cross bx by cx cy *ℤ ax +ℤ cross cx cy ax ay *ℤ bx +ℤ cross ax ay bx by *ℤ cx ≡ pos 0
unfolding cross
weighed_x ax ay bx by cx cy =
    let e = rot bx cy ax in
    let f = rot ax by cx in
    let g = rot cx ay bx in
    simp sub_mul (omega (arith, ints, e, f, g))

weighed_y : (ax ay bx by cx cy : ℤ) → cross bx by cx cy *ℤ ay +ℤ cross cx cy ax ay *ℤ by +ℤ cross ax ay bx by *ℤ cy ≡ pos 0
unfolding cross
weighed_y ax ay bx by cx cy =
    let e = rot ay bx cy in
    let f = rot by cx ay in
    let g = rot cy ax by in
    simp sub_mul (omega (arith, ints, e, f, g))

-- the three areas make the whole
whole_cross : (ax ay bx by cx cy : ℤ) → cross ax ay bx by +ℤ cross bx by cx cy +ℤ cross cx cy ax ay ≡ cross (bx -ℤ ax) (by -ℤ ay) (cx -ℤ ax) (cy -ℤ ay)
unfolding cross
whole_cross ax ay bx by cx cy = simp (mul_sub, sub_mul) (omega (arith, ints))

turned : (a b c s : ℤ) → (b -ℤ s) -ℤ (a -ℤ s) ≡ b -ℤ a
turned a b c s = omega (arith, ints)

whole_area : (a b c s : Spot) → cross (b.x -ℤ s.x) (b.y -ℤ s.y) (c.x -ℤ s.x) (c.y -ℤ s.y) +ℤ cross (c.x -ℤ s.x) (c.y -ℤ s.y) (a.x -ℤ s.x) (a.y -ℤ s.y) +ℤ cross (a.x -ℤ s.x) (a.y -ℤ s.y) (b.x -ℤ s.x) (b.y -ℤ s.y) ≡ edge a b c
whole_area a b c s =
    let e = whole_cross (a.x -ℤ s.x) (a.y -ℤ s.y) (b.x -ℤ s.x) (b.y -ℤ s.y) (c.x -ℤ s.x) (c.y -ℤ s.y) in
    let f : edge a b c ≡ cross (b.x -ℤ a.x) (b.y -ℤ a.y) (c.x -ℤ a.x) (c.y -ℤ a.y) = edge_is_cross a b c in
    let g = rw (turned a.x b.x c.x s.x, turned a.y b.y c.y s.y, turned a.x c.x b.x s.x, turned a.y c.y b.y s.y) at e in
    omega (arith, ints, f, g)

more : (w x : ℤ) → pos 0 ≤ℤ w → pos 1 ≤ℤ x → w ≤ℤ (w *ℤ x)
more (pos n) (pos zero) h g = absurd (omega (arith, ints))
more (pos n) (pos (suc k)) h g = omega (arith, ints)
more (pos n) (negsuc k) h g = absurd (omega (arith, ints))
more (negsuc n) x h g = absurd (omega (arith, ints))

less : (w x : ℤ) → pos 0 ≤ℤ w → x ≤ℤ neg_ℤ (pos 1) → (w *ℤ x) ≤ℤ neg_ℤ w
less (pos n) (pos k) h g = absurd (omega (arith, ints))
less (pos n) (negsuc k) h g = omega (arith, ints)
less (negsuc n) x h g = absurd (omega (arith, ints))

-- weights that aren't below 0 and don't vanish, and a weighted sum of 0: neither all are above 0 nor all below
not_above : (u v w x y z : ℤ) → pos 0 ≤ℤ u → pos 0 ≤ℤ v → pos 0 ≤ℤ w → pos 0 <ℤ (u +ℤ v +ℤ w) → u *ℤ x +ℤ v *ℤ y +ℤ w *ℤ z ≡ pos 0 → pos 1 ≤ℤ x → pos 1 ≤ℤ y → pos 1 ≤ℤ z → ⊥
not_above u v w x y z hu hv hw hs e hx hy hz =
    let a = more u x hu hx in let b = more v y hv hy in let c = more w z hw hz in omega (arith, ints, a, b, c)

not_below : (u v w x y z : ℤ) → pos 0 ≤ℤ u → pos 0 ≤ℤ v → pos 0 ≤ℤ w → pos 0 <ℤ (u +ℤ v +ℤ w) → u *ℤ x +ℤ v *ℤ y +ℤ w *ℤ z ≡ pos 0 → x ≤ℤ neg_ℤ (pos 1) → y ≤ℤ neg_ℤ (pos 1) → z ≤ℤ neg_ℤ (pos 1) → ⊥
not_below u v w x y z hu hv hw hs e hx hy hz =
    let a = less u x hu hx in let b = less v y hv hy in let c = less w z hw hz in omega (arith, ints, a, b, c)

-- what bounds three corners in a direction bounds a place inside them
pub record IsAround (a b c s : Spot) : Type 0 where
  pub left : (m : ℤ) → m ≤ℤ a.x → m ≤ℤ b.x → m ≤ℤ c.x → m ≤ℤ s.x
  pub right : (m : ℤ) → a.x ≤ℤ m → b.x ≤ℤ m → c.x ≤ℤ m → s.x ≤ℤ m
  pub top : (m : ℤ) → m ≤ℤ a.y → m ≤ℤ b.y → m ≤ℤ c.y → m ≤ℤ s.y
  pub bottom : (m : ℤ) → a.y ≤ℤ m → b.y ≤ℤ m → c.y ≤ℤ m → s.y ≤ℤ m

pub inside_around : (a b c s : Spot) → pos 0 ≤ℤ edge a b s → pos 0 ≤ℤ edge b c s → pos 0 ≤ℤ edge c a s → pos 0 <ℤ edge a b c → IsAround a b c s
inside_around a b c s h1 h2 h3 h =
    let ax = a.x -ℤ s.x in let ay = a.y -ℤ s.y in let bx = b.x -ℤ s.x in let by = b.y -ℤ s.y in let cx = c.x -ℤ s.x in let cy = c.y -ℤ s.y in
    let p1 = rw (edge-cross b c s) at h2 in
    let p2 = rw (edge-cross c a s) at h3 in
    let p3 = rw (edge-cross a b s) at h1 in
    let p : pos 0 <ℤ (cross bx by cx cy +ℤ cross cx cy ax ay +ℤ cross ax ay bx by) = rw (whole_area a b c s) h in
    let ex = weighed_x ax ay bx by cx cy in
    let ey = weighed_y ax ay bx by cx cy in
    let u = cross bx by cx cy in let v = cross cx cy ax ay in let w = cross ax ay bx by in
    record {
      left = λ m ha hb hc. by_lt_z s.x m (λ l. absurd (not_above u v w ax bx cx p1 p2 p3 p ex (omega (arith, ints)) (omega (arith, ints)) (omega (arith, ints)))) (λ l. l);
      right = λ m ha hb hc. by_lt_z m s.x (λ l. absurd (not_below u v w ax bx cx p1 p2 p3 p ex (omega (arith, ints)) (omega (arith, ints)) (omega (arith, ints)))) (λ l. l);
      top = λ m ha hb hc. by_lt_z s.y m (λ l. absurd (not_above u v w ay by cy p1 p2 p3 p ey (omega (arith, ints)) (omega (arith, ints)) (omega (arith, ints)))) (λ l. l);
      bottom = λ m ha hb hc. by_lt_z m s.y (λ l. absurd (not_below u v w ay by cy p1 p2 p3 p ey (omega (arith, ints)) (omega (arith, ints)) (omega (arith, ints)))) (λ l. l);
    }

-- ---- from the tests
pub by_side-true : (z : ℤ) (o : Bool) → by_side z o ≡ true → pos 0 ≤ℤ z
by_side-true (negsuc n) o e = absurd (cc)
by_side-true (pos zero) o e = omega (arith, ints)
by_side-true (pos (suc n)) o e = omega (arith, ints)

pub turn : (a b c s : Spot) → IsAround a c b s → IsAround a b c s
turn a b c s r = record {
  left = λ m x y z. r.left m x z y;
  right = λ m x y z. r.right m x z y;
  top = λ m x y z. r.top m x z y;
  bottom = λ m x y z. r.bottom m x z y;
}

-- exchanging two corners turns the sign
pub edge_turned : (a b c : Spot) → edge a c b ≡ neg_ℤ (edge a b c)
unfolding edge
edge_turned a b c = simp (mul_sub, sub_mul) (omega (arith, ints))

-- the area is the sum of the areas opposite to the corners
pub edge-parts : (a b c s : Spot) → edge a b c ≡ edge b c s +ℤ edge c a s +ℤ edge a b s
edge-parts a b c s = rw (edge-cross b c s, edge-cross c a s, edge-cross a b s) (sym (whole_area a b c s))
