-- Mixes commute.
use Rattle.std.proofs.Common.{◌≡◌, ℕ, ◌+◌, ◌-◌, ◌≤◌, arith, subst, sym}
use Rattle.std.specs.Prelude.{ℤ, pos, ◌+ℤ◌, ◌*ℤ◌, ◌≤ℤ◌}
use Rattle.std.proofs.lemmas.Int.{ints, by_lt_z}
use Rattle.std.proofs.Math.Nat.{mul-le-mul_left}
use borrow.Author.Differences.{up, down}
use Rattle.fixed_math.specs.Blossom.{mix, denominator}
use Rattle.fixed_math.proofs.Weights.{mul-add, mul-mul}

swap : (p s q t : ℕ) (a b c : ℤ) → pos p *ℤ (pos q *ℤ a +ℤ pos t *ℤ b) +ℤ pos s *ℤ (pos q *ℤ b +ℤ pos t *ℤ c) ≡ pos q *ℤ (pos p *ℤ a +ℤ pos s *ℤ b) +ℤ pos t *ℤ (pos p *ℤ b +ℤ pos s *ℤ c)
swap p s q t a b c = simp (mul-add, mul-mul) (omega (arith, ints))

-- two mixes commute
pub mix_swap : (s t : ℕ) (a b c : ℤ) → mix s (mix t a b) (mix t b c) ≡ mix t (mix s a b) (mix s b c)
mix_swap s t a b c = swap (denominator - s) s (denominator - t) t a b c

swap4 : (p s q t : ℕ) (a b c d : ℤ) → pos p *ℤ (pos q *ℤ a +ℤ pos t *ℤ b) +ℤ pos s *ℤ (pos q *ℤ c +ℤ pos t *ℤ d) ≡ pos q *ℤ (pos p *ℤ a +ℤ pos s *ℤ c) +ℤ pos t *ℤ (pos p *ℤ b +ℤ pos s *ℤ d)
swap4 p s q t a b c d = simp (mul-add, mul-mul) (omega (arith, ints))

pub mix_mix : (s t : ℕ) (a b c d : ℤ) → mix s (mix t a b) (mix t c d) ≡ mix t (mix s a c) (mix s b d)
mix_mix s t a b c d = swap4 (denominator - s) s (denominator - t) t a b c d

-- weighted means of a and b, with weights p + s that sum to one number: what bounds the two outer ones from below bounds the inner
between : (p l k j : ℕ) (a b m : ℤ) → m ≤ℤ (pos (p + k + j) *ℤ a +ℤ pos l *ℤ b) → m ≤ℤ (pos p *ℤ a +ℤ pos (l + k + j) *ℤ b) → m ≤ℤ (pos (p + j) *ℤ a +ℤ pos (l + k) *ℤ b)
between p l k j a b m f g =
    by_lt_z a b
    (λ h. let e : up a + down b ≤ up b + down a = omega (arith, ints) in let x = mul-le-mul_left k e in omega (arith, ints, x))
    (λ h. let e : up b + down a ≤ up a + down b = omega (arith, ints) in let x = mul-le-mul_left j e in omega (arith, ints, x))

between_above : (p l k j : ℕ) (a b m : ℤ) → (pos (p + k + j) *ℤ a +ℤ pos l *ℤ b) ≤ℤ m → (pos p *ℤ a +ℤ pos (l + k + j) *ℤ b) ≤ℤ m → (pos (p + j) *ℤ a +ℤ pos (l + k) *ℤ b) ≤ℤ m
between_above p l k j a b m f g =
    by_lt_z a b
    (λ h. let e : up a + down b ≤ up b + down a = omega (arith, ints) in let x = mul-le-mul_left j e in omega (arith, ints, x))
    (λ h. let e : up b + down a ≤ up a + down b = omega (arith, ints) in let x = mul-le-mul_left k e in omega (arith, ints, x))

split : (l u h : ℕ) → l ≤ u → u ≤ h → h ≤ denominator → (denominator - l ≡ (denominator - h) + (u - l) + (h - u)) × (denominator - u ≡ (denominator - h) + (h - u)) × (h ≡ l + (u - l) + (h - u)) × (u ≡ l + (u - l))
split l u h p q r = omega arith

pub mix_low : (l u h : ℕ) (a b m : ℤ) → l ≤ u → u ≤ h → h ≤ denominator → m ≤ℤ mix l a b → m ≤ℤ mix h a b → m ≤ℤ mix u a b
mix_low l u h a b m p q r f g =
    let e = split l u h p q r in
    let F : ℕ → ℕ → Type 0 = λ x y. m ≤ℤ (pos x *ℤ a +ℤ pos y *ℤ b) in
    let f' = subst (λ x. F x l) e.0 f in
    let g' = subst (λ y. F (denominator - h) y) e.2 g in
    let r' = between (denominator - h) l (u - l) (h - u) a b m f' g' in
    subst (λ x. F x u) (sym e.1) (subst (λ y. F (denominator - h + (h - u)) y) (sym e.3) r')

pub mix_high : (l u h : ℕ) (a b m : ℤ) → l ≤ u → u ≤ h → h ≤ denominator → mix l a b ≤ℤ m → mix h a b ≤ℤ m → mix u a b ≤ℤ m
mix_high l u h a b m p q r f g =
    let e = split l u h p q r in
    let F : ℕ → ℕ → Type 0 = λ x y. (pos x *ℤ a +ℤ pos y *ℤ b) ≤ℤ m in
    let f' = subst (λ x. F x l) e.0 f in
    let g' = subst (λ y. F (denominator - h) y) e.2 g in
    let r' = between_above (denominator - h) l (u - l) (h - u) a b m f' g' in
    subst (λ x. F x u) (sym e.1) (subst (λ y. F (denominator - h + (h - u)) y) (sym e.3) r')
