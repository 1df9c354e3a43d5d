-- Bounds of a surface by the numbers of its net.
use Rattle.std.proofs.Common.{◌≡◌, ℕ, zero, suc, ◌+◌, ◌-◌, ◌*◌, ◌≤◌, arith, subst, refl, sym, ◌∙◌, List, [], ◌∷◌, length}
use Rattle.std.specs.Prelude.{ℤ, pos, ◌+ℤ◌, ◌*ℤ◌, ◌≤ℤ◌}
use Rattle.std.proofs.lemmas.Int.{ints}
use Rattle.fixed_math.specs.Blossom.{denominator, blossom, ends, AllFromTo}
use Rattle.fixed_math.specs.Tensor.{weights_1, weights_3, weighted, weighted_net, blossom_net}
use Rattle.fixed_math.proofs.Weights.{mul-add, mul-mul}
use Rattle.fixed_math.proofs.Blossoms.{blossom_low, blossom_high, blossom_exchange}

-- what bounds a net's numbers bounds the surface at all arguments within the piece
pub net_low : (us vs : List ℕ) (lu hu lv hv : ℕ) (m : ℤ) (c : ℕ → ℕ → ℤ) → hu ≤ denominator → hv ≤ denominator → AllFromTo lu hu us → AllFromTo lv hv vs →
    ((a b d e : ℕ) → a + b ≡ length us → d + e ≡ length vs → m ≤ℤ blossom_net (ends a b lu hu) (ends d e lv hv) c) → m ≤ℤ blossom_net us vs c
net_low us vs lu hu lv hv m c p q wu wv f =
    blossom_low vs lv hv m (λ y. blossom us (λ x. c x y) 0) 0 q wv
    (λ d e h. subst (λ z. m ≤ℤ z) (sym (blossom_exchange us (ends d e lv hv) c 0 0))
    (blossom_low us lu hu m (λ x. blossom (ends d e lv hv) (λ y. c x y) 0) 0 p wu
    (λ a b g. subst (λ z. m ≤ℤ z) (blossom_exchange (ends a b lu hu) (ends d e lv hv) c 0 0) (f a b d e g h))))

pub net_high : (us vs : List ℕ) (lu hu lv hv : ℕ) (m : ℤ) (c : ℕ → ℕ → ℤ) → hu ≤ denominator → hv ≤ denominator → AllFromTo lu hu us → AllFromTo lv hv vs →
    ((a b d e : ℕ) → a + b ≡ length us → d + e ≡ length vs → blossom_net (ends a b lu hu) (ends d e lv hv) c ≤ℤ m) → blossom_net us vs c ≤ℤ m
net_high us vs lu hu lv hv m c p q wu wv f =
    blossom_high vs lv hv m (λ y. blossom us (λ x. c x y) 0) 0 q wv
    (λ d e h. subst (λ z. z ≤ℤ m) (sym (blossom_exchange us (ends d e lv hv) c 0 0))
    (blossom_high us lu hu m (λ x. blossom (ends d e lv hv) (λ y. c x y) 0) 0 p wu
    (λ a b g. subst (λ z. z ≤ℤ m) (blossom_exchange (ends a b lu hu) (ends d e lv hv) c 0 0) (f a b d e g h))))

-- the sum by weights is the blossom with all arguments equal
pub weighted-weights_1 : (u : ℕ) (c : ℕ → ℤ) (k : ℕ) → weighted (weights_1 u) c k ≡ blossom (u ∷ []) c k
unfolding blossom
weighted-weights_1 u c k = omega (arith, ints)

cubic : (p s : ℕ) (a b c d : ℤ) →
    pos (p * p * p) *ℤ a +ℤ (pos (3 * (p * p * s)) *ℤ b +ℤ (pos (3 * (p * s * s)) *ℤ c +ℤ (pos (s * s * s) *ℤ d +ℤ pos 0))) ≡
    pos p *ℤ (pos p *ℤ (pos p *ℤ a +ℤ pos s *ℤ b) +ℤ pos s *ℤ (pos p *ℤ b +ℤ pos s *ℤ c)) +ℤ pos s *ℤ (pos p *ℤ (pos p *ℤ b +ℤ pos s *ℤ c) +ℤ pos s *ℤ (pos p *ℤ c +ℤ pos s *ℤ d))
cubic p s a b c d = simp (mul-add, mul-mul) (omega (arith, ints))

pub weighted-weights_3 : (u : ℕ) (c : ℕ → ℤ) (k : ℕ) → weighted (weights_3 u) c k ≡ blossom (u ∷ u ∷ u ∷ []) c k
unfolding blossom
weighted-weights_3 u c k = cubic (denominator - u) u (c k) (c (k + 1)) (c (k + 1 + 1)) (c (k + 1 + 1 + 1))

pub blossom_same : (ss : List ℕ) (c d : ℕ → ℤ) (k : ℕ) → ((i : ℕ) → c i ≡ d i) → blossom ss c k ≡ blossom ss d k
unfolding blossom
blossom_same [] c d k e = e k
blossom_same (s ∷ ss) c d k e = let f = blossom_same ss c d k e in let g = blossom_same ss c d (k + 1) e in cc

pub weighted_net_1 : (u v : ℕ) (c : ℕ → ℕ → ℤ) → weighted_net (weights_1 u) (weights_1 v) c ≡ blossom_net (u ∷ []) (v ∷ []) c
weighted_net_1 u v c =
    weighted-weights_1 v (λ y. weighted (weights_1 u) (λ x. c x y) 0) 0 ∙
    blossom_same (v ∷ []) (λ y. weighted (weights_1 u) (λ x. c x y) 0) (λ y. blossom (u ∷ []) (λ x. c x y) 0) 0 (λ y. weighted-weights_1 u (λ x. c x y) 0)

pub weighted_net_3 : (u v : ℕ) (c : ℕ → ℕ → ℤ) → weighted_net (weights_3 u) (weights_3 v) c ≡ blossom_net (u ∷ u ∷ u ∷ []) (v ∷ v ∷ v ∷ []) c
weighted_net_3 u v c =
    weighted-weights_3 v (λ y. weighted (weights_3 u) (λ x. c x y) 0) 0 ∙
    blossom_same (v ∷ v ∷ v ∷ []) (λ y. weighted (weights_3 u) (λ x. c x y) 0) (λ y. blossom (u ∷ u ∷ u ∷ []) (λ x. c x y) 0) 0 (λ y. weighted-weights_3 u (λ x. c x y) 0)

pub length-ends : (a b l h : ℕ) → length (ends a b l h) ≡ a + b
length-ends zero zero l h = refl
length-ends zero (suc b) l h = let e = length-ends zero b l h in omega (arith, e)
length-ends (suc a) b l h = let e = length-ends a b l h in omega (arith, e)

pub ends_from_to : (a b l h m n : ℕ) → m ≤ l → l ≤ n → m ≤ h → h ≤ n → AllFromTo m n (ends a b l h)
ends_from_to zero zero l h m n p q r s = tt
ends_from_to zero (suc b) l h m n p q r s = (r, s, ends_from_to zero b l h m n p q r s)
ends_from_to (suc a) b l h m n p q r s = (p, q, ends_from_to a b l h m n p q r s)

-- a cubic blossom reads four control numbers
pub blossom_same_3 : (s t u : ℕ) (c d : ℕ → ℤ) → c 0 ≡ d 0 → c 1 ≡ d 1 → c 2 ≡ d 2 → c 3 ≡ d 3 → blossom (s ∷ t ∷ u ∷ []) c 0 ≡ blossom (s ∷ t ∷ u ∷ []) d 0
unfolding blossom
blossom_same_3 s t u c d e f g h = rw (e, f, g, h)
