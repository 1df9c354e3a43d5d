-- Laws of blossoms.
use Rattle.std.proofs.Common.{◌≡◌, ℕ, zero, suc, ◌+◌, ◌≤◌, ap, arith, subst, refl, sym, ◌∙◌, List, [], ◌∷◌, ◌++◌, length}
use Rattle.std.specs.Prelude.{ℤ, ◌≤ℤ◌, replicate}
use Rattle.fixed_math.specs.Blossom.{mix, denominator, blossom, ends, AllFromTo}
use Rattle.fixed_math.proofs.Mixes.{mix_swap, mix_mix, mix_low, mix_high}

-- the blossom of mixed control numbers is the mix of the blossoms
pub blossom_mix : (ss : List ℕ) (u : ℕ) (c : ℕ → ℤ) (k : ℕ) → blossom ss (λ i. mix u (c i) (c (i + 1))) k ≡ mix u (blossom ss c k) (blossom ss c (k + 1))
unfolding blossom
blossom_mix [] u c k = refl
blossom_mix (s ∷ ss) u c k =
    let e = blossom_mix ss u c k in
    let f = blossom_mix ss u c (k + 1) in
    rw (e, f) (mix_swap s u (blossom ss c k) (blossom ss c (k + 1)) (blossom ss c (k + 1 + 1)))

-- the same, for two lists of control numbers
pub blossom_of_mix : (ss : List ℕ) (u : ℕ) (c d : ℕ → ℤ) (k : ℕ) → blossom ss (λ i. mix u (c i) (d i)) k ≡ mix u (blossom ss c k) (blossom ss d k)
unfolding blossom
blossom_of_mix [] u c d k = refl
blossom_of_mix (s ∷ ss) u c d k =
    let e = blossom_of_mix ss u c d k in
    let f = blossom_of_mix ss u c d (k + 1) in
    rw (e, f) (mix_mix s u (blossom ss c k) (blossom ss d k) (blossom ss c (k + 1)) (blossom ss d (k + 1)))

-- an argument may move past others
pub blossom_move : (a l h : ℕ) (rest : List ℕ) (c : ℕ → ℤ) (k : ℕ) → blossom (h ∷ (replicate a l ++ rest)) c k ≡ blossom (replicate a l ++ (h ∷ rest)) c k
unfolding blossom
blossom_move zero l h rest c k = refl
blossom_move (suc a) l h rest c k =
    let ss = replicate a l ++ rest in
    mix_swap h l (blossom ss c k) (blossom ss c (k + 1)) (blossom ss c (k + 1 + 1)) ∙
    (let e = blossom_move a l h rest c k in
    let f = blossom_move a l h rest c (k + 1) in
    ap (λ x. mix l x (mix h (blossom ss c (k + 1)) (blossom ss c (k + 1 + 1)))) e ∙ ap (mix l (blossom (replicate a l ++ (h ∷ rest)) c k)) f)

-- Between: what bounds a blossom at the ends of an interval bounds it at all arguments of the interval.
pub blossom_low : (us : List ℕ) (l h : ℕ) (m : ℤ) (c : ℕ → ℤ) (k : ℕ) → h ≤ denominator → AllFromTo l h us →
    ((a b : ℕ) → a + b ≡ length us → m ≤ℤ blossom (ends a b l h) c k) → m ≤ℤ blossom us c k
unfolding blossom
blossom_low [] l h m c k q w f = f 0 0 refl
blossom_low (u ∷ us) l h m c k q w f =
    let c' : ℕ → ℤ = λ i. mix u (c i) (c (i + 1)) in
    let g : (a b : ℕ) → a + b ≡ length us → m ≤ℤ blossom (ends a b l h) c' k =
    λ a b e. rw (blossom_mix (ends a b l h) u c k)
    (mix_low l u h (blossom (ends a b l h) c k) (blossom (ends a b l h) c (k + 1)) m w.0 w.1 q
    (f (suc a) b (omega (arith, e)))
    (subst (λ z. m ≤ℤ z) (sym (blossom_move a l h (replicate b h) c k)) (f a (suc b) (omega (arith, e))))) in
    rw (blossom_mix us u c k) at (blossom_low us l h m c' k q w.2 g)

pub blossom_high : (us : List ℕ) (l h : ℕ) (m : ℤ) (c : ℕ → ℤ) (k : ℕ) → h ≤ denominator → AllFromTo l h us →
    ((a b : ℕ) → a + b ≡ length us → blossom (ends a b l h) c k ≤ℤ m) → blossom us c k ≤ℤ m
unfolding blossom
blossom_high [] l h m c k q w f = f 0 0 refl
blossom_high (u ∷ us) l h m c k q w f =
    let c' : ℕ → ℤ = λ i. mix u (c i) (c (i + 1)) in
    let g : (a b : ℕ) → a + b ≡ length us → blossom (ends a b l h) c' k ≤ℤ m =
    λ a b e. rw (blossom_mix (ends a b l h) u c k)
    (mix_high l u h (blossom (ends a b l h) c k) (blossom (ends a b l h) c (k + 1)) m w.0 w.1 q
    (f (suc a) b (omega (arith, e)))
    (subst (λ z. z ≤ℤ m) (sym (blossom_move a l h (replicate b h) c k)) (f a (suc b) (omega (arith, e))))) in
    rw (blossom_mix us u c k) at (blossom_high us l h m c' k q w.2 g)

-- rows and columns may be taken in either order
pub blossom_exchange : (us vs : List ℕ) (c : ℕ → ℕ → ℤ) (i j : ℕ) → blossom vs (λ y. blossom us (λ x. c x y) i) j ≡ blossom us (λ x. blossom vs (λ y. c x y) j) i
unfolding blossom
blossom_exchange us [] c i j = refl
blossom_exchange us (v ∷ vs) c i j =
    let e = blossom_exchange us vs c i j in
    let f = blossom_exchange us vs c i (j + 1) in
    rw (e, f) (sym (blossom_of_mix us v (λ x. blossom vs (λ y. c x y) j) (λ x. blossom vs (λ y. c x y) (j + 1)) i))
