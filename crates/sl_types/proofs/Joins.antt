-- Extents as far as they matter: those of parts are enough.
use Rattle.std.proofs.Common.{◌≡◌, ◌≤◌, ◌<◌, ◌+◌, ℕ, zero, suc, min, max, nat_lt, ◌&&◌, List, [], ◌∷◌, map, get_or, refl, sym, ap, ap₂, ◌∙◌, arith, inl, inr, ◌⊎◌}
use Rattle.std.proofs.lemmas.Bool.{cases_lt, lt-ltb, le-ltb}
use Rattle.sl_types.specs.Extents.{Extent, nowhere, absent, under, beside}
use Rattle.sl_types.specs.Sizes.{cut, fits}

abbrev make : ℕ → ℕ → Extent
make a b = record { nodes = a; depth = b }

pair : (a b c d : ℕ) → a ≡ c → b ≡ d → make a b ≡ make c d
pair a b c d p q = ap₂ make p q

-- a cut of parts goes into the cut of the whole
cut_left : (a b k : ℕ) → min (max (min a k) b) k ≡ min (max a b) k
cut_left a b k = omega arith

cut_right : (a b k : ℕ) → min (max a (min b k)) k ≡ min (max a b) k
cut_right a b k = omega arith

cut_sum : (a b k : ℕ) → min (min a k + min b k) k ≡ min (a + b) k
cut_sum a b k = omega arith

cut_first : (a b k : ℕ) → min (min a k + b) k ≡ min (a + b) k
cut_first a b k = omega arith

max_grouped : (a b c : ℕ) → max (max a b) c ≡ max a (max b c)
max_grouped a b c = omega arith

sum_grouped : (a b c : ℕ) → a + b + c ≡ a + (b + c)
sum_grouped a b c = omega arith

max_none : (a : ℕ) → max a 0 ≡ a
max_none a = omega arith

sum_none : (a : ℕ) → a + 0 ≡ a
sum_none a = omega arith

pub over_is : (x y : Extent) → x ≡ cut y → make (1 + min x.nodes 65536) (1 + min x.depth 256) ≡ cut (under y)
over_is x y p =
    ap (λ z. make (1 + min z.nodes 65536) (1 + min z.depth 256)) p
    ∙ pair (1 + min (min y.nodes 65537) 65536) (1 + min (min y.depth 257) 256) (min (1 + y.nodes) 65537) (min (1 + y.depth) 257) (omega arith) (omega arith)

pub with_is : (x y u v : Extent) → x ≡ cut u → y ≡ cut v → make (min (x.nodes + y.nodes) 65537) (min (max x.depth y.depth) 257) ≡ cut (beside u v)
with_is x y u v p q =
    ap₂ (λ z w. make (min (z.nodes + w.nodes) 65537) (min (max z.depth w.depth) 257)) p q
    ∙ pair (min (min u.nodes 65537 + min v.nodes 65537) 65537) (min (max (min u.depth 257) (min v.depth 257)) 257)
    (min (u.nodes + v.nodes) 65537) (min (max u.depth v.depth) 257) (cut_sum u.nodes v.nodes 65537)
    (cut_left u.depth (min v.depth 257) 257 ∙ cut_right u.depth v.depth 257)

-- what is cut is cut no further
pub cut_twice : (x y : Extent) → x ≡ cut y → x ≡ cut x
cut_twice x y p =
    p ∙ pair (min y.nodes 65537) (min y.depth 257) (min (min y.nodes 65537) 65537) (min (min y.depth 257) 257) (omega arith) (omega arith) ∙ ap cut (sym p)

-- parts one after another
pub begun : (x : Extent) → cut (beside nowhere x) ≡ cut x
begun x = pair (min (0 + x.nodes) 65537) (min (max 0 x.depth) 257) (min x.nodes 65537) (min x.depth 257) (omega arith) (omega arith)

pub ended : (x : Extent) → cut (beside x nowhere) ≡ cut x
ended x = pair (min (x.nodes + 0) 65537) (min (max x.depth 0) 257) (min x.nodes 65537) (min x.depth 257) (omega arith) (omega arith)

pub joined : (w x y z : Extent) → w ≡ cut (beside x y) → cut (beside w z) ≡ cut (beside x (beside y z))
joined w x y z p =
    ap (λ v. cut (beside v z)) p
    ∙ pair (min (min (x.nodes + y.nodes) 65537 + z.nodes) 65537) (min (max (min (max x.depth y.depth) 257) z.depth) 257)
    (min (x.nodes + (y.nodes + z.nodes)) 65537) (min (max x.depth (max y.depth z.depth)) 257)
    (cut_first (x.nodes + y.nodes) z.nodes 65537 ∙ ap (λ n. min n 65537) (sum_grouped x.nodes y.nodes z.nodes))
    (cut_left (max x.depth y.depth) z.depth 257 ∙ ap (λ n. min n 257) (max_grouped x.depth y.depth z.depth))

-- an operator over two operands
pub operands_are : (x y : Extent) → cut (under (beside x y)) ≡ cut (under (beside x (beside y nowhere)))
operands_are x y =
    pair (min (1 + (x.nodes + y.nodes)) 65537) (min (1 + max x.depth y.depth) 257)
    (min (1 + (x.nodes + (y.nodes + 0))) 65537) (min (1 + max x.depth (max y.depth 0)) 257)
    (ap (λ n. min (1 + (x.nodes + n)) 65537) (sym (sum_none y.nodes))) (ap (λ n. min (1 + max x.depth n) 257) (sym (max_none y.depth)))

pub at_cut : (xs : List Extent) (k : ℕ) → get_or (map cut xs) k absent ≡ cut (get_or xs k absent)
at_cut [] k = refl
at_cut (x ∷ xs) zero = refl
at_cut (x ∷ xs) (suc k) = at_cut xs k

below_by : (n m : ℕ) → (n < m) ⊎ (m ≤ n) → nat_lt (min n m) m ≡ nat_lt n m
below_by n m (inl low) = lt-ltb (min n m) m (omega (arith, low)) ∙ sym (lt-ltb n m low)
below_by n m (inr high) = le-ltb (min n m) m (omega (arith, high)) ∙ sym (le-ltb n m high)

below : (n m : ℕ) → nat_lt (min n m) m ≡ nat_lt n m
below n m = below_by n m (cases_lt n m)

-- the limits are asked of what is cut
pub fits_cut : (x : Extent) → fits (cut x) ≡ fits x
fits_cut x = ap₂ (λ a b. a && b) (below x.nodes 65537) (below x.depth 257)
