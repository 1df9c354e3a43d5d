-- Laws of the diced grid.
use Rattle.std.proofs.Common.{◌≡◌, ◌∙◌, ap, refl, sym, subst, ℕ, zero, suc, ◌+◌, ◌-◌, ◌*◌, ◌^◌, ◌<◌, ◌≤◌, ◌%◌, arith, List, [], ◌∷◌, ◌++◌, length, map, get_or, append_assoc, length-append}
use Rattle.std.proofs.lemmas.List.{length-map, map-append, get_or_append_left, get_or-append-add}
use Rattle.std.proofs.lemmas.List.FromFn.{length-map-range_with_len, get_or-map-range_with_len, map-range_with_len_more}
use Rattle.std.proofs.lemmas.Nat.{pow-add, mul-le, one_shl}
use Rattle.std.proofs.Math.Nat.{mul_assoc}
use Rattle.std.specs.List.{range_with_len}
use Rattle.fixed_math.specs.declared.vec3.Vec3.{Vec3}
use Rattle.patches.specs.Lists.{Each, grid}
use Rattle.patches.specs.ListLaws.{Each-append, map-Each, grid-Each}
use Rattle.patches.specs.Boxes.{Box, IsWithin, Holds, PointsLieInBoxes}
use Rattle.patches.specs.Parts.{Part, IsPart, rect_of}
use Rattle.patches.specs.Rects.{Rect, IsAt}
use Rattle.patches.proofs.Spans.{rect_of-IsRect}
use Rattle.dice.specs.Grids.{line_count, line_at, lines, row_points, diced_points}

-- ---- the parameters of lines
pub shl_is : (n : ℕ) → n ≤ 12 → 1 * 2 ^ n % 65536 ≡ 2 ^ n
shl_is n h = one_shl n 16 (omega arith)

-- the lines of a part cut its interval into equal steps: the first is its low end, and 2 ^ p steps on is its high end
size_split : (a p : ℕ) → a ≤ 8 → p ≤ 4 → 2 ^ (12 - a) ≡ 2 ^ p * 2 ^ (12 - (a + p))
size_split a p h k = let e : 12 - a ≡ p + (12 - (a + p)) = omega arith in ap (λ n. 2 ^ n) e ∙ pow-add 2 p (12 - (a + p))

whole_split : (a : ℕ) → a ≤ 8 → 2 ^ a * 2 ^ (12 - a) ≡ 4096
whole_split a h = let e : a + (12 - a) ≡ 12 = omega arith in sym (pow-add 2 a (12 - a)) ∙ ap (λ n. 2 ^ n) e

from_low : (a i p k : ℕ) → a ≤ 8 → p ≤ 4 → line_at a i p k ≡ i * 2 ^ (12 - a) + k * 2 ^ (12 - (a + p))
from_low a i p k h g =
    let e = ap (λ n. i * n) (size_split a p h g) in
    let f = mul_assoc i (2 ^ p) (2 ^ (12 - (a + p))) in
    omega (arith, e, f)

pub line_low : (a i p k : ℕ) → a ≤ 8 → p ≤ 4 → i * 2 ^ (12 - a) ≤ line_at a i p k
line_low a i p k h g = let e = from_low a i p k h g in omega (arith, e)

pub line_high : (a i p k : ℕ) → a ≤ 8 → p ≤ 4 → k ≤ 2 ^ p → line_at a i p k ≤ (i + 1) * 2 ^ (12 - a)
line_high a i p k h g l =
    let e = from_low a i p k h g in
    let f = size_split a p h g in
    let m = mul-le k (2 ^ (12 - (a + p))) (2 ^ p) (2 ^ (12 - (a + p))) l (omega arith) in
    omega (arith, e, f, m)

pub line_in : (a i p k : ℕ) → a ≤ 8 → i < 2 ^ a → p ≤ 4 → k ≤ 2 ^ p → line_at a i p k ≤ 4096
line_in a i p k h j g l =
    let e = line_high a i p k h g l in
    let m = mul-le (i + 1) (2 ^ (12 - a)) (2 ^ a) (2 ^ (12 - a)) (omega arith) (omega arith) in
    let w = whole_split a h in
    omega (arith, e, m, w)

-- the lines lie in the part
pub lines-IsAt : (t : Part) (p q k l : ℕ) → IsPart t → p ≤ 4 → q ≤ 4 → k ≤ 2 ^ p → l ≤ 2 ^ q → IsAt (rect_of t) (line_at t.a t.i p k) (line_at t.b t.j q l)
lines-IsAt t p q k l h hp hq hk hl = record {
  from_left = line_low t.a t.i p k h.depth_u hp;
  to_right = line_high t.a t.i p k h.depth_u hp hk;
  from_bottom = line_low t.b t.j q l h.depth_v hq;
  to_top = line_high t.b t.j q l h.depth_v hq hl;
}

-- ---- one column and one row more
pub row_more : (point : ℕ → ℕ → Vec3) (v : ℕ) (f : ℕ → ℕ) (k : ℕ) → row_points point v (map f (range_with_len 0 (k + 1))) ≡ row_points point v (map f (range_with_len 0 k)) ++ point (f k) v ∷ []
row_more point v f k =
    ap (row_points point v) (map-range_with_len_more f 0 k k (omega arith)) ∙ map-append (λ u. point u v) (map f (range_with_len 0 k)) (f k ∷ [])

pub grid-append : (point : ℕ → ℕ → Vec3) (us vs ws : List ℕ) → grid point us (vs ++ ws) ≡ grid point us vs ++ grid point us ws
grid-append point us [] ws = refl
grid-append point us (v ∷ vs) ws =
    ap (λ ps. row_points point v us ++ ps) (grid-append point us vs ws) ∙ sym (append_assoc (row_points point v us) (grid point us vs) (grid point us ws))

append_none : (xs : List Vec3) → xs ++ [] ≡ xs
append_none [] = refl
append_none (x ∷ xs) = ap (λ ys. x ∷ ys) (append_none xs)

pub grid_more : (point : ℕ → ℕ → Vec3) (us : List ℕ) (f : ℕ → ℕ) (l : ℕ) → grid point us (map f (range_with_len 0 (l + 1))) ≡ grid point us (map f (range_with_len 0 l)) ++ row_points point (f l) us
grid_more point us f l =
    ap (grid point us) (map-range_with_len_more f 0 l l (omega arith)) ∙ grid-append point us (map f (range_with_len 0 l)) (f l ∷ [])
    ∙ ap (λ ps. grid point us (map f (range_with_len 0 l)) ++ ps) (append_none (row_points point (f l) us))

-- what the loops keep
pub row_step : (point : ℕ → ℕ → Vec3) (v : ℕ) (f : ℕ → ℕ) (k : ℕ) (old items new : List Vec3) (x : Vec3) → new ≡ items ++ x ∷ [] → x ≡ point (f k) v →
    items ≡ old ++ row_points point v (map f (range_with_len 0 k)) → new ≡ old ++ row_points point v (map f (range_with_len 0 (k + 1)))
row_step point v f k old items new x e p h =
    e ∙ ap (λ y. items ++ y ∷ []) p ∙ ap (λ ps. ps ++ point (f k) v ∷ []) h
    ∙ append_assoc old (row_points point v (map f (range_with_len 0 k))) (point (f k) v ∷ []) ∙ ap (λ ps. old ++ ps) (sym (row_more point v f k))

pub grid_step : (point : ℕ → ℕ → Vec3) (us : List ℕ) (f : ℕ → ℕ) (l : ℕ) (items new : List Vec3) (v : ℕ) → new ≡ items ++ row_points point v us → v ≡ f l →
    items ≡ grid point us (map f (range_with_len 0 l)) → new ≡ grid point us (map f (range_with_len 0 (l + 1)))
grid_step point us f l items new v e p h =
    e ∙ ap (λ y. items ++ row_points point y us) p ∙ ap (λ ps. ps ++ row_points point (f l) us) h ∙ sym (grid_more point us f l)

pub Each-pushed : (ps qs : List Vec3) (p : Vec3) → qs ≡ ps ++ p ∷ [] → Each (IsWithin (2 ^ 30)) ps → IsWithin (2 ^ 30) p → Each (IsWithin (2 ^ 30)) qs
Each-pushed ps qs p s e h = subst (Each (IsWithin (2 ^ 30))) (sym s) (Each-append (IsWithin (2 ^ 30)) ps (p ∷ []) e (h, tt))

-- ---- the list by columns and rows
pub length-grid : (point : ℕ → ℕ → Vec3) (us vs : List ℕ) → length (grid point us vs) ≡ length us * length vs
length-grid point us [] = omega arith
length-grid point us (v ∷ vs) =
    let e = length-append (row_points point v us) (grid point us vs) in
    let f = length-map us (λ u. point u v) in
    let g = length-grid point us vs in
    omega (arith, e, f, g)

pub length-diced_points : (point : ℕ → ℕ → Vec3) (t : Part) (p q : ℕ) → length (diced_points point t p q) ≡ line_count p * line_count q
length-diced_points point t p q =
    length-grid point (lines t.a t.i p) (lines t.b t.j q)
    ∙ ap (λ n. n * length (lines t.b t.j q)) (length-map-range_with_len (line_at t.a t.i p) 0 (line_count p))
    ∙ ap (λ n. line_count p * n) (length-map-range_with_len (line_at t.b t.j q) 0 (line_count q))

-- the point in column k and row l
grid_at : (point : ℕ → ℕ → Vec3) (us vs : List ℕ) (k l n : ℕ) (d : Vec3) (e : ℕ) → length us ≡ n → k < n → l < length vs → get_or (grid point us vs) (n * l + k) d ≡ point (get_or us k e) (get_or vs l e)
grid_at point us [] k l n d e w hk hl = absurd (omega arith)
grid_at point us (v ∷ vs) k zero n d e w hk hl =
    let here : n * 0 + k ≡ k = omega arith in
    ap (λ i. get_or (row_points point v us ++ grid point us vs) i d) here
    ∙ get_or_append_left (row_points point v us) (grid point us vs) d k (let f = length-map us (λ u. point u v) in omega (arith, f, w))
    ∙ get_or-map_at (λ u. point u v) us k d e (omega (arith, w))
  where
    get_or-map_at : (f : ℕ → Vec3) (xs : List ℕ) (i : ℕ) (d : Vec3) (e : ℕ) → i < length xs → get_or (map f xs) i d ≡ f (get_or xs i e)
    get_or-map_at f [] i d e h = absurd (omega arith)
    get_or-map_at f (x ∷ xs) zero d e h = refl
    get_or-map_at f (x ∷ xs) (suc i) d e h = get_or-map_at f xs i d e (omega arith)
grid_at point us (v ∷ vs) k (suc l) n d e w hk hl =
    let width : length (row_points point v us) ≡ n = length-map us (λ u. point u v) ∙ w in
    let there : n * suc l + k ≡ length (row_points point v us) + (n * l + k) = omega (arith, width) in
    ap (λ i. get_or (row_points point v us ++ grid point us vs) i d) there
    ∙ get_or-append-add (row_points point v us) (grid point us vs) (n * l + k) d
    ∙ grid_at point us vs k l n d e w hk (omega arith)

pub diced_at : (point : ℕ → ℕ → Vec3) (t : Part) (p q k l : ℕ) (d : Vec3) → k < line_count p → l < line_count q →
    get_or (diced_points point t p q) (line_count p * l + k) d ≡ point (line_at t.a t.i p k) (line_at t.b t.j q l)
diced_at point t p q k l d hk hl =
    let wide = length-map-range_with_len (line_at t.a t.i p) 0 (line_count p) in
    let high = length-map-range_with_len (line_at t.b t.j q) 0 (line_count q) in
    grid_at point (lines t.a t.i p) (lines t.b t.j q) k l (line_count p) d 0 wide hk (omega (arith, high))
    ∙ ap (λ u. point u (get_or (lines t.b t.j q) l 0)) (get_or-map-range_with_len (line_at t.a t.i p) 0 (line_count p) k k 0 hk (omega arith))
    ∙ ap (λ v. point (line_at t.a t.i p k) v) (get_or-map-range_with_len (line_at t.b t.j q) 0 (line_count q) l l 0 hl (omega arith))

-- ---- the grid lies in the box of its part
Each-range : (P : ℕ → Type 0) (a n : ℕ) → ((k : ℕ) → a ≤ k → k < a + n → P k) → Each P (range_with_len a n)
Each-range P a zero f = tt
Each-range P a (suc n) f = (f a (omega arith) (omega arith), Each-range P (a + 1) n (λ k h l. f k (omega arith) (omega arith)))

pub diced_points-Each : (P : Vec3 → Type 0) (point : ℕ → ℕ → Vec3) (t : Part) (p q : ℕ) → ((k l : ℕ) → k ≤ 2 ^ p → l ≤ 2 ^ q → P (point (line_at t.a t.i p k) (line_at t.b t.j q l))) → Each P (diced_points point t p q)
diced_points-Each P point t p q f =
    grid-Each P point (lines t.a t.i p) (lines t.b t.j q)
    (map-Each (λ v. Each (λ u. P (point u v)) (lines t.a t.i p)) (line_at t.b t.j q) (range_with_len 0 (line_count q))
    (Each-range (λ l. Each (λ u. P (point u (line_at t.b t.j q l))) (lines t.a t.i p)) 0 (line_count q)
    (λ l _ hl. map-Each (λ u. P (point u (line_at t.b t.j q l))) (line_at t.a t.i p) (range_with_len 0 (line_count p))
    (Each-range (λ k. P (point (line_at t.a t.i p k) (line_at t.b t.j q l))) 0 (line_count p)
    (λ k _ hk. f k l (omega (arith, hk)) (omega (arith, hl)))))))

pub diced_points-in_box : {S : Type 0} (point : S → ℕ → ℕ → Vec3) (box : S → Rect → Box) → PointsLieInBoxes point box → (s : S) (t : Part) (p q : ℕ) → IsPart t → p ≤ 4 → q ≤ 4 →
    Each (Holds (box s (rect_of t))) (diced_points (point s) t p q)
diced_points-in_box point box law s t p q h hp hq =
    diced_points-Each (Holds (box s (rect_of t))) (point s) t p q
    (λ k l hk hl. law s (rect_of t) (line_at t.a t.i p k) (line_at t.b t.j q l) (rect_of-IsRect t h) (lines-IsAt t p q k l h hp hq hk hl))
