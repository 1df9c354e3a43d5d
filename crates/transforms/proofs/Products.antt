-- Products with the identity and of translations.
use Rattle.std.proofs.Common.{◌≡◌, ◌∙◌, refl, sym, ap, subst, ◌≤◌, ◌^◌, ℤ, pos, neg_ℤ, ◌+ℤ◌, ◌*ℤ◌, Bool, true, false, arith, Ok, Err, unsigned_abs}
use Rattle.std.specs.Prelude.{◌&&◌, cond, IfOk}
use Rattle.std.proofs.lemmas.Int.{ints}
use Rattle.std.proofs.lemmas.Bool.Decides.{nat_tests}
use Rattle.fixed_math.specs.Whole.{floor_by}
use Rattle.fixed_math.specs.declared.vec3.Vec3.{Vec3}
use Rattle.fixed_math.proofs.Floor.{floor_by-mul}
use Rattle.transforms.specs.declared.matrix.Row.{Row}
use Rattle.transforms.specs.declared.matrix.Matrix.{Matrix}
use Rattle.transforms.specs.Matrix.{dot, is_matrix, is_entry, row_product, shift_product, product, widened}
use Rattle.transforms.specs.Map.{Map, composed, before_of, identity, translation, shifted, row_of, no_shift, differ, diagonal}
use Rattle.transforms.specs.declared.fault.FormFault.TheVariants.{G2}
use Rattle.transforms.specs.Laws.{ChangesNothing, Adds}

-- a multiple of 2 ^ 24 loses nothing
pub whole_entry : (z q : ℤ) → z ≡ q *ℤ pos 16777216 → floor_by z 16777216 ≡ q
whole_entry z q e = ap (λ n. floor_by n 16777216) e ∙ floor_by-mul q 16777216 (omega arith)

first_x : (a b c : ℤ) → floor_by (dot a b c (pos 16777216) (pos 0) (pos 0)) 16777216 ≡ a
first_x a b c = whole_entry (dot a b c (pos 16777216) (pos 0) (pos 0)) a (omega (arith, ints))

first_y : (a b c : ℤ) → floor_by (dot a b c (pos 0) (pos 16777216) (pos 0)) 16777216 ≡ b
first_y a b c = whole_entry (dot a b c (pos 0) (pos 16777216) (pos 0)) b (omega (arith, ints))

first_z : (a b c : ℤ) → floor_by (dot a b c (pos 0) (pos 0) (pos 16777216)) 16777216 ≡ c
first_z a b c = whole_entry (dot a b c (pos 0) (pos 0) (pos 16777216)) c (omega (arith, ints))

second_x : (a b c : ℤ) → floor_by (dot (pos 16777216) (pos 0) (pos 0) a b c) 16777216 ≡ a
second_x a b c = whole_entry (dot (pos 16777216) (pos 0) (pos 0) a b c) a (omega (arith, ints))

second_y : (a b c : ℤ) → floor_by (dot (pos 0) (pos 16777216) (pos 0) a b c) 16777216 ≡ b
second_y a b c = whole_entry (dot (pos 0) (pos 16777216) (pos 0) a b c) b (omega (arith, ints))

second_z : (a b c : ℤ) → floor_by (dot (pos 0) (pos 0) (pos 16777216) a b c) 16777216 ≡ c
second_z a b c = whole_entry (dot (pos 0) (pos 0) (pos 16777216) a b c) c (omega (arith, ints))

nothing : (a b c : ℤ) → floor_by (dot (pos 0) (pos 0) (pos 0) a b c) 16777216 ≡ pos 0
nothing a b c = whole_entry (dot (pos 0) (pos 0) (pos 0) a b c) (pos 0) (omega (arith, ints))

rows : (a b : Row) → a.x ≡ b.x → a.y ≡ b.y → a.z ≡ b.z → a ≡ b
rows a b e f g = ap (λ x. row_of x a.y a.z) e ∙ ap (λ y. row_of b.x y a.z) f ∙ ap (λ z. row_of b.x b.y z) g

matrices : (a b : Matrix) → a.x ≡ b.x → a.y ≡ b.y → a.z ≡ b.z → a.shift ≡ b.shift → a ≡ b
matrices a b e f g h =
    let from : Row → Row → Row → Row → Matrix = λ x y z t. record { x = x; y = y; z = z; shift = t } in
    ap (λ x. from x a.y a.z a.shift) e ∙ ap (λ y. from b.x y a.z a.shift) f ∙ ap (λ z. from b.x b.y z a.shift) g ∙ ap (λ t. from b.x b.y b.z t) h

zero-right : (z : ℤ) → z +ℤ pos 0 ≡ z
zero-right z = omega (arith, ints)

zero-left : (z : ℤ) → pos 0 +ℤ z ≡ z
zero-left z = omega (arith, ints)

-- a row times a matrix whose linear part is 1
row_product-one : (a t : Row) → row_product a (record { x = row_of (pos 16777216) (pos 0) (pos 0); y = row_of (pos 0) (pos 16777216) (pos 0); z = row_of (pos 0) (pos 0) (pos 16777216); shift = t }) ≡ a
unfolding row_product
row_product-one a t = rows _ a (first_x a.x a.y a.z) (first_y a.x a.y a.z) (first_z a.x a.y a.z)

shift_product-one : (a t : Row) → shift_product a (record { x = row_of (pos 16777216) (pos 0) (pos 0); y = row_of (pos 0) (pos 16777216) (pos 0); z = row_of (pos 0) (pos 0) (pos 16777216); shift = t }) ≡ row_of (a.x +ℤ t.x) (a.y +ℤ t.y) (a.z +ℤ t.z)
unfolding shift_product
shift_product-one a t =
    rows _ (row_of (a.x +ℤ t.x) (a.y +ℤ t.y) (a.z +ℤ t.z))
    (ap (λ n. n +ℤ t.x) (first_x a.x a.y a.z)) (ap (λ n. n +ℤ t.y) (first_y a.x a.y a.z)) (ap (λ n. n +ℤ t.z) (first_z a.x a.y a.z))

product-one : (a : Matrix) → product a (shifted (pos 0) (pos 0) (pos 0)) ≡ a
product-one a =
    matrices _ a (row_product-one a.x no_shift) (row_product-one a.y no_shift) (row_product-one a.z no_shift)
    (shift_product-one a.shift no_shift ∙ rows _ a.shift (zero-right a.shift.x) (zero-right a.shift.y) (zero-right a.shift.z))

one-product : (b : Matrix) → product (shifted (pos 0) (pos 0) (pos 0)) b ≡ b
unfolding row_product shift_product
one-product b =
    matrices _ b
    (rows _ b.x (second_x b.x.x b.y.x b.z.x) (second_x b.x.y b.y.y b.z.y) (second_x b.x.z b.y.z b.z.z))
    (rows _ b.y (second_y b.x.x b.y.x b.z.x) (second_y b.x.y b.y.y b.z.y) (second_y b.x.z b.y.z b.z.z))
    (rows _ b.z (second_z b.x.x b.y.x b.z.x) (second_z b.x.y b.y.y b.z.y) (second_z b.x.z b.y.z b.z.z))
    (rows _ b.shift (ap (λ n. n +ℤ b.shift.x) (nothing b.x.x b.y.x b.z.x) ∙ zero-left b.shift.x)
    (ap (λ n. n +ℤ b.shift.y) (nothing b.x.y b.y.y b.z.y) ∙ zero-left b.shift.y)
    (ap (λ n. n +ℤ b.shift.z) (nothing b.x.z b.y.z b.z.z) ∙ zero-left b.shift.z))

maps : (m n : Map) → m.there ≡ n.there → m.back ≡ n.back → m.mirrored ≡ n.mirrored → m ≡ n
maps m n e f g =
    let from : Matrix → Matrix → Bool → Map = λ t b k. record { there = t; back = b; mirrored = k } in
    ap (λ t. from t m.back m.mirrored) e ∙ ap (λ b. from n.there b m.mirrored) f ∙ ap (λ k. from n.there n.back k) g

differ-false : (b : Bool) → differ b false ≡ b
differ-false true = refl
differ-false false = refl

composed-identity : (m : Map) → composed m identity ≡ m
composed-identity m = maps _ m (one-product m.there) (product-one m.back) refl

identity-composed : (m : Map) → composed identity m ≡ m
identity-composed m = maps _ m (product-one m.there) (one-product m.back) (differ-false m.mirrored)

-- a product in range is no fault
before_is : (m n f : Map) → composed m f ≡ n → is_matrix n.there ≡ true → is_matrix n.back ≡ true → before_of m f ≡ Ok n
before_is m n f e h k =
    let P : Map → Type 0 = λ c. cond (is_matrix c.there && is_matrix c.back) (Ok c) (Err G2) ≡ Ok n in
    subst P (sym e) (kept (is_matrix n.there) (is_matrix n.back) h k)
  where
    kept : (a b : Bool) → a ≡ true → b ≡ true → cond (a && b) (Ok n) (Err G2) ≡ Ok n
    kept true true h k = refl
    kept true false h k = cc
    kept false b h k = cc

pub before-identity : (m : Map) → is_matrix m.there ≡ true → is_matrix m.back ≡ true → before_of m identity ≡ Ok m
before-identity m h k = before_is m m identity (composed-identity m) h k

pub identity-before : (m : Map) → is_matrix m.there ≡ true → is_matrix m.back ≡ true → before_of identity m ≡ Ok m
identity-before m h k = before_is identity m m (identity-composed m) h k

pub identity_changes_nothing : ChangesNothing identity
identity_changes_nothing p =
    let x = first_x p.x p.y p.z in
    let y = first_y p.x p.y p.z in
    let z = first_z p.x p.y p.z in
    (rw (plus_nothing (dot p.x p.y p.z (pos 16777216) (pos 0) (pos 0)), plus_nothing (dot p.x p.y p.z (pos 0) (pos 16777216) (pos 0)), plus_nothing (dot p.x p.y p.z (pos 0) (pos 0) (pos 16777216)), x, y, z), rw (x, y, z), rw (x, y, z))
  where
    plus_nothing : (n : ℤ) → n +ℤ pos 0 *ℤ pos 65536 ≡ n
    plus_nothing n = omega (arith, ints)

-- translations
shifts : (e d : ℤ) → widened e +ℤ widened d ≡ widened (e +ℤ d)
shifts e d = omega (arith, ints)

shifts_back : (e d : ℤ) → widened (neg_ℤ d) +ℤ widened (neg_ℤ e) ≡ widened (neg_ℤ (e +ℤ d))
shifts_back e d = omega (arith, ints)

product-shifted : (a b c x y z : ℤ) → product (shifted a b c) (shifted x y z) ≡ diagonal (pos 16777216) (pos 16777216) (pos 16777216) (row_of (widened a +ℤ widened x) (widened b +ℤ widened y) (widened c +ℤ widened z))
product-shifted a b c x y z =
    let t = row_of (widened x) (widened y) (widened z) in
    matrices _ (diagonal (pos 16777216) (pos 16777216) (pos 16777216) (row_of (widened a +ℤ widened x) (widened b +ℤ widened y) (widened c +ℤ widened z)))
    (row_product-one (row_of (pos 16777216) (pos 0) (pos 0)) t) (row_product-one (row_of (pos 0) (pos 16777216) (pos 0)) t) (row_product-one (row_of (pos 0) (pos 0) (pos 16777216)) t)
    (shift_product-one (row_of (widened a) (widened b) (widened c)) t)

diagonals : (s t : Row) → s ≡ t → diagonal (pos 16777216) (pos 16777216) (pos 16777216) s ≡ diagonal (pos 16777216) (pos 16777216) (pos 16777216) t
diagonals s t e = ap (λ r. diagonal (pos 16777216) (pos 16777216) (pos 16777216) r) e

composed-translations : (d e : Vec3) → composed (translation d.x d.y d.z) (translation e.x e.y e.z) ≡ translation (e.x +ℤ d.x) (e.y +ℤ d.y) (e.z +ℤ d.z)
composed-translations d e = maps _ (translation (e.x +ℤ d.x) (e.y +ℤ d.y) (e.z +ℤ d.z))
    (product-shifted e.x e.y e.z d.x d.y d.z ∙ diagonals _ _ (rows _ _ (shifts e.x d.x) (shifts e.y d.y) (shifts e.z d.z)))
    (product-shifted (neg_ℤ d.x) (neg_ℤ d.y) (neg_ℤ d.z) (neg_ℤ e.x) (neg_ℤ e.y) (neg_ℤ e.z) ∙ diagonals _ _ (rows _ _ (shifts_back e.x d.x) (shifts_back e.y d.y) (shifts_back e.z d.z)))
    refl

entry_small : (e d : ℤ) → unsigned_abs e ≤ 2147483647 → unsigned_abs d ≤ 2147483647 → is_entry (widened (e +ℤ d)) ≡ true
entry_small e d h k = let s : unsigned_abs (widened (e +ℤ d)) ≤ 2 ^ 47 = omega (arith, ints) in grind (arith, nat_tests)

entry_small_back : (e d : ℤ) → unsigned_abs e ≤ 2147483647 → unsigned_abs d ≤ 2147483647 → is_entry (widened (neg_ℤ (e +ℤ d))) ≡ true
entry_small_back e d h k = let s : unsigned_abs (widened (neg_ℤ (e +ℤ d))) ≤ 2 ^ 47 = omega (arith, ints) in grind (arith, nat_tests)

shifted_fits : (a b c : ℤ) → is_entry (widened a) ≡ true → is_entry (widened b) ≡ true → is_entry (widened c) ≡ true → is_matrix (shifted a b c) ≡ true
shifted_fits a b c h k l = all (is_entry (widened a)) (is_entry (widened b)) (is_entry (widened c)) h k l
  where
    all : (p q r : Bool) → p ≡ true → q ≡ true → r ≡ true → (p && q && r) ≡ true
    all true true true h k l = refl
    all true true false h k l = l
    all true false r h k l = cc
    all false q r h k l = cc

pub translations_add : (d : Vec3) → unsigned_abs d.x ≤ 2147483647 → unsigned_abs d.y ≤ 2147483647 → unsigned_abs d.z ≤ 2147483647 → Adds d (translation d.x d.y d.z)
translations_add d hx hy hz e kx ky kz =
    before_is (translation d.x d.y d.z) (translation (e.x +ℤ d.x) (e.y +ℤ d.y) (e.z +ℤ d.z)) (translation e.x e.y e.z) (composed-translations d e)
    (shifted_fits (e.x +ℤ d.x) (e.y +ℤ d.y) (e.z +ℤ d.z) (entry_small e.x d.x kx hx) (entry_small e.y d.y ky hy) (entry_small e.z d.z kz hz))
    (shifted_fits (neg_ℤ (e.x +ℤ d.x)) (neg_ℤ (e.y +ℤ d.y)) (neg_ℤ (e.z +ℤ d.z)) (entry_small_back e.x d.x kx hx) (entry_small_back e.y d.y ky hy) (entry_small_back e.z d.z kz hz))

pub mirrored_once : (m f : Map) → IfOk (before_of m f) (λ p. p.mirrored ≡ differ f.mirrored m.mirrored)
mirrored_once m f = kept (is_matrix (composed m f).there && is_matrix (composed m f).back) (composed m f)
  where
    kept : (b : Bool) (c : Map) → IfOk (cond b (Ok c) (Err G2)) (λ p. p.mirrored ≡ c.mirrored)
    kept true c = refl
    kept false c = tt
