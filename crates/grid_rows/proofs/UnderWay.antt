-- Rows under way: what is written in them, and what is appended of them.
use Rattle.std.proofs.Common.{◌≡◌, ℕ, ◌+◌, ◌<◌, ◌≤◌, ℤ, pos, List, ◌++◌, length, get_or, take, set, map, replicate, refl, sym, ap, ◌∙◌, subst, arith, ⊎_elim, to_z, of_z}
use Rattle.std.specs.Int.{w64}
use Rattle.std.proofs.lemmas.Bool.{cases_lt, cases_eq}
use Rattle.std.proofs.lemmas.Int.{ints, to_z-of_z}
use Rattle.std.proofs.lemmas.List.{get_or-set_same, get_or-set_other, length-set, length-replicate, get_or-replicate}
use Rattle.std.proofs.lemmas.Nat.{div-add-mod'}
use Rattle.fixed_math.specs.Fixed.{IsRaw}
use Rattle.fixed_math.specs.declared.vec3.Axis.{Axis}
use Rattle.fixed_math.specs.declared.vec3.Axis.TheVariants as axes
use Rattle.fixed_math.specs.declared.vec3.Vec3.{Vec3}
use Rattle.fixed_math.specs.Axes.{part_of, origin}
use Rattle.sl_ast.specs.declared.typed.Value.TheVariants.{Triple}
use Rattle.grid_variables.specs.Points.{Leaf}
use Rattle.grid_variables.specs.Places.{point_count, over}
use Rattle.grid_variables.proofs.Over.{over_long, over_all, over_map}
use Rattle.place_rows.specs.Layout.{row_length}
use Rattle.place_rows.proofs.Sets.{all_default}
use Rattle.grid_rows.specs.Rows.{row_of, triple_rows, value_rows, AreRaws, IsRoom, BeginsWith}
use Rattle.grid_rows.proofs.Raws.{raws_none}
use Rattle.grid_rows.proofs.Filled.{row_by, apart}

-- the first k of some numbers are written in the row of n
pub record IsWritten (xs : List ℤ) (n k : ℕ) (row : List ℤ) : Type 0 where
  pub each : (j : ℕ) → j < k → get_or row j (pos 0) ≡ get_or xs j (pos 0)
  pub rest : (j : ℕ) → n ≤ j → j < row_length n → get_or row j (pos 0) ≡ pos 0
  pub room : IsRoom row

pub read_raw : (z : ℤ) → IsRaw z → to_z w64 (of_z w64 z) ≡ z
read_raw z h = to_z-of_z w64 z (omega (arith, ints, h.0, h.1))

raws_set : (row : List ℤ) (k : ℕ) (v : ℤ) → k < length row → IsRaw v → AreRaws row → AreRaws (set row k v)
raws_set row k v l h all =
    (λ j.
    ⊎_elim
    (λ e. subst IsRaw (sym (ap (λ i. get_or (set row k v) i (pos 0)) e ∙ get_or-set_same row k v (pos 0) l)) h)
    (λ ne. subst IsRaw (sym (get_or-set_other row k j v (pos 0) ne)) (all j))
    (cases_eq j k))

pub written_more : (xs row : List ℤ) (n k : ℕ) (v : ℤ) → k < n → n ≤ 289 → IsRaw v → v ≡ get_or xs k (pos 0) → IsWritten xs n k row → IsWritten xs n (k + 1) (set row k v)
written_more xs row n k v l few raw e h =
    let long = h.room.0 in
    let here : k < length row = omega (arith, long, l, few) in
    record {
      each = λ j m.
          ⊎_elim
          (λ b. get_or-set_other row k j v (pos 0) (λ f. let z = f in absurd (omega arith)) ∙ h.each j b)
          (λ b. let same : j ≡ k = omega (arith, m, b) in ap (λ i. get_or (set row k v) i (pos 0)) same ∙ get_or-set_same row k v (pos 0) here ∙ e ∙ ap (λ i. get_or xs i (pos 0)) (sym same))
          (cases_lt j k);
      rest = λ j m b. get_or-set_other row k j v (pos 0) (λ f. let z = f in absurd (omega arith)) ∙ h.rest j m b;
      room = (length-set row k v ∙ long, raws_set row k v here raw h.room.1);
    }

pub written_raw : (xs row : List ℤ) (n k : ℕ) (z : ℤ) → k < n → n ≤ 289 → IsRaw z → z ≡ get_or xs k (pos 0) → IsWritten xs n k row → IsWritten xs n (k + 1) (set row k (to_z w64 (of_z w64 z)))
written_raw xs row n k z l few raw e h = subst (λ v. IsWritten xs n (k + 1) (set row k v)) (sym (read_raw z raw)) (written_more xs row n k z l few raw e h)

-- what is appended of a row
row_small : (n : ℕ) → n ≤ 289 → row_length n ≤ 296
row_small n h = let e = div-add-mod' (n + 7) 8 in omega (arith, e, h)

pub row_pushed : (row xs : List ℤ) (n : ℕ) → n ≡ length xs → n ≤ 289 → length row ≡ 296 → BeginsWith row xs → take (row_length n) row ≡ row_of xs
row_pushed row xs n e few long h = let most = row_small n few in row_by xs row (row_length n) (ap row_length e) (omega (arith, most, long)) h

pub zeros_pushed : (row : List ℤ) (n : ℕ) → n ≤ 289 → row ≡ replicate 296 (pos 0) → take (row_length n) row ≡ row_of (replicate n (pos 0))
zeros_pushed row n few e =
    row_pushed row (replicate n (pos 0)) n (sym (length-replicate n (pos 0))) few (ap length e ∙ length-replicate 296 (pos 0))
    (λ k l. ap (λ r. get_or r k (pos 0)) e ∙ all_default 296 k (pos 0) ∙ sym (all_default n k (pos 0)))

pub zeros_room : (row : List ℤ) → row ≡ replicate 296 (pos 0) → IsRoom row
zeros_room row e = (ap length e ∙ length-replicate 296 (pos 0), λ k. subst IsRaw (sym (ap (λ r. get_or r k (pos 0)) e ∙ all_default 296 k (pos 0))) (raws_none k))

pub appended : (old was new taken row : List ℤ) → old ≡ was → taken ≡ row → new ≡ old ++ taken → new ≡ was ++ row
appended old was new taken row h k e = e ∙ ap (λ q. q ++ taken) h ∙ ap (λ q. was ++ q) k

pub three_appended : (was one two three rx ry rz : List ℤ) → one ≡ was ++ rx → two ≡ one ++ ry → three ≡ two ++ rz → three ≡ was ++ (rx ++ ry ++ rz)
three_appended was one two three rx ry rz e f g = g ∙ ap (λ q. q ++ rz) (f ∙ ap (λ q. q ++ ry) e) ∙ sym (apart was rx ry rz)

-- what a function gives at the points of a leaf has room
pub few : {A : Type 0} (l : Leaf) (n : ℕ) (xs : List A) (f : ℕ → A) → xs ≡ over (point_count l) f → n ≡ point_count l → n ≤ 289 → length xs ≤ 289
few l n xs f e k m = let a = ap (λ ys. length ys) e ∙ over_long f (point_count l) in omega (arith, a, k, m)

-- one triple at all points
same_row : (c : ℕ) (a : Axis) (p : Vec3) (f : ℕ → Vec3) → ((i : ℕ) → f i ≡ p) → row_of (replicate c (part_of a p)) ≡ row_of (map (part_of a) (over c f))
same_row c a p f h =
    let g = λ (i : ℕ). part_of a (f i) in
    ap row_of (over_all g (replicate c (part_of a p)) c (part_of a p) (length-replicate c (part_of a p)) (λ i l. get_or-replicate c i (part_of a p) (part_of a p) l ∙ sym (ap (part_of a) (h i)))
    ∙ sym (over_map (part_of a) f g c origin (part_of a p) (λ i. refl)))

pub same_rows : (c : ℕ) (p : Vec3) (f : ℕ → Vec3) → ((i : ℕ) → f i ≡ p) → value_rows c (Triple p) ≡ triple_rows (over c f)
same_rows c p f h = ap (λ r. r ++ row_of (replicate c p.y) ++ row_of (replicate c p.z)) (same_row c axes.X p f h) ∙ ap (λ r. row_of (map (part_of axes.X) (over c f)) ++ r ++ row_of (replicate c p.z)) (same_row c axes.Y p f h)
    ∙ ap (λ r. row_of (map (part_of axes.X) (over c f)) ++ row_of (map (part_of axes.Y) (over c f)) ++ r) (same_row c axes.Z p f h)
