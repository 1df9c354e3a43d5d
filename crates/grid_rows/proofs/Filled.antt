-- Rows that hold values, and one value more.
use Rattle.std.proofs.Common.{◌≡◌, ℕ, ◌+◌, ◌-◌, ◌*◌, ◌<◌, ◌≤◌, ℤ, pos, List, [], ◌∷◌, ◌++◌, length, map, get_or, take, replicate, refl, sym, ap, ◌∙◌, subst, arith, append_assoc, length-append, ⊎_elim}
use Rattle.std.proofs.lemmas.Bool.{cases_lt}
use Rattle.std.proofs.lemmas.List.{get_or_append_left, get_or-append-add, get_or-take, get_or_past, get_or_default, same_lists, length-take-le, length-map, length-replicate, get_or-replicate, get_or-map}
use Rattle.std.proofs.lemmas.Nat.{mul-le, div-add-mod'}
use Rattle.std.proofs.Math.Nat.{mod-lt}
use Rattle.fixed_math.specs.Axes.{part_of, origin}
use Rattle.fixed_math.specs.declared.vec3.Axis.{Axis}
use Rattle.fixed_math.specs.declared.vec3.Axis.TheVariants.{X, Y, Z}
use Rattle.fixed_math.specs.declared.vec3.Vec3.{Vec3}
use Rattle.sl_ast.specs.declared.typed.Value.{Value}
use Rattle.sl_ast.specs.declared.typed.Value.TheVariants.{Number, Triple, Word}
use Rattle.builtins.specs.declared.shape.Shape.{Shape}
use Rattle.builtins.specs.declared.shape.Shape.TheVariants as shapes
use Rattle.builtins.specs.Shapes.{shape}
use Rattle.place_rows.specs.Layout.{row_length, height}
use Rattle.place_rows.proofs.Sets.{all_default}
use Rattle.grid_rows.specs.Rows.{value_in, HoldList, heights, AreRows, row_of, triple_rows, value_rows, BeginsWith}

-- ---- one row
pub row_fits : (n : ℕ) → n ≤ row_length n
row_fits n = let e = div-add-mod' (n + 7) 8 in let l = mod-lt (n + 7) {m = 8} (omega arith) in omega (arith, e, l)

pub row_long : (xs : List ℤ) → length (row_of xs) ≡ row_length (length xs)
row_long xs =
    let e = length-append xs (replicate (row_length (length xs) - length xs) (pos 0)) in
    let f = length-replicate (row_length (length xs) - length xs) (pos 0) in
    let g = row_fits (length xs) in
    omega (arith, e, f, g)

row_at : (xs : List ℤ) (i : ℕ) → i < length xs → get_or (row_of xs) i (pos 0) ≡ get_or xs i (pos 0)
row_at xs i l = get_or_append_left xs _ (pos 0) i l

row_value : (xs : List ℤ) (k : ℕ) → get_or (row_of xs) k (pos 0) ≡ get_or xs k (pos 0)
row_value xs k =
    ⊎_elim
    (λ l. row_at xs k l)
    (λ g.
    let n = row_length (length xs) - length xs in
    let at : k ≡ length xs + (k - length xs) = omega arith in
    ap (λ m. get_or (row_of xs) m (pos 0)) at ∙ get_or-append-add xs (replicate n (pos 0)) (k - length xs) (pos 0) ∙ all_default n (k - length xs) (pos 0) ∙ sym (get_or_past xs k (pos 0) g))
    (cases_lt k (length xs))

-- the first elements of a row that holds those numbers and then zeros
pub row_by : (xs row : List ℤ) (n : ℕ) → n ≡ row_length (length xs) → n ≤ length row → BeginsWith row xs → take n row ≡ row_of xs
row_by xs row n e fits h =
    let long = length-take-le n row fits in
    let same = row_long xs in
    same_lists _ _ (long ∙ e ∙ sym same)
    (λ k d l. get_or_default (take n row) k d (pos 0) l ∙ get_or-take n row k (pos 0) (omega arith) ∙ h k (omega (arith, e, long, l)) ∙ sym (row_value xs k) ∙ get_or_default (row_of xs) k (pos 0) d (omega arith))

within : (k w i h n : ℕ) → i < w → (k + h) * w ≤ n → 0 < h → k * w + i < n
within k w i h n l room some = let e = mul-le (k + 1) w (k + h) w (omega arith) (omega arith) in omega (arith, e, room, l)

triple : ℤ → ℤ → ℤ → Value
triple x y z = Triple record { x = x; y = y; z = z }

same_triple : (a b c x y z : ℤ) → a ≡ x → b ≡ y → c ≡ z → triple a b c ≡ triple x y z
same_triple a b c x y z e f g = ap (λ q. triple q b c) e ∙ ap (λ q. triple x q c) f ∙ ap (λ q. triple x y q) g

-- ---- values in rows to which others are added
value_more : (t : Shape) (rows block : List ℤ) (w k i : ℕ) → i < w → (k + height t) * w ≤ length rows → value_in t rows w k i ≡ value_in t (rows ++ block) w k i
unfolding triple
value_more shapes.Number rows block w k i l room = ap (λ x. Number x) (sym (get_or_append_left rows block (pos 0) (k * w + i) (within k w i 1 (length rows) l room (omega arith))))
value_more shapes.Word rows block w k i l room = refl
value_more shapes.Triple rows block w k i l room =
    let second : (k + 1 + 2) * w ≤ length rows = omega (arith, room) in
    let third : (k + 2 + 1) * w ≤ length rows = omega (arith, room) in
    same_triple _ _ _ _ _ _
    (sym (get_or_append_left rows block (pos 0) (k * w + i) (within k w i 3 (length rows) l room (omega arith))))
    (sym (get_or_append_left rows block (pos 0) ((k + 1) * w + i) (within (k + 1) w i 2 (length rows) l second (omega arith))))
    (sym (get_or_append_left rows block (pos 0) ((k + 2) * w + i) (within (k + 2) w i 1 (length rows) l third (omega arith))))

hold_more : (vs : List Value) (v : Value) (rows block : List ℤ) (w k i : ℕ) → i < w → (k + heights vs) * w ≤ length rows → HoldList vs rows w k i → v ≡ value_in (shape v) (rows ++ block) w (k + heights vs) i → HoldList (vs ++ v ∷ []) (rows ++ block) w k i
hold_more [] v rows block w k i l room h e = let same : k + 0 ≡ k = omega arith in (subst (λ q. v ≡ value_in (shape v) (rows ++ block) w q i) same e, tt)
hold_more (x ∷ xs) v rows block w k i l room h e =
    let same : k + (height (shape x) + heights xs) ≡ k + height (shape x) + heights xs = omega arith in
    let here = mul-le (k + height (shape x)) w (k + (height (shape x) + heights xs)) w (omega arith) (omega arith) in (
      h.0 ∙ value_more (shape x) rows block w k i l (omega (arith, here, room)),
      hold_more xs v rows block w (k + height (shape x)) i l (subst (λ q. q * w ≤ length rows) same room) h.1 (subst (λ q. v ≡ value_in (shape v) (rows ++ block) w q i) same e),
    )

heights_more : (vs : List Value) (v : Value) → heights (vs ++ v ∷ []) ≡ heights vs + height (shape v)
heights_more [] v = omega arith
heights_more (x ∷ xs) v = let e = heights_more xs v in omega (arith, e)

-- ---- the value of the rows that are added
read_new : (rows row : List ℤ) (n w i : ℕ) → length rows ≡ n * w → get_or (rows ++ row) (n * w + i) (pos 0) ≡ get_or row i (pos 0)
read_new rows row n w i e = ap (λ m. get_or (rows ++ row) (m + i) (pos 0)) (sym e) ∙ get_or-append-add rows row i (pos 0)

number_new : (x : ℤ) (rows row : List ℤ) (n w i : ℕ) → length rows ≡ n * w → get_or row i (pos 0) ≡ x → Number x ≡ value_in shapes.Number (rows ++ row) w n i
number_new x rows row n w i e h = ap (λ y. Number y) (sym (read_new rows row n w i e ∙ h))

length_on : (rows row : List ℤ) (n w : ℕ) → length rows ≡ n * w → length row ≡ w → length (rows ++ row) ≡ (n + 1) * w
length_on rows row n w e f = let g = length-append rows row in omega (arith, e, f, g)

triple_new : (p : Vec3) (rows rx ry rz : List ℤ) (n w i : ℕ) → i < w → length rows ≡ n * w → length rx ≡ w → length ry ≡ w → get_or rx i (pos 0) ≡ p.x → get_or ry i (pos 0) ≡ p.y → get_or rz i (pos 0) ≡ p.z →
    Triple p ≡ value_in shapes.Triple (((rows ++ rx) ++ ry) ++ rz) w n i
unfolding triple
triple_new p rows rx ry rz n w i l e fx fy hx hy hz =
    let ex : length (rows ++ rx) ≡ (n + 1) * w = length_on rows rx n w e fx in
    let two : n + 1 + 1 ≡ n + 2 = omega arith in
    let ey : length ((rows ++ rx) ++ ry) ≡ (n + 2) * w = length_on (rows ++ rx) ry (n + 1) w ex fy ∙ ap (λ m. m * w) two in
    let first : n * w + i < length (rows ++ rx) = omega (arith, ex, l) in
    let second : n * w + i < length ((rows ++ rx) ++ ry) = omega (arith, ey, l) in
    let third : (n + 1) * w + i < length ((rows ++ rx) ++ ry) = omega (arith, ey, l) in
    same_triple p.x p.y p.z _ _ _
    (sym (get_or_append_left ((rows ++ rx) ++ ry) rz (pos 0) (n * w + i) second ∙ get_or_append_left (rows ++ rx) ry (pos 0) (n * w + i) first ∙ read_new rows rx n w i e ∙ hx))
    (sym (get_or_append_left ((rows ++ rx) ++ ry) rz (pos 0) ((n + 1) * w + i) third ∙ read_new (rows ++ rx) ry (n + 1) w i ex ∙ hy))
    (sym (read_new ((rows ++ rx) ++ ry) rz (n + 2) w i ey ∙ hz))

pub apart : (rows rx ry rz : List ℤ) → rows ++ (rx ++ ry ++ rz) ≡ ((rows ++ rx) ++ ry) ++ rz
apart rows rx ry rz = sym (append_assoc rows (rx ++ ry) rz) ∙ ap (λ q. q ++ rz) (sym (append_assoc rows rx ry))

-- ---- rows of given values, and one value more
module _ (c : ℕ) (given : ℕ → List Value) (rows : List ℤ) (h : AreRows c given rows) where
  one_more : (v : ℕ → Value) (block : List ℤ) → ((i : ℕ) → i < c → length block ≡ height (shape (v i)) * row_length c) → ((i : ℕ) → i < c → v i ≡ value_in (shape (v i)) (rows ++ block) (row_length c) (heights (given i)) i) →
      AreRows c (λ i. given i ++ v i ∷ []) (rows ++ block)
  one_more v block long at =
      record {
        long = λ i l.
            let e = length-append rows block in
            let f = h.long i l in
            let g = long i l in
            let k = ap (λ m. m * row_length c) (heights_more (given i) (v i)) in
            omega (arith, e, f, g, k);
        hold = λ i l.
            let room : (0 + heights (given i)) * row_length c ≤ length rows = let f = h.long i l in omega (arith, f) in
            let same : heights (given i) ≡ 0 + heights (given i) = omega arith in
            hold_more (given i) (v i) rows block (row_length c) 0 i (let f = row_fits c in omega (arith, f, l)) room (h.hold i l) (subst (λ q. v i ≡ value_in (shape (v i)) (rows ++ block) (row_length c) q i) same (at i l));
      }

  pub number_rows : (xs new : List ℤ) → length xs ≡ c → new ≡ rows ++ row_of xs → AreRows c (λ i. given i ++ Number (get_or xs i (pos 0)) ∷ []) new
  number_rows xs new e f =
      subst (λ q. AreRows c (λ i. given i ++ Number (get_or xs i (pos 0)) ∷ []) q) (sym f)
      (one_more (λ i. Number (get_or xs i (pos 0))) (row_of xs) (λ i l. let g = row_long xs ∙ ap row_length e in omega (arith, g))
      (λ i l. number_new (get_or xs i (pos 0)) rows (row_of xs) (heights (given i)) (row_length c) i (h.long i l) (row_at xs i (omega (arith, e, l)))))

  -- three rows of the parts of a triple
  parts_rows : (p : ℕ → Vec3) (xs ys zs : List ℤ) → length xs ≡ c → length ys ≡ c → length zs ≡ c → ((i : ℕ) → i < c → get_or xs i (pos 0) ≡ (p i).x) → ((i : ℕ) → i < c → get_or ys i (pos 0) ≡ (p i).y) →
      ((i : ℕ) → i < c → get_or zs i (pos 0) ≡ (p i).z) → AreRows c (λ i. given i ++ Triple (p i) ∷ []) (rows ++ (row_of xs ++ row_of ys ++ row_of zs))
  parts_rows p xs ys zs ex ey ez hx hy hz =
      let lx = row_long xs ∙ ap row_length ex in
      let ly = row_long ys ∙ ap row_length ey in
      let lz = row_long zs ∙ ap row_length ez in
      one_more (λ i. Triple (p i)) (row_of xs ++ row_of ys ++ row_of zs)
      (λ i l. let a = length-append (row_of xs ++ row_of ys) (row_of zs) in let b = length-append (row_of xs) (row_of ys) in omega (arith, a, b, lx, ly, lz))
      (λ i l. subst (λ q. Triple (p i) ≡ value_in shapes.Triple q (row_length c) (heights (given i)) i) (sym (apart rows (row_of xs) (row_of ys) (row_of zs)))
      (triple_new (p i) rows (row_of xs) (row_of ys) (row_of zs) (heights (given i)) (row_length c) i (let f = row_fits c in omega (arith, f, l)) (h.long i l) lx ly
      (row_at xs i (omega (arith, ex, l)) ∙ hx i l) (row_at ys i (omega (arith, ey, l)) ∙ hy i l) (row_at zs i (omega (arith, ez, l)) ∙ hz i l)))

  pub triples_rows : (ps : List Vec3) (new : List ℤ) → length ps ≡ c → new ≡ rows ++ triple_rows ps → AreRows c (λ i. given i ++ Triple (get_or ps i origin) ∷ []) new
  triples_rows ps new e f =
      let at : (a : Axis) (i : ℕ) → i < c → get_or (map (part_of a) ps) i (pos 0) ≡ part_of a (get_or ps i origin) = λ a i l. get_or-map (part_of a) ps i origin (pos 0) (omega (arith, e, l)) in
      let long : (a : Axis) → length (map (part_of a) ps) ≡ c = λ a. length-map ps (part_of a) ∙ e in
      subst (λ q. AreRows c (λ i. given i ++ Triple (get_or ps i origin) ∷ []) q) (sym f) (parts_rows (λ i. get_or ps i origin) _ _ _ (long X) (long Y) (long Z) (at X) (at Y) (at Z))

  pub value_more_rows : (v : Value) (new : List ℤ) → (shape v ≡ shapes.Word → ⊥) → new ≡ rows ++ value_rows c v → AreRows c (λ i. given i ++ v ∷ []) new
  value_more_rows (Number x) new s f =
      subst (λ q. AreRows c (λ i. given i ++ Number x ∷ []) q) (sym f)
      (one_more (λ i. Number x) (row_of (replicate c x)) (λ i l. let g = row_long (replicate c x) ∙ ap row_length (length-replicate c x) in omega (arith, g))
      (λ i l. number_new x rows (row_of (replicate c x)) (heights (given i)) (row_length c) i (h.long i l) (row_at (replicate c x) i (let g = length-replicate c x in omega (arith, g, l)) ∙ get_or-replicate c i x (pos 0) l)))
  value_more_rows (Triple p) new s f =
      subst (λ q. AreRows c (λ i. given i ++ Triple p ∷ []) q) (sym f)
      (parts_rows (λ i. p) (replicate c p.x) (replicate c p.y) (replicate c p.z) (length-replicate c p.x) (length-replicate c p.y) (length-replicate c p.z)
      (λ i l. get_or-replicate c i p.x (pos 0) l) (λ i l. get_or-replicate c i p.y (pos 0) l) (λ i l. get_or-replicate c i p.z (pos 0) l))
  value_more_rows (Word t) new s f = absurd (s refl)

pub no_rows : (c : ℕ) → AreRows c (λ i. []) []
no_rows c = record { long = λ i l. omega arith; hold = λ i l. tt }
