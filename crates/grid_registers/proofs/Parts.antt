-- Rows that hold numbers or triples, and the operands that they come from.
use Rattle.std.proofs.Common.{◌≡◌, ℕ, ◌+◌, ◌<◌, ℤ, pos, Bool, true, false, cond, List, get_or, refl, sym, ap, ◌∙◌, true≢false, subst}
use Rattle.std.specs.Prelude.{◌&&◌, ◌||◌}
use Rattle.std.specs.Borrow.{Bor}
use Rattle.fixed_math.specs.Axes.{part_of}
use Rattle.fixed_math.specs.declared.vec3.Axis.TheVariants.{X}
use Rattle.fixed_math.specs.declared.vec3.Vec3.{Vec3}
use Rattle.transforms.specs.declared.spaces.Spaces.{Spaces}
use Rattle.sl_ast.specs.declared.kinds.SlType.{SlType}
use Rattle.sl_ast.specs.declared.kinds.SlType.TheVariants as types
use Rattle.sl_ast.specs.declared.kinds.SpaceName.TheVariants as spaces
use Rattle.sl_ast.specs.declared.typed.Value.{Value}
use Rattle.sl_ast.specs.declared.typed.Value.TheVariants as values
use Rattle.builtins.specs.declared.shape.Shape.{Shape}
use Rattle.builtins.specs.declared.shape.Shape.TheVariants as shapes
use Rattle.builtins.specs.Shapes.{shape}
use Rattle.builtins.specs.Noise.{noise}
use Rattle.builtins.specs.Table.{placed, noise_of}
use Rattle.builtins.specs.Triples.{each, each_two}
use Rattle.builtins.specs.Values.{number_of, triple_of, as_shape, shape_of, by_part, by_parts, by_three_parts, each_three, chosen}
use Rattle.number_rows.specs.Planes.{triple_in, IsPlane, ArePlanes}
use Rattle.number_rows.specs.declared.plane.Plane.{Plane}
use Rattle.number_rows.specs.declared.plane.Planes.{Planes}
use Rattle.place_values.specs.Cells.{value_of}
use Rattle.place_values.specs.declared.cell.Cell.{Cell}
use Rattle.place_values.specs.declared.cell.Cell.TheVariants as cells
use Rattle.place_rows.specs.Banks.{held, shape_of_cell}
use Rattle.place_rows.specs.declared.bank.Bank.{Bank}
use Rattle.grid_registers.specs.declared.registers.Registers.{Registers}
use Rattle.grid_registers.specs.declared.operand.Operand.{Operand}
use Rattle.grid_registers.specs.declared.operand.Operand.TheVariants.{Row, Shared}
use Rattle.grid_registers.specs.Operands.{operand_at, shape_at, is_number, is_triple, is_number_at, two_numbers, three_numbers, has_triple, AreGrey}
use Rattle.grid_registers.specs.Held.{texts_of, HoldsEach}
use Rattle.grid_registers.proofs.Filled.{shape_is}
use Rattle.grid_registers.proofs.Writes.{held_shape}

-- a value's number is the first part of its triple
pub first_part : (v : Value) → part_of X (triple_of v) ≡ number_of v
first_part (values.Number x) = refl
first_part (values.Triple t) = refl
first_part (values.Word w) = refl

-- what a bank of these rows holds
abbrev pub held_in : List ℤ → List ℤ → List ℤ → List ℤ → List ℕ → Shape → ℕ → Cell
held_in ns xs ys zs ws shapes.Number k = cells.Number (get_or ns k (pos 0))
held_in ns xs ys zs ws shapes.Triple k = cells.Triple (triple_in xs ys zs k)
held_in ns xs ys zs ws shapes.Word k = cells.Word (get_or ws k 0)

-- rows whose numbers, or whose triples, are those of a function's values hold them
pub holds_numbers : (ts : List (Bor (List ℕ))) (ns xs ys zs : List ℤ) (ws : List ℕ) (c : ℕ) (f : ℕ → Value) (x : ℕ → ℤ) → ((i : ℕ) → i < c → get_or ns i (pos 0) ≡ x i) → ((i : ℕ) → i < c → f i ≡ values.Number (x i)) → (j : ℕ) → j < c → value_of ts (held_in ns xs ys zs ws (shape (f j)) j) ≡ f j
holds_numbers ts ns xs ys zs ws c f x h is j l = ap (λ v. value_of ts (held_in ns xs ys zs ws (shape v) j)) (is j l) ∙ ap (λ n. values.Number n) (h j l) ∙ sym (is j l)

pub holds_triples : (ts : List (Bor (List ℕ))) (ns xs ys zs : List ℤ) (ws : List ℕ) (c : ℕ) (f : ℕ → Value) (t : ℕ → Vec3) → ((i : ℕ) → i < c → triple_in xs ys zs i ≡ t i) → ((i : ℕ) → i < c → f i ≡ values.Triple (t i)) → (j : ℕ) → j < c → value_of ts (held_in ns xs ys zs ws (shape (f j)) j) ≡ f j
holds_triples ts ns xs ys zs ws c f t h is j l = ap (λ v. value_of ts (held_in ns xs ys zs ws (shape v) j)) (is j l) ∙ ap (λ p. values.Triple p) (h j l) ∙ sym (is j l)

-- a bank that holds a function's values holds those of another function that has the same
pub same_held : (ts : List (Bor (List ℕ))) (b : Bank) (c : ℕ) (f g : ℕ → Value) → ((i : ℕ) → g i ≡ f i) → HoldsEach ts b c f → HoldsEach ts b c g
same_held ts b c f g e h j l = ap (λ v. value_of ts (held b (shape v) j)) (e j) ∙ h j l ∙ sym (e j)

-- a bank whose values of a cell's shape are that cell holds its value
pub constant_held : (ts : List (Bor (List ℕ))) (b : Bank) (x : Cell) (c : ℕ) → ((k : ℕ) → k < c → held b (shape_of_cell x) k ≡ x) → HoldsEach ts b c (λ i. value_of ts x)
constant_held ts b x c h j l = ap (λ s. value_of ts (held b s j)) (shape_is ts x) ∙ ap (value_of ts) (h j l)

-- conversions from camera space
pub converted_here : (kind : SlType) (sp : Spaces) (v : Value) → placed kind sp spaces.Current v ≡ as_shape (shape_of kind) v
converted_here types.Float sp v = refl
converted_here types.Str sp v = refl
converted_here types.Color sp v = refl
converted_here types.Point sp v = refl
converted_here types.Vector sp v = refl
converted_here types.Normal sp v = refl

pub composed_here : (kind : SlType) (sp : Spaces) (t : Vec3) → shapes.Triple ≡ shape_of kind → placed kind sp spaces.Current (values.Triple t) ≡ values.Triple t
composed_here types.Float sp t h = absurd (true≢false (ap is_triple h))
composed_here types.Str sp t h = absurd (true≢false (ap is_triple h))
composed_here types.Color sp t h = refl
composed_here types.Point sp t h = refl
composed_here types.Vector sp t h = refl
composed_here types.Normal sp t h = refl

-- there is a number at each place of a plane, as many as a row has
pub as_many : (p : Plane) (c n : ℕ) → IsPlane c p → n ≡ c → IsPlane n p
as_many p c n h e = subst (λ k. IsPlane k p) (sym e) h

pub all_many : (p : Planes) (c n : ℕ) → ArePlanes c p → n ≡ c → ArePlanes n p
all_many p c n h e = subst (λ k. ArePlanes k p) (sym e) h

-- a triple by its parts
pub triple_by : (a b : Vec3) → a.x ≡ b.x → a.y ≡ b.y → a.z ≡ b.z → a ≡ b
triple_by a b x y z = ap (λ v. record a { x = v }) x ∙ ap (λ v. record { x = b.x; y = v; z = a.z }) y ∙ ap (λ v. record { x = b.x; y = b.y; z = v }) z

pub operand_shape : (r : Registers) (p : Operand) (i : ℕ) → shape (operand_at r p i) ≡ shape_at p
operand_shape r (Row s k) i = shape_is (texts_of r) (held r.rows s (k + i)) ∙ held_shape r.rows s (k + i)
operand_shape r (Shared s k) i = shape_is (texts_of r) (held r.shared s k) ∙ held_shape r.shared s k

-- values whose shapes are known
number_shape : (v : Value) → is_number (shape v) ≡ true → v ≡ values.Number (number_of v)
number_shape (values.Number x) h = refl
number_shape (values.Triple t) h = absurd (true≢false (sym h))
number_shape (values.Word w) h = absurd (true≢false (sym h))

pub number_back : (r : Registers) (p : Operand) (i : ℕ) → is_number_at p ≡ true → operand_at r p i ≡ values.Number (number_of (operand_at r p i))
number_back r p i h = number_shape (operand_at r p i) (ap is_number (operand_shape r p i) ∙ h)

both_left : (a b : Bool) → (a && b) ≡ true → a ≡ true
both_left true b h = refl
both_left false b h = h

both_right : (a b : Bool) → (a && b) ≡ true → b ≡ true
both_right true b h = h
both_right false b h = absurd (true≢false (sym h))

part_of_triple : (f : ℤ → ℤ) (v : Value) → is_number (shape v) ≡ false → by_part f v ≡ values.Triple (each f (triple_of v))
part_of_triple f (values.Number x) h = absurd (true≢false h)
part_of_triple f (values.Triple t) h = refl
part_of_triple f (values.Word w) h = refl

parts_of_triples : (f : ℤ → ℤ → ℤ) (v w : Value) → (is_number (shape v) && is_number (shape w)) ≡ false → by_parts f v w ≡ values.Triple (each_two f (triple_of v) (triple_of w))
parts_of_triples f (values.Number x) (values.Number y) h = absurd (true≢false h)
parts_of_triples f (values.Number x) (values.Triple t) h = refl
parts_of_triples f (values.Number x) (values.Word t) h = refl
parts_of_triples f (values.Triple t) w h = refl
parts_of_triples f (values.Word t) w h = refl

three_of_triples : (f : ℤ → ℤ → ℤ → ℤ) (u v w : Value) → (is_number (shape u) && (is_number (shape v) && is_number (shape w))) ≡ false → by_three_parts f u v w ≡ values.Triple (each_three f (triple_of u) (triple_of v) (triple_of w))
three_of_triples f (values.Number x) (values.Number y) (values.Number z) h = absurd (true≢false h)
three_of_triples f (values.Number x) (values.Number y) (values.Triple z) h = refl
three_of_triples f (values.Number x) (values.Number y) (values.Word z) h = refl
three_of_triples f (values.Number x) (values.Triple t) w h = refl
three_of_triples f (values.Number x) (values.Word t) w h = refl
three_of_triples f (values.Triple t) v w h = refl
three_of_triples f (values.Word t) v w h = refl

-- operations that go part by part, by the shapes of their operands
module _ (r : Registers) (p q t : Operand) (i : ℕ) where
  pub one_of_number : (f : ℤ → ℤ) → is_number_at p ≡ true → by_part f (operand_at r p i) ≡ values.Number (f (number_of (operand_at r p i)))
  one_of_number f h = ap (by_part f) (number_back r p i h)

  pub one_of_triple : (f : ℤ → ℤ) → is_number_at p ≡ false → by_part f (operand_at r p i) ≡ values.Triple (each f (triple_of (operand_at r p i)))
  one_of_triple f h = part_of_triple f (operand_at r p i) (ap is_number (operand_shape r p i) ∙ h)

  pub two_of_numbers : (f : ℤ → ℤ → ℤ) → two_numbers p q ≡ true → by_parts f (operand_at r p i) (operand_at r q i) ≡ values.Number (f (number_of (operand_at r p i)) (number_of (operand_at r q i)))
  two_of_numbers f h =
      let a = number_back r p i (both_left (is_number_at p) (is_number_at q) h) in
      let b = number_back r q i (both_right (is_number_at p) (is_number_at q) h) in
      ap (λ v. by_parts f v (operand_at r q i)) a ∙ ap (by_parts f (values.Number (number_of (operand_at r p i)))) b

  pub two_of_triples : (f : ℤ → ℤ → ℤ) → two_numbers p q ≡ false → by_parts f (operand_at r p i) (operand_at r q i) ≡ values.Triple (each_two f (triple_of (operand_at r p i)) (triple_of (operand_at r q i)))
  two_of_triples f h =
      parts_of_triples f (operand_at r p i) (operand_at r q i) (ap (λ s. is_number s && is_number (shape (operand_at r q i))) (operand_shape r p i) ∙ ap (λ s. is_number_at p && is_number s) (operand_shape r q i) ∙ h)

  pub three_of_numbers : (f : ℤ → ℤ → ℤ → ℤ) → three_numbers p q t ≡ true → by_three_parts f (operand_at r p i) (operand_at r q i) (operand_at r t i) ≡ values.Number (f (number_of (operand_at r p i)) (number_of (operand_at r q i)) (number_of (operand_at r t i)))
  three_of_numbers f h =
      let h2 = both_right (is_number_at p) (two_numbers q t) h in
      let a = number_back r p i (both_left (is_number_at p) (two_numbers q t) h) in
      let b = number_back r q i (both_left (is_number_at q) (is_number_at t) h2) in
      let d = number_back r t i (both_right (is_number_at q) (is_number_at t) h2) in
      ap (λ v. by_three_parts f v (operand_at r q i) (operand_at r t i)) a
      ∙ ap (λ v. by_three_parts f (values.Number (number_of (operand_at r p i))) v (operand_at r t i)) b
      ∙ ap (by_three_parts f (values.Number (number_of (operand_at r p i))) (values.Number (number_of (operand_at r q i)))) d

  pub three_of_others : (f : ℤ → ℤ → ℤ → ℤ) → three_numbers p q t ≡ false → by_three_parts f (operand_at r p i) (operand_at r q i) (operand_at r t i) ≡ values.Triple (each_three f (triple_of (operand_at r p i)) (triple_of (operand_at r q i)) (triple_of (operand_at r t i)))
  three_of_others f h =
      three_of_triples f (operand_at r p i) (operand_at r q i) (operand_at r t i)
      (ap (λ s. is_number s && (is_number (shape (operand_at r q i)) && is_number (shape (operand_at r t i)))) (operand_shape r p i)
      ∙ ap (λ s. is_number_at p && (is_number s && is_number (shape (operand_at r t i)))) (operand_shape r q i) ∙ ap (λ s. is_number_at p && (is_number_at q && is_number s)) (operand_shape r t i) ∙ h)

-- choices
chosen_of_numbers : (b : Bool) (x y : ℤ) → chosen b (values.Number x) (values.Number y) ≡ values.Number (cond b x y)
chosen_of_numbers true x y = refl
chosen_of_numbers false x y = refl

chosen_of_others : (b : Bool) (v w : Value) → (is_triple (shape v) || is_triple (shape w)) ≡ true → chosen b v w ≡ values.Triple (record { x = cond b (triple_of v).x (triple_of w).x; y = cond b (triple_of v).y (triple_of w).y; z = cond b (triple_of v).z (triple_of w).z })
chosen_of_others true (values.Number x) (values.Triple t) h = refl
chosen_of_others false (values.Number x) (values.Triple t) h = refl
chosen_of_others true (values.Word x) (values.Triple t) h = refl
chosen_of_others false (values.Word x) (values.Triple t) h = refl
chosen_of_others true (values.Triple t) (values.Number x) h = refl
chosen_of_others false (values.Triple t) (values.Number x) h = refl
chosen_of_others true (values.Triple t) (values.Word x) h = refl
chosen_of_others false (values.Triple t) (values.Word x) h = refl
chosen_of_others true (values.Triple t) (values.Triple x) h = refl
chosen_of_others false (values.Triple t) (values.Triple x) h = refl
chosen_of_others b (values.Number x) (values.Number y) h = absurd (true≢false (sym h))
chosen_of_others b (values.Number x) (values.Word y) h = absurd (true≢false (sym h))
chosen_of_others b (values.Word x) (values.Number y) h = absurd (true≢false (sym h))
chosen_of_others b (values.Word x) (values.Word y) h = absurd (true≢false (sym h))

module _ (r : Registers) (q t : Operand) (i : ℕ) (b : Bool) where
  pub choice_of_numbers : two_numbers q t ≡ true → chosen b (operand_at r q i) (operand_at r t i) ≡ values.Number (cond b (number_of (operand_at r q i)) (number_of (operand_at r t i)))
  choice_of_numbers h =
      let e = number_back r q i (both_left (is_number_at q) (is_number_at t) h) in
      let d = number_back r t i (both_right (is_number_at q) (is_number_at t) h) in
      ap (λ v. chosen b v (operand_at r t i)) e ∙ ap (chosen b (values.Number (number_of (operand_at r q i)))) d ∙ chosen_of_numbers b _ _

  pub choice_of_triples : has_triple q t ≡ true → chosen b (operand_at r q i) (operand_at r t i) ≡ values.Triple (record { x = cond b (triple_of (operand_at r q i)).x (triple_of (operand_at r t i)).x; y = cond b (triple_of (operand_at r q i)).y (triple_of (operand_at r t i)).y; z = cond b (triple_of (operand_at r q i)).z (triple_of (operand_at r t i)).z })
  choice_of_triples h =
      chosen_of_others b (operand_at r q i) (operand_at r t i) (ap (λ s. is_triple s || is_triple (shape (operand_at r t i))) (operand_shape r q i) ∙ ap (λ s. is_triple (shape_at q) || is_triple s) (operand_shape r t i) ∙ h)

-- the parts of values that aren't triples are the same
grey_of : (v : Value) → is_triple (shape v) ≡ false → ((triple_of v).y ≡ (triple_of v).x) × ((triple_of v).z ≡ (triple_of v).x)
grey_of (values.Number x) h = (refl, refl)
grey_of (values.Triple t) h = absurd (true≢false h)
grey_of (values.Word w) h = (refl, refl)

pub grey_by_shape : (r : Registers) (p : Operand) → is_triple (shape_at p) ≡ false → AreGrey r p
grey_by_shape r p h i = grey_of (operand_at r p i) (ap is_triple (operand_shape r p i) ∙ h)

-- noise of a value of the shape of triples is that at the triple
pub noise_of_triple : (v : Value) → shape v ≡ shapes.Triple → noise_of v ≡ values.Number (noise (triple_of v))
noise_of_triple (values.Number x) h = absurd (true≢false (sym (ap is_triple h)))
noise_of_triple (values.Triple t) h = refl
noise_of_triple (values.Word w) h = refl

-- a value of the shape of triples is the triple that it stands for
pub triple_back : (v : Value) → shape v ≡ shapes.Triple → values.Triple (triple_of v) ≡ v
triple_back (values.Number x) h = absurd (true≢false (sym (ap is_triple h)))
triple_back (values.Triple t) h = refl
triple_back (values.Word w) h = absurd (true≢false (sym (ap is_triple h)))
