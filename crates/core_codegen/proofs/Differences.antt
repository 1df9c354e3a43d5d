-- Rows that agree on a grid have the same differences there.
use Rattle.std.proofs.Common.{◌≡◌, ℕ, suc, ◌+◌, ◌-◌, ◌*◌, ◌/◌, ◌%◌, ◌<◌, ◌≤◌, Bool, cond, sym, ap, ◌∙◌, arith, ⊎_elim}
use Rattle.std.specs.Prelude.{nat_lt}
use Rattle.std.proofs.lemmas.Bool.{cases_Bool, cond-false, cond-true, ltb-true}
use Rattle.std.proofs.Math.Nat.{div-lt_iff_lt-mul, mul_comm, mod-lt, suc-mul}
use Rattle.std.proofs.lemmas.Nat.{mul-add-lt}
use Rattle.sl_ast.specs.declared.operations.Difference.{Difference}
use Rattle.sl_ast.specs.declared.operations.Difference.TheVariants as differences
use Rattle.sl_ast.specs.declared.typed.Value.{Value}
use Rattle.sl_ast.specs.declared.typed.Value.TheVariants.{Triple}
use Rattle.builtins.specs.Triples.{cross, normalize, negated}
use Rattle.builtins.specs.Values.{triple_of}
use Rattle.builtins.specs.Differences.{Lines, slope, along_u, along_v, normal_at, difference}

module _ (lines : Lines) (wide : 2 ≤ lines.columns) (tall : 2 ≤ lines.rows) where
  abbrev Inside : ℕ → Type 0
  Inside i = i < lines.columns * lines.rows

  abbrev Agree : (ℕ → Value) → (ℕ → Value) → Type 0
  Agree f h = (i : ℕ) → Inside i → f i ≡ h i

  row_of : (i : ℕ) → Inside i → i / lines.columns < lines.rows
  row_of i l =
      let pos : 0 < lines.columns = omega arith in
      let at : i < lines.rows * lines.columns = omega (arith, mul_comm lines.columns lines.rows) in
      (div-lt_iff_lt-mul {k = lines.columns} {x = i} {y = lines.rows} pos).1 at

  next_column : (i : ℕ) → Inside i → i % lines.columns + 1 < lines.columns → Inside (i + 1)
  next_column i l h = omega (arith, mul-add-lt (i / lines.columns) lines.columns (i % lines.columns + 1) lines.rows (row_of i l) h)

  next_row : (i : ℕ) → i / lines.columns + 1 < lines.rows → Inside (i + lines.columns)
  next_row i h =
      let pos : 0 < lines.columns = omega arith in
      omega (arith, mul-add-lt (suc (i / lines.columns)) lines.columns (i % lines.columns) lines.rows (omega arith) (mod-lt i pos), suc-mul (i / lines.columns) lines.columns)

  same_slope : (step : _) (v v' w w' : Value) → v ≡ v' → w ≡ w' → slope step v w ≡ slope step v' w'
  same_slope step v v' w w' a b = ap (λ x. slope step x w) a ∙ ap (λ x. slope step v' x) b

  same_u : (f h : ℕ → Value) → Agree f h → (i : ℕ) → Inside i → along_u lines f i ≡ along_u lines h i
  unfolding along_u
  same_u f h same i l =
      ⊎_elim
      (λ e. let next = next_column i l (ltb-true (i % lines.columns + 1) lines.columns e) in
      cond-true (nat_lt (i % lines.columns + 1) lines.columns) _ _ e ∙ same_slope lines.du (f (i + 1)) (h (i + 1)) (f i) (h i) (same (i + 1) next) (same i l) ∙ sym (cond-true (nat_lt (i % lines.columns + 1) lines.columns) _ _ e))
      (λ e. cond-false (nat_lt (i % lines.columns + 1) lines.columns) _ _ e ∙ same_slope lines.du (f i) (h i) (f (i - 1)) (h (i - 1)) (same i l) (same (i - 1) (omega arith)) ∙ sym (cond-false (nat_lt (i % lines.columns + 1) lines.columns) _ _ e))
      (cases_Bool (nat_lt (i % lines.columns + 1) lines.columns))

  same_v : (f h : ℕ → Value) → Agree f h → (i : ℕ) → Inside i → along_v lines f i ≡ along_v lines h i
  unfolding along_v
  same_v f h same i l =
      ⊎_elim
      (λ e. let next = next_row i (ltb-true (i / lines.columns + 1) lines.rows e) in
      cond-true (nat_lt (i / lines.columns + 1) lines.rows) _ _ e ∙ same_slope lines.dv (f (i + lines.columns)) (h (i + lines.columns)) (f i) (h i) (same (i + lines.columns) next) (same i l) ∙ sym (cond-true (nat_lt (i / lines.columns + 1) lines.rows) _ _ e))
      (λ e. cond-false (nat_lt (i / lines.columns + 1) lines.rows) _ _ e ∙ same_slope lines.dv (f i) (h i) (f (i - lines.columns)) (h (i - lines.columns)) (same i l) (same (i - lines.columns) (omega arith)) ∙ sym (cond-false (nat_lt (i / lines.columns + 1) lines.rows) _ _ e))
      (cases_Bool (nat_lt (i / lines.columns + 1) lines.rows))

  same_normal : (flip : Bool) (f h : ℕ → Value) → Agree f h → (i : ℕ) → Inside i → normal_at lines flip f i ≡ normal_at lines flip h i
  unfolding normal_at
  same_normal flip f h same i l =
      let of : Value → Value → Value = λ x y. let n = normalize (cross (triple_of x) (triple_of y)) in Triple (cond flip (negated n) n) in
      ap (λ x. of x (along_v lines f i)) (same_u f h same i l) ∙ ap (λ y. of (along_u lines h i) y) (same_v f h same i l)

  pub same_difference : (d : Difference) (flip : Bool) (f h : ℕ → Value) → Agree f h → (i : ℕ) → Inside i → difference d lines flip f i ≡ difference d lines flip h i
  same_difference differences.Du flip f h same i l = same_u f h same i l
  same_difference differences.Dv flip f h same i l = same_v f h same i l
  same_difference differences.CalculateNormal flip f h same i l = same_normal flip f h same i l
