-- Where look-ups read, and that look-ups of operands that agree on a grid are the same.
use Rattle.std.proofs.Common.{◌≡◌, ℕ, suc, ◌+◌, ◌-◌, ◌*◌, ◌/◌, ◌%◌, ◌<◌, ◌≤◌, max, pos, List, Option, Some, None, refl, sym, ap, ◌∙◌, arith}
use Rattle.std.specs.Prelude.{nat_lt}
use Rattle.std.proofs.lemmas.Bool.{cond_both, ltb-true}
use Rattle.std.proofs.Math.Nat.{div-lt_iff_lt-mul, mul_comm, mod-lt, suc-mul}
use Rattle.std.proofs.lemmas.Nat.{mul-add-lt}
use Rattle.sl_ast.specs.declared.typed.Value.{Value}
use Rattle.sl_ast.specs.declared.typed.Value.TheVariants.{Triple}
use Rattle.texture.specs.Images.{Image}
use Rattle.texture.specs.Levels.{level_of}
use Rattle.texture.specs.Looks.{look_of}
use Rattle.builtins.specs.Differences.{Lines}
use Rattle.builtins.specs.Textures.{later_u, earlier_u, later_v, earlier_v, ways, s_of, t_of, looked_up, textured}

-- a look-up by the operands at five places
abbrev at_five : Image → List Value → List Value → List Value → List Value → List Value → Value
at_five p here lu eu lv ev =
    Triple (look_of p (level_of p (pos (max (max (ways p.width (s_of lu) (s_of eu)) (ways p.height (t_of lu) (t_of eu))) (max (ways p.width (s_of lv) (s_of ev)) (ways p.height (t_of lv) (t_of ev)))))) (s_of here) (t_of here))

five : (p : Image) (a a' b b' c c' d d' e e' : List Value) → a ≡ a' → b ≡ b' → c ≡ c' → d ≡ d' → e ≡ e' → at_five p a b c d e ≡ at_five p a' b' c' d' e'
five p a a' b b' c c' d d' e e' ha hb hc hd he =
    ap (λ x. at_five p x b c d e) ha ∙ ap (λ x. at_five p a' x c d e) hb ∙ ap (λ x. at_five p a' b' x d e) hc ∙ ap (λ x. at_five p a' b' c' x e) hd ∙ ap (λ x. at_five p a' b' c' d' x) he

module _ (lines : Lines) (wide : 2 ≤ lines.columns) (tall : 2 ≤ lines.rows) where
  abbrev Inside : ℕ → Type 0
  Inside i = i < lines.columns * lines.rows

  row_of : (i : ℕ) → Inside i → i / lines.columns < lines.rows
  row_of i l =
      let pos : 0 < lines.columns = omega arith in
      let at : i < lines.rows * lines.columns = omega (arith, mul_comm lines.columns lines.rows) in
      (div-lt_iff_lt-mul {k = lines.columns} {x = i} {y = lines.rows} pos).1 at

  next_column : (i : ℕ) → Inside i → i % lines.columns + 1 < lines.columns → Inside (i + 1)
  next_column i l h = omega (arith, mul-add-lt (i / lines.columns) lines.columns (i % lines.columns + 1) lines.rows (row_of i l) h)

  next_row : (i : ℕ) → i / lines.columns + 1 < lines.rows → Inside (i + lines.columns)
  next_row i h =
      let pos : 0 < lines.columns = omega arith in
      omega (arith, mul-add-lt (suc (i / lines.columns)) lines.columns (i % lines.columns) lines.rows (omega arith) (mod-lt i pos), suc-mul (i / lines.columns) lines.columns)

  pub later_u_in : (i : ℕ) → Inside i → Inside (later_u lines i)
  unfolding later_u
  later_u_in i l =
      cond_both (nat_lt (i % lines.columns + 1) lines.columns) (i + 1) i Inside (λ e. next_column i l (ltb-true (i % lines.columns + 1) lines.columns e)) (λ e. l)

  pub earlier_u_in : (i : ℕ) → Inside i → Inside (earlier_u lines i)
  unfolding earlier_u
  earlier_u_in i l = cond_both (nat_lt (i % lines.columns + 1) lines.columns) i (i - 1) Inside (λ e. l) (λ e. omega arith)

  pub later_v_in : (i : ℕ) → Inside i → Inside (later_v lines i)
  unfolding later_v
  later_v_in i l =
      cond_both (nat_lt (i / lines.columns + 1) lines.rows) (i + lines.columns) i Inside (λ e. next_row i (ltb-true (i / lines.columns + 1) lines.rows e)) (λ e. l)

  pub earlier_v_in : (i : ℕ) → Inside i → Inside (earlier_v lines i)
  unfolding earlier_v
  earlier_v_in i l = cond_both (nat_lt (i / lines.columns + 1) lines.rows) i (i - lines.columns) Inside (λ e. l) (λ e. omega arith)

  -- operands that agree on the grid
  pub same_textured : (p : Option Image) (f h : ℕ → List Value) → ((i : ℕ) → Inside i → f i ≡ h i) → (i : ℕ) → Inside i → textured lines p f i ≡ textured lines p h i
  unfolding looked_up
  same_textured None f h same i l = refl
  same_textured (Some p) f h same i l =
      five p (f i) (h i) (f (later_u lines i)) (h (later_u lines i)) (f (earlier_u lines i)) (h (earlier_u lines i)) (f (later_v lines i)) (h (later_v lines i)) (f (earlier_v lines i)) (h (earlier_v lines i))
      (same i l) (same (later_u lines i) (later_u_in i l)) (same (earlier_u lines i) (earlier_u_in i l)) (same (later_v lines i) (later_v_in i l)) (same (earlier_v lines i) (earlier_v_in i l))

-- operands that are those of the first place everywhere
pub textured_steady : (lines : Lines) (p : Option Image) (f : ℕ → List Value) → ((i : ℕ) → f 0 ≡ f i) → (i : ℕ) → textured lines p f 0 ≡ textured lines p f i
unfolding looked_up
textured_steady lines None f steady i = refl
textured_steady lines (Some p) f steady i =
    let same : (j k : ℕ) → f j ≡ f k = λ j k. sym (steady j) ∙ steady k in
    five p (f 0) (f i) (f (later_u lines 0)) (f (later_u lines i)) (f (earlier_u lines 0)) (f (earlier_u lines i)) (f (later_v lines 0)) (f (later_v lines i)) (f (earlier_v lines 0)) (f (earlier_v lines i))
    (same 0 i) (same (later_u lines 0) (later_u lines i)) (same (earlier_u lines 0) (earlier_u lines i)) (same (later_v lines 0) (later_v lines i)) (same (earlier_v lines 0) (earlier_v lines i))
