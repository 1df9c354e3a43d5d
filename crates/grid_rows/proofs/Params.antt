-- The parameters of one class, taken one after another.
use Rattle.std.proofs.Common.{◌≡◌, ℕ, ◌+◌, ◌<◌, Bool, true, false, cond, ℤ, List, [], ◌∷◌, ◌++◌, length, get_or, drop, refl, sym, ap, ◌∙◌, arith, append_assoc, pos}
use Rattle.std.proofs.lemmas.List.{drop_more}
use Rattle.std.proofs.lemmas.Bool.{cond-true, cond-false}
use Rattle.sl_ast.specs.declared.typed.Value.{Value}
use Rattle.sl_ast.specs.declared.typed.Value.TheVariants.{Number}
use Rattle.grid_code.specs.declared.slot.Slot.{Slot}
use Rattle.place_rows.specs.Layout.{same_class}
use Rattle.sl_ast.specs.declared.kinds.SlType.TheVariants.{Float}
use Rattle.sl_ast.specs.Typed.{Local}
use Rattle.grid_variables.specs.Points.{Leaf}
use Rattle.grid_variables.specs.Variables.{bound_variable, value_or, values_at}
use Rattle.grid_rows.specs.Rows.{values_of}
use Rattle.grid_rows.specs.Given.{rows_or, param_rows}

uniform_class : (u : Bool) → same_class u true ≡ u
uniform_class true = refl
uniform_class false = refl

module _ (l : Leaf) (ps : List Local) (ss : List Slot) (vs : List Value) (named : length ps ≡ length ss) (alike : length vs ≡ length ss) (k : ℕ) (p : Local) (s : Slot) (v : Value) (there : k < length ss) where
  abbrev rest : List ℤ
  rest = param_rows l (drop (k + 1) ps) (drop (k + 1) ss) (drop (k + 1) vs)

  abbrev here : List ℤ
  here = rows_or l (bound_variable (get_or ps k p).name l.prim.vars) (get_or vs k v)

  params_from : param_rows l (drop k ps) (drop k ss) (drop k vs) ≡ cond (get_or ss k s).uniform rest (here ++ rest)
  params_from =
      ap (λ qs. param_rows l qs (drop k ss) (drop k vs)) (drop_more ps k p (omega (arith, named, there)))
      ∙ ap (λ qs. param_rows l (get_or ps k p ∷ drop (k + 1) ps) qs (drop k vs)) (drop_more ss k s there)
      ∙ ap (λ ws. param_rows l (get_or ps k p ∷ drop (k + 1) ps) (get_or ss k s ∷ drop (k + 1) ss) ws) (drop_more vs k v (omega (arith, alike, there)))

  -- a varying one is pushed, a uniform one is passed over
  pub params_pushed : (all items new : List ℤ) → (get_or ss k s).uniform ≡ false → new ≡ items ++ here → all ≡ items ++ param_rows l (drop k ps) (drop k ss) (drop k vs) → all ≡ new ++ rest
  params_pushed all items new u n h = h ∙ ap (λ q. items ++ q) (params_from ∙ cond-false _ _ _ u) ∙ sym (append_assoc items here rest) ∙ ap (λ q. q ++ rest) (sym n)

  pub params_passed : (all items new : List ℤ) → (get_or ss k s).uniform ≡ true → new ≡ items → all ≡ items ++ param_rows l (drop k ps) (drop k ss) (drop k vs) → all ≡ new ++ rest
  params_passed all items new u n h = h ∙ ap (λ q. items ++ q) (params_from ∙ cond-true _ _ _ u) ∙ ap (λ q. q ++ rest) (sym n)

  abbrev others : List Value
  others = values_of true (drop (k + 1) ss) (values_at l (drop (k + 1) ps) (drop (k + 1) vs) 0)

  abbrev value : Value
  value = value_or l 0 (bound_variable (get_or ps k p).name l.prim.vars) (get_or vs k v)

  values_from : values_of true (drop k ss) (values_at l (drop k ps) (drop k vs) 0) ≡ cond (get_or ss k s).uniform (value ∷ others) others
  values_from =
      ap (λ qs. values_of true (drop k ss) (values_at l qs (drop k vs) 0)) (drop_more ps k p (omega (arith, named, there)))
      ∙ ap (λ ws. values_of true (drop k ss) (values_at l (get_or ps k p ∷ drop (k + 1) ps) ws 0)) (drop_more vs k v (omega (arith, alike, there)))
      ∙ ap (λ qs. values_of true qs (value ∷ values_at l (drop (k + 1) ps) (drop (k + 1) vs) 0)) (drop_more ss k s there)
      ∙ ap (λ b. cond b (value ∷ others) others) (uniform_class (get_or ss k s).uniform)

  pub values_pushed : (all items new : List Value) → (get_or ss k s).uniform ≡ true → new ≡ items ++ value ∷ [] → all ≡ items ++ values_of true (drop k ss) (values_at l (drop k ps) (drop k vs) 0) → all ≡ new ++ others
  values_pushed all items new u n h = h ∙ ap (λ q. items ++ q) (values_from ∙ cond-true _ _ _ u) ∙ sym (append_assoc items (value ∷ []) others) ∙ ap (λ q. q ++ others) (sym n)

  pub values_passed : (all items new : List Value) → (get_or ss k s).uniform ≡ false → new ≡ items → all ≡ items ++ values_of true (drop k ss) (values_at l (drop k ps) (drop k vs) 0) → all ≡ new ++ others
  values_passed all items new u n h = h ∙ ap (λ q. items ++ q) (values_from ∙ cond-false _ _ _ u) ∙ ap (λ q. q ++ others) (sym n)

-- any parameter and any value, where none is asked for
pub no_name : Local
no_name = record { name = []; kind = Float; uniform = true }

pub no_value : Value
no_value = Number (pos 0)
