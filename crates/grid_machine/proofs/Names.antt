-- The registers that a run gives values are among those of its code.
use Rattle.std.proofs.Common.{◌≡◌, ℕ, ◌+◌, arith, Bool, true, false, cond, List, [], ◌∷◌, ◌++◌, map, refl, ap, ◌∙◌}
use Rattle.std.specs.List.{list_all, filter}
use Rattle.sl_ast.specs.declared.kinds.SlKind.{SlKind}
use Rattle.sl_ast.specs.declared.kinds.SlKind.TheVariants.{Surface, Displacement, Light, Volume}
use Rattle.sl_ast.specs.declared.kinds.Predefined.TheVariants as names
use Rattle.sl_ast.specs.Variables.{Row, variables}
use Rattle.builtins.specs.Values.{shape_of}
use Rattle.grid_code.specs.declared.code.Register.{Register}
use Rattle.grid_code.specs.declared.slot.Slot.{Slot}
use Rattle.grid_code.specs.Names.{reg, name_at, lit_at, first_free}
use Rattle.grid_code.specs.Uses.{names_at, kind_registers, registers_from, given_registers}
use Rattle.grid_code.proofs.Both.{both, left, right}
use Rattle.place_rows.specs.Layout.{same_class}
use Rattle.grid_machine.specs.Run.{is_input, params_of, given_names, written_names, step_names, uniform_inputs, varying_inputs}
use Rattle.grid_registers.proofs.Operands.{item_passes}

module _ (p : Register → Bool) where
  joined_passes : (xs ys : List Register) → list_all p xs ≡ true → list_all p ys ≡ true → list_all p (xs ++ ys) ≡ true
  joined_passes [] ys h g = g
  joined_passes (x ∷ xs) ys h g = both (p x) _ (left (p x) _ h) (joined_passes xs ys (right (p x) _ h) g)

  first_passes : (xs ys : List Register) → list_all p (xs ++ ys) ≡ true → list_all p xs ≡ true
  first_passes [] ys h = refl
  first_passes (x ∷ xs) ys h = both (p x) _ (left (p x) _ h) (first_passes xs ys (right (p x) _ h))

  second_passes : (xs ys : List Register) → list_all p (xs ++ ys) ≡ true → list_all p ys ≡ true
  second_passes [] ys h = h
  second_passes (x ∷ xs) ys h = second_passes xs ys (right (p x) _ h)

  reg_passes : (a b : Bool) (f : Bool → Register) → p (f a) ≡ true → list_all p (cond (same_class a b) (f b ∷ []) []) ≡ true
  reg_passes true true f h = both (p (f true)) true h refl
  reg_passes true false f h = refl
  reg_passes false true f h = refl
  reg_passes false false f h = both (p (f false)) true h refl

  params_pass : (u : Bool) (n : ℕ) (ss : List Slot) → list_all p (registers_from n ss) ≡ true → list_all p (params_of u n ss) ≡ true
  params_pass u n [] h = refl
  params_pass u n (s ∷ ss) h =
      joined_passes _ _ (reg_passes s.uniform u (λ b. reg b (shape_of s.kind) n) (left (p (reg s.uniform (shape_of s.kind) n)) _ h)) (params_pass u (n + 1) ss (right (p (reg s.uniform (shape_of s.kind) n)) _ h))

  abbrev ats : List Row → List Register
  ats rows = map (λ row. name_at row.name) rows

  kept_pass : (b : Bool) (row : Row) (rows : List Row) → p (name_at row.name) ≡ true → list_all p (ats rows) ≡ true → list_all p (ats (cond b (row ∷ rows) rows)) ≡ true
  kept_pass true row rows h g = both (p (name_at row.name)) _ h g
  kept_pass false row rows h g = g

  -- rows of the table that pass a test
  filtered_pass : (f : Row → Bool) (rows : List Row) → list_all p (ats rows) ≡ true → list_all p (ats (filter f rows)) ≡ true
  filtered_pass f [] h = refl
  filtered_pass f (row ∷ rows) h = kept_pass (f row) row (filter f rows) (left (p (name_at row.name)) _ h) (filtered_pass f rows (right (p (name_at row.name)) _ h))

  ats-append : (xs ys : List Row) → ats (xs ++ ys) ≡ ats xs ++ ats ys
  ats-append [] ys = refl
  ats-append (x ∷ xs) ys = ap (λ r. name_at x.name ∷ r) (ats-append xs ys)

  two_filtered_pass : (f g : Row → Bool) (rows : List Row) → list_all p (ats rows) ≡ true → list_all p (ats (filter f rows ++ filter g rows)) ≡ true
  two_filtered_pass f g rows h = ap (list_all p) (ats-append (filter f rows) (filter g rows)) ∙ joined_passes _ _ (filtered_pass f rows h) (filtered_pass g rows h)

  kind_names : (kind : SlKind) → list_all p (kind_registers kind) ≡ true → list_all p (names_at kind) ≡ true
  kind_names Surface h = h
  kind_names Displacement h = h
  kind_names Volume h = h
  kind_names Light h = right (p lit_at) _ h

  given_pass : (kind : SlKind) → list_all p (names_at kind) ≡ true → list_all p (given_names kind) ≡ true
  given_pass kind h = two_filtered_pass (is_input false) (is_input true) (variables kind) (right (p (name_at names.Pi)) _ h)

  steps_pass : (kind : SlKind) → list_all p (names_at kind) ≡ true → list_all p (step_names kind) ≡ true
  steps_pass Surface h = both _ _ (item_passes p (names_at Surface) 8 (name_at names.Pi) (omega arith) h) (both _ _ (item_passes p (names_at Surface) 9 (name_at names.Pi) (omega arith) h) refl)
  steps_pass Displacement h = both _ _ (item_passes p (names_at Displacement) 8 (name_at names.Pi) (omega arith) h) (both _ _ (item_passes p (names_at Displacement) 9 (name_at names.Pi) (omega arith) h) refl)
  steps_pass Volume h = refl
  steps_pass Light h = refl

  module _ (kind : SlKind) (params : List Slot) (h : list_all p (given_registers kind params) ≡ true) where
    pub kind_pass : list_all p (kind_registers kind) ≡ true
    kind_pass = first_passes (kind_registers kind) (registers_from first_free params) h

    pub params_all_pass : list_all p (registers_from first_free params) ≡ true
    params_all_pass = second_passes (kind_registers kind) (registers_from first_free params) h

    pub names_pass : list_all p (names_at kind) ≡ true
    names_pass = kind_names kind kind_pass

    pub uniforms_pass : list_all p (uniform_inputs kind params) ≡ true
    uniforms_pass = joined_passes _ _ (params_pass true first_free params params_all_pass) (steps_pass kind names_pass)

    pub varyings_pass : list_all p (varying_inputs kind params) ≡ true
    varyings_pass = joined_passes _ _ (params_pass false first_free params params_all_pass) (given_pass kind names_pass)

    pub written_pass : list_all p (written_names kind) ≡ true
    written_pass = filtered_pass (λ row. row.written) (variables kind) (right (p (name_at names.Pi)) _ names_pass)
