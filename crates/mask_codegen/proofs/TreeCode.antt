-- What is known of the code of a settled tree.
use Rattle.std.proofs.Common.{◌≡◌, ℕ, ◌+◌, ◌*◌, ◌^◌, ◌<◌, ◌≤◌, true, false, List, [], ◌∷◌, ◌++◌, length, length-append, refl, sym, ap, ◌∙◌, subst, arith}
use Rattle.std.specs.List.{list_all}
use Rattle.std.proofs.lemmas.Bool.{and_parts}
use Rattle.sl_ast.specs.declared.kinds.SlKind.{SlKind}
use Rattle.sl_ast.specs.Typed as T
use Rattle.sl_ast.specs.Typed.{numbers, numbers_defaults, numbers_stmts, numbers_tree, depth_tree}
use Rattle.sl_ast.specs.Classes.{local_classes}
use Rattle.sl_ast.specs.Registers.{rows_of_classes, rows_stmts, rows_of}
use Rattle.sl_ast.specs.Settled.{IsSettled}
use Rattle.sl_ast.specs.WellTyped.{well_typed, typed_defaults, in_shader, local_types}
use Rattle.grid_code.specs.declared.code.Register.{Register}
use Rattle.grid_code.specs.declared.register_set.RegisterSet.{RegisterSet}
use Rattle.grid_code.specs.declared.slot.Slot.{Slot}
use Rattle.grid_code.specs.Code.{Block}
use Rattle.grid_code.specs.Names.{first_free}
use Rattle.grid_code.specs.Uses.{has, rows_in, kind_registers, registers_from, given_registers, within}
use Rattle.grid_code.specs.Valid.{is_placed, nesting}
use Rattle.sl_meaning.specs.Core.{Stmts}
use Rattle.sl_meaning.specs.Lowered.{slots, body_of}
use Rattle.mask_codegen.specs.Collected.{registers_of, IsSetOf}
use Rattle.core_codegen.specs.Compile.{behind, shader_code}
use Rattle.core_codegen.specs.Fine.{GridAll}
use Rattle.core_codegen.specs.Room.{all_room}
use Rattle.core_codegen.specs.Slots.{slots_of}
use Rattle.mask_codegen.proofs.CodeNesting.{all_nest}
use Rattle.mask_codegen.proofs.CodePlaced.{all_grid}
use Rattle.mask_codegen.proofs.CodeWithin.{all_first, all_second, all_join, all_within}
use Rattle.mask_codegen.proofs.CorePlaced.{PlacedAll}
use Rattle.mask_codegen.proofs.StartRegisters.{named_in, kind_weight, params_weight, params_frame}
use Rattle.mask_codegen.proofs.LoweredGrid.{body_settled}
use Rattle.mask_codegen.proofs.LoweredLoad.{stmts_rows}
use Rattle.mask_codegen.proofs.LoweredNesting.{body_nesting}
use Rattle.mask_codegen.proofs.LoweredPlaced.{body_placed}
use Rattle.mask_codegen.proofs.LoweredRoom.{body_room}
use Rattle.mask_codegen.specs.CoreClasses.{classes_of}
use Rattle.mask_codegen.proofs.LoweredScopes.{scope_of_params}
use Rattle.mask_codegen.proofs.Made.{shared, made_all, weight, load_all}
use Rattle.mask_codegen.proofs.MadeLoad.{weight_on, all_load}
use Rattle.mask_codegen.proofs.Naming.{within_named}
use Rattle.core_codegen.proofs.Scoped.{grid_all}
use Rattle.mask_codegen.proofs.SetRows.{has_all, is_one_of, all_one_of, rows_fit}

-- no more parameters than nodes
params_few : (k : SlKind) (ls : List T.Local) (ds : List T.Default) → typed_defaults k ls ds ≡ true → length (slots ls) ≤ length (numbers_defaults ds)
params_few k [] [] h = omega arith
params_few k (l ∷ ls) (d ∷ ds) h =
    let rest = (and_parts _ _ (and_parts _ _ h).1).1 in
    omega (arith, params_few k ls ds rest, length-append (numbers d.value) (numbers_defaults ds))
params_few k [] (d ∷ ds) h = absurd cc
params_few k (l ∷ ls) [] h = absurd cc

-- a code that has room for its registers
pub tree_fits : (t : T.Tree) → well_typed t ≡ true → length (numbers_tree t) ≤ 65536 → first_free + length (slots t.params) + all_room (body_of t) < 2 ^ 32
tree_fits t w few =
    let p = params_few t.kind t.params t.defaults (and_parts _ _ w).0 in
    omega (arith, body_room t, length-append (numbers_defaults t.defaults) (numbers_stmts t.body))

-- all registers that the code of a tree may have
module _ (t : T.Tree) (typed : well_typed t ≡ true) (settled : IsSettled t) (ps : List Slot) (same : slots_of ps ≡ slots t.params) where
  body : Stmts
  body = body_of t

  abbrev pub code : Block
  code = shader_code (body_of t) (slots_of ps)

  abbrev pub top : ℕ
  top = behind (slots_of ps) first_free (body_of t)

  abbrev pub all_registers : List Register
  all_registers = given_registers t.kind ps ++ (shared (behind (slots_of ps) first_free (body_of t)) ++ made_all (body_of t) (slots_of ps) first_free (behind (slots_of ps) first_free (body_of t)))

  grid : GridAll (body_of t) (slots_of ps)
  grid = subst (λ ss. GridAll (body_of t) ss) (sym same) (body_settled t typed settled)

  placed : PlacedAll t.kind false (body_of t) (slots_of ps)
  placed = subst (λ ss. PlacedAll t.kind false (body_of t) ss) (sym same) (body_placed t typed)

  pub code_placed : is_placed t.kind false true code ≡ true
  code_placed = all_grid t.kind false false (λ h. h) (body_of t) (slots_of ps) first_free top grid placed

  pub code_shallow : depth_tree t ≤ 256 → nesting code ≤ 1024
  code_shallow h = let n = all_nest (body_of t) (slots_of ps) first_free top 256 (body_nesting t 256 h) in omega arith

  -- the code's registers, and those that its state begins with, are among them
  pub among_all : list_all (is_one_of all_registers) (given_registers t.kind ps ++ registers_of code) ≡ true
  among_all =
      let p = is_one_of all_registers in
      let made = made_all (body_of t) (slots_of ps) first_free top in
      let all = all_one_of all_registers in
      let given = all_first p (given_registers t.kind ps) (shared top ++ made) all in
      let rest = all_second p (given_registers t.kind ps) (shared top ++ made) all in
      let of_kind = all_first p (kind_registers t.kind) (registers_from first_free ps) given in
      let of_params = all_second p (kind_registers t.kind) (registers_from first_free ps) given in
      let in_code =
      all_within p t.kind (named_in p t.kind of_kind) (λ s r. refl) false (body_of t) (slots_of ps) first_free top (grid_all (body_of t) (slots_of ps) grid) placed
      (subst (λ l. list_all p l ≡ true) (sym (params_frame ps first_free)) of_params) (λ _. all_first p (shared top) made rest) (all_second p (shared top) made rest) in
      all_join p (given_registers t.kind ps) (registers_of code) given (sym (within_named p code) ∙ in_code)

  pub all_weight : weight all_registers ≤ 9 * rows_of t
  all_weight =
      let made = made_all (body_of t) (slots_of ps) first_free top in
      let scope = scope_of_params t.params in
      let classes : classes_of (slots_of ps) ≡ local_classes t.params = ap classes_of same ∙ scope.classes in
      let load : load_all (body_of t) (slots t.params) ≤ 9 * rows_stmts t.body (local_classes t.params) =
      stmts_rows t.body (in_shader t.kind) (local_types t.params) (local_classes t.params) true (slots t.params) scope (and_parts _ _ typed).1 in
      let here = ap (load_all (body_of t)) same in
      omega (
        arith,
        weight_on (given_registers t.kind ps) (shared top ++ made),
        weight_on (kind_registers t.kind) (registers_from first_free ps),
        weight_on (shared top) made,
        all_load (body_of t) (slots_of ps) first_free top,
        params_weight ps first_free,
        ap rows_of_classes classes,
        kind_weight t.kind,
        load,
        here,
      )

  module _ (varying uniform : RegisterSet) (v : IsSetOf varying false (given_registers t.kind ps ++ registers_of code)) (u : IsSetOf uniform true (given_registers t.kind ps ++ registers_of code)) where
    pub code_given : list_all (has varying uniform) (given_registers t.kind ps) ≡ true
    code_given = all_first (has varying uniform) (given_registers t.kind ps) (registers_of code) (has_all varying uniform _ v u)

    pub code_named : within (has varying uniform) code ≡ true
    code_named = within_named (has varying uniform) code ∙ all_second (has varying uniform) (given_registers t.kind ps) (registers_of code) (has_all varying uniform _ v u)

    pub code_few : rows_in varying ≤ 9 * rows_of t
    code_few = let r = rows_fit varying (given_registers t.kind ps ++ registers_of code) all_registers v among_all in let w = all_weight in omega arith
