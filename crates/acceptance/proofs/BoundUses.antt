-- What the parameters of requests are bound to, by the shaders that are read.
use Rattle.std.proofs.Common.{◌≡◌, ℕ, zero, suc, ◌+◌, ◌<◌, ◌≤◌, List, [], ◌∷◌, ◌++◌, length, get_or, map, take, Some, refl, sym, ap, ◌∙◌, subst, arith}
use Rattle.std.specs.Prelude.{slice_get}
use Rattle.std.proofs.lemmas.List.{take_more, take_all, length-take}
use Rattle.std.proofs.lemmas.Option.{slice_get-get_or}
use Rattle.scene.specs.declared.uses.ShaderUse.{ShaderUse}
use Rattle.sl_ast.specs.declared.typed.Value.{Value}
use Rattle.sl_ast.specs.Typed.{Tree}
use Rattle.shader_binding.specs.Sets.{FitsUse, FitUses}
use Rattle.acceptance.specs.declared.read.ReadShader.{ReadShader}
use Rattle.acceptance.specs.Bound.{bound_values}
use Rattle.acceptance.specs.Reading.{tree_read, values_with, values_at, all_values}

-- ---- one use more
pub fit_more : (trees : List Tree) (us : List ShaderUse) (ns : List ℕ) (vss : List (List Value)) (u : ShaderUse) (n : ℕ) (vs : List Value)
    → FitUses trees us ns vss → FitsUse u vs (slice_get trees n) → FitUses trees (us ++ u ∷ []) (ns ++ n ∷ []) (vss ++ vs ∷ [])
fit_more trees [] [] [] u n vs h k = (k, tt)
fit_more trees [] [] (w ∷ ws) u n vs h k = absurd h
fit_more trees [] (m ∷ ms) ws u n vs h k = absurd h
fit_more trees (v ∷ us) [] ws u n vs h k = absurd h
fit_more trees (v ∷ us) (m ∷ ms) [] u n vs h k = absurd h
fit_more trees (v ∷ us) (m ∷ ms) (w ∷ ws) u n vs h k = (h.0, fit_more trees us ms ws u n vs h.1 k)

pub values_more : (read : List ReadShader) (us : List ShaderUse) (ns : List ℕ) (u : ShaderUse) (n : ℕ) → length us ≡ length ns
    → all_values read (us ++ u ∷ []) (ns ++ n ∷ []) ≡ all_values read us ns ++ values_at read u n ∷ []
values_more read [] [] u n e = refl
values_more read [] (m ∷ ms) u n e = absurd (omega (arith, e))
values_more read (v ∷ us) [] u n e = absurd (omega (arith, e))
values_more read (v ∷ us) (m ∷ ms) u n e = ap (λ l. values_at read v m ∷ l) (values_more read us ms u n (omega (arith, e)))

-- the first i + 1 of them
pub all_next : (read : List ReadShader) (uses : List ShaderUse) (places : List ℕ) (i : ℕ) (u : ShaderUse) (n : ℕ) (old new : List (List Value)) (vs : List Value)
    → length places ≡ length uses → i < length uses → u ≡ get_or uses i u → n ≡ get_or places i 0
    → old ≡ all_values read (take i uses) (take i places) → vs ≡ values_at read u n → new ≡ old ++ vs ∷ []
    → new ≡ all_values read (take (i + 1) uses) (take (i + 1) places)
all_next read uses places i u n old new vs many low is at so_far here added =
    let us : take (i + 1) uses ≡ take i uses ++ u ∷ [] = take_more uses i u low ∙ ap (λ v. take i uses ++ v ∷ []) (sym is) in
    let ns : take (i + 1) places ≡ take i places ++ n ∷ [] = take_more places i 0 (omega (arith, many, low)) ∙ ap (λ (m : ℕ). take i places ++ m ∷ []) (sym at) in
    let same : length (take i uses) ≡ length (take i places) =
    let a = length-take i uses in
    let b = length-take i places in
    omega (arith, a, b, many, low) in
    added ∙ ap (λ l. l ++ vs ∷ []) so_far ∙ ap (λ v. all_values read (take i uses) (take i places) ++ v ∷ []) here
    ∙ sym (ap (λ l. all_values read l (take (i + 1) places)) us ∙ ap (all_values read (take i uses ++ u ∷ [])) ns ∙ values_more read (take i uses) (take i places) u n same)

pub fit_next : (trees : List Tree) (uses : List ShaderUse) (places : List ℕ) (i : ℕ) (u : ShaderUse) (n : ℕ) (old new : List (List Value)) (vs : List Value)
    → length places ≡ length uses → i < length uses → u ≡ get_or uses i u → n ≡ get_or places i 0
    → FitUses trees (take i uses) (take i places) old → FitsUse u vs (slice_get trees n) → new ≡ old ++ vs ∷ []
    → FitUses trees (take (i + 1) uses) (take (i + 1) places) new
fit_next trees uses places i u n old new vs many low is at so_far here added =
    let us : take (i + 1) uses ≡ take i uses ++ u ∷ [] = take_more uses i u low ∙ ap (λ v. take i uses ++ v ∷ []) (sym is) in
    let ns : take (i + 1) places ≡ take i places ++ n ∷ [] = take_more places i 0 (omega (arith, many, low)) ∙ ap (λ (m : ℕ). take i places ++ m ∷ []) (sym at) in
    subst (λ l. FitUses trees l (take (i + 1) places) new) (sym us)
    (subst (λ l. FitUses trees (take i uses ++ u ∷ []) l new) (sym ns)
    (subst (λ l. FitUses trees (take i uses ++ u ∷ []) (take i places ++ n ∷ []) l) (sym added)
    (fit_more trees (take i uses) (take i places) old u n vs so_far here)))

-- all of them
pub all_done : (read : List ReadShader) (uses : List ShaderUse) (places : List ℕ) (i : ℕ) (vss : List (List Value)) → length places ≡ length uses → length uses ≤ i
    → vss ≡ all_values read (take i uses) (take i places) → vss ≡ all_values read uses places
all_done read uses places i vss many past is =
    is ∙ ap (λ l. all_values read l (take i places)) (take_all i uses past) ∙ ap (all_values read uses) (take_all i places (omega (arith, many, past)))

pub fit_done : (trees : List Tree) (uses : List ShaderUse) (places : List ℕ) (i : ℕ) (vss : List (List Value)) → length places ≡ length uses → length uses ≤ i
    → FitUses trees (take i uses) (take i places) vss → FitUses trees uses places vss
fit_done trees uses places i vss many past is =
    subst (λ l. FitUses trees uses l vss) (take_all i places (omega (arith, many, past)))
    (subst (λ l. FitUses trees l (take i places) vss) (take_all i uses past) is)

-- the values of a use over the shader at its place
pub at_place : (read : List ReadShader) (u : ShaderUse) (n : ℕ) (s : ReadShader) (vs : List Value) → n < length read → s ≡ get_or read n s → vs ≡ bound_values (tree_read s) u
    → vs ≡ values_at read u n
at_place read u n s vs low is here = here ∙ sym (ap (λ o. values_with o u) (slice_get-get_or read n s low ∙ ap (λ r. Some r) (sym is)))

image_there : {A B : Type 0} (f : A → B) (xs : List A) (k : ℕ) (x : A) → slice_get xs k ≡ Some x → slice_get (map f xs) k ≡ Some (f x)
image_there f [] k x e = absurd (cc e)
image_there f (y ∷ ys) zero x e = let same : y ≡ x = cc e in ap (λ z. Some (f z)) same
image_there f (y ∷ ys) (suc k) x e = image_there f ys k x e

pub fit_place : (read : List ReadShader) (u : ShaderUse) (n : ℕ) (s : ReadShader) (vs : List Value) → n < length read → s ≡ get_or read n s
    → FitsUse u vs (Some (tree_read s)) → FitsUse u vs (slice_get (map tree_read read) n)
fit_place read u n s vs low is here =
    subst (λ o. FitsUse u vs o) (sym (image_there tree_read read n s (slice_get-get_or read n s low ∙ ap (λ r. Some r) (sym is)))) here
