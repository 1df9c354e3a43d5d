-- Where no primitive is refused for its variables, they fit.
use Rattle.std.proofs.Common.{◌≡◌, ℕ, zero, suc, Bool, true, false, not, ◌&&◌, ◌||◌, List, [], ◌∷◌, Option, Some, None, option_map, All, cond, refl, sym, ap, ◌∙◌}
use Rattle.std.specs.Prelude.{slice_get, slice_index_or}
use Rattle.std.specs.List.{list_any}
use Rattle.std.specs.Str.{bytes_eq}
use Rattle.std.proofs.lemmas.List.Elements.{All-nil, All-cons, All-weaker}
use Rattle.scene.specs.declared.params.Kind.{Kind}
use Rattle.scene.specs.declared.params.Kind.TheVariants as kinds
use Rattle.scene.specs.Scene.{VariableValue, PrimValue, FrameValue}
use Rattle.scene.specs.declared.uses.ShaderUse.{ShaderUse}
use Rattle.sl_ast.specs.declared.kinds.SlType.{SlType}
use Rattle.sl_ast.specs.declared.kinds.SlType.TheVariants as types
use Rattle.sl_ast.specs.declared.typed.Value.{Value}
use Rattle.sl_ast.specs.Typed.{Local, Tree}
use Rattle.texture.specs.Images.{Image}
use Rattle.sl_look_ups.specs.Naming.{binding_params}
use Rattle.shader_binding.specs.Sets.{SetValue, FitUses, FitLooks, Fits, Bound, bound_with}
use Rattle.shader_binding.specs.Predefined.{sets_predefined}
use Rattle.shader_binding.specs.Bindings.{kind_of, Binds, FitVariables, FitUseVariables, FitSomeVariables, FitsPrim}
use Rattle.acceptance.specs.Causes.{Cause}
use Rattle.acceptance.specs.RequestFit.{is_of_type}
use Rattle.acceptance.specs.PrimFit.{FitPrims, is_unfit, binds_unfit, tree_at, unfit_for, unfit_at, is_unfit_prim, prim_refused, frame_refused, prims_refused}
use Rattle.acceptance.proofs.Names.{same_name, itself}
use Rattle.acceptance.proofs.SetSame.{or_false}
use Rattle.acceptance.proofs.Firsts.{none_of}

-- ---- a variable and the parameters of one shader
of_kind : (t : SlType) (k : Kind) → is_of_type t k ≡ true → k ≡ kind_of t
of_kind types.Float kinds.Float h = refl
of_kind types.Color kinds.Color h = refl
of_kind types.Point kinds.Point h = refl
of_kind types.Vector kinds.Vector h = refl
of_kind types.Normal kinds.Normal h = refl
of_kind types.Str kinds.Str h = refl
of_kind _ _ h = absurd (cc h)

bound_both : (is varies uniform : Bool) → (not is || (varies && uniform)) ≡ false → (is ≡ true) × (uniform ≡ true → varies ≡ false)
bound_both false varies uniform h = absurd (cc h)
bound_both true false uniform h = (refl, λ e. refl)
bound_both true true false h = (refl, λ e. absurd (cc e))
bound_both true true true h = absurd (cc h)

named : (a b : Bool) → a ≡ true → (a && b) ≡ false → b ≡ false
named a b e h = sym (ap (λ c. c && b) e) ∙ h

unset : (a b : Bool) → a ≡ false → (not a && b) ≡ false → b ≡ false
unset a b e h = sym (ap (λ c. not c && b) e) ∙ h

one_fits : (p : Local) (ps : List Local) (x : VariableValue) → binds_unfit (p ∷ ps) x ≡ false → bytes_eq x.name p.name ≡ true → sets_predefined p.name ≡ false → Binds p x
one_fits p ps x h same free =
    let name : x.name ≡ p.name = same_name x.name p.name same in
    let none : (is_unfit x p || list_any (is_unfit x) ps) ≡ false = unset (sets_predefined x.name) (is_unfit x p || list_any (is_unfit x) ps) (ap sets_predefined name ∙ free) h in
    let one : is_unfit x p ≡ false = (or_false (is_unfit x p) (list_any (is_unfit x) ps) none).0 in
    let back : bytes_eq p.name x.name ≡ true = ap (bytes_eq p.name) name ∙ itself p.name in
    let both = bound_both (is_of_type p.kind x.kind) x.varying p.uniform (named (bytes_eq p.name x.name) (not (is_of_type p.kind x.kind) || (x.varying && p.uniform)) back one) in
    record { kind = of_kind p.kind x.kind both.0; steady = both.1 }

rest_fit : (p : Local) (ps : List Local) (x : VariableValue) → binds_unfit (p ∷ ps) x ≡ false → binds_unfit ps x ≡ false
rest_fit p ps x h = by (sets_predefined x.name) h
  where
    by : (b : Bool) → (not b && (is_unfit x p || list_any (is_unfit x) ps)) ≡ false → (not b && list_any (is_unfit x) ps) ≡ false
    by true e = refl
    by false e = (or_false (is_unfit x p) (list_any (is_unfit x) ps) e).1

none_passes : {A : Type 0} (test : A → Bool) (xs : List A) → list_any test xs ≡ false → All (λ x. test x ≡ false) xs
none_passes test [] h = All-nil (λ x. test x ≡ false)
none_passes test (x ∷ xs) h =
    let both = or_false (test x) (list_any test xs) h in
    All-cons (λ y. test y ≡ false) x xs both.0 (none_passes test xs both.1)

all_fit : (ps : List Local) (xs : List VariableValue) → All (λ x. binds_unfit ps x ≡ false) xs → FitVariables ps xs
all_fit [] xs h = All-nil (λ p. All (λ x. bytes_eq x.name p.name ≡ true → sets_predefined p.name ≡ false → Binds p x) xs)
all_fit (p ∷ ps) xs h =
    All-cons (λ q. All (λ x. bytes_eq x.name q.name ≡ true → sets_predefined q.name ≡ false → Binds q x) xs) p ps
    (All-weaker (λ x. binds_unfit (p ∷ ps) x ≡ false) (λ x. bytes_eq x.name p.name ≡ true → sets_predefined p.name ≡ false → Binds p x) (one_fits p ps) xs h)
    (all_fit ps xs (All-weaker (λ x. binds_unfit (p ∷ ps) x ≡ false) (λ x. binds_unfit ps x ≡ false) (rest_fit p ps) xs h))

fits_tree : (ps : List Local) (xs : List VariableValue) → list_any (binds_unfit ps) xs ≡ false → FitVariables ps xs
fits_tree ps xs h = all_fit ps xs (none_passes (binds_unfit ps) xs h)

-- ---- the shader of a use
tree_of_bound : (images : List Image) (o : Option Tree) (p : Option (List Value)) (r : Option (List (Option ℕ))) (q : Option ShaderUse) (b : Bound) → bound_with images o p r q ≡ Some b → o ≡ Some b.tree
tree_of_bound images (Some t) (Some vs) (Some es) (Some u) b h = ap (option_map (λ (c : Bound). c.tree)) h
tree_of_bound images None p r q b h = absurd (cc h)
tree_of_bound images (Some t) None r q b h = absurd (cc h)
tree_of_bound images (Some t) (Some vs) None q b h = absurd (cc h)
tree_of_bound images (Some t) (Some vs) (Some es) None b h = absurd (cc h)

no_use : (images : List Image) (o : Option Tree) (p : Option (List Value)) (r : Option (List (Option ℕ))) → bound_with images o p r None ≡ None
no_use images None p r = refl
no_use images (Some t) None r = refl
no_use images (Some t) (Some vs) None = refl
no_use images (Some t) (Some vs) (Some es) = refl

-- in a set that fits, each bound shader's tree stands at its use's place
use_tree : (images : List Image) (trees : List Tree) (us : List ShaderUse) (ns : List ℕ) (vss : List (List Value)) (ess : List (List (Option ℕ))) (n : ℕ) (b : Bound) → FitUses trees us ns vss
    → bound_with images (slice_get trees (slice_index_or ns n 0)) (slice_get vss n) (slice_get ess n) (slice_get us n) ≡ Some b → tree_at trees ns n ≡ Some b.tree
use_tree images trees [] ns vss ess n b fits h = absurd (cc (sym (no_use images (slice_get trees (slice_index_or ns n 0)) (slice_get vss n) (slice_get ess n)) ∙ h))
use_tree images trees (u ∷ us) [] vss ess n b fits h = absurd fits
use_tree images trees (u ∷ us) (k ∷ ns) [] ess n b fits h = absurd fits
use_tree images trees (u ∷ us) (k ∷ ns) (vs ∷ vss) ess zero b fits h = tree_of_bound images (slice_get trees k) (Some vs) (slice_get ess 0) (Some u) b h
use_tree images trees (u ∷ us) (k ∷ ns) (vs ∷ vss) (es ∷ ess) (suc n) b fits h = use_tree images trees us ns vss ess n b fits.1 h
use_tree images trees (u ∷ us) (k ∷ ns) (vs ∷ vss) [] (suc n) b fits h = use_tree images trees us ns vss [] n b fits.1 h

use_fits : (s : SetValue) (uses : List ShaderUse) (n : ℕ) (xs : List VariableValue) → Fits s uses → unfit_at s.trees s.of_use (Some n) xs ≡ false → FitUseVariables s uses n xs
use_fits s uses n xs fits h b bound =
    fits_tree (binding_params b.tree) xs (sym (ap (λ o. unfit_for o xs) (use_tree s.textures s.trees uses s.of_use s.bound s.look_ups n b fits.uses bound)) ∙ h)

some_fits : (s : SetValue) (uses : List ShaderUse) (o : Option ℕ) (xs : List VariableValue) → Fits s uses → unfit_at s.trees s.of_use o xs ≡ false → FitSomeVariables s uses o xs
some_fits s uses None xs fits h = tt
some_fits s uses (Some n) xs fits h = use_fits s uses n xs fits h

fits_prim : (s : SetValue) (uses : List ShaderUse) (p : PrimValue) → Fits s uses → is_unfit_prim s.trees s.of_use p ≡ false → FitsPrim s uses p
fits_prim s uses p fits h =
    let surface = or_false (unfit_at s.trees s.of_use (Some p.surface) p.vars) (unfit_at s.trees s.of_use p.displacement p.vars || unfit_at s.trees s.of_use p.atmosphere p.vars) h in
    let others = or_false (unfit_at s.trees s.of_use p.displacement p.vars) (unfit_at s.trees s.of_use p.atmosphere p.vars) surface.1 in
    record {
      surface = use_fits s uses p.surface p.vars fits surface.0;
      displacement = some_fits s uses p.displacement p.vars fits others.0;
      atmosphere = some_fits s uses p.atmosphere p.vars fits others.1;
    }

-- ---- all primitives
not_refused : (unfit : Bool) (cause : Cause) → cond unfit (Some cause) None ≡ None → unfit ≡ false
not_refused true cause h = absurd (cc h)
not_refused false cause h = refl

fits_frame : (s : SetValue) (uses : List ShaderUse) (fits : Fits s uses) (f : FrameValue) → frame_refused s.trees s.of_use f ≡ None → All (FitsPrim s uses) f.prims
fits_frame s uses fits f h =
    All-weaker (λ p. prim_refused s.trees s.of_use p ≡ None) (FitsPrim s uses) (λ p none. fits_prim s uses p fits (not_refused (is_unfit_prim s.trees s.of_use p) _ none))
    f.prims (none_of (prim_refused s.trees s.of_use) f.prims h)

fit_prims : (s : SetValue) (uses : List ShaderUse) (fs : List FrameValue) → Fits s uses → prims_refused s fs ≡ None → FitPrims s uses fs
fit_prims s uses fs fits h =
    All-weaker (λ f. frame_refused s.trees s.of_use f ≡ None) (λ f. All (FitsPrim s uses) f.prims) (fits_frame s uses fits) fs
    (none_of (frame_refused s.trees s.of_use) fs h)

-- the same by the parts of what fits
pub fit_by_parts : (s : SetValue) (uses : List ShaderUse) (fs : List FrameValue) → FitUses s.trees uses s.of_use s.bound → FitLooks s.trees s.of_use s.look_ups → prims_refused s fs ≡ None
    → FitPrims s uses fs
fit_by_parts s uses fs bound looks h = fit_prims s uses fs (record { uses = bound; look_ups = looks }) h
