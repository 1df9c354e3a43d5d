-- How the requests of a scene are bound, one after the other.
use Rattle.std.proofs.Common.{◌≡◌, ℕ, ◌+◌, ◌<◌, List, length, get_or, map, Option, Some, None, Result, Ok, sym, ap, ◌∙◌, subst, drop, arith, All}
use Rattle.std.specs.Prelude.{slice_get}
use Rattle.std.proofs.lemmas.Option.{slice_get-get_or}
use Rattle.outside.specs.Library.{Files}
use Rattle.scene.specs.declared.uses.ShaderUse.{ShaderUse}
use Rattle.sl_ast.specs.TreeView.{tree_of}
use Rattle.acceptance.specs.declared.refusal.Refusal.{Refusal}
use Rattle.acceptance.specs.declared.read.ReadShader.{ReadShader}
use Rattle.acceptance.specs.declared.shaders.UsedShaders.{UsedShaders}
use Rattle.acceptance.specs.Causes.{Cause, first_of}
use Rattle.acceptance.specs.Shaders.{shader_tree}
use Rattle.acceptance.specs.RequestFit.{binding_fault, cause_at}
use Rattle.acceptance.specs.UseFit.{use_refused}
use Rattle.acceptance.specs.Reading.{IsReadOf, ArePlaced, named_use, name_of}
use Rattle.acceptance.specs.Answers.{Because, Clears}
use Rattle.acceptance.proofs.Firsts.{first_next, first_here}
use Rattle.acceptance.proofs.Places.{use_placed, as_many, shader_named, within}

-- what is left to be looked at
abbrev pub bound_from : Files → List ShaderUse → Option Cause
bound_from files uses = first_of (map (λ u. use_refused u (shader_tree files u.name)) uses)

pub bound_next : (files : Files) (uses : List ShaderUse) (i : ℕ) (u : ShaderUse) (total : Option Cause) → i < length uses → u ≡ get_or uses i u
    → use_refused u (shader_tree files u.name) ≡ None → bound_from files (drop i uses) ≡ total → bound_from files (drop (i + 1) uses) ≡ total
bound_next files uses i u total low is none so_far = first_next (λ v. use_refused v (shader_tree files v.name)) uses i u total low is none so_far

pub unbound_next : (files : Files) (uses : List ShaderUse) (i : ℕ) (u : ShaderUse) (total : Option Cause) (r : Refusal) → i < length uses → u ≡ get_or uses i u
    → Because r (use_refused u (shader_tree files u.name)) → bound_from files (drop i uses) ≡ total → Because r total
unbound_next files uses i u total r low is because so_far = first_here (λ v. use_refused v (shader_tree files v.name)) uses i u total r low is because so_far

-- the place of a use
pub place_of_use : (uses : List ShaderUse) (shaders : UsedShaders) (read : List ReadShader) (places : List ℕ) (i : ℕ) (u : ShaderUse) → ArePlaced uses shaders
    → read ≡ shaders.read → places ≡ shaders.of_use → i < length uses → u ≡ get_or uses i u → slice_get (map name_of read) (get_or places i 0) ≡ Some u.name
place_of_use uses shaders read places i u placed same_read same_places low is =
    let here : map (slice_get (map name_of read)) places ≡ map named_use uses =
    ap (λ rs. map (slice_get (map name_of rs)) places) same_read ∙ ap (map (slice_get (map name_of shaders.read))) same_places ∙ placed in
    let count : length places ≡ length uses = as_many (map name_of read) places uses here in
    use_placed (map name_of read) places uses i (get_or places i 0) u here
    (slice_get-get_or places i 0 (omega (arith, count, low)))
    (slice_get-get_or uses i u low ∙ ap (λ v. Some v) (sym is))

-- a use over the tree of its shader
pub bound_by : {A : Type 0} (files : Files) (shaders : List ReadShader) (p : ℕ) (s : ReadShader) (u : ShaderUse) (r : Result A Refusal) → slice_get (map name_of shaders) p ≡ Some u.name
    → s ≡ get_or shaders p s → All (IsReadOf files) shaders → Clears r (cause_at u (binding_fault (tree_of s.tree) u)) → Clears r (use_refused u (shader_tree files u.name))
bound_by files shaders p s u r named is all clears =
    let low : p < length shaders = within shaders p u.name named in
    let read : IsReadOf files s = subst (IsReadOf files) (sym is) (all p s low) in
    let name : s.name ≡ u.name = shader_named shaders p s u.name named is in
    let tree : shader_tree files u.name ≡ Ok (tree_of s.tree) = ap (shader_tree files) (sym name) ∙ read.tree in
    subst (λ t. Clears r (use_refused u t)) (sym tree) clears
