-- No parameter of a settled tree is a text that varies.
use Rattle.std.proofs.Common.{◌≡◌, Bool, true, false, not, ◌||◌, List, [], ◌∷◌, Ok, refl, ap}
use Rattle.std.specs.List.{list_all}
use Rattle.std.proofs.lemmas.Bool.{and_parts, and_from, or_parts}
use Rattle.sl_ast.specs.declared.kinds.ControlCode.TheVariants.{T3}
use Rattle.sl_ast.specs.declared.kinds.SlKind.{SlKind}
use Rattle.sl_ast.specs.Classes.{is_uniform}
use Rattle.sl_ast.specs.Settled.{is_varying_string, outermost, settled_expr, settled_default, settled_defaults, IsSettled}
use Rattle.sl_ast.specs.Typed as T
use Rattle.sl_ast.specs.WellTyped.{well_typed, typed_defaults}
use Rattle.sl_meaning.specs.Core.{Slot}
use Rattle.sl_meaning.specs.Lowered.{slots}
use Rattle.uniform_varying.proofs.Parts.{then_parts, unless_parts, tree_parts}

abbrev pub is_rowable : Slot → Bool
is_rowable s = not (is_varying_string s.uniform s.kind)

defaults_rowable : (k : SlKind) (ls : List T.Local) (ds : List T.Default) (lit after : Bool) → typed_defaults k ls ds ≡ true → settled_defaults ds ls lit ≡ Ok after → list_all is_rowable (slots ls) ≡ true
defaults_rowable k [] ds lit after h s = refl
defaults_rowable k (l ∷ ls) [] lit after h s = absurd cc
defaults_rowable k (l ∷ ls) (d ∷ ds) lit after h s =
    let rest = (and_parts _ _ (and_parts _ _ h).1).1 in
    let both = then_parts (settled_default l d lit) (settled_defaults ds ls) after s in
    let here = unless_parts (is_varying_string l.uniform l.kind || not (is_uniform d.value [])) T3 d.place.line (settled_expr d.value [] outermost lit) both.0 both.1.0 in
    and_from _ _ (ap not (or_parts _ _ here.0).0) (defaults_rowable k ls ds both.0 after rest both.1.1)

pub params_rowable : (t : T.Tree) → well_typed t ≡ true → IsSettled t → list_all is_rowable (slots t.params) ≡ true
params_rowable t typed settled =
    let parts = tree_parts t settled in
    defaults_rowable t.kind t.params t.defaults false parts.0 (and_parts _ _ typed).0 parts.1.1.0
