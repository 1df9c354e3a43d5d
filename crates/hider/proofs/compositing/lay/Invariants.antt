use Rattle.std.proofs.Common.{◌≡◌, List, ◌++◌, drop}
use Rattle.std.specs.Prelude.{pos}
use Rattle.fixed_math.specs.declared.vec3.Axis.TheVariants.{X, Y, Z}
use Rattle.hider.specs.declared.fragment.Fragment.{Fragment}
use Rattle.hider.specs.Composite.{composite_from}
use Rattle.hider.proofs.compositing.lay.Given as goal

abbrev pub invariant-loop-f : goal.invariant-loop-f
invariant-loop-f l = record {
  x : (rest : List Fragment) → composite_from X l.colour.x l.passed.x (drop l.f-index l.fragments ++ rest) ≡ composite_from X (pos 0) (pos 65536) (l.fragments ++ rest);
  y : (rest : List Fragment) → composite_from Y l.colour.y l.passed.y (drop l.f-index l.fragments ++ rest) ≡ composite_from Y (pos 0) (pos 65536) (l.fragments ++ rest);
  z : (rest : List Fragment) → composite_from Z l.colour.z l.passed.z (drop l.f-index l.fragments ++ rest) ≡ composite_from Z (pos 0) (pos 65536) (l.fragments ++ rest);
}
