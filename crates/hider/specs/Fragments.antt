-- What a sample sees: the fragments of the micropolygons that cover it, in order of depth.
use Rattle.std.specs.Prelude.{ℤ, ◌≤ℤ◌, ◌≡◌, cond, int_le, Bool, Option, List, [], ◌∷◌}
use Rattle.std.specs.List.{fold, filter, filter_map, cons_option}
use Rattle.std.specs.Option.{option_and_then}
use Rattle.std.specs.Ordering.{int_eq}
use Rattle.transforms.specs.declared.view.View.{View}
use Rattle.hider.specs.Cells.{Micropolygon, seen, seen_at}
use Rattle.hider.specs.Coverage.{covers}
use Rattle.hider.specs.declared.fragment.Fragment.{Fragment}
use Rattle.hider.specs.declared.quad.Quad.{Quad}
use Rattle.hider.specs.declared.sample.Sample.{Sample}

-- what a micropolygon shows at a sample: what the camera sees of it at the sample's time, where that covers the sample's place
unfoldable pub fragment_of : View → Sample → Micropolygon → Option Fragment
fragment_of v s m = option_and_then (λ q. covers q s.place) (seen_at v s.time m)

-- the fragments of the covering micropolygons, in the order of the scene
abbrev pub covering : View → List Micropolygon → Sample → List Fragment
covering v ms s = filter_map (fragment_of v s) ms

-- the fragment of a quad on the raster that covers, where its one side isn't turned away
abbrev pub quad_covering : Bool → Bool → Quad → Sample → List Fragment
quad_covering one_sided flip q s = cons_option (option_and_then (λ r. covers r s.place) (seen one_sided flip q)) []

-- f put in by depth, behind those of equal depth
abbrev pub put_in : Fragment → List Fragment → List Fragment
put_in f [] = f ∷ []
put_in f (g ∷ gs) = cond (int_le g.depth f.depth) (g ∷ put_in f gs) (f ∷ g ∷ gs)

-- fragments put in one after another
abbrev pub put_all : List Fragment → List Fragment → List Fragment
put_all l fs = fold (λ k f. put_in f k) l fs

-- fragments in order of depth, those of equal depth in the order that they had
unfoldable pub by_depth : List Fragment → List Fragment
by_depth fs = put_all [] fs

-- all fragments of a sample, in order of depth, and those of equal depth in the order of the scene
abbrev pub fragments : View → List Micropolygon → Sample → List Fragment
fragments v ms s = by_depth (covering v ms s)

-- each fragment is no nearer than the one before it, and the first than m
abbrev pub IsSortedFrom : ℤ → List Fragment → Type 0
IsSortedFrom m [] = Unit {0}
IsSortedFrom m (f ∷ fs) = (m ≤ℤ f.depth) × IsSortedFrom f.depth fs

abbrev pub IsSorted : List Fragment → Type 0
IsSorted [] = Unit {0}
IsSorted (f ∷ fs) = IsSortedFrom f.depth fs

-- the fragments of one depth, in their order
abbrev pub of_depth : ℤ → List Fragment → List Fragment
of_depth z fs = filter (λ f. int_eq f.depth z) fs

-- gs is fs in order of depth, and keeps the order of those of equal depth
pub record IsOrderOf (fs gs : List Fragment) : Type 0 where
  pub sorted : IsSorted gs
  pub kept : (z : ℤ) → of_depth z gs ≡ of_depth z fs

-- the one such list is `by_depth fs`
pub record IsOnlyOrderOf (fs : List Fragment) : Type 0 where
  pub order : IsOrderOf fs (by_depth fs)
  pub only : (gs : List Fragment) → IsOrderOf fs gs → gs ≡ by_depth fs
