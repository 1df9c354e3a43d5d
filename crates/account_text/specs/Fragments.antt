-- The fragments of a sample in JSON.
use Rattle.std.specs.Prelude.{ℕ, ◌^◌, Bool, true, false, List, [], ◌∷◌, ◌++◌, codes, map}
use Rattle.patches.specs.Parts.{Part}
use Rattle.hider.specs.declared.quad.Corner.{Corner}
use Rattle.serde_json.specs.Data.{Data, Members, object, put}
use Rattle.pixel_record.specs.declared.fragment.FragmentAccount.{FragmentAccount}
use Rattle.pixel_record.specs.declared.fragment.GridCell.{GridCell}
use Rattle.pixel_record.specs.declared.fragment.GridPoint.{GridPoint}
use Rattle.account_text.specs.Numbers.{members, object_of, list_of, count, num, triple, spot}
use Rattle.account_text.specs.Primitive.{primitive_json}

-- a part of a direction, which is halved so often
abbrev pub part_json : ℕ → ℕ → Data
part_json halvings number = object_of ((codes "of", count (2 ^ halvings)) ∷ (codes "part", count number) ∷ [])

-- the parts of a patch's u and v that a piece is
abbrev pub piece_json : Part → Data
piece_json p = object_of ((codes "u", part_json p.a p.i) ∷ (codes "v", part_json p.b p.j) ∷ [])

-- where a cell stands in its grid
abbrev pub cell_json : GridCell → Data
cell_json c = object_of ((codes "column", count c.column) ∷ (codes "columns", count c.columns) ∷ (codes "row", count c.row) ∷ (codes "rows", count c.rows) ∷ [])

-- what the fragments to this one make: their colour, and what passes through them
unfoldable pub composite_json : FragmentAccount → Data
composite_json f = object_of ((codes "colour", triple f.colour) ∷ (codes "passed", triple f.passed) ∷ [])

-- a corner of a micropolygon: as the grid has it when the shutter opens, and as the sample sees it
unfoldable pub corner_json : GridPoint → Corner → Data
corner_json p s = object_of (
    (codes "Ci", triple p.colour) ∷
    (codes "Oi", triple p.opacity) ∷
    (codes "P", triple p.point) ∷
    (codes "colour", triple s.colour) ∷
    (codes "depth", num s.depth) ∷
    (codes "opacity", triple s.opacity) ∷
    (codes "raster", spot s.place) ∷
    (codes "u", num p.u) ∷
    (codes "v", num p.v) ∷ [])

-- corners in turn
abbrev pub corners : List GridPoint → List Corner → List Data
corners [] seen = []
corners (p ∷ points) [] = []
corners (p ∷ points) (s ∷ seen) = corner_json p s ∷ corners points seen

-- those of a fragment's micropolygon
unfoldable pub corners_json : FragmentAccount → Data
corners_json f = list_of (corners f.cell.points (f.seen.a ∷ f.seen.b ∷ f.seen.c ∷ f.seen.d ∷ []))

-- what is shown, and where it comes from
unfoldable pub shown_members : FragmentAccount → Members
shown_members f = members (
    (codes "cell", cell_json f.cell) ∷
    (codes "colour", triple f.fragment.colour) ∷
    (codes "composite", composite_json f) ∷
    (codes "depth", num f.fragment.depth) ∷
    (codes "opacity", triple f.fragment.opacity) ∷
    (codes "piece", piece_json f.cell.piece) ∷
    (codes "primitive", primitive_json f.primitive) ∷ [])

-- a fragment, with the corners of its micropolygon where they are wanted
unfoldable pub fragment_json : Bool → FragmentAccount → Data
fragment_json true f = object (put (codes "corners") (corners_json f) (shown_members f))
fragment_json false f = object (shown_members f)

-- the fragments of a sample in turn
abbrev pub fragments_json : Bool → List FragmentAccount → Data
fragments_json points fragments = list_of (map (fragment_json points) fragments)
