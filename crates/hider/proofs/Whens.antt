-- A micropolygon that moves, at one time: as one that stays where that is then.
use Rattle.std.proofs.Common.{◌≡◌, ℕ, ap, arith, refl, ◌∙◌, Bool, true, false, []}
use Rattle.std.specs.Prelude.{None}
use Rattle.std.specs.List.{cons_option}
use Rattle.transforms.specs.declared.view.View.{View}
use Rattle.hider.specs.declared.bounds.Bounds.{Bounds}
use Rattle.hider.specs.declared.sample.Sample.{Sample}
use Rattle.hider.specs.Bounding.{bounds_of, holds}
use Rattle.hider.specs.CellValues.{CellValues, cell_when, corners_when, micropolygon_of}
use Rattle.hider.specs.Cells.{is_turned_away, projected, still, turn}
use Rattle.hider.specs.Coverage.{covers}
use Rattle.hider.specs.Extents.{HasOneColour}
use Rattle.hider.specs.Flat.{FlatCell, IsFlat, IsPlaced, are_all_seen, flat_quad, held_covers, raster_point}
use Rattle.hider.specs.Fragments.{fragment_of, quad_covering}
use Rattle.hider.specs.SeenCorners.{are_seen}
use Rattle.hider.proofs.Flats.{held_is, not_held, placed_box, seen_flat, unseen_placed}
use Rattle.hider.proofs.Moves.{seen_none}

-- the cells where they are at a time
abbrev frozen : CellValues → ℕ → CellValues
frozen v t = record v { corner = λ i k u. v.corner i k t }

-- each with the colour and the opacity of its first corner
abbrev flattened : CellValues → ℕ → CellValues
flattened v t = record v { corner = λ i k u. v.corner i k t; colour = λ i k. v.colour i 0; opacity = λ i k. v.opacity i 0 }

frozen_shown : (w : View) (v : CellValues) (i : ℕ) (one_sided flip : Bool) (s : Sample) →
    fragment_of w s (micropolygon_of v one_sided flip i) ≡ fragment_of w s (still one_sided flip (cell_when (frozen v s.time) i 0))
unfolding fragment_of cell_when
frozen_shown w v i one_sided flip s = refl

frozen_is : (v : CellValues) (i t : ℕ) → cell_when (frozen v t) i 0 ≡ cell_when v i t
unfolding cell_when
frozen_is v i t = refl

flattened_cell : (v : CellValues) (i t : ℕ) → HasOneColour v i → cell_when v i t ≡ cell_when (flattened v t) i 0
unfolding cell_when
flattened_cell v i t h =
    rw (h.colour 1 (omega arith), h.colour 2 (omega arith), h.colour 3 (omega arith), h.opacity 1 (omega arith), h.opacity 2 (omega arith), h.opacity 3 (omega arith)) refl

flattened_shown : (w : View) (v : CellValues) (i : ℕ) (one_sided flip : Bool) (s : Sample) → HasOneColour v i →
    fragment_of w s (micropolygon_of v one_sided flip i) ≡ fragment_of w s (still one_sided flip (cell_when (flattened v s.time) i 0))
flattened_shown w v i one_sided flip s h = frozen_shown w v i one_sided flip s ∙ ap (λ k. fragment_of w s (still one_sided flip k)) (frozen_is v i s.time ∙ flattened_cell v i s.time h)

-- f has the corners of cell i at a time, as a camera sees them, and the colour and opacity of the first one
pub record IsFlatWhen (w : View) (v : CellValues) (i t : ℕ) (f : FlatCell) : Type 0 where
  pub a : f.a ≡ raster_point w (v.corner i 0 t)
  pub b : f.b ≡ raster_point w (v.corner i 1 t)
  pub c : f.c ≡ raster_point w (v.corner i 2 t)
  pub d : f.d ≡ raster_point w (v.corner i 3 t)
  pub colour : f.colour ≡ v.colour i 0
  pub opacity : f.opacity ≡ v.opacity i 0

placed_when : (w : View) (v : CellValues) (i t : ℕ) (f : FlatCell) → IsFlatWhen w v i t f → IsPlaced w (frozen v t).corner i f
placed_when w v i t f h = record { a = h.a; b = h.b; c = h.c; d = h.d }

flat_when : (w : View) (v : CellValues) (i t : ℕ) (f : FlatCell) → IsFlatWhen w v i t f → IsFlat w (flattened v t) i f
flat_when w v i t f h = record { placed = record { a = h.a; b = h.b; c = h.c; d = h.d }; colour = λ j. h.colour; opacity = λ j. h.opacity }

-- nothing shows where a corner is out of sight in depth
pub unseen_when : (w : View) (v : CellValues) (i : ℕ) (f : FlatCell) (one_sided flip : Bool) (s : Sample) → IsFlatWhen w v i s.time f → are_all_seen f ≡ false →
    fragment_of w s (micropolygon_of v one_sided flip i) ≡ None
unseen_when w v i f one_sided flip s h e =
    frozen_shown w v i one_sided flip s ∙ unseen_placed w (frozen v s.time) i f one_sided flip s (placed_when w v i s.time f h) e

-- nor outside the box round the corners
pub beside_when : (w : View) (v : CellValues) (i : ℕ) (f : FlatCell) (one_sided flip : Bool) (s : Sample) (b : Bounds) → IsFlatWhen w v i s.time f → are_all_seen f ≡ true →
    b ≡ bounds_of (flat_quad f) → holds b s.place ≡ false → fragment_of w s (micropolygon_of v one_sided flip i) ≡ None
unfolding fragment_of
beside_when w v i f one_sided flip s b h e box out =
    let k = cell_when (frozen v s.time) i 0 in
    let around : b ≡ bounds_of (projected w k) = box ∙ placed_box w (frozen v s.time) i f (placed_when w v i s.time f h) e in
    frozen_shown w v i one_sided flip s ∙ seen_none w one_sided flip k (λ q. covers q s.place) (not_held b (projected w k) s.place around out)

-- and one of one colour shows what that one shows which the corners make
pub flat_shown : (w : View) (v : CellValues) (i : ℕ) (f : FlatCell) (one_sided flip : Bool) (s : Sample) → IsFlatWhen w v i s.time f → HasOneColour v i → are_all_seen f ≡ true →
    cons_option (fragment_of w s (micropolygon_of v one_sided flip i)) [] ≡ quad_covering one_sided flip (flat_quad f) s
flat_shown w v i f one_sided flip s h o e =
    ap (λ x. cons_option x []) (flattened_shown w v i one_sided flip s o ∙ seen_flat w (flattened v s.time) i f one_sided flip s (flat_when w v i s.time f h) e)

-- which is looked up inside its box, where its one side isn't turned away
pub facing_shown : (b : Bounds) (f : FlatCell) (one_sided flip : Bool) (s : Sample) → b ≡ bounds_of (flat_quad f) → is_turned_away one_sided flip (turn (flat_quad f)) ≡ false →
    cons_option (held_covers b f s.place) [] ≡ quad_covering one_sided flip (flat_quad f) s
facing_shown b f one_sided flip s e t = let h = held_is b f s.place e in rw (h, t) refl

-- ---- corners
pub seen_when : (w : View) (v : CellValues) (i t : ℕ) (f : FlatCell) → IsFlatWhen w v i t f → are_all_seen f ≡ are_seen w (corners_when v i t)
unfolding raster_point
seen_when w v i t f h = rw (h.a, h.b, h.c, h.d) refl

-- the flat cell of the corners at a time
flat_at : View → CellValues → ℕ → ℕ → FlatCell
flat_at w v i t = record {
  a = raster_point w (v.corner i 0 t);
  b = raster_point w (v.corner i 1 t);
  c = raster_point w (v.corner i 2 t);
  d = raster_point w (v.corner i 3 t);
  colour = v.colour i 0;
  opacity = v.opacity i 0;
}

is_flat_at : (w : View) (v : CellValues) (i t : ℕ) → IsFlatWhen w v i t (flat_at w v i t)
unfolding flat_at
is_flat_at w v i t = record { a = refl; b = refl; c = refl; d = refl; colour = refl; opacity = refl }

pub unseen_corners : (w : View) (v : CellValues) (i : ℕ) (one_sided flip : Bool) (s : Sample) → are_seen w (corners_when v i s.time) ≡ false → fragment_of w s (micropolygon_of v one_sided flip i) ≡ None
unseen_corners w v i one_sided flip s e =
    let f = flat_at w v i s.time in
    let h = is_flat_at w v i s.time in
    unseen_when w v i f one_sided flip s h (seen_when w v i s.time f h ∙ e)
