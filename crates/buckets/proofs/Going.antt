-- How the drawing of a tile goes on, leaf by leaf.
use Rattle.std.proofs.Common.{◌≡◌, ℕ, suc, ◌+◌, ◌-◌, ◌<◌, ◌≤◌, max, arith, refl, sym, ◌∙◌, ap, subst, Bool, true, false, cond, ◌↔◌, List, [], ◌∷◌, ◌++◌, filter, append_assoc, Option, Some, None}
use Rattle.std.specs.Prelude.{nat_le, ◌&&◌, not, IsTrue}
use Rattle.std.proofs.lemmas.Bool.{and_parts}
use Rattle.std.proofs.lemmas.List.{append-nil}
use Rattle.patches.specs.Parts.{Part}
use Rattle.hider.specs.declared.seen_grid.SeenGrid.{SeenGrid}
use Rattle.bound_split.specs.declared.walk.Leaf.{Leaf}
use Rattle.scene.specs.Scene.{FrameValue}
use Rattle.hider.specs.declared.fragment.Fragment.{Fragment}
use Rattle.hider.specs.declared.sample.Sample.{Sample}
use Rattle.hider.specs.Fragments.{fragments}
use Rattle.hider.proofs.Showings.{blocked_all, blocked_each}
use Rattle.hider.specs.Tiles.{TileValue, Shows, BlocksAll, rect_of as rect_of_grid}
use Rattle.hider.proofs.Frames.{shows_nothing}
use Rattle.grid_epoch.specs.Kept.{has, pieces_in, points_in}
use Rattle.shader_binding.specs.Sets.{AcceptedValue}
use Rattle.buckets.specs.Culled.{leaf_nearest}
use Rattle.buckets.specs.Pictures.{FrameLeaf, leaf_micropolygons, frame_leaves, micropolygons_of}
use Rattle.buckets.specs.Sampled.{ShowsMore}
use Rattle.buckets.specs.TileWalk.{Drawing, Counts, in_new_epoch, has_room, with_needed, is_shown, is_behind, behind_in, meets_in, meets_tile, nearest, leaf_points, fragments_of, Walked, walked, past_leaf, past_leaves, past_tile, past_tiles, draws, tile_count, tile_grid, tile_walk}
use Rattle.buckets.specs.Standing.{InEpoch, next_epoch, Keeps, AreGrids, Goes, Going, Before, Skips, GivesNext, CountsGo, ShadesInPart, shows_in}
use Rattle.buckets.proofs.Behind.{behind_as, blocked_as}
use Rattle.buckets.proofs.Counting.{by_bool, needed_next, past_shown, past_unshown, leaves_rise, tiles_rise}

-- ---- the laws of a leaf in a tile: a tile that it doesn't meet shows it by itself, and so does one in which it lies behind what shows
pub record IsLawful (d : Drawing) (n : ℕ) (x : FrameLeaf) : Type 0 where
  pub outside : (t : TileValue) → t.grid ≡ tile_grid d n → meets_tile d n x ≡ false → ShowsMore d.frame.camera (leaf_micropolygons d.accepted d.frame x.prim x.part) t t
  pub behind : (t : TileValue) → t.grid ≡ tile_grid d n → ((f : Sample → List Fragment) → Shows t f → BlocksAll (nearest d x) t.grid f) → ShowsMore d.frame.camera (leaf_micropolygons d.accepted d.frame x.prim x.part) t t

abbrev pub AreLawful : Drawing → ℕ → List FrameLeaf → Type 0
AreLawful d n [] = Unit {0}
AreLawful d n (x ∷ xs) = IsLawful d n x × AreLawful d n xs

lawful_behind : (d : Drawing) (n : ℕ) (xs ys : List FrameLeaf) → AreLawful d n (xs ++ ys) → AreLawful d n ys
lawful_behind d n [] ys h = h
lawful_behind d n (x ∷ xs) ys h = lawful_behind d n xs ys h.1

pub lawful_rest : (e : InEpoch) (n : ℕ) (tile : TileValue) (rest : List FrameLeaf) (kept : List (Part × SeenGrid)) (count : ℕ) → Goes e n tile rest kept count
    → AreLawful e.begun.drawing n (frame_leaves e.begun.drawing.frame) → AreLawful e.begun.drawing n rest
lawful_rest e n tile rest kept count g all = lawful_behind e.begun.drawing n g.past rest (subst (AreLawful e.begun.drawing n) (sym g.split) all)

-- ---- lists of leaves
pub micropolygons-more : (a : AcceptedValue) (f : FrameValue) (xs : List FrameLeaf) (x : FrameLeaf) → micropolygons_of a f (xs ++ x ∷ []) ≡ micropolygons_of a f xs ++ leaf_micropolygons a f x.prim x.part
micropolygons-more a f [] x = append-nil (leaf_micropolygons a f x.prim x.part)
micropolygons-more a f (y ∷ ys) x =
    ap (λ r. leaf_micropolygons a f y.prim y.part ++ r) (micropolygons-more a f ys x)
    ∙ sym (append_assoc (leaf_micropolygons a f y.prim y.part) (micropolygons_of a f ys) (leaf_micropolygons a f x.prim x.part))

-- what shows the micropolygons of a leaf besides shows the leaf besides
with_leaf : (d : Drawing) (xs : List FrameLeaf) (x : FrameLeaf) (t : TileValue) → Shows t (fragments d.frame.camera (micropolygons_of d.accepted d.frame xs ++ leaf_micropolygons d.accepted d.frame x.prim x.part)) → Shows t (fragments_of d (xs ++ x ∷ []))
with_leaf d xs x t h = subst (λ ms. Shows t (fragments d.frame.camera ms)) (sym (micropolygons-more d.accepted d.frame xs x)) h

split-more : (xs : List FrameLeaf) (x : FrameLeaf) (ys all : List FrameLeaf) → xs ++ x ∷ ys ≡ all → (xs ++ x ∷ []) ++ ys ≡ all
split-more xs x ys all e = append_assoc xs (x ∷ []) ys ∙ e

-- ---- which leaves are shown
met : (d : Drawing) (n : ℕ) (shown : List FrameLeaf) (x : FrameLeaf) (b : Bool) → meets_tile d n x ≡ true → is_behind d n shown x ≡ b → is_shown d n shown x ≡ not b
unfolding is_shown
met d n shown x b h k = ap (λ m. m && not (is_behind d n shown x)) h ∙ ap (λ m. true && not m) k

pub blocked_behind : (d : Drawing) (n : ℕ) (shown : List FrameLeaf) (x : FrameLeaf) (t : TileValue) → t.grid ≡ tile_grid d n → BlocksAll (nearest d x) t.grid (fragments_of d shown) → is_behind d n shown x ≡ true
unfolding is_behind
blocked_behind d n shown x t same h = behind_as d n shown (nearest d x) t same h

behind_blocked : (d : Drawing) (n : ℕ) (shown : List FrameLeaf) (x : FrameLeaf) (t : TileValue) → t.grid ≡ tile_grid d n → is_behind d n shown x ≡ true → BlocksAll (nearest d x) t.grid (fragments_of d shown)
unfolding is_behind
behind_blocked d n shown x t same h = blocked_as d n shown (nearest d x) t same h

-- ---- a leaf that isn't shown: it doesn't meet the tile, or lies behind what shows there
-- the test of the code is that of the walk
shown_as : (d : Drawing) (n : ℕ) (shown : List FrameLeaf) (x : FrameLeaf) → is_shown d n shown x ≡ shows_in d.frame (rect_of_grid (tile_grid d n)) (behind_in d n shown) x
unfolding is_shown is_behind nearest shows_in meets_in
shown_as d n shown x = refl

shows_meets : (d : Drawing) (n : ℕ) (shown : List FrameLeaf) (x : FrameLeaf) → shows_in d.frame (rect_of_grid (tile_grid d n)) (behind_in d n shown) x ≡ true → meets_tile d n x ≡ true
unfolding shows_in meets_in
shows_meets d n shown x h = (and_parts (meets_tile d n x) (not (behind_in d n shown (leaf_nearest d.frame x.prim x.part))) h).0

hidden_from : (d : Drawing) (n : ℕ) (shown : List FrameLeaf) (x : FrameLeaf) → is_shown d n shown x ≡ false → meets_tile d n x ≡ true → is_behind d n shown x ≡ true
hidden_from d n shown x unshown meets =
    by_bool (is_behind d n shown x) (λ h. h) (λ h. absurd (let k : is_shown d n shown x ≡ true = met d n shown x false meets h in cc))

unshown_shows : (d : Drawing) (n : ℕ) (shown : List FrameLeaf) (x : FrameLeaf) (t : TileValue) → IsLawful d n x → t.grid ≡ tile_grid d n → Shows t (fragments_of d shown) → is_shown d n shown x ≡ false
    → ShowsMore d.frame.camera (leaf_micropolygons d.accepted d.frame x.prim x.part) t t
unshown_shows d n shown x t law same shows unshown =
    by_bool (meets_tile d n x)
    (λ m.
    let blocked = behind_blocked d n shown x t same (hidden_from d n shown x unshown m) in
    law.behind t same (λ f s. blocked_all t f (nearest d x) s (blocked_each t (fragments_of d shown) (nearest d x) shows blocked)))
    (λ m. law.outside t same m)

-- the drawing is past such a leaf, and shows what it showed
pub record GoesStill (e : InEpoch) (n : ℕ) (tile : TileValue) (shown rest : List FrameLeaf) (kept : List (Part × SeenGrid)) (count : ℕ) : Type 0 where
  pub goes : Goes e n tile rest kept count
  pub same : goes.shown ≡ shown

goes_unshown : (e : InEpoch) (n : ℕ) (tile : TileValue) (x : FrameLeaf) (rest : List FrameLeaf) (kept : List (Part × SeenGrid)) (count : ℕ)
    → IsLawful e.begun.drawing n x → (g : Goes e n tile (x ∷ rest) kept count) → is_shown e.begun.drawing n g.shown x ≡ false → GoesStill e n tile g.shown rest kept count
goes_unshown e n tile x rest kept count law g unshown =
    let d = e.begun.drawing in
    let w = walked g.shown g.counts in
    record {
      goes = record {
        shown = g.shown;
        past = g.past ++ x ∷ [];
        counts = g.counts;
        grid = g.grid;
        split = split-more g.past x rest (frame_leaves d.frame) g.split;
        shows = g.shows;
        shows_past = with_leaf d g.past x tile (unshown_shows d n g.shown x tile law g.grid g.shows unshown (micropolygons_of d.accepted d.frame g.past) g.shows_past);
        grids = g.grids;
        keeps = g.keeps;
        counted = g.counted;
        walk = ap (λ v. past_tiles d (tile_count d - (n + 1)) (n + 1) (past_leaves d n v rest).counts) (sym (past_unshown d n w x unshown)) ∙ g.walk;
      };
      same = refl;
    }

-- ---- a leaf behind what shows
pub goes_behind : (e : InEpoch) (n : ℕ) (tile : TileValue) (x : FrameLeaf) (rest : List FrameLeaf) (kept : List (Part × SeenGrid)) (count : ℕ)
    → IsLawful e.begun.drawing n x → meets_tile e.begun.drawing n x ≡ true → ((f : Sample → List Fragment) → Shows tile f → BlocksAll (nearest e.begun.drawing x) tile.grid f)
    → Goes e n tile (x ∷ rest) kept count → Goes e n tile rest kept count
goes_behind e n tile x rest kept count law meets blocked g =
    let d = e.begun.drawing in
    let w = walked g.shown g.counts in
    let behind : is_behind d n g.shown x ≡ true = blocked_behind d n g.shown x tile g.grid (blocked (fragments_of d g.shown) g.shows) in
    record {
      shown = g.shown;
      past = g.past ++ x ∷ [];
      counts = g.counts;
      grid = g.grid;
      split = split-more g.past x rest (frame_leaves d.frame) g.split;
      shows = g.shows;
      shows_past = with_leaf d g.past x tile (law.behind tile g.grid blocked (micropolygons_of d.accepted d.frame g.past) g.shows_past);
      grids = g.grids;
      keeps = g.keeps;
      counted = g.counted;
      walk = ap (λ v. past_tiles d (tile_count d - (n + 1)) (n + 1) (past_leaves d n v rest).counts) (sym (past_unshown d n w x (met d n g.shown x true meets behind))) ∙ g.walk;
    }

-- ---- a leaf that is hidden
-- where a leaf isn't behind what shows, it isn't behind in the walk
pub not_behind : (e : InEpoch) (n : ℕ) (tile : TileValue) (x : FrameLeaf) (rest : List FrameLeaf) (kept : List (Part × SeenGrid)) (count : ℕ) (b : Bool)
    → b ≡ false → ((f : Sample → List Fragment) → Shows tile f → IsTrue b ↔ BlocksAll (nearest e.begun.drawing x) tile.grid f) → (g : Goes e n tile (x ∷ rest) kept count) → is_behind e.begun.drawing n g.shown x ≡ false
not_behind e n tile x rest kept count b is blocked g =
    by_bool (is_behind e.begun.drawing n g.shown x)
    (λ t. let h : b ≡ true = (blocked (fragments_of e.begun.drawing g.shown) g.shows).1 (behind_blocked e.begun.drawing n g.shown x tile g.grid t) in absurd (cc))
    (λ f. f)

pub goes_used : (e : InEpoch) (n : ℕ) (old new : TileValue) (x : FrameLeaf) (rest : List FrameLeaf) (kept kept' : List (Part × SeenGrid)) (count count' : ℕ)
    → meets_tile e.begun.drawing n x ≡ true → new.grid ≡ old.grid → AreGrids e.begun.drawing kept'
    → ShowsMore e.begun.drawing.frame.camera (leaf_micropolygons e.begun.drawing.accepted e.begun.drawing.frame x.prim x.part) old new
    → ((c : Counts) → Keeps kept c → CountsGo c (with_needed e.begun.drawing.limit x.part (leaf_points e.begun.drawing x) c) kept' count count')
    → (g : Goes e n old (x ∷ rest) kept count) → is_behind e.begun.drawing n g.shown x ≡ false → Goes e n new rest kept' count'
goes_used e n old new x rest kept kept' count count' meets same grids more go g front =
    let d = e.begun.drawing in
    let w = walked g.shown g.counts in
    let c' = with_needed d.limit x.part (leaf_points d x) g.counts in
    let k = go g.counts g.keeps in
    let s = g.counted.shadings in
    record {
      shown = g.shown ++ x ∷ [];
      past = g.past ++ x ∷ [];
      counts = c';
      grid = same ∙ g.grid;
      split = split-more g.past x rest (frame_leaves d.frame) g.split;
      shows = with_leaf d g.shown x new (more (micropolygons_of d.accepted d.frame g.shown) g.shows);
      shows_past = with_leaf d g.past x new (more (micropolygons_of d.accepted d.frame g.past) g.shows_past);
      grids = grids;
      keeps = k.keeps;
      counted = record {
        shadings = omega (arith, k.shadings, s);
        epochs = g.counted.epochs ∙ ap (λ m. e.begun.epochs + m) (sym k.epochs);
        most = g.counted.most ∙ ap (λ m. max e.begun.most_points m) (sym k.most);
      };
      walk = ap (λ v. past_tiles d (tile_count d - (n + 1)) (n + 1) (past_leaves d n v rest).counts) (sym (past_shown d n w x (met d n g.shown x false meets front))) ∙ g.walk;
    }

-- ---- no room for a leaf
pub goes_full : (e : InEpoch) (n : ℕ) (tile : TileValue) (x : FrameLeaf) (rest : List FrameLeaf) (kept : List (Part × SeenGrid)) (count : ℕ)
    → meets_tile e.begun.drawing n x ≡ true → leaf_points e.begun.drawing x ≤ e.begun.drawing.limit
    → has x.part (pieces_in kept) ≡ false → nat_le (points_in kept + leaf_points e.begun.drawing x) e.begun.drawing.limit ≡ false
    → (g : Goes e n tile (x ∷ rest) kept count) → is_behind e.begun.drawing n g.shown x ≡ false → Goes (next_epoch (points_in kept) e) n tile (x ∷ rest) [] count
goes_full e n tile x rest kept count meets fits fresh full g front =
    let d = e.begun.drawing in
    let c = g.counts in
    let k = leaf_points d x in
    let lacks : has x.part c.kept ≡ false = ap (has x.part) g.keeps.pieces ∙ fresh in
    let none : has_room d.limit k c ≡ false = ap (λ m. nat_le (m + k) d.limit) g.keeps.points ∙ full in
    let shows = met d n g.shown x false meets front in
    let next : past_leaf d n (walked g.shown (in_new_epoch c)) x ≡ past_leaf d n (walked g.shown c) x =
    past_shown d n (walked g.shown (in_new_epoch c)) x shows ∙ ap (walked (g.shown ++ x ∷ [])) (sym (needed_next d.limit x.part k c fits lacks none)) ∙ sym (past_shown d n (walked g.shown c) x shows) in
    let m = g.counted.most in
    let p = g.keeps.points in
    let ep = g.counted.epochs in
    record {
      shown = g.shown;
      past = g.past;
      counts = in_new_epoch c;
      grid = g.grid;
      split = g.split;
      shows = g.shows;
      shows_past = g.shows_past;
      grids = tt;
      keeps = record { pieces = refl; points = refl };
      counted = record { shadings = g.counted.shadings; epochs = omega (arith, ep); most = omega (arith, m, p) };
      walk = ap (λ v. past_tiles d (tile_count d - (n + 1)) (n + 1) (past_leaves d n v rest).counts) next ∙ g.walk;
    }

-- ---- how much is shaded
rest_rises : (e : InEpoch) (n : ℕ) (w : Walked) (rest : List FrameLeaf) → past_tiles e.begun.drawing (tile_count e.begun.drawing - (n + 1)) (n + 1) (past_leaves e.begun.drawing n w rest).counts ≡ tile_walk e.begun.drawing
    → (w.counts.shadings ≤ (tile_walk e.begun.drawing).shadings) × (w.counts.epochs ≤ (tile_walk e.begun.drawing).epochs)
rest_rises e n w rest is =
    let d = e.begun.drawing in
    let a = leaves_rise d n w rest in
    let b = tiles_rise d (tile_count d - (n + 1)) (n + 1) (past_leaves d n w rest).counts in
    let s = ap (λ (c : Counts). c.shadings) is in
    let t = ap (λ (c : Counts). c.epochs) is in
    (omega (arith, a.shadings, b.shadings, s), omega (arith, a.epochs, b.epochs, t))

pub goes_shaded : (e : InEpoch) (n : ℕ) (tile : TileValue) (rest : List FrameLeaf) (kept : List (Part × SeenGrid)) (count : ℕ) → Goes e n tile rest kept count → ShadesInPart e.begun count
goes_shaded e n tile rest kept count g =
    let r = rest_rises e n (walked g.shown g.counts) rest g.walk in
    let s = g.counted.shadings in
    (omega (arith, s), omega (arith, s, r.0))

pub goes_epochs : (e : InEpoch) (n : ℕ) (tile : TileValue) (rest : List FrameLeaf) (kept : List (Part × SeenGrid)) (count : ℕ) → Goes e n tile rest kept count → e.epochs ≤ e.begun.epochs + (tile_walk e.begun.drawing).epochs
goes_epochs e n tile rest kept count g =
    let r = rest_rises e n (walked g.shown g.counts) rest g.walk in
    let s = g.counted.epochs in
    omega (arith, s, r.1)

pub goes_used_part : (e : InEpoch) (n : ℕ) (old : TileValue) (x : FrameLeaf) (rest : List FrameLeaf) (kept : List (Part × SeenGrid)) (count count' : ℕ)
    → meets_tile e.begun.drawing n x ≡ true → count ≤ count'
    → ((c : Counts) → Keeps kept c → count' + c.shadings ≤ count + (with_needed e.begun.drawing.limit x.part (leaf_points e.begun.drawing x) c).shadings)
    → (g : Goes e n old (x ∷ rest) kept count) → is_behind e.begun.drawing n g.shown x ≡ false → ShadesInPart e.begun count'
goes_used_part e n old x rest kept count count' meets least most g front =
    let d = e.begun.drawing in
    let c' = with_needed d.limit x.part (leaf_points d x) g.counts in
    let is = past_shown d n (walked g.shown g.counts) x (met d n g.shown x false meets front) in
    let r = rest_rises e n (walked (g.shown ++ x ∷ []) c') rest (ap (λ v. past_tiles d (tile_count d - (n + 1)) (n + 1) (past_leaves d n v rest).counts) (sym is) ∙ g.walk) in
    let m = most g.counts g.keeps in
    let s = g.counted.shadings in
    (omega (arith, s, least), omega (arith, s, m, r.0))

-- ---- from leaf to leaf
failing : (test : FrameLeaf → Bool) (x : FrameLeaf) (xs : List FrameLeaf) → filter test (x ∷ xs) ≡ [] → (test x ≡ false) × (filter test xs ≡ [])
failing test x xs h = by_bool (test x) (λ t. absurd (let k : x ∷ filter test xs ≡ [] = rw t at h in cc)) (λ f. (f, rw f at h))

goes_past : (e : InEpoch) (n : ℕ) (tile : TileValue) (shown skipped rest : List FrameLeaf) (kept : List (Part × SeenGrid)) (count : ℕ)
    → AreLawful e.begun.drawing n (skipped ++ rest) → filter (shows_in e.begun.drawing.frame (rect_of_grid (tile_grid e.begun.drawing n)) (behind_in e.begun.drawing n shown)) skipped ≡ []
    → GoesStill e n tile shown (skipped ++ rest) kept count → GoesStill e n tile shown rest kept count
goes_past e n tile shown [] rest kept count laws none g = g
goes_past e n tile shown (x ∷ xs) rest kept count laws none g =
    let d = e.begun.drawing in
    let f = failing (shows_in d.frame (rect_of_grid (tile_grid d n)) (behind_in d n shown)) x xs none in
    let unshown : is_shown d n g.goes.shown x ≡ false = ap (λ ys. is_shown d n ys x) g.same ∙ shown_as d n shown x ∙ f.0 in
    let next = goes_unshown e n tile x (xs ++ rest) kept count laws.0 g.goes unshown in
    goes_past e n tile shown xs rest kept count laws.1 f.1 (record { goes = next.goes; same = next.same ∙ g.same })

goes_skipping : (e : InEpoch) (n : ℕ) (tile : TileValue) (old new : List FrameLeaf) (kept : List (Part × SeenGrid)) (count : ℕ)
    → AreLawful e.begun.drawing n (frame_leaves e.begun.drawing.frame) → (g : Goes e n tile old kept count)
    → Skips (shows_in e.begun.drawing.frame (rect_of_grid (tile_grid e.begun.drawing n)) (behind_in e.begun.drawing n g.shown)) old new → Goes e n tile new kept count
goes_skipping e n tile old new kept count laws g skips =
    let first : GoesStill e n tile g.shown old kept count = record { goes = g; same = refl } in
    let here : GoesStill e n tile g.shown (skips.skipped ++ new) kept count = subst (λ xs. GoesStill e n tile g.shown xs kept count) skips.split first in
    (goes_past e n tile g.shown skips.skipped new kept count (lawful_rest e n tile (skips.skipped ++ new) kept count here.goes laws) skips.fail here).goes

-- the next leaf, as a tile tells it that shows what the drawing shows
abbrev pub GivesShown : (e : InEpoch) → ℕ → List FrameLeaf → Option Leaf → List FrameLeaf → List FrameLeaf → Type 0
GivesShown e n shown next old new = GivesNext e.begun.drawing.frame (shows_in e.begun.drawing.frame (rect_of_grid (tile_grid e.begun.drawing n)) (behind_in e.begun.drawing n shown)) next old new

pub goes_next : (next : Option Leaf) (e : InEpoch) (n : ℕ) (tile : TileValue) (old new : List FrameLeaf) (kept : List (Part × SeenGrid)) (count : ℕ)
    → AreLawful e.begun.drawing n (frame_leaves e.begun.drawing.frame) → (g : Goes e n tile old kept count) → GivesShown e n g.shown next old new → Going e n tile next new kept count
goes_next None e n tile old new kept count laws g gives = record { rest = []; comes = refl; goes = goes_skipping e n tile old [] kept count laws g gives.0 }
goes_next (Some leaf) e n tile old new kept count laws g gives =
    record { rest = gives.0 ∷ new; comes = (gives.0, gives.1, shows_meets e.begun.drawing n g.shown gives.0 gives.2, refl); goes = goes_skipping e n tile old (gives.0 ∷ new) kept count laws g gives.3 }

pub going_none : (next : Option Leaf) (e : InEpoch) (n : ℕ) (tile : TileValue) (behind : List FrameLeaf) (kept : List (Part × SeenGrid)) (count : ℕ)
    → next ≡ None → Going e n tile next behind kept count → Goes e n tile [] kept count
going_none None e n tile behind kept count is g = subst (λ r. Goes e n tile r kept count) g.comes g.goes
going_none (Some leaf) e n tile behind kept count is g = absurd (cc)

-- ---- from tile to tile
pub goes_done : (e : InEpoch) (n : ℕ) (tile : TileValue) (kept : List (Part × SeenGrid)) (count : ℕ) → Goes e n tile [] kept count → Before e (n + 1) kept count
goes_done e n tile kept count g = record { counts = g.counts; grids = g.grids; keeps = g.keeps; counted = g.counted; walk = g.walk }

pub goes_whole : (e : InEpoch) (n : ℕ) (tile : TileValue) (kept : List (Part × SeenGrid)) (count : ℕ) → Goes e n tile [] kept count → Shows tile (fragments_of e.begun.drawing (frame_leaves e.begun.drawing.frame))
goes_whole e n tile kept count g = subst (λ xs. Shows tile (fragments_of e.begun.drawing xs)) (sym (append-nil g.past) ∙ g.split) g.shows_past

pub goes_begun : (e : InEpoch) (n : ℕ) (tile : TileValue) (kept : List (Part × SeenGrid)) (count : ℕ) → Before e n kept count → n < tile_count e.begun.drawing → draws e.begun.drawing n ≡ true → tile.grid ≡ tile_grid e.begun.drawing n
    → Shows tile (λ s. []) → Goes e n tile (frame_leaves e.begun.drawing.frame) kept count
unfolding past_tile
goes_begun e n tile kept count b low drawn grid empty =
    let d = e.begun.drawing in
    let more : tile_count d - n ≡ suc (tile_count d - (n + 1)) = omega (arith, low) in
    record {
      shown = [];
      past = [];
      counts = b.counts;
      grid = grid;
      split = refl;
      shows = shows_nothing tile d.frame.camera empty;
      shows_past = shows_nothing tile d.frame.camera empty;
      grids = b.grids;
      keeps = b.keeps;
      counted = b.counted;
      walk = ap (λ (h : Bool). past_tiles d (tile_count d - (n + 1)) (n + 1) (cond h (past_tile d n b.counts) b.counts)) (sym drawn) ∙ ap (λ k. past_tiles d k n b.counts) (sym more) ∙ b.walk;
    }
