-- What a tile shows after leaf upon leaf of a frame: all fragments of their micropolygons.
use Rattle.std.proofs.Common.{◌≡◌, ℕ, ap, refl, sym, ◌∙◌, Bool, List, [], ◌++◌, map}
use Rattle.std.proofs.lemmas.List.Elements.{filter_map-append}
use Rattle.std.proofs.lemmas.List.Sums.{fold-append}
use Rattle.fixed_math.specs.declared.vec3.Vec3.{Vec3}
use Rattle.transforms.specs.declared.view.View.{View}
use Rattle.hider.specs.declared.fragment.Fragment.{Fragment}
use Rattle.hider.specs.declared.sample.Sample.{Sample}
use Rattle.hider.specs.Cells.{Micropolygon, still, cells_of}
use Rattle.hider.specs.CellValues.{grid_values, micropolygons_of}
use Rattle.hider.specs.Fragments.{fragment_of, covering, put_in, put_all, by_depth, fragments}
use Rattle.hider.specs.Tiles.{TileValue, Shows, sample_of, with_covering}
use Rattle.hider.proofs.Grids.{grid_cells_are}

pub same_shown : (t : TileValue) (f g : Sample → List Fragment) → ((s : Sample) → g s ≡ f s) → Shows t f → Shows t g
same_shown t f g e h = record {
  sorted = λ s. rw (e s) (h.sorted s);
  kept = λ n d l. rw (e (sample_of t.grid n)) (h.kept n d l);
}

-- where nothing was hidden
pub shows_nothing : (t : TileValue) (v : View) → Shows t (λ s. []) → Shows t (fragments v [])
unfolding by_depth
shows_nothing t v h = same_shown t (λ s. []) (fragments v []) (λ s. refl) h

with_fragments : (v : View) (ms ns : List Micropolygon) (s : Sample) → with_covering v ns (fragments v ms) s ≡ fragments v (ms ++ ns) s
unfolding by_depth
with_fragments v ms ns s =
    sym (fold-append (λ k f. put_in f k) [] (covering v ms s) (covering v ns s)) ∙ ap (λ l. put_all [] l) (sym (filter_map-append (fragment_of v s) ms ns))

-- where further micropolygons were
pub shows_further : (t : TileValue) (v : View) (ms ns : List Micropolygon) → Shows t (with_covering v ns (fragments v ms)) → Shows t (fragments v (ms ++ ns))
shows_further t v ms ns h = same_shown t (with_covering v ns (fragments v ms)) (fragments v (ms ++ ns)) (λ s. sym (with_fragments v ms ns s)) h

-- where those of a grid were
pub shows_grid : (t : TileValue) (v : View) (ms : List Micropolygon) (smooth : Bool) (columns rows : ℕ) (points colours opacities : List Vec3) (one_sided flip : Bool) →
    Shows t (with_covering v (micropolygons_of (grid_values smooth columns rows points colours opacities) one_sided flip) (fragments v ms)) →
    Shows t (fragments v (ms ++ map (still one_sided flip) (cells_of smooth columns rows points colours opacities)))
shows_grid t v ms smooth columns rows points colours opacities one_sided flip h =
    shows_further t v ms (map (still one_sided flip) (cells_of smooth columns rows points colours opacities))
    (rw (grid_cells_are smooth columns rows points colours opacities one_sided flip) at h)
