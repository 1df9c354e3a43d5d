-- What lies behind some leaves of a frame at all samples of a tile.
use Rattle.std.proofs.Common.{◌≡◌, ℕ, zero, suc, ◌+◌, ◌<◌, ◌≤◌, arith, refl, sym, ◌∙◌, subst, Bool, true, false, List}
use Rattle.std.specs.Prelude.{ℤ, ◌≤ℤ◌}
use Rattle.std.specs.List.{list_all, range_with_len}
use Rattle.std.proofs.lemmas.Bool.{and_parts}
use Rattle.hider.specs.Kept.{blocks}
use Rattle.hider.specs.Tiles.{TileValue, Shows, BlocksAll, sample_count, sample_of}
use Rattle.buckets.specs.Pictures.{FrameLeaf}
use Rattle.buckets.specs.Sampled.{TellsBehind}
use Rattle.buckets.specs.TileWalk.{Drawing, behind_in, tile_grid, fragments_of}
use Rattle.buckets.proofs.PassedOver.{blocks_behind}

by_bool : {P : Type 0} (b : Bool) → (b ≡ true → P) → (b ≡ false → P) → P
by_bool true f g = f refl
by_bool false f g = g refl

all_from : (p : ℕ → Bool) (from n : ℕ) → ((i : ℕ) → from ≤ i → i < from + n → p i ≡ true) → list_all p (range_with_len from n) ≡ true
all_from p from zero h = refl
all_from p from (suc n) h =
    let first : p from ≡ true = h from (omega arith) (omega arith) in
    let rest = all_from p (from + 1) n (λ i a b. h i (omega (arith, a)) (omega (arith, b))) in
    simp (first, rest)

pub each_from : (p : ℕ → Bool) (from n : ℕ) → list_all p (range_with_len from n) ≡ true → (i : ℕ) → i < n → p (from + i) ≡ true
each_from p from zero h i l = absurd (omega (arith, l))
each_from p from (suc n) h zero l =
    let e : from ≡ from + 0 = omega arith in
    subst (λ k. p k ≡ true) e (and_parts (p from) (list_all p (range_with_len (from + 1) n)) h).0
each_from p from (suc n) h (suc i) l =
    let e : (from + 1) + i ≡ from + suc i = omega arith in
    subst (λ k. p k ≡ true) e (each_from p (from + 1) n (and_parts (p from) (list_all p (range_with_len (from + 1) n)) h).1 i (omega (arith, l)))

pub behind_as : (d : Drawing) (n : ℕ) (shown : List FrameLeaf) (z : ℤ) (t : TileValue) → t.grid ≡ tile_grid d n → BlocksAll z t.grid (fragments_of d shown) → behind_in d n shown z ≡ true
behind_as d n shown z t same h =
    let b : BlocksAll z (tile_grid d n) (fragments_of d shown) = subst (λ g. BlocksAll z g (fragments_of d shown)) same h in
    all_from (λ i. blocks z (fragments_of d shown (sample_of (tile_grid d n) i))) 0 (sample_count (tile_grid d n)) (λ i low high. b i (omega (arith, high)))

pub blocked_as : (d : Drawing) (n : ℕ) (shown : List FrameLeaf) (z : ℤ) (t : TileValue) → t.grid ≡ tile_grid d n → behind_in d n shown z ≡ true → BlocksAll z t.grid (fragments_of d shown)
blocked_as d n shown z t same h =
    subst (λ g. BlocksAll z g (fragments_of d shown)) (sym same)
    (λ i l. let p : ℕ → Bool = λ i. blocks z (fragments_of d shown (sample_of (tile_grid d n) i)) in
    let e : 0 + i ≡ i = omega arith in
    subst (λ k. p k ≡ true) e (each_from p 0 (sample_count (tile_grid d n)) h i l))

further_back : (d : Drawing) (n : ℕ) (shown : List FrameLeaf) (y z : ℤ) → y ≤ℤ z → behind_in d n shown y ≡ true → behind_in d n shown z ≡ true
further_back d n shown y z h e =
    all_from (λ i. blocks z (fragments_of d shown (sample_of (tile_grid d n) i))) 0 (sample_count (tile_grid d n))
    (λ i low high. let k : 0 + i ≡ i = omega arith in
    blocks_behind (fragments_of d shown (sample_of (tile_grid d n) i)) y z h
    (subst (λ j. blocks y (fragments_of d shown (sample_of (tile_grid d n) j)) ≡ true) k (each_from (λ i. blocks y (fragments_of d shown (sample_of (tile_grid d n) i))) 0 (sample_count (tile_grid d n)) e i (omega (arith, high)))))

-- a tile that shows these leaves tells it
pub tells : (d : Drawing) (n : ℕ) (shown : List FrameLeaf) (t : TileValue) → t.grid ≡ tile_grid d n → Shows t (fragments_of d shown) → TellsBehind t (behind_in d n shown)
tells d n shown t same shows = record {
  told = λ z b is.
      let both = is (fragments_of d shown) shows in
      by_bool (behind_in d n shown z)
      (λ h. let k : b ≡ true = both.1 (blocked_as d n shown z t same h) in k ∙ sym h)
      (λ h. by_bool b
      (λ k. absurd (let e = behind_as d n shown z t same (both.0 k) in cc))
      (λ k. k ∙ sym h));
  further = λ y z h e. further_back d n shown y z h e;
}
