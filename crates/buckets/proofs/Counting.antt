-- The counts of the tile walk: they never fall, and how far they rise.
use Rattle.std.proofs.Common.{◌≡◌, ℕ, zero, suc, ◌+◌, ◌*◌, ◌≤◌, arith, refl, sym, ◌∙◌, subst, Bool, true, false, cond, List, [], ◌∷◌, ◌++◌, length}
use Rattle.std.proofs.lemmas.Bool.{le-leb}
use Rattle.patches.specs.Parts.{Part}
use Rattle.grid_epoch.specs.Kept.{has}
use Rattle.buckets.specs.Pictures.{FrameLeaf, frame_leaves}
use Rattle.buckets.specs.TileWalk.{Drawing, Counts, in_new_epoch, with_shaded, has_room, with_needed, is_shown, leaf_points, Walked, walked, past_leaf, past_leaves, past_tile, past_tiles, nothing, draws, tile_count, tile_walk}

pub by_bool : {P : Type 0} (b : Bool) → (b ≡ true → P) → (b ≡ false → P) → P
by_bool true f g = f refl
by_bool false f g = g refl

-- counts rise: shadings and epochs don't fall, and epochs rise by no more than shadings, which rise by at most so many
pub record Rise (n : ℕ) (old new : Counts) : Type 0 where
  pub shadings : old.shadings ≤ new.shadings
  pub epochs : old.epochs ≤ new.epochs
  pub few_epochs : new.epochs + old.shadings ≤ old.epochs + new.shadings
  pub few_shadings : new.shadings ≤ old.shadings + n

stays : (c : Counts) (n : ℕ) → Rise n c c
stays c n = record { shadings = omega arith; epochs = omega arith; few_epochs = omega arith; few_shadings = omega arith }

pub rises_then : (m n : ℕ) (a b c : Counts) → Rise m a b → Rise n b c → Rise (m + n) a c
rises_then m n a b c h k = record { shadings = omega (arith, h.shadings, k.shadings); epochs = omega (arith, h.epochs, k.epochs); few_epochs = omega (arith, h.few_epochs, k.few_epochs); few_shadings = omega (arith, h.few_shadings, k.few_shadings) }

-- ---- one piece
pub needed_kept : (limit : ℕ) (part : Part) (n : ℕ) (c : Counts) → has part c.kept ≡ true → with_needed limit part n c ≡ c
unfolding with_needed
needed_kept limit part n c h = rw h refl

pub needed_new : (limit : ℕ) (part : Part) (n : ℕ) (c : Counts) → has part c.kept ≡ false → has_room limit n c ≡ true → with_needed limit part n c ≡ with_shaded part n c
unfolding with_needed
needed_new limit part n c h r = rw (h, r) refl

needed_full : (limit : ℕ) (part : Part) (n : ℕ) (c : Counts) → has part c.kept ≡ false → has_room limit n c ≡ false → with_needed limit part n c ≡ with_shaded part n (in_new_epoch c)
unfolding with_needed
needed_full limit part n c h r = rw (h, r) refl

-- a piece for which there is no room is shaded in a new epoch
pub needed_next : (limit : ℕ) (part : Part) (n : ℕ) (c : Counts) → n ≤ limit → has part c.kept ≡ false → has_room limit n c ≡ false → with_needed limit part n c ≡ with_needed limit part n (in_new_epoch c)
needed_next limit part n c fits h r =
    let room : has_room limit n (in_new_epoch c) ≡ true = le-leb (0 + n) limit (omega arith) in
    needed_full limit part n c h r ∙ sym (needed_new limit part n (in_new_epoch c) refl room)

pub needed_rises : (limit : ℕ) (part : Part) (n : ℕ) (c : Counts) → Rise 1 c (with_needed limit part n c)
needed_rises limit part n c =
    by_bool (has part c.kept)
    (λ h. subst (Rise 1 c) (sym (needed_kept limit part n c h)) (stays c 1))
    (λ h. by_bool (has_room limit n c)
    (λ r. subst (Rise 1 c) (sym (needed_new limit part n c h r)) (record { shadings = omega arith; epochs = omega arith; few_epochs = omega arith; few_shadings = omega arith }))
    (λ r. subst (Rise 1 c) (sym (needed_full limit part n c h r)) (record { shadings = omega arith; epochs = omega arith; few_epochs = omega arith; few_shadings = omega arith })))

-- ---- leaves
pub past_shown : (d : Drawing) (n : ℕ) (w : Walked) (x : FrameLeaf) → is_shown d n w.shown x ≡ true → past_leaf d n w x ≡ walked (w.shown ++ x ∷ []) (with_needed d.limit x.part (leaf_points d x) w.counts)
unfolding past_leaf
past_shown d n w x h = rw h refl

pub past_unshown : (d : Drawing) (n : ℕ) (w : Walked) (x : FrameLeaf) → is_shown d n w.shown x ≡ false → past_leaf d n w x ≡ w
unfolding past_leaf
past_unshown d n w x h = rw h refl

pub leaf_rises : (d : Drawing) (n : ℕ) (w : Walked) (x : FrameLeaf) → Rise 1 w.counts (past_leaf d n w x).counts
leaf_rises d n w x =
    by_bool (is_shown d n w.shown x)
    (λ h. subst (λ v. Rise 1 w.counts v.counts) (sym (past_shown d n w x h)) (needed_rises d.limit x.part (leaf_points d x) w.counts))
    (λ h. subst (λ v. Rise 1 w.counts v.counts) (sym (past_unshown d n w x h)) (stays w.counts 1))

pub leaves_rise : (d : Drawing) (n : ℕ) (w : Walked) (xs : List FrameLeaf) → Rise (length xs) w.counts (past_leaves d n w xs).counts
leaves_rise d n w [] = stays w.counts 0
leaves_rise d n w (x ∷ xs) =
    let e : 1 + length xs ≡ suc (length xs) = omega arith in
    subst (λ k. Rise k w.counts (past_leaves d n (past_leaf d n w x) xs).counts) e (rises_then 1 (length xs) w.counts (past_leaf d n w x).counts (past_leaves d n (past_leaf d n w x) xs).counts (leaf_rises d n w x) (leaves_rise d n (past_leaf d n w x) xs))

-- ---- tiles
tile_rises : (d : Drawing) (n : ℕ) (c : Counts) → Rise (length (frame_leaves d.frame)) c (past_tile d n c)
unfolding past_tile
tile_rises d n c = leaves_rise d n (walked [] c) (frame_leaves d.frame)

-- where it is drawn
drawn_rises : (d : Drawing) (n : ℕ) (c : Counts) → Rise (length (frame_leaves d.frame)) c (cond (draws d n) (past_tile d n c) c)
drawn_rises d n c =
    let drawn : Bool → Counts = λ b. cond b (past_tile d n c) c in
    by_bool (draws d n)
    (λ h. subst (λ b. Rise (length (frame_leaves d.frame)) c (drawn b)) (sym h) (tile_rises d n c))
    (λ h. subst (λ b. Rise (length (frame_leaves d.frame)) c (drawn b)) (sym h) (stays c (length (frame_leaves d.frame))))

pub tiles_rise : (d : Drawing) (k n : ℕ) (c : Counts) → Rise (k * length (frame_leaves d.frame)) c (past_tiles d k n c)
tiles_rise d zero n c = stays c (0 * length (frame_leaves d.frame))
tiles_rise d (suc k) n c =
    let m = length (frame_leaves d.frame) in
    let e : m + k * m ≡ suc k * m = grind arith in
    let past = cond (draws d n) (past_tile d n c) c in
    subst (λ j. Rise j c (past_tiles d k (n + 1) past)) e (rises_then m (k * m) c past (past_tiles d k (n + 1) past) (drawn_rises d n c) (tiles_rise d k (n + 1) past))

-- the whole walk shades each leaf at most once in each tile, and begins an epoch only to shade
pub walk_rises : (d : Drawing) → Rise (tile_count d * length (frame_leaves d.frame)) (in_new_epoch nothing) (tile_walk d)
unfolding tile_walk
walk_rises d = tiles_rise d (tile_count d) 0 (in_new_epoch nothing)
