-- How many grids a drawing shades: at most one for each leaf in each tile that it meets, and where there is room for all, each once.
use Rattle.std.proofs.Common.{◌≡◌, ◌⊎◌, inl, inr, ℕ, zero, suc, ◌+◌, ◌<◌, ◌≤◌, arith, refl, sym, ◌∙◌, ap, subst, Bool, true, false, cond, not, ◌&&◌, ◌||◌, List, [], ◌∷◌, ◌++◌, length, length-append}
use Rattle.std.specs.Prelude.{filter}
use Rattle.std.specs.List.{list_any, range_with_len}
use Rattle.std.proofs.lemmas.Bool.{le-leb}
use Rattle.std.proofs.lemmas.List.Folds.{list_any-append}
use Rattle.patches.specs.Parts.{Part}
use Rattle.grid_epoch.specs.Kept.{has, same_part}
use Rattle.grid_epoch.proofs.Keeping.{AreDistinct-push}
use Rattle.buckets.specs.Pictures.{FrameLeaf, frame_leaves}
use Rattle.buckets.specs.TileWalk.{Drawing, Counts, nothing, in_new_epoch, with_shaded, with_needed, has_room, Walked, walked, draws, tile_count, meets_tile, is_behind, is_shown, leaf_points, past_leaf, past_leaves, past_tile, past_tiles, tile_walk}
use Rattle.buckets.specs.Meeting.{meeting, meetings, meets_some, meeting_some, points_of, InOneEpoch}
use Rattle.buckets.proofs.Counting.{by_bool, leaf_rises, needed_kept, needed_new, past_shown, past_unshown}

-- ---- leaves that meet
passes : (p : FrameLeaf → Bool) (x : FrameLeaf) (xs : List FrameLeaf) → p x ≡ true → filter p (x ∷ xs) ≡ x ∷ filter p xs
passes p x xs h = rw h refl

misses : (p : FrameLeaf → Bool) (x : FrameLeaf) (xs : List FrameLeaf) → p x ≡ false → filter p (x ∷ xs) ≡ filter p xs
misses p x xs h = rw h refl

unmet : (d : Drawing) (n : ℕ) (w : Walked) (x : FrameLeaf) → meets_tile d n x ≡ false → past_leaf d n w x ≡ w
unfolding is_shown
unmet d n w x h = past_unshown d n w x (ap (λ b. b && not (is_behind d n w.shown x)) h)

leaves_met : (d : Drawing) (n : ℕ) (w : Walked) (xs : List FrameLeaf) → (past_leaves d n w xs).counts.shadings ≤ w.counts.shadings + length (filter (meets_tile d n) xs)
leaves_met d n w [] = omega arith
leaves_met d n w (x ∷ xs) =
    let rest = leaves_met d n (past_leaf d n w x) xs in
    by_bool (meets_tile d n x)
    (λ h.
    let one = (leaf_rises d n w x).few_shadings in
    let more : length (filter (meets_tile d n) (x ∷ xs)) ≡ suc (length (filter (meets_tile d n) xs)) = ap length (passes (meets_tile d n) x xs h) in
    omega (arith, one, rest, more))
    (λ h.
    let same : (past_leaf d n w x).counts.shadings ≡ w.counts.shadings = ap (λ (v : Walked). v.counts.shadings) (unmet d n w x h) in
    let more : length (filter (meets_tile d n) (x ∷ xs)) ≡ length (filter (meets_tile d n) xs) = ap length (misses (meets_tile d n) x xs h) in
    omega (arith, same, rest, more))

drawn_met : (d : Drawing) (n : ℕ) (c : Counts) → (cond (draws d n) (past_tile d n c) c).shadings ≤ c.shadings + cond (draws d n) (length (meeting d n)) 0
unfolding past_tile
drawn_met d n c =
    let past : Bool → Counts = λ b. cond b (past_tile d n c) c in
    let met : Bool → ℕ = λ b. cond b (length (meeting d n)) 0 in
    by_bool (draws d n)
    (λ h. subst (λ b. (past b).shadings ≤ c.shadings + met b) (sym h) (leaves_met d n (walked [] c) (frame_leaves d.frame)))
    (λ h. subst (λ b. (past b).shadings ≤ c.shadings + met b) (sym h) (omega arith))

tiles_met : (d : Drawing) (k n : ℕ) (c : Counts) → (past_tiles d k n c).shadings ≤ c.shadings + meetings d k n
tiles_met d zero n c = omega arith
tiles_met d (suc k) n c =
    let one = drawn_met d n c in
    let rest = tiles_met d k (n + 1) (cond (draws d n) (past_tile d n c) c) in
    omega (arith, one, rest)

walk_is : (d : Drawing) → tile_walk d ≡ past_tiles d (tile_count d) 0 (in_new_epoch nothing)
unfolding tile_walk
walk_is d = refl

-- no leaf is shaded for a tile that it doesn't meet, and for each that it meets at most once
pub shaded_where_met : (d : Drawing) → (tile_walk d).shadings ≤ meetings d (tile_count d) 0
shaded_where_met d =
    let few = tiles_met d (tile_count d) 0 (in_new_epoch nothing) in
    subst (λ (c : Counts). c.shadings ≤ meetings d (tile_count d) 0) (sym (walk_is d)) (omega (arith, few))

-- ---- one of a list of leaves
abbrev IsIn : FrameLeaf → List FrameLeaf → Type 0
IsIn x [] = true ≡ false
IsIn x (y ∷ ys) = (x ≡ y) ⊎ IsIn x ys

in_filter : (p : FrameLeaf → Bool) (x : FrameLeaf) (xs : List FrameLeaf) → p x ≡ true → IsIn x xs → IsIn x (filter p xs)
in_filter p x [] h is = is
in_filter p x (y ∷ ys) h (inl e) = subst (IsIn x) (sym (passes p y ys (ap p (sym e) ∙ h))) (inl e)
in_filter p x (y ∷ ys) h (inr is) =
    by_bool (p y)
    (λ k. subst (IsIn x) (sym (passes p y ys k)) (inr (in_filter p x ys h is)))
    (λ k. subst (IsIn x) (sym (misses p y ys k)) (in_filter p x ys h is))

any_from : (p : ℕ → Bool) (from n i : ℕ) → i < n → p (from + i) ≡ true → list_any p (range_with_len from n) ≡ true
any_from p from zero i l h = absurd (omega (arith, l))
any_from p from (suc n) zero l h = let e : from + 0 ≡ from = omega arith in let first : p from ≡ true = ap p (sym e) ∙ h in simp first
any_from p from (suc n) (suc i) l h =
    let e : from + suc i ≡ (from + 1) + i = omega arith in
    let rest = any_from p (from + 1) n i (omega (arith, l)) (ap p (sym e) ∙ h) in
    by_bool (p from) (λ k. simp k) (λ k. simp (k, rest))

-- ---- the points of leaves
points_pass : (d : Drawing) (p : FrameLeaf → Bool) (x : FrameLeaf) (xs : List FrameLeaf) → p x ≡ true → points_of d (filter p (x ∷ xs)) ≡ leaf_points d x + points_of d (filter p xs)
points_pass d p x xs h = ap (points_of d) (passes p x xs h)

points_miss : (d : Drawing) (p : FrameLeaf → Bool) (x : FrameLeaf) (xs : List FrameLeaf) → p x ≡ false → points_of d (filter p (x ∷ xs)) ≡ points_of d (filter p xs)
points_miss d p x xs h = ap (points_of d) (misses p x xs h)

fewer : (d : Drawing) (p q : FrameLeaf → Bool) (xs : List FrameLeaf) → ((y : FrameLeaf) → q y ≡ true → p y ≡ true) → points_of d (filter q xs) ≤ points_of d (filter p xs)
fewer d p q [] h = omega arith
fewer d p q (y ∷ ys) h =
    let rest = fewer d p q ys h in
    by_bool (q y)
    (λ k. let a = points_pass d q y ys k in let b = points_pass d p y ys (h y k) in omega (arith, a, b, rest))
    (λ k.
    let a = points_miss d q y ys k in
    by_bool (p y)
    (λ m. let b = points_pass d p y ys m in omega (arith, a, b, rest))
    (λ m. let b = points_miss d p y ys m in omega (arith, a, b, rest)))

-- a leaf that passed and doesn't pass any more
dropped : (d : Drawing) (p q : FrameLeaf → Bool) (x : FrameLeaf) (xs : List FrameLeaf) → ((y : FrameLeaf) → q y ≡ true → p y ≡ true) → p x ≡ true → q x ≡ false → IsIn x xs
    → points_of d (filter q xs) + leaf_points d x ≤ points_of d (filter p xs)
dropped d p q x [] h passed out is = absurd (cc)
dropped d p q x (y ∷ ys) h passed out (inl e) =
    let a = points_miss d q y ys (ap q (sym e) ∙ out) in
    let b = points_pass d p y ys (ap p (sym e) ∙ passed) in
    let same : leaf_points d x ≡ leaf_points d y = ap (leaf_points d) e in
    let rest = fewer d p q ys h in
    omega (arith, a, b, same, rest)
dropped d p q x (y ∷ ys) h passed out (inr is) =
    let rest = dropped d p q x ys h passed out is in
    by_bool (q y)
    (λ k. let a = points_pass d q y ys k in let b = points_pass d p y ys (h y k) in omega (arith, a, b, rest))
    (λ k.
    let a = points_miss d q y ys k in
    by_bool (p y)
    (λ m. let b = points_pass d p y ys m in omega (arith, a, b, rest))
    (λ m. let b = points_miss d p y ys m in omega (arith, a, b, rest)))

-- ---- one epoch
abbrev unkept : List Part → FrameLeaf → Bool
unkept kept y = not (has y.part kept)

-- what is kept, and what is still to be shaded, have no more points than all leaves that meet some tile
record HasRoom (d : Drawing) (c : Counts) : Type 0 where
  pub one : InOneEpoch c
  pub points : c.points + points_of d (filter (unkept c.kept) (meeting_some d)) ≤ points_of d (meeting_some d)

itself : (p : Part) → same_part p p ≡ true
itself p = search arith

has_last : (kept : List Part) (p : Part) → has p (kept ++ p ∷ []) ≡ true
has_last kept p = let e = list_any-append (same_part p) kept (p ∷ []) in let s = itself p in by_bool (has p kept) (λ h. simp (e, h, s)) (λ h. simp (e, h, s))

still_unkept : (kept : List Part) (p q : Part) → not (has q (kept ++ p ∷ [])) ≡ true → not (has q kept) ≡ true
still_unkept kept p q h =
    let e = list_any-append (same_part q) kept (p ∷ []) in
    by_bool (has q kept) (λ k. absurd (let t : has q (kept ++ p ∷ []) ≡ true = e ∙ ap (λ b. b || list_any (same_part q) (p ∷ [])) k in cc)) (λ k. ap not k)

needed_once : (d : Drawing) (x : FrameLeaf) (c : Counts) → points_of d (meeting_some d) ≤ d.limit → IsIn x (meeting_some d) → HasRoom d c → HasRoom d (with_needed d.limit x.part (leaf_points d x) c)
needed_once d x c few is r =
    let n = leaf_points d x in
    by_bool (has x.part c.kept)
    (λ h. subst (HasRoom d) (sym (needed_kept d.limit x.part n c h)) r)
    (λ h.
    let less = dropped d (unkept c.kept) (unkept (c.kept ++ x.part ∷ [])) x (meeting_some d) (λ y. still_unkept c.kept x.part y.part) (ap not h) (ap not (has_last c.kept x.part)) is in
    let now = r.points in
    let room : has_room d.limit n c ≡ true = le-leb (c.points + n) d.limit (omega (arith, less, now, few)) in
    let one = r.one in
    let lengths : length (c.kept ++ x.part ∷ []) ≡ length c.kept + 1 = length-append c.kept (x.part ∷ []) in
    let shaded : HasRoom d (with_shaded x.part n c) = record {
      one = record { epochs = one.epochs; shadings = (let s = one.shadings in omega (arith, s, lengths)); distinct = AreDistinct-push x.part c.kept h one.distinct };
      points = omega (arith, less, now);
    } in
    subst (HasRoom d) (sym (needed_new d.limit x.part n c h room)) shaded)

leaf_once : (d : Drawing) (n : ℕ) (w : Walked) (x : FrameLeaf) → points_of d (meeting_some d) ≤ d.limit → n < tile_count d → IsIn x (frame_leaves d.frame) → HasRoom d w.counts → HasRoom d (past_leaf d n w x).counts
unfolding is_shown
leaf_once d n w x few low is r =
    by_bool (meets_tile d n x)
    (λ m.
    let met : IsIn x (meeting_some d) = in_filter (meets_some d) x (frame_leaves d.frame) (any_from (λ k. meets_tile d k x) 0 (tile_count d) n low (let e : 0 + n ≡ n = omega arith in ap (λ k. meets_tile d k x) e ∙ m)) is in
    by_bool (is_shown d n w.shown x)
    (λ h. subst (λ (v : Walked). HasRoom d v.counts) (sym (past_shown d n w x h)) (needed_once d x w.counts few met r))
    (λ h. subst (λ (v : Walked). HasRoom d v.counts) (sym (past_unshown d n w x h)) r))
    (λ m. subst (λ (v : Walked). HasRoom d v.counts) (sym (unmet d n w x m)) r)

leaves_once : (d : Drawing) (n : ℕ) (w : Walked) (xs : List FrameLeaf) → points_of d (meeting_some d) ≤ d.limit → n < tile_count d → ((x : FrameLeaf) → IsIn x xs → IsIn x (frame_leaves d.frame)) → HasRoom d w.counts
    → HasRoom d (past_leaves d n w xs).counts
leaves_once d n w [] few low is r = r
leaves_once d n w (x ∷ xs) few low is r = leaves_once d n (past_leaf d n w x) xs few low (λ y h. is y (inr h)) (leaf_once d n w x few low (is x (inl refl)) r)

drawn_once : (d : Drawing) (n : ℕ) (c : Counts) → points_of d (meeting_some d) ≤ d.limit → n < tile_count d → HasRoom d c → HasRoom d (cond (draws d n) (past_tile d n c) c)
unfolding past_tile
drawn_once d n c few low r =
    let past : Bool → Counts = λ b. cond b (past_tile d n c) c in
    by_bool (draws d n)
    (λ h. subst (λ b. HasRoom d (past b)) (sym h) (leaves_once d n (walked [] c) (frame_leaves d.frame) few low (λ x i. i) r))
    (λ h. subst (λ b. HasRoom d (past b)) (sym h) r)

tiles_once : (d : Drawing) (k n : ℕ) (c : Counts) → points_of d (meeting_some d) ≤ d.limit → n + k ≤ tile_count d → HasRoom d c → HasRoom d (past_tiles d k n c)
tiles_once d zero n c few low r = r
tiles_once d (suc k) n c few low r = tiles_once d k (n + 1) (cond (draws d n) (past_tile d n c) c) few (omega (arith, low)) (drawn_once d n c few (omega (arith, low)) r)

none_kept : (d : Drawing) (xs : List FrameLeaf) → points_of d (filter (unkept []) xs) ≡ points_of d xs
none_kept d [] = refl
none_kept d (x ∷ xs) = ap (λ k. leaf_points d x + k) (none_kept d xs)

-- where there is room for the grids of all leaves that meet some tile, one epoch keeps them all, and each is shaded at most once
pub shaded_once : (d : Drawing) → points_of d (meeting_some d) ≤ d.limit → InOneEpoch (tile_walk d)
shaded_once d few =
    let none = none_kept d (meeting_some d) in
    let first : HasRoom d (in_new_epoch nothing) = record { one = record { epochs = refl; shadings = refl; distinct = tt }; points = omega (arith, none) } in
    subst InOneEpoch (sym (walk_is d)) (tiles_once d (tile_count d) 0 (in_new_epoch nothing) few (omega arith) first).one
