-- Pieces of a list: whether one is there, where it is, and one more behind them.
use Rattle.std.proofs.Common.{◌≡◌, ℕ, ◌+◌, ◌*◌, ◌<◌, ◌≤◌, ap, arith, refl, sym, ◌∙◌, Bool, true, false, List, [], ◌∷◌, ◌++◌, length, Option, Some, None, slice_get, get_or, position, MatchOption, IfSome, is_some}
use Rattle.std.specs.Prelude.{◌&&◌, ◌||◌}
use Rattle.std.specs.List.{zip}
use Rattle.std.proofs.lemmas.Bool.{eqb-true}
use Rattle.std.proofs.lemmas.List.Quantifiers.{position-Some}
use Rattle.std.proofs.lemmas.Option.{slice_get-get_or}
use Rattle.std.proofs.lemmas.Slice.Zip.{firsts-zip, get_or-zip}
use Rattle.patches.specs.Parts.{Part}
use Rattle.hider.specs.declared.seen_grid.SeenGrid.{SeenGrid}
use Rattle.grid_epoch.specs.Kept.{same_part, has, points_in, AreDistinct, IsEpoch}

and_true : (p q : Bool) → (p && q) ≡ true → (p ≡ true) × (q ≡ true)
and_true true q e = (refl, e)
and_true false q e = absurd (cc)

or_false : (p q : Bool) → (p || q) ≡ false → (p ≡ false) × (q ≡ false)
or_false true q e = absurd (cc)
or_false false q e = (refl, e)

by_bool : {P : Type 0} (b : Bool) → (b ≡ true → P) → (b ≡ false → P) → P
by_bool true f g = f refl
by_bool false f g = g refl

part : ℕ → ℕ → ℕ → ℕ → ℕ → Part
part n a i b j = record { prim = n; a = a; i = i; b = b; j = j }

-- the same part is that part
pub same_part-true : (p q : Part) → same_part p q ≡ true → p ≡ q
unfolding part
same_part-true p q e =
    let e0 = and_true _ _ e in
    let e1 = and_true _ _ e0.1 in
    let e2 = and_true _ _ e1.1 in
    let e3 = and_true _ _ e2.1 in
    let a0 = eqb-true p.prim q.prim e0.0 in
    let a1 = eqb-true p.a q.a e1.0 in
    let a2 = eqb-true p.i q.i e2.0 in
    let a3 = eqb-true p.b q.b e3.0 in
    let a4 = eqb-true p.j q.j e3.1 in
    let e : part p.prim p.a p.i p.b p.j ≡ part q.prim q.a q.i q.b q.j = cc in
    e

-- the place of a part that a look-up finds
pub place_is : (p : Part) (qs : List Part) (i : ℕ) → position (same_part p) qs ≡ Some i → (slice_get qs i ≡ Some p) × (i < length qs)
place_is p qs i e =
    let s = position-Some (same_part p) qs i p e in
    let q = same_part-true p (get_or qs i p) s.1 in
    (slice_get-get_or qs i p s.0 ∙ ap Some (sym q), s.0)

pub points_in-push : (ks : List (Part × SeenGrid)) (k : Part × SeenGrid) → points_in (ks ++ k ∷ []) ≡ points_in ks + k.1.grid.columns * k.1.grid.rows
points_in-push [] k = omega arith
points_in-push (j ∷ js) k = let e = points_in-push js k in omega (arith, e)

symmetric : (p q : Part) → same_part p q ≡ false → same_part q p ≡ false
symmetric p q e = by_bool (same_part q p) (λ t. let s = same_part-true q p t in absurd (let r : same_part q p ≡ same_part p q = cc in cc)) (λ f. f)

has-push : (p q : Part) (qs : List Part) → has p qs ≡ false → same_part p q ≡ false → has p (qs ++ q ∷ []) ≡ false
has-push p q [] h e = simp e
has-push p q (r ∷ rs) h e = let o = or_false (same_part p r) (has p rs) h in let i = has-push p q rs o.1 e in simp (o.0, i)

pub AreDistinct-push : (p : Part) (qs : List Part) → has p qs ≡ false → AreDistinct qs → AreDistinct (qs ++ p ∷ [])
AreDistinct-push p [] h d = (refl, tt)
AreDistinct-push p (q ∷ qs) h d =
    let o = or_false (same_part p q) (has p qs) h in
    (has-push q p qs d.0 (symmetric p q o.0), AreDistinct-push p qs o.1 d.1)

-- what a look-up in the pieces of kept grids tells
pub there_is : (p : Part) (qs : List Part) (r : Option ℕ) → is_some r ≡ has p qs → MatchOption r (has p qs ≡ false) (λ _. has p qs ≡ true)
there_is p qs None e = sym e
there_is p qs (Some i) e = sym e

pub placed_at : (p : Part) (qs : List Part) (r : Option ℕ) → r ≡ position (same_part p) qs → IfSome r (λ i. slice_get qs i ≡ Some p)
placed_at p qs None e = tt
placed_at p qs (Some i) e = (place_is p qs i (sym e)).0

pub placed_within : (p : Part) (qs : List Part) (r : Option ℕ) → r ≡ position (same_part p) qs → IfSome r (λ i. i < length qs)
placed_within p qs None e = tt
placed_within p qs (Some i) e = (place_is p qs i (sym e)).1

-- the pieces are the first parts of the pairs, and there are as many pairs
pub length-pairs : (qs : List Part) (gs : List SeenGrid) → length gs ≡ length qs → length (zip qs gs) ≡ length qs
length-pairs [] [] e = refl
length-pairs (q ∷ qs) (g ∷ gs) e = let l = length-pairs qs gs (omega (arith, e)) in omega (arith, l)
length-pairs [] (g ∷ gs) e = absurd (omega (arith, e))
length-pairs (q ∷ qs) [] e = absurd (omega (arith, e))

pub zip-push : (qs : List Part) (gs : List SeenGrid) (q : Part) (g : SeenGrid) → length gs ≡ length qs → zip (qs ++ q ∷ []) (gs ++ g ∷ []) ≡ zip qs gs ++ (q, g) ∷ []
zip-push [] [] q g e = refl
zip-push (p ∷ ps) (h ∷ hs) q g e = ap (λ r. (p, h) ∷ r) (zip-push ps hs q g (omega (arith, e)))
zip-push [] (h ∷ hs) q g e = absurd (omega (arith, e))
zip-push (p ∷ ps) [] q g e = absurd (omega (arith, e))

-- the grid at a place of the pairs
pub grid_at : (qs : List Part) (gs : List SeenGrid) (i : ℕ) (d : SeenGrid) → length gs ≡ length qs → i < length gs → IfSome (slice_get (zip qs gs) i) (λ k. get_or gs i d ≡ k.1)
grid_at [] (g ∷ gs) i d e l = absurd (omega (arith, e))
grid_at [] [] i d e l = absurd (omega (arith, l))
grid_at (q ∷ qs) gs i d e l =
    let m = length-pairs (q ∷ qs) gs e in
    let g = slice_get-get_or (zip (q ∷ qs) gs) i (q, d) (omega (arith, e, l, m)) in
    let h = get_or-zip (q ∷ qs) gs i (q, d) (omega (arith, e, l)) l in
    rw g (rw h refl)

length-push : {A : Type 0} (xs : List A) (x : A) → length (xs ++ x ∷ []) ≡ length xs + 1
length-push [] x = refl
length-push (y ∷ ys) x = let l = length-push ys x in omega (arith, l)

-- one pair more keeps an epoch's invariant
pub keeps : (limit live : ℕ) (qs : List Part) (gs : List SeenGrid) (q : Part) (g : SeenGrid) → IsEpoch limit live qs gs → has q qs ≡ false →
    points_in (zip qs gs) + g.grid.columns * g.grid.rows ≤ limit → IsEpoch limit (live + g.grid.columns * g.grid.rows) (qs ++ q ∷ []) (gs ++ g ∷ [])
keeps limit live qs gs q g e h r =
    let z = zip-push qs gs q g e.alike in
    let p : points_in (zip (qs ++ q ∷ []) (gs ++ g ∷ [])) ≡ points_in (zip qs gs) + g.grid.columns * g.grid.rows = ap points_in z ∙ points_in-push (zip qs gs) (q, g) in
    let a = length-push qs q in
    let b = length-push gs g in
    record {
      alike = omega (arith, a, b, e.alike);
      counted = omega (arith, p, e.counted);
      within = omega (arith, r, e.counted);
      small = e.small;
      distinct = AreDistinct-push q qs h e.distinct;
    }

pub ruleset keeping = (firsts-zip, length-pairs)
