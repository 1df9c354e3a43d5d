-- The weights by tables are the filter's.
use Rattle.std.proofs.Common.{◌≡◌, refl, ap, sym, ◌∙◌, arith, ℕ, ◌+◌, ◌*◌, ◌/◌, ◌<◌, ◌≤◌, ℤ, pos, ◌+ℤ◌, ◌-ℤ◌, true, List, [], ◌∷◌, ◌++◌, length, get_or}
use Rattle.std.specs.Prelude.{◌≤ℤ◌}
use Rattle.std.proofs.lemmas.Int.{ints}
use Rattle.fixed_math.specs.Fixed.{IsRaw}
use Rattle.fixed_math.specs.Spots.{Spot}
use Rattle.scene.specs.declared.filter.Filter.{Filter}
use Rattle.scene.specs.declared.filter.Filter.TheVariants.{Box, Triangle, Gaussian}
use Rattle.scene.specs.Settings.{OptionValues}
use Rattle.filter_ppm.specs.Weight.{counts, slope, bell, by_filter, weight, weight_at}
use Rattle.filter_ppm.specs.Tables.{part, joined, power, IsTable}
use Rattle.filter_ppm.proofs.Filters.{slope_range, exp2_low, mul_low}
use Rattle.std.proofs.Math.ListN.{get_or-append}
use Rattle.std.proofs.Math.Seq.{get_or-append_seam}
use Rattle.filter_ppm.proofs.Spans.{counts_true, by_place}

-- all offsets of a table count
pub counts_at : (w k : ℕ) → k < w → counts w (pos k -ℤ pos (w / 2)) ≡ true
counts_at w k h = counts_true w (pos k -ℤ pos (w / 2)) (omega (arith, ints)) (omega (arith, ints))

-- an entry by its offset
pub entry_is : (f : Filter) (w k : ℕ) (table : List ℤ) (d : ℤ) → IsTable f w table → k < w → pos k ≡ d +ℤ pos (w / 2) → get_or table k (pos 0) ≡ part f w d
entry_is f w k table d h below e =
    let at_d : pos k -ℤ pos (w / 2) ≡ d = omega (arith, ints, e) in
    h.parts k below ∙ ap (part f w) at_d

joined_is : (f : Filter) (wx wy : ℕ) (dx dy : ℤ) → joined f (part f wx dx) (part f wy dy) ≡ by_filter f wx wy dx dy
unfolding joined part bell
joined_is Box wx wy dx dy = refl
joined_is Triangle wx wy dx dy = refl
joined_is Gaussian wx wy dx dy = refl

by_filter_low : (f : Filter) (wx wy : ℕ) (dx dy : ℤ) → 1 ≤ wx → 1 ≤ wy → counts wx dx ≡ true → counts wy dy ≡ true → pos 0 ≤ℤ by_filter f wx wy dx dy
unfolding bell
by_filter_low Box wx wy dx dy h k e g = omega (arith, ints)
by_filter_low Triangle wx wy dx dy h k e g = mul_low (slope wx dx) (slope wy dy) (slope_range wx dx h e).0 (slope_range wy dy k g).0
by_filter_low Gaussian wx wy dx dy h k e g = exp2_low _

-- the weight of a place that counts
pub weight_is : (o : OptionValues) (x y : ℕ) (s : Spot) → counts o.wx (s.x -ℤ pos (256 * x + 128)) ≡ true → counts o.wy (s.y -ℤ pos (256 * y + 128)) ≡ true
    → joined o.filter (part o.filter o.wx (s.x -ℤ pos (256 * x + 128))) (part o.filter o.wy (s.y -ℤ pos (256 * y + 128))) ≡ weight_at o x y s
unfolding weight_at weight
weight_is o x y s hx hy =
    let e = joined_is o.filter o.wx o.wy (s.x -ℤ pos (256 * x + 128)) (s.y -ℤ pos (256 * y + 128)) in
    rw (hx, hy) e

pub weight_low : (o : OptionValues) (x y : ℕ) (s : Spot) → 1 ≤ o.wx → 1 ≤ o.wy → counts o.wx (s.x -ℤ pos (256 * x + 128)) ≡ true → counts o.wy (s.y -ℤ pos (256 * y + 128)) ≡ true
    → pos 0 ≤ℤ weight_at o x y s
unfolding weight_at weight
weight_low o x y s h k hx hy =
    let e = by_filter_low o.filter o.wx o.wy (s.x -ℤ pos (256 * x + 128)) (s.y -ℤ pos (256 * y + 128)) h k hx hy in
    rw (hx, hy) e

-- one power more
pub powers_more : (old new : List ℤ) (n : ℕ) (x : ℤ) → length old ≡ n → ((i : ℕ) → i < n → get_or old i (pos 0) ≡ power (pos i)) → ((i : ℕ) → i < n → IsRaw (get_or old i (pos 0))) →
    x ≡ power (pos n) → IsRaw x → new ≡ old ++ x ∷ [] → (i : ℕ) → i < n + 1 → (get_or new i (pos 0) ≡ power (pos i)) × IsRaw (get_or new i (pos 0))
powers_more old new n x long values raws value raw e i h =
    rw e (by_place i n
    (λ lt. let front = get_or-append old (x ∷ []) (pos 0) i (omega (arith, long, lt)) in (front ∙ values i lt, rw front (raws i lt)))
    (λ same. let last : get_or (old ++ x ∷ []) i (pos 0) ≡ x = ap (λ k. get_or (old ++ x ∷ []) k (pos 0)) (same ∙ sym long) ∙ get_or-append_seam old x [] (pos 0) in
    (last ∙ value ∙ ap (λ k. power (pos k)) (sym same), rw last raw))
    (λ gt. absurd (omega (arith, h, gt))))
