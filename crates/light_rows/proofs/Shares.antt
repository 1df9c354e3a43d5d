-- Shares of a light in sums.
use Rattle.std.proofs.Common.{◌≡◌, ℕ, zero, suc, ℤ, pos, negsuc, Bool, true, false, cond, [], get_or, refl, sym, ap, ◌∙◌}
use Rattle.std.specs.Prelude.{Option, Some, None, int_le, ◌&&◌}
use Rattle.std.proofs.lemmas.Bool.{cond-false}
use Rattle.fixed_math.specs.Fixed.{add, div}
use Rattle.fixed_math.specs.Power.{pow}
use Rattle.fixed_math.specs.declared.vec3.Vec3.{Vec3}
use Rattle.builtins.specs.Numbers.{max}
use Rattle.builtins.specs.Lights.{Light, shown, facing, scaled_by, diffused}
use Rattle.builtins.specs.Triples.{each_two, dot, normalize}
use Rattle.builtins.specs.Values.{is_nonzero}
use Rattle.number_rows.specs.Truths.{truth}
use Rattle.light_rows.specs.declared.answers.Answers.{Answers}
use Rattle.light_rows.specs.Loops.{half_way, weight, is_before, with_share, with_shares, shown_highlight}
use Rattle.light_rows.specs.Seen.{at_place, option_bind, reflected, with_gain, counts_in, IsAnswer}
use Rattle.light_rows.specs.declared.sums.Sum.TheVariants.{Diffuse, Specular}
use Rattle.number_rows.specs.declared.plane.Plane.{Plane}
use Rattle.number_rows.specs.declared.plane.Planes.{Planes}

-- a triple with a share, where that is shown
shares_are : (s : ℤ) (t c : Vec3) (w : ℤ) → with_shares s t c w ≡ cond (is_nonzero s) (each_two add t (scaled_by w c)) t
unfolding with_share
shares_are (pos zero) t c w = refl
shares_are (pos (suc n)) t c w = refl
shares_are (negsuc n) t c w = refl

gain_if : (b : Bool) (t : Vec3) (x : Vec3 × Vec3) (f : Vec3 × Vec3 → Vec3) → with_gain t (option_bind (cond b (Some x) None) (λ y. Some (f y))) ≡ cond b (each_two add t (f x)) t
gain_if true t x f = refl
gain_if false t x f = refl

gain_if_before : (b d : Bool) (t : Vec3) (x : Vec3 × Vec3) (g : Vec3) (f : Vec3 × Vec3 → Option Vec3) → f x ≡ cond d (Some g) None → with_gain t (option_bind (cond b (Some x) None) f) ≡ cond (b && d) (each_two add t g) t
gain_if_before true true t x g f h = ap (with_gain t) h
gain_if_before true false t x g f h = ap (with_gain t) h
gain_if_before false d t x g f h = refl

truth_back : (b : Bool) → is_nonzero (truth b) ≡ b
truth_back true = refl
truth_back false = refl

-- no share, where none is shown
pub none_shown : (s : ℤ) (t c : Vec3) (w : ℤ) → s ≡ pos 0 → t ≡ with_shares s t c w
unfolding with_share
none_shown s t c w e = rw e refl

-- a share that is looked at where it is shown
shown_once : (b : Bool) (t c : Vec3) (w : ℤ) → cond b (each_two add t (scaled_by (cond b w (pos 0)) c)) t ≡ cond b (each_two add t (scaled_by w c)) t
shown_once true t c w = refl
shown_once false t c w = refl

-- a total with a highlight, where it is shown
highlights_are : (b : Bool) (normal unit v : Vec3) (e : ℤ) (t c : Vec3) → with_shares (truth b) t c (shown_highlight (truth b) normal unit v e) ≡ cond b (each_two add t (scaled_by (pow (weight normal (half_way unit v)) e) c)) t
unfolding shown_highlight
highlights_are b normal unit v e t c =
    let w = pow (weight normal (half_way unit v)) e in
    shares_are (truth b) t c (cond (is_nonzero (truth b)) w (pos 0))
    ∙ ap (λ d. cond d (each_two add t (scaled_by (cond d w (pos 0)) c)) t) (truth_back b)
    ∙ shown_once b t c w

module _ (a : Answers) (i : ℕ) (l : Light) (n normal t : Vec3) (h : a.ambient ≡ false) (is : IsAnswer a i l) (en : normal ≡ normalize n) where
  abbrev to : Vec3
  to = at_place a.towards i

  abbrev here : Bool
  here = is_nonzero (get_or a.lit.items i (pos 0))

  shown_here : shown [] l ≡ cond here (Some (to, at_place a.colours i)) None
  shown_here = is.seen ∙ cond-false _ _ _ h

  pub diffuse_share : with_shares (get_or a.lit.items i (pos 0)) t (at_place a.colours i) (weight (at_place a.units i) normal) ≡ with_gain t (option_bind (shown [] l) (λ x. Some (diffused n x)))
  unfolding weight
  diffuse_share =
      shares_are (get_or a.lit.items i (pos 0)) t (at_place a.colours i) (weight (at_place a.units i) normal)
      ∙ ap (λ u. cond here (each_two add t (scaled_by (max (pos 0) (dot u normal)) (at_place a.colours i))) t) (is.unit h)
      ∙ ap (λ m. cond here (each_two add t (scaled_by (max (pos 0) (dot (normalize to) m)) (at_place a.colours i))) t) en
      ∙ sym (ap (λ o. with_gain t (option_bind o (λ x. Some (diffused n x)))) shown_here ∙ gain_if here t (to, at_place a.colours i) (diffused n))

  pub specular_share : (v : Vec3) (r e : ℤ) → e ≡ div (pos 65536) r → (let b = truth (is_before (get_or a.lit.items i (pos 0)) (at_place a.units i) normal) in with_shares b t (at_place a.colours i) (shown_highlight b normal (at_place a.units i) v e)) ≡ with_gain t (option_bind (shown [] l) (reflected n v r))
  unfolding weight is_before
  specular_share v r e he =
      let c = at_place a.colours i in
      let lit = get_or a.lit.items i (pos 0) in
      let d = int_le (pos 0) (facing to n) in
      let g = scaled_by (pow (max (pos 0) (facing n (each_two add (normalize to) v))) (div (pos 65536) r)) c in
      highlights_are (is_before lit (at_place a.units i) normal) normal (at_place a.units i) v e t c
      ∙ ap (λ u. cond (here && int_le (pos 0) (dot u normal)) (each_two add t (scaled_by (pow (max (pos 0) (dot normal (half_way u v))) e) c)) t) (is.unit h)
      ∙ ap (λ m. cond (here && int_le (pos 0) (dot (normalize to) m)) (each_two add t (scaled_by (pow (max (pos 0) (dot m (half_way (normalize to) v))) e) c)) t) en
      ∙ ap (λ x. cond (here && d) (each_two add t (scaled_by (pow (max (pos 0) (facing n (each_two add (normalize to) v))) x) c)) t) he
      ∙ sym (ap (λ o. with_gain t (option_bind o (reflected n v r))) shown_here ∙ gain_if_before here d t (to, c) g (reflected n v r) refl)

-- lights that count in sums over those that aren't ambient
pub diffuse_lit : (n : Planes) (b : Bool) → counts_in (Diffuse n) b ≡ true → b ≡ false
diffuse_lit n true h = sym h
diffuse_lit n false h = refl

pub specular_lit : (n v : Planes) (r : Plane) (b : Bool) → counts_in (Specular n v r) b ≡ true → b ≡ false
specular_lit n v r true h = sym h
specular_lit n v r false h = refl
