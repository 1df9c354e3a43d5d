-- Sums over lights, light by light.
use Rattle.std.proofs.Common.{◌≡◌, ◌≢◌, ℕ, ◌+◌, ◌<◌, ◌≤◌, ℤ, Bool, true, false, cond, List, [], ◌∷◌, length, get_or, set, drop, map, refl, sym, ap, ◌∙◌, arith, add-one}
use Rattle.std.specs.Prelude.{Option, Some, None, int_le}
use Rattle.std.specs.List.{fold, filter, filter_map}
use Rattle.std.proofs.Math.Seq.{drop-cons}
use Rattle.std.proofs.lemmas.List.{get_or-set_other}
use Rattle.fixed_math.specs.Axes.{origin}
use Rattle.fixed_math.specs.Fixed.{add}
use Rattle.fixed_math.specs.Sine.{cos}
use Rattle.fixed_math.specs.declared.vec3.Vec3.{Vec3}
use Rattle.sl_ast.specs.declared.operations.LightSum.{LightSum}
use Rattle.sl_ast.specs.declared.operations.LightSum.TheVariants as sums
use Rattle.sl_ast.specs.declared.typed.Value.{Value}
use Rattle.sl_ast.specs.declared.typed.Value.TheVariants.{Triple}
use Rattle.builtins.specs.Lights.{is_in_cone, facing, Light, ambient, unlit, lit, ambients, shown, diffused, thrown, is_before, sum_of}
use Rattle.builtins.specs.Triples.{each_two, negated}
use Rattle.builtins.specs.Values.{number_of, triple_of}
use Rattle.builtins.specs.declared.shape.Shape.TheVariants as shapes
use Rattle.grid_code.specs.declared.code.Register.{Register}
use Rattle.grid_code.specs.declared.code.Register.TheVariants.{Uniform}
use Rattle.grid_code.specs.Masked.{Asked, State, read, reads, all_answers}
use Rattle.light_rows.specs.Seen.{unasked, ambient_gain, option_bind, reflected, gain, with_gain, gained, answers_at}

abbrev joined : Vec3 → List Vec3 → Vec3
joined t cs = fold (λ c d. each_two add c d) t cs

ambients_gained : (t : Vec3) (ls : List Light) → joined t (ambients ls) ≡ gained ambient_gain t ls
ambients_gained t [] = refl
ambients_gained t (ambient cl ∷ ls) = ambients_gained (each_two add t cl) ls
ambients_gained t (unlit ∷ ls) = ambients_gained t ls
ambients_gained t (lit l cl ∷ ls) = ambients_gained t ls

diffuse_gained : (n t : Vec3) (ls : List Light) → joined t (map (diffused n) (filter_map (shown []) ls)) ≡ gained (λ l. option_bind (shown [] l) (λ x. Some (diffused n x))) t ls
diffuse_gained n t [] = refl
diffuse_gained n t (ambient cl ∷ ls) = diffuse_gained n t ls
diffuse_gained n t (unlit ∷ ls) = diffuse_gained n t ls
diffuse_gained n t (lit l cl ∷ ls) = diffuse_gained n (each_two add t (diffused n (negated l, cl))) ls

one_more : (h : Vec3 × Vec3 → Vec3) (g : Light → Option Vec3) (t : Vec3) (x : Vec3 × Vec3) (xs : List (Vec3 × Vec3)) (ls : List Light) (b : Bool) → ((u : Vec3) → joined u (map h xs) ≡ gained g u ls) → joined t (map h (cond b (x ∷ xs) xs)) ≡ gained g (with_gain t (cond b (Some (h x)) None)) ls
one_more h g t x xs ls true k = k (each_two add t (h x))
one_more h g t x xs ls false k = k t

specular_gained : (n v : Vec3) (r : ℤ) (t : Vec3) (ls : List Light) → joined t (map (thrown n v r) (filter (is_before n) (filter_map (shown []) ls))) ≡ gained (λ l. option_bind (shown [] l) (reflected n v r)) t ls
specular_gained n v r t [] = refl
specular_gained n v r t (ambient cl ∷ ls) = specular_gained n v r t ls
specular_gained n v r t (unlit ∷ ls) = specular_gained n v r t ls
specular_gained n v r t (lit l cl ∷ ls) =
    one_more (thrown n v r) (λ k. option_bind (shown [] k) (reflected n v r)) t (negated l, cl) (filter (is_before n) (filter_map (shown []) ls)) ls (is_before n (negated l, cl)) (λ u. specular_gained n v r u ls)

nothing_gained : (f : Light → Option Vec3) (t : Vec3) (ls : List Light) → ((l : Light) → f l ≡ None) → t ≡ gained f t ls
nothing_gained f t [] h = refl
nothing_gained f t (l ∷ ls) h = nothing_gained f t ls h ∙ ap (λ o. gained f (with_gain t o) ls) (sym (h l))

pub sum_gained : (which : LightSum) (vs : List Value) (ls : List Light) → sum_of which vs ls ≡ Triple (gained (gain which vs) origin ls)
sum_gained sums.Ambient vs ls = ap (λ t. Triple t) (ambients_gained origin ls)
sum_gained sums.Diffuse [] ls = ap (λ t. Triple t) (nothing_gained (gain sums.Diffuse []) origin ls (λ l. refl))
sum_gained sums.Diffuse (n ∷ []) ls = ap (λ t. Triple t) (diffuse_gained (triple_of n) origin ls)
sum_gained sums.Diffuse (n ∷ m ∷ vs) ls = ap (λ t. Triple t) (nothing_gained (gain sums.Diffuse (n ∷ m ∷ vs)) origin ls (λ l. refl))
sum_gained sums.Specular [] ls = ap (λ t. Triple t) (nothing_gained (gain sums.Specular []) origin ls (λ l. refl))
sum_gained sums.Specular (n ∷ []) ls = ap (λ t. Triple t) (nothing_gained (gain sums.Specular (n ∷ [])) origin ls (λ l. refl))
sum_gained sums.Specular (n ∷ v ∷ []) ls = ap (λ t. Triple t) (nothing_gained (gain sums.Specular (n ∷ v ∷ [])) origin ls (λ l. refl))
sum_gained sums.Specular (n ∷ v ∷ r ∷ []) ls = ap (λ t. Triple t) (specular_gained (triple_of n) (triple_of v) (number_of r) origin ls)
sum_gained sums.Specular (n ∷ v ∷ r ∷ w ∷ vs) ls = ap (λ t. Triple t) (nothing_gained (gain sums.Specular (n ∷ v ∷ r ∷ w ∷ vs)) origin ls (λ l. refl))

gained_same : (f g : Light → Option Vec3) (t : Vec3) (ls : List Light) → ((l : Light) → f l ≡ g l) → gained f t ls ≡ gained g t ls
gained_same f g t [] h = refl
gained_same f g t (l ∷ ls) h = gained_same f g (with_gain t (f l)) ls h ∙ ap (λ o. gained g (with_gain t o) ls) (h l)

all_answers_are : (fs : List Asked) (s : State) (place : Register) (i : ℕ) → all_answers fs s place i ≡ answers_at fs (λ j. triple_of (read s place j)) i
all_answers_are [] s place i = refl
all_answers_are (f ∷ fs) s place i = ap (λ ls. f (λ j. triple_of (read s place j)) i ∷ ls) (all_answers_are fs s place i)

-- a sum at a place, by its total there
pub sum_at : (which : LightSum) (vs ws : List Value) (f : Light → Option Vec3) (fs : List Asked) (s : State) (place : Register) (i : ℕ) (t : Vec3) → vs ≡ ws → ((l : Light) → f l ≡ gain which ws l) → t ≡ gained f origin (answers_at fs (λ j. triple_of (read s place j)) i) → sum_of which vs (all_answers fs s place i) ≡ Triple t
sum_at which vs ws f fs s place i t e h is =
    ap (λ us. sum_of which us (all_answers fs s place i)) e ∙ ap (sum_of which ws) (all_answers_are fs s place i) ∙ sum_gained which ws (answers_at fs (λ j. triple_of (read s place j)) i)
    ∙ ap (λ u. Triple u) (sym (is ∙ gained_same f (gain which ws) origin (answers_at fs (λ j. triple_of (read s place j)) i) h))

pub totals_next : (f : Light → Option Vec3) (fs : List Asked) (q : ℕ → Vec3) (i n : ℕ) (t t' : Vec3) (x : Light) (r : Vec3) → n < length fs → x ≡ get_or fs n unasked q i → t' ≡ with_gain t (f x) → gained f t (answers_at (drop n fs) q i) ≡ r → gained f t' (answers_at (drop (n + 1) fs) q i) ≡ r
totals_next f fs q i n t t' x r l is next inv =
    ap (λ u. gained f u (answers_at (drop (n + 1) fs) q i)) (next ∙ ap (λ y. with_gain t (f y)) is)
    ∙ ap (λ k. gained f (with_gain t (f (get_or fs n unasked q i))) (answers_at (drop k fs) q i)) (add-one n)
    ∙ sym (ap (λ gs. gained f t (answers_at gs q i)) (drop-cons fs n unasked l)) ∙ inv

pub none_left : (fs : List Asked) (n : ℕ) → n ≡ length fs → drop n fs ≡ []
none_left [] n h = ap (λ k. drop k []) h
none_left (x ∷ xs) n h = ap (λ k. drop k (x ∷ xs)) h ∙ none_left xs (length xs) refl

-- other numbers of arguments
pub no_cone : (s : State) (qs : List Register) (i : ℕ) (l : Vec3) → length qs ≢ 2 → is_in_cone (reads s qs i) l ≡ true
no_cone s [] i l h = refl
no_cone s (a ∷ []) i l h = refl
no_cone s (a ∷ b ∷ []) i l h = absurd (h refl)
no_cone s (a ∷ b ∷ d ∷ qs) i l h = refl

pub no_diffuse : (s : State) (qs : List Register) (i : ℕ) (l : Light) → length qs ≢ 1 → gain sums.Diffuse (reads s qs i) l ≡ None
no_diffuse s [] i l h = refl
no_diffuse s (a ∷ []) i l h = absurd (h refl)
no_diffuse s (a ∷ b ∷ qs) i l h = refl

-- as many arguments as a sum and a cone have
pub cone_is : (s : State) (qs : List Register) (i : ℕ) (l axis : Vec3) (angle : ℤ) → length qs ≡ 2 → axis ≡ triple_of (read s (get_or qs 0 (Uniform shapes.Number 0)) i) → angle ≡ number_of (read s (get_or qs 1 (Uniform shapes.Number 0)) i) → int_le (cos angle) (facing l axis) ≡ is_in_cone (reads s qs i) l
cone_is s [] i l x a h ex ea = absurd (omega arith)
cone_is s (p ∷ []) i l x a h ex ea = absurd (omega arith)
cone_is s (p ∷ q ∷ []) i l x a h ex ea = ap (λ y. int_le (cos a) (facing l y)) ex ∙ ap (λ b. int_le (cos b) (facing l (triple_of (read s p i)))) ea
cone_is s (p ∷ q ∷ t ∷ qs) i l x a h ex ea = absurd (omega arith)

pub diffuse_is : (s : State) (qs : List Register) (i : ℕ) (l : Light) (n : Vec3) → length qs ≡ 1 → n ≡ triple_of (read s (get_or qs 0 (Uniform shapes.Number 0)) i) → option_bind (shown [] l) (λ x. Some (diffused n x)) ≡ gain sums.Diffuse (reads s qs i) l
diffuse_is s [] i l n h en = absurd (omega arith)
diffuse_is s (p ∷ []) i l n h en = ap (λ m. option_bind (shown [] l) (λ x. Some (diffused m x))) en
diffuse_is s (p ∷ q ∷ qs) i l n h en = absurd (omega arith)

pub specular_is : (s : State) (qs : List Register) (i : ℕ) (l : Light) (n v : Vec3) (r : ℤ) → length qs ≡ 3 → n ≡ triple_of (read s (get_or qs 0 (Uniform shapes.Number 0)) i) → v ≡ triple_of (read s (get_or qs 1 (Uniform shapes.Number 0)) i) → r ≡ number_of (read s (get_or qs 2 (Uniform shapes.Number 0)) i) → option_bind (shown [] l) (reflected n v r) ≡ gain sums.Specular (reads s qs i) l
specular_is s [] i l n v r h en ev er = absurd (omega arith)
specular_is s (p ∷ []) i l n v r h en ev er = absurd (omega arith)
specular_is s (p ∷ q ∷ []) i l n v r h en ev er = absurd (omega arith)
specular_is s (p ∷ q ∷ t ∷ []) i l n v r h en ev er =
    ap (λ m. option_bind (shown [] l) (reflected m v r)) en ∙ ap (λ m. option_bind (shown [] l) (reflected (triple_of (read s p i)) m r)) ev ∙ ap (λ m. option_bind (shown [] l) (reflected (triple_of (read s p i)) (triple_of (read s q i)) m)) er
specular_is s (p ∷ q ∷ t ∷ w ∷ qs) i l n v r h en ev er = absurd (omega arith)

no_specular : (s : State) (qs : List Register) (i : ℕ) (l : Light) → length qs ≢ 3 → gain sums.Specular (reads s qs i) l ≡ None
no_specular s [] i l h = refl
no_specular s (a ∷ []) i l h = refl
no_specular s (a ∷ b ∷ []) i l h = refl
no_specular s (a ∷ b ∷ d ∷ []) i l h = absurd (h refl)
no_specular s (a ∷ b ∷ d ∷ e ∷ qs) i l h = refl

pub few_specular : (s : State) (qs : List Register) (i : ℕ) (l : Light) → length qs < 3 → gain sums.Specular (reads s qs i) l ≡ None
few_specular s qs i l h = no_specular s qs i l (λ e. absurd (omega arith))

pub many_specular : (s : State) (qs : List Register) (i : ℕ) (l : Light) → 4 ≤ length qs → gain sums.Specular (reads s qs i) l ≡ None
many_specular s qs i l h = no_specular s qs i l (λ e. absurd (omega arith))

pub others_kept : {A : Type 0} (xs : List A) (n : ℕ) (x d : A) (i : ℕ) → n + 1 ≤ i → get_or (set xs n x) i d ≡ get_or xs i d
others_kept xs n x d i b = get_or-set_other xs n i x d (omega arith)
