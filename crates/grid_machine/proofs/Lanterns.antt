-- Lights with what they answered.
use Rattle.std.proofs.Common.{◌≡◌, ℕ, zero, suc, ◌<◌, Bool, true, false, cond, List, [], ◌∷◌, map, length, get_or, set, refl, sym, ap, ◌∙◌, subst, true≢false, arith}
use Rattle.std.proofs.lemmas.List.{get_or-map, map-set, set-get_or}
use Rattle.std.specs.Prelude.{not, None}
use Rattle.fixed_math.specs.declared.vec3.Vec3.{Vec3}
use Rattle.builtins.specs.Lights.{lit, unlit}
use Rattle.builtins.specs.Values.{is_true}
use Rattle.grid_code.specs.Masked.{State, read}
use Rattle.grid_code.specs.Names.{lit_at}
use Rattle.light_rows.specs.declared.sums.Sum.{Sum}
use Rattle.light_rows.specs.declared.sums.Sum.TheVariants as sums
use Rattle.light_rows.specs.Seen.{ambient_gain, gain_at, counts_in, unasked}
use Rattle.grid_code.specs.Valid.{has_light_statement}
use Rattle.grid_code.specs.View.{block_of}
use Rattle.grid_machine.specs.Asked.{answer_at}
use Rattle.grid_machine.specs.Lamps.{IsLevel, asked_by}
use Rattle.grid_machine.specs.declared.lamps.Lantern.{Lantern}
use Rattle.grid_registers.specs.declared.room.Room.{Room}
use Rattle.grid_machine.proofs.Answering.{class_is, twice}

-- a light that is lit or not gives nothing to a sum over ambient ones
lit_none : (b : Bool) (l cl : Vec3) → ambient_gain (cond b (lit l cl) unlit) ≡ None
lit_none true l cl = refl
lit_none false l cl = refl

-- a light that doesn't count in a sum gives nothing
pub uncounted : (s : Sum) (i : ℕ) (b : Bool) (g : State) (j : ℕ) → counts_in s (not b) ≡ false → gain_at s i (answer_at b g j) ≡ None
uncounted sums.Ambient i true g j h = lit_none (is_true (read g lit_at j)) _ _
uncounted sums.Ambient i false g j h = absurd (true≢false h)
uncounted (sums.Diffuse n) i false g j h = refl
uncounted (sums.Diffuse n) i true g j h = absurd (true≢false h)
uncounted (sums.Specular n v r) i false g j h = refl
uncounted (sums.Specular n v r) i true g j h = absurd (true≢false h)
uncounted sums.Nothing i b g j h = refl

-- elements of lists whose images are the same
pub same_at : {A B : Type 0} (f : A → B) (xs ys : List A) (n : ℕ) (d e : A) → map f xs ≡ map f ys → n < length xs → n < length ys → f (get_or xs n d) ≡ f (get_or ys n e)
same_at f xs ys n d e h lx ly = sym (get_or-map f xs n d (f d) lx) ∙ ap (λ zs. get_or zs n (f d)) h ∙ get_or-map f ys n e (f d) ly

-- a light that doesn't count in a sum by its class
pub uncounted_by : (s : Sum) (i : ℕ) (k : Lantern) (q : ℕ → Vec3) (j : ℕ) → counts_in s k.lamp.code.now.ambient ≡ false → gain_at s i (asked_by k q j) ≡ None
uncounted_by s i k q j h =
    let code = k.lamp.code.now in
    let x = block_of code.nodes in
    uncounted s i (has_light_statement x) _ j (ap (λ b. counts_in s (not b)) (sym (class_is code.kind x code.ambient k.lamp.fits.light.kind code.lit)) ∙ ap (counts_in s) (twice code.ambient) ∙ h)

-- the same level by equal numbers
pub level_by : (c d : ℕ) (r t : Room) (k : Lantern) → c ≡ d → r ≡ t → IsLevel c r k → IsLevel d t k
level_by c d r t k e f h = subst (λ x. IsLevel x t k) e (subst (λ y. IsLevel c y k) f h)

-- images where one element is replaced by another one with the same image
pub images_kept : {A B : Type 0} (f : A → B) (xs : List A) (n : ℕ) (x d : A) → n < length xs → f x ≡ f (get_or xs n d) → map f (set xs n x) ≡ map f xs
images_kept f xs n x d l e = map-set f xs n x ∙ ap (set (map f xs) n) (e ∙ sym (get_or-map f xs n d (f d) l)) ∙ set-get_or (map f xs) n (f d)

-- what a light answers, by its place among all
pub asked_there : (ks : List Lantern) (n : ℕ) (d : Lantern) (q : ℕ → Vec3) (i : ℕ) → n < length ks → asked_by (get_or ks n d) q i ≡ get_or (map asked_by ks) n unasked q i
asked_there ks n d q i l = ap (λ f. f q i) (sym (get_or-map asked_by ks n d unasked l))

-- an element by any default
pub get_or_any : {A : Type 0} (xs : List A) (n : ℕ) (d e : A) → n < length xs → get_or xs n d ≡ get_or xs n e
get_or_any [] n d e l = absurd (omega arith)
get_or_any (x ∷ xs) zero d e l = refl
get_or_any (x ∷ xs) (suc n) d e l = get_or_any xs n d e (omega arith)
