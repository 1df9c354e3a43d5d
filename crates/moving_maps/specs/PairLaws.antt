-- What doesn't move stays the same at both times.
use Rattle.std.proofs.Common.{◌≡◌, ap, sym, ◌∙◌, refl, Bool, true, false, cond, ◌&&◌}
use Rattle.std.specs.Prelude.{ℤ, Result, Ok, Err}
use Rattle.std.specs.Ordering.{int_eq}
use Rattle.transforms.specs.Map.{Map, before_of}
use Rattle.transforms.specs.declared.fault.FormFault.{FormFault}
use Rattle.moving_maps.specs.declared.times.Times.{Times}
use Rattle.moving_maps.specs.declared.times.Times.TheVariants.{Still, Between, Mixed}
use Rattle.moving_maps.specs.declared.change.Change.{Change}
use Rattle.moving_maps.specs.declared.change.Change.TheVariants.{Before, Instead}
use Rattle.moving_maps.specs.declared.change.When.{When}
use Rattle.moving_maps.specs.declared.change.When.TheVariants.{Always, First, Last}
use Rattle.moving_maps.specs.Motion.{joined}
use Rattle.moving_maps.specs.MapPairs.{is_first, is_last, map_behind, times_behind}

-- motions join to none only where there is none
abbrev is_still : Times → Bool
is_still Still = true
is_still (Between a b) = false
is_still Mixed = false

chosen_moves : (b : Bool) (x y : ℤ) → is_still (cond b (Between x y) Mixed) ≡ false
chosen_moves true x y = refl
chosen_moves false x y = refl

moves_joined : (t : Times) (a b : ℤ) → is_still (joined t (Between a b)) ≡ false
moves_joined Still a b = refl
moves_joined (Between c d) a b = chosen_moves (int_eq c a && int_eq d b) c d
moves_joined Mixed a b = refl

unlike : (b : Bool) → b ≡ true → b ≡ false → ⊥
unlike b t f = cc

never : {P : Type 0} (t : Times) → is_still t ≡ false → t ≡ Still → P
never t moves stays = absurd (unlike (is_still t) (ap is_still stays) moves)

pub joined-still : (s t : Times) → joined s t ≡ Still → (s ≡ Still) × (t ≡ Still)
joined-still Still t e = (refl, e)
joined-still (Between a b) Still e = never (Between a b) refl e
joined-still (Between a b) (Between c d) e = never (joined (Between a b) (Between c d)) (moves_joined (Between a b) c d) e
joined-still (Between a b) Mixed e = never Mixed refl e
joined-still Mixed t e = never Mixed refl e

abbrev value_or : Map → Result Map FormFault → Map
value_or m (Ok f) = f
value_or m (Err e) = m

same_ok : (f l : Map) (r : Result Map FormFault) → r ≡ Ok f → r ≡ Ok l → f ≡ l
same_ok f l r p q = ap (value_or f) (sym p ∙ q)

-- of the maps behind a request
pub behind-same : (w : When) (k : Change) (t : Times) (p q f l : Map) → (t ≡ Still → p ≡ q) → map_behind (is_first w) k p ≡ Ok f → map_behind (is_last w) k q ≡ Ok l → times_behind w k t ≡ Still → f ≡ l
behind-same Always (Before m) t p q f l alike e g s = same_ok f l (before_of p m) e (ap (λ c. before_of c m) (alike s) ∙ g)
behind-same Always (Instead m) t p q f l alike e g s = same_ok f l (Ok m) e g
behind-same (First a b) k t p q f l alike e g s = never (joined t (Between a b)) (moves_joined t a b) s
behind-same (Last a b) k t p q f l alike e g s = never (joined t (Between a b)) (moves_joined t a b) s

-- and of the maps of two pairs one after another
pub after-same : (s t : Times) (m n p q f l : Map) → (s ≡ Still → m ≡ n) → (t ≡ Still → p ≡ q) → before_of m p ≡ Ok f → before_of n q ≡ Ok l → joined s t ≡ Still → f ≡ l
after-same s t m n p q f l outer inner e g stays =
    let both = joined-still s t stays in
    same_ok f l (before_of m p) e (ap (λ c. before_of c p) (outer both.0) ∙ ap (λ c. before_of n c) (inner both.1) ∙ g)
