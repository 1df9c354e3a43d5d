-- One block behind another.
use Rattle.std.proofs.Common.{◌≡◌, ℕ, refl, ap}
use Rattle.grid_code.specs.declared.code.Register.TheVariants.{Uniform, Varying}
use Rattle.grid_code.specs.Code.{Block, end, put, differ, sum, texture, branch, loops, lights, breaks, continues, ◌then◌}
use Rattle.grid_code.specs.Masked.{Ground, State, masked}

pub then_runs : (x y : Block) (g0 : Ground) (c n : ℕ) (g : State) → masked (x then y) g0 c n g ≡ masked y g0 c n (masked x g0 c n g)
then_runs end y g0 c n g = refl
then_runs (put r o x) y g0 c n g = then_runs x y g0 c n _
then_runs (differ r d q x) y g0 c n g = then_runs x y g0 c n _
then_runs (sum r w qs x) y g0 c n g = then_runs x y g0 c n _
then_runs (texture r k qs x) y g0 c n g = then_runs x y g0 c n _
then_runs (branch (Uniform s r) a b x) y g0 c n g = then_runs x y g0 c n _
then_runs (branch (Varying s r) a b x) y g0 c n g = then_runs x y g0 c n _
then_runs (loops u d t e a x) y g0 c n g = then_runs x y g0 c n _
then_runs (lights w qs a x) y g0 c n g = then_runs x y g0 c n _
then_runs (breaks x) y g0 c n g = then_runs x y g0 c n _
then_runs (continues x) y g0 c n g = then_runs x y g0 c n _

pub then_assoc : (x y z : Block) → (x then y) then z ≡ x then (y then z)
then_assoc end y z = refl
then_assoc (put r o x) y z = ap (put r o) (then_assoc x y z)
then_assoc (differ r d q x) y z = ap (differ r d q) (then_assoc x y z)
then_assoc (sum r w qs x) y z = ap (sum r w qs) (then_assoc x y z)
then_assoc (texture r k qs x) y z = ap (texture r k qs) (then_assoc x y z)
then_assoc (branch r a b x) y z = ap (branch r a b) (then_assoc x y z)
then_assoc (loops u d t e a x) y z = ap (loops u d t e a) (then_assoc x y z)
then_assoc (lights w qs a x) y z = ap (lights w qs a) (then_assoc x y z)
then_assoc (breaks x) y z = ap breaks (then_assoc x y z)
then_assoc (continues x) y z = ap continues (then_assoc x y z)

pub then_end : (x : Block) → x then end ≡ x
then_end end = refl
then_end (put r o x) = ap (put r o) (then_end x)
then_end (differ r d q x) = ap (differ r d q) (then_end x)
then_end (sum r w qs x) = ap (sum r w qs) (then_end x)
then_end (texture r k qs x) = ap (texture r k qs) (then_end x)
then_end (branch r a b x) = ap (branch r a b) (then_end x)
then_end (loops u d t e a x) = ap (loops u d t e a) (then_end x)
then_end (lights w qs a x) = ap (lights w qs a) (then_end x)
then_end (breaks x) = ap breaks (then_end x)
then_end (continues x) = ap continues (then_end x)
