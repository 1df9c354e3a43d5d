-- A size is at most 4.
use Rattle.std.proofs.Common.{◌≡◌, ℕ, ◌<◌, ◌≤◌, arith, refl, Bool, true, false, cond, Option, Some, None, unwrap_or, nat_lt, nat_le, List, ℤ, ◌+ℤ◌, ◌-ℤ◌, int_lt, map, ◌*◌, ◌^◌, ◌&&◌}
use Rattle.std.proofs.lemmas.Bool.Decides.{nat_tests}
use Rattle.fixed_math.specs.declared.vec3.Vec3.{Vec3}
use Rattle.patches.specs.Parts.{Part}
use Rattle.transforms.specs.declared.view.View.{View}
use Rattle.bound_split.specs.declared.splits.Decision.{Decision}
use Rattle.bound_split.specs.declared.splits.Decision.TheVariants.{SplitU, SplitV, Dice}
use Rattle.bound_split.specs.Decisions.{grid_size, wants, by_wants, by_lengths, by_turns, cell_side, decision, FitsPart}
use Rattle.bound_split.specs.Lengths.{place_of, rows_length, columns_length}
use Rattle.fixed_math.specs.declared.vec3.Axis.TheVariants.{Z}
use Rattle.fixed_math.specs.Axes.{least, greatest}

-- a choice of five is at most 4
first_of_five : (a b c d e : Bool) → unwrap_or (cond a (Some 0) (cond b (Some 1) (cond c (Some 2) (cond d (Some 3) (cond e (Some 4) None))))) 4 ≤ 4
first_of_five true b c d e = omega arith
first_of_five false true c d e = omega arith
first_of_five false false true d e = omega arith
first_of_five false false false true e = omega arith
first_of_five false false false false true = omega arith
first_of_five false false false false false = omega arith

pub size_small : (e l : ℕ) → unwrap_or (grid_size e l) 4 ≤ 4
unfolding grid_size
size_small e l = first_of_five (nat_le l (e * 2 ^ 0)) (nat_le l (e * 2 ^ 1)) (nat_le l (e * 2 ^ 2)) (nat_le l (e * 2 ^ 3)) (nat_le l (e * 2 ^ 4))

-- what wants a split has room for it
wants_room : (size : Option ℕ) (a : ℕ) → wants size a ≡ true → a < 8
wants_room (Some p) a h = absurd (cc)
wants_room None a h = grind (arith, nat_tests)

by_wants-fits : (u v longer : Bool) (p q : ℕ) (part : Part) → (u ≡ true → part.a < 8) → (v ≡ true → part.b < 8) → p ≤ 4 → q ≤ 4 → FitsPart (by_wants u v longer (Dice p q)) part
by_wants-fits true true true p q part hu hv hp hq = hu refl
by_wants-fits true true false p q part hu hv hp hq = hv refl
by_wants-fits true false longer p q part hu hv hp hq = hu refl
by_wants-fits false true longer p q part hu hv hp hq = hv refl
by_wants-fits false false longer p q part hu hv hp hq = (hp, hq)

by_lengths-fits : (e along_u along_v : ℕ) (part : Part) → FitsPart (by_lengths e part.a part.b along_u along_v) part
unfolding by_lengths
by_lengths-fits e along_u along_v part =
    by_wants-fits (wants (grid_size e along_u) part.a) (wants (grid_size e along_v) part.b) (nat_le along_v along_u) _ _ part
    (wants_room (grid_size e along_u) part.a) (wants_room (grid_size e along_v) part.b) (size_small e along_u) (size_small e along_v)

turn-fits : (u v : Bool) (part : Part) → (u ≡ true → part.a < 8) → (v ≡ true → part.b < 8) → FitsPart (cond u SplitU (cond v SplitV (Dice 2 2))) part
turn-fits true v part hu hv = hu refl
turn-fits false true part hu hv = hv refl
turn-fits false false part hu hv = (omega arith, omega arith)

by_turns-fits : (part : Part) → FitsPart (by_turns part.a part.b) part
by_turns-fits part = turn-fits (nat_le part.a part.b && nat_lt part.a 8) (nat_lt part.b 8) part (λ h. grind (arith, nat_tests)) (λ h. grind (arith, nat_tests))

cases-fit : (b : Bool) (d e : Decision) (part : Part) → FitsPart d part → FitsPart e part → FitsPart (cond b d e) part
cases-fit true d e part hd he = hd
cases-fit false d e part hd he = he

-- each decision fits its part
pub decision-fits : (v : View) (rate bound : ℤ) (w : ℕ) (net : List Vec3) (part : Part) → FitsPart (decision v rate bound w net part.a part.b) part
unfolding decision
decision-fits v rate bound w net part =
    let u = rows_length w (map (place_of v) net) in
    let l = columns_length w (map (place_of v) net) in
    let by_length = by_lengths (cell_side rate) part.a part.b u l in
    let crosses = int_lt (least Z net -ℤ bound) v.near in
    cases-fit (int_lt (greatest Z net +ℤ bound) v.near) (Dice 0 0) (cond crosses (by_turns part.a part.b) by_length) part (omega arith, omega arith)
    (cases-fit crosses (by_turns part.a part.b) by_length part (by_turns-fits part) (by_lengths-fits (cell_side rate) u l part))
