-- For contracts of sums over lights: what one light adds at a place.
use Rattle.std.specs.Prelude.{◌≡◌, ℕ, ◌<◌, ℤ, pos, get_or}
use Rattle.fixed_math.specs.declared.vec3.Vec3.{Vec3}
use Rattle.builtins.specs.Lights.{Light}
use Rattle.number_rows.specs.Planes.{triple_at}
use Rattle.number_rows.specs.Truths.{truth}
use Rattle.number_rows.specs.declared.plane.Planes.{Planes}
use Rattle.light_rows.specs.Loops.{weight, is_before, with_shares, shown_highlight}
use Rattle.light_rows.specs.Seen.{size, at_place, with_gain, gain_at, IsAnswer}
use Rattle.light_rows.specs.declared.answers.Answers.{Answers}
use Rattle.light_rows.specs.declared.sums.Sum.{Sum}
use Rattle.light_rows.specs.declared.workroom.Workroom.{Workroom}

-- a total with the light that a matte surface throws back
abbrev pub matte_at : Answers → Workroom → Vec3 → ℕ → Vec3
matte_at a w total i = with_shares (get_or a.lit.items i (pos 0)) total (at_place a.colours i) (weight (at_place a.units i) (at_place w.normals i))

-- whether a highlight is shown, as a number, and its weight where it is, seen from v
abbrev pub shown_at : Answers → Workroom → ℕ → ℤ
shown_at a w i = truth (is_before (get_or a.lit.items i (pos 0)) (at_place a.units i) (at_place w.normals i))

abbrev pub highlight_at : ℤ → Answers → Workroom → Planes → ℕ → ℤ
highlight_at shown a w v i = shown_highlight shown (at_place w.normals i) (at_place a.units i) (triple_at v i) (get_or w.exponents.items i (pos 0))

-- a total with a highlight
abbrev pub shining_at : Answers → Workroom → Planes → Vec3 → ℕ → Vec3
shining_at a w v total i = with_shares (shown_at a w i) total (at_place a.colours i) (highlight_at (shown_at a w i) a w v i)

-- totals take what a light gives to a sum, whatever light gave these answers
abbrev pub HaveGained : Sum → Answers → (ℕ → Vec3) → (ℕ → Vec3) → Type 0
HaveGained s a before now = (l : ℕ → Light) → ((i : ℕ) → i < size a.colours → IsAnswer a i (l i)) → (i : ℕ) → i < size a.colours → now i ≡ with_gain (before i) (gain_at s i (l i))
