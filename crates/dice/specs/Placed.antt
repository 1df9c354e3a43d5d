-- What a shader reads of its place on a primitive. A primitive made of patches in m columns and n rows has u and v from 0 to 1 over
-- all of them (RenderMan Interface 3.2, section 11, on u, v, du, dv, dPdu and dPdv); a patch knows its column c of m and its row d of n.
use Rattle.std.specs.Prelude.{ℕ, ◌+◌, ◌*◌, ◌/◌, ◌^◌, max, ℤ, pos, neg_ℤ, ◌*ℤ◌, List, [], ◌∷◌, ◌≡◌, refl}
use Rattle.fixed_math.specs.declared.vec3.Vec3.{Vec3}
use Rattle.fixed_math.specs.Fixed.{sat}
use Rattle.dice.specs.Normals.{item}

-- the shader's u, raw, at the parameter n / 4096 of a patch in column c of m: (c + n / 4096) / m, rounded down
abbrev pub parameter_of : ℕ → ℕ → ℕ → ℤ
parameter_of c m n = pos ((65536 * c + 16 * n) / m)

-- the step of u between columns, raw: 1 / (m * 2 ^ (a + p)), rounded down, but not 0
abbrev pub step_of : ℕ → ℕ → ℕ → ℤ
step_of m a p = pos (max 1 (65536 / (m * 2 ^ (a + p))))

-- the derivative by the shader's u: m times that by the patch's own parameter
unfoldable pub derivative_of : ℕ → List ℤ → Vec3
derivative_of m d = record { x = sat (pos m *ℤ item d 0); y = sat (pos m *ℤ item d 1); z = sat (pos m *ℤ item d 2) }

-- worked values: the middle of the second of three columns, and its ends; steps; a derivative past the limit
middle_of_second : parameter_of 1 3 2048 ≡ pos 32768
middle_of_second = refl

end_of_first : parameter_of 0 3 4096 ≡ pos 21845
end_of_first = refl

end_of_last : parameter_of 2 3 4096 ≡ pos 65536
end_of_last = refl

step_of_sixteenth : step_of 1 0 4 ≡ pos 4096
step_of_sixteenth = refl

least_step : step_of 65536 8 4 ≡ pos 1
least_step = refl

derivative_of_three : derivative_of 3 (pos 7 ∷ neg_ℤ (pos 2) ∷ pos 1073741824 ∷ []) ≡ record { x = pos 21; y = neg_ℤ (pos 6); z = pos 2147483647 }
unfolding derivative_of
derivative_of_three = refl
