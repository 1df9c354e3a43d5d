-- Code that asks lights.
use Rattle.std.specs.Prelude.{◌≡◌, Bool, true, false, ◌||◌}
use Rattle.grid_code.specs.View.{block_of}
use Rattle.displace_shade.specs.declared.bound.BoundShader.{BoundShader}
use Rattle.grid_code.specs.Code.{Block, end, put, differ, sum, texture, branch, loops, lights, breaks, continues}

-- a sum over lights or a statement over them stands in a block
abbrev pub asks_lights : Block → Bool
asks_lights end = false
asks_lights (put r o x) = asks_lights x
asks_lights (differ r d q x) = asks_lights x
asks_lights (sum r which qs x) = true
asks_lights (texture r k qs x) = asks_lights x
asks_lights (branch t a b x) = asks_lights a || (asks_lights b || asks_lights x)
asks_lights (loops u d t e a x) = asks_lights d || (asks_lights e || (asks_lights a || asks_lights x))
asks_lights (lights w qs a x) = true
asks_lights (breaks x) = asks_lights x
asks_lights (continues x) = asks_lights x

-- the code of a shader that is bound asks no light
abbrev pub AsksNone : BoundShader → Type 0
AsksNone b = asks_lights (block_of b.compiled.now.code.nodes) ≡ false
