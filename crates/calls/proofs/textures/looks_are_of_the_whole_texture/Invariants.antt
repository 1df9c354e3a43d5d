use Rattle.std.proofs.Common.{◌≡◌, length}
use Rattle.calls.proofs.textures.looks_are_of_the_whole_texture.Given as goal

abbrev pub invariant-loop-which : goal.invariant-loop-which
invariant-loop-which g l = length l.cache.textures ≡ 2
