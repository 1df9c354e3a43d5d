-- The places of several shader requests, one after another.
use Rattle.std.proofs.Common.{◌≡◌, ℕ, ◌∷◌, [], ◌++◌, List, ap, append_assoc}
use Rattle.scene_state.specs.declared.shaders.Shaders.{Shaders}
use Rattle.scene_state.specs.Shaders.{placed, all_placed}

-- these places, and then those
abbrev pub behind : List ℕ → Shaders × List ℕ → Shaders × List ℕ
behind done others = (others.0, done ++ others.1)

pub one_placed : (s : Shaders) (done : List ℕ) (k : ℕ) (ks : List ℕ) → behind (done ++ (placed s k).1 ∷ []) (all_placed (placed s k).0 ks) ≡ behind done (all_placed s (k ∷ ks))
one_placed s done k ks =
    let others = all_placed (placed s k).0 ks in
    ap (λ (places : List ℕ). (others.0, places)) (append_assoc done ((placed s k).1 ∷ []) others.1)
