use Rattle.std.proofs.Common.{◌≡◌, ◌∙◌, ap, subst, ℕ, List, ◌++◌, take, Some, IfSome}
use Rattle.std.specs.Option.{option_map}
use Rattle.std.proofs.lemmas.Result.{IfOk-weaker}
use Rattle.scene_parts.specs.Lights.{made_before}
use Rattle.scene_state.specs.Shaders.{all_placed}
use Rattle.scene_state.proofs.UnnamedLights.{shared_and}
use Rattle.scene_state.proofs.shaders.Shaders.place_lights.Goals as goal

pub returns : goal.returns
returns c =
    let s = c.args.self.now in
    let t = c.place_all.new.self in
    let lights = c.args.lights.now in
    let shared = c.in-Some-2.shared in
    let last = option_map (λ l. l.now) c.args.last in
    let first = subst (λ o. IfSome o (λ l. option_map (take c.in-Some.front) last ≡ Some l)) c.in-Some-2.is c.in_ok-shared.ensures in
    IfOk-weaker c.and.result (λ l. l ≡ shared ++ c.as_slice.result.now) (λ l. (t, l) ≡ all_placed s lights)
    (λ l is. shared_and s t (made_before c.args.first lights) c.in-Some.others.now lights shared c.in_ok-places.places l c.in-Some.front last c.requires c.in-Some.ensures.count first
    c.in_ok-places.ensures c.in-Some.ensures.parts (is ∙ ap (λ (ms : List ℕ). shared ++ ms) c.as_slice.ensures)) c.and.ensures
