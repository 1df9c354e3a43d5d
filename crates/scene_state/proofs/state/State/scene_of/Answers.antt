use Rattle.std.proofs.Common.{◌≡◌, List, subst, map, ap, ap₂, sym, ◌∙◌, rules}
use Rattle.rib_reader.specs.Reading.{plain}
use Rattle.scene.specs.Scene.{FrameValue, SceneValue, IsScene}
use Rattle.scene.specs.declared.uses.ShaderUse.{ShaderUse}
use Rattle.scene_state.specs.FirstUse.{InFirstUse}
use Rattle.scene_state.specs.MotionBlocks.{steps_of}
use Rattle.scene_state.specs.Steps.{state_from}
use Rattle.scene_state.proofs.Keeping.{state_is_scene}
use Rattle.scene_state.proofs.Order.{scene_in_order}
use Rattle.scene_state.proofs.state.State.scene_of.Goals as goal

abbrev scene_with : List FrameValue → List ShaderUse → SceneValue
scene_with frames uses = record { frames = frames; uses = uses }

-- what is taken out is the state's
taken : (c : goal.After-replace-2) → scene_with c.go_through.new.self.frames c.go_through.new.self.shaders.uses ≡ scene_with c.replace.result c.replace-2.result
taken c = ap₂ scene_with (sym c.replace.ensures.value) (sym c.replace-2.ensures.value)

pub invariant_of-result : goal.invariant_of-result
invariant_of-result c =
    let xs = steps_of (map plain c.args.requests.now) in
    subst IsScene (taken c) (state_is_scene xs c.go_through.new.self (ap (λ s. state_from s xs) (sym c.requires) ∙ c.in_ok-closed.ensures.state))

pub returns-clause-uses : goal.returns-clause-uses
returns-clause-uses c =
    let xs = steps_of (map plain c.args.requests.now) in
    subst InFirstUse (taken c) (scene_in_order xs c.go_through.new.self (ap (λ s. state_from s xs) (sym c.requires) ∙ c.in_ok-closed.ensures.state) (search rules))
