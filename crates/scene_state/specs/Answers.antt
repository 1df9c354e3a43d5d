-- What is answered of a request and of a list of requests.
use Rattle.std.specs.Prelude.{◌≡◌, ℕ, Result, Ok, Err, List, map}
use Rattle.rib_reader.specs.declared.request.Request.{Request}
use Rattle.rib_reader.specs.Reading.{plain}
use Rattle.transforms.specs.Map.{Map}
use Rattle.transforms.specs.declared.fault.FormFault.{FormFault}
use Rattle.scene.specs.Scene.{SceneValue}
use Rattle.primitives.specs.declared.fault.PrimitiveFault.{PrimitiveFault}
use Rattle.primitives.specs.declared.fault.PrimitiveFault.TheVariants as primitive_faults
use Rattle.scene_state.specs.State.{Stepped, code_of}
use Rattle.scene_state.specs.Steps.{Placed, scene_of}
use Rattle.scene_state.specs.declared.state.State.{State}
use Rattle.scene_state.specs.declared.fault.StepFault.{StepFault}
use Rattle.scene_state.specs.declared.fault.StepFault.TheVariants.{Refused, NoMemory}
use Rattle.scene_state.specs.declared.fault.StateFault.{StateFault}
use Rattle.scene_state.specs.declared.fault.StateFault.TheVariants as faults

-- the new state is the one that the request leads to, or the fault is its fault; where memory ran out nothing is said
abbrev pub Steps : {A : Type 0} → Result A StepFault → Stepped → State → Type 0
Steps (Ok done) stepped new = stepped ≡ Ok new
Steps (Err (Refused code)) stepped new = stepped ≡ Err code
Steps (Err NoMemory) stepped new = Unit {0}

-- why there is no scene, where a request in that line isn't done
abbrev pub fault_at : ℕ → StepFault → StateFault
fault_at line (Refused code) = faults.At code line
fault_at line NoMemory = faults.NoMemory

-- why a request with a primitive of that fault doesn't change the state
abbrev pub step_fault : PrimitiveFault → StepFault
step_fault (primitive_faults.Refused code) = Refused code
step_fault primitive_faults.NoMemory = NoMemory

-- the new state is the one behind these requests, or the fault is their first with its line
abbrev pub GivesState : {A : Type 0} → Result A StateFault → Result State Placed → State → Type 0
GivesState (Ok done) found new = found ≡ Ok new
GivesState (Err (faults.At code line)) found new = found ≡ Err (code, line)
GivesState (Err faults.NoMemory) found new = Unit {0}

-- the map, or the code of its fault
abbrev pub GivesMap : Result Map StepFault → Result Map FormFault → Type 0
GivesMap (Ok m) found = found ≡ Ok m
GivesMap (Err (Refused code)) (Ok m) = ⊥
GivesMap (Err (Refused code)) (Err e) = code_of e ≡ code
GivesMap (Err NoMemory) found = ⊥

abbrev pub GivesScene : Result SceneValue StateFault → List Request → Type 0
GivesScene (Ok scene) requests = scene_of (map plain requests) ≡ Ok scene
GivesScene (Err (faults.At code line)) requests = scene_of (map plain requests) ≡ Err (code, line)
GivesScene (Err faults.NoMemory) requests = Unit {0}
