-- A scene has at most 1,000 frames.
use Rattle.std.proofs.Common.{◌≡◌, ℕ, ◌<◌, ◌≤◌, Bool, true, false, List, [], ◌∷◌, length, Result, Ok, Err, cond, subst, arith, length-append}
use Rattle.std.specs.Prelude.{nat_le, ◌&&◌, ◌==◌}
use Rattle.rib_reader.specs.Reading.{Read}
use Rattle.moving_maps.specs.MapPairs.{MapPair}
use Rattle.scene.specs.Scene.{SceneValue}
use Rattle.scene_parts.specs.declared.code.StateCode.TheVariants.{N4}
use Rattle.scene_state.specs.MotionBlocks.{steps_of, are_closed}
use Rattle.scene_state.specs.State.{most_frames, first_state, with_frame, frame_of}
use Rattle.scene_state.specs.Steps.{Placed, state_from, ended, last_line, scene_of}
use Rattle.scene_state.specs.declared.attributes.Attributes.{Attributes}
use Rattle.scene_state.specs.declared.state.World.{World}
use Rattle.scene_state.specs.declared.state.State.{State}
use Rattle.scene_state.proofs.Changes.{BehindAll, IsKept, AnyNumber, kept_from}

abbrev pub Few : State → Type 0
Few s = length s.frames ≤ most_frames

-- a frame more, where there was room
one_more : (w : World) (a : Attributes) (m : MapPair) (s : State) → nat_le most_frames (length s.frames) ≡ false → Few (with_frame w a m s)
one_more w a m s room =
    let n = length-append s.frames (frame_of w s ∷ []) in
    let low : length s.frames < 1000 = grind (arith, room) in
    omega (arith, n, low)

few_kept : (s : State) → Few s → IsKept Few AnyNumber s
few_kept s few = record {
  same = few;
  options = λ c name. few;
  current = λ m. few;
  look = λ l b. few;
  frame_begins = λ e. few;
  frame_ends = λ a m c name e. few;
  world_begins = λ w e. few;
  world_ends = λ w a m opens e room. one_more w a m s room;
  attributes_begin = few;
  attributes_end = λ a m e. few;
  transform_begins = few;
  transform_ends = λ m e. few;
  surface = λ r m. few;
  displacement = λ r m. few;
  atmosphere = λ r m. few;
  light = λ r m number is. few;
  illuminated = λ k number on e. few;
  patches = λ r object p ps opens. few;
}

abbrev accepts : SceneValue → Result SceneValue Placed
accepts v = Ok v

abbrev refuses : ℕ → Result SceneValue Placed
refuses line = Err (N4, line)

few_closed : (b : Bool) (v scene : SceneValue) (line : ℕ) → length v.frames ≤ most_frames → cond b (accepts v) (refuses line) ≡ Ok scene → length scene.frames ≤ most_frames
few_closed true v scene line g is = let same : v ≡ scene = cc is in subst (λ (w : SceneValue). length w.frames ≤ most_frames) same g
few_closed false v scene line g is = absurd (cc is)

few_ended : (closed : Bool) (line : ℕ) (q : Result State Placed) (scene : SceneValue) → BehindAll Few q → ended closed line q ≡ Ok scene → length scene.frames ≤ most_frames
few_ended closed line (Err e) scene g is = absurd (cc is)
few_ended closed line (Ok s) scene g is =
    let v : SceneValue = record { frames = s.frames; uses = s.shaders.uses } in
    few_closed (closed && (length s.blocks == 0)) v scene line g is

pub few_frames : (rs : List Read) (scene : SceneValue) → scene_of rs ≡ Ok scene → length scene.frames ≤ most_frames
few_frames rs scene is =
    let xs = steps_of rs in
    few_ended (are_closed xs) (last_line rs) (state_from first_state xs) scene (kept_from Few few_kept first_state xs (omega arith)) is
