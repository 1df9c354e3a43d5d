use Rattle.std.proofs.Common.{◌≡◌, ◌∙◌, ap, sym, refl, subst, arith, ℕ, suc, ◌+◌, ◌<◌, Bool, List, ◌∷◌, length, map, drop, slice_get, slice_index_or, Result, Ok, Err}
use Rattle.std.proofs.Math.Seq.{drop-cons}
use Rattle.rib_reader.specs.declared.req.Req.TheVariants as reqs
use Rattle.rib_reader.specs.declared.request.Request.{Request}
use Rattle.rib_reader.specs.Reading.{plain}
use Rattle.rib_reader.specs.Rules.{whole_at}
use Rattle.rib_reader.specs.Table.{shapes_of}
use Rattle.rib_reader.proofs.Fits.{whole_stands}
use Rattle.scene_parts.specs.declared.code.StateCode.{StateCode}
use Rattle.scene_state.specs.MotionBlocks.{steps_of}
use Rattle.scene_state.specs.Standing.{standing_of, step_of, step_at, steps_from, closes_from}
use Rattle.scene_state.specs.Steps.{Placed, taken, state_from}
use Rattle.scene_state.specs.Answers.{Steps, GivesState, fault_at}
use Rattle.scene_state.specs.declared.state.State.{State}
use Rattle.scene_state.specs.declared.fault.StepFault.{StepFault}
use Rattle.scene_state.specs.declared.fault.StepFault.TheVariants.{Refused, NoMemory}
use Rattle.scene_state.proofs.InBlocks.{done_next, stopped_next, closes_first, closes_next, number_at}
use Rattle.scene_state.proofs.Keeping.{IsGood, first_good, step_good}
use Rattle.scene_state.proofs.UnnamedLights.{IsLit, IsNumber, first_lit, last_are_at, step_lit}
use Rattle.scene_state.proofs.state.State.go_through.Goals as goal

has_number : (x : Request) → x.name ≡ reqs.LightSource → IsNumber (whole_at x.args 1)
has_number x e none = whole_stands x.name x.args x.params 1 x.fits_row (ap (λ n. slice_get (shapes_of n) 1) e) none

-- the requests from one on
cut : (rs : List Request) (k : ℕ) (x : Request) → k < length rs → x ≡ slice_index_or rs k x → map plain (drop k rs) ≡ plain x ∷ map plain (drop (k + 1) rs)
cut rs k x h is =
    ap (map plain) (drop-cons rs k x h)
    ∙ ap (λ y. plain y ∷ map plain (drop (suc k) rs)) (sym is) ∙ ap (λ n. plain x ∷ map plain (drop n rs)) (next k)
  where
    next : (k : ℕ) → suc k ≡ k + 1
    next k = omega arith

-- what a request that isn't done gives
stopped : (line : ℕ) (all : Result State Placed) (t : State) (stop : StepFault) → ((code : StateCode) → stop ≡ Refused code → all ≡ Err (code, line))
    → GivesState {A = Bool} (Err (fault_at line stop)) all t
stopped line all t (Refused code) gives = gives code refl
stopped line all t NoMemory gives = tt

pub loop-request-init : goal.loop-request-init
loop-request-init c = (refl, closes_first (steps_of (map plain c.args.requests.now)), subst IsGood (sym c.requires) first_good, subst IsLit (sym c.requires) first_lit)

pub take-requires-clause-lights : goal.take-requires-clause-lights
take-requires-clause-lights c = last_are_at c.loop-request.self c.loop-request.invariant.3

pub returns-in-Err-clause-state : goal.returns-in-Err-clause-state
returns-in-Err-clause-state c =
    let rs = c.args.requests.now in
    let k = c.loop-request.request-index in
    let x = c.request-item.result in
    let s = c.loop-request.self in
    let t = c.take.new.self in
    let at = standing_of c.loop-request.place in
    let all = state_from c.args.self.now (steps_of (map plain rs)) in
    let fails : (code : StateCode) → c.in-Err.stop ≡ Refused code → taken (step_at at (plain x)) s ≡ Err code =
    λ code e. subst (λ y. taken y s ≡ Err code) c.next-step.ensures.step
    (subst (λ r. Steps r (taken (step_of c.next-step.result.0) s) t) (c.in-Err.is ∙ ap (λ p. Err p) e) c.take.ensures) in
    let here = ap (λ l. state_from s (steps_from at l)) (sym (cut rs k x c.loop-request-test.true c.request-item.is)) ∙ c.loop-request.invariant.0 in
    subst (λ f. GivesState {A = Bool} (Err f) all t) (sym c.at.ensures)
    (stopped x.line all t c.in-Err.stop (λ code e. stopped_next at (plain x) (map plain (drop (k + 1) rs)) s all code (fails code e) here))

pub loop-request-preserved : goal.loop-request-preserved
loop-request-preserved c =
    let rs = c.args.requests.now in
    let k = c.loop-request.request-index in
    let x = c.request-item.result in
    let s = c.loop-request.self in
    let t = c.take.new.self in
    let at = standing_of c.loop-request.place in
    let rest = map plain (drop (k + 1) rs) in
    let step = step_at at (plain x) in
    let all = state_from c.args.self.now (steps_of (map plain rs)) in
    let inv = c.loop-request.invariant in
    let place = c.next-step.ensures.place in
    let here = sym (cut rs k x c.loop-request-test.true c.request-item.is) in
    let to : taken step s ≡ Ok t =
    subst (λ y. taken y s ≡ Ok t) c.next-step.ensures.step (subst (λ r. Steps r (taken (step_of c.next-step.result.0) s) t) c.in_default.is c.take.ensures) in (
      ap (λ b. state_from t (steps_from b rest)) place ∙ done_next at (plain x) rest s t all to (ap (λ l. state_from s (steps_from at l)) here ∙ inv.0),
      ap (λ b. closes_from b (steps_from b rest)) place ∙ closes_next at (plain x) rest s t to ∙ ap (λ l. closes_from at (steps_from at l)) here ∙ inv.1,
      step_good step s t to inv.2,
      step_lit step s t to (number_at at (plain x) (has_number x)) inv.2 inv.3,
    )
